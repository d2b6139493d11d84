-- A bottom-up search by the two walks: up from the image end and, where that finds nothing, down from the window's end. Assumes nothing.
use Prim.Native.Nat.{ℕ, ◌≤◌, ◌<◌, max}
use mathlib.Core.Path.{◌≡◌, refl, sym, ap, ◌∙◌}
use mathlib.Core.Bool.{Bool, true, false, ◌&&◌}
use mathlib.Core.List.{List}
use mathlib.Core.Option.{Option, none, some}
use native.Mathlib.Omega.{arith}
use lib.Dec.{leb}
use borrow.Author.Tests.{leb-true, le-leb}
use Rattle.address.specs.declared.Address.{Address}
use Rattle.address.proofs.Tests.{both, and, clash, iff, zero_not_one}
use Rattle.regions.specs.declared.Region.{Region}
use Rattle.regions.specs.Meaning.{top}
use Rattle.regions.specs.Runs.{run_at}
use Rattle.block.specs.Block.{Contents}
use Rattle.fits.specs.declared.Query.{Query}
use Rattle.fits.specs.declared.Way.TheVariants.{Up, Down}
use Rattle.std.specs.Prelude.{is_some}
use Rattle.std.specs.Prelude.{Option as Answer}
use Rattle.fits.specs.declared.Spot.{Spot}
use Rattle.fits.specs.Eligible.{or_else, lowest, highest, eligible, Gives}
use Rattle.fits.specs.Places.{hit_of, place_of}
use Rattle.runs.specs.Steps.{first_in}
use Rattle.fits.proofs.Eligible.{eligible_lies, lies_eligible}
use Rattle.fits.proofs.Extremes.{lowest_gives, highest_gives}
use Rattle.fits.proofs.Stretches.{lowest_agree}
use Rattle.seek.specs.Search.{runs_of}
use Rattle.seek.specs.Steps.{with_window, first_of, bottom_up_of}

-- eligible at or above the image end
abbrev pub above : Query → List Region → ℕ → ℕ → Bool
above w runs image a = leb image a && eligible w runs a

module _ (w : Query) (runs : List Region) (image : ℕ) where
  -- is eligible in the window that begins no lower
  raised_eligible : (v : Address) → v.0 ≡ max w.start.0 image → (a : ℕ) → eligible (with_window w v w.end) runs a ≡ above w runs image a
  raised_eligible v is a =
      iff (eligible (with_window w v w.end) runs a) (above w runs image a)
      (λ e. let d = eligible_lies (with_window w v w.end) runs a e in
      and (le-leb image a (omega (arith, d.start))) (lies_eligible w runs a (record { aligned = d.aligned; start = omega (arith, d.start); end = d.end; run = d.run })))
      (λ e. let p = both (leb image a) (eligible w runs a) e in
      let d = eligible_lies w runs a p.1 in
      lies_eligible (with_window w v w.end) runs a (record { aligned = d.aligned; start = omega (arith, leb-true image a p.0, d.start); end = d.end; run = d.run }))

  pub lowest_raised : (v : Address) → v.0 ≡ max w.start.0 image → lowest (eligible (with_window w v w.end) runs) top ≡ lowest (above w runs image) top
  lowest_raised v is = lowest_agree (eligible (with_window w v w.end) runs) (above w runs image) top (λ a l. raised_eligible v is a)

  -- where the window begins at or above the image end, nothing above it is nothing at all
  none_at_all : image ≤ w.start.0 → lowest (above w runs image) top ≡ none → highest (eligible w runs) top ≡ none
  none_at_all h e = go (lowest (above w runs image) top) (lowest_gives (above w runs image) top) e (highest (eligible w runs) top) (highest_gives (eligible w runs) top)
    where
      go : (o : Option ℕ) → Gives (above w runs image) (λ y x. y < x) top o → o ≡ none → (u : Option ℕ) → Gives (eligible w runs) (λ y x. x < y) top u → u ≡ none
      go (some a) g f u k = absurd (zero_not_one cc)
      go none g f none k = refl
      go none g f (some a) k =
          let l = eligible_lies w runs a k.0 in
          absurd (clash (above w runs image a) (and (le-leb image a (omega (arith, l.start))) k.0) (g a k.1.0))

module _ (s : Contents) (w : Query) (image v : Address) (r : v.0 ≡ max w.start.0 image.0) (u : Query) (is : u ≡ with_window w v w.end) (f : Answer Spot) (e : f ≡ first_of Up s u) where
  abbrev placed : Option ℕ → Answer Spot
  placed o = place_of (hit_of (run_at (runs_of s)) o)

  found_above : f ≡ placed (lowest (above w (runs_of s) image.0) top)
  unfolding first_in
  found_above = e ∙ rw is (ap placed (lowest_raised w (runs_of s) image.0 v r))

  -- the way up found an address
  pub up_found : (b : Bool) → b ≡ is_some f → b ≡ true → f ≡ bottom_up_of s w image.0
  up_found b d i = found_above ∙ go (lowest (above w (runs_of s) image.0) top) (sym (d ∙ ap is_some found_above) ∙ i)
    where
      go : (o : Option ℕ) → is_some (placed o) ≡ true → placed o ≡ placed (or_else o (highest (eligible w (runs_of s)) top))
      go none j = absurd (zero_not_one cc)
      go (some x) j = refl

  module _ (b : Bool) (d : b ≡ is_some f) (i : b ≡ false) where
    nothing_above : lowest (above w (runs_of s) image.0) top ≡ none
    nothing_above = go (lowest (above w (runs_of s) image.0) top) (sym (d ∙ ap is_some found_above) ∙ i)
      where
        go : (o : Option ℕ) → is_some (placed o) ≡ false → o ≡ none
        go none j = refl
        go (some x) j = absurd (zero_not_one cc)

    -- it found nothing, and has seen the whole window
    pub up_nowhere : image.0 ≤ w.start.0 → f ≡ bottom_up_of s w image.0
    up_nowhere h = found_above ∙ rw (nothing_above, none_at_all w (runs_of s) image.0 h nothing_above)

    -- it found nothing, and the way down gives the highest
    pub up_then_down : (g : Answer Spot) → g ≡ first_of Down s w → g ≡ bottom_up_of s w image.0
    unfolding first_in
    up_then_down g j = rw nothing_above j
