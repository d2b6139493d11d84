-- What find gives is eligible and free, and the one that the direction and the image end say. Assumes nothing.
use Prim.Native.Nat.{ℕ, ◌+◌, ◌≤◌, ◌<◌}
use mathlib.Core.Path.{◌≡◌, refl}
use mathlib.Core.Bool.{Bool, true, false, cond, ◌&&◌}
use mathlib.Core.Option.{Option, none, some}
use mathlib.Core.Logic.{◌⊎◌, inl, inr}
use native.Mathlib.Omega.{arith}
use lib.Dec.{leb, eqb}
use borrow.Author.Tests.{leb-true, le-leb, eqb-true, eqb-false}
use Rattle.address.proofs.Tests.{both, and, no, clash, zero_not_one}
use Rattle.regions.specs.declared.Tag.{Tag}
use Rattle.regions.specs.declared.State.{State}
use Rattle.regions.specs.declared.State.TheVariants.{Absent, Present}
use Rattle.regions.specs.Meaning.{at, top}
use Rattle.regions.specs.Free.{usable, untaken, free_memory, free_runs}
use Rattle.regions.proofs.Lying.{one_run_in}
use Rattle.block.specs.declared.Settings.{Settings}
use Rattle.block.specs.Block.{Contents}
use Rattle.change.specs.Steps.{Vacant}
use Rattle.fits.specs.declared.Query.{Query}
use Rattle.fits.specs.Eligible.{or_else, lowest, highest, asks, eligible, Gives}
use Rattle.seek.specs.Search.{window, runs_of, bottom_up, found}
use Rattle.fits.proofs.Extremes.{lowest_gives, highest_gives}
use Rattle.fits.proofs.Eligible.{eligible_lies}

-- what is eligible ends at the top or below, so a search below the top looks at all that is
pub eligible_below : (q : Query) (s : Contents) (a : ℕ) → 0 < q.size.0 → eligible q (runs_of s) a ≡ true → a + q.size.0 ≤ top
unfolding free_runs
eligible_below q s a h e =
    (one_run_in (free_memory (at s.memory) (at s.taken)) (asks q) q.size.0 a h (eligible_lies q (runs_of s) a e).run).0

-- none of the addresses from an eligible one on is taken
pub eligible_vacant : (q : Query) (s : Contents) (a : ℕ) → 0 < q.size.0 → eligible q (runs_of s) a ≡ true → Vacant a (a + q.size.0) s.taken
unfolding free_runs free_memory
eligible_vacant q s a h e b i j =
    go (at s.taken b) ((one_run_in (free_memory (at s.memory) (at s.taken)) (asks q) q.size.0 a h (eligible_lies q (runs_of s) a e).run).1.all b i j)
  where
    go : {t : Tag} (v : State) → untaken (usable (at s.memory b)) v ≡ Present t → v ≡ Absent
    go Absent f = refl
    go (Present u) f = absurd (zero_not_one cc)

-- ruling out less
fewer : (p : ℕ → Bool) (beyond nearer : ℕ → ℕ → Type 0) → ((y x : ℕ) → nearer y x → beyond y x) → (n : ℕ) (o : Option ℕ) → Gives p beyond n o → Gives p nearer n o
fewer p beyond nearer f n none g = g
fewer p beyond nearer f n (some a) g = (g.0, (g.1.0, λ b l m. g.1.1 b l (f b a m)))

-- y is given rather than x in a bottom-up block: y is at or above the image end, and x below it or above y; or y is below the image end, and x below y
abbrev Sooner : ℕ → ℕ → ℕ → Type 0
Sooner image y x = ((image ≤ y) × ((x < image) ⊎ (y < x))) ⊎ ((y < image) × (x < y))

-- and by the direction
abbrev pub Beyond : Settings → ℕ → ℕ → Type 0
Beyond s y x = ((s.direction ≡ 1) × Sooner s.image.0 y x) ⊎ ((s.direction ≡ 0) × (x < y))

-- what a bottom-up search gives passes, and nothing that passes is given rather
bottom_up_gives : (image : ℕ) (p : ℕ → Bool) → Gives p (Sooner image) top (bottom_up image p)
bottom_up_gives image p = go (lowest above top) (lowest_gives above top) (highest p top) (highest_gives p top)
  where
    above : ℕ → Bool
    above a = leb image a && p a

    -- from the image end on, what is not `above` does not pass
    low : (y : ℕ) → above y ≡ false → image ≤ y → p y ≡ false
    low y e l = no (p y) (λ t. clash (above y) (and (le-leb image y l) t) e)

    go : (o : Option ℕ) → Gives above (λ y x. y < x) top o → (u : Option ℕ) → Gives p (λ y x. x < y) top u → Gives p (Sooner image) top (or_else o u)
    go none g none h = h
    go none g (some x) h = (h.0, (h.1.0, ruled))
      where
        ruled : (y : ℕ) → y < top → Sooner image y x → p y ≡ false
        ruled y l (inl e) = low y (g y l) e.0
        ruled y l (inr e) = h.1.1 y l e.1
    go (some x) g u h = (t.1, (g.1.0, ruled))
      where
        t : (leb image x ≡ true) × (p x ≡ true)
        t = both (leb image x) (p x) g.0

        ruled : (y : ℕ) → y < top → Sooner image y x → p y ≡ false
        ruled y l (inl (i, inl j)) = absurd (omega (arith, leb-true image x t.0))
        ruled y l (inl (i, inr j)) = low y (g.1.1 y l j) i
        ruled y l (inr e) = absurd (omega (arith, leb-true image x t.0, e.0, e.1))

-- no address that passes lies beyond the one that find gives, and it gives none exactly when there is none
pub found_gives : (s : Contents) (q : Query) → Gives (eligible (window s.settings.limit.0 q) (runs_of s)) (Beyond s.settings) top (found s q)
unfolding found
found_gives s q = go (eqb s.settings.direction 1) refl
  where
    test : ℕ → Bool
    test = eligible (window s.settings.limit.0 q) (runs_of s)

    image : ℕ
    image = s.settings.image.0

    up : s.settings.direction ≡ 1 → (y x : ℕ) → Beyond s.settings y x → Sooner image y x
    up d y x (inl e) = e.1
    up d y x (inr e) = absurd (omega (arith, e.0))

    above : (s.settings.direction ≡ 1 → ⊥) → (y x : ℕ) → Beyond s.settings y x → x < y
    above d y x (inl e) = absurd (d e.0)
    above d y x (inr e) = e.1

    go : (t : Bool) → eqb s.settings.direction 1 ≡ t → Gives test (Beyond s.settings) top (cond t (bottom_up image test) (highest test top))
    go true e = fewer test (Sooner image) (Beyond s.settings) (up (eqb-true s.settings.direction 1 e)) top (bottom_up image test) (bottom_up_gives image test)
    go false e = fewer test (λ y x. x < y) (Beyond s.settings) (above (eqb-false s.settings.direction 1 e)) top (highest test top) (highest_gives test top)

-- what it gives passes
pub found_eligible : (s : Contents) (q : Query) (a : ℕ) → found s q ≡ some a → eligible (window s.settings.limit.0 q) (runs_of s) a ≡ true
found_eligible s q a e =
    let g = found_gives s q in
    let h : Gives (eligible (window s.settings.limit.0 q) (runs_of s)) (Beyond s.settings) top (some a) = rw e at g in
    h.0
