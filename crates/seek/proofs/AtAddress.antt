-- Whether one address of a good block is eligible, by the walk over its own range. Assumes nothing.
use Prim.Native.Nat.{ℕ, ◌+◌, ◌≤◌, ◌<◌}
use mathlib.Core.Path.{◌≡◌, sym, ap, ◌∙◌}
use mathlib.Core.Bool.{Bool, true, false}
use mathlib.Core.List.{List}
use mathlib.Core.Option.{Option, none, some}
use native.Mathlib.Omega.{arith}
use Rattle.address.specs.declared.Address.{Address}
use Rattle.address.specs.Numbers.{address}
use Rattle.address.proofs.Checked.{address_at, address_outside}
use Rattle.address.proofs.Tests.{no, clash}
use Rattle.regions.specs.Meaning.{top, top_is}
use Rattle.regions.specs.Runs.{run_at}
use Rattle.block.specs.declared.Header.{Header}
use Rattle.block.specs.Block.{current, Contents, read_header, contents}
use Rattle.fits.specs.declared.Query.{Query}
use Rattle.fits.specs.declared.Way.TheVariants.{Up}
use Rattle.std.specs.Prelude.{Some, None, is_some}
use Rattle.std.specs.Prelude.{Option as Answer}
use Rattle.fits.specs.declared.Spot.{Spot}
use Rattle.fits.specs.Eligible.{lowest, eligible, Gives, Lies}
use Rattle.fits.specs.Places.{hit_of, place_of}
use Rattle.fits.proofs.Eligible.{eligible_lies, lies_eligible}
use Rattle.fits.proofs.Extremes.{lowest_gives}
use Rattle.runs.specs.Steps.{first_in}
use Rattle.seek.specs.Search.{window, runs_of}
use Rattle.seek.specs.Steps.{Ready, with_window, first_of}
use Rattle.seek.proofs.Found.{eligible_below}
use Rattle.seek.proofs.InBlock.{limit_is}

module _ (b : List ℕ) (w : Query) (p : Ready b w) (a : Address) where
  abbrev s : Contents
  s = contents current b

  abbrev test : Bool
  test = eligible w (runs_of s) a.0

  fails : (test ≡ true → ⊥) → false ≡ test
  fails f = sym (no test f)

  ends : test ≡ true → a.0 + w.size.0 ≤ top
  ends t = eligible_below w s a.0 p.size t

  pub at_before : a.0 < w.start.0 → false ≡ test
  at_before l = fails (λ t. omega (arith, (eligible_lies w (runs_of s) a.0 t).start))

  module _ (x : Answer Address) (y : x ≡ address (a.0 + w.size.0)) where
    pub at_outside : x ≡ None → false ≡ test
    at_outside o = fails (λ t. omega (arith, ends t, address_outside (a.0 + w.size.0) x y o, top_is))

    module _ (end : Address) (o : x ≡ Some end) where
      end_is : end.0 ≡ a.0 + w.size.0
      end_is = (address_at (a.0 + w.size.0) x end y o).0

      pub at_past : w.end.0 < end.0 → false ≡ test
      at_past l = fails (λ t. omega (arith, (eligible_lies w (runs_of s) a.0 t).end, end_is))

      module _ (low : w.start.0 ≤ a.0) (high : end.0 ≤ w.end.0) (u : Query) (k : u ≡ with_window w a end) (f : Answer Spot) (g : f ≡ first_of Up s u) where
        abbrev own : ℕ → Bool
        own = eligible (with_window w a end) (runs_of s)

        found : f ≡ place_of (hit_of (run_at (runs_of s)) (lowest own top))
        unfolding first_in
        found = rw k at g

        -- in its own range only the address itself is eligible
        narrowed : (c : ℕ) → own c ≡ true → test ≡ true
        narrowed c t =
            let d = eligible_lies (with_window w a end) (runs_of s) c t in
            let z : c ≡ a.0 = omega (arith, d.start, d.end, end_is) in
            let v : Lies (with_window w a end) (runs_of s) a.0 = rw z at d in
            lies_eligible w (runs_of s) a.0 (record { aligned = v.aligned; start = low; end = omega (arith, end_is); run = v.run })

        -- so it is found exactly when it is eligible
        pub at_found : is_some f ≡ test
        at_found = ap is_some found ∙ go (lowest own top) (lowest_gives own top)
          where
            go : (m : Option ℕ) → Gives own (λ y x. y < x) top m → is_some (place_of (hit_of (run_at (runs_of s)) m)) ≡ test
            go (some n) t = sym (narrowed n t.0)
            go none t =
                fails (λ z.
                let d = eligible_lies w (runs_of s) a.0 z in
                let v = lies_eligible (with_window w a end) (runs_of s) a.0 (record { aligned = d.aligned; start = omega arith; end = omega (arith, end_is); run = d.run }) in
                let l : a.0 < top = omega (arith, ends z, p.size) in
                clash (own a.0) v (t a.0 l))

-- find's window is the block's
pub in_window : (b : List ℕ) (q : Query) (h : Header) → h ≡ read_header b → (w : Query) → w ≡ window h.settings.limit.0 q → (a : ℕ) (t : Bool)
    → t ≡ eligible w (runs_of (contents current b)) a → t ≡ eligible (window (contents current b).settings.limit.0 q) (runs_of (contents current b)) a
in_window b q h r w e a t f = f ∙ ap (λ (x : Query). eligible x (runs_of (contents current b)) a) (limit_is b q h r w e)
