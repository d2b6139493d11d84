-- What the tests of the searches come to for an address of a good block: eligible, and free from p on. Assumes nothing.
use Prim.Native.Nat.{ℕ, ◌+◌, ◌-◌, ◌≤◌, ◌<◌, min, max}
use mathlib.Core.Path.{◌≡◌, refl, sym, ap, ◌∙◌}
use mathlib.Core.Bool.{Bool, true, false, cond}
use mathlib.Core.Logic.{◌⊎◌, inl, inr}
use native.Mathlib.Omega.{arith}
use lib.Dec.{leb, eqb}
use borrow.Author.Tests.{leb-true, le-leb, eqb-true, eqb-false}
use Rattle.address.proofs.Tests.{both, and, le_or_lt, zero_not_one}
use Rattle.regions.specs.declared.Tag.{Tag}
use Rattle.regions.specs.declared.State.TheVariants.{Absent, Present}
use Rattle.regions.specs.Meaning.{at, top}
use Rattle.regions.specs.Free.{free_memory, free_runs}
use Rattle.regions.specs.Runs.{in_one, OneTag}
use Rattle.regions.proofs.Rises.{Canonical}
use Rattle.regions.proofs.RoundTrip.{rises_above}
use Rattle.regions.proofs.Free.{untaken_absent}
use Rattle.regions.proofs.Lying.{in_one_run, one_run_in}
use Rattle.block.specs.Block.{Contents}
use Rattle.fits.specs.declared.Query.{Query}
use Rattle.fits.specs.Eligible.{wanted, asks, eligible, Lies}
use Rattle.fits.proofs.Eligible.{eligible_lies, lies_eligible}
use Rattle.seek.specs.Search.{window_start, window, runs_of, free_from}
use Rattle.search.specs.DemandTwo.{free_in, Eligible, FreeFrom}

-- what is free lies in a memory record, and those end at the top or below
pub free_below : (s : Contents) → Canonical top s.memory → (a : ℕ) (t : Tag) → free_in s a ≡ Present t → a < top
unfolding free_memory
free_below s w a t e = go (le_or_lt top a)
  where
    go : (top ≤ a) ⊎ (a < top) → a < top
    go (inl h) = let d : Present t ≡ Absent = sym (rw (rises_above a w h) at e) ∙ untaken_absent (at s.taken a) in absurd (zero_not_one cc)
    go (inr h) = h

-- ---- find and allocate

module _ (s : Contents) (q : Query) (pos : 0 < q.size.0) (a : ℕ) where
  -- what passes in the window is eligible: the limit binds
  pub passes_eligible : eligible (window s.settings.limit.0 q) (runs_of s) a ≡ true → Eligible s q a
  unfolding free_runs
  passes_eligible e = go (eqb q.end.0 0) refl (eligible_lies (window s.settings.limit.0 q) (runs_of s) a e)
    where
      one : in_one (asks q) q.size.0 a (runs_of s) ≡ true → OneTag (free_in s) (asks q) q.size.0 a
      one r = (one_run_in (free_in s) (asks q) q.size.0 a pos r).1

      go : (t : Bool) → eqb q.end.0 0 ≡ t → Lies (window s.settings.limit.0 q) (runs_of s) a → Eligible s q a
      go true z l =
          let n = (rw z at l).end in
          let m = l.start in
          record { aligned = l.aligned; from_start = omega arith; from_4096 = omega arith; by_limit = omega arith; by_end = inl (eqb-true q.end.0 0 z); one_tag = one l.run }
      go false z l =
          let n = (rw z at l).end in
          let m = l.start in
          record { aligned = l.aligned; from_start = omega arith; from_4096 = omega arith; by_limit = omega arith; by_end = inr (omega arith); one_tag = one l.run }

  -- and it binds no further
  module _ (w : Canonical top s.memory) (o : Eligible s q a) where
    pub eligible_ends : a + q.size.0 ≤ top
    eligible_ends =
        let t = o.one_tag in
        let l = free_below s w (a + q.size.0 - 1) t.tag (t.all (a + q.size.0 - 1) (omega arith) (omega arith)) in
        omega arith

    pub eligible_passes : eligible (window s.settings.limit.0 q) (runs_of s) a ≡ true
    unfolding free_runs
    eligible_passes =
        let r = in_one_run (free_in s) (asks q) q.size.0 a pos eligible_ends o.one_tag in
        lies_eligible (window s.settings.limit.0 q) (runs_of s) a
        (record { aligned = o.aligned; start = omega (arith, o.from_start, o.from_4096); end = go (eqb q.end.0 0) refl o.by_end; run = r })
      where
        go : (t : Bool) → eqb q.end.0 0 ≡ t → (q.end.0 ≡ 0) ⊎ (a + q.size.0 ≤ q.end.0)
            → a + q.size.0 ≤ max (cond t s.settings.limit.0 (min q.end.0 s.settings.limit.0)) (window_start q.start.0)
        go true z e = omega (arith, o.by_limit)
        go false z (inl e) = absurd (eqb-false q.end.0 0 z e)
        go false z (inr e) = omega (arith, o.by_limit)

-- ---- next free

module _ (s : Contents) (p node wish a : ℕ) where
  pub passes_free : free_from p node wish (runs_of s) a ≡ true → FreeFrom s p node wish a
  unfolding free_runs
  passes_free e =
      let t = both (leb p a) (in_one (wanted node wish) 1 a (runs_of s)) e in
      let o = (one_run_in (free_in s) (wanted node wish) 1 a (omega arith) t.1).1 in
      record { from = leb-true p a t.0; tag = o.tag; asked = o.right; present = o.all a (omega arith) (omega arith) }

  module _ (w : Canonical top s.memory) (o : FreeFrom s p node wish a) where
    pub free_ends : a < top
    free_ends = free_below s w a o.tag o.present

    pub free_passes : free_from p node wish (runs_of s) a ≡ true
    unfolding free_runs
    free_passes =
        let t : OneTag (free_in s) (wanted node wish) 1 a = record { tag = o.tag; right = o.asked; all = λ b i j. let e : b ≡ a = omega arith in ap (free_in s) e ∙ o.present } in
        and (le-leb p a o.from) (in_one_run (free_in s) (wanted node wish) 1 a (omega arith) (omega (arith, free_ends)) t)
