-- The pages of a run and beside it: those of the run have their orders by it alone, and none is whole that has an address that is not free. Assumes nothing.
use Prim.Native.Nat.{ℕ, ◌+◌, ◌-◌, ◌*◌, ◌/◌, ◌^◌, ◌≤◌, ◌<◌}
use mathlib.Core.Path.{◌≡◌, sym, ◌∙◌}
use mathlib.Core.Bool.{true, ◌&&◌}
use mathlib.Core.List.{List}
use mathlib.Core.Option.{none}
use mathlib.Core.Logic.{◌⊎◌, inl, inr}
use native.Mathlib.Omega.{arith}
use lib.Dec.{leb}
use lib.Pow.{pow_pos}
use borrow.Author.Tests.{le-leb, leb-true}
use Rattle.address.specs.Numbers.{down}
use Rattle.address.proofs.Tests.{both, and, no, iff, le_or_lt, zero_not_one}
use Rattle.address.proofs.Rounding.{down_le, down_near}
use Rattle.regions.specs.declared.Region.{Region}
use Rattle.regions.specs.declared.State.TheVariants.{Absent, Present}
use Rattle.regions.specs.Meaning.{at, top}
use Rattle.regions.specs.Runs.{in_one, OneTag}
use Rattle.regions.proofs.Rises.{Canonical}
use Rattle.regions.proofs.RoundTrip.{rises_above}
use Rattle.regions.proofs.Lying.{one_in, in_one_lem}
use Rattle.fits.specs.Eligible.{wanted}
use Rattle.pages.specs.Pages.{whole, order_at}
use Rattle.sweep.specs.Steps.{FirstRun}
use Rattle.pages.specs.Steps.{within}
use Rattle.pages.proofs.Orders.{tested, no_order, order_same}
use Rattle.pages.proofs.Runs.{all_wanted}
use Rattle.pages.proofs.Cover.{whole_smaller}

module _ (runs : List Region) (w : Canonical top runs) where
  -- the addresses of a whole page are of one tag
  page_tag : (q : ℕ) → whole runs 0 q ≡ true → OneTag (at runs) (wanted 4294967295 1) 4096 (4096 * q)
  unfolding whole
  page_tag q e = (one_in (wanted 4294967295 1) 4096 (4096 * q) w e).same

  not_whole : (q : ℕ) → (whole runs 0 q ≡ true → ⊥) → order_at (whole runs) q ≡ none
  not_whole q h = no_order (whole runs) q (λ o l. no (tested (whole runs) q o) (λ e. h (whole_smaller runs w o q e)))

  -- a page that begins where nothing is free
  pub bare_page : (q : ℕ) → at runs (4096 * q) ≡ Absent → order_at (whole runs) q ≡ none
  bare_page q n =
      not_whole q (λ e. let s = page_tag q e in let d = sym (s.all (4096 * q) (omega arith) (omega arith)) ∙ n in zero_not_one cc)

  module _ {c lo hi : ℕ} (n : FirstRun runs c lo hi) where
    pub run_below : hi ≤ top
    run_below = go (le_or_lt hi top)
      where
        go : (hi ≤ top) ⊎ (top < hi) → hi ≤ top
        go (inl l) = l
        go (inr l) = let d = sym (n.run.all (hi - 1) (omega (arith, n.some)) (omega arith)) ∙ rises_above (hi - 1) w (omega arith) in absurd (zero_not_one cc)

    -- a page that the run ends in
    pub last_page : (q : ℕ) → lo ≤ 4096 * q → 4096 * q < hi → hi < 4096 * q + 4096 → order_at (whole runs) q ≡ none
    last_page q i j k =
        not_whole q
        (λ e. let s = page_tag q e in
        n.run.stops (s.all hi (omega arith) k ∙ sym (s.all (4096 * q) (omega arith) (omega arith)) ∙ n.run.all (4096 * q) i j))

    -- in the run its own pages count
    module _ (f l q : ℕ) (first : f ≡ (lo + 4095) / 4096) (last : l ≡ hi / 4096) (from : f ≤ q) (past : q < l) where
      inside_run : (o : ℕ) → tested (whole runs) q o ≡ tested (within f l) q o
      unfolding whole
      inside_run o = iff (whole runs o s) (leb f s && leb (s + 2 ^ o) l) to fro
        where
          s : ℕ
          s = down q (2 ^ o)

          i : s ≤ q
          i = down_le q (2 ^ o) (pow_pos o)

          j : q < s + 2 ^ o
          j = down_near q (2 ^ o) (pow_pos o)

          there : at runs (4096 * q) ≡ Present n.tag
          there = n.run.all (4096 * q) (omega (arith, i, j)) (omega (arith, i, j))

          low : OneTag (at runs) (wanted 4294967295 1) (4096 * 2 ^ o) (4096 * s) → (lo ≤ 4096 * s) ⊎ (4096 * s < lo) → lo ≤ 4096 * s
          low t (inl x) = x
          low t (inr x) =
              let u = t.all (lo - 1) (omega (arith, i, j)) (omega (arith, i, j)) in
              let v = t.all (4096 * q) (omega (arith, i, j)) (omega (arith, i, j)) in
              absurd (n.run.begins (lo - 1) (omega (arith, i, j)) (u ∙ sym v ∙ there))

          high : OneTag (at runs) (wanted 4294967295 1) (4096 * 2 ^ o) (4096 * s) → (4096 * s + 4096 * 2 ^ o ≤ hi) ⊎ (hi < 4096 * s + 4096 * 2 ^ o)
              → 4096 * s + 4096 * 2 ^ o ≤ hi
          high t (inl x) = x
          high t (inr x) =
              let u = t.all hi (omega (arith, i, j)) (omega (arith, i, j)) in
              let v = t.all (4096 * q) (omega (arith, i, j)) (omega (arith, i, j)) in
              absurd (n.run.stops (u ∙ sym v ∙ there))

          to : in_one (wanted 4294967295 1) (4096 * 2 ^ o) (4096 * s) runs ≡ true → leb f s && leb (s + 2 ^ o) l ≡ true
          to e =
              let t = (one_in (wanted 4294967295 1) (4096 * 2 ^ o) (4096 * s) w e).same in
              let x = low t (le_or_lt lo (4096 * s)) in
              let y = high t (le_or_lt (4096 * s + 4096 * 2 ^ o) hi) in
              and (le-leb f s (omega (arith, i, j))) (le-leb (s + 2 ^ o) l (omega (arith, i, j)))

          fro : leb f s && leb (s + 2 ^ o) l ≡ true → in_one (wanted 4294967295 1) (4096 * 2 ^ o) (4096 * s) runs ≡ true
          fro e =
              let p = both (leb f s) (leb (s + 2 ^ o) l) e in
              let x = leb-true f s p.0 in
              let y = leb-true (s + 2 ^ o) l p.1 in
              in_one_lem (wanted 4294967295 1) (4096 * 2 ^ o) (4096 * s) n.tag w (omega (arith, pow_pos o)) (all_wanted n.tag)
              (λ b u v. n.run.all b (omega (arith, i, j)) (omega (arith, i, j)))

      pub in_run : order_at (whole runs) q ≡ order_at (within f l) q
      in_run = order_same (whole runs) (within f l) q (λ o h. inside_run o)
