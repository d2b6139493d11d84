-- No sorted list that says the same has fewer records than the shortest list. Assumes nothing.
use Prim.Native.Nat.{ℕ, suc, ◌+◌, ◌-◌, ◌≤◌, ◌<◌}
use mathlib.Core.Path.{◌≡◌, refl, ap, ◌∙◌}
use mathlib.Core.Bool.{true}
use mathlib.Core.List.{List, [], ◌∷◌}
use mathlib.Core.Logic.{◌⊎◌, inl, inr}
use native.Mathlib.Omega.{arith}
use lib.Dec.{leb}
use lib.ListN.{length}
use borrow.Author.Tests.{leb-true}
use Rattle.address.proofs.Tests.{both, le_or_lt}
use Rattle.regions.specs.declared.Region.{Region}
use Rattle.regions.specs.declared.State.TheVariants.{Absent, Present}
use Rattle.regions.specs.Meaning.{Meaning, end, at, shortest}
use Rattle.regions.specs.Lists.{sorted}
use Rattle.regions.proofs.Push.{push_to}
use Rattle.regions.proofs.Count.{push_by_one}
use Rattle.regions.proofs.RoundTrip.{at_here, at_before, at_past, push_absent}

sorted_below : (ys : List Region) (c a : ℕ) → sorted c ys ≡ true → a < c → at ys a ≡ Absent
unfolding sorted at
sorted_below [] c a s h = refl
sorted_below (r ∷ rs) c a s h =
    let p = both (leb c r.base.0) (sorted (end r) rs) s in
    let l = leb-true c r.base.0 p.0 in
    at_before r rs a (omega arith) ∙ sorted_below rs (end r) a p.1 (omega arith)

-- where nothing is present from c to e, the list stays
quiet : (g : Meaning) (c e : ℕ) → c ≤ e → ((a : ℕ) → c ≤ a → a < e → g a ≡ Absent) → shortest g e ≡ shortest g c
quiet g c e l h = push_to g c e Absent l h ∙ push_absent (shortest g c) c (e - c)

module _ (g : Meaning) (n : ℕ) where
  fewest_from : (ys : List Region) (c k : ℕ) → sorted c ys ≡ true → c ≤ n → ((a : ℕ) → c ≤ a → a < n → g a ≡ at ys a) → length (shortest g c) ≤ k
      → length (shortest g n) ≤ k + length ys
  unfolding sorted at
  fewest_from [] c k s l h b = omega (arith, ap (length {A = Region}) (quiet g c n l h))
  fewest_from (r ∷ rs) c k s l h b =
      let p = both (leb c r.base.0) (sorted (end r) rs) s in
      go (leb-true c r.base.0 p.0) p.1 (le_or_lt n r.base.0) (le_or_lt n (end r)) (fewest_from rs (end r) (suc k) p.1)
    where
      gap : sorted (end r) rs ≡ true → (a : ℕ) → c ≤ a → a < n → a < r.base.0 → g a ≡ Absent
      gap q a i j m = h a i j ∙ at_before r rs a m ∙ sorted_below rs (end r) a q (omega arith)

      step : (e : ℕ) → c ≤ r.base.0 → sorted (end r) rs ≡ true → r.base.0 ≤ e → e ≤ end r → e ≤ n → length (shortest g e) ≤ suc k
      step e i q x y z =
          let u = quiet g c r.base.0 i (λ a d f. gap q a d (omega arith) f) in
          let w = push_to g r.base.0 e (Present r.tag) x (λ a d f. h a (omega arith) (omega arith) ∙ at_here r rs a d (omega arith)) in
          omega (arith, ap (length {A = Region}) u, ap (length {A = Region}) w, push_by_one (shortest g r.base.0) r.base.0 (e - r.base.0) (Present r.tag))

      go : c ≤ r.base.0 → sorted (end r) rs ≡ true → (n ≤ r.base.0) ⊎ (r.base.0 < n) → (n ≤ end r) ⊎ (end r < n)
          → (end r ≤ n → ((a : ℕ) → end r ≤ a → a < n → g a ≡ at rs a) → length (shortest g (end r)) ≤ suc k → length (shortest g n) ≤ suc k + length rs)
          → length (shortest g n) ≤ k + suc (length rs)
      go i q (inl x) y ih = omega (arith, ap (length {A = Region}) (quiet g c n l (λ a d f. gap q a d f (omega arith))))
      go i q (inr x) (inl y) ih = omega (arith, step n i q (omega arith) y (omega arith))
      go i q (inr x) (inr y) ih =
          let z = ih (omega arith) (λ a d f. h a (omega arith) f ∙ at_past r rs a d) (step (end r) i q (omega arith) (omega arith) (omega arith)) in
          omega arith

  pub fewest : (ys : List Region) → sorted 0 ys ≡ true → ((a : ℕ) → a < n → g a ≡ at ys a) → length (shortest g n) ≤ length ys
  unfolding shortest
  fewest ys s h = omega (arith, fewest_from ys 0 0 s (omega arith) (λ a i j. h a j) (omega arith))
