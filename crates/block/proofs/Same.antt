-- Equal bytes, compared one at a time and as many as make a number. Assumes nothing.
use Prim.Native.Nat.{ℕ, zero, suc, ◌+◌, ◌*◌, ◌≤◌, ◌<◌}
use mathlib.Core.Path.{◌≡◌, refl, sym, ap₂, ◌∙◌}
use mathlib.Core.Bool.{Bool, true, false, ◌&&◌}
use mathlib.Core.List.{List, [], ◌∷◌, append-nil}
use native.Mathlib.Omega.{arith}
use native.Mathlib.Nat.{le_of_suc-le-suc, not-suc-le-zero}
use lib.Dec.{eqb}
use lib.ListN.{length, drop, length-drop, drop_of_length-le}
use lib.Seq.{sets, sets-eq, drop-drop}
use borrow.Author.Tests.{eq-eqb, ne_eqb, eqb-true, eqb-false}
use Rattle.address.proofs.Tests.{both, and}
use Rattle.regions.specs.Bytes.{number}
use Rattle.regions.proofs.Numbers.{Bytes, one, bytes_drop}
use Rattle.block.specs.Block.{same_bytes}

pub same_self : (x : List ℕ) → same_bytes x x ≡ true
unfolding same_bytes
same_self [] = refl
same_self (b ∷ x) = and (eq-eqb b b refl) (same_self x)

pub same_true : (x y : List ℕ) → same_bytes x y ≡ true → x ≡ y
unfolding same_bytes
same_true [] [] e = refl
same_true [] (b ∷ y) e = let z : false ≡ true = e in cc
same_true (a ∷ x) [] e = let z : false ≡ true = e in cc
same_true (a ∷ x) (b ∷ y) e =
    let p = both (eqb a b) (same_bytes x y) e in
    ap₂ (λ (c : ℕ) (l : List ℕ). c ∷ l) (eqb-true a b p.0) (same_true x y p.1)

-- two numbers of a byte and the rest are equal exactly when both parts are
digits : (a b m n : ℕ) → a < 256 → b < 256 → eqb (a + 256 * m) (b + 256 * n) ≡ (eqb a b && eqb m n)
digits a b m n h k = go (eqb a b) refl
  where
    go : (t : Bool) → eqb a b ≡ t → eqb (a + 256 * m) (b + 256 * n) ≡ (t && eqb m n)
    go true e = rest (eqb m n) refl
      where
        rest : (u : Bool) → eqb m n ≡ u → eqb (a + 256 * m) (b + 256 * n) ≡ u
        rest true f = eq-eqb (a + 256 * m) (b + 256 * n) (omega (arith, eqb-true a b e, eqb-true m n f))
        rest false f = ne_eqb (a + 256 * m) (b + 256 * n) (λ z. eqb-false m n f (omega (arith, eqb-true a b e)))
    go false e = ne_eqb (a + 256 * m) (b + 256 * n) (λ z. eqb-false a b e (omega arith))

same_number : (k : ℕ) (x y : List ℕ) → Bytes x → Bytes y → k ≤ length x → k ≤ length y
    → same_bytes x y ≡ (eqb (number k x) (number k y) && same_bytes (drop k x) (drop k y))
unfolding same_bytes number
same_number zero x y p q h i = refl
same_number (suc k) [] y p q h i = absurd (not-suc-le-zero h)
same_number (suc k) (a ∷ x) [] p q h i = absurd (not-suc-le-zero i)
same_number (suc k) (a ∷ x) (b ∷ y) (one c p) (one d q) h i =
    rw (digits a b (number k x) (number k y) c d, same_number k x y p q (le_of_suc-le-suc h) (le_of_suc-le-suc i))
    (three (eqb a b) (eqb (number k x) (number k y)) (same_bytes (drop k x) (drop k y)))
  where
    three : (x y z : Bool) → x && (y && z) ≡ (x && y) && z
    three true y z = refl
    three false y z = refl

-- ---- eight at a time, i eights passed of ten

module _ (x y : List ℕ) (p : Bytes x) (q : Bytes y) (l : length x ≡ 80) (m : length y ≡ 80) (i : ℕ)
    (inv : same_bytes x y ≡ same_bytes (drop (8 * i) x) (drop (8 * i) y)) where
  step : i < 10 → same_bytes x y ≡ (eqb (number 8 (drop (8 * i) x)) (number 8 (drop (8 * i) y)) && same_bytes (drop (8 * (i + 1)) x) (drop (8 * (i + 1)) y))
  step h =
      let a : 8 ≤ length (drop (8 * i) x) = simp length-drop (omega arith) in
      let b : 8 ≤ length (drop (8 * i) y) = simp length-drop (omega arith) in
      let e : 8 * i + 8 ≡ 8 * (i + 1) = omega arith in
      inv ∙ same_number 8 (drop (8 * i) x) (drop (8 * i) y) (bytes_drop (8 * i) x p) (bytes_drop (8 * i) y q) a b ∙ rw (drop-drop, drop-drop, e)

  pub same_hit : (u v : ℕ) → i < 10 → u ≡ number 8 (drop (8 * i) x) → v ≡ number 8 (drop (8 * i) y) → (u ≡ v → ⊥) → false ≡ same_bytes x y
  same_hit u v h e f n = rw (step h, ← e, ← f, ne_eqb u v n)

  pub same_again : (u v : ℕ) → i < 10 → u ≡ number 8 (drop (8 * i) x) → v ≡ number 8 (drop (8 * i) y) → u ≡ v
      → same_bytes x y ≡ same_bytes (drop (8 * (i + 1)) x) (drop (8 * (i + 1)) y)
  same_again u v h e f n = rw (step h, ← e, ← f, eq-eqb u v n)

  pub same_end : 10 ≤ i → true ≡ same_bytes x y
  unfolding same_bytes
  same_end h =
      let a : length x ≤ 8 * i = omega arith in
      let b : length y ≤ 8 * i = omega arith in
      sym (inv ∙ rw (drop_of_length-le x a, drop_of_length-le y b))

-- a list written over a whole one
pub sets_whole : (l x : List ℕ) → length l ≡ length x → sets l 0 x ≡ x
sets_whole l x e =
    let h : 0 + length x ≤ length l = omega arith in
    let d : length l ≤ 0 + length x = omega arith in
    sets-eq x l 0 h ∙ rw (drop_of_length-le l d) (append-nil x)
