-- Rounding gives the nearest multiple: the least at or above, the greatest at or below. Assumes nothing.
use Prim.Native.Nat.{ℕ, ◌+◌, ◌-◌, ◌*◌, ◌/◌, ◌%◌, ◌≤◌, ◌<◌}
use mathlib.Core.Path.{◌≡◌, refl, sym, ap, ◌∙◌}
use mathlib.Core.Bool.{Bool, true, false, cond}
use mathlib.Core.Logic.{◌⊎◌, inl, inr}
use native.Mathlib.Omega.{arith}
use native.Mathlib.Nat.{mod-add-mod, mod_self, mod-le, mod-lt, mod-eq_of_lt, div-add-mod', mul-mod_left, mul-add-mod_self_right}
use lib.Dec.{eqb}
use borrow.Author.Tests.{eq-eqb, ne_eqb, eqb-true, eqb-false}
use Rattle.address.specs.Numbers.{up, down, power_of_two}
use Rattle.address.proofs.Tests.{le_or_lt}
use Rattle.address.proofs.Powers.{power_some}

-- by the remainder r
module _ (n k r : ℕ) (q : r ≡ n % k) where
  pub up_even : r ≡ 0 → up n k ≡ n
  up_even e = rw (eq-eqb (n % k) 0 (sym q ∙ e))

  pub up_odd : (r ≡ 0 → ⊥) → up n k ≡ n + (k - r)
  up_odd e = rw (ne_eqb (n % k) 0 (λ z. e (q ∙ z)), q)

  pub rest_le : r ≤ n
  rest_le = omega (arith, mod-le n k)

  pub rest_le_divisor : power_of_two k ≡ true → r ≤ k
  rest_le_divisor p = omega (arith, mod-lt n (power_some k p))

module _ (x k : ℕ) (pos : 0 < k) where
  pub up_ge : x ≤ up x k
  up_ge = go (eqb (x % k) 0)
    where
      go : (b : Bool) → x ≤ cond b x (x + (k - x % k))
      go true = omega arith
      go false = omega arith

  pub up_multiple : up x k % k ≡ 0
  up_multiple = go (eqb (x % k) 0) refl
    where
      go : (b : Bool) → eqb (x % k) 0 ≡ b → cond b x (x + (k - x % k)) % k ≡ 0
      go true e = eqb-true (x % k) 0 e
      go false e =
          let h : x % k + (k - x % k) ≡ k = omega (arith, mod-lt x pos) in
          sym (mod-add-mod x k (k - x % k)) ∙ ap (λ (y : ℕ). y % k) h ∙ mod_self k

  pub up_least : (b : ℕ) → x ≤ b → b % k ≡ 0 → up x k ≤ b
  up_least b l m = go (eqb (x % k) 0) refl
    where
      less : x % k + (b - x) < k → (x % k ≡ 0 → ⊥) → ⊥
      less h ne =
          let s : x + (b - x) ≡ b = omega arith in
          let e : x % k + (b - x) ≡ 0 = sym (mod-eq_of_lt h) ∙ mod-add-mod x k (b - x) ∙ ap (λ (y : ℕ). y % k) s ∙ m in
          ne (omega arith)

      far : (x % k ≡ 0 → ⊥) → (k ≤ x % k + (b - x)) ⊎ (x % k + (b - x) < k) → x + (k - x % k) ≤ b
      far ne (inl h) = omega (arith, mod-lt x pos)
      far ne (inr h) = absurd (less h ne)

      go : (c : Bool) → eqb (x % k) 0 ≡ c → cond c x (x + (k - x % k)) ≤ b
      go true e = l
      go false e = far (eqb-false (x % k) 0 e) (le_or_lt k (x % k + (b - x)))

  down_is : down x k ≡ x / k * k
  down_is = omega (arith, div-add-mod' x k)

  pub down_le : down x k ≤ x
  down_le = omega arith

  -- the next multiple lies above
  pub down_near : x < down x k + k
  down_near = omega (arith, down_is, div-add-mod' x k, mod-lt x pos)

  pub down_multiple : down x k % k ≡ 0
  down_multiple = ap (λ (y : ℕ). y % k) down_is ∙ mul-mod_left (x / k) k

  pub down_most : (b : ℕ) → b ≤ x → b % k ≡ 0 → b ≤ down x k
  down_most b l m = go (le_or_lt b (down x k))
    where
      go : (b ≤ down x k) ⊎ (down x k < b) → b ≤ down x k
      go (inl h) = h
      go (inr h) =
          let d : ℕ = b - down x k in
          let s : x / k * k + d ≡ b = omega (arith, down_is) in
          let t : d < k = omega (arith, mod-lt x pos) in
          let e : d ≡ 0 = sym (mod-eq_of_lt t) ∙ sym (mul-add-mod_self_right (x / k) k d) ∙ ap (λ (y : ℕ). y % k) s ∙ m in
          omega arith

  -- the multiples above x lie a whole k above the one below it
  pub next_multiple : (m : ℕ) → x < m → m % k ≡ 0 → down x k + k ≤ m
  next_multiple m l e = go (le_or_lt (down x k + k) m)
    where
      go : (down x k + k ≤ m) ⊎ (m < down x k + k) → down x k + k ≤ m
      go (inl h) = h
      go (inr h) =
          let d : ℕ = m - down x k in
          let s : x / k * k + d ≡ m = omega (arith, down_is) in
          let t : d < k = omega (arith, down_is) in
          let z : d ≡ 0 = sym (mod-eq_of_lt t) ∙ sym (mul-add-mod_self_right (x / k) k d) ∙ ap (λ (y : ℕ). y % k) s ∙ e in
          omega (arith, down_is)
