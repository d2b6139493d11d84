-- Multiples of powers of two: what lies around a number. Assumes nothing.
use Prim.Native.Nat.{ℕ, ◌+◌, ◌-◌, ◌%◌, ◌^◌, ◌≤◌, ◌<◌}
use mathlib.Core.Path.{◌≡◌, sym, ap, ◌∙◌}
use native.Mathlib.Omega.{arith}
use native.Mathlib.Nat.{zero-mod}
use mathlib.Core.Logic.{◌⊎◌, inl, inr}
use lib.Pow.{pow_pos, mod-mod-pow}
use Rattle.address.specs.Numbers.{down}
use Rattle.address.proofs.Tests.{le_or_lt}
use Rattle.address.proofs.Rounding.{down_le, down_near, down_multiple, down_most, next_multiple}

-- a multiple of 2^b is one of 2^a
pub multiple_below : (m a b : ℕ) → a ≤ b → m % 2 ^ b ≡ 0 → m % 2 ^ a ≡ 0
multiple_below m a b l e =
    let f : b - a + a ≡ b = omega arith in
    let g : m % 2 ^ (b - a + a) ≡ 0 = rw f e in
    sym (mod-mod-pow m (b - a) a) ∙ ap (λ (x : ℕ). x % 2 ^ a) g ∙ zero-mod (2 ^ a)

-- the multiple b with x in the k from it on is x rounded down
pub down_unique : (x k b : ℕ) → b % k ≡ 0 → b ≤ x → x < b + k → down x k ≡ b
down_unique x k b e l h =
    let pos : 0 < k = omega arith in
    let p = down_most x k pos b l e in
    go (le_or_lt (down x k) b) p pos
  where
    go : (down x k ≤ b) ⊎ (b < down x k) → b ≤ down x k → 0 < k → down x k ≡ b
    go (inl i) p pos = omega arith
    go (inr i) p pos =
        let q = down_le x k pos in
        let r = next_multiple b k pos (down x k) i (down_multiple x k pos) in
        absurd (omega (arith, e))

-- and a multiple is itself rounded down
pub down_same : (x k : ℕ) → x % k ≡ 0 → down x k ≡ x
down_same x k e = omega arith

pub down_odd : (x k : ℕ) → down x k ≡ x → x % k ≡ 0
down_odd x k e = omega (arith, native.Mathlib.Nat.mod-le x k)

-- rounding down to the larger power does not see the smaller one
pub down_down : (x a b : ℕ) → a ≤ b → down (down x (2 ^ a)) (2 ^ b) ≡ down x (2 ^ b)
down_down x a b l =
    let s : ℕ = down x (2 ^ b) in
    let m = down_multiple x (2 ^ b) (pow_pos b) in
    let i = down_le x (2 ^ b) (pow_pos b) in
    let n = down_near x (2 ^ b) (pow_pos b) in
    let j = down_le x (2 ^ a) (pow_pos a) in
    let k = down_most x (2 ^ a) (pow_pos a) s i (multiple_below s a b l m) in
    down_unique (down x (2 ^ a)) (2 ^ b) s m k (omega arith)

-- two numbers in one piece are in one larger piece
pub down_larger : (x y a b : ℕ) → a ≤ b → down x (2 ^ a) ≡ down y (2 ^ a) → down x (2 ^ b) ≡ down y (2 ^ b)
down_larger x y a b l e = sym (down_down x a b l) ∙ ap (λ (z : ℕ). down z (2 ^ b)) e ∙ down_down y a b l

-- the next multiple after one
pub multiple_next : (c k : ℕ) → c % k ≡ 0 → (c + k) % k ≡ 0
multiple_next c k e = native.Mathlib.Nat.add-mod_right c k ∙ e
