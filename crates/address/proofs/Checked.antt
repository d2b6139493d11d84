-- A whole number as a number of 64 bits, or none; over what is made of it. Assumes nothing.
use Prim.Native.Nat.{ℕ, ◌-◌, ◌^◌, ◌≤◌, ◌<◌}
use mathlib.Core.Path.{◌≡◌, refl, ap}
use mathlib.Core.Bool.{Bool, true, false, cond}
use native.Mathlib.Omega.{arith}
use lib.Dec.{ltb}
use borrow.Author.Tests.{lt-ltb, le-ltb, ltb-true, ltb-false, le-leb, lt-leb}
use Rattle.address.proofs.Tests.{zero_not_one}
use Rattle.address.specs.Numbers.{if_small, address, size, difference}
use Rattle.address.specs.declared.Address.{Address}
use Rattle.address.specs.declared.Size.{Size}
use Rattle.std.specs.Prelude.{Option, Some, None}

module _ {A : Type 0} (make : ℕ → A) (other : A) (n : ℕ) where
  pub small_yes : n < 2 ^ 64 → make n ≡ if_small make other n
  unfolding if_small
  small_yes h = rw (lt-ltb n (2 ^ 64) h)

  pub small_no : 2 ^ 64 ≤ n → other ≡ if_small make other n
  unfolding if_small
  small_no h = rw (le-ltb n (2 ^ 64) h)

  -- and of what is not small
  pub small_not : (n < 2 ^ 64 → ⊥) → other ≡ if_small make other n
  small_not h = small_no (omega (arith, h))

  -- where the answer is not the other, the number is small, and the answer is what is made of it
  small_made : (a : A) → a ≡ if_small make other n → (a ≡ other → ⊥) → (a ≡ make n) × (n < 2 ^ 64)
  unfolding if_small
  small_made a e d = go (ltb n (2 ^ 64)) refl e
    where
      go : (b : Bool) → ltb n (2 ^ 64) ≡ b → a ≡ cond b (make n) other → (a ≡ make n) × (n < 2 ^ 64)
      go true h e = (e, ltb-true n (2 ^ 64) h)
      go false h e = absurd (d e)

  small_other : (a : A) → a ≡ if_small make other n → (a ≡ make n → ⊥) → 2 ^ 64 ≤ n
  unfolding if_small
  small_other a e d = go (ltb n (2 ^ 64)) refl e
    where
      go : (b : Bool) → ltb n (2 ^ 64) ≡ b → a ≡ cond b (make n) other → 2 ^ 64 ≤ n
      go true h e = absurd (d e)
      go false h e = ltb-false n (2 ^ 64) h

pub difference_no : (n k : ℕ) → n < k → None ≡ difference n k
unfolding difference
difference_no n k h = rw (lt-leb k n h)

pub difference_yes : (n k : ℕ) (a : Address) → a.0 ≡ n - k → k ≤ n → Some a ≡ difference n k
unfolding difference
difference_yes n k a e h = rw (le-leb k n h, ← e)

-- ---- what an answer tells

pub address_at : (n : ℕ) (x : Option Address) (a : Address) → x ≡ address n → x ≡ Some a → (a.0 ≡ n) × (n < 2 ^ 64)
address_at n x a e f =
    let d : x ≡ None → ⊥ = λ g. absurd (zero_not_one cc) in
    let m = small_made (λ y. Some (record { 0 = y })) None n x e d in
    let r : a ≡ record { 0 = n } = cc in
    (ap (λ (y : Address). y.0) r, m.1)

pub address_outside : (n : ℕ) (x : Option Address) → x ≡ address n → x ≡ None → 2 ^ 64 ≤ n
address_outside n x e f =
    small_other (λ y. Some (record { 0 = y })) None n x e (λ g. absurd (zero_not_one cc))

pub size_of : (n : ℕ) (x : Option Size) (s : Size) → x ≡ size n → x ≡ Some s → (s.0 ≡ n) × (n < 2 ^ 64)
size_of n x s e f =
    let d : x ≡ None → ⊥ = λ g. absurd (zero_not_one cc) in
    let m = small_made (λ y. Some (record { 0 = y })) None n x e d in
    let r : s ≡ record { 0 = n } = cc in
    (ap (λ (y : Size). y.0) r, m.1)

pub size_outside : (n : ℕ) (x : Option Size) → x ≡ size n → x ≡ None → 2 ^ 64 ≤ n
size_outside n x e f =
    small_other (λ y. Some (record { 0 = y })) None n x e (λ g. absurd (zero_not_one cc))
