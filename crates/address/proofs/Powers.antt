-- A number is a power of two exactly when one of its binary digits is set. Assumes nothing.
use Prim.Native.Nat.{ℕ, zero, suc, ◌+◌, ◌-◌, ◌*◌, ◌/◌, ◌%◌, ◌^◌, ◌≤◌, ◌<◌}
use mathlib.Core.Path.{◌≡◌, refl, sym, ap, ap₂, ◌∙◌}
use mathlib.Core.Bool.{Bool, true, false, ◌||◌}
use mathlib.Core.Logic.{◌⊎◌, inl, inr}
use native.Mathlib.Omega.{arith}
use native.Mathlib.Nat.{pow-suc, div-add-mod'}
use lib.Dec.{eqb, lit<}
use lib.Bits.{bit_and, and_mask}
use lib.Pow.{pow_pos}
use lib.Count.{ones, ones_step, ones-le}
use borrow.Author.Tests.{eq-eqb, ne_eqb, eqb-true, eqb-false}
use Rattle.address.specs.Numbers.{power_below, power_of_two}
use Rattle.address.proofs.Tests.{le_or_lt}

same : (a b c d : ℕ) → (a ≡ b → c ≡ d) → (c ≡ d → a ≡ b) → eqb a b ≡ eqb c d
same a b c d f g = go (eqb a b) refl
  where
    go : (t : Bool) → eqb a b ≡ t → t ≡ eqb c d
    go true e = sym (eq-eqb c d (f (eqb-true a b e)))
    go false e = sym (ne_eqb c d (λ h. eqb-false a b e (g h)))

power_double : (k m : ℕ) → power_below (suc k) (2 * m) ≡ power_below k m
unfolding power_below
power_double zero m =
    let n : 2 * m ≡ 2 ^ 0 → ⊥ = λ e. omega arith in
    rw (ne_eqb (2 * m) (2 ^ 0) n)
power_double (suc k) m =
    ap₂ (λ (a b : Bool). a || b)
    (same (2 * m) (2 ^ suc k) m (2 ^ k) (λ e. omega (arith, pow-suc 2 k)) (λ e. omega (arith, pow-suc 2 k))) (power_double k m)

power_odd : (k m : ℕ) → power_below (suc k) (2 * m + 1) ≡ eqb m 0
unfolding power_below
power_odd zero m = go (eqb m 0) refl
  where
    go : (t : Bool) → eqb m 0 ≡ t → eqb (2 * m + 1) (2 ^ 0) || false ≡ t
    go true e = let z = eqb-true m 0 e in let f : 2 * m + 1 ≡ 2 ^ 0 = omega arith in rw (eq-eqb (2 * m + 1) (2 ^ 0) f)
    go false e =
        let z = eqb-false m 0 e in
        let f : 2 * m + 1 ≡ 2 ^ 0 → ⊥ = λ g. z (omega arith) in
        rw (ne_eqb (2 * m + 1) (2 ^ 0) f)
power_odd (suc k) m =
    let n : 2 * m + 1 ≡ 2 ^ suc k → ⊥ = λ e. omega (arith, pow-suc 2 k) in
    rw (ne_eqb (2 * m + 1) (2 ^ suc k) n) (power_odd k m)

-- a number with no digit set is 0
ones_none : (k n : ℕ) → n < 2 ^ k → ones n ≡ 0 → n ≡ 0
ones_none zero n h e = omega arith
ones_none (suc k) n h e =
    let s = ones_step n in
    let d = div-add-mod' n 2 in
    let b : n / 2 < 2 ^ k = omega (arith, pow-suc 2 k) in
    let z : n / 2 ≡ 0 = ones_none k (n / 2) b (omega arith) in
    omega arith

pub ones_power : (k n : ℕ) → n < 2 ^ k → eqb (ones n) 1 ≡ power_below k n
unfolding power_below
ones_power zero n h =
    let e : ones n ≡ 1 → ⊥ = λ f. omega (arith, ones-le 0 n h) in
    ne_eqb (ones n) 1 e
ones_power (suc k) n h = go (le_or_lt 1 (n % 2)) (ones_power k (n / 2))
  where
    small : n / 2 < 2 ^ k
    small = omega (arith, pow-suc 2 k, div-add-mod' n 2)

    go : (1 ≤ n % 2) ⊎ (n % 2 < 1) → (n / 2 < 2 ^ k → eqb (ones (n / 2)) 1 ≡ power_below k (n / 2)) → eqb (ones n) 1 ≡ power_below (suc k) n
    go (inl l) ih =
        let m = n / 2 in
        let o : n ≡ 2 * m + 1 = omega (arith, div-add-mod' n 2) in
        let s : ones n ≡ 1 + ones m = omega (arith, ones_step n) in
        let z : ones 0 ≡ 0 = omega (arith, ones-le 0 0 (lit< tt)) in
        same (ones n) 1 m 0 (λ e. ones_none k m small (omega arith)) (λ e. s ∙ ap (λ (x : ℕ). 1 + ones x) e ∙ omega arith)
        ∙ sym (ap (power_below (suc k)) o ∙ power_odd k m)
    go (inr l) ih =
        let m = n / 2 in
        let o : n ≡ 2 * m = omega (arith, div-add-mod' n 2) in
        let s : ones n ≡ ones m = omega (arith, ones_step n) in
        ap (λ (x : ℕ). eqb x 1) s ∙ ih small ∙ sym (ap (power_below (suc k)) o ∙ power_double k m)

-- what the test says: one of the powers
pub power_is : (k n : ℕ) → power_below k n ≡ true → (j : ℕ) × (j < k) × (n ≡ 2 ^ j)
unfolding power_below
power_is zero n e = let z : false ≡ true = e in absurd (let y : ◌≡◌ {A = ℕ} 0 1 = cc in omega arith)
power_is (suc k) n e = go (eqb n (2 ^ k)) refl e (power_is k n)
  where
    go : (t : Bool) → eqb n (2 ^ k) ≡ t → t || power_below k n ≡ true → (power_below k n ≡ true → (j : ℕ) × (j < k) × (n ≡ 2 ^ j))
        → (j : ℕ) × (j < suc k) × (n ≡ 2 ^ j)
    go true f e ih = (k, omega arith, eqb-true n (2 ^ k) f)
    go false f e ih = let r = ih e in (r.0, omega (arith, r.1), r.2)

pub power_of : (k j : ℕ) → j < k → power_below k (2 ^ j) ≡ true
unfolding power_below
power_of zero j h = absurd (omega arith)
power_of (suc k) j h = go (le_or_lt k j) (power_of k j)
  where
    or_right : (t : Bool) → t || true ≡ true
    or_right true = refl
    or_right false = refl

    go : (k ≤ j) ⊎ (j < k) → (j < k → power_below k (2 ^ j) ≡ true) → eqb (2 ^ j) (2 ^ k) || power_below k (2 ^ j) ≡ true
    go (inl l) ih = let e : j ≡ k = omega arith in rw (e, eq-eqb (2 ^ k) (2 ^ k) refl)
    go (inr l) ih = rw (ih l) (or_right (eqb (2 ^ j) (2 ^ k)))

-- a power of two is not 0
pub power_some : (k : ℕ) → power_of_two k ≡ true → 0 < k
power_some k e =
    let p = power_is 64 k e in
    omega (arith, pow_pos p.0, p.2)

-- the digits below a power of two are the remainder by it
pub power_mask : (x k : ℕ) → power_of_two k ≡ true → bit_and x (k - 1) ≡ x % k
power_mask x k e =
    let p = power_is 64 k e in
    rw p.2 (and_mask x p.0)
