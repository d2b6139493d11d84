-- Every address of a range is present, or one of them is absent. Assumes nothing.
use Prim.Native.Nat.{ℕ, zero, suc, ◌+◌, ◌-◌, ◌≤◌, ◌<◌}
use mathlib.Core.Path.{◌≡◌, refl}
use mathlib.Core.Bool.{Bool, true, false, ◌&&◌, and-false}
use mathlib.Core.List.{List}
use mathlib.Core.Logic.{◌⊎◌, inl, inr}
use native.Mathlib.Omega.{arith}
use Rattle.address.proofs.Tests.{le_or_lt, zero_not_one}
use Rattle.regions.specs.declared.Region.{Region}
use Rattle.regions.specs.declared.State.{State}
use Rattle.regions.specs.declared.State.TheVariants.{Absent, Present}
use Rattle.regions.specs.Meaning.{Meaning}
use Rattle.regions.specs.Changes.{present, all_present, allowed}

-- one of the n addresses from a is absent
pub record AbsentIn (f : Meaning) (a n : ℕ) : Type 0 where
  pub address : ℕ
  pub low : a ≤ address
  pub high : address < a + n
  pub absent : f address ≡ Absent

module _ (f : Meaning) (a : ℕ) where
  pub absent_not_all : (n : ℕ) → AbsentIn f a n → all_present f a n ≡ false
  unfolding all_present
  absent_not_all zero w = absurd (omega (arith, w.low, w.high))
  absent_not_all (suc n) w =
      go (le_or_lt (a + n) w.address) (λ i. absent_not_all n (record { address = w.address; low = w.low; high = i; absent = w.absent }))
    where
      go : (a + n ≤ w.address) ⊎ (w.address < a + n) → (w.address < a + n → all_present f a n ≡ false) → present (f (a + n)) && all_present f a n ≡ false
      go (inl i) ih =
          let e : a + n ≡ w.address = omega (arith, w.high) in
          rw (e, w.absent)
      go (inr i) ih = rw (ih i, and-false)

  pub not_all_absent : (n : ℕ) → all_present f a n ≡ false → AbsentIn f a n
  unfolding all_present
  not_all_absent zero e = absurd (zero_not_one cc)
  not_all_absent (suc n) e = go (f (a + n)) refl e (not_all_absent n)
    where
      go : (v : State) → f (a + n) ≡ v → present v && all_present f a n ≡ false → (all_present f a n ≡ false → AbsentIn f a n) → AbsentIn f a (suc n)
      go Absent h i ih = record { address = a + n; low = omega arith; high = omega arith; absent = h }
      go (Present t) h i ih =
          let w = ih i in
          record { address = w.address; low = w.low; high = omega (arith, w.high); absent = w.absent }

  pub each_all : (n : ℕ) → ((x : ℕ) → a ≤ x → x < a + n → present (f x) ≡ true) → all_present f a n ≡ true
  unfolding all_present
  each_all zero h = refl
  each_all (suc n) h = rw (h (a + n) (omega arith) (omega arith)) (each_all n (λ x i j. h x i (omega arith)))

-- of no address nothing is asked
pub empty_allowed : (strict : Bool) (lo hi : ℕ) (xs : List Region) → hi ≤ lo → true ≡ allowed strict lo hi xs
unfolding all_present
empty_allowed false lo hi xs h = refl
empty_allowed true lo hi xs h =
    let z : hi - lo ≡ 0 = omega arith in
    rw z
