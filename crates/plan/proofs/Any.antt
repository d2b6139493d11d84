-- That a test holds of one of a list. Assumes nothing.
use Prim.Native.Nat.{ℕ, suc, ◌<◌}
use mathlib.Core.Path.{◌≡◌, refl}
use mathlib.Core.Bool.{Bool, true, false, ◌||◌}
use mathlib.Core.List.{List, [], ◌∷◌}
use native.Mathlib.Omega.{arith}
use lib.ListN.{length, get_or}
use Rattle.address.proofs.Tests.{clash, zero_not_one}
use Rattle.plan.specs.Plan.{any}

-- where q holds of none, nor does what implies it
pub any_none : {A : Type 0} (p q : A → Bool) → ((x : A) → p x ≡ true → q x ≡ true) → (xs : List A) → any q xs ≡ false → any p xs ≡ false
any_none p q h [] e = refl
any_none p q h (x ∷ xs) e = go (q x) refl (p x) refl e (any_none p q h xs)
  where
    go : (u : Bool) → q x ≡ u → (t : Bool) → p x ≡ t → u || any q xs ≡ false → (any q xs ≡ false → any p xs ≡ false) → t || any p xs ≡ false
    go true g t f d ih = absurd (zero_not_one cc)
    go false g true f d ih = absurd (clash (q x) (h x f) g)
    go false g false f d ih = ih d

-- where it holds
pub record Found {A : Type 0} (p : A → Bool) (d : A) (xs : List A) : Type 0 where
  pub at : ℕ
  pub there : at < length xs
  pub holds : p (get_or xs at d) ≡ true

pub any_found : {A : Type 0} (p : A → Bool) (d : A) (xs : List A) → any p xs ≡ true → Found p d xs
any_found p d [] e = absurd (zero_not_one cc)
any_found p d (x ∷ xs) e = go (p x) refl e (any_found p d xs)
  where
    go : (t : Bool) → p x ≡ t → t || any p xs ≡ true → (any p xs ≡ true → Found p d xs) → Found p d (x ∷ xs)
    go true f g ih = record { at = 0; there = omega arith; holds = f }
    go false f g ih = let y = ih g in record { at = suc y.at; there = omega (arith, y.there); holds = y.holds }
