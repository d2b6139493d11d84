-- What the derived order of addresses tells of their numbers. Assumes nothing.
use Prim.Native.Nat.{ℕ, ◌≤◌, ◌<◌}
use mathlib.Core.Path.{◌≡◌}
use mathlib.Core.Bool.{Bool, true, false}
use native.Mathlib.Omega.{arith}
use Rattle.std.specs.Ordering.{is_lt, is_le, nat_cmp}
use Rattle.std.proofs.lemmas.Bool.Decides.{nat_tests}

module _ (a b : ℕ) (t : Bool) (e : t ≡ is_lt (nat_cmp a b)) where
  pub less : t ≡ true → a < b
  less h = grind (arith, nat_tests)

  pub no_less : t ≡ false → b ≤ a
  no_less h = grind (arith, nat_tests)

module _ (a b : ℕ) (t : Bool) (e : t ≡ is_le (nat_cmp a b)) where
  pub no_more : t ≡ true → a ≤ b
  no_more h = grind (arith, nat_tests)

  pub more : t ≡ false → b < a
  more h = grind (arith, nat_tests)
