-- Whole numbers as addresses and sizes of 64 bits; rounding; powers of two. Assumes nothing.
use Rattle.std.specs.Prelude.{ℕ, zero, suc, ◌+◌, ◌-◌, ◌%◌, ◌^◌, Bool, false, cond, ◌||◌, leb, ltb, eqb, Option, Some, None}
use Rattle.address.specs.declared.Address.{Address}
use Rattle.address.specs.declared.Size.{Size}

-- what is made of the whole number n, if it is at most 2^64 - 1; otherwise other
unfoldable pub if_small : {A : Type 0} → (ℕ → A) → A → ℕ → A
if_small make other n = cond (ltb n (2 ^ 64)) (make n) other

-- n as an address, if it is one
abbrev pub address : ℕ → Option Address
address n = if_small (λ x. Some (record { 0 = x })) None n

-- n as a size, if it is one
abbrev pub size : ℕ → Option Size
size n = if_small (λ x. Some (record { 0 = x })) None n

-- n less k as an address, if k is not the larger
unfoldable pub difference : ℕ → ℕ → Option Address
difference n k = cond (leb k n) (Some (record { 0 = n - k })) None

-- n rounded down to a multiple of k
abbrev pub down : ℕ → ℕ → ℕ
down n k = n - n % k

-- n rounded up to a multiple of k, a whole number
abbrev pub up : ℕ → ℕ → ℕ
up n k = cond (eqb (n % k) 0) n (n + (k - n % k))

-- n is one of 2^0 to below 2^k
unfoldable pub power_below : ℕ → ℕ → Bool
power_below zero n = false
power_below (suc k) n = eqb n (2 ^ k) || power_below k n

-- n is a power of two of 64 bits
abbrev pub power_of_two : ℕ → Bool
power_of_two n = power_below 64 n
