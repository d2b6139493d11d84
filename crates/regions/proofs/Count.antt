-- The shortest list's length, its total, and that it depends only on what is said below n. Assumes nothing.
use Prim.Native.Nat.{ℕ, zero, suc, ◌+◌, ◌-◌, ◌≤◌, ◌<◌}
use mathlib.Core.Path.{◌≡◌, refl}
use mathlib.Core.Bool.{Bool, true, false, cond}
use mathlib.Core.List.{List, [], ◌∷◌}
use native.Mathlib.Omega.{arith}
use native.Mathlib.Nat.{add-zero, add-suc}
use lib.ListN.{length}
use Rattle.regions.specs.declared.Tag.{Tag}
use Rattle.regions.specs.declared.Region.{Region}
use Rattle.regions.specs.declared.State.{State}
use Rattle.regions.specs.declared.State.TheVariants.{Absent, Present}
use Rattle.regions.specs.Meaning.{Meaning, region, joins, join, push, shortest, one, total}

-- the sum of the sizes
unfoldable pub sizes : List Region → ℕ
sizes [] = 0
sizes (r ∷ rs) = r.size.0 + sizes rs

-- ---- a law of the three steps: it holds of join, so of push, so of shortest. One record, so that the cases are gone through once

-- what one join does to the length and to the sum of the sizes
record Grown (xs ys : List Region) (s : ℕ) : Type 0 where
  longer : length xs ≤ length ys
  by_one : length ys ≤ suc (length xs)
  larger : sizes ys ≡ sizes xs + s

join_grown : (xs : List Region) (c s : ℕ) (t : Tag) → Grown xs (join xs c s t) s
unfolding join sizes
join_grown [] c s t = record { longer = omega arith; by_one = omega arith; larger = omega arith }
join_grown (r ∷ []) c s t = go (joins r c t)
  where
    go : (b : Bool) → Grown (r ∷ []) (cond b (region r.base.0 (r.size.0 + s) t ∷ []) (r ∷ region c s t ∷ [])) s
    go true = record { longer = omega arith; by_one = omega arith; larger = omega arith }
    go false = record { longer = omega arith; by_one = omega arith; larger = omega arith }
join_grown (r ∷ q ∷ rs) c s t =
    let g = join_grown (q ∷ rs) c s t in
    record { longer = omega arith; by_one = omega arith; larger = omega arith }

-- ---- the length never falls

pub push_longer : (xs : List Region) (c s : ℕ) (v : State) → length xs ≤ length (push xs c s v)
unfolding push
push_longer xs c s Absent = omega arith
push_longer xs c zero (Present t) = omega arith
push_longer xs c (suc s) (Present t) = (join_grown xs c (suc s) t).longer

pub push_by_one : (xs : List Region) (c s : ℕ) (v : State) → length (push xs c s v) ≤ suc (length xs)
unfolding push
push_by_one xs c s Absent = omega arith
push_by_one xs c zero (Present t) = omega arith
push_by_one xs c (suc s) (Present t) = (join_grown xs c (suc s) t).by_one

longer_by : (f : Meaning) (c s : ℕ) → length (shortest f c) ≤ length (shortest f (c + s))
unfolding shortest
longer_by f c zero = rw add-zero (omega arith)
longer_by f c (suc s) = rw add-suc (omega (arith, longer_by f c s, push_longer (shortest f (c + s)) (c + s) 1 (f (c + s))))

pub longer : (f : Meaning) (c e : ℕ) → c ≤ e → length (shortest f c) ≤ length (shortest f e)
longer f c e h =
    let k : c + (e - c) ≡ e = omega arith in
    rw k at (longer_by f c (e - c))

-- ---- only what is said below n counts

pub agree : (f g : Meaning) (n : ℕ) → ((a : ℕ) → a < n → f a ≡ g a) → shortest f n ≡ shortest g n
unfolding shortest
agree f g zero h = refl
agree f g (suc n) h = rw (h n (omega arith), agree f g n (λ a l. h a (omega arith)))

-- ---- the total

push_sizes : (xs : List Region) (c : ℕ) (v : State) → sizes (push xs c 1 v) ≡ sizes xs + one v
unfolding push
push_sizes xs c Absent = omega arith
push_sizes xs c (Present t) = (join_grown xs c 1 t).larger

pub total_sizes : (f : Meaning) (n : ℕ) → total f n ≡ sizes (shortest f n)
unfolding shortest total sizes
total_sizes f zero = refl
total_sizes f (suc n) = omega (arith, total_sizes f n, push_sizes (shortest f n) n (f n))

one_le : (v : State) → one v ≤ 1
one_le Absent = omega arith
one_le (Present t) = omega arith

pub total_le : (f : Meaning) (n : ℕ) → total f n ≤ n
unfolding total
total_le f zero = omega arith
total_le f (suc n) = omega (arith, total_le f n, one_le (f n))
