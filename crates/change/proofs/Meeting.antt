-- Which records a range meets or touches: those behind the first that end below it, as far as they begin at or below its end. Assumes nothing.
use Prim.Native.Nat.{ℕ, zero, suc, ◌+◌, ◌*◌, ◌-◌, ◌≤◌, ◌<◌}
use mathlib.Core.Path.{◌≡◌, refl, ap, ◌∙◌}
use mathlib.Core.Bool.{Bool, true, false, cond}
use mathlib.Core.List.{List, [], ◌∷◌}
use native.Mathlib.Omega.{arith}
use native.Mathlib.Nat.{not-suc-le-zero, zero-add}
use lib.Dec.{leb}
use lib.ListN.{length, take, drop}
use borrow.Author.Tests.{le-leb, lt-leb, leb-true, leb-false}
use Rattle.regions.specs.declared.Region.{Region}
use Rattle.regions.specs.Meaning.{end}
use Rattle.regions.specs.Bytes.{number, read_region, read_regions}
use Rattle.regions.proofs.Records.{read_regions_length, read_regions_rest, read_regions_end}
use Rattle.regions.proofs.Few.{Ends, Begins}
use Rattle.regions.proofs.Middle.{Above}
use Rattle.records.specs.Steps.{ending_by}
use Rattle.change.specs.Steps.{starting_by}
use Rattle.records.proofs.Placing.{drop_read}

-- ---- how many begin at or below an address

starting_le : (a : ℕ) (xs : List Region) → starting_by a xs ≤ length xs
unfolding starting_by
starting_le a [] = omega arith
starting_le a (r ∷ rs) = go (leb r.base.0 a) (starting_le a rs)
  where
    go : (t : Bool) → starting_by a rs ≤ length rs → cond t (suc (starting_by a rs)) 0 ≤ suc (length rs)
    go true h = omega arith
    go false h = omega arith

-- what is left of them behind the first i
pub starting_rest : (a i : ℕ) (xs : List Region) → i ≤ starting_by a xs → starting_by a xs ≡ i + starting_by a (drop i xs)
unfolding starting_by
starting_rest a zero xs h = rw zero-add
starting_rest a (suc i) [] h = absurd (not-suc-le-zero h)
starting_rest a (suc i) (r ∷ rs) h = go (leb r.base.0 a) h (λ k. starting_rest a i rs k)
  where
    go : (t : Bool) → suc i ≤ cond t (suc (starting_by a rs)) 0 → (i ≤ starting_by a rs → starting_by a rs ≡ i + starting_by a (drop i rs))
        → cond t (suc (starting_by a rs)) 0 ≡ suc i + starting_by a (drop i rs)
    go true k ih = omega (arith, ih (omega arith))
    go false k ih = absurd (not-suc-le-zero k)

-- a region that ends at or below an address begins there
pub ending_starting : (a h : ℕ) (xs : List Region) → a ≤ h → ending_by a xs ≤ starting_by h xs
unfolding ending_by starting_by
ending_starting a h [] l = omega arith
ending_starting a h (r ∷ rs) l = go (leb (end r) a) refl (ending_starting a h rs l)
  where
    go : (t : Bool) → leb (end r) a ≡ t → ending_by a rs ≤ starting_by h rs → cond t (suc (ending_by a rs)) 0 ≤ cond (leb r.base.0 h) (suc (starting_by h rs)) 0
    go true e ih = rw (le-leb r.base.0 h (omega (arith, leb-true (end r) a e))) (omega arith)
    go false e ih = omega arith

pub starting_above : (h : ℕ) (xs : List Region) → Above h (drop (starting_by h xs) xs)
unfolding starting_by Above
starting_above h [] = tt
starting_above h (r ∷ rs) = go (leb r.base.0 h) refl (starting_above h rs)
  where
    go : (t : Bool) → leb r.base.0 h ≡ t → Above h (drop (starting_by h rs) rs) → Above h (drop (cond t (suc (starting_by h rs)) 0) (r ∷ rs))
    go true e ih = ih
    go false e ih = omega (arith, leb-false r.base.0 h e)

module _ (l : List ℕ) (n a : ℕ) where
  pub begins_le : (i : ℕ) → i ≡ starting_by a (read_regions n l) → i ≤ n
  begins_le i e = omega (arith, starting_le a (read_regions n l), read_regions_length n l)

  pub begins_start : (from : ℕ) → from ≤ starting_by a (read_regions n l) → starting_by a (read_regions n l) ≡ from + starting_by a (read_regions (n - from) (drop (24 * from) l))
  begins_start from h =
      let k : from ≤ n = omega (arith, starting_le a (read_regions n l), read_regions_length n l) in
      starting_rest a from (read_regions n l) h ∙ rw (drop_read from n l k)

  module _ (i : ℕ) (inv : starting_by a (read_regions n l) ≡ i + starting_by a (read_regions (n - i) (drop (24 * i) l))) where
    pub begins_end : n ≤ i → n ≡ starting_by a (read_regions n l)
    unfolding starting_by
    begins_end h =
        let z : starting_by a (read_regions (n - i) (drop (24 * i) l)) ≡ 0 = rw (read_regions_end i n (drop (24 * i) l) h) in
        omega (arith, begins_le (starting_by a (read_regions n l)) refl)

    module _ (h : i < n) (v : ℕ) (e : v ≡ number 8 (drop (24 * i) l)) where
      step : starting_by a (read_regions (n - i) (drop (24 * i) l)) ≡ cond (leb v a) (suc (starting_by a (read_regions (n - (i + 1)) (drop (24 * (i + 1)) l)))) 0
      unfolding starting_by read_region
      step = ap (starting_by a) (read_regions_rest i n l h) ∙ rw e

      pub begins_hit : a < v → i ≡ starting_by a (read_regions n l)
      begins_hit k = let z : starting_by a (read_regions (n - i) (drop (24 * i) l)) ≡ 0 = rw (step, lt-leb v a k) in omega arith

      pub begins_next : v ≤ a → starting_by a (read_regions n l) ≡ i + 1 + starting_by a (read_regions (n - (i + 1)) (drop (24 * (i + 1)) l))
      begins_next k =
          let z : starting_by a (read_regions (n - i) (drop (24 * i) l)) ≡ suc (starting_by a (read_regions (n - (i + 1)) (drop (24 * (i + 1)) l))) = rw (step, le-leb v a k) in
          omega arith

-- ---- a range

-- the place in the table where a range begins is not behind the one where it ends
pub meet_low : (t : List ℕ) (n lo hi b r : ℕ) → b ≡ lo - 1 → r ≡ ending_by b (read_regions n t) → lo ≤ hi → r ≤ starting_by hi (read_regions n t)
meet_low t n lo hi b r eb er l = omega (arith, ending_starting b hi (read_regions n t) (omega arith))

pub ending_ends : (a : ℕ) (xs : List Region) → Ends a (drop (ending_by a xs) xs)
unfolding ending_by
ending_ends a [] = tt
ending_ends a (r ∷ rs) = go (leb (end r) a) refl (ending_ends a rs)
  where
    go : (t : Bool) → leb (end r) a ≡ t → Ends a (drop (ending_by a rs) rs) → Ends a (drop (cond t (suc (ending_by a rs)) 0) (r ∷ rs))
    go true e ih = ih
    go false e ih = leb-false (end r) a e

pub ends_take : (a i : ℕ) (xs : List Region) → Ends a xs → Ends a (take i xs)
ends_take a zero xs h = tt
ends_take a (suc i) [] h = tt
ends_take a (suc i) (r ∷ rs) h = h

pub starting_begins : (a : ℕ) (xs : List Region) → Begins a (take (starting_by a xs) xs)
unfolding starting_by
starting_begins a [] = tt
starting_begins a (r ∷ rs) = go (leb r.base.0 a) refl (starting_begins a rs)
  where
    go : (t : Bool) → leb r.base.0 a ≡ t → Begins a (take (starting_by a rs) rs) → Begins a (take (cond t (suc (starting_by a rs)) 0) (r ∷ rs))
    go true e ih = (leb-true r.base.0 a e, ih)
    go false e ih = tt
