-- A table's bytes, its records, and where an address stands among them. Only inner contracts and proofs cite this module. Assumes nothing.
use Rattle.std.specs.Prelude.{◌≡◌, ℕ, suc, ◌+◌, ◌*◌, ◌/◌, ◌^◌, ◌<◌, ◌≤◌, true, cond, List, [], ◌∷◌, ◌++◌, length, take, drop, nat_le}
use Rattle.regions.specs.declared.Region.{Region}
use Rattle.regions.specs.Meaning.{end, at, total, top}
use Rattle.regions.specs.declared.State.TheVariants.{Absent}
use Rattle.regions.specs.Lists.{rises}
use Rattle.regions.specs.Bytes.{read_regions}
use Rattle.records.specs.declared.table.Tally.{Tally}
use Rattle.records.specs.Checks.{all_zeros}

-- how many of the first regions end at or below an address: where a range that begins there begins among them
unfoldable pub ending_by : ℕ → List Region → ℕ
ending_by a [] = 0
ending_by a (r ∷ rs) = cond (nat_le (end r) a) (suc (ending_by a rs)) 0

-- how many of n records are looked at when their number is halved at each look: no more than n has binary digits (at most 8 of 128, and one
-- more for each doubling), and at most one fewer
pub record Halved (n looks : ℕ) : Type 0 where
  pub most : (k : ℕ) → n < 2 ^ k → looks ≤ k
  pub least : n < 2 ^ (looks + 1)

-- each region's flags leave room for one more
abbrev pub AllFlagsBounded : List Region → Type 0
AllFlagsBounded [] = Unit {0}
AllFlagsBounded (r ∷ rs) = (r.tag.flags ≤ 7) × AllFlagsBounded rs

-- a table's bytes with count records of a shortest list
pub record Table (t : List ℕ) (count : ℕ) : Type 0 where
  pub room : 24 * count ≤ length t
  pub rising : rises 0 Absent top (read_regions count t) ≡ true
  pub flags_bounded : AllFlagsBounded (read_regions count t)

-- a list with others in the place of its regions from first up to, not including, stop
unfoldable pub put : ℕ → ℕ → List Region → List Region → List Region
put first stop ys xs = take first xs ++ (ys ++ drop stop xs)

-- a table's bytes, whole records, with zeros behind the list that the tally counts
pub record Whole (t : List ℕ) (y : Tally) : Type 0 where
  pub table : Table t y.count
  pub even : length t ≡ 24 * (length t / 24)
  pub small : length t < 4294967296
  pub rest : all_zeros (drop (24 * y.count) t) ≡ true
  pub total : y.total.0 ≡ total (at (read_regions y.count t)) top
