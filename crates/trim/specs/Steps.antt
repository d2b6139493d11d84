-- What trim leaves of a record and of a table. Only inner contracts and proofs cite this module. Assumes nothing.
use Rattle.std.specs.Prelude.{ℕ, ◌/◌, ◌≡◌, List, [], ◌∷◌, length, Option, Some, None}
use Rattle.regions.specs.declared.Region.{Region}
use Rattle.regions.specs.Bytes.{table_bytes}
use Rattle.records.specs.declared.table.Tally.{Tally}
use Rattle.records.specs.Totals.{tally}

-- what is left of a record, as a list
abbrev pub left_of : Option Region → List Region
left_of (Some r) = r ∷ []
left_of None = []

-- a table of bytes t that now holds the list xs has the bytes e, and y is answered
pub record Trimmed (t e : List ℕ) (xs : List Region) (y : Tally) : Type 0 where
  pub answer : y ≡ tally xs
  pub after : e ≡ table_bytes (length t / 24) xs
