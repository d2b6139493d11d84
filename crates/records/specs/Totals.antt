-- A table's count and total. Assumes nothing.
use Rattle.std.specs.Prelude.{List, length}
use Rattle.regions.specs.declared.Region.{Region}
use Rattle.regions.specs.Meaning.{at, total, top}
use Rattle.records.specs.declared.table.Tally.{Tally}

-- a table's count and total
abbrev pub tally : List Region → Tally
tally xs = record { count = length xs; total = record { 0 = total (at xs) top } }
