-- Document 01's numbers, with those of the change requests. Assumes nothing.
use Rattle.std.specs.Prelude.{ℕ, Result, Ok, Err}
use Rattle.refusals.specs.declared.Refusal.{Refusal}
use Rattle.refusals.specs.declared.Refusal.TheVariants.{Block, Tag, Alignment, Size, Nowhere, Full, Direction, Slip, Report, Tree, NotTaken, Line, Lines}

-- a refusal's number
abbrev pub number : Refusal → ℕ
number Block = 1
number Tag = 2
number Alignment = 3
number Size = 4
number Nowhere = 5
number Full = 6
number Direction = 7
number Slip = 8
number Report = 10
number Tree = 11
number NotTaken = 12
number Line = 13
number Lines = 14

-- what boot code gets: 0 for done
abbrev pub answered : Result (Unit {0}) Refusal → ℕ
answered (Ok x) = 0
answered (Err r) = number r
