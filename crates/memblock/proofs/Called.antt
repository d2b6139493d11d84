-- A function without a slip, and its line in the table of calls. Assumes nothing.
use Prim.Native.Nat.{ℕ}
use mathlib.Core.Path.{◌≡◌, ap}
use mathlib.Core.List.{List, []}
use Rattle.range.specs.Outcomes.{Outcome, outcome}
use Rattle.search.specs.Answers.{answer}
use Rattle.memblock.specs.Calls.{plain}

pub called : (n : ℕ) (e : List ℕ) (o : Outcome) → outcome n e ≡ o → answer n e [] ≡ plain o
called n e o h = ap plain h
