-- What the tests' two functions answer. Assumes nothing.
use Rattle.std.specs.Prelude.{ℕ, ◌/◌, ◌%◌, min, List, []}
use Rattle.plan.specs.Answers.{Answer, answer, with_index}
use Rattle.plan.specs.declared.Line.{Line}
use Rattle.plan.specs.Numbers.{Numbers, lines_from, count_of}

-- one number for two: the number below 2 ^ 32, the index above it; and the block
abbrev pub packed_answer : ℕ → List ℕ → Answer
packed_answer r b = with_index (r / 4294967296) (answer (r % 4294967296) b [])

-- as many lines as the shortest list has, at most 65
abbrev pub first_lines : Numbers → List Line
first_lines x = lines_from x 0 (min (count_of x) 65)
