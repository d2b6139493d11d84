-- What a plan answers and leaves: as a call of the table of calls does, and an index beside the number. Assumes nothing.
use Rattle.std.specs.Prelude.{ℕ, List, [], Result, Ok, Err}
use Rattle.refusals.specs.Numbers.{number}
use Rattle.plan.specs.declared.Fault.{Fault}

-- the number, the index beside it, and every byte of the block, of the answer slip and of the buffer; a plan has neither, so they are of no bytes
pub record Answer : Type 0 where
  pub number : ℕ
  pub index : ℕ
  pub block : List ℕ
  pub slip : List ℕ
  pub buffer : List ℕ

-- at index 0
abbrev pub answer : ℕ → List ℕ → List ℕ → Answer
answer n b slip = record { number = n; index = 0; block = b; slip = slip; buffer = [] }

-- with an index beside the number
abbrev pub with_index : ℕ → Answer → Answer
with_index i a = record { number = a.number; index = i; block = a.block; slip = a.slip; buffer = a.buffer }

-- the number that stands for a result, 0 for an accepted plan, and the index beside it
abbrev pub number_of : Result Unit Fault → ℕ
number_of (Ok _) = 0
number_of (Err f) = number f.refusal

abbrev pub index_of : Result Unit Fault → ℕ
index_of (Ok _) = 0
index_of (Err f) = f.index
