-- The table of calls: every entry point that is lent a block, with its numbers and what else it is lent, and what it answers and leaves; the contract of each
-- of these functions is the equation with its line here. Then lists of calls on one block. Assumes nothing.
use Rattle.std.specs.Prelude.{ℕ, List, [], ◌∷◌}
use Rattle.block.specs.Block.{current}
use Rattle.range.specs.Outcomes.{Outcome}
use Rattle.tables.specs.Commands.{fresh, set, set_image_end, Command, command_outcome, trim}
use Rattle.convert.specs.Convert.{convert}
use Rattle.intake.specs.E820.{intake_e820}
use Rattle.board.specs.Board.{intake_tree}
use Rattle.board.specs.Pairs.{intake_trees}
use Rattle.fits.specs.declared.Query.{Query}
use Rattle.search.specs.Answers.{Answer, answer, find, allocate, next_free}
use Rattle.pages.specs.Pages.{hand_over}

-- what a command on a range answers and leaves
abbrev pub outcome_of : Command → List ℕ → Outcome
outcome_of c b = command_outcome current c b

-- a call of any of them; a slip, and a buffer to be filled, is lent anew to each call that takes one
pub data Call : Type 0 where
  to_fresh : Call
  to_set : (limit direction : ℕ) → Call
  to_set_image_end : (image : ℕ) → Call
  to_command : Command → Call
  to_trim : (align : ℕ) → Call
  to_find : Query → (slip : List ℕ) → Call
  to_next_free : (from node wish : ℕ) → (slip : List ℕ) → Call
  to_allocate : Query → (slip : List ℕ) → Call
  to_pages : (page : ℕ) → (buffer slip : List ℕ) → Call
  to_intake : (report : List ℕ) → Call
  to_intake_tree : (tree : List ℕ) → Call
  to_intake_trees : (board service : List ℕ) → Call
  to_convert : (old : List ℕ) → Call

-- a call without a slip or a buffer leaves none
abbrev pub plain : Outcome → Answer
plain o = answer o.number o.block []

-- the number, the block, the slip and the buffer after a call, for any bytes
unfoldable pub answer_of : Call → List ℕ → Answer
answer_of to_fresh b = plain (fresh current b)
answer_of (to_set limit direction) b = plain (set current limit direction b)
answer_of (to_set_image_end image) b = plain (set_image_end current image b)
answer_of (to_command c) b = plain (outcome_of c b)
answer_of (to_trim align) b = plain (trim current align b)
answer_of (to_find q slip) b = find current q b slip
answer_of (to_next_free from node wish slip) b = next_free current from node wish b slip
answer_of (to_allocate q slip) b = allocate current q b slip
answer_of (to_pages page buffer slip) b = hand_over current page b buffer slip
answer_of (to_intake report) b = plain (intake_e820 current report b)
answer_of (to_intake_tree tree) b = plain (intake_tree current tree b)
answer_of (to_intake_trees board service) b = plain (intake_trees current board service b)
answer_of (to_convert old) b = plain (convert old b)

-- the answers of a list of calls, each on the block that the one before it left
unfoldable pub answers : List Call → List ℕ → List Answer
answers [] b = []
answers (c ∷ cs) b = answer_of c b ∷ answers cs (answer_of c b).block

-- the block that a list of calls leaves
unfoldable pub leaves : List Call → List ℕ → List ℕ
leaves [] b = b
leaves (c ∷ cs) b = leaves cs (answer_of c b).block
