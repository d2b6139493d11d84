-- Demand 1's second sentence, of every call and any bytes, and what a call that is done leaves. Assumes nothing.
use Rattle.std.specs.Prelude.{ℕ, ◌≡◌, true, List, [], length, replicate}
use Rattle.block.specs.Block.{current, good}
use Rattle.memblock.specs.Calls.{Call, to_fresh, to_set, to_set_image_end, to_command, to_trim, to_find, to_next_free, to_allocate, to_pages, to_intake, to_intake_tree, to_intake_trees, to_convert, answer_of}

-- the slip that is lent to a call; a call that takes none has one of no bytes
abbrev pub slip_lent : Call → List ℕ
slip_lent to_fresh = []
slip_lent (to_set limit direction) = []
slip_lent (to_set_image_end image) = []
slip_lent (to_command c) = []
slip_lent (to_trim align) = []
slip_lent (to_find q slip) = slip
slip_lent (to_next_free from node wish slip) = slip
slip_lent (to_allocate q slip) = slip
slip_lent (to_pages page buffer slip) = slip
slip_lent (to_intake report) = []
slip_lent (to_intake_tree tree) = []
slip_lent (to_intake_trees board service) = []
slip_lent (to_convert old) = []

-- the buffer that is lent to a call to be filled; a call that fills none has one of no bytes
abbrev pub buffer_lent : Call → List ℕ
buffer_lent to_fresh = []
buffer_lent (to_set limit direction) = []
buffer_lent (to_set_image_end image) = []
buffer_lent (to_command c) = []
buffer_lent (to_trim align) = []
buffer_lent (to_find q slip) = []
buffer_lent (to_next_free from node wish slip) = []
buffer_lent (to_allocate q slip) = []
buffer_lent (to_pages page buffer slip) = buffer
buffer_lent (to_intake report) = []
buffer_lent (to_intake_tree tree) = []
buffer_lent (to_intake_trees board service) = []
buffer_lent (to_convert old) = []

-- the block and the buffer are untouched, byte for byte, a slip of 16 bytes all zero, and one of another length as lent
pub record Untouched (c : Call) (b : List ℕ) : Type 0 where
  pub block : (answer_of c b).block ≡ b
  pub buffer : (answer_of c b).buffer ≡ buffer_lent c
  pub zero : length (slip_lent c) ≡ 16 → (answer_of c b).slip ≡ replicate 16 0
  pub lent : (length (slip_lent c) ≡ 16 → ⊥) → (answer_of c b).slip ≡ slip_lent c

-- a refusal leaves all so
abbrev pub RefusalSentence : Type 0
RefusalSentence = (c : Call) (b : List ℕ) → ((answer_of c b).number ≡ 0 → ⊥) → Untouched c b

-- a call that is done leaves a good block
abbrev pub DoneSentence : Type 0
DoneSentence = (c : Call) (b : List ℕ) → (answer_of c b).number ≡ 0 → good current (answer_of c b).block ≡ true
