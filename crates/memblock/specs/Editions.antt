-- E4's sentence on blocks of edition 1 and of other lengths, of every call. Assumes nothing.
use Rattle.std.specs.Prelude.{ℕ, ◌≡◌, Bool, true, List, eqb, length}
use Rattle.block.specs.Block.{current, block_length, edition_one, good}
use Rattle.memblock.specs.Calls.{Call, to_fresh, to_set, to_set_image_end, to_command, to_trim, to_find, to_next_free, to_allocate, to_pages, to_intake, to_intake_tree, to_intake_trees, to_convert, answer_of}

-- the call takes no slip, or is lent one of 16 bytes: else it gets 8, which is checked first
abbrev pub slip_fits : Call → Bool
slip_fits to_fresh = true
slip_fits (to_set limit direction) = true
slip_fits (to_set_image_end image) = true
slip_fits (to_command c) = true
slip_fits (to_trim align) = true
slip_fits (to_find q slip) = eqb (length slip) 16
slip_fits (to_next_free from node wish slip) = eqb (length slip) 16
slip_fits (to_allocate q slip) = eqb (length slip) 16
slip_fits (to_pages page buffer slip) = eqb (length slip) 16
slip_fits (to_intake report) = true
slip_fits (to_intake_tree tree) = true
slip_fits (to_intake_trees board service) = true
slip_fits (to_convert old) = true

-- edition 1 blocks, and any other length, get number 1 from every command, as the block that it works on; convert reads an edition 1 block beside it
pub record EditionSentence : Type 0 where
  pub other_length : (c : Call) (b : List ℕ) → (length b ≡ block_length current → ⊥) → slip_fits c ≡ true → (answer_of c b).number ≡ 1
  pub edition_one : (c : Call) (b : List ℕ) → good edition_one b ≡ true → slip_fits c ≡ true → (answer_of c b).number ≡ 1
