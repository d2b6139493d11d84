-- A block of edition 1, or of another length than a block's, gets number 1 from every call. Assumes nothing.
use Prim.Native.Nat.{ℕ}
use mathlib.Core.Path.{◌≡◌, refl, sym, ◌∙◌}
use mathlib.Core.Bool.{Bool, true, false, cond, and-false}
use mathlib.Core.List.{List}
use native.Mathlib.Omega.{arith}
use lib.Dec.{eqb}
use lib.ListN.{length}
use borrow.Author.Tests.{ne_eqb}
use Rattle.block.specs.Block.{edition_one, current, block_length, good}
use Rattle.block.proofs.Blocks.{good_length, bad_length}
use Rattle.tables.specs.Commands.{command_outcome, fresh, set, set_image_end, trim}
use Rattle.convert.specs.Convert.{good_one, convert}
use Rattle.intake.specs.E820.{intake_e820}
use Rattle.board.specs.Board.{intake_tree}
use Rattle.board.specs.Pairs.{intake_trees}
use Rattle.search.specs.Answers.{Answer, asking, find, allocate, next_free}
use Rattle.pages.specs.Pages.{hand_over}
use Rattle.memblock.specs.Calls.{Call, to_fresh, to_set, to_set_image_end, to_command, to_trim, to_find, to_next_free, to_allocate, to_pages, to_intake, to_intake_tree, to_intake_trees, to_convert, answer_of}
use Rattle.memblock.specs.Editions.{slip_fits, EditionSentence}

-- the checks of a call with a slip
asked_one : (b slip : List ℕ) (x : Answer) (n : ℕ) (g : Bool) → g ≡ false → eqb (length slip) 16 ≡ true → (asking (cond g n 1) b slip x).number ≡ 1
asked_one b slip x n g e s = rw (e, s)

other_length : (c : Call) (b : List ℕ) → (length b ≡ block_length current → ⊥) → slip_fits c ≡ true → (answer_of c b).number ≡ 1
unfolding answer_of fresh set set_image_end command_outcome trim find next_free allocate hand_over intake_e820 intake_tree intake_trees convert
other_length c b d s = go c s
  where
    l : eqb (length b) (block_length current) ≡ false
    l = ne_eqb (length b) (block_length current) d

    bad : good current b ≡ false
    bad = sym (bad_length current b (block_length current) d refl)

    go : (c : Call) → slip_fits c ≡ true → (answer_of c b).number ≡ 1
    go to_fresh s = rw l
    go (to_set limit direction) s = rw bad
    go (to_set_image_end image) s = rw bad
    go (to_command c) s = rw bad
    go (to_trim align) s = rw bad
    go (to_find q slip) s = asked_one b slip _ _ (good current b) bad s
    go (to_next_free from node wish slip) s = asked_one b slip _ _ (good current b) bad s
    go (to_allocate q slip) s = asked_one b slip _ _ (good current b) bad s
    go (to_pages page buffer slip) s = rw (s, bad)
    go (to_intake report) s = rw bad
    go (to_intake_tree tree) s = rw bad
    go (to_intake_trees board service) s = rw bad
    go (to_convert old) s = rw (l, and-false (good_one old))

pub edition_sentence : EditionSentence
edition_sentence =
    record {
      other_length = other_length;
      edition_one = λ c b g. other_length c b (λ e. absurd (omega (arith, sym (good_length edition_one b g) ∙ e)));
    }
