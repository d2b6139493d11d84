-- What the loop of `take_list` keeps.
use Rattle.std.proofs.Common.{◌≡◌, true}
use Rattle.std.specs.Slice.Iter.{chunks_exact_rest, chunks_exact_size}
use Rattle.block.specs.Block.{current, good}
use Rattle.tables.specs.declared.commands.Verb.TheVariants.{Reserve}
use Rattle.intake.specs.Turns.{steps, in_turn}
use Rattle.board.specs.Board.{on_ranges}
use Rattle.board.proofs.Regs.{ListIn}
use Rattle.board.proofs.ranges.take_list.Given as goal

abbrev pub invariant-loop-pair : goal.invariant-loop-pair
invariant-loop-pair l = record {
  width : chunks_exact_size l.pair-iterator ≡ 16;
  good : good current l.block ≡ true;
  same : in_turn (steps current (on_ranges Reserve (ListIn l.list))) l.initial.block ≡ in_turn (steps current (on_ranges Reserve (ListIn (chunks_exact_rest l.pair-iterator)))) l.block;
}
