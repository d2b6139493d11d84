-- What the loop of `take_ranges` keeps.
use Rattle.std.proofs.Common.{◌≡◌, ◌+◌, ◌*◌, ◌/◌, true, length}
use Rattle.std.specs.Slice.Iter.{chunks_exact_rest, chunks_exact_size}
use Rattle.block.specs.Block.{current, good}
use Rattle.intake.specs.Turns.{steps, in_turn}
use Rattle.board.specs.Board.{entries, on_ranges}
use Rattle.board.proofs.Regs.{EntriesIn}
use Rattle.board.proofs.ranges.take_ranges.Given as goal

abbrev pub invariant-loop-entry : goal.invariant-loop-entry
invariant-loop-entry l = record {
  width : chunks_exact_size l.entry-iterator ≡ 4 * (l.cells.address + l.cells.size);
  good : good current l.block ≡ true;
  same : in_turn (steps current (on_ranges l.verb (entries (length l.value / (4 * (l.cells.address + l.cells.size))) l.cells.address l.cells.size l.value))) l.initial.block
      ≡ in_turn (steps current (on_ranges l.verb (EntriesIn l.cells (chunks_exact_rest l.entry-iterator)))) l.block;
}
