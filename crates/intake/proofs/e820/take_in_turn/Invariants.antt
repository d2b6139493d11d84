-- What the loop of `take_in_turn` keeps.
use Rattle.std.proofs.Common.{◌≡◌, ◌/◌, true, length}
use Rattle.block.specs.Block.{current, good}
use Rattle.intake.specs.E820.{entries, entry_steps}
use Rattle.intake.specs.Turns.{in_turn}
use Rattle.intake.proofs.Turns.{Rest}
use Rattle.intake.proofs.e820.take_in_turn.Given as goal

abbrev pub invariant-loop-i : goal.invariant-loop-i
invariant-loop-i l =
    (length l.block ≡ length l.initial.block) × ((good current l.block ≡ true) × (in_turn (entry_steps current (entries l.report)) l.initial.block ≡ Rest l.report (length l.report / 20) l.i l.block))
