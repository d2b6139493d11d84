-- `moves::move_down` meets its contract.
use Rattle.std.proofs.Common.{arith, rules}
use Rattle.moves.proofs.Moving.{none_down, down_four, down_one}
use Rattle.moves.proofs.move_down.Goals as goal

pub loop-done-init : goal.loop-done-init
loop-done-init c = search (none_down, rules)

pub loop-done-preserved : goal.loop-done-preserved
loop-done-preserved c = (search rules, down_four _ _ _ _ _ c.loop-done.invariant.1 (omega arith) _ (omega arith) c.copy_piece.ensures)

pub loop-i-preserved : goal.loop-i-preserved
loop-i-preserved c = down_one _ _ _ _ _ c.loop-i.invariant (omega arith) _ (omega arith) c.copy_piece-in-loop-i.ensures
