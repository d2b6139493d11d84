-- `moves::move_up` meets its contract.
use Rattle.std.proofs.Common.{◌≡◌, arith, rules}
use Rattle.moves.proofs.Moving.{none_up, up_four, up_one}
use Rattle.moves.proofs.move_up.Goals as goal

pub loop-left-init : goal.loop-left-init
loop-left-init c = search (none_up, rules)

pub loop-left-preserved : goal.loop-left-preserved
loop-left-preserved c = (search rules, up_four _ _ _ _ _ c.loop-left.invariant.1 (omega arith) _ (omega arith) _ c.copy_piece.ensures)

pub loop-i-preserved : goal.loop-i-preserved
loop-i-preserved c = (search rules, up_one _ _ _ _ _ c.loop-i.invariant.1 (omega arith) _ (omega arith) _ c.copy_piece-in-loop-i.ensures)

pub returns : goal.returns
returns c = let e : c.loop-i.i ≡ c.args.from = omega arith in rw e at c.loop-i.invariant.1.moved
