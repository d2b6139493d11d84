-- `board::taking::Taking::take_reserved` meets its contract.
use Rattle.std.proofs.Common.{rules}
use Rattle.std.proofs.lemmas.Result.{err_from_is_err_and}
use Rattle.intake.proofs.Good.{turn_good}
use Rattle.values.specs.Steps.{FirstBelow}
use Rattle.board.proofs.Passes.{reserved_done, reserved_refused, reserved_next}
use Rattle.board.proofs.taking.Taking.take_reserved.Goals as goal

pub returns-in_err-take_reservation : goal.returns-in_err-take_reservation
returns-in_err-take_reservation c =
    let f : FirstBelow c.args.self.now.trees c.args.child.now.name.now c.loop-node.at c.in-Some.node c.in-Some.after = c.in-Some.ensures in
    let p = err_from_is_err_and c.from_residual.result c.from_residual.ensures.1 in
    rw (p.1, p.2) (reserved_refused _ _ _ _ _ _ _ _ f _ _ c.loop-node.invariant.same _ _ c.in_err-take_reservation.ensures)

pub loop-node-preserved : goal.loop-node-preserved
loop-node-preserved c =
    let f : FirstBelow c.args.self.now.trees c.args.child.now.name.now c.loop-node.at c.in-Some.node c.in-Some.after = c.in-Some.ensures in
    record {
      goes = f.first.goes;
      good = turn_good _ _ c.loop-node.invariant.good _ _ c.in_ok-take_reservation.ensures;
      same = reserved_next _ _ _ _ _ _ _ _ f _ _ c.loop-node.invariant.same _ c.in_ok-take_reservation.ensures;
    }

pub returns : goal.returns
returns c = search (reserved_done, rules)
