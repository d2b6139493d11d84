-- `board::taking::Taking::take_children` meets its contract.
use Rattle.std.proofs.Common.{rules}
use Rattle.std.proofs.lemmas.Result.{err_from_is_err_and}
use Rattle.intake.proofs.Good.{turn_good}
use Rattle.values.specs.Steps.{FirstChild}
use Rattle.values.proofs.Children.{child_holds, rest_holds}
use Rattle.board.proofs.Passes.{children_done, children_refused, children_next}
use Rattle.board.proofs.taking.Taking.take_children.Goals as goal

pub take_child-requires : goal.take_child-requires
take_child-requires c = (search rules, search rules, search rules, search (child_holds, rules))

pub returns-in_err-take_child : goal.returns-in_err-take_child
returns-in_err-take_child c =
    let f : FirstChild c.args.self.now.trees c.loop-child.at c.in-Some.child c.in-Some.after = c.in-Some.ensures in
    let p = err_from_is_err_and c.from_residual.result c.from_residual.ensures.1 in
    rw (p.1, p.2) (children_refused _ _ _ _ _ _ _ f _ _ c.loop-child.invariant.same _ _ c.in_err-take_child.ensures)

pub loop-child-preserved : goal.loop-child-preserved
loop-child-preserved c =
    let f : FirstChild c.args.self.now.trees c.loop-child.at c.in-Some.child c.in-Some.after = c.in-Some.ensures in
    record {
      goes = f.first.goes;
      values = rest_holds _ _ _ _ c.loop-child.invariant.values _ _ f;
      good = turn_good _ _ c.loop-child.invariant.good _ _ c.in_ok-take_child.ensures;
      same = children_next _ _ _ _ _ _ _ f _ _ c.loop-child.invariant.same _ c.in_ok-take_child.ensures;
    }

pub returns : goal.returns
returns c = search (children_done, rules)
