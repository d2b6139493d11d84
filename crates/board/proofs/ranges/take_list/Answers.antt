-- `board::ranges::take_list` meets its contract.
use Rattle.std.proofs.Common.{rules, ◌∙◌}
use Rattle.std.proofs.lemmas.Result.{err_from_is_err_and}
use Rattle.intake.proofs.Good.{command_kept}
use Rattle.board.proofs.Regs.{list_over, list_ended, list_refused, list_next}
use Rattle.board.proofs.ranges.take_list.Goals as goal

pub returns-then-is_end : goal.returns-then-is_end
returns-then-is_end c = let s = c.in-Some.ensures.steps.1 in search (list_ended, rules, s.0, s.1)

pub returns-in_err-on_good : goal.returns-in_err-on_good
returns-in_err-on_good c =
    let s = c.in-Some.ensures.steps.1 in
    let p = err_from_is_err_and c.from_residual.result c.from_residual.ensures.1 in
    rw (p.1, p.2) (list_refused _ _ c.loop-pair.invariant.width _ _ s.0 s.1 _ _ c.loop-pair.invariant.same _ _ c.double_at-base.ensures c.double_at-size.ensures _ c.is_end.ensures c.if-is_end.false _ _ c.in_err-on_good.ensures)

pub loop-pair-preserved : goal.loop-pair-preserved
loop-pair-preserved c =
    let s = c.in-Some.ensures.steps.1 in
    record {
      width = c.in-Some.ensures.steps.0 ∙ c.loop-pair.invariant.width;
      good = command_kept _ _ c.loop-pair.invariant.good _ _ c.in_ok-on_good.ensures;
      same = list_next _ _ c.loop-pair.invariant.width _ _ s.0 s.1 _ _ c.loop-pair.invariant.same _ _ c.double_at-base.ensures c.double_at-size.ensures _ c.is_end.ensures c.if-is_end.false _ c.in_ok-on_good.ensures;
    }

pub returns : goal.returns
returns c = let s = c.in-None.ensures.steps.1 in search (list_over, rules, s.0)
