-- `board::ranges::take_ranges` meets its contract.
use Rattle.std.proofs.Common.{rules, ◌∙◌}
use Rattle.std.proofs.lemmas.Result.{err_from_is_err_and}
use Rattle.intake.proofs.Good.{command_kept}
use Rattle.board.proofs.Regs.{entries_done, entries_refused, entries_next}
use Rattle.board.proofs.ranges.take_ranges.Goals as goal

pub returns-in_err-on_good : goal.returns-in_err-on_good
returns-in_err-on_good c =
    let s = c.in-Some.ensures.steps.1 in
    let p = err_from_is_err_and c.from_residual.result c.from_residual.ensures.1 in
    rw (p.1, p.2) (entries_refused _ _ c.requires.2 _ _ c.loop-entry.invariant.width _ _ s.0 s.1 _ _ c.loop-entry.invariant.same _ _ c.cells_at-base.ensures c.cells_at-size.ensures _ _ c.in_err-on_good.ensures)

pub loop-entry-preserved : goal.loop-entry-preserved
loop-entry-preserved c =
    let s = c.in-Some.ensures.steps.1 in
    record {
      width = c.in-Some.ensures.steps.0 ∙ c.loop-entry.invariant.width;
      good = command_kept _ _ c.loop-entry.invariant.good _ _ c.in_ok-on_good.ensures;
      same = entries_next _ _ c.requires.2 _ _ c.loop-entry.invariant.width _ _ s.0 s.1 _ _ c.loop-entry.invariant.same _ _ c.cells_at-base.ensures c.cells_at-size.ensures _ c.in_ok-on_good.ensures;
    }

pub returns : goal.returns
returns c = let s = c.in-None.ensures.steps.1 in search (entries_done, rules, s.0)
