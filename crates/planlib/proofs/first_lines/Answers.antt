-- `planlib::first_lines` meets its contract.
use native.Mathlib.Omega.{arith}
use Rattle.plan.proofs.Walking.{lines_long, line_here}
use Rattle.planlib.proofs.Filling.{filled_none, filled_more}
use borrow.Author.Rules.{rules}
use Rattle.planlib.proofs.first_lines.Goals as goal

pub loop-i-init : goal.loop-i-init
loop-i-init c = search (filled_none, rules)

pub loop-i-preserved : goal.loop-i-preserved
loop-i-preserved c =
    filled_more _ _ _ _ c.loop-i.invariant (omega arith) (line_here _ _ _ (omega (arith, lines_long)) c.line_at.ensures)
