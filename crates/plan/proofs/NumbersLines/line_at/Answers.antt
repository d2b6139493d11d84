-- `plan::NumbersLines::line_at` meets its contract.
use native.Mathlib.Omega.{arith}
use Rattle.plan.proofs.Walking.{line_is, lines_long}
use borrow.Author.Rules.{rules}
use Rattle.plan.proofs.NumbersLines.line_at.Goals as goal

pub returns : goal.returns
returns c = line_is _ _ _ (omega (arith, lines_long)) (search rules)
