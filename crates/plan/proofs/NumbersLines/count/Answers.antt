-- `plan::NumbersLines::count` meets its contract.
use Rattle.plan.proofs.Walking.{count_is, lines_many}
use borrow.Author.Rules.{rules}
use Rattle.plan.proofs.NumbersLines.count.Goals as goal

pub returns : goal.returns
returns c = search (lines_many, count_is, rules)
