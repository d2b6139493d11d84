-- `plan::begin` meets its contract.
use Rattle.plan.proofs.Judging.{begun_bad, begun_long, begun_fine}
use borrow.Author.Rules.{rules}
use Rattle.plan.proofs.begin.Goals as goal

pub returns-then-not-block_good : goal.returns-then-not-block_good
returns-then-not-block_good c = search (begun_bad, rules)

pub returns-then-count-gt-LINES : goal.returns-then-count-gt-LINES
returns-then-count-gt-LINES c = search (begun_long, rules)

pub returns : goal.returns
returns c = search (begun_fine, rules)
