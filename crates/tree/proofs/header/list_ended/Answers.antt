-- `tree::header::list_ended` meets its contract.
use Rattle.tree.proofs.Heading.{list_start, list_hit, list_next, list_over}
use borrow.Author.Rules.{rules}
use Rattle.tree.proofs.header.list_ended.Goals as goal

pub loop-i-init : goal.loop-i-init
loop-i-init c = list_start _ _

pub returns-then-is_end : goal.returns-then-is_end
returns-then-is_end c = search (list_hit, rules)

pub loop-i-preserved : goal.loop-i-preserved
loop-i-preserved c = search (list_next, rules)

pub returns : goal.returns
returns c = search (list_over, rules)
