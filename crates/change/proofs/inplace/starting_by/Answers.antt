-- `change::inplace::starting_by` meets its contract.
use Rattle.change.proofs.Meeting.{begins_start, begins_hit, begins_next, begins_end}
use borrow.Author.Rules.{rules}
use Rattle.change.proofs.inplace.starting_by.Goals as goal

pub loop-i-init : goal.loop-i-init
loop-i-init c = search (begins_start, rules)

pub returns-then-a-get_u64 : goal.returns-then-a-get_u64
returns-then-a-get_u64 c = search (begins_hit, rules)

pub loop-i-preserved : goal.loop-i-preserved
loop-i-preserved c = search (begins_next, rules)

pub returns : goal.returns
returns c = search (begins_end, rules)
