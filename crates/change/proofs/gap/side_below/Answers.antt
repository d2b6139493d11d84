-- `change::gap::side_below` meets its contract.
use Rattle.change.proofs.Filling.{under_none, under_grown, under_apart}
use borrow.Author.Rules.{rules}
use Rattle.change.proofs.gap.side_below.Goals as goal

pub returns-then-i-eq0 : goal.returns-then-i-eq0
returns-then-i-eq0 c = search (under_none, rules)

pub returns-then-joins : goal.returns-then-joins
returns-then-joins c = search (under_grown, rules)

pub returns : goal.returns
returns c = search (under_apart, rules)
