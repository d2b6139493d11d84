-- `change::gap::clear_from` meets its contract.
use Rattle.change.proofs.Filling.{clear_end, clear_here}
use borrow.Author.Rules.{rules}
use Rattle.change.proofs.gap.clear_from.Goals as goal

pub returns-then-t-i : goal.returns-then-t-i
returns-then-t-i c = search (clear_end, rules)

pub returns-else-t-i : goal.returns-else-t-i
returns-else-t-i c = search (clear_here, rules)
