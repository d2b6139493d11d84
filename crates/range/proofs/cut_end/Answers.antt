-- `range::cut_end` meets its contract.
use Rattle.range.proofs.Storing.{cut_past, cut_at}
use borrow.Author.Rules.{rules}
use Rattle.range.proofs.cut_end.Goals as goal

pub returns-in_default : goal.returns-in_default
returns-in_default c = search (cut_past, rules)

pub returns : goal.returns
returns c = search (cut_at, rules)
