-- `seek::next_in` meets its contract.
use Rattle.seek.proofs.InBlock.{next_ready, next_found}
use borrow.Author.Rules.{rules}
use Rattle.seek.proofs.next_in.Goals as goal

pub first_in-requires : goal.first_in-requires
first_in-requires c = search (next_ready, rules)

pub returns : goal.returns
returns c = search (next_found, rules)
