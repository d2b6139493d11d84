-- `address::round_down` meets its contract.
use Rattle.address.proofs.Rounding.{rest_le}
use borrow.Author.Rules.{rules}
use Rattle.address.proofs.round_down.Goals as goal

pub overflow_sub-result : goal.overflow_sub-result
overflow_sub-result c = search (rest_le, rules)
