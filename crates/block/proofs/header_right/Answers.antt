-- `block::header_right` meets its contract.
use Rattle.block.proofs.Headers.{header_compared}
use borrow.Author.Rules.{rules}
use Rattle.block.proofs.header_right.Goals as goal

pub returns : goal.returns
returns c = search (header_compared, rules)
