-- `tree::reader::root_of` meets its contract.
use Rattle.tree.proofs.Reading.{root_there, root_is}
use borrow.Author.Rules.{rules}
use Rattle.tree.proofs.reader.root_of.Goals as goal

pub unwrap-root-requires : goal.unwrap-root-requires
unwrap-root-requires c = search (root_there, rules)

pub returns : goal.returns
returns c = search (root_is, rules)
