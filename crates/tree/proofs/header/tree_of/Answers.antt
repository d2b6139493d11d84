-- `tree::header::tree_of` meets its contract.
use Rattle.tree.proofs.Heading.{formed_header, formed_parts, block_formed, tree_is}
use borrow.Author.Rules.{rules}
use Rattle.tree.proofs.header.tree_of.Goals as goal

pub strings-requires : goal.strings-requires
strings-requires c = (search (formed_header, rules), search (formed_parts, rules))

pub structure-requires : goal.structure-requires
structure-requires c = (search (formed_header, rules), search (formed_parts, rules))

pub root_of-requires : goal.root_of-requires
root_of-requires c = search (block_formed, rules)

pub returns : goal.returns
returns c = search (tree_is, rules)
