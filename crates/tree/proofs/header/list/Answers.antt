-- `tree::header::list` meets its contract.
use Rattle.tree.proofs.Heading.{list_in, list_is}
use borrow.Author.Rules.{rules}
use Rattle.tree.proofs.header.list.Goals as goal

pub slice_bounds-result-count : goal.slice_bounds-result-count
slice_bounds-result-count c = search (list_in, rules)

pub slice_bounds-result-start : goal.slice_bounds-result-start
slice_bounds-result-start c = search (list_in, rules)

pub returns : goal.returns
returns c = search (list_is, rules)
