-- `lists::grown` meets its contract.
use Rattle.std.proofs.Common.{rules}
use Rattle.lists.proofs.Pushing.{grown_fits, grown_by}
use Rattle.lists.proofs.grown.Goals as goal

pub add-requires : goal.add-requires
add-requires c = search (grown_fits, rules)

pub returns : goal.returns
returns c = search (grown_by, rules)
