-- `paths::nodes::look_up` meets its contract.
use Rattle.paths.proofs.Listing.{look_found, look_missed}
use borrow.Author.Rules.{rules}
use Rattle.paths.proofs.nodes.look_up.Goals as goal

pub returns-in-Break : goal.returns-in-Break
returns-in-Break c = search (look_found, rules)

pub returns-in-Continue : goal.returns-in-Continue
returns-in-Continue c = search (look_missed, rules)
