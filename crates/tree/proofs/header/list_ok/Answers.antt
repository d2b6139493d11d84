-- `tree::header::list_ok` meets its contract.
use Rattle.std.proofs.Common.{arith}
use Rattle.std.proofs.lemmas.Grind.{common_steps}
use Rattle.tree.specs.Header.{list}
use Rattle.tree.proofs.Heading.{list_none}
use Rattle.tree.proofs.header.list_ok.Goals as goal

pub returns-then-end-at : goal.returns-then-end-at
unfolding list
returns-then-end-at c = grind (arith, common_steps, list_none)
