-- `values::Trees::next_below` meets its contract.
use Rattle.std.proofs.Common.{rules}
use Rattle.values.proofs.Nodes.{below_node}
use Rattle.values.proofs.Trees.next_below.Goals as goal

pub returns : goal.returns
returns c = search (below_node, rules)
