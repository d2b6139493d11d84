-- `values::Trees::cell_count` meets its contract.
use Rattle.std.proofs.Common.{rules}
use Rattle.values.proofs.Nodes.{root_node}
use Rattle.values.proofs.Trees.cell_count.Goals as goal

pub number_of-requires : goal.number_of-requires
number_of-requires c = search (root_node, rules)
