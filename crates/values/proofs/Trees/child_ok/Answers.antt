-- `values::Trees::child_ok` meets its contract.
use Rattle.std.proofs.Common.{rules}
use Rattle.values.proofs.Nodes.{child_node}
use Rattle.values.proofs.Trees.child_ok.Goals as goal

pub memory_ok-requires : goal.memory_ok-requires
memory_ok-requires c = (search (child_node, rules), search rules)
