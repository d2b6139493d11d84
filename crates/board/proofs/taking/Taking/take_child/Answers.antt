-- `board::taking::Taking::take_child` meets its contract.
use Rattle.std.proofs.Common.{rules}
use Rattle.values.proofs.Nodes.{child_node}
use Rattle.board.proofs.Passes.{node_memory}
use Rattle.board.proofs.taking.Taking.take_child.Goals as goal

pub take_memory-requires : goal.take_memory-requires
take_memory-requires c = (search rules, search rules, search (child_node, rules), search (node_memory, rules))
