-- What the loop of `read_children` keeps, how far it has to go, and how deep the two functions still go.
use Prim.Native.Nat.{◌≤◌, ◌+◌, ◌-◌, ◌*◌}
use mathlib.Core.Bool.{true}
use mathlib.Core.Path.{◌≡◌}
use lib.ListN.{length, drop}
use Rattle.tree.specs.Steps.{rest_at, contents_at}
use Rattle.tree.proofs.reader.Structure.+read_children_read_node.Given as goal

-- a node calls for its children with the same `left`, they for a node with one less
abbrev pub decreases-read_children : goal.decreases-read_children
decreases-read_children l = 2 * l.left

abbrev pub decreases-read_node : goal.decreases-read_node
decreases-read_node l = 2 * l.left + 1

abbrev pub invariant-read_children-loop-i : goal.invariant-read_children-loop-i
invariant-read_children-loop-i l =
    (l.at ≤ l.i) × ((l.i ≤ length l.self.bytes.now)
    × ((rest_at l.self.names l.self.bytes.now (16 - l.left) true l.at ≡ rest_at l.self.names l.self.bytes.now (16 - l.left) true l.i)
    × (drop 1 (contents_at l.self.names l.self.bytes.now l.at) ≡ drop 1 (contents_at l.self.names l.self.bytes.now l.i))))

abbrev pub decreases-read_children-loop-i : goal.decreases-read_children-loop-i
decreases-read_children-loop-i l = length l.self.bytes.now - l.i
