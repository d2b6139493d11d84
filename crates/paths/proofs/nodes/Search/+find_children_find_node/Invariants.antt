-- What the loop of `find_children` keeps, how far it has to go, and how deep the two functions still go.
use Prim.Native.Nat.{◌+◌, ◌-◌, ◌*◌, ◌≤◌}
use lib.ListN.{length, drop}
use mathlib.Core.Bool.{Bool, true}
use mathlib.Core.Path.{◌≡◌}
use Rattle.tree.specs.Steps.{rest_at, contents_at, places_at}
use Rattle.paths.specs.Steps.{seek, way_of}
use Rattle.paths.proofs.nodes.Search.+find_children_find_node.Given as goal

-- a node calls for its children with the same `left`, they for a node with one less
abbrev pub decreases-find_children : goal.decreases-find_children
decreases-find_children l = 2 * l.left

abbrev pub decreases-find_node : goal.decreases-find_node
decreases-find_node l = 2 * l.left + 1

abbrev pub invariant-find_children-loop-i : goal.invariant-find_children-loop-i
invariant-find_children-loop-i l =
    (l.at ≤ l.i) × (l.i ≤ length l.self.tree.structure.bytes.now)
    × (rest_at l.self.tree.structure.names l.self.tree.structure.bytes.now (16 - l.left) true l.at
    ≡ rest_at l.self.tree.structure.names l.self.tree.structure.bytes.now (16 - l.left) true l.i)
    × (drop 1 (contents_at l.self.tree.structure.names l.self.tree.structure.bytes.now l.at)
    ≡ drop 1 (contents_at l.self.tree.structure.names l.self.tree.structure.bytes.now l.i))
    × ((here : Bool)
    → seek l.self.tree.strings.now l.self.name.now (drop l.done (way_of l.self.way)) here (places_at l.self.tree.structure.names l.self.tree.structure.bytes.now l.at)
    ≡ seek l.self.tree.strings.now l.self.name.now (drop l.done (way_of l.self.way)) here (places_at l.self.tree.structure.names l.self.tree.structure.bytes.now l.i))

abbrev pub decreases-find_children-loop-i : goal.decreases-find_children-loop-i
decreases-find_children-loop-i l = length l.self.tree.structure.bytes.now - l.i
