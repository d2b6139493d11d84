-- What the loop of `find_property` keeps, and how far it has to go.
use Prim.Native.Nat.{◌-◌, ◌≤◌}
use mathlib.Core.Path.{◌≡◌}
use lib.ListN.{length}
use Rattle.tree.specs.Steps.{places_at}
use Rattle.lookup.specs.Values.{value_of}
use Rattle.lookup.proofs.find_property.Given as goal

abbrev pub invariant-loop-i : goal.invariant-loop-i
invariant-loop-i l =
    (l.i ≤ length l.tree.structure.bytes.now) × (value_of l.tree.strings.now l.name (places_at l.tree.structure.names l.tree.structure.bytes.now l.at) ≡ value_of l.tree.strings.now l.name (places_at l.tree.structure.names l.tree.structure.bytes.now l.i))

abbrev pub decreases-loop-i : goal.decreases-loop-i
decreases-loop-i l = length l.tree.structure.bytes.now - l.i
