-- What the loop of `read_stop` keeps, and how far it has to go.
use Prim.Native.Nat.{◌-◌, ◌≤◌}
use mathlib.Core.Bool.{true}
use mathlib.Core.Path.{◌≡◌}
use lib.ListN.{length}
use Rattle.tree.specs.Steps.{rest_at}
use Rattle.tree.proofs.reader.Structure.read_stop.Given as goal

abbrev pub invariant-loop-i : goal.invariant-loop-i
invariant-loop-i l = (l.i ≤ length l.self.bytes.now) × (rest_at l.self.names l.self.bytes.now 0 true l.at ≡ rest_at l.self.names l.self.bytes.now 0 true l.i)

abbrev pub decreases-loop-i : goal.decreases-loop-i
decreases-loop-i l = length l.self.bytes.now - l.i
