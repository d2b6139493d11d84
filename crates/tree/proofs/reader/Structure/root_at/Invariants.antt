-- What the loop of `root_at` keeps, and how far it has to go.
use Prim.Native.Nat.{◌-◌, ◌≤◌}
use mathlib.Core.Path.{◌≡◌}
use mathlib.Core.Bool.{false}
use lib.ListN.{length}
use Rattle.tree.specs.Steps.{rest_at, contents_at}
use Rattle.tree.proofs.reader.Structure.root_at.Given as goal

abbrev pub invariant-loop-i : goal.invariant-loop-i
invariant-loop-i l = (l.i ≤ length l.self.bytes.now) × ((rest_at l.self.names l.self.bytes.now 0 false 0 ≡ rest_at l.self.names l.self.bytes.now 0 false l.i) × (contents_at l.self.names l.self.bytes.now 0 ≡ contents_at l.self.names l.self.bytes.now l.i))

abbrev pub decreases-loop-i : goal.decreases-loop-i
decreases-loop-i l = length l.self.bytes.now - l.i
