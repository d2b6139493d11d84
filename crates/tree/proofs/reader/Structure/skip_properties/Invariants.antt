-- What the loop of `skip_properties` keeps, and how far it has to go.
use Prim.Native.Nat.{◌-◌}
use lib.ListN.{length}
use Rattle.tree.proofs.Reading.{Passing}
use Rattle.tree.proofs.reader.Structure.skip_properties.Given as goal

abbrev pub invariant-loop-i : goal.invariant-loop-i
invariant-loop-i l = Passing l.self.names l.self.bytes.now l.at l.i

abbrev pub decreases-loop-i : goal.decreases-loop-i
decreases-loop-i l = length l.self.bytes.now - l.i
