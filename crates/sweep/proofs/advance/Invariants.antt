-- What the loop of `advance` keeps, and how far it has to go.
use Prim.Native.Nat.{◌+◌, ◌-◌}
use Rattle.sweep.proofs.Tables.{Sweeps}
use Rattle.sweep.proofs.advance.Given as goal

abbrev pub invariant-loop-low : goal.invariant-loop-low
invariant-loop-low l = Sweeps l.t l.initial.low l.low l.top l.i l.j l.next

abbrev pub decreases-loop-low : goal.decreases-loop-low
decreases-loop-low l = (l.t.memory.count - l.i) + (l.t.taken.count - l.j)
