-- What the loop of `read_full` keeps, and how far it has to go.
use Rattle.std.proofs.Common.{◌-◌, ◌≤◌, length}
use Rattle.program.proofs.read_full.Given as goal

abbrev pub invariant-loop-done : goal.invariant-loop-done
invariant-loop-done l = l.done ≤ length l.room

abbrev pub decreases-loop-done : goal.decreases-loop-done
decreases-loop-done l = length l.initial.room - l.done
