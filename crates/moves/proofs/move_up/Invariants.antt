-- What the loops of `move_up` keep, and how far the first has to go.
use Rattle.std.proofs.Common.{◌≤◌}
use Rattle.moves.proofs.Moving.{Up}
use Rattle.moves.proofs.move_up.Given as goal

abbrev pub invariant-loop-left : goal.invariant-loop-left
invariant-loop-left l = (l.from ≤ l.left) × Up l.fn.t l.end l.by l.t l.left

abbrev pub decreases-loop-left : goal.decreases-loop-left
decreases-loop-left l = l.left

abbrev pub invariant-loop-i : goal.invariant-loop-i
invariant-loop-i l = (l.from ≤ l.i) × Up l.fn.t l.end l.by l.t l.i
