-- What the loops of `move_down` keep, and how far the first has to go.
use Rattle.std.proofs.Common.{◌-◌, ◌≤◌}
use Rattle.moves.proofs.Moving.{Down}
use Rattle.moves.proofs.move_down.Given as goal

abbrev pub invariant-loop-done : goal.invariant-loop-done
invariant-loop-done l = (l.done ≤ l.end) × Down l.fn.t l.from l.by l.t l.done

abbrev pub decreases-loop-done : goal.decreases-loop-done
decreases-loop-done l = l.end - l.done

abbrev pub invariant-loop-i : goal.invariant-loop-i
invariant-loop-i l = Down l.fn.t l.from l.by l.t l.i
