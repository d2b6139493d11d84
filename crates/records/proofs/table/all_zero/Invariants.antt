-- What the loop of `all_zero` keeps, and how far it has to go.
use Rattle.std.proofs.Common.{◌≡◌, ◌≤◌, true, length, drop}
use Rattle.records.specs.Checks.{all_zeros}
use Rattle.records.proofs.table.all_zero.Given as goal

abbrev pub invariant-loop-i : goal.invariant-loop-i
invariant-loop-i l = (l.at ≤ l.i) × ((l.i ≤ length l.t) × (all_zeros (drop l.i l.t) ≡ true))

abbrev pub decreases-loop-i : goal.decreases-loop-i
decreases-loop-i l = l.i
