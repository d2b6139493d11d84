-- What the loop of `first_lines` keeps.
use Rattle.plan.specs.Numbers.{lists}
use Rattle.planlib.proofs.Filling.{Filled}
use Rattle.planlib.proofs.first_lines.Given as goal

abbrev pub invariant-loop-i : goal.invariant-loop-i
invariant-loop-i l = Filled (lists l.numbers) l.i l.lines
