-- What the loop of `fill_each` keeps.
use Rattle.plan.proofs.Filling.{Upto}
use Rattle.plan.proofs.fill_each.Given as goal

abbrev pub invariant-loop-r : goal.invariant-loop-r
invariant-loop-r l = Upto l.initial.t l.initial.held l.ranges l.t l.held l.r-index
