-- What the loop of `Span::raise` keeps, and how far it has to go.
use Prim.Native.Nat.{◌-◌}
use Rattle.pages.specs.Steps.{Sized}
use Rattle.pages.proofs.Span.raise.Given as goal

abbrev pub invariant-loop-order : goal.invariant-loop-order
invariant-loop-order l = Sized (record { order = l.order; size = l.size })

abbrev pub decreases-loop-order : goal.decreases-loop-order
decreases-loop-order l = 10 - l.order
