-- What the loop of `Span::piece_at` keeps, and how far it has to go.
use Rattle.pages.specs.Steps.{Sized, NoneAbove}
use Rattle.pages.proofs.Span.piece_at.Given as goal

abbrev pub invariant-loop-order : goal.invariant-loop-order
invariant-loop-order l = Sized (record { order = l.order; size = l.size }) × NoneAbove l.self.first l.self.last l.page l.order

abbrev pub decreases-loop-order : goal.decreases-loop-order
decreases-loop-order l = l.order
