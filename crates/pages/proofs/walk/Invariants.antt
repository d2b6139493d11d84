-- What the loop of `walk` keeps, and how far it has to go.
use Rattle.pages.specs.Steps.{Sized}
use Rattle.pages.proofs.Walking.{Walked, ahead}
use Rattle.pages.proofs.walk.Given as goal

abbrev pub invariant-loop-pages : goal.invariant-loop-pages
invariant-loop-pages l = Walked l.t l.page l.initial.buffer l.count l.at l.buffer × Sized l.scale

abbrev pub decreases-loop-pages : goal.decreases-loop-pages
decreases-loop-pages l = ahead l.at
