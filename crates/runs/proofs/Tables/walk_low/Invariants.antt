-- What the loop of `Tables::walk_low` keeps, and how far it has to go.
use Rattle.runs.specs.Steps.{memory_of, taken_of, first_in}
use Rattle.fits.specs.declared.Way.TheVariants.{Up}
use Rattle.runs.proofs.Steps.{Walking, Gap, remain}
use Rattle.runs.proofs.Tables.walk_low.Given as goal

abbrev pub invariant-loop-base : goal.invariant-loop-base
invariant-loop-base l =
    Gap Up l.self l.q (first_in Up (memory_of l.self) (taken_of l.self) l.q) l.i l.j l.t l.low l.lo l.top l.hi

abbrev pub decreases-loop-base : goal.decreases-loop-base
decreases-loop-base l =
    remain Up l.self.taken.count l.j

abbrev pub invariant-records : goal.invariant-records
invariant-records l =
    Walking Up l.self l.q (first_in Up (memory_of l.self) (taken_of l.self) l.q) l.i l.j l.t

abbrev pub decreases-records : goal.decreases-records
decreases-records l =
    remain Up l.self.memory.count l.i
