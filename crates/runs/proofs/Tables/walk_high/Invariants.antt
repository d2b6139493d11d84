-- What the loop of `Tables::walk_high` keeps, and how far it has to go.
use Rattle.runs.specs.Steps.{memory_of, taken_of, first_in}
use Rattle.fits.specs.declared.Way.TheVariants.{Down}
use Rattle.runs.proofs.Steps.{Walking, Gap, remain}
use Rattle.runs.proofs.Tables.walk_high.Given as goal

abbrev pub invariant-loop-end : goal.invariant-loop-end
invariant-loop-end l =
    Gap Down l.self l.q (first_in Down (memory_of l.self) (taken_of l.self) l.q) l.i l.j l.t l.bottom l.lo l.top l.hi

abbrev pub decreases-loop-end : goal.decreases-loop-end
decreases-loop-end l =
    remain Down l.self.taken.count l.j

abbrev pub invariant-records : goal.invariant-records
invariant-records l =
    Walking Down l.self l.q (first_in Down (memory_of l.self) (taken_of l.self) l.q) l.i l.j l.t

abbrev pub decreases-records : goal.decreases-records
decreases-records l =
    remain Down l.self.memory.count l.i
