-- What the loop of `halve` keeps, and how far it has to go.
use Rattle.std.proofs.Common.{◌-◌}
use Rattle.records.proofs.Halving.{Narrowed}
use Rattle.records.proofs.table.Records.halve.Given as goal

abbrev pub invariant-loop-low : goal.invariant-loop-low
invariant-loop-low l = Narrowed l.self.bytes.now l.self.count l.a.0 l.low l.high l.looks

abbrev pub decreases-loop-low : goal.decreases-loop-low
decreases-loop-low l = l.high - l.low
