-- What the loop of `check` keeps.
use Rattle.std.proofs.Common.{◌-◌, ◌*◌, drop}
use Rattle.regions.specs.Bytes.{read_regions}
use Rattle.records.proofs.Checking.{Along}
use Rattle.records.proofs.table.Records.check.Given as goal

abbrev pub invariant-loop-i : goal.invariant-loop-i
invariant-loop-i l =
    Along l.kind (read_regions l.self.count l.self.bytes.now) (read_regions (l.self.count - l.i) (drop (24 * l.i) l.self.bytes.now)) l.low l.below l.total
