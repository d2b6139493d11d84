-- What the loop of `total` keeps.
use Rattle.regions.proofs.Count.{sizes}
use Rattle.regions.specs.Bytes.{read_regions}
use Rattle.std.proofs.Common.{◌≡◌, ◌+◌, ◌-◌, ◌*◌, drop}
use Rattle.records.proofs.table.Records.total.Given as goal

abbrev pub invariant-loop-i : goal.invariant-loop-i
invariant-loop-i l =
    l.sum.0 + sizes (read_regions (l.self.count - l.i) (drop (24 * l.i) l.self.bytes.now)) ≡ sizes (read_regions l.self.count l.self.bytes.now)
