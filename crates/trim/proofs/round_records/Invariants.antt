-- What the loop of `round_records` keeps.
use Rattle.std.proofs.Common.{◌≡◌, ◌*◌, ◌-◌, ◌≤◌, ◌++◌, drop}
use Rattle.regions.specs.Trim.{round_each}
use Rattle.regions.specs.Bytes.{read_regions}
use Rattle.trim.proofs.round_records.Given as goal

abbrev pub invariant-loop-i : goal.invariant-loop-i
invariant-loop-i l =
    (l.n ≤ l.i)
    × ((drop (24 * l.i) l.t ≡ drop (24 * l.i) l.initial.t)
    × (read_regions l.n l.t ++ round_each l.align.0 (read_regions (l.count - l.i) (drop (24 * l.i) l.initial.t)) ≡ round_each l.align.0 (read_regions l.count l.initial.t)))
