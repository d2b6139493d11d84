-- What the loop of `flags_one` keeps.
use Rattle.std.proofs.Common.{◌*◌, ◌-◌, ◌≡◌, drop}
use Rattle.regions.specs.Bytes.{read_regions}
use Rattle.convert.specs.Convert.{flags_one}
use Rattle.convert.proofs.flags_one.Given as goal

abbrev pub invariant-loop-i : goal.invariant-loop-i
invariant-loop-i l =
    flags_one (read_regions (l.memory.count - l.i) (drop (24 * l.i) l.memory.bytes.now)) ≡ flags_one (read_regions l.memory.count l.memory.bytes.now)
