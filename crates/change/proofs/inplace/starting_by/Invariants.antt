-- What the loop of `starting_by` keeps.
use Prim.Native.Nat.{◌+◌, ◌*◌, ◌-◌}
use mathlib.Core.Path.{◌≡◌}
use lib.ListN.{drop}
use Rattle.regions.specs.Bytes.{read_regions}
use Rattle.change.specs.Steps.{starting_by}
use Rattle.change.proofs.inplace.starting_by.Given as goal

abbrev pub invariant-loop-i : goal.invariant-loop-i
invariant-loop-i l = starting_by l.a.0 (read_regions l.t.count l.t.bytes.now) ≡ l.i + starting_by l.a.0 (read_regions (l.t.count - l.i) (drop (24 * l.i) l.t.bytes.now))
