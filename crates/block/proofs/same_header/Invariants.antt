-- What the loop of `same_header` keeps.
use Rattle.std.proofs.Common.{◌*◌, ◌≡◌, drop}
use Rattle.block.specs.Block.{same_bytes}
use Rattle.block.proofs.same_header.Given as goal

abbrev pub invariant-loop-i : goal.invariant-loop-i
invariant-loop-i l = same_bytes l.a l.b ≡ same_bytes (drop (8 * l.i) l.a) (drop (8 * l.i) l.b)
