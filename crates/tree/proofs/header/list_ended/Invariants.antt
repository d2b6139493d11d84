-- What the loop of `list_ended` keeps.
use Prim.Native.Nat.{◌-◌, ◌*◌, ◌/◌}
use mathlib.Core.Path.{◌≡◌}
use lib.ListN.{length, drop}
use Rattle.tree.specs.Header.{pairs, ended}
use Rattle.tree.proofs.header.list_ended.Given as goal

abbrev pub invariant-loop-i : goal.invariant-loop-i
invariant-loop-i l = ended (pairs (length l.s / 16) l.s) ≡ ended (pairs (length l.s / 16 - l.i) (drop (16 * l.i) l.s))
