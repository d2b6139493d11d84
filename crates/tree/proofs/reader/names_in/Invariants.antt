-- What the loop of `names_in` keeps.
use mathlib.Core.Path.{◌≡◌}
use mathlib.Core.Bool.{false}
use lib.ListN.{drop}
use Rattle.tree.specs.Tokens.{zero_ended}
use Rattle.tree.proofs.reader.names_in.Given as goal

abbrev pub invariant-loop-i : goal.invariant-loop-i
invariant-loop-i l = zero_ended (drop l.i l.strings) ≡ false
