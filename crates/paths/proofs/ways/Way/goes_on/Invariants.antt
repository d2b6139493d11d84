-- What the loop of `goes_on` keeps.
use Prim.Native.Nat.{◌+◌}
use mathlib.Core.Path.{◌≡◌}
use mathlib.Core.List.{◌∷◌}
use lib.ListN.{drop}
use Rattle.paths.specs.Steps.{starts, way_of}
use Rattle.paths.proofs.ways.Way.goes_on.Given as goal

abbrev pub invariant-loop-j : goal.invariant-loop-j
invariant-loop-j l = starts (47 ∷ l.name) (drop l.done (way_of l.self)) ≡ starts (drop l.j l.name) (drop (l.done + 1 + l.j) (way_of l.self))
