-- What the loop of `Trees::reserved_ok` keeps, and how far it has to go.
use Rattle.std.proofs.Common.{◌≡◌, ◌-◌, [], ◌∷◌, length}
use Rattle.values.specs.Steps.{Goes, stands, gets, reserved_ok}
use Rattle.values.proofs.Trees.reserved_ok.Given as goal

abbrev pub invariant-loop-node : goal.invariant-loop-node
invariant-loop-node l = record {
  goes : Goes l.self 2 l.at;
  same : reserved_ok (gets l.self) l.width (l.child.name.now ∷ []) (stands l.self l.child.at)
      ≡ reserved_ok (gets l.self) l.width (l.child.name.now ∷ []) (stands l.self l.at);
}

abbrev pub decreases-loop-node : goal.decreases-loop-node
decreases-loop-node l = length l.self.board.structure.bytes.now - l.at
