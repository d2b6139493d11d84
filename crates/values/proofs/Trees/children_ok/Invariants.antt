-- What the loop of `Trees::children_ok` keeps, and how far it has to go.
use Rattle.std.proofs.Common.{◌≡◌, ◌-◌, length}
use Rattle.values.specs.Steps.{Goes, stands, gets, children_ok}
use Rattle.values.proofs.Trees.children_ok.Given as goal

abbrev pub invariant-loop-child : goal.invariant-loop-child
invariant-loop-child l = record {
  goes : Goes l.self 1 l.i;
  same : children_ok (gets l.self) l.width (stands l.self l.at) ≡ children_ok (gets l.self) l.width (stands l.self l.i);
}

abbrev pub decreases-loop-child : goal.decreases-loop-child
decreases-loop-child l = length l.self.board.structure.bytes.now - l.i
