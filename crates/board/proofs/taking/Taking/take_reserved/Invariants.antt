-- What the loop of `Taking::take_reserved` keeps, and how far it has to go.
use Rattle.std.proofs.Common.{◌≡◌, ◌-◌, true, [], ◌∷◌, length}
use Rattle.block.specs.Block.{current, good}
use Rattle.intake.specs.Turns.{steps, in_turn}
use Rattle.values.specs.Steps.{Goes, stands, gets}
use Rattle.board.specs.Steps.{reserved_commands}
use Rattle.board.proofs.taking.Taking.take_reserved.Given as goal

abbrev pub invariant-loop-node : goal.invariant-loop-node
invariant-loop-node l = record {
  goes : Goes l.self.trees 2 l.at;
  good : good current l.block ≡ true;
  same : in_turn (steps current (reserved_commands (gets l.self.trees) l.self.cells l.marked (l.child.name.now ∷ []) (stands l.self.trees l.child.at))) l.initial.block
      ≡ in_turn (steps current (reserved_commands (gets l.self.trees) l.self.cells l.marked (l.child.name.now ∷ []) (stands l.self.trees l.at))) l.block;
}

abbrev pub decreases-loop-node : goal.decreases-loop-node
decreases-loop-node l = length l.self.trees.board.structure.bytes.now - l.at
