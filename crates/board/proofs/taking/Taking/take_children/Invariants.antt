-- What the loop of `Taking::take_children` keeps, and how far it has to go.
use Rattle.std.proofs.Common.{◌≡◌, ◌-◌, true, length}
use Rattle.block.specs.Block.{current, good}
use Rattle.intake.specs.Turns.{steps, in_turn}
use Rattle.values.specs.Steps.{Goes, stands, gets, children_ok}
use Rattle.board.specs.Steps.{width, children_commands}
use Rattle.board.proofs.taking.Taking.take_children.Given as goal

abbrev pub invariant-loop-child : goal.invariant-loop-child
invariant-loop-child l = record {
  goes : Goes l.self.trees 1 l.at;
  values : children_ok (gets l.self.trees) (width l.self.cells) (stands l.self.trees l.at) ≡ true;
  good : good current l.block ≡ true;
  same : in_turn (steps current (children_commands (gets l.self.trees) l.self.cells l.pass (stands l.self.trees l.self.trees.board.root))) l.initial.block
      ≡ in_turn (steps current (children_commands (gets l.self.trees) l.self.cells l.pass (stands l.self.trees l.at))) l.block;
}

abbrev pub decreases-loop-child : goal.decreases-loop-child
decreases-loop-child l = length l.self.trees.board.structure.bytes.now - l.at
