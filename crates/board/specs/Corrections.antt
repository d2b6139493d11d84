-- E9's sentences on the intake of a board's tree corrected by a service tree. Assumes nothing.
use Rattle.std.specs.Prelude.{ℕ, ◌≡◌, true, false, List, ◌⊎◌}
use Rattle.block.specs.Block.{current, good}
use Rattle.range.specs.Outcomes as o
use Rattle.tree.specs.Content.{nothing}
use Rattle.tree.specs.Header.{form, strings, root}
use Rattle.lookup.specs.Values.{path, Node, absent, present}
use Rattle.paths.specs.Lookup.{lookup}
use Rattle.intake.specs.Turns.{steps, in_turn}
use Rattle.values.specs.Values.{own, every, memories, reserved, root_cells, whole_reg, node_id, values}
use Rattle.board.specs.Board.{intake_tree}
use Rattle.board.specs.Conditions.{Conditions}
use Rattle.board.specs.Pairs.{pair_get, asks_pair, intake_trees}

-- a tree's form is all that E8 asks but cells, reg and node id
pub record FormSentence (tree : List ℕ) : Type 0 where
  pub needed : Conditions tree → form tree ≡ true
  pub enough : form tree ≡ true → values (own (strings tree)) (root tree) ≡ true → Conditions tree

-- a property is the first match at the node's path in the service tree, else the node's own
pub record PropertySentence (board service : List ℕ) (n : Node) (name : List ℕ) : Type 0 where
  pub first : (v : List ℕ) → lookup service (path n.way) name ≡ present v → pair_get board service n name ≡ present v
  pub else_own : lookup service (path n.way) name ≡ absent → pair_get board service n name ≡ own (strings board) n name

-- number 11 speaks of both trees' form and of the values so found
pub record PairConditions (board service : List ℕ) : Type 0 where
  pub board_form : form board ≡ true
  pub service_form : form service ≡ true
  pub root_cells : root_cells (pair_get board service) (root board) ≡ true
  pub memory_regs : every (whole_reg (pair_get board service) (root board)) (memories (pair_get board service) (root board)) ≡ true
  pub reserved_regs : every (whole_reg (pair_get board service) (root board)) (reserved (pair_get board service) (root board)) ≡ true
  pub node_ids : every (node_id (pair_get board service) (root board)) (memories (pair_get board service) (root board)) ≡ true

-- all commands of the pair are done, in turn
pub record PairDone (board service b : List ℕ) : Type 0 where
  pub number : (in_turn (steps current (asks_pair board service)) b).number ≡ 0
  pub outcome : intake_trees current board service b ≡ in_turn (steps current (asks_pair board service)) b

-- one of them gets 6, and the block is as it was
pub record PairFull (board service b : List ℕ) : Type 0 where
  pub number : (in_turn (steps current (asks_pair board service)) b).number ≡ 6
  pub outcome : intake_trees current board service b ≡ o.outcome 6 b

pub record PairSentence (board service b : List ℕ) : Type 0 where
  -- 1 for the block first; then 11 exactly when one of the conditions fails; then the commands are done, or one gets 6
  pub block_first : good current b ≡ false → intake_trees current board service b ≡ o.outcome 1 b
  pub given : good current b ≡ true → (PairConditions board service → ⊥) → intake_trees current board service b ≡ o.outcome 11 b
  pub only : (intake_trees current board service b).number ≡ 11 → (good current b ≡ true) × (PairConditions board service → ⊥)
  pub done_or_full : good current b ≡ true → PairConditions board service → PairDone board service b ⊎ PairFull board service b
  -- a service tree that is a bare root gives what E8 gives
  pub bare : form service ≡ true → root service ≡ nothing → intake_trees current board service b ≡ intake_tree current board b
