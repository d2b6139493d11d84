-- E8's number 11, condition by condition in the request's words, and what comes after it. Assumes nothing.
use Rattle.std.specs.Prelude.{ℕ, ◌≡◌, true, false, List, ◌⊎◌}
use Rattle.block.specs.Block.{current, good}
use Rattle.range.specs.Outcomes as o
use Rattle.tree.specs.WhichTrees.{SomeTree}
use Rattle.tree.specs.Header.{whole_header, magic, version17, compatible16, structure_inside, structure_aligned, strings_inside, list_aligned, list_ended, structure, strings, root}
use Rattle.intake.specs.Turns.{steps, in_turn}
use Rattle.values.specs.Values.{own, every, memories, reserved, root_cells, whole_reg, node_id}
use Rattle.board.specs.Board.{asks, intake_tree}

pub record Conditions (tree : List ℕ) : Type 0 where
  -- a whole header with magic 0xD00DFEED, version 17, compatible version 16
  pub whole_header : whole_header tree ≡ true
  pub magic_word : magic tree ≡ true
  pub version : version17 tree ≡ true
  pub compatible : compatible16 tree ≡ true
  -- each part inside the total size and the lent buffer, at an offset aligned as the specification says
  pub structure_inside : structure_inside tree ≡ true
  pub structure_aligned : structure_aligned tree ≡ true
  pub strings_inside : strings_inside tree ≡ true
  pub list_aligned : list_aligned tree ≡ true
  -- the reservation list ended inside
  pub list_ended : list_ended tree ≡ true
  -- the structure block exactly one root node and the end token with nothing after it, no-operation tokens allowed anywhere before, properties before
  -- children, padding of any bytes; each name zero-ended inside its part; depth at most 16, the root being 1
  pub one_tree : SomeTree (strings tree) (structure tree)
  -- root cells 1 or 2, 4 bytes each
  pub root_cells : root_cells (own (strings tree)) (root tree) ≡ true
  -- each reg used a whole number of entries
  pub memory_regs : every (whole_reg (own (strings tree)) (root tree)) (memories (own (strings tree)) (root tree)) ≡ true
  pub reserved_regs : every (whole_reg (own (strings tree)) (root tree)) (reserved (own (strings tree)) (root tree)) ≡ true
  -- each memory child's node id 4 bytes, at most 63
  pub node_ids : every (node_id (own (strings tree)) (root tree)) (memories (own (strings tree)) (root tree)) ≡ true

-- all commands of the tree are done, in turn
pub record AllDone (tree b : List ℕ) : Type 0 where
  pub number : (in_turn (steps current (asks tree)) b).number ≡ 0
  pub outcome : intake_tree current tree b ≡ in_turn (steps current (asks tree)) b

-- one of them gets 6, and the block is as it was
pub record OneFull (tree b : List ℕ) : Type 0 where
  pub number : (in_turn (steps current (asks tree)) b).number ≡ 6
  pub outcome : intake_tree current tree b ≡ o.outcome 6 b

-- 1 for the block first; then 11 exactly when one of the conditions fails; then the commands are done, or one gets 6
pub record ElevenSentence (tree b : List ℕ) : Type 0 where
  pub block_first : good current b ≡ false → intake_tree current tree b ≡ o.outcome 1 b
  pub given : good current b ≡ true → (Conditions tree → ⊥) → intake_tree current tree b ≡ o.outcome 11 b
  pub only : (intake_tree current tree b).number ≡ 11 → (good current b ≡ true) × (Conditions tree → ⊥)
  pub done_or_full : good current b ≡ true → Conditions tree → AllDone tree b ⊎ OneFull tree b
