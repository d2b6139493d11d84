-- The passes over a board's nodes, and what they take in. Only inner contracts and proofs cite this module. Assumes nothing.
use Rattle.std.specs.Prelude.{ℕ, ◌+◌, ◌*◌, ◌/◌, ◌≤◌, ◌<◌, ◌≡◌, Bool, true, false, cond, not, List, [], ◌∷◌, ◌++◌, length}
use Rattle.block.specs.Block.{current}
use Rattle.range.specs.Outcomes.{Outcome, tag, unless}
use Rattle.tables.specs.declared.commands.Verb.{Verb}
use Rattle.tables.specs.declared.commands.Verb.TheVariants.{Add, Mark, Reserve}
use Rattle.tables.specs.Commands.{Command}
use Rattle.intake.specs.Turns.{steps, wholly}
use Rattle.tree.specs.Content.{Content, nothing, property, node}
use Rattle.tree.specs.Header.{Range, pairs, before_end, root, reservations}
use Rattle.lookup.specs.Values.{same, Node}
use Rattle.values.specs.Names.{device_type, memory, reg, numa_node_id, reserved_memory, no_map}
use Rattle.values.specs.Values.{Get, is, has, number_or, values}
use Rattle.board.specs.Board.{ranges, on_ranges, commands}
use Rattle.paths.specs.Steps.{InRoot}
use Rattle.values.specs.Steps.{Sources, stands, gets, children_ok}
use Rattle.board.specs.declared.ranges.Cells.{Cells}
use Rattle.board.specs.declared.taking.Taking.{Taking}
use Rattle.board.specs.declared.taking.Pass.{Pass}
use Rattle.board.specs.declared.taking.Pass.TheVariants.{Memory, Reserved, Marked}

-- one or two cells each
pub record OneOrTwo (c : Cells) : Type 0 where
  pub some_address : 0 < c.address
  pub few_address : c.address ≤ 2
  pub some_size : 0 < c.size
  pub few_size : c.size ≤ 2

-- bytes of an entry
abbrev pub width : Cells → ℕ
width c = 4 * (c.address + c.size)

-- trees whose values are as asked
pub record Valued (t : Taking) : Type 0 where
  pub cells : OneOrTwo t.cells
  pub trees : Sources t.trees
  pub root : InRoot t.trees.board
  pub values : children_ok (gets t.trees) (width t.cells) (stands t.trees t.trees.board.root) ≡ true

-- ---- the commands of the root's children, one by one

module _ (get : Get) (cells : Cells) where
  abbrev pub reg_commands : Verb → Node → List Command
  reg_commands v n = on_ranges v (ranges cells.address cells.size (get n reg))

  unfoldable pub memory_commands : Node → List Command
  memory_commands n = cond (is memory (get n device_type)) (reg_commands (Add (tag 0 (number_or 0 (get n numa_node_id)))) n) []

  unfoldable pub marked_or_not : Bool → Node → List Command
  marked_or_not true n = cond (has (get n no_map)) (reg_commands (Mark 4) n) []
  marked_or_not false n = cond (not (has (get n no_map))) (reg_commands Reserve n) []

  unfoldable pub reserved_commands : Bool → List (List ℕ) → Content → List Command
  reserved_commands marked way nothing = []
  reserved_commands marked way (property at value c) = reserved_commands marked way c
  reserved_commands marked way (node name inner c) = marked_or_not marked (record { way = way ++ (name ∷ []); content = inner }) ++ reserved_commands marked way c

  unfoldable pub child_commands : Pass → List ℕ → Content → List Command
  child_commands Memory name c = memory_commands (record { way = name ∷ []; content = c })
  child_commands Reserved name c = cond (same name reserved_memory) (reserved_commands false (name ∷ []) c) []
  child_commands Marked name c = cond (same name reserved_memory) (reserved_commands true (name ∷ []) c) []

  unfoldable pub children_commands : Pass → Content → List Command
  children_commands pass nothing = []
  children_commands pass (property at value c) = children_commands pass c
  children_commands pass (node name inner c) = child_commands pass name inner ++ children_commands pass c

  -- the four passes, with the reservation list's bytes
  unfoldable pub turns : List ℕ → Content → List Command
  turns list c =
      children_commands Memory c
      ++ (on_ranges Reserve (before_end (pairs (length list / 16) list)) ++ (children_commands Reserved c ++ children_commands Marked c))

-- ---- the values, then the commands

-- of what stands in the root, and the ranges of the reservation list
unfoldable pub taking_ranges : Get → Content → List Range → List ℕ → Outcome
taking_ranges get top list b = unless (values get top) 11 b (wholly (steps current (commands get top list)) b)

abbrev pub taking : Get → Content → List ℕ → List ℕ → Outcome
taking get top list b = taking_ranges get top (before_end (pairs (length list / 16) list)) b

abbrev pub taking_board : Get → List ℕ → List ℕ → Outcome
taking_board get board b = taking_ranges get (root board) (reservations board) b
