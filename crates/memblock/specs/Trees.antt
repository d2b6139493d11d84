-- A board's tree and demand 3: what it asks is a list of commands on the tables, and the order among its memory, among its reservations and among its marks
-- counts no more than there. Assumes nothing.
use Rattle.std.specs.Prelude.{ℕ, ◌≡◌}
use mathlib.Core.List.{List, ◌++◌, Permᴰ}
use Rattle.block.specs.Block.{current}
use Rattle.tables.specs.declared.commands.Verb.TheVariants.{Reserve}
use Rattle.tables.specs.Commands.{Command}
use Rattle.tree.specs.Header.{root, strings, reservations}
use Rattle.values.specs.Values.{own}
use Rattle.board.specs.Board.{adds, on_ranges, reserves, marks, asks, intake_tree}
use Rattle.memblock.specs.Lists.{run, done, Agreed}

-- a tree that was taken in: each of its commands is done, and the block is what they leave
pub record TakenIn (tree b : List ℕ) : Type 0 where
  pub each : done (asks tree) b ≡ asks tree
  pub leaves : (intake_tree current tree b).block ≡ run (asks tree) b

-- the commands of the memory children, of the reservation list and the reserved children, and of those to be marked
abbrev pub memory : List ℕ → List Command
memory tree = adds (own (strings tree)) (root tree)

abbrev pub taken : List ℕ → List Command
taken tree = on_ranges Reserve (reservations tree) ++ reserves (own (strings tree)) (root tree)

abbrev pub marked : List ℕ → List Command
marked tree = marks (own (strings tree)) (root tree)

-- the same in another order
pub record SameAsked (r s : List ℕ) : Type 0 where
  pub same_memory : Permᴰ (memory r) (memory s)
  pub same_taken : Permᴰ (taken r) (taken s)
  pub same_marked : Permᴰ (marked r) (marked s)

-- two such trees, taken in on equal blocks, neither refused, end in equal blocks, if their memory meets demand 3's condition: what is taken and what is
-- marked always does
pub record TreeSentence (b : List ℕ) : Type 0 where
  pub taken_in : (tree : List ℕ) → (intake_tree current tree b).number ≡ 0 → TakenIn tree b
  pub order : (r s : List ℕ) → SameAsked r s → Agreed (memory r) → (intake_tree current r b).number ≡ 0 → (intake_tree current s b).number ≡ 0
      → (intake_tree current r b).block ≡ (intake_tree current s b).block
