-- A board's tree corrected by a service tree, and demand 3: what the two ask is a list of commands on the tables, as what a board's tree asks alone, and the
-- order among its memory, among its reservations and among its marks counts no more than there. Assumes nothing.
use Rattle.std.specs.Prelude.{ℕ, ◌≡◌}
use mathlib.Core.List.{List, ◌++◌, Permᴰ}
use Rattle.block.specs.Block.{current}
use Rattle.tables.specs.declared.commands.Verb.TheVariants.{Reserve}
use Rattle.tables.specs.Commands.{Command}
use Rattle.tree.specs.Header.{root, reservations}
use Rattle.board.specs.Board.{adds, on_ranges, reserves, marks}
use Rattle.board.specs.Pairs.{pair_get, asks_pair, intake_trees}
use Rattle.memblock.specs.Lists.{run, done, Agreed}

-- two trees that were taken in: each of their commands is done, and the block is what they leave
pub record PairTakenIn (board service b : List ℕ) : Type 0 where
  pub each : done (asks_pair board service) b ≡ asks_pair board service
  pub leaves : (intake_trees current board service b).block ≡ run (asks_pair board service) b

-- the commands of the memory children, of the reservation list and the reserved children, and of those to be marked
abbrev pub pair_memory : List ℕ → List ℕ → List Command
pair_memory board service = adds (pair_get board service) (root board)

abbrev pub pair_taken : List ℕ → List ℕ → List Command
pair_taken board service = on_ranges Reserve (reservations board) ++ reserves (pair_get board service) (root board)

abbrev pub pair_marked : List ℕ → List ℕ → List Command
pair_marked board service = marks (pair_get board service) (root board)

-- the same in another order, of a board and its service tree r, s and of others x, y
pub record SamePairAsked (r s x y : List ℕ) : Type 0 where
  pub same_memory : Permᴰ (pair_memory r s) (pair_memory x y)
  pub same_taken : Permᴰ (pair_taken r s) (pair_taken x y)
  pub same_marked : Permᴰ (pair_marked r s) (pair_marked x y)

pub record PairOrderSentence (b : List ℕ) : Type 0 where
  pub taken_in : (board service : List ℕ) → (intake_trees current board service b).number ≡ 0 → PairTakenIn board service b
  pub order : (r s x y : List ℕ) → SamePairAsked r s x y → Agreed (pair_memory r s) → (intake_trees current r s b).number ≡ 0 → (intake_trees current x y b).number ≡ 0
      → (intake_trees current r s b).block ≡ (intake_trees current x y b).block
