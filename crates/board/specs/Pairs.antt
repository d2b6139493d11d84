-- A board's tree corrected by a service tree (E9): the commands that the two ask for, and what taking them in answers and leaves. Assumes nothing.
use Rattle.std.specs.Prelude.{ℕ, Bool, ◌&&◌, List}
use Rattle.block.specs.declared.Layout.{Layout}
use Rattle.block.specs.Block.{good}
use Rattle.range.specs.Outcomes.{Outcome, unless}
use Rattle.tables.specs.Commands.{Command}
use Rattle.intake.specs.Turns.{steps, wholly}
use Rattle.tree.specs.Header.{form, root, strings, reservations}
use Rattle.lookup.specs.Values.{path}
use Rattle.paths.specs.Lookup.{or_else, lookup}
use Rattle.values.specs.Values.{Get, own, values}
use Rattle.board.specs.Board.{commands}

-- a property is the first match at the node's path in the service tree, else the node's own
abbrev pub pair_get : List ℕ → List ℕ → Get
pair_get board service n name = or_else (lookup service (path n.way) name) (own (strings board) n name)

-- number 11 is given exactly when this fails: both trees' form, and the values so found
unfoldable pub readable_pair : List ℕ → List ℕ → Bool
readable_pair board service = (form board && form service) && values (pair_get board service) (root board)

-- nodes and reservations are the board's
unfoldable pub asks_pair : List ℕ → List ℕ → List Command
asks_pair board service = commands (pair_get board service) (root board) (reservations board)

-- the block is looked at first, then the trees, then the commands are done in turn; a refusal leaves the block as it was
unfoldable pub intake_trees : Layout → List ℕ → List ℕ → List ℕ → Outcome
intake_trees L board service b = unless (good L b) 1 b (unless (readable_pair board service) 11 b (wholly (steps L (asks_pair board service)) b))
