-- Demand 2's sentence on full tables, of every command on a range. Assumes nothing.
use Rattle.std.specs.Prelude.{ℕ, ◌<◌, ◌≡◌, true, List, length}
use Rattle.regions.specs.declared.Region.{Region}
use Rattle.regions.specs.Changes.{changed}
use Rattle.block.specs.declared.Layout.{Layout}
use Rattle.block.specs.Block.{capacity, list_of, contents, good}
use Rattle.tables.specs.Commands.{Command, table, change_of, legal_verb, command_outcome}

-- the finished shortest list of the table that the command works on
abbrev pub finished : Layout → Command → List ℕ → List Region
finished L c b = changed (change_of c.verb) c.base c.size (list_of (contents L b) (table c.verb))

-- no check before it fails, and the finished list would not fit; that of 12 then cannot fail (E10: `never-full`)
pub record Full (L : Layout) (c : Command) (b : List ℕ) : Type 0 where
  pub is_good : good L b ≡ true
  pub legal : legal_verb c.verb ≡ true
  pub no_room : capacity L (table c.verb) < length (finished L c b)

-- "table full", number 6, exactly then
abbrev pub FullSentence : Type 0
FullSentence = (L : Layout) (c : Command) (b : List ℕ) → ((command_outcome L c b).number ≡ 6 → Full L c b) × (Full L c b → (command_outcome L c b).number ≡ 6)
