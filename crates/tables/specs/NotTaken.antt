-- E10's sentence, of every command on a range: free answers 12 unless every address of its range is taken. Assumes nothing.
use Rattle.std.specs.Prelude.{ℕ, ◌≤◌, ◌<◌, ◌≡◌, true, List}
use Rattle.regions.specs.declared.State.TheVariants.{Absent}
use Rattle.regions.specs.Meaning.{at}
use Rattle.regions.specs.Changes.{cut}
use Rattle.block.specs.declared.Layout.{Layout}
use Rattle.block.specs.Block.{contents, good}
use Rattle.range.specs.Outcomes.{outcome}
use Rattle.tables.specs.declared.commands.Verb.TheVariants.{Free}
use Rattle.tables.specs.Commands.{Command, command_outcome}
use Rattle.tables.specs.DemandTwo.{Full}

-- a free on a good block, and an address of its range, after the cut at the top, that is not taken
pub record NotTaken (L : Layout) (c : Command) (b : List ℕ) : Type 0 where
  pub is_good : good L b ≡ true
  pub free : c.verb ≡ Free
  pub address : ℕ
  pub low : c.base ≤ address
  pub high : address < cut c.base c.size
  pub not_taken : at (contents L b).taken address ≡ Absent

-- 12, and the block as lent, exactly then: after the block's check, and before 6, which never holds beside it
pub record NotTakenSentence : Type 0 where
  pub only : (L : Layout) (c : Command) (b : List ℕ) → (command_outcome L c b).number ≡ 12 → NotTaken L c b
  pub given : (L : Layout) (c : Command) (b : List ℕ) → NotTaken L c b → command_outcome L c b ≡ outcome 12 b
  pub never_full : (L : Layout) (c : Command) (b : List ℕ) → NotTaken L c b → Full L c b → ⊥
