-- Document 01's sentence on a size of 0, of every command on a range. Assumes nothing.
use Rattle.std.specs.Prelude.{ℕ, ◌≤◌, ◌≡◌, true, List, ◌⊎◌}
use Rattle.regions.specs.Meaning.{top}
use Rattle.block.specs.declared.Layout.{Layout}
use Rattle.block.specs.Block.{good}
use Rattle.range.specs.Outcomes.{outcome}
use Rattle.tables.specs.Commands.{Command, legal_verb, command_outcome}

-- a size of 0, or a range of which the cut at the top leaves nothing
abbrev pub NoRange : Command → Type 0
NoRange c = (c.size ≡ 0) ⊎ (top ≤ c.base)

-- is done and changes nothing, unless 1 or 2 comes first; free too, whatever is taken (E10)
abbrev pub SizeZeroSentence : Type 0
SizeZeroSentence = (L : Layout) (c : Command) (b : List ℕ) → good L b ≡ true → legal_verb c.verb ≡ true → NoRange c → command_outcome L c b ≡ outcome 0 b
