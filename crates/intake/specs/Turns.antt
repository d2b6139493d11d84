-- Several commands as one: in turn, and whole or not at all. Assumes nothing.
use Rattle.std.specs.Prelude.{ℕ, cond, List, [], ◌∷◌, map, eqb}
use Rattle.block.specs.declared.Layout.{Layout}
use Rattle.range.specs.Outcomes.{Outcome, done_with, unless}
use Rattle.tables.specs.Commands.{Command, command_outcome}

-- a command with its numbers: what it answers and leaves of a block
abbrev pub Step : Type 0
Step = List ℕ → Outcome

-- a list of commands, as steps
abbrev pub steps : Layout → List Command → List Step
steps L cs = map (command_outcome L) cs

-- each on the block that the one before it left; the first refusal ends it
unfoldable pub in_turn : List Step → Step
in_turn [] b = done_with b
in_turn (s ∷ ss) b = cond (eqb (s b).number 0) (in_turn ss (s b).block) (s b)

-- the same, but a refusal leaves the block as it was before the first
unfoldable pub wholly : List Step → Step
wholly ss b = unless (eqb (in_turn ss b).number 0) (in_turn ss b).number b (in_turn ss b)
