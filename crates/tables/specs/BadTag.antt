-- Number 2's sentence, of every command on a range: what it names is not legal. Assumes nothing.
use Rattle.std.specs.Prelude.{ℕ, ◌<◌, ◌≡◌, true, List, ◌⊎◌}
use Rattle.block.specs.declared.Layout.{Layout}
use Rattle.block.specs.Block.{good}
use Rattle.tables.specs.declared.commands.Verb.{Verb}
use Rattle.tables.specs.declared.commands.Verb.TheVariants.{Add, Remove, Mark, Unmark, Reserve, Free}
use Rattle.range.specs.Outcomes.{outcome}
use Rattle.tables.specs.Commands.{Command, command_outcome}

-- E6: not exactly one of the three flags
abbrev pub NotOneFlag : ℕ → Type 0
NotOneFlag w = (w ≡ 1 → ⊥) × ((w ≡ 2 → ⊥) × (w ≡ 4 → ⊥))

-- add: flags above 7, or a node above 63; mark and unmark: not one flag; the others name nothing
abbrev pub BadTag : Verb → Type 0
BadTag (Add t) = (7 < t.flags) ⊎ (63 < t.node)
BadTag Remove = ⊥
BadTag (Mark w) = NotOneFlag w
BadTag (Unmark w) = NotOneFlag w
BadTag Reserve = ⊥
BadTag Free = ⊥

-- 2, exactly when the block is good and that is so: after 1, and whatever the range
abbrev pub BadTagSentence : Type 0
BadTagSentence =
    (L : Layout) (c : Command) (b : List ℕ)
    → ((command_outcome L c b).number ≡ 2 → (good L b ≡ true) × BadTag c.verb) × (good L b ≡ true → BadTag c.verb → command_outcome L c b ≡ outcome 2 b)
