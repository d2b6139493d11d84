-- E10: what is freed once is not freed again, and a free that is refused takes no part in the order demand. Assumes nothing.
use Rattle.std.specs.Prelude.{ℕ, ◌<◌, ◌≡◌, true, List, ◌∷◌}
use Rattle.regions.specs.Changes.{cut}
use Rattle.block.specs.Block.{current, good}
use Rattle.range.specs.Outcomes.{outcome}
use Rattle.tables.specs.declared.commands.Verb.TheVariants.{Free}
use Rattle.tables.specs.Commands.{Command, command}
use Rattle.memblock.specs.Calls.{outcome_of}
use Rattle.memblock.specs.Lists.{run, done}

-- the block after a free
abbrev pub freed : ℕ → ℕ → List ℕ → List ℕ
freed base size b = (outcome_of (command Free base size) b).block

pub record FreedTwiceSentence : Type 0 where
  -- a free that was done, of one address at least, gets 12 the second time
  pub twice : (b : List ℕ) → good current b ≡ true → (base size : ℕ) → base < cut base size → (outcome_of (command Free base size) b).number ≡ 0
      → outcome_of (command Free base size) (freed base size b) ≡ outcome 12 (freed base size b)
  -- in a list of commands one that gets 12 is refused, not done: the list does and ends as without it
  pub not_done : (c : Command) (cs : List Command) (b : List ℕ) → (outcome_of c b).number ≡ 12 → (done (c ∷ cs) b ≡ done cs b) × (run (c ∷ cs) b ≡ run cs b)
