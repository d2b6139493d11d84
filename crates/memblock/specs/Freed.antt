-- Document 01: addresses freed are eligible at once. Assumes nothing.
use Rattle.std.specs.Prelude.{ℕ, ◌+◌, ◌≤◌, ◌≡◌, true, List, []}
use Rattle.regions.specs.declared.Kind.TheVariants.{Taken}
use Rattle.regions.specs.Changes.{cut}
use Rattle.block.specs.Block.{current, with_list, contents, good}
use Rattle.tables.specs.declared.commands.Verb.TheVariants.{Free}
use Rattle.tables.specs.Commands.{command}
use Rattle.fits.specs.declared.Query.{Query}
use Rattle.search.specs.DemandTwo.{Eligible}
use Rattle.memblock.specs.Calls.{outcome_of}

-- after a free that is done, an address is eligible whose size addresses lie in the freed range, and that would be eligible if nothing were taken
abbrev pub FreedSentence : Type 0
FreedSentence =
    (b : List ℕ) → good current b ≡ true → (base size : ℕ) → (outcome_of (command Free base size) b).number ≡ 0 → (q : Query) (a : ℕ)
    → base ≤ a → a + q.size.0 ≤ cut base size → Eligible (with_list (contents current b) Taken []) q a
    → Eligible (contents current (outcome_of (command Free base size) b).block) q a
