-- Which changes the rules of a table know, and what a changed table answers. Only inner contracts and proofs cite this module. Assumes nothing.
use Rattle.std.specs.Prelude.{ℕ, ◌≡◌, List, Result, Ok, Err}
use Rattle.std.proofs.lemmas.List.Edits.{sets}
use Rattle.regions.specs.declared.Kind.{Kind}
use Rattle.regions.specs.declared.Kind.TheVariants.{Memory, Taken}
use Rattle.regions.specs.declared.Change.{Change}
use Rattle.regions.specs.declared.Change.TheVariants.{Fill, Clear, Mark, Unmark}
use Rattle.regions.specs.Steps.{FlagBounded}
use Rattle.block.specs.declared.Header.{Header}
use Rattle.block.specs.Block.{current, header_bytes}
use Rattle.block.specs.Checks.{with_tally}
use Rattle.records.specs.declared.table.Tally.{Tally}
use Rattle.refusals.specs.declared.Refusal.{Refusal}
use Rattle.refusals.specs.Numbers.{number}
use Rattle.range.specs.Outcomes.{Outcome, outcome, tag}

-- a change that the rules of a table know: in memory any, in the taken table only of its one tag, 0, 0
abbrev pub Known : Kind → Change → Type 0
Known Memory c = FlagBounded c
Known Taken (Fill t) = t ≡ tag 0 0
Known Taken Clear = Unit {0}
Known Taken (Mark w) = ⊥
Known Taken (Unmark w) = ⊥

-- the number of each answer of a changed table, and the block's bytes then: the new tally in its header, or as they were
unfoldable pub store_changed : Header → Kind → Result Tally Refusal → List ℕ → Outcome
store_changed h k (Ok t) b = outcome 0 (sets b 0 (header_bytes current (with_tally h k t)))
store_changed h k (Err r) b = outcome (number r) b
