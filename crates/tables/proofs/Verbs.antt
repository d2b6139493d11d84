-- Which table each command works on, what it makes of an address, and that the table's rules know it. Assumes nothing.
use mathlib.Core.Path.{◌≡◌, refl, sym, ◌∙◌}
use mathlib.Core.Bool.{Bool, true}
use Rattle.address.proofs.Tests.{zero_not_one}
use Rattle.regions.specs.declared.Kind.{Kind}
use Rattle.regions.specs.declared.Kind.TheVariants.{Memory, Taken}
use Rattle.regions.specs.declared.Change.{Change}
use Rattle.regions.specs.Lists.{legal_tag}
use Rattle.regions.proofs.Flags.{one_flag_bounds}
use Rattle.regions.proofs.Legal.{Keeps, fill_keeps, clear_keeps, mark_keeps, unmark_keeps}
use Rattle.tables.specs.declared.commands.Verb.{Verb}
use Rattle.tables.specs.declared.commands.Verb.TheVariants.{Add, Remove, Mark, Unmark, Reserve, Free}
use Rattle.range.specs.Outcomes.{tag}
use Rattle.tables.specs.Commands.{table, change_of, legal_verb, strict}
use Rattle.range.specs.Steps.{Known}

-- ---- the rules of the table know it

verb_known : (v : Verb) → legal_verb v ≡ true → Known (table v) (change_of v)
verb_known (Add t) e = tt
verb_known Remove e = tt
verb_known (Mark w) e = one_flag_bounds w e
verb_known (Unmark w) e = one_flag_bounds w e
verb_known Reserve e = refl
verb_known Free e = tt

pub changed_known : (v : Verb) → legal_verb v ≡ true → (k : Kind) (c : Change) → k ≡ table v → c ≡ change_of v → Known k c
changed_known v e k c p q = rw (p, q) (verb_known v e)

-- only what works on the taken table is strict
verb_taken : (v : Verb) → strict v ≡ true → table v ≡ Taken
verb_taken (Add t) e = absurd (zero_not_one cc)
verb_taken Remove e = absurd (zero_not_one cc)
verb_taken (Mark w) e = absurd (zero_not_one cc)
verb_taken (Unmark w) e = absurd (zero_not_one cc)
verb_taken Reserve e = refl
verb_taken Free e = refl

pub strict_taken : (v : Verb) (k : Kind) (s : Bool) → k ≡ table v → s ≡ strict v → s ≡ true → k ≡ Taken
strict_taken v k s p q e = p ∙ verb_taken v (sym q ∙ e)

-- and with a legal tag or flag it keeps the table's tags legal
pub verb_keeps : (v : Verb) → legal_verb v ≡ true → Keeps (table v) (change_of v)
unfolding legal_tag
verb_keeps (Add t) e = fill_keeps Memory t e
verb_keeps Remove e = clear_keeps Memory
verb_keeps (Mark w) e = mark_keeps w e
verb_keeps (Unmark w) e = unmark_keeps w e
verb_keeps Reserve e = fill_keeps Taken (tag 0 0) refl
verb_keeps Free e = clear_keeps Taken
