-- The commands on a range, answer by answer. Assumes nothing.
use Prim.Native.Nat.{ℕ}
use mathlib.Core.Path.{◌≡◌, sym, ◌∙◌}
use mathlib.Core.Bool.{Bool, true, false, not}
use mathlib.Core.List.{List}
use borrow.Author.Tests.{not-true, not-false}
use Rattle.address.specs.Numbers.{power_of_two}
use Rattle.regions.specs.declared.Kind.{Kind}
use Rattle.regions.specs.declared.Kind.TheVariants.{Memory}
use Rattle.regions.specs.declared.Change.{Change}
use Rattle.regions.specs.Changes.{cut, allowed}
use Rattle.regions.specs.Trim.{trimmed_list}
use Rattle.block.specs.declared.Layout.{Layout}
use Rattle.block.specs.Block.{current, list_of, with_list, block_bytes, contents, good}
use Rattle.tables.specs.declared.commands.Verb.{Verb}
use Rattle.range.specs.Outcomes.{Outcome, outcome, unless, change_range}
use Rattle.tables.specs.Commands.{command, table, change_of, legal_verb, strict, command_outcome, trim}
use Rattle.block.proofs.Blocks.{bad_here, good_here}

-- past its first checks, a command is the change, where it is allowed
pub command_changes : (b : List ℕ) (v : Verb) (base size : ℕ) → good current b ≡ true → legal_verb v ≡ true → (k : Kind) → k ≡ table v → (c : Change) → c ≡ change_of v
    → (s : Bool) → s ≡ strict v → (o : Outcome)
    → o ≡ unless (allowed s base (cut base size) (list_of (contents current b) k)) 12 b (change_range current k c base size b) → o ≡ command_outcome current (command v base size) b
unfolding command_outcome
command_changes b v base size g h k p c q s r o e = rw (g, h, ← p, ← q, ← r) e

module _ (l : Layout) (is : l ≡ current) (b : List ℕ) (g : Bool) (q : g ≡ good l b) (v : Verb) (base size : ℕ) where
  pub command_bad : not g ≡ true → outcome 1 b ≡ command_outcome current (command v base size) b
  unfolding command_outcome
  command_bad t = rw (bad_here l is b g q t)

  module _ (n : not g ≡ false) (x : Bool) (p : x ≡ legal_verb v) where
    pub command_tag : not x ≡ true → outcome 2 b ≡ command_outcome current (command v base size) b
    unfolding command_outcome
    command_tag u = rw (good_here l is b g q n, ← p, not-true x u)

    pub verb_legal : not x ≡ false → legal_verb v ≡ true
    verb_legal u = sym p ∙ not-false x u

-- ---- trim

-- past its checks, trim is the trimmed list
pub trim_changes : (b : List ℕ) (k : ℕ) → good current b ≡ true → power_of_two k ≡ true → (z : List ℕ) → z ≡ block_bytes current (with_list (contents current b) Memory (trimmed_list k (contents current b).memory))
    → outcome 0 z ≡ trim current k b
unfolding trim
trim_changes b k g h z e = rw (g, h, e)

module _ (l : Layout) (is : l ≡ current) (b : List ℕ) (g : Bool) (q : g ≡ good l b) (k : ℕ) where
  pub trim_bad : not g ≡ true → outcome 1 b ≡ trim current k b
  unfolding trim
  trim_bad n = rw (bad_here l is b g q n)

  module _ (n : not g ≡ false) (x : Bool) (p : x ≡ power_of_two k) where
    pub trim_power : not x ≡ true → outcome 3 b ≡ trim current k b
    unfolding trim
    trim_power u = rw (good_here l is b g q n, ← p, not-true x u)

    pub power_right : not x ≡ false → power_of_two k ≡ true
    power_right u = sym p ∙ not-false x u
