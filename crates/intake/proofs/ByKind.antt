-- The table of kinds says of every number what it becomes, and so which commands an entry is. Assumes nothing.
use Prim.Native.Nat.{ℕ, zero, suc, ◌≤◌, ◌<◌}
use mathlib.Core.Path.{◌≡◌, refl, sym, ap, ◌∙◌}
use mathlib.Core.List.Memᴰ
use mathlib.Core.List.{List, [], ◌∷◌, ◌++◌, Memᴰ}
use native.Mathlib.Omega.{arith}
use lib.ListN.{get_or, replicate, get_or-replicate}
use borrow.Author.Tests.{ne_eqb}
use Rattle.intake.specs.declared.e820.Becomes.{Becomes}
use Rattle.intake.specs.declared.e820.Becomes.TheVariants.{Added, PassedOver}
use mathlib.Core.Bool.{true}
use Rattle.regions.specs.Lists.{legal_tag}
use Rattle.block.specs.Block.{current}
use Rattle.tables.specs.declared.commands.Verb.TheVariants.{Add}
use Rattle.range.specs.Outcomes.{Outcome, outcome, tag}
use Rattle.tables.specs.Commands.{Command, command, legal_verb, command_outcome}
use Rattle.intake.specs.declared.e820.Entry.{Entry}
use Rattle.intake.specs.E820.{becomes, commands_as, entry_commands, commands}
use Rattle.intake.specs.Turns.{steps, in_turn}
use Rattle.intake.proofs.Turns.{turn_last}

other : (k : ℕ) → (k ≡ 1 → ⊥) → PassedOver ≡ becomes k
unfolding becomes
other k h = rw (ne_eqb k 1 h)

pub kind_outside : (k : ℕ) → 8 ≤ k → PassedOver ≡ becomes k
kind_outside k h = other k (λ e. omega arith)

pub kind_listed : (k : ℕ) → k < 8 → get_or (PassedOver ∷ Added ∷ replicate 6 PassedOver) k Added ≡ becomes k
unfolding becomes
kind_listed zero h = refl
kind_listed (suc zero) h = refl
kind_listed (suc (suc k)) h = get_or-replicate 6 k PassedOver Added (omega arith) ∙ other (suc (suc k)) (λ e. omega arith)

-- ---- the commands of an entry

module _ (e : Entry) (k : Becomes) (is : k ≡ becomes e.kind) (b : List ℕ) where
  pub entry_added : k ≡ Added → (o : Outcome) → o ≡ command_outcome current (command (Add (tag 0 0)) e.base.0 e.size.0) b
      → o ≡ in_turn (steps current (entry_commands e)) b
  entry_added a o h =
      h ∙ sym (turn_last (command_outcome current (command (Add (tag 0 0)) e.base.0 e.size.0)) b)
      ∙ ap (λ (x : Becomes). in_turn (steps current (commands_as x e)) b) (sym a ∙ is)

  pub entry_passed : k ≡ PassedOver → outcome 0 b ≡ in_turn (steps current (entry_commands e)) b
  unfolding in_turn
  entry_passed p = ap (λ (x : Becomes). in_turn (steps current (commands_as x e)) b) (sym p ∙ is)

-- a report's commands are all adds of tag 0, 0
pub all_adds : (es : List Entry) (d : Command) → Memᴰ d (commands es) → d.verb ≡ Add (tag 0 0)
unfolding commands
all_adds [] d m = absurd (Memᴰ.not-nil m)
all_adds (e ∷ es) d m = go (becomes e.kind) m (all_adds es d)
  where
    go : (k : Becomes) → Memᴰ d (commands_as k e ++ commands es) → (Memᴰ d (commands es) → d.verb ≡ Add (tag 0 0)) → d.verb ≡ Add (tag 0 0)
    go Added (Memᴰ.head p) ih = ap (λ (x : Command). x.verb) p
    go Added (Memᴰ.tail n) ih = ih n
    go PassedOver n ih = ih n

-- whose tag is legal
pub plain_legal : legal_verb (Add (tag 0 0)) ≡ true
unfolding legal_tag
plain_legal = refl
