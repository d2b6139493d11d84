-- The walk over a report: what is still to be taken in, on the block so far, is what the whole report is on the block at the start. Assumes nothing.
use Prim.Native.Nat.{ℕ, ◌+◌, ◌-◌, ◌*◌, ◌≤◌, ◌<◌}
use mathlib.Core.Path.{◌≡◌, refl, sym, ap, ◌∙◌}
use mathlib.Core.Bool.{Bool, true, false, cond}
use mathlib.Core.List.{List, [], ◌∷◌, ◌++◌, append_assoc, Memᴰ}
use native.Mathlib.Omega.{arith}
use lib.Dec.{eqb}
use lib.ListN.{drop}
use borrow.Author.Tests.{eq-eqb, ne_eqb, eqb-true}
use Rattle.regions.proofs.Items.{items_rest, items_end}
use Rattle.block.specs.Block.{current}
use Rattle.range.specs.Outcomes.{Outcome, outcome, done_with}
use Rattle.tables.specs.Commands.{Command, command_outcome, trim}
use Rattle.intake.specs.declared.e820.Entry.{Entry}
use Rattle.intake.specs.E820.{read_entry, read_entries, entry_commands, commands, entry_steps}
use Rattle.intake.specs.Turns.{Step, steps, in_turn}

-- ---- steps in turn

-- two lists of steps, one after the other
pub turn_both : (xs ys : List Step) (b : List ℕ) → in_turn (xs ++ ys) b ≡ cond (eqb (in_turn xs b).number 0) (in_turn ys (in_turn xs b).block) (in_turn xs b)
unfolding in_turn
turn_both [] ys b = refl
turn_both (s ∷ xs) ys b = go (eqb (s b).number 0) refl (turn_both xs ys (s b).block)
  where
    both : Bool → Outcome
    both t = cond t (in_turn xs (s b).block) (s b)

    go : (t : Bool) → eqb (s b).number 0 ≡ t
        → in_turn (xs ++ ys) (s b).block ≡ cond (eqb (in_turn xs (s b).block).number 0) (in_turn ys (in_turn xs (s b).block).block) (in_turn xs (s b).block)
        → cond t (in_turn (xs ++ ys) (s b).block) (s b) ≡ cond (eqb (both t).number 0) (in_turn ys (both t).block) (both t)
    go true e ih = ih
    go false e ih = rw e

module _ (xs ys : List Step) (b : List ℕ) (x : ℕ) (b' : List ℕ) (o : outcome x b' ≡ in_turn xs b) where
  pub turn_refused : (x ≡ 0 → ⊥) → outcome x b' ≡ in_turn (xs ++ ys) b
  turn_refused h = rw (turn_both xs ys b, ← o, ne_eqb x 0 h)

  pub turn_next : x ≡ 0 → in_turn ys b' ≡ in_turn (xs ++ ys) b
  turn_next h = rw (turn_both xs ys b, ← o, eq-eqb x 0 h)

pub turn_last : (s : Step) (b : List ℕ) → in_turn (s ∷ []) b ≡ s b
unfolding in_turn
turn_last s b = go (s b) (eqb (s b).number 0) refl
  where
    go : (o : Outcome) (t : Bool) → eqb o.number 0 ≡ t → cond t (done_with o.block) o ≡ o
    go o true e = let p = eqb-true o.number 0 e in λ i. record { number = sym p i; block = o.block }
    go o false e = refl

-- ---- commands in turn

pub steps_append : (cs ds : List Command) → steps current (cs ++ ds) ≡ steps current cs ++ steps current ds
steps_append [] ds = refl
steps_append (c ∷ cs) ds = ap (λ (xs : List Step). command_outcome current c ∷ xs) (steps_append cs ds)

-- two lists of commands, one after the other
module _ (cs ds : List Command) (b : List ℕ) (x : ℕ) (b' : List ℕ) (o : outcome x b' ≡ in_turn (steps current cs) b) where
  pub commands_refused : (x ≡ 0 → ⊥) → outcome x b' ≡ in_turn (steps current (cs ++ ds)) b
  commands_refused h = turn_refused (steps current cs) (steps current ds) b x b' o h ∙ ap (λ (ss : List Step). in_turn ss b) (sym (steps_append cs ds))

  pub commands_next : x ≡ 0 → in_turn (steps current ds) b' ≡ in_turn (steps current (cs ++ ds)) b
  commands_next h = turn_next (steps current cs) (steps current ds) b x b' o h ∙ ap (λ (ss : List Step). in_turn ss b) (sym (steps_append cs ds))

-- ---- what steps leave of a block

-- each block that the step leaves stands so to the one that it was given
abbrev pub Leaves : (List ℕ → List ℕ → Type 0) → Step → Type 0
Leaves P s = (b : List ℕ) → P b (s b).block

module _ (P : List ℕ → List ℕ → Type 0) (same : (b : List ℕ) → P b b) (on : (b c d : List ℕ) → P b c → P c d → P b d) where
  pub both_leave : (xs ys : List Step) → Leaves P (in_turn xs) → Leaves P (in_turn ys) → Leaves P (in_turn (xs ++ ys))
  both_leave xs ys h k b = rw (turn_both xs ys b) (go (eqb (in_turn xs b).number 0))
    where
      go : (t : Bool) → P b (cond t (in_turn ys (in_turn xs b).block) (in_turn xs b)).block
      go true = on b (in_turn xs b).block _ (h b) (k (in_turn xs b).block)
      go false = h b

  -- a list of commands
  pub commands_leave : (cs : List Command) → ((c : Command) → Memᴰ c cs → Leaves P (command_outcome current c)) → Leaves P (in_turn (steps current cs))
  unfolding in_turn
  commands_leave [] h b = same b
  commands_leave (c ∷ cs) h b = go (eqb o.number 0) (commands_leave cs (λ d m. h d (Memᴰ.tail m)))
    where
      o : Outcome
      o = command_outcome current c b

      go : (t : Bool) → Leaves P (in_turn (steps current cs)) → P b (cond t (in_turn (steps current cs) o.block) o).block
      go true ih = on b o.block _ (h c (Memᴰ.head refl) b) (ih o.block)
      go false ih = h c (Memᴰ.head refl) b

-- ---- the entries of a report in turn

-- the first entry's commands, and then the others'
entry_steps_lem : (e : Entry) (es : List Entry) → entry_steps current (e ∷ es) ≡ steps current (entry_commands e) ++ entry_steps current es
unfolding entry_steps commands
entry_steps_lem e es =
    rw (steps_append (entry_commands e) (commands es)) (append_assoc (steps current (entry_commands e)) (steps current (commands es)) (trim current 4096 ∷ []))

abbrev pub Rest : List ℕ → ℕ → ℕ → List ℕ → Outcome
Rest r n i b = in_turn (entry_steps current (read_entries (n - i) (drop (20 * i) r))) b

pub entries_start : (r : List ℕ) (n : ℕ) (b : List ℕ) → in_turn (entry_steps current (read_entries n r)) b ≡ Rest r n 0 b
entries_start r n b =
    let e : n - 0 ≡ n = omega arith in
    rw e

module _ (r : List ℕ) (n i : ℕ) (b : List ℕ) (whole : Outcome) (inv : whole ≡ Rest r n i b) where
  module _ (h : i < n) (e : Entry) (is : e ≡ read_entry (drop (20 * i) r)) (x : ℕ) (b' : List ℕ) (o : outcome x b' ≡ in_turn (steps current (entry_commands e)) b) where
    rest_step : Rest r n i b ≡ in_turn (steps current (entry_commands e) ++ entry_steps current (read_entries (n - (i + 1)) (drop (20 * (i + 1)) r))) b
    unfolding read_entries
    rest_step =
        rw (items_rest 20 read_entry read_entries (λ l. refl) (λ m l. refl) i n r h, is)
        (ap (λ (ss : List Step). in_turn ss b) (entry_steps_lem _ _))

    pub entries_refused : (x ≡ 0 → ⊥) → outcome x b' ≡ whole
    entries_refused z = turn_refused (steps current (entry_commands e)) _ b x b' o z ∙ sym rest_step ∙ sym inv

    pub entries_next : x ≡ 0 → whole ≡ Rest r n (i + 1) b'
    entries_next z = inv ∙ rest_step ∙ sym (turn_next (steps current (entry_commands e)) _ b x b' o z)

  pub entries_done : n ≤ i → (o : Outcome) → o ≡ trim current 4096 b → o ≡ whole
  unfolding entry_steps commands read_entries
  entries_done h o e =
      let z : read_entries (n - i) (drop (20 * i) r) ≡ [] = items_end 20 read_entry read_entries (λ l. refl) (λ m l. refl) i n (drop (20 * i) r) h in
      e ∙ sym (turn_last (trim current 4096) b) ∙ sym (inv ∙ ap (λ (es : List Entry). in_turn (entry_steps current es) b) z)
