-- A list of commands leaves a good block good; so does a report taken in, which past the checks answers 0 or 6 and changes no byte behind the memory table. Assumes nothing.
use Prim.Native.Nat.{ℕ}
use mathlib.Core.Path.{◌≡◌, refl, ap, ◌∙◌}
use mathlib.Core.Bool.{Bool, true, false, cond}
use mathlib.Core.List.{List, [], ◌∷◌, Memᴰ}
use mathlib.Core.Logic.{◌⊎◌, inl}
use lib.Dec.{eqb}
use lib.ListN.{drop}
use Rattle.address.specs.Numbers.{power_below}
use Rattle.regions.specs.declared.Kind.TheVariants.{Taken}
use Rattle.block.specs.Block.{current, offset, good}
use Rattle.range.specs.Outcomes.{Outcome, outcome}
use Rattle.tables.specs.Commands.{Command, table, legal_verb, strict, command_outcome, trim}
use Rattle.tables.proofs.Good.{command_good, command_number, trim_good}
use Rattle.tables.proofs.Front.{command_front, trim_front}
use Rattle.intake.specs.declared.e820.Entry.{Entry}
use Rattle.intake.specs.E820.{entries, readable, commands, entry_steps, intake_e820}
use Rattle.intake.specs.Turns.{steps, in_turn, wholly}
use Rattle.intake.proofs.Turns.{Leaves, both_leave, commands_leave, turn_both, turn_last}
use Rattle.intake.proofs.Whole.{checked_good}
use Rattle.intake.proofs.ByKind.{all_adds, plain_legal}

-- ---- good blocks

-- where the one block is good, so is the other
abbrev pub StaysGood : List ℕ → List ℕ → Type 0
StaysGood b c = good current b ≡ true → good current c ≡ true

-- any list of commands in turn
pub commands_good : (cs : List Command) → Leaves StaysGood (in_turn (steps current cs))
commands_good cs = commands_leave StaysGood (λ b g. g) (λ b c d h k g. k (h g)) cs (λ c m b g. command_good b g c)

-- one entry's, in the code's own form
pub turn_good : (cs : List Command) (b : List ℕ) → good current b ≡ true → (x : ℕ) (c : List ℕ) → outcome x c ≡ in_turn (steps current cs) b → good current c ≡ true
turn_good cs b g x c o = rw (ap (λ (y : Outcome). y.block) o) (commands_good cs b g)

-- one command, in the code's own form
pub command_kept : (c : Command) (b : List ℕ) → good current b ≡ true → (x : ℕ) (d : List ℕ) → outcome x d ≡ command_outcome current c b → good current d ≡ true
command_kept c b g x d o = rw (ap (λ (y : Outcome). y.block) o) (command_good b g c)

trimmed_good : Leaves StaysGood (in_turn (trim current 4096 ∷ []))
trimmed_good b g = rw (turn_last (trim current 4096) b) (trim_good b g 4096)

in_turn_good : (es : List Entry) → Leaves StaysGood (in_turn (entry_steps current es))
unfolding entry_steps
in_turn_good es =
    both_leave StaysGood (λ b g. g) (λ b c d h k g. k (h g)) (steps current (commands es)) (trim current 4096 ∷ []) (commands_good (commands es)) trimmed_good

-- ---- the bytes that entries can change

-- both are good, and alike from the taken table on
abbrev Behind : List ℕ → List ℕ → Type 0
Behind b c = good current b ≡ true → (good current c ≡ true) × (drop (offset current Taken) c ≡ drop (offset current Taken) b)

behind_on : (b c d : List ℕ) → Behind b c → Behind c d → Behind b d
behind_on b c d h k g = let x = h g in let y = k x.0 in (y.0, y.1 ∙ x.1)

-- entries change only the header and the memory table
pub entries_front : (es : List Entry) (b : List ℕ) → good current b ≡ true
    → drop (offset current Taken) (in_turn (entry_steps current es) b).block ≡ drop (offset current Taken) b
unfolding entry_steps
entries_front es b g =
    (both_leave Behind (λ c h. (h, refl)) behind_on (steps current (commands es)) (trim current 4096 ∷ [])
    (commands_leave Behind (λ c h. (h, refl)) behind_on (commands es)
    (λ c m d h. (command_good d h c, command_front d h c (ap table (all_adds es c m)))))
    (λ c h. rw (turn_last (trim current 4096) c) (trim_good c h 4096, trim_front c h 4096)) b g).1

-- ---- the number

abbrev pub DoneOrFull : Outcome → Type 0
DoneOrFull o = (o.number ≡ 0) ⊎ (o.number ≡ 6)

-- legal commands in turn, none strict, are done, or one finds its table full
pub commands_number : (cs : List Command) → ((c : Command) → Memᴰ c cs → (legal_verb c.verb ≡ true) × (strict c.verb ≡ false)) → (b : List ℕ) → good current b ≡ true
    → DoneOrFull (in_turn (steps current cs) b)
unfolding in_turn
commands_number [] h b g = inl refl
commands_number (c ∷ cs) h b g = go (eqb o.number 0) refl (commands_number cs (λ d m. h d (Memᴰ.tail m)))
  where
    o : Outcome
    o = command_outcome current c b

    go : (t : Bool) → eqb o.number 0 ≡ t → ((d : List ℕ) → good current d ≡ true → DoneOrFull (in_turn (steps current cs) d))
        → DoneOrFull (cond t (in_turn (steps current cs) o.block) o)
    go true e ih = ih o.block (command_good b g c)
    go false e ih = let w = h c (Memᴰ.head refl) in command_number b g c w.0 w.1

in_turn_number : (es : List Entry) (b : List ℕ) → good current b ≡ true → DoneOrFull (in_turn (entry_steps current es) b)
unfolding entry_steps trim power_below
in_turn_number es b g = rw (turn_both (steps current (commands es)) (trim current 4096 ∷ []) b) (go (eqb o.number 0))
  where
    o : Outcome
    o = in_turn (steps current (commands es)) b

    go : (t : Bool) → DoneOrFull (cond t (in_turn (trim current 4096 ∷ []) o.block) o)
    go true = rw (turn_last (trim current 4096) o.block, commands_good (commands es) b g) (inl refl)
    go false = commands_number (commands es) (λ c m. (ap legal_verb (all_adds es c m) ∙ plain_legal, ap strict (all_adds es c m))) b g

-- ---- the whole

module _ (r b : List ℕ) (g : good current b ≡ true) where
  -- the block stays good, also where the report is refused
  pub intake_good : good current (intake_e820 current r b).block ≡ true
  unfolding intake_e820
  intake_good = checked_good 10 (readable r) (entry_steps current (entries r)) b g (in_turn_good (entries r) b g)

  -- 1 is given where the block is not good, 10 where it is and the report cannot be read, and then 0 or 6
  pub intake_number : readable r ≡ true → ((intake_e820 current r b).number ≡ 0) ⊎ ((intake_e820 current r b).number ≡ 6)
  unfolding intake_e820 wholly
  intake_number e = rw (g, e) (go (eqb o.number 0))
    where
      o : Outcome
      o = in_turn (entry_steps current (entries r)) b

      go : (t : Bool) → DoneOrFull (cond t o (outcome o.number b))
      go true = in_turn_number (entries r) b g
      go false = in_turn_number (entries r) b g
