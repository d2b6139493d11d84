-- A report is taken in whole or not at all: refusals in their order, and the block put back; and what every intake has of that. Assumes nothing.
use Prim.Native.Nat.{ℕ, ◌+◌, ◌*◌, ◌/◌, ◌%◌, ◌≤◌, ◌<◌}
use mathlib.Core.Path.{◌≡◌, refl, sym, ap, ◌∙◌}
use mathlib.Core.Bool.{Bool, true, false, not}
use mathlib.Core.List.{List, ◌++◌, append-nil}
use native.Mathlib.Omega.{arith}
use lib.Dec.{eqb}
use lib.ListN.{length, take, drop, take-append-drop, drop_of_length-le}
use lib.Seq.{take_all, length-take-le}
use borrow.Author.Tests.{eq-eqb, ne_eqb, le-leb, eqb-true, eqb-false}
use Rattle.block.specs.declared.Layout.{Layout}
use Rattle.block.specs.Block.{current, good}
use Rattle.range.specs.Outcomes.{Outcome, outcome, unless}
use Rattle.block.proofs.Blocks.{good_length, good_here, bad_here}
use Rattle.intake.specs.E820.{entries, readable, entry_steps, intake_e820}
use Rattle.intake.specs.Turns.{Step, in_turn, wholly}
use Rattle.intake.proofs.Answers.{block_first, part_entry, over_128}

-- ---- put back after a refusal

-- a good block is longer than what is kept of it
pub front_room : (b : List ℕ) → good current b ≡ true → 80 + 24 * current.memory ≤ length b
front_room b g = omega (arith, good_length current b g)

module _ (ss : List Step) (b : List ℕ) (x : ℕ) (c : List ℕ) (o : outcome x c ≡ in_turn ss b) where
  -- the first n bytes were kept, and the others have not changed
  pub put_back : (x ≡ 0 → ⊥) → (n : ℕ) → n ≤ length b → drop n (in_turn ss b).block ≡ drop n b → (z k d : List ℕ) → length z ≡ n → k ≡ take n b ++ drop n z → d ≡ take n k ++ drop n c
      → outcome x d ≡ wholly ss b
  unfolding wholly
  put_back h n l same z k d m p q =
      let r : length z ≤ n = omega arith in
      let e : k ≡ take n b = p ∙ rw (drop_of_length-le z r) (append-nil (take n b)) in
      let f : take n k ≡ take n b = rw e (take_all n (take n b) (omega (arith, length-take-le n b l))) in
      let y : drop n c ≡ drop n b = ap (λ (w : Outcome). drop n w.block) o ∙ same in
      let w : d ≡ b = q ∙ rw (f, y) (take-append-drop n b) in
      rw (← o, ne_eqb x 0 h, w)

  pub left_done : x ≡ 0 → outcome 0 c ≡ wholly ss b
  unfolding wholly
  left_done h = rw (← o, eq-eqb x 0 h, h)

-- ---- the checks

module _ (L : Layout) (w : L ≡ current) (b : List ℕ) (g : Bool) (q : g ≡ good L b) (r : List ℕ) where
  pub not_good : not g ≡ true → outcome 1 b ≡ intake_e820 current r b
  not_good h = sym (block_first current r b (bad_here L w b g q h))

  module _ (h : not g ≡ false) where
    pub is_good_lem : good current b ≡ true
    is_good_lem = good_here L w b g q h

    pub ragged : (length r % 20 ≡ 0 → ⊥) → outcome 10 b ≡ intake_e820 current r b
    ragged n = sym (part_entry current r b is_good_lem n)

    pub too_long : 128 < length r / 20 → outcome 10 b ≡ intake_e820 current r b
    too_long n = sym (over_128 current r b is_good_lem n)

    pub taken_in : length r % 20 ≡ 0 → length r / 20 ≤ 128 → (p : Outcome) → p ≡ wholly (entry_steps current (entries r)) b → p ≡ intake_e820 current r b
    unfolding intake_e820 readable
    taken_in e n p q = rw (is_good_lem, eq-eqb (length r % 20) 0 e, le-leb (length r / 20) 128 n) q

-- ---- an intake that was not refused

-- what every intake does: the block is looked at, then what is lent (n where it cannot be read), then the steps are done wholly
abbrev pub checked : ℕ → Bool → List Step → List ℕ → Outcome
checked n t ss b = unless (good current b) 1 b (unless t n b (wholly ss b))

-- the block was good, and the steps were all done in turn
pub record TakenIn (ss : List Step) (b : List ℕ) (o : Outcome) : Type 0 where
  pub is_good : good current b ≡ true
  pub number : (in_turn ss b).number ≡ 0
  pub outcome : o ≡ in_turn ss b

module _ (n : ℕ) (t : Bool) (ss : List Step) (b : List ℕ) where
  pub not_refused : (n ≡ 0 → ⊥) → (checked n t ss b).number ≡ 0 → TakenIn ss b (checked n t ss b)
  unfolding wholly
  not_refused some h = go (good current b) refl t refl (eqb o.number 0) refl h
    where
      o : Outcome
      o = in_turn ss b

      go : (g : Bool) → good current b ≡ g → (u : Bool) → t ≡ u → (v : Bool) → eqb o.number 0 ≡ v
          → (unless g 1 b (unless u n b (unless v o.number b o))).number ≡ 0 → TakenIn ss b (checked n t ss b)
      go true g true e true f z = record { is_good = g; number = eqb-true o.number 0 f; outcome = rw (g, e, f) }
      go true g true e false f z = absurd (eqb-false o.number 0 f z)
      go true g false e v f z = absurd (some z)
      go false g u e v f z = let y : ⊥ = omega arith in absurd y

  -- a good block stays good if the steps leave it so, also where the intake is refused
  pub checked_good : good current b ≡ true → good current (in_turn ss b).block ≡ true → good current (checked n t ss b).block ≡ true
  unfolding wholly
  checked_good g h = rw g (go t (eqb (in_turn ss b).number 0))
    where
      go : (u v : Bool) → good current (unless u n b (unless v (in_turn ss b).number b (in_turn ss b))).block ≡ true
      go true true = h
      go true false = g
      go false v = g
