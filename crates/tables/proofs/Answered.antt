-- What a command on a range answers, case by case: each check in its turn, then the finished list stored. Assumes nothing.
use Prim.Native.Nat.{ℕ}
use mathlib.Core.Path.{◌≡◌, refl, sym, ap, ◌∙◌}
use mathlib.Core.Bool.{Bool, true, false}
use mathlib.Core.List.{List}
use mathlib.Core.Logic.{◌⊎◌, inl, inr}
use lib.Dec.{leb, eqb}
use lib.ListN.{length}
use Rattle.block.specs.declared.Layout.{Layout}
use Rattle.block.specs.Block.{capacity, list_of, with_list, block_bytes, contents, good}
use Rattle.range.specs.Outcomes.{Outcome, outcome, store}
use Rattle.tables.specs.Commands.{Command, table, legal_verb, allows, command_outcome}
use Rattle.tables.specs.DemandTwo.{finished}

-- the finished list has room in its table
abbrev pub has_room : Layout → Command → List ℕ → Bool
has_room L c b = leb (length (finished L c b)) (capacity L (table c.verb))

module _ (L : Layout) (c : Command) (b : List ℕ) where
  -- each number, with the checks that were passed before it
  pub data Answered : Type 0 where
    not_good : good L b ≡ false → command_outcome L c b ≡ outcome 1 b → Answered
    not_legal : good L b ≡ true → legal_verb c.verb ≡ false → command_outcome L c b ≡ outcome 2 b → Answered
    not_allowed : good L b ≡ true → legal_verb c.verb ≡ true → allows c (list_of (contents L b) (table c.verb)) ≡ false → command_outcome L c b ≡ outcome 12 b → Answered
    no_room : good L b ≡ true → legal_verb c.verb ≡ true → allows c (list_of (contents L b) (table c.verb)) ≡ true → has_room L c b ≡ false
        → command_outcome L c b ≡ outcome 6 b → Answered
    done : good L b ≡ true → legal_verb c.verb ≡ true → allows c (list_of (contents L b) (table c.verb)) ≡ true → has_room L c b ≡ true
        → command_outcome L c b ≡ outcome 0 (block_bytes L (with_list (contents L b) (table c.verb) (finished L c b))) → Answered

  pub answered : Answered
  unfolding command_outcome store
  answered = go (good L b) refl (legal_verb c.verb) refl (allows c (list_of (contents L b) (table c.verb))) refl (has_room L c b) refl
    where
      go : (g : Bool) → good L b ≡ g → (l : Bool) → legal_verb c.verb ≡ l → (a : Bool) → allows c (list_of (contents L b) (table c.verb)) ≡ a → (m : Bool) → has_room L c b ≡ m → Answered
      go false g l h a i m j = not_good g (rw g)
      go true g false h a i m j = not_legal g h (rw (g, h))
      go true g true h false i m j = not_allowed g h i (rw (g, h, i))
      go true g true h true i false j = no_room g h i j (rw (g, h, i, j))
      go true g true h true i true j = done g h i j (rw (g, h, i, j))

-- the number of an outcome
pub number_is : {o : Outcome} {x : List ℕ} {n m : ℕ} → o ≡ outcome n x → o.number ≡ m → n ≡ m
number_is e h = sym (ap (λ (o : Outcome). o.number) e) ∙ h

-- ---- refused, or the finished list stored

pub record Refuses (L : Layout) (c : Command) (b : List ℕ) : Type 0 where
  pub number : eqb (command_outcome L c b).number 0 ≡ false
  pub block : (command_outcome L c b).block ≡ b

pub record Stores (L : Layout) (c : Command) (b : List ℕ) : Type 0 where
  pub is_good : good L b ≡ true
  pub legal : legal_verb c.verb ≡ true
  pub room : has_room L c b ≡ true
  pub is : command_outcome L c b ≡ outcome 0 (block_bytes L (with_list (contents L b) (table c.verb) (finished L c b)))

pub refuses_or_stores : (L : Layout) (c : Command) (b : List ℕ) → Refuses L c b ⊎ Stores L c b
refuses_or_stores L c b = go (answered L c b)
  where
    refuses : (n : ℕ) → eqb n 0 ≡ false → command_outcome L c b ≡ outcome n b → Refuses L c b
    refuses n z e = record { number = ap (λ (o : Outcome). eqb o.number 0) e ∙ z; block = ap (λ (o : Outcome). o.block) e }

    go : Answered L c b → Refuses L c b ⊎ Stores L c b
    go (not_good g e) = inl (refuses 1 refl e)
    go (not_legal g l e) = inl (refuses 2 refl e)
    go (not_allowed g l a e) = inl (refuses 12 refl e)
    go (no_room g l a m e) = inl (refuses 6 refl e)
    go (done g l a m e) = inr (record { is_good = g; legal = l; room = m; is = e })
