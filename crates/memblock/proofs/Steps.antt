-- One command on a good block: refused, it leaves the block; done, it leaves a good block that says what it made of each address. Assumes nothing.
use Prim.Native.Nat.{ℕ}
use mathlib.Core.Path.{◌≡◌, refl, ap, ◌∙◌}
use mathlib.Core.Bool.{Bool, true, false, cond, ◌&&◌}
use mathlib.Core.List.{List}
use mathlib.Core.Logic.{◌⊎◌, inl, inr}
use lib.Dec.{eqb}
use Rattle.regions.specs.declared.Kind.{Kind}
use Rattle.regions.specs.declared.Kind.TheVariants.{Memory, Taken}
use Rattle.regions.specs.declared.Region.{Region}
use Rattle.regions.specs.declared.State.{State}
use Rattle.regions.specs.declared.Change.{Change}
use Rattle.regions.specs.Meaning.{inside, at}
use Rattle.regions.specs.Lists.{good_list}
use Rattle.regions.specs.Changes.{change, after, cut, changed}
use Rattle.regions.proofs.Legal.{changed_at}
use Rattle.block.specs.Block.{current, Contents, list_of, with_list, block_bytes, contents, good}
use Rattle.range.specs.Outcomes.{Outcome}
use Rattle.tables.specs.Commands.{Command, table, change_of}
use Rattle.tables.specs.DemandTwo.{finished}
use Rattle.tables.proofs.Answered.{Refuses, Stores, refuses_or_stores}
use Rattle.tables.proofs.Verbs.{verb_keeps}
use Rattle.block.proofs.Blocks.{lists_ok, good_contents_lem}
use Rattle.block.proofs.Layouts.{small_current}
use Rattle.block.proofs.Kept.{Kept, change_kept}
use Rattle.memblock.specs.Calls.{outcome_of}
use Rattle.memblock.specs.Lists.{covers}

-- ---- what a command makes of an address

abbrev pub same_kind : Kind → Kind → Bool
same_kind Memory Memory = true
same_kind Memory Taken = false
same_kind Taken Memory = false
same_kind Taken Taken = true

-- the command works on the table k and covers a there
abbrev pub works : Command → Kind → ℕ → Bool
works d k a = same_kind (table d.verb) k && covers d a

-- of an address that stood as v in the table k
unfoldable pub made : Command → Kind → ℕ → State → State
made d k a v = cond (works d k a) (change (change_of d.verb) v) v

-- e is a good block with the settings of b that says what the command makes of each address of b
pub record Made (d : Command) (b e : List ℕ) : Type 0 where
  pub is_good : good current e ≡ true
  pub settings : (contents current e).settings ≡ (contents current b).settings
  pub says : (k : Kind) (a : ℕ) → at (list_of (contents current e) k) a ≡ made d k a (at (list_of (contents current b) k) a)

pub record Done (d : Command) (b : List ℕ) : Type 0 where
  pub number : eqb (outcome_of d b).number 0 ≡ true
  pub block : Made d b (outcome_of d b).block

-- the list of the table j is the changed one, and the other is as it was
with_at : (j k : Kind) (s : Contents) (c : Change) (base size a : ℕ) → good_list j (list_of s j) ≡ true
    → at (list_of (with_list s j (changed c base size (list_of s j))) k) a
    ≡ cond (same_kind j k && inside base (cut base size) a) (change c (at (list_of s k) a)) (at (list_of s k) a)
unfolding after
with_at Memory Memory s c base size a g = changed_at Memory c base size s.memory g a
with_at Memory Taken s c base size a g = refl
with_at Taken Memory s c base size a g = refl
with_at Taken Taken s c base size a g = changed_at Taken c base size s.taken g a

with_settings_lem : (j : Kind) (s : Contents) (xs : List Region) → (with_list s j xs).settings ≡ s.settings
with_settings_lem Memory s xs = refl
with_settings_lem Taken s xs = refl

module _ (d : Command) (b : List ℕ) (g : good current b ≡ true) where
  kept_made : (e : List ℕ) → Kept current (table d.verb) (finished current d b) b e → Made d b e
  unfolding made
  kept_made e h =
      let j : Kind = table d.verb in
      let s : Contents = contents current b in
      record {
        is_good = h.is_good;
        settings = ap (λ (x : Contents). x.settings) h.says ∙ with_settings_lem j s (finished current d b);
        says =
            λ k a. ap (λ (x : Contents). at (list_of x k) a) h.says
            ∙ with_at j k s (change_of d.verb) d.base d.size a (lists_ok current s (good_contents_lem current b g) j);
      }

  pub step : Refuses current d b ⊎ Done d b
  step = go (refuses_or_stores current d b)
    where
      go : Refuses current d b ⊎ Stores current d b → Refuses current d b ⊎ Done d b
      go (inl r) = inl r
      go (inr o) =
          let m : Made d b (block_bytes current (with_list (contents current b) (table d.verb) (finished current d b))) =
          kept_made _ (change_kept current small_current b g (table d.verb) (change_of d.verb) d.base d.size (verb_keeps d.verb o.legal) o.room) in
          inr (record { number = ap (λ (y : Outcome). eqb y.number 0) o.is; block = rw (ap (λ (y : Outcome). y.block) o.is) m })
