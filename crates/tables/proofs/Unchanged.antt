-- Where each address of its range already stands as a command says, the command is done and every byte stays. Assumes nothing.
use Prim.Native.Nat.{ℕ, ◌≤◌}
use mathlib.Core.Path.{◌≡◌, refl, ap, ◌∙◌}
use mathlib.Core.Bool.{Bool, true, false, cond}
use mathlib.Core.List.{List}
use mathlib.Core.Logic.{inl, inr}
use native.Mathlib.Omega.{arith}
use lib.Dec.{leb}
use lib.ListN.{length}
use borrow.Author.Tests.{leb-true, le-leb}
use Rattle.address.proofs.Tests.{both}
use Rattle.regions.specs.declared.Kind.{Kind}
use Rattle.regions.specs.declared.Kind.TheVariants.{Memory, Taken}
use Rattle.regions.specs.declared.Region.{Region}
use Rattle.regions.specs.declared.Change.{Change}
use Rattle.regions.specs.Meaning.{inside, at, top}
use Rattle.regions.specs.Lists.{good_list}
use Rattle.regions.specs.Changes.{change, after, cut, changed}
use Rattle.regions.proofs.Count.{agree}
use Rattle.regions.proofs.RoundTrip.{inside_hi, round_trip}
use Rattle.regions.proofs.Good.{good_rises}
use Rattle.regions.proofs.AllPresent.{empty_allowed}
use Rattle.block.specs.declared.Layout.{Layout}
use Rattle.block.specs.Block.{capacity, Contents, list_of, with_list, contents, good}
use Rattle.range.specs.Outcomes.{done_with, store, change_range}
use Rattle.tables.specs.Commands.{Command, table, change_of, strict, command_outcome}
use Rattle.tables.specs.SizeZero.{NoRange, SizeZeroSentence}
use Rattle.block.proofs.Blocks.{room, lists_ok, good_contents_lem, good_spelled}

-- each address from base to the cut end of the range stands as the change leaves it
abbrev pub Stays : Change → ℕ → ℕ → List Region → Type 0
Stays c base size xs = (a : ℕ) → inside base (cut base size) a ≡ true → change c (at xs a) ≡ at xs a

same_list : (k : Kind) (c : Change) (base size : ℕ) (xs : List Region) → good_list k xs ≡ true → Stays c base size xs → changed c base size xs ≡ xs
unfolding changed after
same_list k c base size xs g h =
    agree (after (change c) base (cut base size) (at xs)) (at xs) top (λ a l. point a (inside base (cut base size) a) refl)
    ∙ round_trip top xs (good_rises k xs g)
  where
    point : (a : ℕ) (t : Bool) → inside base (cut base size) a ≡ t → cond t (change c (at xs a)) (at xs a) ≡ at xs a
    point a true e = h a e
    point a false e = refl

with_own : (s : Contents) (k : Kind) → with_list s k (list_of s k) ≡ s
with_own s Memory = refl
with_own s Taken = refl

module _ (L : Layout) (b : List ℕ) (g : good L b ≡ true) where
  pub unchanged : (k : Kind) (c : Change) (base size : ℕ) → Stays c base size (list_of (contents L b) k) → change_range L k c base size b ≡ done_with b
  unfolding store
  unchanged k c base size h =
      let xs : List Region = list_of (contents L b) k in
      let p = good_contents_lem L b g in
      rw (
        same_list k c base size xs (lists_ok L (contents L b) p k) h,
        le-leb (length xs) (capacity L k) (room L (contents L b) p k),
        with_own (contents L b) k,
      )
      (ap done_with (good_spelled L b g))

-- ---- a size of 0, and a range of which the cut leaves nothing

no_range : (c : Command) → NoRange c → cut c.base c.size ≤ c.base
no_range c (inl e) = omega (arith, e)
no_range c (inr h) = omega (arith, h)

pub size_zero_sentence : SizeZeroSentence
unfolding command_outcome
size_zero_sentence L c b g l n =
    let a = empty_allowed (strict c.verb) c.base (cut c.base c.size) (list_of (contents L b) (table c.verb)) (no_range c n) in
    rw (g, l, ← a) (unchanged L b g (table c.verb) (change_of c.verb) c.base c.size (λ x e. absurd (none x e)))
  where
    none : (a : ℕ) → inside c.base (cut c.base c.size) a ≡ true → ⊥
    none a e =
        let h = no_range c n in
        omega (arith, inside_hi c.base (cut c.base c.size) a e, leb-true c.base a (both (leb c.base a) _ e).0)
