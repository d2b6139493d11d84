-- What a lookup answers: the slip's check, and then the place told; zeros where no tree is named. Assumes nothing.
use Prim.Native.Nat.{ℕ}
use mathlib.Core.Path.{◌≡◌, refl}
use mathlib.Core.List.{List, []}
use lib.ListN.{length, replicate}
use borrow.Author.Tests.{eq-eqb, ne_eqb}
use Rattle.paths.specs.declared.pairs.Place.{Place}
use Rattle.paths.specs.declared.pairs.Holder.{Holder}
use Rattle.refusals.specs.Numbers.{number}
use Rattle.refusals.specs.declared.Refusal.{Refusal}
use Rattle.std.proofs.Common.{Option, Some, None, Result, Ok, Err}
use Rattle.regions.specs.Bytes.{bytes}
use Rattle.paths.specs.declared.pairs.Holder.TheVariants.{Service, Board}
use Rattle.paths.specs.Lookup.{pair_place, holder_of, number_of_holder, number_of}
use Rattle.search.specs.Answers.{answer, slip_of}
use Rattle.memblock.specs.Lookups.{slip_to, looked_up, UntoldSentence}

module _ (service board p name slip : List ℕ) where
  pub other_slip : (length slip ≡ 16 → ⊥) → answer 8 [] slip ≡ looked_up service board p name slip
  unfolding looked_up
  other_slip h = rw (ne_eqb (length slip) 16 h) refl

  module _ (h : length slip ≡ 16) (x : Result (Option Place) Refusal) (q : x ≡ pair_place service board p name) (y : List ℕ) where
    looked : (n : ℕ) → n ≡ number_of (holder_of x) → y ≡ slip_to x → answer n [] y ≡ looked_up service board p name slip
    unfolding looked_up
    looked n k e = rw (eq-eqb (length slip) 16 h, ← q, k, e) refl

    pub place_told : (r : Place) → x ≡ Ok (Some r) → y ≡ slip_of r.offset r.length → (n : ℕ) → n ≡ number_of_holder r.holder → answer n [] y ≡ looked_up service board p name slip
    place_told r z e n k = looked n (rw z k) (rw z e)

    pub none_told : x ≡ Ok None → y ≡ slip_of 0 0 → answer 0 [] y ≡ looked_up service board p name slip
    none_told z e = looked 0 (rw z refl) (rw z e)

    pub refusal_told : (r : Refusal) → x ≡ Err r → y ≡ slip_of 0 0 → (n : ℕ) → n ≡ number r → answer n [] y ≡ looked_up service board p name slip
    refusal_told r z e n k = looked n (rw z k) (rw z e)

  -- ---- where no tree is named

  abbrev Untold : Result (Option Place) Refusal → Type 0
  Untold x = (number_of (holder_of x) ≡ 1 → ⊥) → (number_of (holder_of x) ≡ 2 → ⊥) → slip_to x ≡ replicate 16 0

  untold : (x : Result (Option Place) Refusal) → Untold x
  unfolding bytes
  untold (Ok (Some r)) = named r.holder
    where
      named : (h : Holder) → (number_of_holder h ≡ 1 → ⊥) → (number_of_holder h ≡ 2 → ⊥) → slip_of r.offset r.length ≡ replicate 16 0
      named Service f g = absurd (f refl)
      named Board f g = absurd (g refl)
  untold (Ok None) = λ f g. refl
  untold (Err e) = λ f g. refl

  pub untold_sentence : UntoldSentence service board p name slip
  unfolding looked_up
  untold_sentence = record {
    zero = λ h f g. rw (eq-eqb (length slip) 16 h) (untold (pair_place service board p name) (λ e. f (rw (eq-eqb (length slip) 16 h) e)) (λ e. g (rw (eq-eqb (length slip) 16 h) e)));
    lent = λ h. rw (ne_eqb (length slip) 16 h) refl;
  }
