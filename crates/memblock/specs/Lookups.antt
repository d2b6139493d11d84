-- The call that is lent no block: a property looked up in a service tree before a board's (E9). Its number and every byte of its slip. Assumes nothing.
use Rattle.std.specs.Prelude.{ℕ, ◌≡◌, List, [], Option, Some, None, Result, Ok, Err, length, replicate}
use Rattle.refusals.specs.declared.Refusal.{Refusal}
use Rattle.paths.specs.declared.pairs.Place.{Place}
use Rattle.paths.specs.Lookup.{pair_place, holder_of, number_of}
use Rattle.search.specs.Answers.{Answer, answer, slip_of, with_slip}

-- the offset and length of its value in the tree that has it: zero where none has it, and where a tree's form fails
abbrev pub slip_to : Result (Option Place) Refusal → List ℕ
slip_to (Ok (Some r)) = slip_of r.offset r.length
slip_to (Ok None) = slip_of 0 0
slip_to (Err e) = slip_of 0 0

-- which tree has it, and these
abbrev pub told : Result (Option Place) Refusal → Answer
told x = answer (number_of (holder_of x)) [] (slip_to x)

-- a slip of another length gets 8 and stays as lent
unfoldable pub looked_up : List ℕ → List ℕ → List ℕ → List ℕ → List ℕ → Answer
looked_up service board p name slip = with_slip [] slip (told (pair_place service board p name))

-- demand 1's second sentence for this call: where it names no tree the slip is all zero, or as lent where it is not 16 bytes
pub record UntoldSentence (service board p name slip : List ℕ) : Type 0 where
  pub zero : length slip ≡ 16 → ((looked_up service board p name slip).number ≡ 1 → ⊥) → ((looked_up service board p name slip).number ≡ 2 → ⊥)
      → (looked_up service board p name slip).slip ≡ replicate 16 0
  pub lent : (length slip ≡ 16 → ⊥) → looked_up service board p name slip ≡ answer 8 [] slip
