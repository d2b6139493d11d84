-- The bytes before the first zero byte, and the places of a strings block where a name begins that ends inside it. Assumes nothing.
use Prim.Native.Nat.{ℕ, zero, suc, ◌+◌, ◌-◌, ◌≤◌, ◌<◌}
use mathlib.Core.Path.{◌≡◌, refl, sym, ap, ◌∙◌}
use mathlib.Core.Bool.{Bool, true, false, cond}
use mathlib.Core.List.{List, [], ◌∷◌}
use native.Mathlib.Numerals.{add-one}
use native.Mathlib.Omega.{arith}
use lib.Dec.{ltb, leb-suc-suc}
use lib.ListN.{length, drop, take, get_or, length-drop}
use borrow.Author.Tests.{lt-ltb, le-ltb, ltb-false, ne_eqb}
use Rattle.std.proofs.Common.{Some, None, ◌==◌, position}
use Rattle.std.specs.List.{position_or_len}
use Rattle.tree.specs.Tokens.{to_zero, zero_ended}
use Rattle.tree.specs.Form.{named}
use Rattle.tree.proofs.Booleans.{never}

-- ---- how many there are, byte by byte

zero_miss : (l : List ℕ) (i : ℕ) → i < length l → (get_or l i 0 ≡ 0 → ⊥) → length (to_zero (drop i l)) ≡ suc (length (to_zero (drop (i + 1) l)))
unfolding to_zero
zero_miss [] i h e = omega arith
zero_miss (zero ∷ l) zero h e = absurd (e refl)
zero_miss (suc b ∷ l) zero h e = refl
zero_miss (b ∷ l) (suc i) h e = rw add-one (zero_miss l i (omega arith) e ∙ rw add-one)

-- the first zero byte
first_zero : (l : List ℕ) → position_or_len (λ b. b == 0) l ≡ length (to_zero l)
unfolding to_zero
first_zero [] = refl
first_zero (zero ∷ l) = refl
first_zero (suc b ∷ l) = rw (ne_eqb (suc b) 0 (omega arith)) (omega (arith, first_zero l))

pub zero_position : (l : List ℕ) → position (λ b. b == 0) l ≡ cond (zero_ended l) (Some (length (to_zero l))) None
zero_position l = rw (first_zero l) refl

pub to_zero_take : (l : List ℕ) → to_zero l ≡ take (length (to_zero l)) l
unfolding to_zero
to_zero_take [] = refl
to_zero_take (zero ∷ l) = refl
to_zero_take (suc b ∷ l) = ap (λ (x : List ℕ). suc b ∷ x) (to_zero_take l)

-- ---- the places of a strings block

ended_none : zero_ended [] ≡ false
unfolding to_zero
ended_none = le-ltb 0 0 (omega arith)

ended_zero : (l : List ℕ) → zero_ended (zero ∷ l) ≡ true
unfolding to_zero
ended_zero l = lt-ltb 0 (suc (length l)) (omega arith)

ended_suc : (b : ℕ) (l : List ℕ) → zero_ended (suc b ∷ l) ≡ zero_ended l
unfolding to_zero
ended_suc b l = leb-suc-suc (suc (length (to_zero l))) (length l)

none_named : (l : List ℕ) → zero_ended l ≡ false → named l ≡ 0
unfolding named
none_named [] e = refl
none_named (b ∷ l) e = rw e refl

-- a zero byte ends what begins before it
ended_before : (l : List ℕ) (i : ℕ) → i < length l → get_or l i 0 ≡ 0 → zero_ended l ≡ true
ended_before [] i h e = absurd (omega arith)
ended_before (zero ∷ l) i h e = ended_zero l
ended_before (suc b ∷ l) zero h e = absurd (omega arith)
ended_before (suc b ∷ l) (suc i) h e = ended_suc b l ∙ ended_before l i (omega arith) e

-- the last zero byte, from the end on
names_to : (l : List ℕ) (i : ℕ) → i < length l → get_or l i 0 ≡ 0 → zero_ended (drop (i + 1) l) ≡ false → i + 1 ≡ named l
unfolding named
names_to [] i h e z = absurd (omega arith)
names_to (zero ∷ l) zero h e z = rw (ended_zero l, none_named l z) refl
names_to (suc b ∷ l) zero h e z = absurd (omega arith)
names_to (b ∷ l) (suc i) h e z =
    let y : zero_ended (drop (i + 1) l) ≡ false = rw add-one (rw add-one at z) in
    let q : suc i + 1 ≡ suc (i + 1) = omega arith in
    q ∙ rw (ended_before (b ∷ l) (suc i) h e) (ap suc (names_to l i (omega arith) e y))

module _ (l : List ℕ) (i : ℕ) (h : i ≤ length l) (inv : zero_ended (drop i l) ≡ false) where
  pub names_hit : 0 < i → get_or l (i - 1) 0 ≡ 0 → i - 1 + 1 ≡ named l
  names_hit g e =
      let p : i - 1 + 1 ≡ i = omega arith in
      names_to l (i - 1) (omega arith) e (rw p inv)

  pub names_again : 0 < i → (get_or l (i - 1) 0 ≡ 0 → ⊥) → zero_ended (drop (i - 1) l) ≡ false
  names_again g e =
      let p : i - 1 + 1 ≡ i = omega arith in
      let m = zero_miss l (i - 1) (omega arith) e ∙ ap (λ (x : ℕ). suc (length (to_zero (drop x l)))) p in
      let f = ltb-false (length (to_zero (drop i l))) (length (drop i l)) inv in
      le-ltb (length (to_zero (drop (i - 1) l))) (length (drop (i - 1) l)) (omega (arith, length-drop (i - 1) l, length-drop i l))

  pub names_none : i ≤ 0 → 0 ≡ named l
  names_none g = let z : i ≡ 0 = omega arith in sym (none_named l (rw z at inv))

-- a name that begins at a place of the strings block ends inside it exactly where that place is one of these
pub named_ends : (l : List ℕ) (at : ℕ) → ltb at (named l) ≡ zero_ended (drop at l)
unfolding named
named_ends [] zero = sym ended_none
named_ends [] (suc at) = le-ltb (suc at) 0 (omega arith) ∙ sym ended_none
named_ends (b ∷ l) zero = go (zero_ended (b ∷ l))
  where
    go : (t : Bool) → ltb 0 (cond t (suc (named l)) 0) ≡ t
    go true = lt-ltb 0 (suc (named l)) (omega arith)
    go false = le-ltb 0 0 (omega arith)
named_ends (b ∷ l) (suc at) = go b (zero_ended (b ∷ l)) refl (named_ends l at)
  where
    go : (c : ℕ) (t : Bool) → zero_ended (c ∷ l) ≡ t → ltb at (named l) ≡ zero_ended (drop at l)
        → ltb (suc at) (cond t (suc (named l)) 0) ≡ zero_ended (drop at l)
    go c true e ih = leb-suc-suc (suc at) (named l) ∙ ih
    go zero false e ih = never (sym e ∙ ended_zero l)
    go (suc c) false e ih =
        let z : named l ≡ 0 = none_named l (sym (ended_suc c l) ∙ e) in
        le-ltb (suc at) 0 (omega arith) ∙ sym (le-ltb at (named l) (omega arith)) ∙ ih
