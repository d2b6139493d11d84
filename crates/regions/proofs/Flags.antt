-- The marking facts, once over the flag: setting or clearing it twice changes nothing more, whatever its weight; one of the three flags set or cleared in a
-- word of 0 to 7 leaves the other two, and the word of 0 to 7. Assumes nothing.
use Prim.Native.Nat.{ℕ, zero, suc, ◌+◌, ◌-◌, ◌/◌, ◌%◌, ◌≤◌, ◌<◌}
use mathlib.Core.Path.{◌≡◌, refl, sym, ap, ◌∙◌}
use mathlib.Core.Bool.{Bool, true, false, cond, not, ◌&&◌, ◌||◌}
use mathlib.Core.Logic.{◌⊎◌, inl, inr}
use native.Mathlib.Omega.{arith}
use native.Mathlib.Nat.{add-mul-div_right, one-mul, sub-add_cancel}
use lib.Dec.{leb, eqb}
use borrow.Author.Tests.{eq-eqb, ne_eqb, le-leb, leb-true, eqb-true, eqb-false, not-true}
use Rattle.address.proofs.Tests.{both}
use Rattle.regions.specs.Changes.{has, one_flag, set_flag, clear_flag}
use Rattle.regions.specs.Flags.{MarkingSentence}
use Rattle.regions.proofs.Fitting.{flag_le}

-- ---- the digits above w

next_odd : (x : ℕ) → (x % 2 ≡ 1 → ⊥) → (x + 1) % 2 ≡ 1
next_odd x h = omega arith

before_odd : (x y : ℕ) → x ≡ y + 1 → x % 2 ≡ 1 → y % 2 ≡ 1 → ⊥
before_odd x y e h k = omega arith

module _ (w : ℕ) (some : 0 < w) where
  more : (f : ℕ) → (f + w) / w ≡ f / w + 1
  more f = ap (λ (n : ℕ). (f + n) / w) (sym (one-mul w)) ∙ add-mul-div_right f 1 some

  less : (f : ℕ) → f / w % 2 ≡ 1 → f / w ≡ (f - w) / w + 1
  less f h = ap (λ (n : ℕ). n / w) (sym (sub-add_cancel (flag_le w f true (sym (eq-eqb (f / w % 2) 1 h)) refl))) ∙ more (f - w)

  set_again : (f : ℕ) → set_flag w (set_flag w f) ≡ set_flag w f
  set_again f = go (has w f) refl
    where
      go : (b : Bool) → has w f ≡ b → set_flag w (cond b f (f + w)) ≡ cond b f (f + w)
      go true e = rw e
      go false e = rw (eq-eqb ((f + w) / w % 2) 1 (ap (λ (x : ℕ). x % 2) (more f) ∙ next_odd (f / w) (eqb-false (f / w % 2) 1 e)))

  clear_again : (f : ℕ) → clear_flag w (clear_flag w f) ≡ clear_flag w f
  clear_again f = go (has w f) refl
    where
      go : (b : Bool) → has w f ≡ b → clear_flag w (cond b (f - w) f) ≡ cond b (f - w) f
      go true e = let h = eqb-true (f / w % 2) 1 e in rw (ne_eqb ((f - w) / w % 2) 1 (before_odd (f / w) ((f - w) / w) (less f h) h))
      go false e = rw e

-- ---- twice is once, whatever the weight: one of 0 changes nothing

set_none : (f : ℕ) → set_flag 0 f ≡ f
set_none f = go (has 0 f)
  where
    go : (b : Bool) → cond b f (f + 0) ≡ f
    go true = refl
    go false = omega arith

clear_none : (f : ℕ) → clear_flag 0 f ≡ f
clear_none f = go (has 0 f)
  where
    go : (b : Bool) → cond b (f - 0) f ≡ f
    go true = omega arith
    go false = refl

pub set_twice : (w f : ℕ) → set_flag w (set_flag w f) ≡ set_flag w f
set_twice zero f = set_none (set_flag 0 f)
set_twice (suc w) f = set_again (suc w) (omega arith) f

pub clear_twice : (w f : ℕ) → clear_flag w (clear_flag w f) ≡ clear_flag w f
clear_twice zero f = clear_none (clear_flag 0 f)
clear_twice (suc w) f = clear_again (suc w) (omega arith) f

-- ---- the three flags

one_of_three : (w : ℕ) → one_flag w ≡ true → (w ≡ 1) ⊎ ((w ≡ 2) ⊎ (w ≡ 4))
one_of_three w e = go (eqb w 1) (eqb w 2) refl refl e
  where
    go : (x y : Bool) → eqb w 1 ≡ x → eqb w 2 ≡ y → x || (y || eqb w 4) ≡ true → (w ≡ 1) ⊎ ((w ≡ 2) ⊎ (w ≡ 4))
    go true y p q h = inl (eqb-true w 1 p)
    go false true p q h = inr (inl (eqb-true w 2 q))
    go false false p q h = inr (inr (eqb-true w 4 h))

pub one_flag_bounds : (w : ℕ) → one_flag w ≡ true → (0 < w) × (w ≤ 4)
one_flag_bounds w e = go (one_of_three w e)
  where
    go : (w ≡ 1) ⊎ ((w ≡ 2) ⊎ (w ≡ 4)) → (0 < w) × (w ≤ 4)
    go (inl p) = (omega arith, omega arith)
    go (inr (inl p)) = (omega arith, omega arith)
    go (inr (inr p)) = (omega arith, omega arith)

-- p holds of every number below n
unfoldable every : (ℕ → Bool) → ℕ → Bool
every p zero = true
every p (suc n) = p n && every p n

every_holds : (p : ℕ → Bool) (n : ℕ) → every p n ≡ true → (f : ℕ) → f < n → p f ≡ true
unfolding every
every_holds p zero e f l = absurd (omega arith)
every_holds p (suc n) e f l = go (every_holds p n (both (p n) (every p n) e).1 f) (eqb f n) refl
  where
    go : (f < n → p f ≡ true) → (t : Bool) → eqb f n ≡ t → p f ≡ true
    go i true h = ap p (eqb-true f n h) ∙ (both (p n) (every p n) e).0
    go i false h = let d = eqb-false f n h in i (omega arith)

-- p passes for each of the three flags and each word of 0 to 7: 24 cases, computed
abbrev EachCase : (ℕ → ℕ → Bool) → Type 0
EachCase p = (every (p 1) 8 ≡ true) × ((every (p 2) 8 ≡ true) × (every (p 4) 8 ≡ true))

each_flag : (p : ℕ → ℕ → Bool) → EachCase p → (w : ℕ) → one_flag w ≡ true → (f : ℕ) → leb f 7 ≡ true → p w f ≡ true
each_flag p x w e f l = go (one_of_three w e)
  where
    below : f < 8
    below = let h = leb-true f 7 l in omega arith

    go : (w ≡ 1) ⊎ ((w ≡ 2) ⊎ (w ≡ 4)) → p w f ≡ true
    go (inl h) = rw h (every_holds (p 1) 8 x.0 f below)
    go (inr (inl h)) = rw h (every_holds (p 2) 8 x.1.0 f below)
    go (inr (inr h)) = rw h (every_holds (p 4) 8 x.1.1 f below)

pub set_legal : (w : ℕ) → one_flag w ≡ true → (f : ℕ) → leb f 7 ≡ true → leb (set_flag w f) 7 ≡ true
unfolding every
set_legal = each_flag (λ w f. leb (set_flag w f) 7) (refl, (refl, refl))

pub clear_legal : (w : ℕ) → one_flag w ≡ true → (f : ℕ) → leb f 7 ≡ true → leb (clear_flag w f) 7 ≡ true
unfolding every
clear_legal = each_flag (λ w f. leb (clear_flag w f) 7) (refl, (refl, refl))

-- ---- the marking facts

-- what k makes of f by w has the flag v as f has it, or v is w
abbrev stays : (ℕ → ℕ → ℕ) → ℕ → ℕ → ℕ → Bool
stays k v w f = eqb v w || cond (has v f) (has v (k w f)) (not (has v (k w f)))

others_stay : (k : ℕ → ℕ → ℕ) → EachCase (stays k 1) → EachCase (stays k 2) → EachCase (stays k 4) → (w : ℕ) → one_flag w ≡ true → (f : ℕ) → leb f 7 ≡ true
    → (v : ℕ) → one_flag v ≡ true → (v ≡ w → ⊥) → has v (k w f) ≡ has v f
others_stay k x y z w e f l v o n = equal (has v f) (has v (k w f)) (rw (ne_eqb v w n) at (go (one_of_three v o)))
  where
    go : (v ≡ 1) ⊎ ((v ≡ 2) ⊎ (v ≡ 4)) → stays k v w f ≡ true
    go (inl h) = rw h (each_flag (stays k 1) x w e f l)
    go (inr (inl h)) = rw h (each_flag (stays k 2) y w e f l)
    go (inr (inr h)) = rw h (each_flag (stays k 4) z w e f l)

    equal : (a b : Bool) → cond a b (not b) ≡ true → b ≡ a
    equal true b h = h
    equal false b h = not-true b h

pub marking_sentence : MarkingSentence
unfolding every
marking_sentence w f e l =
    let h = le-leb f 7 l in
    record {
      set = each_flag (λ w f. has w (set_flag w f)) (refl, (refl, refl)) w e f h;
      cleared = not-true (has w (clear_flag w f)) (each_flag (λ w f. not (has w (clear_flag w f))) (refl, (refl, refl)) w e f h);
      others_set = others_stay set_flag (refl, (refl, refl)) (refl, (refl, refl)) (refl, (refl, refl)) w e f h;
      others_cleared = others_stay clear_flag (refl, (refl, refl)) (refl, (refl, refl)) (refl, (refl, refl)) w e f h;
      set_small = leb-true (set_flag w f) 7 (set_legal w e f h);
      cleared_small = leb-true (clear_flag w f) 7 (clear_legal w e f h);
    }
