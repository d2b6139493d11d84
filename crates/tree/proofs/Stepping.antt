-- One token of a structure block: what stands at a place, and where the next token begins. Assumes nothing.
use Prim.Native.Nat.{ℕ, ◌+◌, ◌-◌, ◌%◌, ◌≤◌, ◌<◌}
use mathlib.Core.Path.{◌≡◌, refl, sym, ap, ◌∙◌}
use mathlib.Core.Bool.{Bool, true, false, cond}
use mathlib.Core.List.{List}
use native.Mathlib.Omega.{arith}
use lib.Dec.{leb, eqb}
use lib.ListN.{length, drop, take, length-drop, length-take, drop_of_length-le}
use lib.Seq.{drop-length, drop-drop}
use borrow.Author.Tests.{lt-ltb, le-ltb, le-leb, lt-leb, ne_eqb}
use Rattle.std.proofs.Common.{Option, Some, None, ◌==◌, position}
use Rattle.std.proofs.lemmas.List.{take_all}
use Rattle.tree.specs.Words.{word}
use Rattle.tree.specs.Tokens.{to_zero, zero_ended, Token, begin, end, nop, stop, broken, begin_of, property_of, plain_of, token_of, token, padded, size}
use Rattle.tree.specs.Steps.{shape, StepOf, Padded}
use Rattle.tree.specs.declared.tokens.Token as d
use Rattle.tree.specs.declared.tokens.Token.TheVariants.{Begin, Property, Broken}
use Rattle.tree.specs.declared.tokens.Step.{Step}
use Rattle.tree.proofs.Names.{zero_position}

-- ---- padding

module _ (len at n : ℕ) (h : at + n ≤ len) where
  pub behind_short : len - (at + n) < (4 - n % 4) % 4 → Padded len at n len
  behind_short s = record {
    rest = λ l e. drop_of_length-le l {i = len} (omega arith) ∙ sym (drop_of_length-le (drop at l) {i = padded n} (omega (arith, length-drop at l)));
    forward = h;
    within = omega arith;
  }

  pub behind_whole : (4 - n % 4) % 4 ≤ len - (at + n) → Padded len at n (at + n + (4 - n % 4) % 4)
  behind_whole s = record {
    rest = λ l e. (let p : at + n + (4 - n % 4) % 4 ≡ at + padded n = omega arith in rw p (sym (drop-drop (padded n) at l)));
    forward = omega arith;
    within = omega arith;
  }

-- ---- a token with a name or a value

module _ (l : List ℕ) (at : ℕ) (h : at + 4 ≤ length l) where
  rest_is : drop (at + 4) l ≡ drop 4 (drop at l)
  rest_is = sym (drop-drop 4 at l)

  rest_length : length (drop 4 (drop at l)) ≡ length l - (at + 4)
  rest_length = simp length-drop (omega arith)

  step_broken : (x : Token) → x ≡ broken → StepOf x l at (record { token = Broken; next = at + 4 })
  unfolding size
  step_broken x e = rw e (record { is = refl; rest = rest_is; forward = λ _. omega arith; within = h })

  module _ (r : Option ℕ) (found : r ≡ position (λ b. b == 0) (take (length l - (at + 4)) (drop (at + 4) l))) where
    all_is : take (length l - (at + 4)) (drop (at + 4) l) ≡ drop 4 (drop at l)
    all_is = take_all (length l - (at + 4)) (drop (at + 4) l) (omega (arith, length-drop (at + 4) l)) ∙ rest_is

    found_is : r ≡ cond (zero_ended (drop 4 (drop at l))) (Some (length (to_zero (drop 4 (drop at l))))) None
    found_is = found ∙ ap (λ (m : List ℕ). position (λ b. b == 0) m) all_is ∙ zero_position (drop 4 (drop at l))

    pub begin_broken : r ≡ None → StepOf (begin_of (drop 4 (drop at l))) l at (record { token = Broken; next = at + 4 })
    unfolding begin_of
    begin_broken e = step_broken _ (go (zero_ended (drop 4 (drop at l))) (sym e ∙ found_is))
      where
        go : (b : Bool) → None ≡ cond b (Some (length (to_zero (drop 4 (drop at l))))) None → cond b (begin (to_zero (drop 4 (drop at l)))) broken ≡ broken
        go true z = cc
        go false z = refl

    module _ (n : ℕ) (e : r ≡ Some n) where
      name_there : (zero_ended (drop 4 (drop at l)) ≡ true) × (n ≡ length (to_zero (drop 4 (drop at l))))
      name_there = go (zero_ended (drop 4 (drop at l))) (sym e ∙ found_is)
        where
          go : (b : Bool) → Some n ≡ cond b (Some (length (to_zero (drop 4 (drop at l))))) None → (b ≡ true) × (n ≡ length (to_zero (drop 4 (drop at l))))
          go true z = (refl, cc)
          go false z = cc

      pub begin_whole : (x : ℕ) → Padded (length l) (at + 4) (n + 1) x → StepOf (begin_of (drop 4 (drop at l))) l at (record { token = Begin n; next = x })
      unfolding begin_of size
      begin_whole x p =
          let k = padded (n + 1) in
          let to : drop x l ≡ drop (4 + k) (drop at l) = p.rest l refl ∙ ap (λ (y : List ℕ). drop k y) rest_is ∙ drop-drop k 4 (drop at l) in
          rw name_there.0
          (record {
            is = ap Begin name_there.1;
            rest = to ∙ ap (λ (y : ℕ). drop (4 + padded (y + 1)) (drop at l)) name_there.1;
            forward = λ _. omega (arith, p.forward);
            within = p.within;
          })

  module _ (names : ℕ) where
    pub property_short : length l - (at + 4) < 8 → StepOf (property_of names (drop 4 (drop at l))) l at (record { token = Broken; next = at + 4 })
    unfolding property_of
    property_short s = step_broken _ (rw (lt-leb 8 (length (drop 4 (drop at l))) (omega (arith, rest_length))) refl)

    module _ (s : 8 ≤ length l - (at + 4)) (n : ℕ) (is : n ≡ word (drop (at + 4) l)) where
      numbers_fit : leb 8 (length (drop 4 (drop at l))) ≡ true
      numbers_fit = le-leb 8 (length (drop 4 (drop at l))) (omega (arith, rest_length))

      length_is : n ≡ word (drop 4 (drop at l))
      length_is = is ∙ ap word rest_is

      pub property_long : length l - (at + 4) - 8 < n → StepOf (property_of names (drop 4 (drop at l))) l at (record { token = Broken; next = at + 4 })
      unfolding property_of
      property_long g =
          let f = lt-leb (word (drop 4 (drop at l))) (length (drop 4 (drop at l)) - 8) (omega (arith, rest_length, length_is)) in
          step_broken _ (rw (numbers_fit, f) refl)

      module _ (g : n ≤ length l - (at + 4) - 8) (m : ℕ) (named : m ≡ word (drop (at + 4 + 4) l)) where
        value_fits : leb (word (drop 4 (drop at l))) (length (drop 4 (drop at l)) - 8) ≡ true
        value_fits = le-leb (word (drop 4 (drop at l))) (length (drop 4 (drop at l)) - 8) (omega (arith, rest_length, length_is))

        place_is : m ≡ word (drop 4 (drop 4 (drop at l)))
        place_is = named ∙ ap word (sym (drop-drop 4 (at + 4) l) ∙ ap (λ (x : List ℕ). drop 4 x) rest_is)

        pub property_unnamed : names ≤ m → StepOf (property_of names (drop 4 (drop at l))) l at (record { token = Broken; next = at + 4 })
        unfolding property_of
        property_unnamed f = step_broken _ (rw (numbers_fit, value_fits, ← place_is, le-ltb m names f) refl)

        pub property_whole : m < names → (r : ℕ) → Padded (length l) (at + 4 + 8) n r
            → StepOf (property_of names (drop 4 (drop at l))) l at (record { token = Property m n; next = r })
        unfolding property_of size
        property_whole f r p =
            let value = take (word (drop 4 (drop at l))) (drop 8 (drop 4 (drop at l))) in
            let v : n ≡ length value = simp (length-take, length-drop) (omega (arith, length_is, rest_length, length-drop at l)) in
            let k = padded n in
            let q : at + 4 + 8 + k ≡ at + (12 + k) = omega arith in
            let to : drop r l ≡ drop (at + (12 + k)) l = p.rest l refl ∙ drop-drop k (at + 4 + 8) l ∙ ap (λ (x : ℕ). drop x l) q in
            rw (numbers_fit, value_fits, ← place_is, lt-ltb m names f)
            (record {
              is = ap (λ (x : ℕ). Property m x) v;
              rest = to ∙ sym (drop-drop (12 + k) at l) ∙ ap (λ (x : ℕ). drop (12 + padded x) (drop at l)) v;
              forward = λ _. omega (arith, p.forward);
              within = p.within;
            })

-- ---- a token that is its number alone

plain_size : (w : ℕ) → size (plain_of w) ≡ 4
unfolding plain_of size
plain_size w = go (eqb w 2) (eqb w 4) (eqb w 9)
  where
    go : (a b c : Bool) → size (cond a end (cond b nop (cond c stop broken))) ≡ 4
    go true b c = refl
    go false true c = refl
    go false false true = refl
    go false false false = refl

-- ---- by the number

module _ (names : ℕ) (l : List ℕ) (at : ℕ) (in-l : at ≤ length l) where
  pub token_short : length l - at < 4 → StepOf (token names (drop at l)) l at (record { token = Broken; next = length l })
  unfolding token size
  token_short s =
      rw (lt-leb 4 (length (drop at l)) (omega (arith, length-drop at l)))
      (record {
        is = refl;
        rest = drop-length l ∙ sym (drop_of_length-le (drop at l) {i = 4} (omega (arith, length-drop at l)));
        forward = λ g. g;
        within = omega arith;
      })

  module _ (h : 4 ≤ length l - at) (w : ℕ) (is : w ≡ word (drop at l)) where
    whole : token names (drop at l) ≡ token_of names w (drop 4 (drop at l))
    unfolding token
    whole = rw (le-leb 4 (length (drop at l)) (omega (arith, length-drop at l)), is)

    pub token_begin : w ≡ 1 → (r : Step) → StepOf (begin_of (drop 4 (drop at l))) l at r → StepOf (token names (drop at l)) l at r
    unfolding token_of
    token_begin e r s = rw (whole, e) s

    pub token_property : w ≡ 3 → (r : Step) → StepOf (property_of names (drop 4 (drop at l))) l at r → StepOf (token names (drop at l)) l at r
    unfolding token_of
    token_property e r s = rw (whole, e) s

    pub token_plain : (w ≡ 1 → ⊥) → (w ≡ 3 → ⊥) → (x : d.Token) → x ≡ shape (plain_of w)
        → StepOf (token names (drop at l)) l at (record { token = x; next = at + 4 })
    unfolding token_of
    token_plain a b x s =
        rw (whole, ne_eqb w 1 a, ne_eqb w 3 b)
        (record { is = s; rest = rw plain_size (sym (drop-drop 4 at l)); forward = λ _. omega arith; within = omega arith })
