-- The tokens of a structure block are those that its bytes spell, where there are such, and the bytes of what is accepted spell its tokens. Assumes nothing.
use Prim.Native.Nat.{ℕ, zero, suc, ◌+◌, ◌-◌, ◌≤◌, ◌<◌}
use mathlib.Core.Path.{◌≡◌, refl, sym, ap, ◌∙◌, subst}
use mathlib.Core.Bool.{Bool, true, false, ◌&&◌, ◌||◌, not}
use mathlib.Core.List.{List, [], ◌∷◌, ◌++◌, append_assoc}
use native.Mathlib.Numerals.{add-one}
use native.Mathlib.Omega.{arith}
use lib.Dec.{ltb, eqb}
use lib.ListN.{length, drop, take, length-append, length-drop, take-append-drop}
use lib.Seq.{drop_at, take_at, drop-drop, length-take-le}
use borrow.Author.Tests.{lt-ltb, le-leb, ltb-true, eqb-true}
use Rattle.tree.specs.Words.{word}
use Rattle.tree.specs.Tokens.{to_zero, zero_ended, Token, begin, end, property, nop, stop, broken, begin_of, property_of, plain_of, token_of, token}
use Rattle.tree.specs.Tokens.{padded, size, tokens_up_to, tokens}
use Rattle.tree.specs.Form.{follows, named, formed}
use Rattle.tree.specs.Trees.{Spelt, none, begins, has, ends, idles, stops}
use Rattle.tree.proofs.Booleans.{both, never}
use Rattle.tree.proofs.Numbers.{word_take}
use Rattle.tree.proofs.Names.{named_ends}
use Rattle.tree.proofs.TokenCases.{token_cases}
use Rattle.tree.proofs.Following.{size_some, tokens_next, tokens_some}

-- ---- the tokens are those that the bytes spell

-- 4 bytes in front
module _ (w l : List ℕ) (four : length w ≡ 4) where
  word_front : word (w ++ l) ≡ word w
  word_front = sym (word_take (w ++ l)) ∙ ap (λ (x : List ℕ). word x) (take_at w l 4 four)

  drop_front : drop 4 (w ++ l) ≡ l
  drop_front = drop_at w l 4 four

  token_front : (names : ℕ) → token names (w ++ l) ≡ token_of names (word w) l
  unfolding token
  token_front names = rw (le-leb 4 (length (w ++ l)) (omega (arith, length-append w l)), word_front, drop_front) refl

to_zero_front : (name l : List ℕ) → to_zero name ≡ name → to_zero (name ++ (0 ∷ l)) ≡ name
unfolding to_zero
to_zero_front [] l e = refl
to_zero_front (zero ∷ name) l e = let z : ◌≡◌ {A = ℕ} 0 1 = cc in absurd (omega arith)
to_zero_front (suc b ∷ name) l e = let q : suc b ∷ to_zero name ≡ suc b ∷ name = e in ap (λ (x : List ℕ). suc b ∷ x) (to_zero_front name l (cc))

-- a token of so many bytes, and the tokens behind it
tokens_front : (names : ℕ) (t : Token) (front rest : List ℕ) (ts : List Token) → length front ≡ size t → 0 < size t → token names (front ++ rest) ≡ t
    → tokens names rest ≡ ts → tokens names (front ++ rest) ≡ t ∷ ts
tokens_front names t front rest ts n p h q =
    tokens_next names (front ++ rest) (omega (arith, length-append front rest)) ∙ rw (h, drop_at front rest (size t) n, q) refl

module _ (names : ℕ) (w : List ℕ) (four : length w ≡ 4) where
  begin_front : (name l : List ℕ) → word w ≡ 1 → to_zero name ≡ name → token names (w ++ (name ++ (0 ∷ l))) ≡ begin name
  unfolding token_of begin_of
  begin_front name l one e =
      let m = name ++ (0 ∷ l) in
      let z : to_zero m ≡ name = to_zero_front name l e in
      let h : length (to_zero m) < length m = omega (arith, ap (λ (x : List ℕ). length x) z, length-append name (0 ∷ l)) in
      token_front w m four names ∙ rw (one, lt-ltb (length (to_zero m)) (length m) h) (ap begin z)

  property_front : (n at value l : List ℕ) → word w ≡ 3 → length n ≡ 4 → word n ≡ length value → length at ≡ 4 → ltb (word at) names ≡ true
      → token names (w ++ (n ++ (at ++ (value ++ l)))) ≡ property (word at) value
  unfolding token_of property_of
  property_front n at value l three ln nn la h =
      let r = value ++ l in
      let m = n ++ (at ++ r) in
      let a : word m ≡ length value = word_front n (at ++ r) ln ∙ nn in
      let d : drop 4 m ≡ at ++ r = drop_front n (at ++ r) ln in
      let b : word (drop 4 m) ≡ word at = ap (λ (x : List ℕ). word x) d ∙ word_front at r la in
      let c : drop 8 m ≡ r = sym (drop-drop 4 4 m) ∙ ap (λ (x : List ℕ). drop 4 x) d ∙ drop_front at r la in
      let k : length m ≡ 8 + (length value + length l) = simp length-append (omega arith) in
      let v : take (length value) r ≡ value = take_at value l (length value) refl in
      token_front w m four names ∙ rw (three, b, a, le-leb 8 (length m) (omega arith), le-leb (length value) (length m - 8) (omega arith), h, c, v) refl

pub spelt_tokens : {strings : List ℕ} {ts : List Token} {l : List ℕ} → Spelt strings ts l → tokens (named strings) l ≡ ts
unfolding tokens_up_to token_of plain_of size
spelt_tokens none = refl
spelt_tokens {strings} (begins {ts} {l} w name pad lw ww nz lp s) =
    let front = w ++ (name ++ (0 ∷ pad)) in
    let e : front ++ l ≡ w ++ (name ++ (0 ∷ (pad ++ l))) = simp append_assoc in
    let k : length front ≡ 4 + padded (length name + 1) = simp length-append (omega arith) in
    let t = begin_front (named strings) w lw name (pad ++ l) ww nz in
    rw (← e) (tokens_front (named strings) (begin name) front l ts k (omega arith) (rw e t) (spelt_tokens s))
spelt_tokens {strings} (has {ts} {l} w n at value pad lw ww ln nn la z lp s) =
    let front = w ++ (n ++ (at ++ (value ++ pad))) in
    let e : front ++ l ≡ w ++ (n ++ (at ++ (value ++ (pad ++ l)))) = simp append_assoc in
    let k : length front ≡ 12 + padded (length value) = simp length-append (omega arith) in
    let t = property_front (named strings) w lw n at value (pad ++ l) ww ln nn la (named_ends strings (word at) ∙ z) in
    rw (← e) (tokens_front (named strings) (property (word at) value) front l ts k (omega arith) (rw e t) (spelt_tokens s))
spelt_tokens {strings} (ends {ts} {l} w lw ww s) =
    tokens_front (named strings) end w l ts lw (omega arith) (token_front w l lw (named strings) ∙ rw ww refl) (spelt_tokens s)
spelt_tokens {strings} (idles {ts} {l} w lw ww s) =
    tokens_front (named strings) nop w l ts lw (omega arith) (token_front w l lw (named strings) ∙ rw ww refl) (spelt_tokens s)
spelt_tokens {strings} (stops {ts} {l} w lw ww s) =
    tokens_front (named strings) stop w l ts lw (omega arith) (token_front w l lw (named strings) ∙ rw ww refl) (spelt_tokens s)

-- ---- what is accepted spells its tokens

zero_split : (l : List ℕ) → length (to_zero l) < length l → l ≡ to_zero l ++ (0 ∷ drop (length (to_zero l) + 1) l)
unfolding to_zero
zero_split [] h = absurd (omega arith)
zero_split (zero ∷ l) h = refl
zero_split (suc b ∷ l) h = ap (λ (x : List ℕ). suc b ∷ x) (zero_split l (omega arith) ∙ simp add-one)

to_zero_twice : (l : List ℕ) → to_zero (to_zero l) ≡ to_zero l
unfolding to_zero
to_zero_twice [] = refl
to_zero_twice (zero ∷ l) = refl
to_zero_twice (suc b ∷ l) = ap (λ (x : List ℕ). suc b ∷ x) (to_zero_twice l)

-- m bytes from n on
piece : (n m k : ℕ) (l : List ℕ) → n + m ≡ k → drop n l ≡ take m (drop n l) ++ drop k l
piece n m k l e = sym (take-append-drop m (drop n l)) ∙ ap (λ (x : List ℕ). take m (drop n l) ++ x) (drop-drop m n l ∙ ap (λ (x : ℕ). drop x l) e)

-- the first token is whole, its padding too, and what follows is spelt
module _ (strings l : List ℕ) (ts : List Token) where
  begin_spelt : (name : List ℕ) → word l ≡ 1 → zero_ended (drop 4 l) ≡ true → to_zero (drop 4 l) ≡ name → 4 + padded (length name + 1) ≤ length l
      → Spelt strings ts (drop (4 + padded (length name + 1)) l) → Spelt strings (begin name ∷ ts) l
  begin_spelt name w z e h s =
      let n = length name + 1 in
      let k = padded n - n in
      let pad = take k (drop (4 + n) l) in
      let lp : length pad ≡ k = length-take-le k (drop (4 + n) l) (omega (arith, length-drop (4 + n) l)) in
      let p : drop (4 + n) l ≡ pad ++ drop (4 + padded n) l = piece (4 + n) k (4 + padded n) l (omega arith) in
      let d : drop 4 l ≡ name ++ (0 ∷ drop n (drop 4 l)) = rw e at (zero_split (drop 4 l) (ltb-true (length (to_zero (drop 4 l))) (length (drop 4 l)) z)) in
      let whole : take 4 l ++ (name ++ (0 ∷ (pad ++ drop (4 + padded n) l))) ≡ l = cc (drop-drop n 4 l, take-append-drop 4 l) in
      subst (λ (x : List ℕ). Spelt strings (begin name ∷ ts) x) whole
      (begins (take 4 l) name pad (length-take-le 4 l (omega arith)) (word_take l ∙ w) (rw e at (to_zero_twice (drop 4 l))) (omega arith) s)

  property_spelt : (at : ℕ) (value : List ℕ) → word l ≡ 3 → 12 + word (drop 4 l) ≤ length l → word (drop 8 l) ≡ at → take (word (drop 4 l)) (drop 12 l) ≡ value
      → zero_ended (drop at strings) ≡ true → 12 + padded (length value) ≤ length l → Spelt strings ts (drop (12 + padded (length value)) l)
      → Spelt strings (property at value ∷ ts) l
  property_spelt at value w g a e z h s =
      let n = length value in
      let k = padded n - n in
      let pad = take k (drop (12 + n) l) in
      let ln : n ≡ word (drop 4 l) = rw e at (length-take-le (word (drop 4 l)) (drop 12 l) (omega (arith, length-drop 12 l))) in
      let lp : length pad ≡ k = length-take-le k (drop (12 + n) l) (omega (arith, length-drop (12 + n) l)) in
      let b : word (take 4 (drop 8 l)) ≡ at = word_take (drop 8 l) ∙ a in
      let p : drop (12 + n) l ≡ pad ++ drop (12 + padded n) l = piece (12 + n) k (12 + padded n) l (omega arith) in
      let v : drop 12 l ≡ value ++ drop (12 + n) l = rw (e, ← ln) at (piece 12 (word (drop 4 l)) (12 + word (drop 4 l)) l refl) in
      let front = take 4 l ++ (take 4 (drop 4 l) ++ (take 4 (drop 8 l) ++ (value ++ (pad ++ drop (12 + padded n) l)))) in
      let whole : front ≡ l = cc (piece 8 4 12 l refl, piece 4 4 8 l refl, take-append-drop 4 l) in
      subst (λ (x : List ℕ). Spelt strings (property at value ∷ ts) x) whole
      (subst (λ (x : ℕ). Spelt strings (property x value ∷ ts) front) b
      (has (take 4 l) (take 4 (drop 4 l)) (take 4 (drop 8 l)) value pad (length-take-le 4 l (omega arith)) (word_take l ∙ w)
      (length-take-le 4 (drop 4 l) (omega (arith, length-drop 4 l))) (word_take (drop 4 l) ∙ sym ln)
      (length-take-le 4 (drop 8 l) (omega (arith, length-drop 8 l))) (rw b z) (omega arith) s))

some_left : (names : ℕ) (l : List ℕ) (n : ℕ) (late : Bool) → follows n late (tokens names l) ≡ true → 0 < length l
unfolding follows tokens_up_to
some_left names [] n late e = never e
some_left names (b ∷ l) n late e = omega arith

none_spelt : (strings l : List ℕ) → length (tokens (named strings) l) ≡ 0 → Spelt strings (tokens (named strings) l) l
unfolding tokens_up_to
none_spelt strings [] e = none
none_spelt strings (b ∷ l) e = absurd (tokens_some (named strings) (b ∷ l) 0 (omega arith) e)

-- the tokens behind the first, where that is t
abbrev rest : (strings l : List ℕ) → Token → List Token
rest strings l t = tokens (named strings) (drop (size t) l)

-- by the first token, where the rest is spelt if it is accepted
module _
    (strings l : List ℕ) (n : ℕ) (late : Bool)
    (again : (t : Token) (m : ℕ) (u : Bool) → follows m u (rest strings l t) ≡ true → Spelt strings (rest strings l t) (drop (size t) l))
  where
    FirstSpelt : Token → Type 0
    FirstSpelt t = follows n late (t ∷ rest strings l t) ≡ true → Spelt strings (t ∷ rest strings l t) l

    first_begin : word l ≡ 1 → zero_ended (drop 4 l) ≡ true → FirstSpelt (begin (to_zero (drop 4 l)))
    unfolding FirstSpelt follows size
    first_begin w z e =
        let name = to_zero (drop 4 l) in
        let t = begin name in
        let p = both (ltb 0 n || not late) (ltb n 16 && follows (suc n) false (rest strings l t)) e in
        let q = both (ltb n 16) (follows (suc n) false (rest strings l t)) p.1 in
        let more = some_left (named strings) (drop (size t) l) (suc n) false q.1 in
        begin_spelt strings l (rest strings l t) name w z refl (omega (arith, length-drop (size t) l)) (again t (suc n) false q.1)

    first_property : word l ≡ 3 → 12 + word (drop 4 l) ≤ length l → ltb (word (drop 8 l)) (named strings) ≡ true
        → FirstSpelt (property (word (drop 8 l)) (take (word (drop 4 l)) (drop 12 l)))
    unfolding FirstSpelt follows size
    first_property w g z e =
        let at = word (drop 8 l) in
        let value = take (word (drop 4 l)) (drop 12 l) in
        let t = property at value in
        let p = both (ltb 0 n && not late) (follows n false (rest strings l t)) e in
        let more = some_left (named strings) (drop (size t) l) n false p.1 in
        property_spelt strings l (rest strings l t) at value w g refl refl (sym (named_ends strings at) ∙ z) (omega (arith, length-drop (size t) l))
        (again t n false p.1)

    first_end : 4 ≤ length l → word l ≡ 2 → FirstSpelt end
    unfolding FirstSpelt follows size
    first_end h w e =
        let p = both (ltb 0 n) (follows (n - 1) true (rest strings l end)) e in
        subst (λ (x : List ℕ). Spelt strings (end ∷ rest strings l end) x) (take-append-drop 4 l)
        (ends (take 4 l) (length-take-le 4 l h) (word_take l ∙ w) (again end (n - 1) true p.1))

    first_nop : 4 ≤ length l → word l ≡ 4 → FirstSpelt nop
    unfolding FirstSpelt follows size
    first_nop h w e =
        subst (λ (x : List ℕ). Spelt strings (nop ∷ rest strings l nop) x) (take-append-drop 4 l)
        (idles (take 4 l) (length-take-le 4 l h) (word_take l ∙ w) (again nop n late e))

    first_stop : 4 ≤ length l → word l ≡ 9 → FirstSpelt stop
    unfolding FirstSpelt follows size
    first_stop h w e =
        let p = both (eqb n 0 && late) (eqb (length (rest strings l stop)) 0) e in
        let behind = none_spelt strings (drop 4 l) (eqb-true (length (rest strings l stop)) 0 p.1) in
        subst (λ (x : List ℕ). Spelt strings (stop ∷ rest strings l stop) x) (take-append-drop 4 l)
        (stops (take 4 l) (length-take-le 4 l h) (word_take l ∙ w) behind)

    first_broken : FirstSpelt broken
    unfolding FirstSpelt follows
    first_broken e = never e

    first_spelt : FirstSpelt (token (named strings) l)
    first_spelt = token_cases (named strings) l FirstSpelt first_broken (λ _. first_begin) first_property first_end first_nop first_stop

-- k is at least as many as there are bytes
rest_spelt : (k : ℕ) (strings l : List ℕ) (n : ℕ) (late : Bool) → length l ≤ k → follows n late (tokens (named strings) l) ≡ true
    → Spelt strings (tokens (named strings) l) l
unfolding FirstSpelt
rest_spelt zero strings l n late h e = absurd (omega (arith, some_left (named strings) l n late e))
rest_spelt (suc k) strings l n late h e =
    let more = some_left (named strings) l n late e in
    let t = tokens_next (named strings) l more in
    rw t
    (first_spelt strings l n late (λ x m u f. rest_spelt k strings (drop (size x) l) m u (omega (arith, size_some x, length-drop (size x) l)) f) (rw t at e))

pub formed_spelt : (strings l : List ℕ) → formed strings l ≡ true → Spelt strings (tokens (named strings) l) l
unfolding formed
formed_spelt strings l e = rest_spelt (length l) strings l 0 false (omega arith) e
