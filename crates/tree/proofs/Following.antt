-- What may follow at a place of a structure block, and what is left of the open nodes there, by the token that stands there. Assumes nothing.
use Prim.Native.Nat.{ℕ, zero, suc, ◌+◌, ◌-◌, ◌≤◌, ◌<◌}
use mathlib.Core.Path.{◌≡◌, refl, sym, ap, ◌∙◌}
use mathlib.Core.Bool.{Bool, true, false, ◌&&◌}
use mathlib.Core.List.{List, [], ◌∷◌}
use native.Mathlib.Omega.{arith}
use lib.Dec.{ltb, eqb}
use lib.ListN.{length, drop, take, length-drop, length-take, drop_of_length-le}
use lib.Seq.{drop-drop}
use borrow.Author.Tests.{lt-ltb, le-ltb, ne_eqb, eqb-true, eqb-false}
use Rattle.tree.specs.Tokens.{Token, begin, end, property, nop, stop, broken, token, size, tokens_up_to, tokens}
use Rattle.tree.specs.Form.{follows}
use Rattle.tree.specs.Content as c
use Rattle.tree.specs.Content.{Content, contents, first, in_root}
use Rattle.tree.specs.Places.{placed, located}
use Rattle.tree.specs.Steps.{shape, StepOf, rest_at, contents_at, strip}
use Rattle.tree.specs.declared.tokens.Token.TheVariants.{Begin, End, Property, Nop, Stop, Broken}
use Rattle.tree.specs.declared.tokens.Step.{Step}
use Rattle.tree.proofs.TokenCases.{IsProperty, IsBegin, property_is, begin_is}

-- ---- one token behind the other

pub size_some : (t : Token) → 0 < size t
unfolding size
size_some (begin name) = omega arith
size_some end = omega arith
size_some (property at value) = omega arith
size_some nop = omega arith
size_some stop = omega arith
size_some broken = omega arith

enough : (names n m : ℕ) (l : List ℕ) → length l ≤ n → length l ≤ m → tokens_up_to names n l ≡ tokens_up_to names m l
unfolding tokens_up_to
enough names zero zero [] h g = refl
enough names zero (suc m) [] h g = refl
enough names (suc n) zero [] h g = refl
enough names (suc n) (suc m) [] h g = refl
enough names zero m (b ∷ l) h g = absurd (omega arith)
enough names (suc n) zero (b ∷ l) h g = absurd (omega arith)
enough names (suc n) (suc m) (b ∷ l) h g =
    let t = token names (b ∷ l) in
    let p = length-drop (size t) (b ∷ l) in
    let q = size_some t in
    ap (λ (ts : List Token). t ∷ ts) (enough names n m (drop (size t) (b ∷ l)) (omega arith) (omega arith))

pub tokens_next : (names : ℕ) (l : List ℕ) → 0 < length l → tokens names l ≡ token names l ∷ tokens names (drop (size (token names l)) l)
unfolding tokens_up_to
tokens_next names [] h = absurd (omega arith)
tokens_next names (b ∷ l) h =
    let t = token names (b ∷ l) in
    let rest = drop (size t) (b ∷ l) in
    ap (λ (ts : List Token). t ∷ ts) (enough names (length l) (length rest) rest (omega (arith, length-drop (size t) (b ∷ l), size_some t)) (omega arith))

pub tokens_none : (names : ℕ) (l : List ℕ) (at : ℕ) → length l ≤ at → tokens names (drop at l) ≡ []
unfolding tokens_up_to
tokens_none names l at h = rw (drop_of_length-le l h) refl

pub tokens_some : (names : ℕ) (l : List ℕ) (at : ℕ) → at < length l → (length (tokens names (drop at l)) ≡ 0 → ⊥)
tokens_some names l at h e =
    let n = tokens_next names (drop at l) (omega (arith, length-drop at l)) in
    omega (arith, e, ap (λ (ts : List Token). length ts) n)

pub token_none : (names : ℕ) (l : List ℕ) (at : ℕ) → length l ≤ at → token names (drop at l) ≡ broken
unfolding token
token_none names l at h = rw (drop_of_length-le l h) refl

-- ---- a token without name and value, by its shape

end_is : (x : Token) → End ≡ shape x → x ≡ end
end_is (begin name) e = cc
end_is end e = refl
end_is (property at value) e = cc
end_is nop e = cc
end_is stop e = cc
end_is broken e = cc

nop_is : (x : Token) → Nop ≡ shape x → x ≡ nop
nop_is (begin name) e = cc
nop_is end e = cc
nop_is (property at value) e = cc
nop_is nop e = refl
nop_is stop e = cc
nop_is broken e = cc

stop_is : (x : Token) → Stop ≡ shape x → x ≡ stop
stop_is (begin name) e = cc
stop_is end e = cc
stop_is (property at value) e = cc
stop_is nop e = cc
stop_is stop e = refl
stop_is broken e = cc

broken_is : (x : Token) → Broken ≡ shape x → x ≡ broken
broken_is (begin name) e = cc
broken_is end e = cc
broken_is (property at value) e = cc
broken_is nop e = cc
broken_is stop e = cc
broken_is broken e = refl

-- ---- past the end

pub rest_none : (names : ℕ) (l : List ℕ) (n : ℕ) (late : Bool) (at : ℕ) → length l ≤ at → rest_at names l n late at ≡ false
unfolding rest_at follows
rest_none names l n late at h = rw (tokens_none names l at h)

pub front_none : (names : ℕ) (l : List ℕ) (at : ℕ) → length l ≤ at → first (contents_at names l at) ≡ c.nothing
unfolding contents_at contents located
front_none names l at h = rw (tokens_none names l at h) refl

-- ---- at a token

module _ (names : ℕ) (l : List ℕ) (at : ℕ) (h : at < length l) (r : Step) (s : StepOf (token names (drop at l)) l at r) where
  -- the token there, by its numbers
  there_end : r.token ≡ End → token names (drop at l) ≡ end
  there_end e = end_is (token names (drop at l)) (sym e ∙ s.is)

  pub there_nop : r.token ≡ Nop → token names (drop at l) ≡ nop
  there_nop e = nop_is (token names (drop at l)) (sym e ∙ s.is)

  there_stop : r.token ≡ Stop → token names (drop at l) ≡ stop
  there_stop e = stop_is (token names (drop at l)) (sym e ∙ s.is)

  there_broken : r.token ≡ Broken → token names (drop at l) ≡ broken
  there_broken e = broken_is (token names (drop at l)) (sym e ∙ s.is)

  there_property : (m k : ℕ) → r.token ≡ Property m k → IsProperty (token names (drop at l)) m k (drop at l)
  there_property m k e = property_is names (drop at l) m k (sym e ∙ s.is)

  there_begin : (k : ℕ) → r.token ≡ Begin k → IsBegin (token names (drop at l)) k (drop at l)
  there_begin k e = begin_is names (drop at l) k (sym e ∙ s.is)

  tokens_at : (x : Token) → token names (drop at l) ≡ x → tokens names (drop at l) ≡ x ∷ tokens names (drop r.next l)
  tokens_at x e = tokens_next names (drop at l) (omega (arith, length-drop at l)) ∙ rw (← s.rest, e) refl

  at_end : r.token ≡ End → tokens names (drop at l) ≡ end ∷ tokens names (drop r.next l)
  at_end e = tokens_at end (there_end e)

  at_nop : r.token ≡ Nop → tokens names (drop at l) ≡ nop ∷ tokens names (drop r.next l)
  at_nop e = tokens_at nop (there_nop e)

  at_stop : r.token ≡ Stop → tokens names (drop at l) ≡ stop ∷ tokens names (drop r.next l)
  at_stop e = tokens_at stop (there_stop e)

  at_broken : r.token ≡ Broken → tokens names (drop at l) ≡ broken ∷ tokens names (drop r.next l)
  at_broken e = tokens_at broken (there_broken e)

  at_property : (m k : ℕ) → r.token ≡ Property m k → tokens names (drop at l) ≡ property m (take k (drop (at + 12) l)) ∷ tokens names (drop r.next l)
  at_property m k e = rw (← drop-drop 12 at l) (tokens_at (property m (take k (drop 12 (drop at l)))) (there_property m k e).is)

  at_begin : (k : ℕ) → r.token ≡ Begin k → tokens names (drop at l) ≡ begin (take k (drop (at + 4) l)) ∷ tokens names (drop r.next l)
  at_begin k e = rw (← drop-drop 4 at l) (tokens_at (begin (take k (drop 4 (drop at l)))) (there_begin k e).is)

  -- ---- and each value by where it stands

  places_next : (x : Token) → token names (drop at l) ≡ x
      → located (at + size x) (tokens names (drop r.next l)) ≡ located r.next (tokens names (drop r.next l))
  unfolding located
  places_next x e = go (eqb r.next (at + size x)) refl
    where
      go : (b : Bool) → eqb r.next (at + size x) ≡ b → located (at + size x) (tokens names (drop r.next l)) ≡ located r.next (tokens names (drop r.next l))
      go true q = rw (eqb-true r.next (at + size x) q) refl
      go false q =
          let d : length l - r.next ≡ length l - at - size x =
          sym (length-drop r.next l) ∙ ap (λ (y : List ℕ). length y) s.rest ∙ rw e (length-drop (size x) (drop at l) ∙ rw (length-drop at l) refl) in
          rw (tokens_none names l r.next (omega (arith, d, s.within, eqb-false r.next (at + size x) q))) refl

  places_at_lem : (x : Token) → token names (drop at l) ≡ x
      → located at (tokens names (drop at l)) ≡ placed at x ∷ located r.next (tokens names (drop r.next l))
  unfolding located
  places_at_lem x e = ap (λ (ts : List Token). located at ts) (tokens_at x e) ∙ ap (λ (ts : List Token). placed at x ∷ ts) (places_next x e)

  places_end : r.token ≡ End → located at (tokens names (drop at l)) ≡ end ∷ located r.next (tokens names (drop r.next l))
  places_end e = places_at_lem end (there_end e)

  places_nop : r.token ≡ Nop → located at (tokens names (drop at l)) ≡ nop ∷ located r.next (tokens names (drop r.next l))
  places_nop e = places_at_lem nop (there_nop e)

  places_stop : r.token ≡ Stop → located at (tokens names (drop at l)) ≡ stop ∷ located r.next (tokens names (drop r.next l))
  places_stop e = places_at_lem stop (there_stop e)

  places_broken : r.token ≡ Broken → located at (tokens names (drop at l)) ≡ broken ∷ located r.next (tokens names (drop r.next l))
  places_broken e = places_at_lem broken (there_broken e)

  pub property_within : (m k : ℕ) → r.token ≡ Property m k → at + 12 + k ≤ length l
  property_within m k e = omega (arith, (there_property m k e).within, length-drop at l)

  pub begin_within : (k : ℕ) → r.token ≡ Begin k → at + 4 + k ≤ length l
  begin_within k e = omega (arith, (there_begin k e).within, length-drop at l)

  places_property : (m k : ℕ) → r.token ≡ Property m k
      → located at (tokens names (drop at l)) ≡ property m ((at + 12) ∷ k ∷ []) ∷ located r.next (tokens names (drop r.next l))
  places_property m k e =
      let n : length (take k (drop 12 (drop at l))) ≡ k = simp (length-take, length-drop) (omega (arith, property_within m k e)) in
      rw (← n) (places_at_lem (property m (take k (drop 12 (drop at l)))) (there_property m k e).is)

  places_begin : (k : ℕ) → r.token ≡ Begin k
      → located at (tokens names (drop at l)) ≡ begin (take k (drop (at + 4) l)) ∷ located r.next (tokens names (drop r.next l))
  places_begin k e = rw (← drop-drop 4 at l) (places_at_lem (begin (take k (drop 4 (drop at l)))) (there_begin k e).is)

  -- ---- what may follow, with n nodes open

  pub second_root_refused : (k : ℕ) → r.token ≡ Begin k → rest_at names l 0 true at ≡ false
  unfolding rest_at follows
  second_root_refused k e = rw (at_begin k e) refl

  pub deep_refused : (n : ℕ) (late : Bool) → 16 ≤ n → (k : ℕ) → r.token ≡ Begin k → rest_at names l n late at ≡ false
  unfolding rest_at follows
  deep_refused n late d k e = rw (at_begin k e) (rw (lt-ltb 0 n (omega arith), le-ltb n 16 d) refl)

  pub rest_root : (k : ℕ) → r.token ≡ Begin k → rest_at names l 0 false at ≡ rest_at names l 1 false r.next
  unfolding rest_at follows
  rest_root k e = rw (at_begin k e) refl

  pub rest_begin : (n : ℕ) (late : Bool) → 0 < n → n < 16 → (k : ℕ) → r.token ≡ Begin k → rest_at names l n late at ≡ rest_at names l (suc n) false r.next
  unfolding rest_at follows
  rest_begin n late g d k e = rw (at_begin k e) (rw (lt-ltb 0 n g, lt-ltb n 16 d) refl)

  -- behind a node as before one
  pub begin_early_or_late : (n : ℕ) → 0 < n → (k : ℕ) → r.token ≡ Begin k → rest_at names l n false at ≡ rest_at names l n true at
  unfolding rest_at follows
  begin_early_or_late n g k e = rw (at_begin k e) (rw (lt-ltb 0 n g) refl)

  pub late_property_refused : (n m k : ℕ) → r.token ≡ Property m k → rest_at names l n true at ≡ false
  unfolding rest_at follows
  late_property_refused n m k e = rw (at_property m k e) (go (ltb 0 n))
    where
      go : (b : Bool) → (b && false) && follows n false (tokens names (drop r.next l)) ≡ false
      go true = refl
      go false = refl

  pub outer_property_refused : (late : Bool) (m k : ℕ) → r.token ≡ Property m k → rest_at names l 0 late at ≡ false
  unfolding rest_at follows
  outer_property_refused late m k e = rw (at_property m k e) refl

  pub rest_property : (n : ℕ) → 0 < n → (m k : ℕ) → r.token ≡ Property m k → rest_at names l n false at ≡ rest_at names l n false r.next
  unfolding rest_at follows
  rest_property n g m k e = rw (at_property m k e) (rw (lt-ltb 0 n g) refl)

  pub outer_end_refused : (late : Bool) → r.token ≡ End → rest_at names l 0 late at ≡ false
  unfolding rest_at follows
  outer_end_refused late e = rw (at_end e) refl

  pub rest_end : (n : ℕ) (late : Bool) → 0 < n → r.token ≡ End → rest_at names l n late at ≡ rest_at names l (n - 1) true r.next
  unfolding rest_at follows
  rest_end n late g e = rw (at_end e) (rw (lt-ltb 0 n g) refl)

  pub rest_nop : (n : ℕ) (late : Bool) → r.token ≡ Nop → rest_at names l n late at ≡ rest_at names l n late r.next
  unfolding rest_at follows
  rest_nop n late e = rw (at_nop e) refl

  pub inner_stop_refused : (n : ℕ) (late : Bool) → 0 < n → r.token ≡ Stop → rest_at names l n late at ≡ false
  unfolding rest_at follows
  inner_stop_refused n late g e = rw (at_stop e) (rw (ne_eqb n 0 (omega arith)) refl)

  pub early_stop_refused : r.token ≡ Stop → rest_at names l 0 false at ≡ false
  unfolding rest_at follows
  early_stop_refused e = rw (at_stop e) refl

  pub rest_stop : r.token ≡ Stop → rest_at names l 0 true at ≡ eqb (length (tokens names (drop r.next l))) 0
  unfolding rest_at follows
  rest_stop e = rw (at_stop e) refl

  pub rest_broken : (n : ℕ) (late : Bool) → r.token ≡ Broken → rest_at names l n late at ≡ false
  unfolding rest_at follows
  rest_broken n late e = rw (at_broken e) refl

  -- ---- what is left of the open nodes

  pub left_nop : r.token ≡ Nop → contents_at names l at ≡ contents_at names l r.next
  unfolding contents_at contents
  left_nop e = rw (places_nop e) refl

  pub left_end : r.token ≡ End → drop 1 (contents_at names l at) ≡ contents_at names l r.next
  unfolding contents_at contents
  left_end e = rw (places_end e) refl

  pub front_begin : (k : ℕ) → r.token ≡ Begin k
      → contents_at names l at
      ≡ c.node (take k (drop (at + 4) l)) (first (contents_at names l r.next)) (first (drop 1 (contents_at names l r.next)))
      ∷ drop 2 (contents_at names l r.next)
  unfolding contents_at contents
  front_begin k e = rw (places_begin k e) refl

  pub left_begin : (k : ℕ) → r.token ≡ Begin k → drop 1 (contents_at names l at) ≡ drop 1 (drop 1 (contents_at names l r.next))
  left_begin k e = rw (front_begin k e) (sym (drop-drop 1 1 (contents_at names l r.next)))

  pub in_root_lem : (k : ℕ) → r.token ≡ Begin k → in_root (first (contents_at names l at)) ≡ first (contents_at names l r.next)
  in_root_lem k e = rw (front_begin k e) refl

  pub nodes_begin : (k : ℕ) → r.token ≡ Begin k → strip (first (contents_at names l at)) ≡ first (contents_at names l at)
  unfolding strip
  nodes_begin k e = rw (front_begin k e) refl

  pub front_property : (m k : ℕ) → r.token ≡ Property m k
      → contents_at names l at
      ≡ c.property m ((at + 12) ∷ k ∷ []) (first (contents_at names l r.next)) ∷ drop 1 (contents_at names l r.next)
  unfolding contents_at contents
  front_property m k e = rw (places_property m k e) refl

  pub left_property : (m k : ℕ) → r.token ≡ Property m k → drop 1 (contents_at names l at) ≡ drop 1 (contents_at names l r.next)
  left_property m k e = rw (front_property m k e) refl

  pub nodes_property : (m k : ℕ) → r.token ≡ Property m k → strip (first (contents_at names l at)) ≡ strip (first (contents_at names l r.next))
  unfolding strip
  nodes_property m k e = rw (front_property m k e) refl

  pub front_end : r.token ≡ End → first (contents_at names l at) ≡ c.nothing
  unfolding contents_at contents
  front_end e = rw (places_end e) refl

  pub front_stop : r.token ≡ Stop → first (contents_at names l at) ≡ c.nothing
  unfolding contents_at contents
  front_stop e = rw (places_stop e) refl

  pub front_broken : r.token ≡ Broken → first (contents_at names l at) ≡ c.nothing
  unfolding contents_at contents
  front_broken e = rw (places_broken e) refl

-- where nothing is left, no node is
pub strip_nothing : (x : Content) → x ≡ c.nothing → strip x ≡ x
unfolding strip
strip_nothing x e = rw e refl
