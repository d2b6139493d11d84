-- The walks over a structure block: what may follow where the walk began is what may follow where it stands. Assumes nothing.
use Prim.Native.Nat.{ℕ, suc, ◌-◌, ◌≤◌, ◌<◌}
use mathlib.Core.Path.{◌≡◌, refl, sym, ap, ◌∙◌}
use mathlib.Core.Bool.{Bool, true, false, false≢true}
use mathlib.Core.List.{List}
use native.Mathlib.Omega.{arith}
use lib.Dec.{eqb}
use lib.ListN.{length, drop}
use borrow.Author.Tests.{ne_eqb, eqb-true, eqb-false}
use Rattle.tree.specs.Tokens.{Token, nop, token, tokens}
use Rattle.tree.specs.Form.{named, formed}
use Rattle.tree.specs.Content.{Content, first, in_root}
use Rattle.tree.specs.Steps.{shape, StepOf, rest_at, contents_at, strip, answers, ReadsOn, Behind, RootPast, RootIs, RootOf}
use Rattle.tree.specs.declared.tokens.Token as d
use Rattle.tree.specs.declared.tokens.Token.TheVariants.{Begin, End, Property, Nop, Stop, Broken}
use Rattle.tree.specs.declared.tokens.Step.{Step}
use Rattle.tree.specs.declared.reader.Tree.{Tree}
use Rattle.std.proofs.Common.{Option, Some, None, IsSome, ◌⊎◌, inl, inr}
use Rattle.tree.proofs.Following.{token_none, tokens_none, tokens_some, rest_none, rest_nop, rest_end, rest_begin, rest_property, rest_root, rest_stop, rest_broken}
use Rattle.tree.proofs.Following.{second_root_refused, deep_refused, late_property_refused, outer_property_refused, outer_end_refused}
use Rattle.tree.proofs.Following.{inner_stop_refused, early_stop_refused, begin_early_or_late, left_nop, left_end, left_begin, left_property}
use Rattle.tree.proofs.Following.{in_root_lem, nodes_begin, nodes_property, front_none, front_end, front_stop, front_broken, strip_nothing}

-- what each token gives
pub by_token : {P : Type 0} (t : d.Token) → ((k : ℕ) → t ≡ Begin k → P) → (t ≡ End → P) → ((m k : ℕ) → t ≡ Property m k → P) → (t ≡ Nop → P)
    → (t ≡ Stop → P) → (t ≡ Broken → P) → P
by_token (Begin k) b e p n s x = b k refl
by_token End b e p n s x = e refl
by_token (Property m k) b e p n s x = p m k refl
by_token Nop b e p n s x = n refl
by_token Stop b e p n s x = s refl
by_token Broken b e p n s x = x refl

-- ---- the properties of a node

pub record Passing (names : ℕ) (l : List ℕ) (at i : ℕ) : Type 0 where
  pub is : (n : ℕ) → 0 < n → rest_at names l n false at ≡ rest_at names l n false i
  pub left : drop 1 (contents_at names l at) ≡ drop 1 (contents_at names l i)
  pub nodes : strip (first (contents_at names l at)) ≡ strip (first (contents_at names l i))
  pub forward : at ≤ i
  pub within : i ≤ length l

module _ (names : ℕ) (l : List ℕ) (at i : ℕ) (p : Passing names l at i) where
  -- no property and no operation stands there
  passed : (token names (drop i l) ≡ nop → ⊥) → ((n : ℕ) → 0 < n → rest_at names l n false i ≡ rest_at names l n true i)
      → strip (first (contents_at names l i)) ≡ first (contents_at names l i) → Behind names l at i
  passed n f g = record { is = λ m h. p.is m h ∙ f m h; left = p.left; nodes = p.nodes ∙ g; stands = n; forward = p.forward; within = p.within }

  pub pass_over : length l ≤ i → Behind names l at i
  pass_over h =
      passed (λ e. (let q = sym (token_none names l i h) ∙ e in cc)) (λ n g. rest_none names l n false i h ∙ sym (rest_none names l n true i h))
      (strip_nothing (first (contents_at names l i)) (front_none names l i h))

  module _ (h : i < length l) (r : Step) (s : StepOf (token names (drop i l)) l i r) where
    pub pass_nop : r.token ≡ Nop → Passing names l at r.next
    pass_nop e = record {
      is = λ n g. p.is n g ∙ rest_nop names l i h r s n false e;
      left = p.left ∙ ap (λ (x : List Content). drop 1 x) (left_nop names l i h r s e);
      nodes = p.nodes ∙ ap (λ (x : List Content). strip (first x)) (left_nop names l i h r s e);
      forward = omega (arith, p.forward, s.forward h);
      within = s.within;
    }

    pub pass_property : (m k : ℕ) → r.token ≡ Property m k → Passing names l at r.next
    pass_property m k e = record {
      is = λ n g. p.is n g ∙ rest_property names l i h r s n g m k e;
      left = p.left ∙ left_property names l i h r s m k e;
      nodes = p.nodes ∙ nodes_property names l i h r s m k e;
      forward = omega (arith, p.forward, s.forward h);
      within = s.within;
    }

    pub pass_on : ((m : ℕ) × (k : ℕ) × (r.token ≡ Property m k)) ⊎ (r.token ≡ Nop) → Passing names l at r.next
    pass_on (inl (m, k, e)) = pass_property m k e
    pass_on (inr e) = pass_nop e

    module _ (other : r.token ≡ Nop → ⊥) where
      stays : token names (drop i l) ≡ nop → ⊥
      stays e = other (s.is ∙ ap shape e)

      pass_begin : (k : ℕ) → r.token ≡ Begin k → Behind names l at i
      pass_begin k e = passed stays (λ n g. begin_early_or_late names l i h r s n g k e) (nodes_begin names l i h r s k e)

      pass_end : r.token ≡ End → Behind names l at i
      pass_end e =
          passed stays (λ n g. rest_end names l i h r s n false g e ∙ sym (rest_end names l i h r s n true g e))
          (strip_nothing (first (contents_at names l i)) (front_end names l i h r s e))

      pass_stop : r.token ≡ Stop → Behind names l at i
      pass_stop e =
          passed stays (λ n g. inner_stop_refused names l i h r s n false g e ∙ sym (inner_stop_refused names l i h r s n true g e))
          (strip_nothing (first (contents_at names l i)) (front_stop names l i h r s e))

      pass_broken : r.token ≡ Broken → Behind names l at i
      pass_broken e =
          passed stays (λ n g. rest_broken names l i h r s n false e ∙ sym (rest_broken names l i h r s n true e))
          (strip_nothing (first (contents_at names l i)) (front_broken names l i h r s e))

      pub pass_other : ((m k : ℕ) → r.token ≡ Property m k → ⊥) → Behind names l at i
      pass_other p = by_token r.token pass_begin pass_end (λ m k e. absurd (p m k e)) (λ e. absurd (other e)) pass_stop pass_broken

-- ---- the children of a node

module _ (names : ℕ) (l : List ℕ) (at left i : ℕ) (small : left < 16) (inv : rest_at names l (16 - left) true at ≡ rest_at names l (16 - left) true i) where
  refused : rest_at names l (16 - left) true i ≡ false → ReadsOn names l (16 - left) true at None
  unfolding answers
  refused e = record { is = inv ∙ e; end = omega arith }

  pub read_over : length l ≤ i → ReadsOn names l (16 - left) true at None
  read_over h = refused (rest_none names l (16 - left) true i h)

  module _ (from : at ≤ i) (h : i < length l) (r : Step) (s : StepOf (token names (drop i l)) l i r) where
    pub read_nop : r.token ≡ Nop → rest_at names l (16 - left) true at ≡ rest_at names l (16 - left) true r.next
    read_nop e = inv ∙ rest_nop names l i h r s (16 - left) true e

    pub read_end : drop 1 (contents_at names l at) ≡ drop 1 (contents_at names l i) → r.token ≡ End → ReadsOn names l (16 - left) true at (Some r.next)
    unfolding answers
    read_end y e = record {
      is = inv ∙ rest_end names l i h r s (16 - left) true (omega arith) e;
      end = (omega (arith, s.forward h), (s.within, y ∙ left_end names l i h r s e));
    }

    pub read_deep : (k : ℕ) → r.token ≡ Begin k → left ≡ 0 → ReadsOn names l (16 - left) true at None
    read_deep k e z = refused (deep_refused names l i h r s (16 - left) true (omega arith) k e)

    pub read_property : (m k : ℕ) → r.token ≡ Property m k → ReadsOn names l (16 - left) true at None
    read_property m k e = refused (late_property_refused names l i h r s (16 - left) m k e)

    pub read_stop : r.token ≡ Stop → ReadsOn names l (16 - left) true at None
    read_stop e = refused (inner_stop_refused names l i h r s (16 - left) true (omega arith) e)

    pub read_broken : r.token ≡ Broken → ReadsOn names l (16 - left) true at None
    read_broken e = refused (rest_broken names l i h r s (16 - left) true e)

    pub read_other : ((k : ℕ) → r.token ≡ Begin k → ⊥) → (r.token ≡ End → ⊥) → (r.token ≡ Nop → ⊥) → ReadsOn names l (16 - left) true at None
    read_other b x n = by_token r.token (λ k e. absurd (b k e)) (λ e. absurd (x e)) read_property (λ e. absurd (n e)) read_stop read_broken

    module _ (k : ℕ) (e : r.token ≡ Begin k) (some : left ≡ 0 → ⊥) (child : Option ℕ) (c : ReadsOn names l (16 - (left - 1)) false r.next child) where
      child_read : rest_at names l (16 - left) true at ≡ answers names l (16 - left) child
      child_read =
          let p : suc (16 - left) ≡ 16 - (left - 1) = omega arith in
          let q : 16 - (left - 1) - 1 ≡ 16 - left = omega arith in
          inv ∙ rest_begin names l i h r s (16 - left) true (omega arith) (omega arith) k e ∙ rw p (c.is ∙ rw q)

      pub child_refused : child ≡ None → ReadsOn names l (16 - left) true at None
      unfolding answers
      child_refused z = record { is = child_read ∙ rw z refl; end = omega arith }

      pub child_past : (x : ℕ) → child ≡ Some x → rest_at names l (16 - left) true at ≡ rest_at names l (16 - left) true x
      unfolding answers
      child_past x z = child_read ∙ rw z refl

-- where a node that was read ends, and what is left there
module _ (names : ℕ) (l : List ℕ) (n : ℕ) (late : Bool) (at : ℕ) (r : Option ℕ) (x : ℕ) (c : ReadsOn names l n late at r) (e : r ≡ Some x) where
  pub past_forward : at ≤ x
  past_forward = (rw e at c.end).0

  pub past_within : x ≤ length l
  past_within = (rw e at c.end).1.0

  pub past_left : drop 1 (contents_at names l at) ≡ contents_at names l x
  past_left = (rw e at c.end).1.1

-- a node is its properties, and then its children
pub node_read : (names : ℕ) (l : List ℕ) (left at b : ℕ) → left < 16 → Behind names l at b → (r : Option ℕ) → ReadsOn names l (16 - left) true b r
    → ReadsOn names l (16 - left) false at r
node_read names l left at b h p (Some x) c = record {
  is = p.is (16 - left) (omega arith) ∙ c.is;
  end = (omega (arith, p.forward, c.end.0), (c.end.1.0, p.left ∙ c.end.1.1));
}
node_read names l left at b h p None c = record { is = p.is (16 - left) (omega arith) ∙ c.is; end = omega arith }

-- each step goes forward
module _ (x : Token) (l : List ℕ) (i : ℕ) (h : i < length l) (r : Step) (s : StepOf x l i r) where
  pub step_on : (at : ℕ) → at ≤ i → at ≤ r.next
  step_on at g = omega (arith, s.forward h)

  module _ (names n : ℕ) (late : Bool) (c : Option ℕ) (q : ReadsOn names l n late r.next c) (y : ℕ) (e : c ≡ Some y) where
    pub past_on : (at : ℕ) → at ≤ i → at ≤ y
    past_on at g = omega (arith, s.forward h, past_forward names l n late r.next c y q e)

-- what is left of the node, behind a child and behind a token of no operation
module _
    (names : ℕ) (l : List ℕ) (at i : ℕ) (y : drop 1 (contents_at names l at) ≡ drop 1 (contents_at names l i))
    (h : i < length l) (r : Step) (s : StepOf (token names (drop i l)) l i r)
  where
    pub left_after_nop : r.token ≡ Nop → drop 1 (contents_at names l at) ≡ drop 1 (contents_at names l r.next)
    left_after_nop e = y ∙ ap (λ (x : List Content). drop 1 x) (left_nop names l i h r s e)

    pub left_after_child : (k : ℕ) → r.token ≡ Begin k → (n : ℕ) (late : Bool) (c : Option ℕ) → ReadsOn names l n late r.next c → (x : ℕ) → c ≡ Some x
        → drop 1 (contents_at names l at) ≡ drop 1 (contents_at names l x)
    left_after_child k e n late c q x z =
        y ∙ left_begin names l i h r s k e ∙ ap (λ (x : List Content). drop 1 x) (past_left names l n late r.next c x q z)

-- ---- the end token

module _ (names : ℕ) (l : List ℕ) (at i : ℕ) (inv : rest_at names l 0 true at ≡ rest_at names l 0 true i) where
  pub stop_over : length l ≤ i → false ≡ rest_at names l 0 true at
  stop_over h = sym (inv ∙ rest_none names l 0 true i h)

  module _ (h : i < length l) (r : Step) (s : StepOf (token names (drop i l)) l i r) where
    pub stop_nop : r.token ≡ Nop → rest_at names l 0 true at ≡ rest_at names l 0 true r.next
    stop_nop e = inv ∙ rest_nop names l i h r s 0 true e

    pub stop_stop : r.token ≡ Stop → eqb r.next (length l) ≡ rest_at names l 0 true at
    stop_stop e = sym (inv ∙ rest_stop names l i h r s e ∙ go (eqb r.next (length l)) refl)
      where
        go : (b : Bool) → eqb r.next (length l) ≡ b → eqb (length (tokens names (drop r.next l))) 0 ≡ b
        go true p = rw (tokens_none names l r.next (omega (arith, eqb-true r.next (length l) p))) refl
        go false p =
            let more = tokens_some names l r.next (omega (arith, s.within, eqb-false r.next (length l) p)) in
            ne_eqb (length (tokens names (drop r.next l))) 0 more

    pub stop_begin : (k : ℕ) → r.token ≡ Begin k → false ≡ rest_at names l 0 true at
    stop_begin k e = sym (inv ∙ second_root_refused names l i h r s k e)

    pub stop_end : r.token ≡ End → false ≡ rest_at names l 0 true at
    stop_end e = sym (inv ∙ outer_end_refused names l i h r s true e)

    pub stop_property : (m k : ℕ) → r.token ≡ Property m k → false ≡ rest_at names l 0 true at
    stop_property m k e = sym (inv ∙ outer_property_refused names l i h r s true m k e)

    pub stop_broken : r.token ≡ Broken → false ≡ rest_at names l 0 true at
    stop_broken e = sym (inv ∙ rest_broken names l i h r s 0 true e)

    pub stop_other : (r.token ≡ Nop → ⊥) → (r.token ≡ Stop → ⊥) → false ≡ rest_at names l 0 true at
    stop_other n x = by_token r.token stop_begin stop_end stop_property (λ e. absurd (n e)) (λ e. absurd (x e)) stop_broken

-- ---- the root

module _ (names : ℕ) (l : List ℕ) (i : ℕ) (inv : rest_at names l 0 false 0 ≡ rest_at names l 0 false i) where
  pub root_over : length l ≤ i → RootIs names l None
  root_over h = inv ∙ rest_none names l 0 false i h

  module _ (h : i < length l) (r : Step) (s : StepOf (token names (drop i l)) l i r) where
    pub root_nop : r.token ≡ Nop → rest_at names l 0 false 0 ≡ rest_at names l 0 false r.next
    root_nop e = inv ∙ rest_nop names l i h r s 0 false e

    pub root_end : r.token ≡ End → RootIs names l None
    root_end e = inv ∙ outer_end_refused names l i h r s false e

    pub root_property : (m k : ℕ) → r.token ≡ Property m k → RootIs names l None
    root_property m k e = inv ∙ outer_property_refused names l i h r s false m k e

    pub root_stop : r.token ≡ Stop → RootIs names l None
    root_stop e = inv ∙ early_stop_refused names l i h r s e

    pub root_broken : r.token ≡ Broken → RootIs names l None
    root_broken e = inv ∙ rest_broken names l i h r s 0 false e

    pub root_other : ((k : ℕ) → r.token ≡ Begin k → ⊥) → (r.token ≡ Nop → ⊥) → RootIs names l None
    root_other b n = by_token r.token (λ k e. absurd (b k e)) root_end root_property (λ e. absurd (n e)) root_stop root_broken

    module _ (said : contents_at names l 0 ≡ contents_at names l i) where
      pub root_said : r.token ≡ Nop → contents_at names l 0 ≡ contents_at names l r.next
      root_said e = said ∙ left_nop names l i h r s e

      pub root_begin : (k : ℕ) → r.token ≡ Begin k → RootIs names l (Some r.next)
      root_begin k e = record {
        is = inv ∙ rest_root names l i h r s k e;
        says = ap (λ (x : List Content). in_root (first x)) said ∙ in_root_lem names l i h r s k e;
        within = s.within;
      }

-- ---- the whole

module _ (strings : List ℕ) (names : ℕ) (e : names ≡ named strings) (l : List ℕ) (root : Option ℕ) (p : RootIs names l root) where
  whole : formed strings l ≡ rest_at names l 0 false 0
  unfolding formed rest_at
  whole = rw e refl

  pub root_there : formed strings l ≡ true → IsSome root
  root_there f = go root refl
    where
      go : (x : Option ℕ) → root ≡ x → IsSome x
      go (Some at) z = refl
      go None z = absurd (false≢true (sym (rw z at p) ∙ sym whole ∙ f))

  pub no_root : root ≡ None → formed strings l ≡ false
  no_root z = whole ∙ rw z at p

  module _ (at : ℕ) (z : root ≡ Some at) where
    past : RootPast names l at
    past = rw z at p

    pub root_is : formed strings l ≡ true → (t : Tree) → t.strings.now ≡ strings → t.structure.bytes.now ≡ l → t.structure.names ≡ names → t.root ≡ at
        → RootOf strings l t
    root_is f t a b c d = record {
      strings_are = a;
      bytes_are = b;
      names = c ∙ e;
      is = rw (c, d) past;
      goes = rw (c, d) (sym past.is ∙ sym whole ∙ f);
    }

    module _ (node : Option ℕ) (q : ReadsOn names l 1 false at node) where
      pub root_refused : node ≡ None → formed strings l ≡ false
      unfolding answers
      root_refused y = whole ∙ past.is ∙ q.is ∙ rw y refl

      pub root_past : (x : ℕ) → node ≡ Some x → formed strings l ≡ rest_at names l 0 true x
      unfolding answers
      root_past x y = whole ∙ past.is ∙ q.is ∙ rw y refl
