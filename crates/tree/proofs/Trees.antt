-- Tokens are accepted exactly where they spell a tree, and then they say that tree. Assumes nothing.
use Prim.Native.Nat.{ℕ, zero, suc, ◌+◌, ◌-◌, ◌≤◌, ◌<◌}
use mathlib.Core.Path.{◌≡◌, refl, sym, ap, ◌∙◌}
use mathlib.Core.Bool.{Bool, true, false, ◌&&◌, ◌||◌, not}
use mathlib.Core.List.{List, [], ◌∷◌, ◌++◌, append_assoc}
use native.Mathlib.Nat.{max-le, le-max_left, le-max_right}
use native.Mathlib.Omega.{arith}
use lib.Dec.{ltb}
use lib.ListN.{length, drop, length-append}
use borrow.Author.Tests.{lt-ltb, ne_eqb, ltb-true}
use Rattle.tree.specs.Tokens.{Token, begin, end, property, nop, stop, broken}
use Rattle.tree.specs.Form.{follows}
use Rattle.tree.specs.Content as c
use Rattle.tree.specs.Content.{Content, nothing, node, contents, first}
use Rattle.tree.specs.Trees.{spelled, without_nops, depth, only_nodes, ordered, Spells}
use Rattle.tree.proofs.Booleans.{both, never}

-- ---- tokens of no operation do not matter

follows_kept : (n : ℕ) (late : Bool) (ts tail : List Token) → 0 < length tail → follows n late (ts ++ tail) ≡ follows n late (without_nops ts ++ tail)
unfolding follows without_nops
follows_kept n late [] tail h = refl
follows_kept n late (begin name ∷ ts) tail h = ap (λ (b : Bool). (ltb 0 n || not late) && (ltb n 16 && b)) (follows_kept (suc n) false ts tail h)
follows_kept n late (end ∷ ts) tail h = ap (λ (b : Bool). ltb 0 n && b) (follows_kept (n - 1) true ts tail h)
follows_kept n late (property at value ∷ ts) tail h = ap (λ (b : Bool). (ltb 0 n && not late) && b) (follows_kept n false ts tail h)
follows_kept n late (nop ∷ ts) tail h = follows_kept n late ts tail h
follows_kept n late (stop ∷ ts) tail h =
    let a : length (ts ++ tail) ≡ 0 → ⊥ = λ e. omega (arith, e, length-append ts tail) in
    let b : length (without_nops ts ++ tail) ≡ 0 → ⊥ = λ e. omega (arith, e, length-append (without_nops ts) tail) in
    rw (ne_eqb (length (ts ++ tail)) 0 a, ne_eqb (length (without_nops ts ++ tail)) 0 b) refl
follows_kept n late (broken ∷ ts) tail h = refl

contents_kept : (ts tail : List Token) → contents (ts ++ tail) ≡ contents (without_nops ts ++ tail)
unfolding contents without_nops
contents_kept [] tail = refl
contents_kept (begin name ∷ ts) tail = ap (λ (cs : List Content). node name (first cs) (first (drop 1 cs)) ∷ drop 2 cs) (contents_kept ts tail)
contents_kept (end ∷ ts) tail = ap (λ (cs : List Content). nothing ∷ cs) (contents_kept ts tail)
contents_kept (property at value ∷ ts) tail = ap (λ (cs : List Content). c.property at value (first cs) ∷ drop 1 cs) (contents_kept ts tail)
contents_kept (nop ∷ ts) tail = contents_kept ts tail
contents_kept (stop ∷ ts) tail = refl
contents_kept (broken ∷ ts) tail = refl

pub kept_append : (a b : List Token) → without_nops (a ++ b) ≡ without_nops a ++ without_nops b
unfolding without_nops
kept_append [] b = refl
kept_append (begin name ∷ a) b = ap (λ (x : List Token). begin name ∷ x) (kept_append a b)
kept_append (end ∷ a) b = ap (λ (x : List Token). end ∷ x) (kept_append a b)
kept_append (property at value ∷ a) b = ap (λ (x : List Token). property at value ∷ x) (kept_append a b)
kept_append (nop ∷ a) b = kept_append a b
kept_append (stop ∷ a) b = ap (λ (x : List Token). stop ∷ x) (kept_append a b)
kept_append (broken ∷ a) b = ap (λ (x : List Token). broken ∷ x) (kept_append a b)

-- ---- what spells a tree is accepted, and says the tree

follows_spelled : (n : ℕ) (late : Bool) (x : Content) (tail : List Token) → 0 < n → n + depth x ≤ 16 → ordered x ≡ true → (late ≡ true → only_nodes x ≡ true)
    → follows n late (spelled x ++ (end ∷ tail)) ≡ follows (n - 1) true tail
unfolding follows spelled depth ordered only_nodes
follows_spelled n late nothing tail h d o k = rw (lt-ltb 0 n h) refl
follows_spelled n true (c.property at value x) tail h d o k = never (k refl)
follows_spelled n false (c.property at value x) tail h d o k = rw (lt-ltb 0 n h) (follows_spelled n false x tail h d o never)
follows_spelled n late (node name inner x) tail h d o k =
    let p = both (ordered inner) (ordered x && only_nodes x) o in
    let q = both (ordered x) (only_nodes x) p.1 in
    let m = le-max_left (suc (depth inner)) (depth x) in
    let m' = le-max_right (suc (depth inner)) (depth x) in
    let s : suc n - 1 ≡ n = omega arith in
    rw (lt-ltb 0 n h, lt-ltb n 16 (omega arith), append_assoc (spelled inner) (end ∷ spelled x) (end ∷ tail))
    (follows_spelled (suc n) false inner (spelled x ++ (end ∷ tail)) (omega arith) (omega arith) p.0 never
    ∙ rw s (follows_spelled n true x tail h (omega arith) q.0 (λ e. q.1)))

contents_spelled : (x : Content) (tail : List Token) → contents (spelled x ++ (end ∷ tail)) ≡ x ∷ contents tail
unfolding contents spelled
contents_spelled nothing tail = refl
contents_spelled (c.property at value x) tail = rw (contents_spelled x tail) refl
contents_spelled (node name inner x) tail =
    rw (append_assoc (spelled inner) (end ∷ spelled x) (end ∷ tail), contents_spelled inner (spelled x ++ (end ∷ tail)), contents_spelled x tail) refl

module _ (ts : List Token) (name : List ℕ) (inner : Content) (s : Spells ts name inner) where
  whole : spelled (node name inner nothing) ++ (stop ∷ []) ≡ begin name ∷ (spelled inner ++ (end ∷ (stop ∷ [])))
  unfolding spelled
  whole = ap (λ (x : List Token). begin name ∷ x) (append_assoc (spelled inner) (end ∷ []) (stop ∷ []))

  pub spelled_follows : follows 0 false ts ≡ true
  unfolding follows
  spelled_follows =
      rw s.ends (follows_kept 0 false s.before (stop ∷ []) (omega arith) ∙ rw (s.says, whole)
      (follows_spelled 1 false inner (stop ∷ []) (omega arith) (omega (arith, s.shallow)) s.order never))

  pub spelled_says : contents ts ≡ node name inner nothing ∷ []
  unfolding contents
  spelled_says = rw s.ends (contents_kept s.before (stop ∷ []) ∙ rw (s.says, whole, contents_spelled inner (stop ∷ [])) refl)

-- ---- what is accepted spells a tree

-- the rest of a node, with n nodes open
record Rest (n : ℕ) (late : Bool) (ts : List Token) : Type 0 where
  content : Content
  before : List Token
  rest : List Token
  is : ts ≡ before ++ (end ∷ rest)
  says : without_nops before ≡ spelled content
  deep : n + depth content ≤ 16
  order : ordered content ≡ true
  nodes : late ≡ true → only_nodes content ≡ true
  goes : follows (n - 1) true rest ≡ true

rest_end : (n : ℕ) (late : Bool) (ts : List Token) → n ≤ 16 → follows (n - 1) true ts ≡ true → Rest n late (end ∷ ts)
unfolding without_nops spelled depth ordered only_nodes
rest_end n late ts d e = record {
  content = nothing;
  before = [];
  rest = ts;
  is = refl;
  says = refl;
  deep = omega arith;
  order = refl;
  nodes = λ _. refl;
  goes = e;
}

rest_nop : (n : ℕ) (late : Bool) (ts : List Token) → Rest n late ts → Rest n late (nop ∷ ts)
unfolding without_nops
rest_nop n late ts r = record {
  content = r.content;
  before = nop ∷ r.before;
  rest = r.rest;
  is = ap (λ (x : List Token). nop ∷ x) r.is;
  says = r.says;
  deep = r.deep;
  order = r.order;
  nodes = r.nodes;
  goes = r.goes;
}

rest_begin : (n : ℕ) (late : Bool) (name : List ℕ) (ts : List Token) (i : Rest (suc n) false ts) → Rest n true i.rest → Rest n late (begin name ∷ ts)
unfolding without_nops spelled depth ordered only_nodes
rest_begin n late name ts i r = record {
  content = node name i.content r.content;
  before = begin name ∷ (i.before ++ (end ∷ r.before));
  rest = r.rest;
  is = (
      let e = i.is ∙ ap (λ (x : List Token). i.before ++ (end ∷ x)) r.is in
      ap (λ (x : List Token). begin name ∷ x) (e ∙ sym (append_assoc i.before (end ∷ r.before) (end ∷ r.rest)))
      );
  says = ap (λ (x : List Token). begin name ∷ x) (kept_append i.before (end ∷ r.before) ∙ rw (i.says, r.says) refl);
  deep = (
      let m : suc (depth i.content) ≤ 16 - n = omega (arith, i.deep) in
      let k : depth r.content ≤ 16 - n = omega (arith, r.deep) in
      omega (arith, max-le m k, i.deep)
      );
  order = rw (i.order, r.order, r.nodes refl) refl;
  nodes = λ _. r.nodes refl;
  goes = r.goes;
}

rest_property : (n at : ℕ) (value : List ℕ) (ts : List Token) → Rest n false ts → Rest n false (property at value ∷ ts)
unfolding without_nops spelled depth ordered
rest_property n at value ts r = record {
  content = c.property at value r.content;
  before = property at value ∷ r.before;
  rest = r.rest;
  is = ap (λ (x : List Token). property at value ∷ x) r.is;
  says = ap (λ (x : List Token). property at value ∷ x) r.says;
  deep = r.deep;
  order = r.order;
  nodes = never;
  goes = r.goes;
}

rest_shorter : (k n : ℕ) (late : Bool) (ts : List Token) (r : Rest n late ts) → length ts ≤ k → length r.rest ≤ k
rest_shorter k n late ts r h = omega (arith, ap (λ (x : List Token). length x) r.is, length-append r.before (end ∷ r.rest))

-- k is at least as many as there are tokens
node_rest : (k n : ℕ) (late : Bool) (ts : List Token) → length ts ≤ k → 0 < n → n ≤ 16 → follows n late ts ≡ true → Rest n late ts
unfolding follows
node_rest zero n late [] g h d e = never e
node_rest zero n late (t ∷ ts) g h d e = absurd (omega arith)
node_rest (suc k) n late [] g h d e = never e
node_rest (suc k) n late (begin name ∷ ts) g h d e =
    let p = both (ltb 0 n || not late) (ltb n 16 && follows (suc n) false ts) e in
    let q = both (ltb n 16) (follows (suc n) false ts) p.1 in
    let i = node_rest k (suc n) false ts (omega arith) (omega arith) (omega (arith, ltb-true n 16 q.0)) q.1 in
    let s : suc n - 1 ≡ n = omega arith in
    rest_begin n late name ts i (node_rest k n true i.rest (rest_shorter k (suc n) false ts i (omega arith)) h d (rw s at i.goes))
node_rest (suc k) n late (end ∷ ts) g h d e = rest_end n late ts d (both (ltb 0 n) (follows (n - 1) true ts) e).1
node_rest (suc k) n true (property at value ∷ ts) g h d e = never (both false (follows n false ts) (rw (lt-ltb 0 n h) at e)).0
node_rest (suc k) n false (property at value ∷ ts) g h d e =
    rest_property n at value ts (node_rest k n false ts (omega arith) h d (both (ltb 0 n && true) (follows n false ts) e).1)
node_rest (suc k) n late (nop ∷ ts) g h d e = rest_nop n late ts (node_rest k n late ts (omega arith) h d e)
node_rest (suc k) n late (stop ∷ ts) g h d e = never (sym (rw (ne_eqb n 0 (omega arith)) refl) ∙ e)
node_rest (suc k) n late (broken ∷ ts) g h d e = never e

-- only the end token is left
record Last (ts : List Token) : Type 0 where
  before : List Token
  is : ts ≡ before ++ (stop ∷ [])
  says : without_nops before ≡ []

last : (ts : List Token) → follows 0 true ts ≡ true → Last ts
unfolding follows without_nops
last [] e = never e
last (begin name ∷ ts) e = never e
last (end ∷ ts) e = never e
last (property at value ∷ ts) e = never e
last (nop ∷ ts) e = let r = last ts e in record { before = nop ∷ r.before; is = ap (λ (x : List Token). nop ∷ x) r.is; says = r.says }
last (stop ∷ []) e = record { before = []; is = refl; says = refl }
last (stop ∷ (t ∷ ts)) e = never (sym (ne_eqb (suc (length ts)) 0 (omega arith)) ∙ e)
last (broken ∷ ts) e = never e

-- a tree that tokens spell
pub record TreeOf (ts : List Token) : Type 0 where
  pub name : List ℕ
  pub inner : Content
  pub spells : Spells ts name inner

pub follows_spells : (ts : List Token) → follows 0 false ts ≡ true → TreeOf ts
unfolding follows without_nops spelled
follows_spells [] e = never e
follows_spells (begin name ∷ ts) e =
    let r = node_rest (length ts) 1 false ts (omega arith) (omega arith) (omega arith) e in
    let l = last r.rest r.goes in
    let is = r.is ∙ ap (λ (x : List Token). r.before ++ (end ∷ x)) l.is in
    record {
      name = name;
      inner = r.content;
      spells = record {
        before = begin name ∷ (r.before ++ (end ∷ l.before));
        ends = ap (λ (x : List Token). begin name ∷ x) (is ∙ sym (append_assoc r.before (end ∷ l.before) (stop ∷ [])));
        says = ap (λ (x : List Token). begin name ∷ x) (kept_append r.before (end ∷ l.before) ∙ rw (r.says, l.says) refl);
        shallow = omega (arith, r.deep);
        order = r.order;
      };
    }
follows_spells (end ∷ ts) e = never e
follows_spells (property at value ∷ ts) e = never e
follows_spells (nop ∷ ts) e =
    let r = follows_spells ts e in
    let s = r.spells in
    record {
      name = r.name;
      inner = r.inner;
      spells = record { before = nop ∷ s.before; ends = ap (λ (x : List Token). nop ∷ x) s.ends; says = s.says; shallow = s.shallow; order = s.order };
    }
follows_spells (stop ∷ ts) e = never e
follows_spells (broken ∷ ts) e = never e
