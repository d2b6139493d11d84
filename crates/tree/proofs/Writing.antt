-- Every tree that can be written, no deeper than 16 nodes and with properties before children, has a structure block of bytes. Assumes nothing.
use Prim.Native.Nat.{ℕ, zero, suc, ◌+◌, ◌-◌, ◌/◌, ◌%◌, ◌≤◌, ◌<◌}
use mathlib.Core.Path.{◌≡◌, refl, ap, ◌∙◌, subst}
use mathlib.Core.Bool.{true, ◌&&◌}
use mathlib.Core.List.{List, [], ◌∷◌, ◌++◌, append_assoc}
use native.Mathlib.Omega.{arith}
use lib.Dec.{ltb, eqb}
use lib.ListN.{length, drop, take, replicate, length-replicate}
use lib.Pow.{are_bytes}
use lib.Seq.{take-length}
use borrow.Author.Tests.{lt-ltb, ltb-true, eqb-true}
use Rattle.tree.specs.Words.{big, word}
use Rattle.tree.specs.Tokens.{to_zero, zero_ended, Token, begin, end, property, stop, padded}
use Rattle.tree.specs.Content as c
use Rattle.tree.specs.Content.{Content, nothing, node}
use Rattle.tree.specs.Trees.{spelled, without_nops, depth, ordered, Spelt, none, begins, has, ends, stops}
use Rattle.tree.specs.WhichTrees.{writable, SomeBlock}
use Rattle.tree.proofs.Booleans.{both}
use Rattle.tree.proofs.Names.{to_zero_take}
use Rattle.tree.proofs.Trees.{kept_append}

-- bytes behind bytes
append_bytes : (a b : List ℕ) → are_bytes a ≡ true → are_bytes b ≡ true → are_bytes (a ++ b) ≡ true
append_bytes [] b e f = f
append_bytes (x ∷ a) b e f = let p = both (ltb x 256) (are_bytes a) e in rw p.0 (append_bytes a b p.1 f)

-- a number of 32 bits as 4 bytes
four : ℕ → List ℕ
four n = n / 256 / 256 / 256 % 256 ∷ n / 256 / 256 % 256 ∷ n / 256 % 256 ∷ n % 256 ∷ []

four_length : (n : ℕ) → length (four n) ≡ 4
unfolding four
four_length n = refl

word_four : (n : ℕ) → n < 4294967296 → word (four n) ≡ n
unfolding four big
word_four n h = omega arith

four_bytes : (n : ℕ) → are_bytes (four n) ≡ true
unfolding four
four_bytes n =
    let byte : (m : ℕ) → ltb (m % 256) 256 ≡ true = λ m. lt-ltb (m % 256) 256 (omega arith) in
    rw (byte (n / 256 / 256 / 256), byte (n / 256 / 256), byte (n / 256), byte n) refl

-- zero bytes behind n bytes
padding : ℕ → List ℕ
padding n = replicate (padded n - n) 0

padding_length : (n : ℕ) → length (padding n) + n ≡ padded n
unfolding padding
padding_length n = omega (arith, length-replicate {A = ℕ} (padded n - n) 0)

zeros_bytes : (k : ℕ) → are_bytes (replicate k 0) ≡ true
zeros_bytes zero = refl
zeros_bytes (suc k) = zeros_bytes k

padding_bytes : (n : ℕ) → are_bytes (padding n) ≡ true
unfolding padding
padding_bytes n = zeros_bytes (padded n - n)

to_zero_whole : (l : List ℕ) → length (to_zero l) ≡ length l → to_zero l ≡ l
to_zero_whole l e = to_zero_take l ∙ ap (λ (n : ℕ). take n l) e ∙ take-length l

-- bytes that spell tokens
record Written (strings : List ℕ) (ts : List Token) : Type 0 where
  block : List ℕ
  bytes : are_bytes block ≡ true
  spelt : Spelt strings ts block

module _ (strings : List ℕ) (ts : List Token) (l : Written strings ts) where
  begin_written : (name : List ℕ) → to_zero name ≡ name → are_bytes name ≡ true → Written strings (begin name ∷ ts)
  begin_written name e b =
      let pad = padding (length name + 1) in
      let behind : are_bytes (0 ∷ (pad ++ l.block)) ≡ true = append_bytes pad l.block (padding_bytes (length name + 1)) l.bytes in
      record {
        block = four 1 ++ (name ++ (0 ∷ (pad ++ l.block)));
        bytes = append_bytes (four 1) _ (four_bytes 1) (append_bytes name _ b behind);
        spelt = begins (four 1) name pad (four_length 1) (word_four 1 (omega arith)) e (padding_length (length name + 1)) l.spelt;
      }

  property_written : (at : ℕ) (value : List ℕ) → at < 4294967296 → zero_ended (drop at strings) ≡ true → length value < 4294967296 → are_bytes value ≡ true
      → Written strings (property at value ∷ ts)
  property_written at value a z n b =
      let e : word (four at) ≡ at = word_four at a in
      let size = four (length value) in
      let pad = padding (length value) in
      let behind = append_bytes value _ b (append_bytes pad l.block (padding_bytes (length value)) l.bytes) in
      subst (λ (x : ℕ). Written strings (property x value ∷ ts)) e
      (record {
        block = four 3 ++ (size ++ (four at ++ (value ++ (pad ++ l.block))));
        bytes = append_bytes (four 3) _ (four_bytes 3) (append_bytes size _ (four_bytes (length value)) (append_bytes (four at) _ (four_bytes at) behind));
        spelt =
            has (four 3) size (four at) value pad (four_length 3) (word_four 3 (omega arith)) (four_length (length value)) (word_four (length value) n)
            (four_length at) (rw e z) (padding_length (length value)) l.spelt;
      })

  end_written : Written strings (end ∷ ts)
  end_written = record {
    block = four 2 ++ l.block;
    bytes = append_bytes (four 2) l.block (four_bytes 2) l.bytes;
    spelt = ends (four 2) (four_length 2) (word_four 2 (omega arith)) l.spelt;
  }

-- what stands in a node is written in front of other tokens
content_written : (strings : List ℕ) (x : Content) (ts : List Token) → writable strings x ≡ true → Written strings ts → Written strings (spelled x ++ ts)
unfolding writable spelled
content_written strings nothing ts e l = l
content_written strings (c.property at value x) ts e l =
    let p = both (ltb at 4294967296 && zero_ended (drop at strings)) ((ltb (length value) 4294967296 && are_bytes value) && writable strings x) e in
    let q = both (ltb at 4294967296) (zero_ended (drop at strings)) p.0 in
    let r = both (ltb (length value) 4294967296 && are_bytes value) (writable strings x) p.1 in
    let v = both (ltb (length value) 4294967296) (are_bytes value) r.0 in
    property_written strings (spelled x ++ ts) (content_written strings x ts r.1 l) at value (ltb-true at 4294967296 q.0) q.1
    (ltb-true (length value) 4294967296 v.0) v.1
content_written strings (node name inner x) ts e l =
    let p = both (eqb (length (to_zero name)) (length name) && are_bytes name) (writable strings inner && writable strings x) e in
    let n = both (eqb (length (to_zero name)) (length name)) (are_bytes name) p.0 in
    let q = both (writable strings inner) (writable strings x) p.1 in
    let behind = end_written strings (spelled x ++ ts) (content_written strings x ts q.1 l) in
    let all = content_written strings inner (end ∷ (spelled x ++ ts)) q.0 behind in
    let z = to_zero_whole name (eqb-true (length (to_zero name)) (length name) n.0) in
    rw append_assoc (begin_written strings (spelled inner ++ (end ∷ (spelled x ++ ts))) all name z n.1)

without_spelled : (x : Content) → without_nops (spelled x) ≡ spelled x
unfolding without_nops spelled
without_spelled nothing = refl
without_spelled (c.property at value x) = ap (λ (ts : List Token). property at value ∷ ts) (without_spelled x)
without_spelled (node name inner x) =
    ap (λ (ts : List Token). begin name ∷ ts) (kept_append (spelled inner) (end ∷ spelled x) ∙ rw (without_spelled inner, without_spelled x) refl)

pub tree_written : (strings name : List ℕ) (inner : Content) → writable strings (node name inner nothing) ≡ true → suc (depth inner) ≤ 16 → ordered inner ≡ true
    → SomeBlock strings name inner
tree_written strings name inner e d o =
    let root = node name inner nothing in
    let last : Written strings (stop ∷ []) = record {
      block = four 9 ++ [];
      bytes = append_bytes (four 9) [] (four_bytes 9) refl;
      spelt = stops (four 9) (four_length 9) (word_four 9 (omega arith)) none;
    } in
    let w = content_written strings root (stop ∷ []) e last in
    record {
      structure = w.block;
      bytes = w.bytes;
      tree = record {
        ts = spelled root ++ (stop ∷ []);
        spelt = w.spelt;
        spells = record { before = spelled root; ends = refl; says = without_spelled root; shallow = d; order = o };
      };
    }
