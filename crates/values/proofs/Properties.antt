-- What the properties of a node say. Assumes nothing.
use Rattle.std.proofs.Common.{◌≡◌, ℕ, ◌≤◌, Bool, true, false, ◌&&◌, cond, Option, Some, None, length, refl, sym, ◌∙◌, arith}
use lib.Dec.{leb, eqb, leb-zero}
use borrow.Author.Tests.{le-leb}
use Rattle.tree.specs.Words.{word}
use Rattle.lookup.specs.Values.{Node, Value, absent, present}
use Rattle.values.specs.Names.{device_type, memory, reg, numa_node_id}
use Rattle.values.specs.Values.{Get, is, number_or, number_from, whole_entries}
use Rattle.values.specs.Steps.{told, memory_ok}

-- ---- numbers

-- a number of another length than 4 bytes is in no bounds
other_from : (low high d : ℕ) (v : Value) → None ≡ told d v → number_from low high v ≡ false
other_from low high d absent e = let z : None ≡ Some d = e in cc
other_from low high d (present v) e = go (eqb (length v) 4) e
  where
    go : (b : Bool) → None ≡ cond b (Some (word v)) None → b && (leb low (word v) && leb (word v) high) ≡ false
    go true q = cc
    go false q = refl

-- one that is there, or is meant, is in bounds where it is between them
told_from : (low high d n : ℕ) (v : Value) → low ≤ d → d ≤ high → Some n ≡ told d v → number_from low high v ≡ (leb low n && leb n high)
told_from low high d n absent g h e =
    let q : n ≡ d = cc in
    rw (q, le-leb low d g, le-leb d high h) refl
told_from low high d n (present v) g h e = go (eqb (length v) 4) e
  where
    go : (b : Bool) → Some n ≡ cond b (Some (word v)) None → b && (leb low (word v) && leb (word v) high) ≡ (leb low n && leb n high)
    go true q = let z : n ≡ word v = cc in rw z refl
    go false q = cc

pub told_number : (d n : ℕ) (v : Value) → Some n ≡ told d v → n ≡ number_or d v
told_number d n absent e = cc
told_number d n (present v) e = go (eqb (length v) 4) e
  where
    go : (b : Bool) → Some n ≡ cond b (Some (word v)) None → n ≡ word v
    go true q = cc
    go false q = cc

-- ---- a child of the root that may be memory

module _ (get : Get) (w : ℕ) (n : Node) (p : is memory (get n device_type) ≡ true) (q : whole_entries w (get n reg) ≡ true) (r : Option ℕ)
    (k : r ≡ told 0 (get n numa_node_id)) where
  pub memory_no_id : r ≡ None → false ≡ memory_ok get w n
  unfolding memory_ok
  memory_no_id z = rw (p, q, other_from 0 63 0 (get n numa_node_id) (sym z ∙ k)) refl

  pub memory_id : (x : ℕ) → r ≡ Some x → leb x 63 ≡ memory_ok get w n
  unfolding memory_ok
  memory_id x z = rw (p, q, told_from 0 63 0 x (get n numa_node_id) (omega arith) (omega arith) (sym z ∙ k), leb-zero x) refl
