-- The header, the reservation list and the parts, test by test, and where the parts lie. Assumes nothing.
use Prim.Native.Nat.{ℕ, suc, ◌+◌, ◌-◌, ◌*◌, ◌/◌, ◌≤◌, ◌<◌}
use mathlib.Core.Path.{◌≡◌, refl, sym, ◌∙◌}
use mathlib.Core.Bool.{Bool, true, false, cond, ◌&&◌}
use mathlib.Core.List.{List}
use native.Mathlib.Omega.{arith}
use lib.Dec.{leb, eqb}
use lib.ListN.{length, drop, take}
use lib.Seq.{drop-drop}
use borrow.Author.Tests.{leb-true, leb-false}
use Rattle.tree.specs.Words.{big}
use Rattle.tree.specs.Form.{formed}
use Rattle.tree.specs.Header.{field, extent, whole_header, magic, version17, compatible16, header, structure, strings, structure_inside, structure_aligned}
use Rattle.tree.specs.Header.{strings_inside, listed, pairs, ended, list_aligned, list_ended, list, parts, form}
use Rattle.tree.specs.Steps.{RootOf, TreeOf}
use Rattle.tree.specs.declared.reader.Tree.{Tree}
use Rattle.std.proofs.Common.{Option, Some, None, MatchOption}
use Rattle.tree.proofs.Booleans.{both, never}

-- ---- the list

pub list_start : (n : ℕ) (l : List ℕ) → ended (pairs n l) ≡ ended (pairs (n - 0) (drop (16 * 0) l))
list_start n l = let e : n - 0 ≡ n = omega arith in rw e refl

module _ (l : List ℕ) (n i : ℕ) (inv : ended (pairs n l) ≡ ended (pairs (n - i) (drop (16 * i) l))) where
  pub list_over : n ≤ i → false ≡ ended (pairs n l)
  unfolding pairs ended
  list_over h = let e : n - i ≡ 0 = omega arith in sym (inv ∙ rw e refl)

  module _ (h : i < n) (base size : ℕ) (p : base ≡ big 0 8 (drop (16 * i) l)) (q : size ≡ big 0 8 (drop (16 * i + 8) l)) (b : Bool)
      (r : b ≡ eqb base 0 && eqb size 0) where
    here : ended (pairs n l) ≡ cond b true (ended (pairs (n - (i + 1)) (drop (16 * (i + 1)) l)))
    unfolding pairs ended
    here =
        let e : n - i ≡ suc (n - (i + 1)) = omega arith in
        let f : 16 * i + 16 ≡ 16 * (i + 1) = omega arith in
        inv ∙ rw e (rw (drop-drop 16 (16 * i) l, f, drop-drop 8 (16 * i) l, ← p, ← q, ← r) refl)

    pub list_hit : b ≡ true → true ≡ ended (pairs n l)
    list_hit t = sym (here ∙ rw t refl)

    pub list_next : b ≡ false → ended (pairs n l) ≡ ended (pairs (n - (i + 1)) (drop (16 * (i + 1)) l))
    list_next t = here ∙ rw t refl

pub list_none : (tree : List ℕ) → extent tree < field 4 tree → list_ended tree ≡ false
unfolding pairs ended
list_none tree h = let z : extent tree - field 4 tree ≡ 0 = omega arith in rw z refl

-- ---- where the parts lie

-- no bytes hold no end
none_ended : (n : ℕ) (l : List ℕ) → n ≡ 0 → ended (pairs (length (take n l) / 16) (take n l)) ≡ true → ⊥
unfolding pairs ended
none_ended n l z h = never (rw z at h)

module _ (tree : List ℕ) (e : parts tree ≡ true) where
  structure_and : (structure_inside tree ≡ true) × (structure_aligned tree && (strings_inside tree && list tree) ≡ true)
  unfolding parts
  structure_and = both (structure_inside tree) (structure_aligned tree && (strings_inside tree && list tree)) e

  strings_and : (strings_inside tree ≡ true) × (list tree ≡ true)
  strings_and = both (strings_inside tree) (list tree) (both (structure_aligned tree) (strings_inside tree && list tree) structure_and.1).1

  pub structure_in : field 2 tree + field 9 tree ≤ length tree
  structure_in = let w = leb-true (field 2 tree + field 9 tree) (extent tree) structure_and.0 in omega arith

  pub strings_in : field 3 tree + field 8 tree ≤ length tree
  strings_in = let w = leb-true (field 3 tree + field 8 tree) (extent tree) strings_and.0 in omega arith

  -- a list that ends inside begins inside
  pub list_in : (at end : ℕ) → at ≡ field 4 tree → end ≡ extent tree → at ≤ end
  unfolding list
  list_in at end p q = go (leb (field 4 tree) (extent tree)) refl (both (list_aligned tree) (list_ended tree) strings_and.1).1
    where
      go : (b : Bool) → leb (field 4 tree) (extent tree) ≡ b → list_ended tree ≡ true → at ≤ end
      go true l k = omega (arith, leb-true (field 4 tree) (extent tree) l)
      go false l k =
          let z : extent tree - field 4 tree ≡ 0 = omega (arith, leb-false (field 4 tree) (extent tree) l) in
          absurd (none_ended (extent tree - field 4 tree) (drop (field 4 tree) tree) z k)

pub list_is : (tree : List ℕ) (at end : ℕ) → at ≡ field 4 tree → end ≡ extent tree → take (end - at) (drop at tree) ≡ listed tree
list_is tree at end p q = rw (p, q) refl

-- ---- the form

pub header_whole : (tree : List ℕ) → header tree ≡ true → 40 ≤ length tree
unfolding header
header_whole tree e =
    let h = both (whole_header tree) (magic tree && (version17 tree && compatible16 tree)) e in
    let w = leb-true 40 (extent tree) h.0 in
    omega arith

module _ (tree : List ℕ) where
  pub header_refused : header tree ≡ false → form tree ≡ false
  unfolding form
  header_refused e = rw e refl

  pub parts_refused : header tree ≡ true → parts tree ≡ false → form tree ≡ false
  unfolding form
  parts_refused e f = rw (e, f) refl

  module _ (st s : List ℕ) (p : st ≡ strings tree) (q : s ≡ structure tree) where
    pub tree_is : length s < 4294967296 → (t : Tree) → RootOf st s t → TreeOf tree t
    tree_is n t r = record { root = rw (p, q) at r; short = rw r.bytes_are n }

    -- the tree that the parts hold is the bytes'
    pub opened : header tree ≡ true → parts tree ≡ true → length s < 4294967296 → (r : Option Tree)
        → MatchOption r (formed st s ≡ false) (λ t. (formed st s ≡ true) × RootOf st s t)
        → MatchOption r (form tree ≡ false) (λ t. (form tree ≡ true) × TreeOf tree t)
    unfolding form
    opened e f n None k = rw (e, f, ← p, ← q) k
    opened e f n (Some t) (k, r) = (rw (e, f, ← p, ← q) k, tree_is n t r)

-- a tree that has the form
module _ (tree : List ℕ) (f : form tree ≡ true) where
  form_parted : (header tree ≡ true) × (parts tree && formed (strings tree) (structure tree) ≡ true)
  unfolding form
  form_parted = both (header tree) (parts tree && formed (strings tree) (structure tree)) f

  pub formed_header : 40 ≤ length tree
  formed_header = header_whole tree form_parted.0

  pub formed_parts : parts tree ≡ true
  formed_parts = (both (parts tree) (formed (strings tree) (structure tree)) form_parted.1).0

  pub formed_block : formed (strings tree) (structure tree) ≡ true
  formed_block = (both (parts tree) (formed (strings tree) (structure tree)) form_parted.1).1

  pub block_formed : (st s : List ℕ) → st ≡ strings tree → s ≡ structure tree → formed st s ≡ true
  block_formed st s p q = rw (p, q) formed_block
