-- A flattened tree whole (Devicetree Specification, 5.2 and 5.3): header, reservation list, structure block, strings block. Each condition of E8's number 11
-- on them by its name. Assumes nothing.
use Rattle.std.specs.Prelude.{ℕ, zero, suc, ◌+◌, ◌*◌, ◌/◌, ◌%◌, ◌-◌, min, Bool, true, false, cond, ◌&&◌, List, [], ◌∷◌, leb, eqb, length, drop, take}
use Rattle.tree.specs.Words.{big, word}
use Rattle.tree.specs.Tokens.{tokens}
use Rattle.tree.specs.Form.{named, formed}
use Rattle.tree.specs.Content.{Content, contents, first, in_root}

-- ---- the header: ten u32

-- the one at 4 * k: 0 magic, 1 total size, 2 offset of the structure block, 3 of the strings block, 4 of the reservation list, 5 version,
-- 6 compatible version, 7 boot processor, 8 size of the strings block, 9 of the structure block
abbrev pub field : ℕ → List ℕ → ℕ
field k tree = word (drop (4 * k) tree)

-- how many bytes lie inside the total size and the lent buffer
abbrev pub extent : List ℕ → ℕ
extent tree = min (field 1 tree) (length tree)

-- n bytes at an offset lie inside both
abbrev pub inside : List ℕ → ℕ → ℕ → Bool
inside tree at n = leb (at + n) (extent tree)

abbrev pub whole_header : List ℕ → Bool
whole_header tree = inside tree 0 40

-- 0xD00DFEED
abbrev pub magic : List ℕ → Bool
magic tree = eqb (field 0 tree) 3490578157

abbrev pub version17 : List ℕ → Bool
version17 tree = eqb (field 5 tree) 17

abbrev pub compatible16 : List ℕ → Bool
compatible16 tree = eqb (field 6 tree) 16

unfoldable pub header : List ℕ → Bool
header tree = whole_header tree && (magic tree && (version17 tree && compatible16 tree))

-- ---- the structure block and the strings block

abbrev pub structure : List ℕ → List ℕ
structure tree = take (field 9 tree) (drop (field 2 tree) tree)

abbrev pub strings : List ℕ → List ℕ
strings tree = take (field 8 tree) (drop (field 3 tree) tree)

abbrev pub structure_inside : List ℕ → Bool
structure_inside tree = inside tree (field 2 tree) (field 9 tree)

abbrev pub structure_aligned : List ℕ → Bool
structure_aligned tree = eqb (field 2 tree % 4) 0

abbrev pub strings_inside : List ℕ → Bool
strings_inside tree = inside tree (field 3 tree) (field 8 tree)

-- ---- the reservation list: pairs of u64, up to two zeros

-- from its offset to the last byte inside
abbrev pub listed : List ℕ → List ℕ
listed tree = take (extent tree - field 4 tree) (drop (field 4 tree) tree)

pub record Range : Type 0 where
  pub base : ℕ
  pub size : ℕ

abbrev pub pair : List ℕ → Range
pair l = record { base = big 0 8 l; size = big 0 8 (drop 8 l) }

abbrev pub is_end : Range → Bool
is_end r = eqb r.base 0 && eqb r.size 0

-- n pairs
unfoldable pub pairs : ℕ → List ℕ → List Range
pairs zero l = []
pairs (suc n) l = pair l ∷ pairs n (drop 16 l)

-- whether one of them is two zeros, and those before the first such
unfoldable pub ended : List Range → Bool
ended [] = false
ended (r ∷ rs) = cond (is_end r) true (ended rs)

unfoldable pub before_end : List Range → List Range
before_end [] = []
before_end (r ∷ rs) = cond (is_end r) [] (r ∷ before_end rs)

-- all whole pairs inside
abbrev pub pairs_inside : List ℕ → List Range
pairs_inside tree = pairs (length (listed tree) / 16) (listed tree)

abbrev pub reservations : List ℕ → List Range
reservations tree = before_end (pairs_inside tree)

abbrev pub list_aligned : List ℕ → Bool
list_aligned tree = eqb (field 4 tree % 8) 0

abbrev pub list_ended : List ℕ → Bool
list_ended tree = ended (pairs_inside tree)

unfoldable pub list : List ℕ → Bool
list tree = list_aligned tree && list_ended tree

-- ---- the form

unfoldable pub parts : List ℕ → Bool
parts tree = structure_inside tree && (structure_aligned tree && (strings_inside tree && list tree))

-- a tree's form: all that E8 asks but cells, reg and node id
unfoldable pub form : List ℕ → Bool
form tree = header tree && (parts tree && formed (strings tree) (structure tree))

-- what stands in the root
abbrev pub root : List ℕ → Content
root tree = in_root (first (contents (tokens (named (strings tree)) (structure tree))))
