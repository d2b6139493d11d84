-- A small board's tree: what it asks for, that it is not read with one byte other, and what corrections change, by computation. Assumes nothing.
use Prim.Native.Nat.{ℕ, ◌+◌}
use mathlib.Core.Path.{◌≡◌, refl}
use mathlib.Core.Bool.{true, false}
use mathlib.Core.List.{List, [], ◌∷◌, ◌++◌}
use lib.ListN.{length, take, drop}
use Rattle.range.specs.Outcomes.{tag}
use Rattle.tables.specs.declared.commands.Verb.TheVariants.{Add, Mark, Reserve}
use Rattle.tables.specs.Commands.{command}
use Rattle.tree.specs.Words.{big}
use Rattle.tree.specs.Tokens.{to_zero, begin_of, property_of, plain_of, token_of, token, size, tokens_up_to}
use Rattle.tree.specs.Form.{follows, named, formed}
use Rattle.tree.specs.Content.{contents}
use Rattle.tree.specs.Header.{pairs, ended, before_end, header, list, parts, form}
use Rattle.lookup.specs.Values.{same, value_of, children_in, steps, path}
use Rattle.values.specs.Names.{address_cells, device_type, memory, reg, numa_node_id, no_map, reserved_memory}
use Rattle.values.specs.Values.{every, those, joined, values}
use Rattle.paths.specs.Lookup.{listing, first_of, lookup}
use Rattle.board.specs.Board.{entries, commands, readable, asks}
use Rattle.board.specs.Pairs.{readable_pair, asks_pair}

-- ---- the tree

abbrev join : List (List ℕ) → List ℕ
join [] = []
join (x ∷ xs) = x ++ join xs

-- a small number in 4 bytes
abbrev w : ℕ → List ℕ
w n = 0 ∷ 0 ∷ 0 ∷ n ∷ []

-- a 4-byte number by its bytes but the second, which is 0
abbrev v : ℕ → ℕ → ℕ → List ℕ
v a c d = a ∷ 0 ∷ c ∷ d ∷ []

abbrev has : ℕ → List ℕ → List ℕ
has at value = w 3 ++ (w (length value) ++ (w at ++ value))

-- at 0 #address-cells, at 15 device_type, at 27 reg, at 31 numa-node-id, at 44 no-map
abbrev names : List ℕ
names = join (address_cells ∷ (0 ∷ []) ∷ device_type ∷ (0 ∷ []) ∷ reg ∷ (0 ∷ []) ∷ numa_node_id ∷ (0 ∷ []) ∷ no_map ∷ (0 ∷ []) ∷ [])

-- two ranges of memory, at 0x80000000 and at 0x90000000
abbrev two : List ℕ
two = join (v 128 0 0 ∷ v 0 16 0 ∷ v 144 0 0 ∷ v 0 32 0 ∷ [])

-- no operation, then the root with 1 address cell: a memory node of two ranges and node 3, whose second reg does not count; a /reserved-memory with a node
-- that is reserved and one that is marked; padding is 170
abbrev block : List ℕ
block =
    join
    (w 4 ∷ w 1 ∷ (0 ∷ 170 ∷ 170 ∷ 170 ∷ []) ∷ has 0 (w 1) ∷ w 1 ∷ (114 ∷ 97 ∷ 109 ∷ 0 ∷ []) ∷ has 15 memory ∷ (170 ∷ []) ∷ has 27 two ∷ has 31 (w 3)
    ∷ has 27 (120 ∷ 121 ∷ []) ∷ (170 ∷ 170 ∷ []) ∷ w 2 ∷ w 4 ∷ w 1 ∷ reserved_memory ∷ (0 ∷ []) ∷ w 1 ∷ (102 ∷ 119 ∷ 0 ∷ 170 ∷ [])
    ∷ has 27 (v 128 0 0 ++ v 0 1 0) ∷ w 2 ∷ w 1 ∷ (100 ∷ 115 ∷ 112 ∷ 0 ∷ []) ∷ has 44 [] ∷ has 27 (v 128 8 0 ++ w 128) ∷ w 2 ∷ w 2 ∷ w 2 ∷ w 9 ∷ [])

-- the header, a reservation of 0x1000 bytes at 0x70000000 and the list's end, the structure block at 72, the strings block at 304
abbrev board : List ℕ
board =
    join
    ((208 ∷ 13 ∷ 254 ∷ 237 ∷ []) ∷ (0 ∷ 0 ∷ 1 ∷ 99 ∷ []) ∷ w 72 ∷ (0 ∷ 0 ∷ 1 ∷ 48 ∷ []) ∷ w 40 ∷ w 17 ∷ w 16 ∷ w 0 ∷ w 51 ∷ w 232
    ∷ w 0 ∷ v 112 0 0 ∷ w 0 ∷ v 0 16 0 ∷ w 0 ∷ w 0 ∷ w 0 ∷ w 0 ∷ block ∷ names ∷ [])

-- the tree with another byte at a place
abbrev with : ℕ → ℕ → List ℕ
with at byte = take at board ++ (byte ∷ drop (at + 1) board)

-- ---- what it asks for

pub is_read : readable board ≡ true
unfolding big to_zero begin_of property_of plain_of token_of token size tokens_up_to follows named formed contents same value_of children_in steps path pairs ended header list parts form every those joined values readable
is_read = refl

-- memory first, then the list, then the reserved child, then the mark
pub asked : asks board
    ≡ command (Add (tag 0 3)) 0x80000000 0x1000 ∷ command (Add (tag 0 3)) 0x90000000 0x2000 ∷ command Reserve 0x70000000 0x1000
    ∷ command Reserve 0x80000000 0x100 ∷ command (Mark 4) 0x80000800 0x80 ∷ []
unfolding big to_zero begin_of property_of plain_of token_of token size tokens_up_to named contents same value_of children_in steps path pairs before_end entries those joined commands asks
asked = refl

-- ---- one byte other

pub magic_refused : readable (with 3 238) ≡ false
unfolding big to_zero begin_of property_of plain_of token_of token size tokens_up_to follows named formed contents same value_of children_in steps path pairs ended header list parts form every those joined values readable
magic_refused = refl

-- a total size of 99: the structure block ends past it
pub total_size_refused : readable (with 6 0) ≡ false
unfolding big to_zero begin_of property_of plain_of token_of token size tokens_up_to follows named formed contents same value_of children_in steps path pairs ended header list parts form every those joined values readable
total_size_refused = refl

pub version_refused : readable (with 23 16) ≡ false
unfolding big to_zero begin_of property_of plain_of token_of token size tokens_up_to follows named formed contents same value_of children_in steps path pairs ended header list parts form every those joined values readable
version_refused = refl

pub compatible_version_refused : readable (with 27 17) ≡ false
unfolding big to_zero begin_of property_of plain_of token_of token size tokens_up_to follows named formed contents same value_of children_in steps path pairs ended header list parts form every those joined values readable
compatible_version_refused = refl

pub list_alignment_refused : readable (with 19 44) ≡ false
unfolding big to_zero begin_of property_of plain_of token_of token size tokens_up_to follows named formed contents same value_of children_in steps path pairs ended header list parts form every those joined values readable
list_alignment_refused = refl

pub list_not_ended_refused : readable (with 71 1) ≡ false
unfolding big to_zero begin_of property_of plain_of token_of token size tokens_up_to follows named formed contents same value_of children_in steps path pairs ended header list parts form every those joined values readable
list_not_ended_refused = refl

-- the name of the memory node runs on, over the token behind it
pub unended_name_refused : readable (with 107 1) ≡ false
unfolding big to_zero begin_of property_of plain_of token_of token size tokens_up_to follows named formed contents same value_of children_in steps path pairs ended header list parts form every those joined values readable
unended_name_refused = refl

pub end_token_refused : readable (with 303 2) ≡ false
unfolding big to_zero begin_of property_of plain_of token_of token size tokens_up_to follows named formed contents same value_of children_in steps path pairs ended header list parts form every those joined values readable
end_token_refused = refl

pub no_cells_refused : readable (with 99 0) ≡ false
unfolding big to_zero begin_of property_of plain_of token_of token size tokens_up_to follows named formed contents same value_of children_in steps path pairs ended header list parts form every those joined values readable
no_cells_refused = refl

pub three_cells_refused : readable (with 99 3) ≡ false
unfolding big to_zero begin_of property_of plain_of token_of token size tokens_up_to follows named formed contents same value_of children_in steps path pairs ended header list parts form every those joined values readable
three_cells_refused = refl

-- 2 address cells: 16 bytes are no entries of 12
pub ragged_reg_refused : readable (with 99 2) ≡ false
unfolding big to_zero begin_of property_of plain_of token_of token size tokens_up_to follows named formed contents same value_of children_in steps path pairs ended header list parts form every those joined values readable
ragged_reg_refused = refl

pub node_63_read : readable (with 171 63) ≡ true
unfolding big to_zero begin_of property_of plain_of token_of token size tokens_up_to follows named formed contents same value_of children_in steps path pairs ended header list parts form every those joined values readable
node_63_read = refl

pub node_64_refused : readable (with 171 64) ≡ false
unfolding big to_zero begin_of property_of plain_of token_of token size tokens_up_to follows named formed contents same value_of children_in steps path pairs ended header list parts form every those joined values readable
node_64_refused = refl

-- ---- corrected by a service tree

-- no reservations, the structure block at 56, the same names behind it
abbrev service : List ℕ → List ℕ
service inner =
    join
    ((208 ∷ 13 ∷ 254 ∷ 237 ∷ []) ∷ w (56 + length inner + 67) ∷ w 56 ∷ w (56 + length inner + 16) ∷ w 40 ∷ w 17 ∷ w 16 ∷ w 0 ∷ w 51 ∷ w (length inner + 16)
    ∷ w 0 ∷ w 0 ∷ w 0 ∷ w 0 ∷ w 1 ∷ (0 ∷ 170 ∷ 170 ∷ 170 ∷ []) ∷ inner ∷ w 2 ∷ w 9 ∷ names ∷ [])

-- the memory node with another node id
abbrev ram : ℕ → List ℕ
ram id = join (w 1 ∷ (114 ∷ 97 ∷ 109 ∷ 0 ∷ []) ∷ has 31 (w id) ∷ w 2 ∷ [])

-- the reserved node with no-map
abbrev unmapped : List ℕ
unmapped = join (w 1 ∷ reserved_memory ∷ (0 ∷ []) ∷ w 1 ∷ (102 ∷ 119 ∷ 0 ∷ 170 ∷ []) ∷ has 44 [] ∷ w 2 ∷ w 2 ∷ [])

-- a node id of 64 makes number 11 come; one of 3 makes it go where the board says 64
pub corrected_refused : (readable_pair board (service (ram 64)) ≡ false) × (readable_pair (with 171 64) (service (ram 3)) ≡ true)
unfolding big to_zero begin_of property_of plain_of token_of token size tokens_up_to follows named formed contents same value_of children_in steps path pairs ended header list parts form every those joined values listing first_of lookup readable_pair
corrected_refused = (refl, refl)

-- another node, and a mark in the place of a reservation
pub corrected_asked : asks_pair board (service (ram 5 ++ unmapped))
    ≡ command (Add (tag 0 5)) 0x80000000 0x1000 ∷ command (Add (tag 0 5)) 0x90000000 0x2000 ∷ command Reserve 0x70000000 0x1000
    ∷ command (Mark 4) 0x80000000 0x100 ∷ command (Mark 4) 0x80000800 0x80 ∷ []
unfolding big to_zero begin_of property_of plain_of token_of token size tokens_up_to named contents same value_of children_in steps path pairs before_end entries those joined commands listing first_of lookup asks_pair
corrected_asked = refl
