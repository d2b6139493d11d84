-- The commands keep a block good: with a good list that its table has room for, a good block is spelled as a good block that says it. Assumes nothing.
use Prim.Native.Nat.{ℕ, ◌<◌}
use mathlib.Core.Path.{◌≡◌}
use mathlib.Core.Bool.{true}
use mathlib.Core.List.{List}
use native.Mathlib.Omega.{arith}
use lib.Dec.{leb}
use lib.ListN.{length}
use borrow.Author.Tests.{le-leb}
use Rattle.address.proofs.Tests.{and}
use Rattle.regions.specs.declared.Kind.{Kind}
use Rattle.regions.specs.declared.Kind.TheVariants.{Memory, Taken}
use Rattle.regions.specs.declared.Region.{Region}
use Rattle.regions.specs.declared.Change.{Change}
use Rattle.regions.specs.Lists.{good_list}
use Rattle.regions.specs.Changes.{changed}
use Rattle.regions.specs.Trim.{round_each, trimmed_list}
use Rattle.regions.proofs.Numbers.{Bytes}
use Rattle.regions.proofs.Spelled.{bytes_append, number_spelled, table_spelled}
use Rattle.regions.proofs.Legal.{Keeps, changed_good}
use Rattle.regions.proofs.Trim.{round_rises, round_length, round_legal, trim_rounds}
use Rattle.regions.proofs.Rises.{Rises-rises}
use Rattle.regions.proofs.Good.{good_rises, good_legal}
use Rattle.block.specs.declared.Layout.{Layout}
use Rattle.block.specs.declared.Header.{Header}
use Rattle.block.specs.Block.{capacity, offset, Contents, list_of, with_list, entry_bytes, settings_bytes, totals_bytes, entries_bytes, header_bytes, header_of, block_bytes, contents, good_table, good_contents, good}
use Rattle.block.specs.Checks.{Small}
use Rattle.block.proofs.Blocks.{direction_ok, tables_ok, room, lists_ok, good_contents_lem, good_spelled}
use Rattle.block.proofs.Reading.{Spellable, contents_spelled, good_spelled_block, good_spellable}

-- ---- a good block's elements are bytes

entry_spelled : (kind offset count capacity : ℕ) → Bytes (entry_bytes kind offset count capacity)
unfolding entry_bytes
entry_spelled kind offset count capacity =
    let n = number_spelled 4 in
    bytes_append (n kind) (bytes_append (n offset) (bytes_append (n count) (n capacity)))

header_spelled : (L : Layout) (h : Header) → Bytes (header_bytes L h)
unfolding header_bytes entries_bytes settings_bytes totals_bytes
header_spelled L h =
    let n = number_spelled in
    let e = entry_spelled in
    let m = bytes_append (e 1 (offset L Memory) h.memory.count (capacity L Memory)) (e 2 (offset L Taken) h.taken.count (capacity L Taken)) in
    let s = bytes_append (n 8 h.settings.limit.0) (bytes_append (n 4 h.settings.direction) (n 4 0)) in
    let t = bytes_append (n 8 h.memory.total.0) (bytes_append (n 8 h.taken.total.0) (n 8 h.settings.image.0)) in
    bytes_append (bytes_append (n 4 L.edition) (bytes_append (n 4 2) m)) (bytes_append s t)

block_spelled : (L : Layout) (s : Contents) → Bytes (block_bytes L s)
unfolding block_bytes
block_spelled L s =
    bytes_append (header_spelled L (header_of s)) (bytes_append (table_spelled (capacity L Memory) s.memory) (table_spelled (capacity L Taken) s.taken))

pub good_bytes : (L : Layout) (b : List ℕ) → good L b ≡ true → Bytes b
good_bytes L b g = rw (good_spelled L b g) at (block_spelled L (contents L b))

-- ---- another list in one of the tables

-- e is a good block that says what b says, with the list xs in the table k
pub record Kept (L : Layout) (k : Kind) (xs : List Region) (b e : List ℕ) : Type 0 where
  pub is_good : good L e ≡ true
  pub says : contents L e ≡ with_list (contents L b) k xs

module _ (L : Layout) (small : Small L) (b : List ℕ) (g : good L b ≡ true) where
  with_good : (k : Kind) (xs : List Region) → good_table L k xs ≡ true → good_contents L (with_list (contents L b) k xs) ≡ true
  unfolding good_contents
  with_good Memory xs h =
      let s = contents L b in
      let p = good_contents_lem L b g in
      and (le-leb s.settings.direction 1 (direction_ok L s p)) (and h (tables_ok L s p Taken))
  with_good Taken xs h =
      let s = contents L b in
      let p = good_contents_lem L b g in
      and (le-leb s.settings.direction 1 (direction_ok L s p)) (and (tables_ok L s p Memory) h)

  with_spellable : (k : Kind) (xs : List Region) → good_table L k xs ≡ true → Spellable L (with_list (contents L b) k xs)
  with_spellable Memory xs h =
      record { good = with_good Memory xs h; settings = (good_spellable L small b (good_bytes L b g) g).settings }
  with_spellable Taken xs h =
      record { good = with_good Taken xs h; settings = (good_spellable L small b (good_bytes L b g) g).settings }

  pub list_kept : (k : Kind) (xs : List Region) → leb (length xs) (capacity L k) ≡ true → good_list k xs ≡ true
      → Kept L k xs b (block_bytes L (with_list (contents L b) k xs))
  unfolding good_table
  list_kept k xs l h =
      let s : Contents = with_list (contents L b) k xs in
      let p : Spellable L s = with_spellable k xs (and l h) in
      record { is_good = good_spelled_block L small s p; says = contents_spelled L small s p }

  -- what a change over a range leaves, where the table has room for it
  pub change_kept : (k : Kind) (c : Change) (base size : ℕ) → Keeps k c
      → leb (length (changed c base size (list_of (contents L b) k))) (capacity L k) ≡ true
      → Kept L k (changed c base size (list_of (contents L b) k)) b (block_bytes L (with_list (contents L b) k (changed c base size (list_of (contents L b) k))))
  change_kept k c base size h l =
      let xs : List Region = list_of (contents L b) k in
      list_kept k (changed c base size xs) l (changed_good k c base size xs (lists_ok L (contents L b) (good_contents_lem L b g) k) h)

  -- what trim leaves
  pub trim_kept : (n : ℕ) → 0 < n
      → Kept L Memory (trimmed_list n (contents L b).memory) b (block_bytes L (with_list (contents L b) Memory (trimmed_list n (contents L b).memory)))
  unfolding good_list
  trim_kept n pos =
      let xs : List Region = (contents L b).memory in
      let p = good_contents_lem L b g in
      let q = lists_ok L (contents L b) p Memory in
      let w = good_rises Memory xs q in
      let l = le-leb (length (round_each n xs)) (capacity L Memory) (omega (arith, round_length n xs, room L (contents L b) p Memory)) in
      rw (trim_rounds n xs pos w)
      (list_kept Memory (round_each n xs) l (and (Rises-rises (round_rises n pos w)) (round_legal n Memory xs (good_legal Memory xs q))))
