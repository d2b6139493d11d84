-- A table's list and its tally, put in the place of the old. Assumes nothing.
use Prim.Native.Nat.{ℕ, ◌+◌, ◌*◌, ◌-◌, ◌/◌, ◌≤◌}
use mathlib.Core.Path.{◌≡◌, sym, ap, ap₂, ◌∙◌}
use mathlib.Core.Bool.{true}
use mathlib.Core.List.{List, ◌++◌, append_assoc, append-nil}
use native.Mathlib.Omega.{arith}
use lib.ListN.{length, take, drop, length-append, length-drop, drop_of_length-le}
use lib.Seq.{sets, take_at, drop_at, drop-drop, length-take-le, take-add}
use Rattle.std.specs.Prelude.{Option, Some, None}
use Rattle.address.specs.declared.Address.{Address}
use Rattle.address.specs.declared.Size.{Size}
use Rattle.address.specs.Numbers.{address}
use Rattle.address.proofs.Checked.{address_outside, address_at}
use Rattle.regions.specs.declared.Kind.{Kind}
use Rattle.regions.specs.declared.Kind.TheVariants.{Memory, Taken}
use Rattle.regions.specs.declared.Region.{Region}
use Rattle.regions.specs.Meaning.{at, total, top, top_is}
use Rattle.regions.specs.Changes.{cut}
use Rattle.regions.specs.Bytes.{table_bytes}
use Rattle.regions.proofs.Numbers.{Bytes}
use Rattle.block.specs.declared.Layout.{Layout}
use Rattle.block.specs.declared.Header.{Header}
use Rattle.records.specs.declared.table.Tally.{Tally}
use Rattle.block.specs.Block.{current, capacity, offset, block_length, with_list, header_bytes, header_of, block_bytes, read_header, part, contents, good}
use Rattle.records.specs.Totals.{tally}
use Rattle.block.specs.Checks.{Small, with_tally}
use Rattle.block.proofs.Blocks.{table_length, part_length, room, good_contents_lem, good_length}
use Rattle.block.proofs.Reading.{good_header, good_tables}
use Rattle.block.proofs.Layouts.{small_current, small_as}
use Rattle.block.proofs.Headers.{sets_header}

-- ---- a table of a block

module _ (L : Layout) (b : List ℕ) (g : good L b ≡ true) where
  len : length b ≡ block_length L
  len = good_length L b g

  memory_length : length (table_bytes L.memory (contents L b).memory) ≡ 24 * L.memory
  unfolding capacity
  memory_length = table_length L.memory (contents L b).memory (room L (contents L b) (good_contents_lem L b g) Memory)

  tables : drop 80 b ≡ table_bytes L.memory (contents L b).memory ++ table_bytes L.taken (contents L b).taken
  unfolding capacity
  tables = good_tables L b g

  head_length : length (take 80 b) ≡ 80
  head_length = length-take-le 80 b (omega (arith, len))

  -- what stands behind the header of a block with another list in one table
  behind : (k : Kind) (xs : List Region) → drop 80 (take (offset L k) b ++ (table_bytes (capacity L k) xs ++ drop (offset L k + 24 * capacity L k) b))
      ≡ table_bytes (capacity L Memory) (with_list (contents L b) k xs).memory ++ table_bytes (capacity L Taken) (with_list (contents L b) k xs).taken
  unfolding capacity offset
  behind Memory xs =
      let d : drop (80 + 24 * L.memory) b ≡ table_bytes L.taken (contents L b).taken =
      sym (drop-drop (24 * L.memory) 80 b) ∙ ap (drop (24 * L.memory)) tables
      ∙ drop_at (table_bytes L.memory (contents L b).memory) (table_bytes L.taken (contents L b).taken) (24 * L.memory) memory_length in
      rw d (drop_at (take 80 b) (table_bytes L.memory xs ++ table_bytes L.taken (contents L b).taken) 80 head_length)
  behind Taken xs =
      let m : ℕ = 24 * L.memory in
      let t : List ℕ = table_bytes L.memory (contents L b).memory in
      let x : List ℕ = table_bytes L.taken xs in
      let e : take (80 + m) b ≡ take 80 b ++ t =
      take-add 80 m b ∙ ap (λ (y : List ℕ). take 80 b ++ take m y) tables
      ∙ ap (λ (y : List ℕ). take 80 b ++ y) (take_at t (table_bytes L.taken (contents L b).taken) m memory_length) in
      let o : length b ≤ 80 + m + 24 * L.taken = omega (arith, len) in
      rw (e, drop_of_length-le b o, append-nil, append_assoc) (drop_at (take 80 b) (t ++ x) 80 head_length)

  stored_room : (k : Kind) (x : List ℕ) → length x ≡ 24 * capacity L k
      → 80 ≤ length (take (offset L k) b ++ (x ++ drop (offset L k + 24 * capacity L k) b))
  unfolding capacity offset
  stored_room Memory x e = simp (length-append, length-drop) (omega (arith, head_length))
  stored_room Taken x e =
      simp (length-append, length-drop) (omega (arith, length-take-le (80 + 24 * L.memory) b (omega (arith, len))))

module _ (L : Layout) (small : Small L) (b : List ℕ) (bs : Bytes b) (g : good L b ≡ true) where
  -- the header with the new list's tally
  header_tallied : (k : Kind) (xs : List Region) → with_tally (read_header b) k (tally xs) ≡ header_of (with_list (contents L b) k xs)
  header_tallied Memory xs = ap (λ (h : Header). with_tally h Memory (tally xs)) (good_header L small b bs g)
  header_tallied Taken xs = ap (λ (h : Header). with_tally h Taken (tally xs)) (good_header L small b bs g)

  -- a table stored in its part, and the header written anew
  list_stored : (k : Kind) (xs : List Region) → length xs ≤ capacity L k → (h : Header) → h ≡ read_header b → (t : Tally) → t ≡ tally xs → (y z : List ℕ)
      → y ≡ take (offset L k) b ++ (table_bytes (capacity L k) xs ++ drop (offset L k + 24 * capacity L k) b)
      → z ≡ sets y 0 (header_bytes L (with_tally h k t)) → z ≡ block_bytes L (with_list (contents L b) k xs)
  unfolding block_bytes
  list_stored k xs n h e t f y z p q =
      let r : 80 ≤ length y = rw p (stored_room L b g k (table_bytes (capacity L k) xs) (table_length (capacity L k) xs n)) in
      let w : with_tally h k t ≡ header_of (with_list (contents L b) k xs) = rw (e, f) (header_tallied k xs) in
      q ∙ sets_header L (with_tally h k t) y r
      ∙ ap₂ (λ (u v : List ℕ). u ++ v) (ap (header_bytes L) w) (ap (drop 80) p ∙ behind L b g k xs)

-- ---- where the tables of a block stand now

offset_bound : (L : Layout) → Small L → (k : Kind) → offset L k ≤ 80 + 24 * 65536
unfolding offset
offset_bound L s Memory = omega arith
offset_bound L s Taken = omega (arith, s.memory)

pub capacity_bound : (L : Layout) → Small L → (k : Kind) → capacity L k ≤ 65536
unfolding capacity
capacity_bound L s Memory = s.memory
capacity_bound L s Taken = s.taken

pub start_bound : (l : Layout) (k : Kind) (n : ℕ) → l ≡ current → n ≡ offset l k → n ≤ 80 + 24 * 65536
start_bound l k n e f = omega (arith, f, offset_bound l (small_as small_current l e) k)

pub capacity_now : (l : Layout) (k : Kind) (m : ℕ) → l ≡ current → m ≡ capacity l k → m ≤ 65536
capacity_now l k m e f = omega (arith, f, capacity_bound l (small_as small_current l e) k)

-- the scratch table for any change is as long as the memory table
pub scratch_room : 24 * capacity current Memory ≤ 3072
unfolding capacity
scratch_room = omega arith

pub start_now : (l : Layout) (k : Kind) (n : ℕ) → l ≡ current → n ≡ offset l k → n ≡ offset current k
start_now l k n e f = f ∙ ap (λ (x : Layout). offset x k) e

pub span_end : (l : Layout) (k : Kind) (n m : ℕ) → l ≡ current → n ≡ offset l k → m ≡ capacity l k → n + 24 * m ≡ offset current k + 24 * capacity current k
span_end l k n m e f g = rw (f, g, e)

pub span_le : (k : Kind) (e : ℕ) (b : List ℕ) → good current b ≡ true → e ≡ offset current k + 24 * capacity current k → e ≤ length b
unfolding offset capacity
span_le Memory e b g q = omega (arith, good_length current b g)
span_le Taken e b g q = omega (arith, good_length current b g)

-- the part of a block where a table stands
pub span_part : (k : Kind) (a e : ℕ) (b : List ℕ) → good current b ≡ true → a ≡ offset current k → e ≡ offset current k + 24 * capacity current k
    → take (e - a) (drop a b) ≡ part current k b
span_part k a e b g p q =
    let z : e - a ≡ 24 * capacity current k = omega arith in
    rw (z, p)

pub span_room : (k : Kind) (a e : ℕ) (b : List ℕ) → good current b ≡ true → a ≡ offset current k → e ≡ offset current k + 24 * capacity current k
    → length (take (e - a) (drop a b)) ≡ 24 * capacity current k
span_room k a e b g p q = ap (length {A = ℕ}) (span_part k a e b g p q) ∙ part_length current b (good_length current b g) k

-- a list stored in a table's part of a good block, and the header written anew
module _ (b : List ℕ) (bs : Bytes b) (g : good current b ≡ true) (k : Kind) (a e : ℕ) (ea : a ≡ offset current k) (ee : e ≡ offset current k + 24 * capacity current k)
    (xs : List Region) (x : List ℕ) (px : x ≡ table_bytes (length (take (e - a) (drop a b)) / 24) xs) where
  put_back : take a b ++ (x ++ drop (e - a) (drop a b)) ≡ take (offset current k) b ++ (table_bytes (capacity current k) xs ++ drop (offset current k + 24 * capacity current k) b)
  put_back =
      let n : length (take (e - a) (drop a b)) / 24 ≡ capacity current k = omega (arith, span_room k a e b g ea ee) in
      let z : e - a ≡ 24 * capacity current k = omega arith in
      rw (px, n, z, drop-drop, ea)

  pub block_stored : (n : ℕ) → n ≡ length xs → n ≤ capacity current k → (own : Header) → own ≡ read_header b → (t : Size) → t.0 ≡ total (at xs) top
      → (l : Layout) → l ≡ current → (h : Header) → h ≡ with_tally own k (record { count = n; total = t }) → (z : List ℕ)
      → z ≡ sets (take a b ++ (x ++ drop (e - a) (drop a b))) 0 (header_bytes l h) → z ≡ block_bytes current (with_list (contents current b) k xs)
  block_stored n en ln own eo t et l el h eh z ez =
      let f : record { count = n; total = t } ≡ tally xs = λ i. record { count = en i; total = record { 0 = et i } } in
      let r : length xs ≤ capacity current k = omega arith in
      list_stored current small_current b bs g k xs r own eo (record { count = n; total = t }) f _ z put_back (ez ∙ rw (el, eh))

-- ---- the end of a range

pub cut_past : (a : Address) (s : Size) (x : Option Address) → x ≡ address (a.0 + s.0) → x ≡ None → 18446744073709551615 ≡ cut a.0 s.0
cut_past a s x q e = omega (arith, address_outside (a.0 + s.0) x q e, top_is)

pub cut_at : (a : Address) (s : Size) (x : Option Address) (e : Address) → x ≡ address (a.0 + s.0) → x ≡ Some e → e.0 ≡ cut a.0 s.0
cut_at a s x e q f =
    let m = address_at (a.0 + s.0) x e q f in
    omega (arith, top_is)
