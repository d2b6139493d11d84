-- Reading what was spelled: the header's fields, and the whole block. Assumes nothing.
use Prim.Native.Nat.{ℕ, ◌+◌, ◌*◌, ◌-◌, ◌^◌, ◌<◌}
use mathlib.Core.Path.{◌≡◌, sym, ap, ◌∙◌}
use mathlib.Core.Bool.{true}
use mathlib.Core.List.{List, ◌++◌, append_assoc}
use native.Mathlib.Omega.{arith}
use lib.ListN.{length, drop, replicate}
use lib.Seq.{drop_at, drop-drop}
use Rattle.address.proofs.Tests.{and}
use Rattle.regions.specs.declared.Kind.{Kind}
use Rattle.regions.specs.declared.Kind.TheVariants.{Memory, Taken}
use Rattle.regions.specs.Meaning.{Meaning, at, total, top, top_is}
use Rattle.regions.specs.Bytes.{number, bytes, read_regions, table_bytes}
use Rattle.regions.proofs.Numbers.{Bytes, bytes_length, bytes_drop, number_bytes, number_lt}
use Rattle.regions.proofs.Records.{read_regions_bytes}
use Rattle.regions.proofs.Count.{total_le}
use Rattle.regions.proofs.RoundTrip.{unique}
use Rattle.regions.proofs.Good.{good_rises, good_fits}
use Rattle.block.specs.declared.Layout.{Layout}
use Rattle.block.specs.declared.Settings.{Settings}
use Rattle.block.specs.declared.Header.{Header}
use Rattle.block.specs.Block.{capacity, offset, entry_bytes, entries_bytes, settings_bytes, totals_bytes, header_bytes, header_of, Contents, list_of, block_bytes, read_header, part, contents, good_contents, good}
use Rattle.block.specs.Checks.{Small}
use Rattle.block.proofs.Same.{same_self}
use Rattle.block.proofs.Blocks.{room, direction_ok, lists_ok, part_is, good_contents_lem, good_spelled}
use Rattle.block.proofs.Headers.{entry_length, entries_length, settings_length, header_length}

-- past the first part of a list
past : (x l : List ℕ) (m n : ℕ) → length x ≡ m → drop (m + n) (x ++ l) ≡ drop n l
past x l m n e = sym (drop-drop n m (x ++ l)) ∙ ap (drop n) (drop_at x l m e)

-- past a number
field : (k v n : ℕ) (l : List ℕ) → drop (k + n) (bytes k v ++ l) ≡ drop n l
field k v n l = past (bytes k v) l k n (bytes_length k v)

-- a limit and an image end of 64 bits
pub record SettingsFit (s : Settings) : Type 0 where
  pub limit : s.limit.0 < 2 ^ 64
  pub image : s.image.0 < 2 ^ 64

-- each field of the header fits its place
pub record HeaderFits (h : Header) : Type 0 where
  pub memory : h.memory.count < 2 ^ 32
  pub taken : h.taken.count < 2 ^ 32
  pub settings : SettingsFit h.settings
  pub direction : h.settings.direction < 2 ^ 32
  pub memory_total : h.memory.total.0 < 2 ^ 64
  taken_total : h.taken.total.0 < 2 ^ 64

-- the count in an entry
entry_count : (k o n c : ℕ) (l : List ℕ) → n < 2 ^ 32 → number 4 (drop 8 (entry_bytes k o n c ++ l)) ≡ n
unfolding entry_bytes
entry_count k o n c l h =
    let x : List ℕ = bytes 4 n ++ (bytes 4 c ++ l) in
    let e : (bytes 4 k ++ (bytes 4 o ++ (bytes 4 n ++ bytes 4 c))) ++ l ≡ bytes 4 k ++ (bytes 4 o ++ x) = simp append_assoc in
    rw (e, field 4 k 4 (bytes 4 o ++ x), field 4 o 0 x) (number_bytes 4 n (bytes 4 c ++ l) h)

module _ (L : Layout) (m t : ℕ) (l : List ℕ) where
  -- the entries of both tables, and what follows
  both_entries : List ℕ
  both_entries = entry_bytes 1 (offset L Memory) m (capacity L Memory) ++ (entry_bytes 2 (offset L Taken) t (capacity L Taken) ++ l)

  entries_split : entries_bytes L m t ++ l ≡ bytes 4 L.edition ++ (bytes 4 2 ++ both_entries)
  unfolding entries_bytes both_entries
  entries_split = simp append_assoc

  entries_memory : m < 2 ^ 32 → number 4 (drop 16 (entries_bytes L m t ++ l)) ≡ m
  unfolding both_entries
  entries_memory h =
      rw (entries_split, field 4 L.edition 12 (bytes 4 2 ++ both_entries), field 4 2 8 both_entries)
      (entry_count 1 (offset L Memory) m (capacity L Memory) (entry_bytes 2 (offset L Taken) t (capacity L Taken) ++ l) h)

  entries_taken : t < 2 ^ 32 → number 4 (drop 32 (entries_bytes L m t ++ l)) ≡ t
  unfolding both_entries
  entries_taken h =
      let x : List ℕ = entry_bytes 1 (offset L Memory) m (capacity L Memory) in
      let y : List ℕ = entry_bytes 2 (offset L Taken) t (capacity L Taken) ++ l in
      rw (entries_split, field 4 L.edition 28 (bytes 4 2 ++ both_entries), field 4 2 24 both_entries, past x y 16 8 (entry_length 1 (offset L Memory) m (capacity L Memory)))
      (entry_count 2 (offset L Taken) t (capacity L Taken) l h)

module _ (s : Settings) (l : List ℕ) where
  settings_limit : s.limit.0 < 2 ^ 64 → number 8 (settings_bytes s ++ l) ≡ s.limit.0
  unfolding settings_bytes
  settings_limit h = rw append_assoc (number_bytes 8 s.limit.0 ((bytes 4 s.direction ++ bytes 4 0) ++ l) h)

  settings_direction : s.direction < 2 ^ 32 → number 4 (drop 8 (settings_bytes s ++ l)) ≡ s.direction
  unfolding settings_bytes
  settings_direction h =
      let d : List ℕ = bytes 4 s.direction in
      let e : (bytes 8 s.limit.0 ++ (d ++ bytes 4 0)) ++ l ≡ bytes 8 s.limit.0 ++ (d ++ (bytes 4 0 ++ l)) = simp append_assoc in
      rw (e, field 8 s.limit.0 0 (d ++ (bytes 4 0 ++ l))) (number_bytes 4 s.direction (bytes 4 0 ++ l) h)

module _ (x d v : ℕ) (l : List ℕ) where
  totals_memory : x < 2 ^ 64 → number 8 (totals_bytes x d v ++ l) ≡ x
  unfolding totals_bytes
  totals_memory h = rw append_assoc (number_bytes 8 x ((bytes 8 d ++ bytes 8 v) ++ l) h)

  totals_split : totals_bytes x d v ++ l ≡ bytes 8 x ++ (bytes 8 d ++ (bytes 8 v ++ l))
  unfolding totals_bytes
  totals_split = simp append_assoc

  totals_taken : d < 2 ^ 64 → number 8 (drop 8 (totals_bytes x d v ++ l)) ≡ d
  totals_taken h = rw (totals_split, field 8 x 0 (bytes 8 d ++ (bytes 8 v ++ l))) (number_bytes 8 d (bytes 8 v ++ l) h)

  totals_image : v < 2 ^ 64 → number 8 (drop 16 (totals_bytes x d v ++ l)) ≡ v
  totals_image h = rw (totals_split, field 8 x 8 (bytes 8 d ++ (bytes 8 v ++ l)), field 8 d 0 (bytes 8 v ++ l)) (number_bytes 8 v l h)

-- the header's fields are read as they were written
header_read : (L : Layout) (h : Header) (l : List ℕ) → HeaderFits h → read_header (header_bytes L h ++ l) ≡ h
unfolding header_bytes
header_read L h l f =
    let a : List ℕ = entries_bytes L h.memory.count h.taken.count in
    let s : List ℕ = settings_bytes h.settings in
    let t : List ℕ = totals_bytes h.memory.total.0 h.taken.total.0 h.settings.image.0 in
    let e : (a ++ (s ++ t)) ++ l ≡ a ++ (s ++ (t ++ l)) = simp append_assoc in
    let n : length a ≡ 40 = entries_length L h.memory.count h.taken.count in
    let m : length s ≡ 16 = settings_length h.settings in
    let d40 : drop 40 (a ++ (s ++ (t ++ l))) ≡ s ++ (t ++ l) = past a (s ++ (t ++ l)) 40 0 n in
    let d48 : drop 48 (a ++ (s ++ (t ++ l))) ≡ drop 8 (s ++ (t ++ l)) = past a (s ++ (t ++ l)) 40 8 n in
    let d56 : drop 56 (a ++ (s ++ (t ++ l))) ≡ t ++ l = past a (s ++ (t ++ l)) 40 16 n ∙ past s (t ++ l) 16 0 m in
    let d64 : drop 64 (a ++ (s ++ (t ++ l))) ≡ drop 8 (t ++ l) = past a (s ++ (t ++ l)) 40 24 n ∙ past s (t ++ l) 16 8 m in
    let d72 : drop 72 (a ++ (s ++ (t ++ l))) ≡ drop 16 (t ++ l) = past a (s ++ (t ++ l)) 40 32 n ∙ past s (t ++ l) 16 16 m in
    let p1 = entries_memory L h.memory.count h.taken.count (s ++ (t ++ l)) f.memory in
    let p2 = entries_taken L h.memory.count h.taken.count (s ++ (t ++ l)) f.taken in
    let p3 = settings_limit h.settings (t ++ l) f.settings.limit in
    let p4 = settings_direction h.settings (t ++ l) f.direction in
    let p5 = totals_memory h.memory.total.0 h.taken.total.0 h.settings.image.0 l f.memory_total in
    let p6 = totals_taken h.memory.total.0 h.taken.total.0 h.settings.image.0 l f.taken_total in
    let p7 = totals_image h.memory.total.0 h.taken.total.0 h.settings.image.0 l f.settings.image in
    rw (e, d40, d48, d56, d64, d72, p1, p2, p3, p4, p5, p6, p7)

-- ---- the whole block

-- contents that can be spelled and read again: good, with settings that fit
pub record Spellable (L : Layout) (s : Contents) : Type 0 where
  pub good : good_contents L s ≡ true
  pub settings : SettingsFit s.settings

module _ (L : Layout) (small : Small L) (s : Contents) (sp : Spellable L s) where
  total_fits : (f : Meaning) → total f top < 2 ^ 64
  total_fits f = omega (arith, total_le f top, top_is)

  header_fits : HeaderFits (header_of s)
  unfolding capacity
  header_fits =
      record {
        memory = omega (arith, room L s sp.good Memory, small.memory);
        taken = omega (arith, room L s sp.good Taken, small.taken);
        settings = sp.settings;
        direction = omega (arith, direction_ok L s sp.good);
        memory_total = total_fits (at s.memory);
        taken_total = total_fits (at s.taken);
      }

  spelled_header : read_header (block_bytes L s) ≡ header_of s
  unfolding block_bytes
  spelled_header = header_read L (header_of s) _ header_fits

  list_read : (k : Kind) → read_regions (length (list_of s k)) (part L k (block_bytes L s)) ≡ list_of s k
  unfolding table_bytes
  list_read k =
      let xs = list_of s k in
      rw (part_is L s sp.good k) (read_regions_bytes xs (replicate (24 * (capacity L k - length xs)) 0) (good_fits k xs (lists_ok L s sp.good k)))

  -- what was spelled is read
  pub contents_spelled : contents L (block_bytes L s) ≡ s
  unfolding contents
  contents_spelled =
      let e = spelled_header in
      let m = ap (λ (h : Header). read_regions h.memory.count (part L Memory (block_bytes L s))) e ∙ list_read Memory in
      let t = ap (λ (h : Header). read_regions h.taken.count (part L Taken (block_bytes L s))) e ∙ list_read Taken in
      λ i. record { memory = m i; taken = t i; settings = (e i).settings }

  -- and is a good block
  pub good_spelled_block : good L (block_bytes L s) ≡ true
  unfolding good
  good_spelled_block = rw contents_spelled (and sp.good (same_self (block_bytes L s)))

-- ---- a good block is the one that says what it says

-- two good blocks that say the same of each address, with the same settings, are equal in every byte
pub same_block : (L : Layout) (b d : List ℕ) → good L b ≡ true → good L d ≡ true
    → ((a : ℕ) → a < top → at (contents L b).memory a ≡ at (contents L d).memory a)
    → ((a : ℕ) → a < top → at (contents L b).taken a ≡ at (contents L d).taken a)
    → (contents L b).settings ≡ (contents L d).settings → b ≡ d
same_block L b d g h m t l =
    let list : (k : Kind) → ((a : ℕ) → a < top → at (list_of (contents L b) k) a ≡ at (list_of (contents L d) k) a) → list_of (contents L b) k ≡ list_of (contents L d) k =
    λ k e. unique top (list_of (contents L b) k) (list_of (contents L d) k) (good_rises k _ (lists_ok L (contents L b) (good_contents_lem L b g) k))
    (good_rises k _ (lists_ok L (contents L d) (good_contents_lem L d h) k)) e in
    let x = list Memory m in
    let y = list Taken t in
    let e : contents L b ≡ contents L d = λ i. record { memory = x i; taken = y i; settings = l i } in
    sym (good_spelled L b g) ∙ ap (block_bytes L) e ∙ good_spelled L d h

-- ---- the parts of a good block

module _ (L : Layout) (small : Small L) (b : List ℕ) (bs : Bytes b) (g : good L b ≡ true) where
  pub good_spellable : Spellable L (contents L b)
  unfolding contents
  good_spellable =
      record {
        good = good_contents_lem L b g;
        settings = record { limit = number_lt 8 (drop 40 b) (bytes_drop 40 b bs); image = number_lt 8 (drop 72 b) (bytes_drop 72 b bs) };
      }

  -- its header is that of what it says
  pub good_header : read_header b ≡ header_of (contents L b)
  good_header = ap read_header (sym (good_spelled L b g)) ∙ spelled_header L small (contents L b) good_spellable

-- what follows its header are its tables
pub good_tables : (L : Layout) (b : List ℕ) → good L b ≡ true
    → drop 80 b ≡ table_bytes (capacity L Memory) (contents L b).memory ++ table_bytes (capacity L Taken) (contents L b).taken
unfolding block_bytes
good_tables L b g =
    ap (drop 80) (sym (good_spelled L b g)) ∙ drop_at (header_bytes L (header_of (contents L b))) _ 80 (header_length L (header_of (contents L b)))
