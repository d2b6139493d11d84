-- A good block by its parts: the checks that the code makes are exactly the definition. Assumes nothing.
use Prim.Native.Nat.{ℕ, ◌+◌, ◌*◌, ◌-◌, ◌/◌, ◌≤◌, ◌<◌}
use mathlib.Core.Path.{◌≡◌, refl, sym, ap, ◌∙◌}
use mathlib.Core.Bool.{Bool, true, false, not, cond, ◌&&◌}
use mathlib.Core.List.{List, ◌++◌, append_assoc}
use native.Mathlib.Omega.{arith}
use lib.Dec.{leb}
use lib.ListN.{length, take, drop, replicate, length-append, length-drop, length-replicate, replicate-append-replicate, take-append-drop}
use lib.Seq.{take_at, drop_at, length-take-le, take_all, drop-drop}
use borrow.Author.Tests.{leb-true, le-leb, not-true, not-false}
use Rattle.address.proofs.Tests.{both, and, no, clash, iff, zero_not_one}
use Rattle.address.specs.declared.Size.{Size}
use Rattle.regions.specs.declared.Kind.{Kind}
use Rattle.regions.specs.declared.Kind.TheVariants.{Memory, Taken}
use Rattle.regions.specs.declared.Region.{Region}
use Rattle.regions.specs.Meaning.{at, total, top}
use Rattle.regions.specs.Lists.{good_list}
use Rattle.regions.specs.Bytes.{read_regions, regions_bytes, table_bytes}
use Rattle.regions.proofs.Numbers.{Bytes, bytes_drop, bytes_take}
use Rattle.regions.proofs.Records.{regions_bytes_read, regions_bytes_length, read_regions_length}
use Rattle.block.specs.declared.Layout.{Layout}
use Rattle.block.specs.declared.Header.{Header}
use Rattle.block.specs.Block.{current, capacity, offset, block_length, Contents, list_of, header_bytes, header_of, block_bytes, read_header, part, contents, same_bytes, good_table, good_contents, good}
use Rattle.records.specs.Checks.{all_zeros, good_part, checked_table}
use Rattle.block.specs.Checks.{with_totals, tally_of}
use Rattle.std.specs.Prelude.{Option, Some, None}
use Rattle.records.proofs.Zeros.{zeros_replicate, replicate_zeros}
use Rattle.block.proofs.Same.{same_self, same_true}
use Rattle.block.proofs.Headers.{header_length}

-- ---- tables

pub table_length : (n : ℕ) (xs : List Region) → length xs ≤ n → length (table_bytes n xs) ≡ 24 * n
unfolding table_bytes
table_length n xs h =
    length-append (regions_bytes xs) (replicate (24 * (n - length xs)) 0)
    ∙ omega (arith, regions_bytes_length xs, length-replicate {A = ℕ} (24 * (n - length xs)) 0)

-- a longer table is the shorter one and zeros
pub table_longer : (c d : ℕ) (xs : List Region) → length xs ≤ c → table_bytes (c + d) xs ≡ table_bytes c xs ++ replicate (24 * d) 0
unfolding table_bytes
table_longer c d xs l =
    let e : 24 * (c + d - length xs) ≡ 24 * (c - length xs) + 24 * d = omega arith in
    rw (e, append_assoc, replicate-append-replicate)

-- what lies behind the records is zeros
pub table_tail : (n : ℕ) (xs : List Region) → all_zeros (drop (24 * length xs) (table_bytes n xs)) ≡ true
unfolding table_bytes
table_tail n xs =
    rw (drop_at (regions_bytes xs) (replicate (24 * (n - length xs)) 0) (24 * length xs) (regions_bytes_length xs)) (replicate_zeros (24 * (n - length xs)))

-- a part with zeros behind its records is the spelling of them
part_spelled : (c n : ℕ) (l : List ℕ) → Bytes l → length l ≡ 24 * c → n ≤ c → all_zeros (drop (24 * n) l) ≡ true → table_bytes c (read_regions n l) ≡ l
unfolding table_bytes
part_spelled c n l h e f z =
    let g : 24 * n ≤ length l = omega arith in
    let m : length (drop (24 * n) l) ≡ 24 * (c - n) = simp length-drop (omega arith) in
    let y : drop (24 * n) l ≡ replicate (24 * (c - n)) 0 = zeros_replicate (drop (24 * n) l) z ∙ ap (λ (k : ℕ). replicate k 0) m in
    rw (regions_bytes_read n l h g, read_regions_length, ← y) (take-append-drop (24 * n) l)

-- ---- the parts of a block of the right length

module _ (L : Layout) (b : List ℕ) (len : length b ≡ block_length L) where
  pub part_length : (k : Kind) → length (part L k b) ≡ 24 * capacity L k
  unfolding capacity offset
  part_length Memory = length-take-le (24 * L.memory) (drop 80 b) (rw length-drop (omega arith))
  part_length Taken = length-take-le (24 * L.taken) (drop (80 + 24 * L.memory) b) (rw length-drop (omega arith))

  parts_join : take 80 b ++ (part L Memory b ++ part L Taken b) ≡ b
  unfolding capacity offset
  parts_join =
      let t : part L Taken b ≡ drop (80 + 24 * L.memory) b = take_all (24 * L.taken) (drop (80 + 24 * L.memory) b) (rw length-drop (omega arith)) in
      let u : part L Memory b ++ drop (80 + 24 * L.memory) b ≡ drop 80 b =
      ap (λ (x : List ℕ). part L Memory b ++ x) (sym (drop-drop (24 * L.memory) 80 b)) ∙ take-append-drop (24 * L.memory) (drop 80 b) in
      rw (t, u) (take-append-drop 80 b)

-- ---- the parts of a spelled block

module _ (L : Layout) (s : Contents) where
  head_is : take 80 (block_bytes L s) ≡ header_bytes L (header_of s)
  unfolding block_bytes
  head_is = take_at (header_bytes L (header_of s)) _ 80 (header_length L (header_of s))

  -- what follows the memory table is the taken table
  pub behind_memory : length s.memory ≤ L.memory → drop (offset L Taken) (block_bytes L s) ≡ table_bytes L.taken s.taken
  unfolding block_bytes capacity offset
  behind_memory l =
      let h : List ℕ = header_bytes L (header_of s) in
      let m : List ℕ = table_bytes L.memory s.memory in
      let t : List ℕ = table_bytes L.taken s.taken in
      sym (drop-drop (24 * L.memory) 80 (h ++ (m ++ t))) ∙ rw (drop_at h (m ++ t) 80 (header_length L (header_of s)))
      (drop_at m t (24 * L.memory) (table_length L.memory s.memory l))

  module _ (g : good_contents L s ≡ true) where
    pub direction_ok : s.settings.direction ≤ 1
    unfolding good_contents
    direction_ok = leb-true s.settings.direction 1 (both (leb s.settings.direction 1) _ g).0

    pub tables_ok : (k : Kind) → good_table L k (list_of s k) ≡ true
    unfolding good_contents
    tables_ok Memory = (both (good_table L Memory s.memory) _ (both (leb s.settings.direction 1) _ g).1).0
    tables_ok Taken = (both (good_table L Memory s.memory) _ (both (leb s.settings.direction 1) _ g).1).1

    pub room : (k : Kind) → length (list_of s k) ≤ capacity L k
    unfolding good_table
    room k = leb-true (length (list_of s k)) (capacity L k) (both (leb (length (list_of s k)) (capacity L k)) (good_list k (list_of s k)) (tables_ok k)).0

    pub lists_ok : (k : Kind) → good_list k (list_of s k) ≡ true
    unfolding good_table
    lists_ok k = (both (leb (length (list_of s k)) (capacity L k)) (good_list k (list_of s k)) (tables_ok k)).1

    block_length_lem : length (block_bytes L s) ≡ block_length L
    unfolding block_bytes capacity
    block_length_lem =
        length-append (header_bytes L (header_of s)) _
        ∙ omega (
          arith,
          header_length L (header_of s),
          length-append (table_bytes L.memory s.memory) (table_bytes L.taken s.taken),
          table_length L.memory s.memory (room Memory),
          table_length L.taken s.taken (room Taken),
        )

    pub part_is : (k : Kind) → part L k (block_bytes L s) ≡ table_bytes (capacity L k) (list_of s k)
    unfolding block_bytes capacity offset
    part_is Memory =
        rw (drop_at (header_bytes L (header_of s)) (table_bytes L.memory s.memory ++ table_bytes L.taken s.taken) 80 (header_length L (header_of s)))
        (take_at (table_bytes L.memory s.memory) (table_bytes L.taken s.taken) (24 * L.memory) (table_length L.memory s.memory (room Memory)))
    part_is Taken = rw (behind_memory (room Memory)) (take_all (24 * L.taken) _ (omega (arith, table_length L.taken s.taken (room Taken))))

-- ---- the checks

unfoldable pub checks : Layout → List ℕ → Bool
checks L b =
    leb (read_header b).settings.direction 1
    && (good_part Memory (read_header b).memory.count (part L Memory b)
    && (good_part Taken (read_header b).taken.count (part L Taken b) && same_bytes (take 80 b) (header_bytes L (header_of (contents L b)))))

module _ (L : Layout) (b : List ℕ) where
  module _ (g : good L b ≡ true) where
    pub good_contents_lem : good_contents L (contents L b) ≡ true
    unfolding good
    good_contents_lem = (both (good_contents L (contents L b)) _ g).0

    pub good_spelled : block_bytes L (contents L b) ≡ b
    unfolding good
    good_spelled = sym (same_true b (block_bytes L (contents L b)) (both (good_contents L (contents L b)) _ g).1)

    pub good_length : length b ≡ block_length L
    good_length = rw (← good_spelled) (block_length_lem L (contents L b) good_contents_lem)

    -- the records that its header counts have room in their parts
    pub counted_room : (k : Kind) → 24 * (tally_of (read_header b) k).count ≤ length (part L k b)
    unfolding contents
    counted_room Memory =
        omega (arith, part_length L b good_length Memory, room L (contents L b) good_contents_lem Memory, read_regions_length (read_header b).memory.count (part L Memory b))
    counted_room Taken =
        omega (arith, part_length L b good_length Taken, room L (contents L b) good_contents_lem Taken, read_regions_length (read_header b).taken.count (part L Taken b))

    -- a good table's part passes its check
    pub part_zeros : (k : Kind) (n : ℕ) → list_of (contents L b) k ≡ read_regions n (part L k b) → all_zeros (drop (24 * n) (part L k b)) ≡ true
    part_zeros k n e =
        let s = contents L b in
        let m : length (list_of s k) ≡ n = ap (length {A = Region}) e ∙ read_regions_length n (part L k b) in
        let x : part L k b ≡ table_bytes (capacity L k) (list_of s k) = ap (part L k) (sym good_spelled) ∙ part_is L s good_contents_lem k in
        rw (← m, x) (table_tail (capacity L k) (list_of s k))

    part_good : (k : Kind) (n : ℕ) → list_of (contents L b) k ≡ read_regions n (part L k b) → good_part k n (part L k b) ≡ true
    unfolding good_part
    part_good k n e =
        let s = contents L b in
        let c : ℕ = capacity L k in
        let l : List ℕ = part L k b in
        let m : length (list_of s k) ≡ n = ap (length {A = Region}) e ∙ read_regions_length n l in
        let r : n ≤ c = omega (arith, room L s good_contents_lem k) in
        let x : l ≡ table_bytes c (list_of s k) = ap (part L k) (sym good_spelled) ∙ part_is L s good_contents_lem k in
        let z : all_zeros (drop (24 * n) l) ≡ true = rw (← m, x) (table_tail c (list_of s k)) in
        let d : n ≤ length l / 24 = omega (arith, part_length L b good_length k) in
        let g : good_list k (read_regions n l) ≡ true = rw (← e) (lists_ok L s good_contents_lem k) in
        and (le-leb n (length l / 24) d) (and g z)

    checks_pass : checks L b ≡ true
    unfolding checks contents
    checks_pass =
        let d = direction_ok L (contents L b) good_contents_lem in
        let h : take 80 b ≡ header_bytes L (header_of (contents L b)) = ap (take 80) (sym good_spelled) ∙ head_is L (contents L b) in
        let s : same_bytes (take 80 b) (header_bytes L (header_of (contents L b))) ≡ true = rw h (same_self (header_bytes L (header_of (contents L b)))) in
        and (le-leb (read_header b).settings.direction 1 d) (and (part_good Memory (read_header b).memory.count refl) (and (part_good Taken (read_header b).taken.count refl) s))

  module _ (bs : Bytes b) (len : length b ≡ block_length L) where
    part_table : (k : Kind) (n : ℕ) → list_of (contents L b) k ≡ read_regions n (part L k b) → good_part k n (part L k b) ≡ true
        → (good_table L k (list_of (contents L b) k) ≡ true) × (table_bytes (capacity L k) (list_of (contents L b) k) ≡ part L k b)
    unfolding good_part good_table
    part_table k n e g =
        let c : ℕ = capacity L k in
        let l : List ℕ = part L k b in
        let p = both (leb n (length l / 24)) (good_list k (read_regions n l) && all_zeros (drop (24 * n) l)) g in
        let q = both (good_list k (read_regions n l)) (all_zeros (drop (24 * n) l)) p.1 in
        let m : length (list_of (contents L b) k) ≡ n = ap (length {A = Region}) e ∙ read_regions_length n l in
        let r : n ≤ c = omega (arith, leb-true n (length l / 24) p.0, part_length L b len k) in
        let h : Bytes l = bytes_take (24 * c) (drop (offset L k) b) (bytes_drop (offset L k) b bs) in
        (and (le-leb (length (list_of (contents L b) k)) c (omega arith)) (rw e q.0), rw e (part_spelled c n l h (part_length L b len k) r q.1))

    joined : take 80 b ≡ header_bytes L (header_of (contents L b)) → table_bytes (capacity L Memory) (contents L b).memory ≡ part L Memory b
        → table_bytes (capacity L Taken) (contents L b).taken ≡ part L Taken b → block_bytes L (contents L b) ≡ b
    unfolding block_bytes
    joined h x y = rw (← h, x, y) (parts_join L b len)

    checks_enough : checks L b ≡ true → good L b ≡ true
    unfolding checks good good_contents contents
    checks_enough g =
        let m : Bool = good_part Memory (read_header b).memory.count (part L Memory b) in
        let t : Bool = good_part Taken (read_header b).taken.count (part L Taken b) in
        let s : Bool = same_bytes (take 80 b) (header_bytes L (header_of (contents L b))) in
        let p = both (leb (read_header b).settings.direction 1) (m && (t && s)) g in
        let q = both m (t && s) p.1 in
        let r = both t s q.1 in
        let x = part_table Memory (read_header b).memory.count refl q.0 in
        let y = part_table Taken (read_header b).taken.count refl r.0 in
        let h = same_true (take 80 b) (header_bytes L (header_of (contents L b))) r.1 in
        let e : block_bytes L (contents L b) ≡ b = joined h x.1 y.1 in
        let z : same_bytes b (block_bytes L (contents L b)) ≡ true = rw e (same_self b) in
        and (and p.0 (and x.0 y.0)) z

    good_checks : good L b ≡ checks L b
    good_checks = iff (good L b) (checks L b) (λ g. checks_pass g) checks_enough

-- ---- the answers of the check, one by one

-- what a checked part tells
part_bad : (k : Kind) (n : ℕ) (l : List ℕ) (x : Option Size) → x ≡ checked_table k n l → x ≡ None → good_part k n l ≡ false
unfolding checked_table
part_bad k n l x e f = go (good_part k n l) e
  where
    go : (b : Bool) → x ≡ cond b (Some (record { 0 = total (at (read_regions n l)) top })) None → b ≡ false
    go true g = absurd (zero_not_one cc)
    go false g = refl

part_total : (k : Kind) (n : ℕ) (l : List ℕ) (x : Option Size) (s : Size) → x ≡ checked_table k n l → x ≡ Some s
    → (good_part k n l ≡ true) × (s ≡ record { 0 = total (at (read_regions n l)) top })
unfolding checked_table
part_total k n l x s e f = go (good_part k n l) e
  where
    go : (b : Bool) → x ≡ cond b (Some (record { 0 = total (at (read_regions n l)) top })) None → (b ≡ true) × (s ≡ record { 0 = total (at (read_regions n l)) top })
    go true g = (refl, cc)
    go false g = absurd (zero_not_one cc)

module _ (L : Layout) (b : List ℕ) where
  pub bad_length : (n : ℕ) → (length b ≡ n → ⊥) → n ≡ block_length L → false ≡ good L b
  bad_length n d e = sym (no (good L b) (λ g. d (good_length L b g ∙ sym e)))

  module _ (h : Header) (r : h ≡ read_header b) where
    pub bad_direction : 1 < h.settings.direction → false ≡ good L b
    unfolding contents
    bad_direction l = sym (no (good L b) (λ g. let d = direction_ok L (contents L b) (good_contents_lem L b g) in omega (arith, ap (λ (y : Header). y.settings.direction) r)))

    pub bad_memory : (x : Option Size) → x ≡ checked_table Memory h.memory.count (take (80 + 24 * L.memory - 80) (drop 80 b)) → x ≡ None → false ≡ good L b
    unfolding contents capacity offset
    bad_memory x f z =
        let e : 80 + 24 * L.memory - 80 ≡ 24 * L.memory = omega arith in
        sym (no (good L b)
        (λ g. clash (good_part Memory (read_header b).memory.count (part L Memory b)) (part_good L b g Memory (read_header b).memory.count refl)
        (part_bad Memory (read_header b).memory.count (part L Memory b) x (rw (e, r) at f) z)))

    pub bad_taken : (x : Option Size)
        → x ≡ checked_table Taken h.taken.count (take (80 + 24 * L.memory + 24 * L.taken - (80 + 24 * L.memory)) (drop (80 + 24 * L.memory) b)) → x ≡ None
        → false ≡ good L b
    unfolding contents capacity offset
    bad_taken x f z =
        let e : 80 + 24 * L.memory + 24 * L.taken - (80 + 24 * L.memory) ≡ 24 * L.taken = omega arith in
        sym (no (good L b)
        (λ g. clash (good_part Taken (read_header b).taken.count (part L Taken b)) (part_good L b g Taken (read_header b).taken.count refl)
        (part_bad Taken (read_header b).taken.count (part L Taken b) x (rw (e, r) at f) z)))

    pub good_rest : Bytes b → (n : ℕ) → length b ≡ n → n ≡ block_length L → h.settings.direction ≤ 1
        → (x : Option Size) (mt : Size) → x ≡ checked_table Memory h.memory.count (take (80 + 24 * L.memory - 80) (drop 80 b)) → x ≡ Some mt
        → (y : Option Size) (kt : Size) → y ≡ checked_table Taken h.taken.count (take (80 + 24 * L.memory + 24 * L.taken - (80 + 24 * L.memory)) (drop (80 + 24 * L.memory) b)) → y ≡ Some kt
        → (t : Bool) → t ≡ same_bytes (take 80 b) (header_bytes L (with_totals (read_header b) mt kt)) → t ≡ good L b
    unfolding checks contents capacity offset
    good_rest bs n l e d x mt ex tx y kt ey ty t et =
        let em : 80 + 24 * L.memory - 80 ≡ 24 * L.memory = omega arith in
        let ek : 80 + 24 * L.memory + 24 * L.taken - (80 + 24 * L.memory) ≡ 24 * L.taken = omega arith in
        let p = part_total Memory (read_header b).memory.count (part L Memory b) x mt (rw (em, r) at ex) tx in
        let q = part_total Taken (read_header b).taken.count (part L Taken b) y kt (rw (ek, r) at ey) ty in
        let c : (read_header b).settings.direction ≤ 1 = omega (arith, ap (λ (z : Header). z.settings.direction) r) in
        let w : with_totals (read_header b) mt kt ≡ header_of (contents L b) = rw (p.1, q.1) (simp read_regions_length) in
        et ∙ ap (λ (z : Header). same_bytes (take 80 b) (header_bytes L z)) w
        ∙ sym (good_checks L b bs (l ∙ e) ∙ rw (le-leb (read_header b).settings.direction 1 c, p.0, q.0))

-- ---- what the test of a block says of the layout that the commands work on

module _ (L : Layout) (is : L ≡ current) (b : List ℕ) (g : Bool) (q : g ≡ good L b) where
  pub bad_here : not g ≡ true → good current b ≡ false
  bad_here t = rw (← is) (sym q ∙ not-true g t)

  pub good_here : not g ≡ false → good current b ≡ true
  good_here t = rw (← is) (sym q ∙ not-false g t)
