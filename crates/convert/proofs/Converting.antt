-- Which edition 1 blocks are good by document 01; such a block, converted, is a good block that says the same. Assumes nothing.
use Prim.Native.Nat.{ℕ, ◌+◌, ◌*◌, ◌-◌, ◌≤◌, ◌<◌}
use mathlib.Core.Path.{◌≡◌, sym, ap, ◌∙◌}
use mathlib.Core.Bool.{Bool, true, false, not, ◌&&◌, and-true, and-false}
use mathlib.Core.List.{List, ◌++◌, append_assoc}
use native.Mathlib.Omega.{arith}
use lib.Dec.{eqb}
use lib.ListN.{length, take, drop, replicate, length-append, length-drop, replicate-append-replicate}
use lib.Seq.{sets, take_all, take_at, drop-append-le}
use borrow.Author.Tests.{eq-eqb, eqb-true, ne_eqb, le-leb, not-true, not-false}
use Rattle.address.proofs.Tests.{no, both, and}
use Rattle.regions.specs.declared.Kind.TheVariants.{Memory, Taken}
use Rattle.regions.specs.declared.Region.{Region}
use Rattle.regions.specs.Bytes.{number, read_region, read_regions, table_bytes}
use Rattle.regions.proofs.Numbers.{Bytes}
use Rattle.regions.proofs.Records.{read_regions_rest, read_regions_end}
use Rattle.block.specs.declared.Layout.{Layout}
use Rattle.block.specs.declared.Header.{Header}
use Rattle.block.specs.Block.{edition_one, current, capacity, offset, block_length, Contents, fresh_contents, header_bytes, header_of, block_bytes, read_header, contents, good_table, good_contents, good}
use Rattle.block.proofs.Layouts.{small_one, small_current}
use Rattle.block.proofs.Headers.{sets_header}
use Rattle.block.proofs.Blocks.{direction_ok, tables_ok, room, lists_ok, good_contents_lem, good_length, counted_room}
use Rattle.block.proofs.Reading.{Spellable, contents_spelled, good_spelled_block, good_spellable, good_header, good_tables}
use Rattle.block.proofs.Kept.{good_bytes}
use Rattle.range.specs.Outcomes.{outcome, done_with}
use Rattle.convert.specs.Convert.{old_flags, flags_one, good_one, convert, Converts, ConvertSentence}
use Rattle.tables.proofs.Good.{was_good}
use Rattle.tables.proofs.Printed.{fresh_spellable}

-- ---- good by document 01

good_one_is : (old : List ℕ) → good_one old ≡ true → good edition_one old ≡ true
unfolding good_one
good_one_is old e = (both (good edition_one old) _ e).0

-- it has no image
one_no_image : (old : List ℕ) → good_one old ≡ true → (contents edition_one old).settings.image.0 ≡ 0
unfolding good_one contents
one_no_image old e = eqb-true (number 8 (drop 72 old)) 0 (both (flags_one (contents edition_one old).memory) _ (both (good edition_one old) _ e).1).1

module _ (old : List ℕ) (g : good edition_one old ≡ true) where
  pub old_header : 80 ≤ length old
  old_header = omega (arith, good_length edition_one old g)

  pub old_memory : 3152 ≤ length old
  old_memory = omega (arith, good_length edition_one old g)

  pub old_whole : block_length edition_one ≤ length old
  old_whole = omega (arith, good_length edition_one old g)

-- ---- its check, in the code's form

module _ (l : List ℕ) (n : ℕ) where
  module _ (i : ℕ) (inv : flags_one (read_regions (n - i) (drop (24 * i) l)) ≡ flags_one (read_regions n l)) where
    pub flags_end : n ≤ i → true ≡ flags_one (read_regions n l)
    unfolding flags_one
    flags_end h = rw (read_regions_end i n (drop (24 * i) l) h) at inv

    module _ (r : Region) (h : i < n) (e : r ≡ read_region (drop (24 * i) l)) (b : Bool) (q : b ≡ old_flags r.tag.flags) where
      step : b && flags_one (read_regions (n - (i + 1)) (drop (24 * (i + 1)) l)) ≡ flags_one (read_regions n l)
      unfolding flags_one
      step = rw (q, e) (ap flags_one (sym (read_regions_rest i n l h)) ∙ inv)

      pub flags_other : not b ≡ true → false ≡ flags_one (read_regions n l)
      flags_other t = rw (not-true b t) at step

      pub flags_next : not b ≡ false → flags_one (read_regions (n - (i + 1)) (drop (24 * (i + 1)) l)) ≡ flags_one (read_regions n l)
      flags_next t = rw (not-false b t) at step

module _ (old : List ℕ) (l : Layout) (is : l ≡ edition_one) (g : Bool) (q : g ≡ good l old) where
  pub not_edition_one : not g ≡ true → false ≡ good_one old
  unfolding good_one
  not_edition_one t =
      let k : good edition_one old ≡ false = rw (← is) (sym q ∙ not-true g t) in
      rw k

  module _ (t : not g ≡ false) where
    pub edition_one_lem : good edition_one old ≡ true
    edition_one_lem = rw (← is) (sym q ∙ not-false g t)

    module _ (h : Header) (e : h ≡ read_header old) where
      pub one_room : 24 * h.memory.count ≤ length (take (3152 - 80) (drop 80 old))
      unfolding capacity offset
      one_room = rw e (counted_room edition_one old edition_one_lem Memory)

      pub one_image : (h.settings.image.0 ≡ 0 → ⊥) → false ≡ good_one old
      unfolding good_one
      one_image n =
          let z : number 8 (drop 72 old) ≡ 0 → ⊥ = rw e at n in
          rw (ne_eqb (number 8 (drop 72 old)) 0 z, edition_one_lem) (sym (and-false (flags_one (contents edition_one old).memory)))

      pub one_judged : h.settings.image.0 ≡ 0 → (f : Bool) → f ≡ flags_one (read_regions h.memory.count (take (3152 - 80) (drop 80 old))) → f ≡ good_one old
      unfolding good_one contents capacity offset
      one_judged n f d =
          let z : number 8 (drop 72 old) ≡ 0 = rw e at n in
          let k : f ≡ flags_one (read_regions (read_header old).memory.count (take (3152 - 80) (drop 80 old))) = rw e at d in
          rw (eq-eqb (number 8 (drop 72 old)) 0 z, edition_one_lem, and-true) k

-- ---- the same in more room

-- a longer table is the shorter one and zeros
longer : (c d : ℕ) (xs : List Region) → length xs ≤ c → table_bytes (c + d) xs ≡ table_bytes c xs ++ replicate (24 * d) 0
unfolding table_bytes
longer c d xs l =
    let e : 24 * (c + d - length xs) ≡ 24 * (c - length xs) + 24 * d = omega arith in
    rw (e, append_assoc, replicate-append-replicate)

module _ (old : List ℕ) (g : good edition_one old ≡ true) where
  good_now : good_contents current (contents edition_one old) ≡ true
  unfolding good_contents good_table capacity
  good_now =
      let s = contents edition_one old in
      let p = good_contents_lem edition_one old g in
      and (le-leb s.settings.direction 1 (direction_ok edition_one s p))
      (and (tables_ok edition_one s p Memory) (and (le-leb (length s.taken) 512 (omega (arith, room edition_one s p Taken))) (lists_ok edition_one s p Taken)))

  spellable_now : Spellable current (contents edition_one old)
  spellable_now = record { good = good_now; settings = (good_spellable edition_one small_one old (good_bytes edition_one old g) g).settings }

  -- the old records, zeros behind them, and the new header
  converted : Bytes old → (b : List ℕ) → length b ≡ block_length current → (x : List ℕ) → x ≡ take (block_length edition_one) old ++ drop (block_length edition_one) b
      → (y : List ℕ) → y ≡ take (block_length edition_one) x ++ replicate (length x - block_length edition_one) 0 → (h : Header) → h ≡ read_header old
      → (l : Layout) → l ≡ current → (z : List ℕ) → z ≡ sets y 0 (header_bytes l h) → z ≡ block_bytes current (contents edition_one old)
  unfolding block_bytes capacity
  converted bs b lb x ex y ey h eh l el z ez =
      let s = contents edition_one old in
      let n : ℕ = block_length edition_one in
      let lo : length old ≡ n = good_length edition_one old g in
      let lc : length b ≡ 15440 = lb in
      let tail : List ℕ = replicate 9216 0 in
      let x1 : x ≡ old ++ drop n b = ex ∙ rw (take_all n old (omega arith)) in
      let lx : length x ≡ 15440 = rw (x1, length-append, length-drop) (omega arith) in
      let y1 : y ≡ old ++ tail = ey ∙ rw (lx, x1) (ap (λ (w : List ℕ). w ++ tail) (take_at old (drop n b) n lo)) in
      let ly : 80 ≤ length y = rw (y1, length-append) (omega arith) in
      let d : drop 80 y ≡ drop 80 old ++ tail = ap (drop 80) y1 ∙ drop-append-le 80 old tail (omega arith) in
      let t : drop 80 old ≡ table_bytes 128 s.memory ++ table_bytes 128 s.taken = good_tables edition_one old g in
      let r : length s.taken ≤ 128 = room edition_one s (good_contents_lem edition_one old g) Taken in
      let e : h ≡ header_of s = eh ∙ good_header edition_one small_one old bs g in
      ez ∙ rw (el, e) (sets_header current (header_of s) y ly)
      ∙ ap (λ (w : List ℕ). header_bytes current (header_of s) ++ w) (d ∙ rw (t, append_assoc, ← longer 128 384 s.taken r))

-- ---- the answers, in the code's form

module _ (old b : List ℕ) (g : Bool) (q : g ≡ good_one old) where
  pub not_good_one : not g ≡ true → outcome 1 b ≡ convert old b
  unfolding convert
  not_good_one t = rw (← q, not-true g t)

  module _ (t : not g ≡ false) where
    was_one : good_one old ≡ true
    was_one = sym q ∙ not-false g t

    pub is_edition_one : good edition_one old ≡ true
    is_edition_one = good_one_is old was_one

    pub convert_length : (length b ≡ block_length current → ⊥) → outcome 1 b ≡ convert old b
    unfolding convert
    convert_length n = rw (ne_eqb (length b) (block_length current) n, and-false)

    pub convert_done : Bytes old → length b ≡ block_length current → (x : List ℕ) → x ≡ take (block_length edition_one) old ++ drop (block_length edition_one) b
        → (y : List ℕ) → y ≡ take (block_length edition_one) x ++ replicate (length x - block_length edition_one) 0 → (h : Header) → h ≡ read_header old
        → (l : Layout) → l ≡ current → (z : List ℕ) → z ≡ sets y 0 (header_bytes l h) → outcome 0 z ≡ convert old b
    unfolding convert
    convert_done bs n x ex y ey h eh l el z ez =
        rw (was_one, eq-eqb (length b) (block_length current) n) (ap (outcome 0) (converted old is_edition_one bs b n x ex y ey h eh l el z ez))

-- ---- the request's words

converts : (old b : List ℕ) → Converts old b
unfolding convert
converts old b =
    record {
      refused = λ d. rw (no (good_one old && eqb (length b) (block_length current)) (λ e. let p = both (good_one old) _ e in d p.0 (eqb-true (length b) _ p.1)));
      done = given;
      is_good = λ e. let p = passed e in rw (p.0, p.1) (good_spelled_block current small_current (contents edition_one old) (spellable_now old (good_one_is old p.0)));
      says = same;
      no_image = λ e. ap (λ (s : Contents). s.settings.image.0) (same e) ∙ one_no_image old (passed e).0;
    }
  where
    given : good_one old ≡ true → length b ≡ block_length current → (convert old b).number ≡ 0
    given g n = rw (g, eq-eqb (length b) (block_length current) n)

    passed : (convert old b).number ≡ 0 → (good_one old ≡ true) × (eqb (length b) (block_length current) ≡ true)
    passed e =
        let t = good_one old && eqb (length b) (block_length current) in
        both (good_one old) (eqb (length b) (block_length current)) (was_good t b (done_with (block_bytes current (contents edition_one old))) e)

    same : (convert old b).number ≡ 0 → contents current (convert old b).block ≡ contents edition_one old
    same e = let p = passed e in rw (p.0, p.1) (contents_spelled current small_current (contents edition_one old) (spellable_now old (good_one_is old p.0)))

fresh_image : number 8 (drop 72 (block_bytes edition_one fresh_contents)) ≡ 0
unfolding contents
fresh_image = ap (λ (s : Contents). s.settings.image.0) (contents_spelled edition_one small_one fresh_contents (fresh_spellable edition_one))

fresh_one : good_one (block_bytes edition_one fresh_contents) ≡ true
unfolding good_one flags_one
fresh_one =
    let s = fresh_spellable edition_one in
    rw (good_spelled_block edition_one small_one fresh_contents s, contents_spelled edition_one small_one fresh_contents s, fresh_image)

pub convert_sentence : ConvertSentence
unfolding convert
convert_sentence =
    record {
      converts = converts;
      fresh =
          λ b n. rw (fresh_one, eq-eqb (length b) (block_length current) n, contents_spelled edition_one small_one fresh_contents (fresh_spellable edition_one));
    }
