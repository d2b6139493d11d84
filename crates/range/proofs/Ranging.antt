-- A range of a table of a good block, changed: the outcomes, and what the steps ask. Assumes nothing.
use Prim.Native.Nat.{ℕ, ◌+◌, ◌*◌, ◌-◌, ◌/◌, ◌≤◌, ◌<◌}
use mathlib.Core.Path.{◌≡◌, refl, sym, ap, ◌∙◌}
use mathlib.Core.Logic.{◌⊎◌, inl, inr}
use mathlib.Core.Bool.{Bool, true, false, cond}
use mathlib.Core.List.{List, [], ◌∷◌, ◌++◌}
use native.Mathlib.Omega.{arith}
use lib.Dec.{leb, eqb}
use lib.ListN.{length, take, drop, take-append-drop}
use lib.Seq.{sets}
use borrow.Author.Tests.{leb-true, eqb-true}
use Rattle.address.specs.declared.Address.{Address}
use Rattle.address.specs.declared.Size.{Size}
use Rattle.address.specs.Numbers.{power_of_two}
use Rattle.address.proofs.Tests.{both}
use Rattle.address.proofs.Powers.{power_some}
use Rattle.regions.specs.declared.Kind.{Kind}
use Rattle.regions.specs.declared.Kind.TheVariants.{Memory, Taken}
use Rattle.regions.specs.declared.Region.{Region}
use Rattle.regions.specs.declared.Change.{Change}
use Rattle.regions.specs.declared.Change.TheVariants.{Fill, Clear, Mark, Unmark}
use Rattle.regions.specs.Meaning.{at, shortest, top, top_is}
use Rattle.regions.specs.Lists.{legal, legal_tag, good_list}
use Rattle.regions.specs.Changes.{change, after, cut, changed, allowed}
use Rattle.regions.specs.Bytes.{read_regions, table_bytes}
use Rattle.regions.specs.Steps.{FlagBounded}
use Rattle.regions.proofs.Records.{read_regions_length}
use Rattle.regions.proofs.Rises.{Canonical}
use Rattle.regions.proofs.Good.{good_rises, good_legal}
use Rattle.regions.proofs.Trim.{round_length, trim_rounds}
use Rattle.regions.specs.Trim.{round_each, trimmed_list}
use Rattle.block.specs.declared.Header.{Header}
use Rattle.records.specs.declared.table.Tally.{Tally}
use Rattle.lists.specs.declared.Edit.{Edit}
use Rattle.block.specs.declared.Layout.{Layout}
use Rattle.std.specs.Prelude.{Result, Ok, Err}
use Rattle.refusals.specs.declared.Refusal.{Refusal}
use Rattle.refusals.specs.declared.Refusal.TheVariants.{Full}
use Rattle.regions.proofs.Numbers.{Bytes}
use Rattle.block.proofs.Reading.{good_header}
use Rattle.block.proofs.Layouts.{small_current}
use Rattle.records.proofs.Tables.{good_table_lem}
use Rattle.block.specs.Block.{current, capacity, offset, list_of, with_list, header_bytes, header_of, block_bytes, read_header, part, contents, good}
use Rattle.records.specs.Totals.{tally}
use Rattle.block.specs.Checks.{tally_of, with_tally}
use Rattle.records.specs.Steps.{Table, Whole}
use Rattle.trim.specs.Steps.{Trimmed}
use Rattle.std.proofs.lemmas.List.Elements.{All-nil, All-cons}
use Rattle.change.specs.Steps.{AllTagged, OneTagged, Uniform, Vacant, Changeable, Stored, StoredIf, stored_answer, stored_bytes}
use Rattle.range.specs.Steps.{Known, store_changed}
use Rattle.lists.specs.Steps.{Editable}
use Rattle.range.specs.Outcomes.{Outcome, outcome, unless, store, tag, change_range}
use Rattle.block.proofs.Blocks.{room, lists_ok, good_contents_lem, part_zeros}
use Rattle.range.proofs.Storing.{capacity_bound, scratch_room, span_part, span_room, block_stored}

-- a legal list of the taken table has one tag
taken_tagged : (xs : List Region) → legal Taken xs ≡ true → AllTagged (tag 0 0) xs
unfolding legal legal_tag
taken_tagged [] e = All-nil (λ (r : Region). r.tag ≡ tag 0 0)
taken_tagged (r ∷ rs) e =
    let p = both (legal_tag Taken r.tag) (legal Taken rs) e in
    let q = both (eqb r.tag.flags 0) (eqb r.tag.node 0) p.0 in
    let f : r.tag.flags ≡ 0 = eqb-true r.tag.flags 0 q.0 in
    let n : r.tag.node ≡ 0 = eqb-true r.tag.node 0 q.1 in
    All-cons (λ (x : Region). x.tag ≡ tag 0 0) r rs (λ i. record { flags = f i; node = n i }) (taken_tagged rs p.1)

-- what the rules of a table know changes flags by a weight
known_flag_bounded : (k : Kind) (c : Change) → Known k c → FlagBounded c
known_flag_bounded Memory c w = w
known_flag_bounded Taken (Fill t) w = tt
known_flag_bounded Taken Clear w = tt
known_flag_bounded Taken (Mark v) w = absurd w
known_flag_bounded Taken (Unmark v) w = absurd w

-- in the taken table it makes one state of a range
known_uniform : (c : Change) (xs : List Region) → Known Taken c → legal Taken xs ≡ true → Uniform c xs
known_uniform (Fill t) xs w e = rw w (taken_tagged xs e)
known_uniform Clear xs w e = tt
known_uniform (Mark v) xs w e = w
known_uniform (Unmark v) xs w e = w

-- the range of a command: its change, from base to the cut end
pub editable : (k : Kind) (c : Change) (base hi : Address) (size : ℕ) → Known k c → base.0 < 18446744073709551616 → hi.0 ≡ cut base.0 size
    → Editable (record { change = c; lo = base; hi = hi })
editable k c base hi size w h e = record { flag_bounded = known_flag_bounded k c w; low = omega (arith, top_is); high = omega arith }

-- the list that a block says, read from its part
listed : (b : List ℕ) (k : Kind) → read_regions (tally_of (read_header b) k).count (part current k b) ≡ list_of (contents current b) k
unfolding contents
listed b Memory = refl
listed b Taken = refl

module _ (b : List ℕ) (g : good current b ≡ true) (k : Kind) (a e : ℕ) (ea : a ≡ offset current k) (ee : e ≡ offset current k + 24 * capacity current k) (h : Header)
    (eh : h ≡ read_header b) (t : Tally) (et : t ≡ tally_of h k) where
  pub list_is : read_regions t.count (take (e - a) (drop a b)) ≡ list_of (contents current b) k
  list_is =
      ap (λ (x : List ℕ). read_regions t.count x) (span_part k a e b g ea ee)
      ∙ ap (λ (x : Tally). read_regions x.count (part current k b)) (et ∙ ap (λ (x : Header). tally_of x k) eh) ∙ listed b k

  pub list_good : good_list k (list_of (contents current b) k) ≡ true
  list_good = lists_ok current (contents current b) (good_contents_lem current b g) k

  pub range_table : Table (take (e - a) (drop a b)) t.count
  range_table =
      let n : t.count ≡ length (list_of (contents current b) k) = sym (read_regions_length t.count (take (e - a) (drop a b))) ∙ ap (length {A = Region}) list_is in
      good_table_lem k t.count (take (e - a) (drop a b)) (omega (arith, room current (contents current b) (good_contents_lem current b g) k, span_room k a e b g ea ee)) (rw list_is list_good)

  -- a table's part of a good block, with its tally
  pub range_whole : Bytes b → Whole (take (e - a) (drop a b)) t
  range_whole bs =
      let n = span_room k a e b g ea ee in
      let c = capacity_bound current small_current k in
      let q : t ≡ tally (list_of (contents current b) k) = et ∙ ap (λ (x : Header). tally_of x k) (eh ∙ good_header current small_current b bs g) ∙ of k in
      record {
        table = range_table;
        even = omega arith;
        small = omega arith;
        rest = rw (span_part k a e b g ea ee) (part_zeros current b g k t.count (sym list_is ∙ ap (read_regions t.count) (span_part k a e b g ea ee)));
        total = ap (λ (x : Tally). x.total.0) q ∙ rw list_is;
      }
    where
      of : (k : Kind) → tally_of (header_of (contents current b)) k ≡ tally (list_of (contents current b) k)
      of Memory = refl
      of Taken = refl

  -- a change of it finds room in the scratch table: that is as long as the memory table, and in the taken table few records are left
  pub range_changeable : (d : Edit) → Known k d.change → Editable d → Changeable (take (e - a) (drop a b)) t d
  range_changeable d p w = record { edit = w; scratch = go k refl p }
    where
      go : (j : Kind) → j ≡ k → Known j d.change → (length (take (e - a) (drop a b)) ≤ 3072) ⊎ Uniform d.change (read_regions t.count (take (e - a) (drop a b)))
      go Memory f q =
          let n : length (take (e - a) (drop a b)) ≡ 24 * capacity current Memory = rw f (span_room k a e b g ea ee) in
          inl (omega (arith, scratch_room))
      go Taken f q =
          let l : legal Taken (list_of (contents current b) k) ≡ true = rw f (good_legal k (list_of (contents current b) k) list_good) in
          inr (rw list_is (known_uniform d.change (list_of (contents current b) k) q l))

  -- a strict change is one of the taken table, whose records have one tag
  pub range_tagged : (strict : Bool) → (strict ≡ true → k ≡ Taken) → strict ≡ true → OneTagged (read_regions t.count (take (e - a) (drop a b)))
  range_tagged strict f s =
      let l : legal Taken (list_of (contents current b) k) ≡ true = rw (← f s) (good_legal k (list_of (contents current b) k) list_good) in
      rw list_is (record { tag = tag 0 0; all = taken_tagged (list_of (contents current b) k) l })

  -- a range of which it has no address
  pub range_vacant : (base hi : Address) (size : ℕ) → hi.0 ≡ cut base.0 size → base.0 + size ≤ top → Vacant base.0 (base.0 + size) (list_of (contents current b) k)
      → Vacant base.0 hi.0 (read_regions t.count (take (e - a) (drop a b)))
  range_vacant base hi size eq h v = rw list_is (λ x i j. v x i (omega arith))

  -- the answer for a list that is to stand in the table, stored, is the outcome
  module _ (new : List Region) (x : List ℕ) (p : Result Tally Refusal) (w : Stored (take (e - a) (drop a b)) x new p) where
    room_is : length (take (e - a) (drop a b)) / 24 ≡ capacity current k
    room_is = omega (arith, span_room k a e b g ea ee)

    left : x ≡ stored_bytes (capacity current k) new (take (e - a) (drop a b))
    left = rw room_is at w.after

    abbrev fit : Bool
    fit = leb (length new) (capacity current k)

    -- the list has room, and the answer is its tally, or it has none
    answered : ((fit ≡ true) × (p ≡ Ok (tally new))) ⊎ ((fit ≡ false) × (p ≡ Err Full))
    unfolding stored_answer
    answered = go fit refl (rw room_is at w.answer)
      where
        go : (t : Bool) → fit ≡ t → p ≡ cond t (Ok (tally new)) (Err Full) → ((fit ≡ true) × (p ≡ Ok (tally new))) ⊎ ((fit ≡ false) × (p ≡ Err Full))
        go true f q = inl (f, q)
        go false f q = inr (f, q)

    list_full : fit ≡ false → outcome 6 (take a b ++ (x ++ drop (e - a) (drop a b))) ≡ store current k new b
    unfolding store stored_bytes
    list_full n =
        let y : x ≡ take (e - a) (drop a b) = left ∙ rw n in
        rw (n, y, take-append-drop, take-append-drop)

    list_done : Bytes b → fit ≡ true → outcome 0 (sets (take a b ++ (x ++ drop (e - a) (drop a b))) 0 (header_bytes current (with_tally h k (tally new)))) ≡ store current k new b
    unfolding store stored_bytes
    list_done bs n =
        let y : Tally = tally new in
        let m = leb-true (length new) (capacity current k) n in
        let u : x ≡ table_bytes (length (take (e - a) (drop a b)) / 24) new = left ∙ rw (n, room_is) in
        let r = block_stored b bs g k a e ea ee new x u y.count refl m h eh y.total refl current refl (with_tally h k y) refl _ refl in
        rw (n, r)

    pub list_stored : Bytes b → (o : Outcome) → o ≡ store_changed h k p (take a b ++ (x ++ drop (e - a) (drop a b))) → o ≡ store current k new b
    unfolding store_changed
    list_stored bs o q = go answered
      where
        go : ((fit ≡ true) × (p ≡ Ok (tally new))) ⊎ ((fit ≡ false) × (p ≡ Err Full)) → o ≡ store current k new b
        go (inl v) = q ∙ rw v.1 (list_done bs v.0)
        go (inr v) = q ∙ rw v.1 (list_full v.0)

  module _ (c : Change) (base : Address) (size : ℕ) (hi : Address) (eq : hi.0 ≡ cut base.0 size) where
    finished : shortest (after (change c) base.0 hi.0 (at (read_regions t.count (take (e - a) (drop a b))))) top ≡ changed c base.0 size (list_of (contents current b) k)
    unfolding changed
    finished = rw (list_is, eq)

    -- a changed range
    pub range_stored : (x : List ℕ) (p : Result Tally Refusal)
        → Stored (take (e - a) (drop a b)) x (shortest (after (change c) base.0 hi.0 (at (read_regions t.count (take (e - a) (drop a b))))) top) p
        → Bytes b → (o : Outcome) → o ≡ store_changed h k p (take a b ++ (x ++ drop (e - a) (drop a b))) → o ≡ change_range current k c base.0 size b
    range_stored x p w bs o q = list_stored (changed c base.0 size (list_of (contents current b) k)) x p (rw finished at w) bs o q

    -- and if it is allowed
    module _ (strict : Bool) (x : List ℕ) (p : Result Tally Refusal)
        (w : StoredIf (allowed strict base.0 hi.0 (read_regions t.count (take (e - a) (drop a b)))) (take (e - a) (drop a b)) x (shortest (after (change c) base.0 hi.0 (at (read_regions t.count (take (e - a) (drop a b))))) top) p) where
      pub range_stored_if : Bytes b → (o : Outcome) → o ≡ store_changed h k p (take a b ++ (x ++ drop (e - a) (drop a b)))
          → o ≡ unless (allowed strict base.0 (cut base.0 size) (list_of (contents current b) k)) 12 b (change_range current k c base.0 size b)
      unfolding store_changed
      range_stored_if bs o q = go (allowed strict base.0 (cut base.0 size) (list_of (contents current b) k)) refl
        where
          same : allowed strict base.0 hi.0 (read_regions t.count (take (e - a) (drop a b))) ≡ allowed strict base.0 (cut base.0 size) (list_of (contents current b) k)
          same = rw (list_is, eq)

          go : (ok : Bool) → allowed strict base.0 (cut base.0 size) (list_of (contents current b) k) ≡ ok → o ≡ unless ok 12 b (change_range current k c base.0 size b)
          go true f = range_stored x p (w.yes (same ∙ f)) bs o q
          go false f = let v = w.no (same ∙ f) in q ∙ rw (v.0, v.1, take-append-drop, take-append-drop)

-- ---- trim

module _ (b : List ℕ) (g : good current b ≡ true) (a e : ℕ) (ea : a ≡ offset current Memory) (ee : e ≡ offset current Memory + 24 * capacity current Memory) (h : Header)
    (eh : h ≡ read_header b) (t : Tally) (et : t ≡ tally_of h Memory) (k : Size) (pow : power_of_two k.0 ≡ true) (x : List ℕ) (y : Tally)
    (w : Trimmed (take (e - a) (drop a b)) x (round_each k.0 (read_regions t.count (take (e - a) (drop a b)))) y) where
  rises_memory : Canonical top (contents current b).memory
  rises_memory = good_rises Memory (contents current b).memory (lists_ok current (contents current b) (good_contents_lem current b g) Memory)

  trimmed_is : round_each k.0 (read_regions t.count (take (e - a) (drop a b))) ≡ trimmed_list k.0 (contents current b).memory
  trimmed_is = ap (round_each k.0) (list_is b g Memory a e ea ee h eh t et) ∙ sym (trim_rounds k.0 (contents current b).memory (power_some k.0 pow) rises_memory)

  pub trim_done : Bytes b → (l : Layout) → l ≡ current → (o : Header) → o ≡ with_tally h Memory y → (z : List ℕ) → z ≡ sets (take a b ++ (x ++ drop (e - a) (drop a b))) 0 (header_bytes l o)
      → z ≡ block_bytes current (with_list (contents current b) Memory (trimmed_list k.0 (contents current b).memory))
  trim_done bs l el o eo z ez =
      let q : y ≡ tally (trimmed_list k.0 (contents current b).memory) = w.answer ∙ ap tally trimmed_is in
      let u : x ≡ table_bytes (length (take (e - a) (drop a b)) / 24) (trimmed_list k.0 (contents current b).memory) =
      w.after ∙ ap (table_bytes (length (take (e - a) (drop a b)) / 24)) trimmed_is in
      let c : y.count ≡ length (trimmed_list k.0 (contents current b).memory) = ap (λ (v : Tally). v.count) q in
      let r : y.count ≤ capacity current Memory =
      omega (
        arith,
        ap (length {A = Region}) (trim_rounds k.0 (contents current b).memory (power_some k.0 pow) rises_memory),
        round_length k.0 (contents current b).memory,
        room current (contents current b) (good_contents_lem current b g) Memory,
      ) in
      block_stored b bs g Memory a e ea ee (trimmed_list k.0 (contents current b).memory) x u y.count c r h eh y.total (ap (λ (v : Tally). v.total.0) q) l el o eo z ez
