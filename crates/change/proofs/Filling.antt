-- A range that no record meets, filled by one record. Assumes nothing.
use Rattle.std.specs.Prelude.{Option, Some, None, Ok, Err, not}
use Prim.Native.Nat.{ℕ, zero, suc, ◌+◌, ◌*◌, ◌-◌, ◌/◌, ◌≤◌, ◌<◌, max}
use mathlib.Core.Path.{◌≡◌, refl, sym, ap, ◌∙◌}
use mathlib.Core.Bool.{Bool, true, false, cond}
use mathlib.Core.List.{List, [], ◌∷◌, ◌++◌, append_assoc}
use mathlib.Core.Logic.{◌⊎◌, inl, inr}
use native.Mathlib.Omega.{arith}
use lib.Dec.{leb, eqb}
use lib.ListN.{length, take, drop, take-append-drop, length-append}
use Rattle.address.proofs.Tests.{le_or_lt, zero_not_one}
use Rattle.regions.specs.declared.State.{State}
use borrow.Author.Tests.{leb-true, leb-false, le-leb, eqb-true, eqb-false, not-true, not-false}
use Rattle.address.specs.declared.Address.{Address}
use Rattle.address.specs.declared.Size.{Size}
use Rattle.address.specs.Numbers.{address}
use Rattle.address.proofs.Checked.{address_at, address_outside}
use Rattle.regions.specs.declared.Tag.{Tag}
use Rattle.regions.specs.declared.Region.{Region}
use Rattle.regions.specs.declared.State.TheVariants.{Absent, Present}
use Rattle.regions.specs.declared.Change.TheVariants.{Fill}
use Rattle.regions.specs.Meaning.{region, end, at, same_tag, joins, join, shortest, total, top, top_is}
use Rattle.regions.specs.Lists.{rises}
use Rattle.regions.specs.Changes.{change, after}
use Rattle.regions.specs.Bytes.{number, read_region, read_regions, table_bytes}
use Rattle.regions.proofs.Push.{same_true, same_self, joins_true}
use Rattle.regions.proofs.Rises.{Fits, Rises, ended, next, Canonical, reach, edge, Rises-rises}
use Rattle.regions.proofs.Prefix as prefix
use Rattle.regions.proofs.RoundTrip.{canonical_shortest, push_present, join_snoc, at_here, at_past}
use Rattle.regions.proofs.Middle.{starts, canonical_part}
use Rattle.regions.proofs.Gap.{fill_apart, fill_meets, fill_total}
use Rattle.regions.proofs.Count.{push_by_one, sizes, total_sizes, total_le}
use Rattle.regions.proofs.Good.{total_is_sizes}
use Rattle.regions.proofs.Records.{read_regions_length, read_regions_snoc, read_regions_rest, read_regions_end}
use Rattle.records.specs.declared.table.Tally.{Tally}
use Rattle.change.specs.declared.gap.Side.{Side}
use Rattle.refusals.specs.declared.Refusal.TheVariants.{Full}
use Rattle.records.specs.Steps.{ending_by, put, Table, Whole}
use Rattle.change.specs.Steps.{clear_to, Stored, JoinedBelow, JoinedAbove, Vacant}
use Rattle.records.proofs.Placing.{further, ending_reach, ending_above, ending_past, place_le}
use Rattle.records.proofs.Placing.{take_read, drop_read}
use Rattle.records.proofs.Parts.{table_rises, parts_rise, none_left, rest_begins, rest_rises, ends_by_top}
use Rattle.change.proofs.Splicing.{splice_full, put_done}

-- ---- is it free

module _ (l : List ℕ) (n i a : ℕ) (k : i ≤ n) where
  pub clear_end : n ≤ i → true ≡ clear_to a (drop i (read_regions n l))
  unfolding clear_to
  clear_end h = rw (drop_read i n l k, read_regions_end i n (drop (24 * i) l) h)

  pub clear_here : i < n → (v : ℕ) → v ≡ number 8 (drop (24 * i) l) → leb a v ≡ clear_to a (drop i (read_regions n l))
  unfolding clear_to read_region
  clear_here h v e = rw (drop_read i n l k, read_regions_rest i n l h, e)

-- ---- the place, from the one below

ending_more : (a : ℕ) (xs : List Region) → ending_by (a - 1) xs ≤ ending_by a xs
unfolding ending_by
ending_more a [] = omega arith
ending_more a (r ∷ rs) = go (leb (end r) (a - 1)) refl (ending_more a rs)
  where
    go : (t : Bool) → leb (end r) (a - 1) ≡ t → ending_by (a - 1) rs ≤ ending_by a rs → cond t (suc (ending_by (a - 1) rs)) 0 ≤ cond (leb (end r) a) (suc (ending_by a rs)) 0
    go true e ih = rw (le-leb (end r) a (omega (arith, leb-true (end r) (a - 1) e))) (omega arith)
    go false e ih = omega arith

-- each record ends above the end of the one before
rising_ends : {c m : ℕ} {v : State} (k n : ℕ) (l : List ℕ) → Rises c v m (read_regions n l) → k + 1 < n → end (read_region (drop (24 * k) l)) < end (read_region (drop (24 * (k + 1)) l))
unfolding read_regions
rising_ends zero zero l w h = absurd (omega arith)
rising_ends (suc k) zero l w h = absurd (omega arith)
rising_ends zero (suc zero) l w h = absurd (omega arith)
rising_ends (suc k) (suc zero) l w h = absurd (omega arith)
rising_ends zero (suc (suc n)) l (next f (next g w)) h = omega (arith, g.low, g.some)
rising_ends {c = c} {m = m} {v = v} (suc k) (suc (suc n)) l (next f w) h =
    let e : suc (k + 1) ≡ suc k + 1 = omega arith in
    rw (further k l, further (k + 1) l, e) at (rising_ends {c = end (read_region l)} k (suc n) (drop 24 l) w (omega arith))

module _ (l : List ℕ) (n a i : ℕ) (w : Table l n) (e : i ≡ ending_by (a - 1) (read_regions n l)) where
  below_le : i ≤ ending_by a (read_regions n l)
  below_le = omega (arith, ending_more a (read_regions n l))

  pub from_end : n ≤ i → i ≡ ending_by a (read_regions n l)
  from_end h = omega (arith, below_le, place_le l n a (ending_by a (read_regions n l)) refl)

  module _ (h : i < n) (b : Bool) (q : b ≡ leb (end (read_region (drop (24 * i) l))) a) where
    pub from_here : b ≡ false → i ≡ ending_by a (read_regions n l)
    from_here f = omega (arith, below_le, ending_above a i n l h (leb-false (end (read_region (drop (24 * i) l))) a (sym q ∙ f)))

    pub from_next : b ≡ true → i + 1 ≡ ending_by a (read_regions n l)
    from_next f = go (le_or_lt n (i + 1)) (le_or_lt (end (read_region (drop (24 * i) l))) (a - 1))
      where
        c : Canonical top (read_regions n l)
        c = table_rises l n w

        g : end (read_region (drop (24 * i) l)) ≤ a
        g = leb-true (end (read_region (drop (24 * i) l))) a (sym q ∙ f)

        go : (n ≤ i + 1) ⊎ (i + 1 < n) → (end (read_region (drop (24 * i) l)) ≤ a - 1) ⊎ (a - 1 < end (read_region (drop (24 * i) l))) → i + 1 ≡ ending_by a (read_regions n l)
        go x (inl y) = absurd (omega (arith, ending_past (a - 1) i n l c h y))
        go (inl x) (inr y) = omega (arith, ending_past a i n l c h g, place_le l n a (ending_by a (read_regions n l)) refl)
        go (inr x) (inr y) = omega (arith, ending_past a i n l c h g, ending_above a (i + 1) n l x (omega (arith, rising_ends i n l c x)))

-- ---- below

module _ (l : List ℕ) (i : ℕ) (lo : Address) (tag : Tag) where
  same : (n : ℕ) → region lo.0 (lo.0 - lo.0 + n) tag ≡ region lo.0 n tag
  same n = let e : lo.0 - lo.0 + n ≡ n = omega arith in rw e

  pub under_none : i ≡ 0 → JoinedBelow l i lo.0 tag (record { at = i; bound = lo })
  unfolding join read_regions
  under_none e = record { most = omega arith; low = omega arith; joined = λ n. rw (e, same n) }

  module _ (r : Region) (some : i ≡ 0 → ⊥) (here : r ≡ read_region (drop (24 * (i - 1)) l)) (b : Bool) (q : b ≡ joins r lo.0 tag) where
    split : read_regions i l ≡ read_regions (i - 1) l ++ (r ∷ [])
    split =
        let e : i ≡ i - 1 + 1 = omega arith in
        ap (λ (m : ℕ). read_regions m l) e ∙ read_regions_snoc (i - 1) l ∙ rw (← here)

    both : (n : ℕ) → join (read_regions i l) lo.0 n tag ≡ read_regions (i - 1) l ++ cond b (region r.base.0 (r.size.0 + n) tag ∷ []) (r ∷ region lo.0 n tag ∷ [])
    unfolding join
    both n = rw (split, join_snoc, q)

    pub under_grown : b ≡ true → (base : Address) → base ≡ r.base → JoinedBelow l i lo.0 tag (record { at = i - 1; bound = base })
    under_grown e base eb =
        let f = joins_true r lo.0 tag (sym q ∙ e) in
        let g : base.0 ≡ r.base.0 = ap (λ (x : Address). x.0) eb in
        let h : (n : ℕ) → r.size.0 + n ≡ lo.0 - base.0 + n = λ n. omega (arith, f.0) in
        record {
          most = omega arith;
          low = omega (arith, f.0);
          joined = λ n. both n ∙ rw (e, h n, g);
        }

    pub under_apart : b ≡ false → JoinedBelow l i lo.0 tag (record { at = i; bound = lo })
    under_apart e = record { most = omega arith; low = omega arith; joined = λ n. both n ∙ rw (e, same n, split, append_assoc) }

-- ---- above

module _ (l : List ℕ) (n i : ℕ) (hi : Address) (tag : Tag) (w : Table l n) (k : i ≤ n) (t : hi.0 ≤ top) (f : clear_to hi.0 (drop i (read_regions n l)) ≡ true) where
  free : hi.0 ≤ starts top (drop i (read_regions n l))
  unfolding starts clear_to
  free = go (drop i (read_regions n l)) f
    where
      go : (zs : List Region) → clear_to hi.0 zs ≡ true → hi.0 ≤ starts top zs
      go [] e = t
      go (z ∷ zs) e = leb-true hi.0 z.base.0 e

  filled_total : (lo : ℕ) → lo < hi.0 → i ≡ ending_by lo (read_regions n l)
      → total (after (change (Fill tag)) lo hi.0 (at (read_regions n l))) top ≡ total (at (read_regions n l)) top + (hi.0 - lo)
  filled_total lo h e =
      rw (take-append-drop i (read_regions n l)) at (fill_total tag lo hi.0 top (take i (read_regions n l)) (drop i (read_regions n l)) (parts_rise l n i w k) h (rw e (ending_reach lo 0 (read_regions n l) (omega arith))) free t)

  -- nothing above joins
  as_is : Rises hi.0 (Present tag) top (drop i (read_regions n l)) → JoinedAbove (read_regions n l) i hi.0 tag (record { at = i; bound = hi })
  as_is u =
      record {
        least = omega arith;
        most = omega (arith, read_regions_length n l);
        high = omega arith;
        small = t;
        filled = λ lo h e. rw (take-append-drop i (read_regions n l)) at (fill_apart tag lo hi.0 top (take i (read_regions n l)) (drop i (read_regions n l)) (parts_rise l n i w k) h (rw e (ending_reach lo 0 (read_regions n l) (omega arith))) free u);
      }

  pub over_end : n ≤ i → JoinedAbove (read_regions n l) i hi.0 tag (record { at = i; bound = hi })
  over_end h = as_is (rw (none_left l n i w k h) (ended t))

  module _ (h : i < n) (r : Region) (here : r ≡ read_region (drop (24 * i) l)) where
    apart : (hi.0 ≡ r.base.0 → Present tag ≡ Present r.tag → ⊥) → JoinedAbove (read_regions n l) i hi.0 tag (record { at = i; bound = hi })
    unfolding starts
    apart d = as_is (rw (rest_begins l n i w k h r here) (go (rest_rises l n i w k h r here) (rw (rest_begins l n i w k h r here) at free)))
      where
        go : Rises (reach 0 (take i (read_regions n l))) (edge Absent (take i (read_regions n l))) top (r ∷ drop (i + 1) (read_regions n l))
            → hi.0 ≤ starts top (r ∷ drop (i + 1) (read_regions n l)) → Rises hi.0 (Present tag) top (r ∷ drop (i + 1) (read_regions n l))
        go (next j v) m =
            let x : Fits hi.0 (Present tag) r = record { low = m; apart = d; some = j.some } in
            next x v

    module _ (b : Bool) (q : b ≡ not (eqb r.base.0 hi.0)) where
      pub over_apart : b ≡ true → JoinedAbove (read_regions n l) i hi.0 tag (record { at = i; bound = hi })
      over_apart e = apart (λ x y. absurd (eqb-false r.base.0 hi.0 (not-true (eqb r.base.0 hi.0) (sym q ∙ e)) (sym x)))

      base_is : b ≡ false → r.base.0 ≡ hi.0
      base_is e = eqb-true r.base.0 hi.0 (not-false (eqb r.base.0 hi.0) (sym q ∙ e))

    module _ (b : Bool) (q : b ≡ not (same_tag r.tag tag)) where
      pub over_tag : b ≡ true → JoinedAbove (read_regions n l) i hi.0 tag (record { at = i; bound = hi })
      over_tag e =
          apart (λ x y.
          let g : tag ≡ r.tag = cc in
          let a : same_tag r.tag tag ≡ true = rw g (same_self r.tag) in
          let d : same_tag r.tag tag ≡ false = not-true (same_tag r.tag tag) (sym q ∙ e) in
          absurd (zero_not_one cc))

      tag_is : b ≡ false → r.tag ≡ tag
      tag_is e = same_true r.tag tag (not-false (same_tag r.tag tag) (sym q ∙ e))

    pub over_past : (x : Option Address) → x ≡ address (end r) → x ≡ None → (s : Side) → JoinedAbove (read_regions n l) i hi.0 tag s
    over_past x q e s = absurd (omega (arith, ends_by_top l n i w k h r here, top_is, address_outside (end r) x q e))

    pub over_grown : (b : Bool) → b ≡ not (eqb r.base.0 hi.0) → b ≡ false → (d : Bool) → d ≡ not (same_tag r.tag tag) → d ≡ false → (x : Option Address) → x ≡ address (end r)
        → (o : Address) → x ≡ Some o → JoinedAbove (read_regions n l) i hi.0 tag (record { at = i + 1; bound = o })
    over_grown b u v d y z x p o f =
        let eb : r.base.0 ≡ hi.0 = base_is b u v in
        let g : r.tag ≡ tag = tag_is d y z in
        let m : o.0 ≡ end r = (address_at (end r) x o p f).0 in
        let v : take i (read_regions n l) ++ (r ∷ drop (i + 1) (read_regions n l)) ≡ read_regions n l = rw (← rest_begins l n i w k h r here) (take-append-drop i (read_regions n l)) in
        record {
          least = omega arith;
          most = omega (arith, read_regions_length n l);
          high = omega arith;
          small = omega (arith, ends_by_top l n i w k h r here);
          filled = λ lo j c.
              let d : hi.0 - lo + r.size.0 ≡ o.0 - lo = omega arith in
              rw (v, d) at (fill_meets tag lo hi.0 top (take i (read_regions n l)) (drop (i + 1) (read_regions n l)) r (rw (rest_begins l n i w k h r here) at (parts_rise l n i w k)) j (rw c (ending_reach lo 0 (read_regions n l) (omega arith))) eb g);
        }

-- ---- one record for both sides

module _ (t : List ℕ) (y : Tally) (w : Whole t y) (i lo hi : ℕ) (tag : Tag) (e : i ≡ ending_by lo (read_regions y.count t)) (l : lo < hi)
    (low : Side) (u : JoinedBelow t i lo tag low) (high : Side) (v : JoinedAbove (read_regions y.count t) i hi tag high) where
  pub gap_order : low.at ≤ high.at
  gap_order = omega (arith, u.most, v.least)

  pub gap_most : high.at ≤ y.count
  gap_most = omega (arith, v.most, read_regions_length y.count t)

  pub gap_left : high.at - low.at ≤ y.count
  gap_left = omega (arith, gap_most)

  one : Region
  one = region low.bound.0 (high.bound.0 - low.bound.0) tag

  gap_is : shortest (after (change (Fill tag)) lo hi (at (read_regions y.count t))) top ≡ put low.at high.at (one ∷ []) (read_regions y.count t)
  unfolding put one
  gap_is =
      let k : i ≤ y.count = place_le t y.count lo i e in
      let j : low.at ≤ y.count = omega (arith, u.most) in
      let x : take i (read_regions y.count t) ≡ read_regions i t = take_read i y.count t k in
      let z : take low.at (read_regions y.count t) ≡ read_regions low.at t = take_read low.at y.count t j in
      let n : lo - low.bound.0 + (high.bound.0 - lo) ≡ high.bound.0 - low.bound.0 = omega (arith, u.low, v.high) in
      v.filled lo l e ∙ rw (x, u.joined (high.bound.0 - lo), n, z, append_assoc)

  gap_rises : Canonical top (put low.at high.at (one ∷ []) (read_regions y.count t))
  gap_rises = rw gap_is at (canonical_shortest (after (change (Fill tag)) lo hi (at (read_regions y.count t))) top)

  one_rises : rises 0 Absent top (one ∷ []) ≡ true
  unfolding put
  one_rises = Rises-rises (canonical_part (take low.at (read_regions y.count t)) (one ∷ []) (drop high.at (read_regions y.count t)) gap_rises)

  pub gap_full : length t / 24 < y.count - (high.at - low.at) + 1 → Stored t t (shortest (after (change (Fill tag)) lo hi (at (read_regions y.count t))) top) (Err Full)
  gap_full h = rw gap_is (splice_full t y.count low.at high.at gap_order gap_most w.table.room w.table.rising (one ∷ []) one_rises (Rises-rises gap_rises) 1 refl h)

  module _ (h : hi ≤ top) (f : clear_to hi (drop i (read_regions y.count t)) ≡ true) where
    gap_total : y.total.0 + (hi - lo) ≡ total (at (put low.at high.at (one ∷ []) (read_regions y.count t))) top
    gap_total =
        let p : List Region = put low.at high.at (one ∷ []) (read_regions y.count t) in
        let g = after (change (Fill tag)) lo hi (at (read_regions y.count t)) in
        let a : total (at p) top ≡ sizes p = total_is_sizes p gap_rises in
        let b : total g top ≡ sizes p = total_sizes g top ∙ ap sizes gap_is in
        let c = filled_total t y.count i (record { 0 = hi }) tag w.table (place_le t y.count lo i e) h f lo l e in
        omega (arith, w.total, a, b, c)

    pub gap_small : (d : ℕ) → d ≡ hi - lo → y.total.0 + d < 18446744073709551616
    gap_small d ed = omega (arith, gap_total, total_le (at (put low.at high.at (one ∷ []) (read_regions y.count t))) top, top_is)

    pub gap_done : (s d m : Size) → s.0 ≡ high.bound.0 - low.bound.0 → d.0 ≡ hi - lo → m.0 ≡ y.total.0 + d.0 → (x : List ℕ)
        → x ≡ table_bytes (length t / 24) (put low.at high.at (region low.bound.0 s.0 tag ∷ []) (read_regions y.count t))
        → y.count - (high.at - low.at) + 1 ≤ length t / 24
        → Stored t x (shortest (after (change (Fill tag)) lo hi (at (read_regions y.count t))) top) (Ok (record { count = y.count - (high.at - low.at) + 1; total = m }))
    unfolding one
    gap_done s d m es ed em x q k =
        rw gap_is (put_done t y.count low.at high.at gap_order gap_most w.table.room w.table.rising (one ∷ []) one_rises (Rises-rises gap_rises) m (omega (arith, gap_total)) 1 refl k x (rw es at q))

-- ---- a range of which the table has no address

-- a range of which a rising list has no address meets no region
vacant_clear : (lo hi : ℕ) → lo < hi → {c n : ℕ} {v : State} {xs : List Region} → Rises c v n xs → Vacant lo hi xs → clear_to hi (drop (ending_by lo xs) xs) ≡ true
unfolding ending_by clear_to
vacant_clear lo hi m (ended l) h = refl
vacant_clear lo hi m (next {r = r} {rs = rs} f w) h = go (leb (end r) lo) refl (le_or_lt hi r.base.0) (vacant_clear lo hi m w)
  where
    go : (t : Bool) → leb (end r) lo ≡ t → (hi ≤ r.base.0) ⊎ (r.base.0 < hi) → (Vacant lo hi rs → clear_to hi (drop (ending_by lo rs) rs) ≡ true)
        → clear_to hi (drop (cond t (suc (ending_by lo rs)) 0) (r ∷ rs)) ≡ true
    go true e k ih = ih (λ a i j. sym (at_past r rs a (omega (arith, leb-true (end r) lo e))) ∙ h a i j)
    go false e (inl k) ih = le-leb hi r.base.0 k
    go false e (inr k) ih =
        let a = max lo r.base.0 in
        let x : Present r.tag ≡ Absent = sym (at_here r rs a (omega arith) (omega (arith, leb-false (end r) lo e, f.some))) ∙ h a (omega arith) (omega (arith, leb-false (end r) lo e)) in
        absurd (zero_not_one cc)

-- the place of such a range in a table
pub vacant_gap : (l : List ℕ) (n : ℕ) → Table l n → (lo hi i : ℕ) → lo < hi → Vacant lo hi (read_regions n l) → i ≡ ending_by lo (read_regions n l)
    → clear_to hi (drop i (read_regions n l)) ≡ true
vacant_gap l n w lo hi i m h e = rw e (vacant_clear lo hi m (table_rises l n w) h)

-- filling it makes at most one region more
pub filled_by_one : (t : Tag) (lo hi : ℕ) (xs : List Region) → Canonical top xs → lo < hi → hi ≤ top → Vacant lo hi xs
    → length (shortest (after (change (Fill t)) lo hi (at xs)) top) ≤ suc (length xs)
unfolding starts clear_to
filled_by_one t lo hi xs w l m v = rw e at (go (drop i xs) (rw (← e) at w) (vacant_clear lo hi l w v))
  where
    i : ℕ
    i = ending_by lo xs

    ys : List Region
    ys = take i xs

    e : ys ++ drop i xs ≡ xs
    e = take-append-drop i xs

    low : reach 0 ys ≤ lo
    low = ending_reach lo 0 xs (omega arith)

    grown : (s : ℕ) → 0 < s → length (join ys lo s t) ≤ suc (length ys)
    grown s h = rw (push_present ys lo s t h) at (push_by_one ys lo s (Present t))

    -- nothing above joins
    apart : (zs : List Region) → Canonical top (ys ++ zs) → hi ≤ starts top zs → Rises hi (Present t) top zs
        → length (shortest (after (change (Fill t)) lo hi (at (ys ++ zs))) top) ≤ suc (length (ys ++ zs))
    apart zs c f u =
        rw (fill_apart t lo hi top ys zs c l low f u, length-append (join ys lo (hi - lo) t) zs, length-append ys zs) (omega (arith, grown (hi - lo) (omega arith)))

    go : (zs : List Region) → Canonical top (ys ++ zs) → clear_to hi zs ≡ true
        → length (shortest (after (change (Fill t)) lo hi (at (ys ++ zs))) top) ≤ suc (length (ys ++ zs))
    go [] c f = apart [] c m (ended m)
    go (z ∷ zs) c f = test (prefix.rest_rises ys (z ∷ zs) c) (leb-true hi z.base.0 f) (eqb z.base.0 hi) refl (same_tag z.tag t) refl
      where
        test : Rises (reach 0 ys) (edge Absent ys) top (z ∷ zs) → hi ≤ z.base.0 → (b : Bool) → eqb z.base.0 hi ≡ b → (d : Bool) → same_tag z.tag t ≡ d
            → length (shortest (after (change (Fill t)) lo hi (at (ys ++ (z ∷ zs)))) top) ≤ suc (length (ys ++ (z ∷ zs)))
        test u h true p true q =
            rw (
              fill_meets t lo hi top ys zs z c l low (eqb-true z.base.0 hi p) (same_true z.tag t q),
              length-append (join ys lo (hi - lo + z.size.0) t) zs,
              length-append ys (z ∷ zs),
            ) (omega (arith, grown (hi - lo + z.size.0) (omega arith)))
        test (next k u) h true p false q =
            let x : Fits hi (Present t) z = record {
              low = h;
              apart = λ a y.
                  let g : t ≡ z.tag = cc in
                  let same : same_tag z.tag t ≡ true = rw g (same_self z.tag) in
                  absurd (zero_not_one cc);
              some = k.some;
            } in
            apart (z ∷ zs) c h (next x u)
        test (next k u) h false p d q =
            let x : Fits hi (Present t) z = record { low = h; apart = λ a y. absurd (eqb-false z.base.0 hi p (sym a)); some = k.some } in
            apart (z ∷ zs) c h (next x u)
