-- The steps of the walks over the tables' bytes, for both ways: what is still to be walked gives the answer A for the whole. Assumes nothing.
use Prim.Native.Nat.{ℕ, zero, suc, ◌+◌, ◌-◌, ◌*◌, ◌≤◌, ◌<◌, min, max}
use mathlib.Core.Path.{◌≡◌, refl, sym, ap, ◌∙◌}
use mathlib.Core.Bool.{Bool, true, false, cond, not}
use mathlib.Core.List.{List, [], ◌∷◌}
use mathlib.Core.Logic.{◌⊎◌, inl, inr}
use mathlib.Core.Option.{Option, none, some}
use native.Mathlib.Omega.{arith}
use native.Mathlib.Nat.{not-suc-le-zero, le_of_suc-le-suc, mul-suc}
use lib.Dec.{leb, ltb}
use lib.ListN.{drop}
use lib.Seq.{drop-drop}
use borrow.Author.Tests.{le-leb, lt-leb, lt-ltb, le-ltb, eq-eqb, ne_eqb, leb-false, not-true}
use Rattle.address.specs.declared.Address.{Address}
use Rattle.address.proofs.Tests.{le_or_lt, zero_not_one}
use Rattle.address.proofs.Powers.{power_some}
use Rattle.regions.specs.declared.Kind.{Kind}
use Rattle.regions.specs.declared.Kind.TheVariants.{Memory, Taken}
use Rattle.regions.specs.declared.Region.{Region}
use Rattle.regions.specs.declared.State.{State}
use Rattle.regions.specs.Meaning.{end, top_is}
use Rattle.regions.specs.Lists.{good_list}
use Rattle.regions.specs.Bytes.{read_region, read_regions}
use Rattle.regions.proofs.Rises.{Rises, next}
use Rattle.regions.proofs.RoundTrip.{rises_end}
use Rattle.regions.proofs.Good.{good_rises}
use Rattle.regions.proofs.Records.{read_regions_rest, read_regions_end}
use Rattle.records.specs.Steps.{Table, ending_by}
use Rattle.records.proofs.Placing.{ending_above, place_le}
use Rattle.records.proofs.Tables.{good_table_lem}
use Rattle.records.proofs.Parts.{ends_by_top}
use Rattle.records.proofs.Placing.{drop_read}
use Rattle.fits.specs.declared.Query.{Query}
use Rattle.records.specs.declared.table.Records.{Records}
use Rattle.runs.specs.declared.Bounds.{Bounds}
use Rattle.runs.specs.declared.Tables.{Tables}
use Rattle.std.specs.Prelude.{Some, None}
use Rattle.std.specs.Prelude.{Option as Answer}
use Rattle.fits.specs.declared.Spot.{Spot}
use Rattle.fits.specs.Eligible.{asks, or_else}
use Rattle.fits.specs.Places.{Hit, place_of}
use Rattle.fits.specs.Steps.{hit_in, spot_of, serves, cut_low, cut_high, fit_low, fit_high}
use Rattle.runs.specs.Steps.{bounds_of, bounds_low, bounds_high, memory_of, taken_of, GoodTables, Searchable, first_in}
use Rattle.fits.specs.declared.Way.{Way}
use Rattle.fits.specs.declared.Way.TheVariants.{Up, Down}
use Rattle.fits.proofs.Ways.{choose, near, far, gaps, walk}
use Rattle.runs.proofs.Along.{backs, backs_falling}
use Rattle.runs.proofs.Walks.{walk_first}
use Rattle.runs.proofs.Window.{canonical_drop, from_memory, from_taken}

-- ---- one record of a good table

record InTable (n : ℕ) (r : Region) : Type 0 where
  some : 0 < r.size.0
  past : end r ≤ n

record-at : (k i : ℕ) (l : List ℕ) {c n : ℕ} {s : State} → Rises c s n (read_regions k l) → i < k → InTable n (read_region (drop (24 * i) l))
unfolding read_regions
record-at zero i l w h = absurd (not-suc-le-zero h)
record-at (suc k) zero l (next f w) h = record { some = f.some; past = rises_end w }
record-at (suc k) (suc i) l (next f w) h =
    let m : 24 + 24 * i ≡ 24 * suc i = omega (arith, mul-suc 24 i) in
    let e : drop (24 * i) (drop 24 l) ≡ drop (24 * suc i) l = drop-drop (24 * i) 24 l ∙ ap (λ (x : ℕ). drop x l) m in
    rw e at (record-at k i (drop 24 l) w (le_of_suc-le-suc h))

-- it ends below 2^64
pub past_fits : (l : List ℕ) (n i : ℕ) (r : Region) → Table l n → i < n → r ≡ read_region (drop (24 * i) l) → end r < 18446744073709551616
past_fits l n i r w h e = omega (arith, ends_by_top l n i w (omega arith) h r e, top_is)

-- ---- the place i in a table of n records

-- whether there is a record left, which one, and the place behind it
abbrev Over : Way → ℕ → ℕ → Type 0
Over Up n i = n ≤ i
Over Down n i = i ≡ 0

abbrev There : Way → ℕ → ℕ → Type 0
There Up n i = i < n
There Down n i = i ≡ 0 → ⊥

abbrev index : Way → ℕ → ℕ
index v i = choose v i (i - 1)

abbrev after : Way → ℕ → ℕ
after v i = choose v (i + 1) (i - 1)

over_or_there : (v : Way) (n i : ℕ) → Over v n i ⊎ There v n i
over_or_there Up n i = le_or_lt n i
over_or_there Down n zero = inl refl
over_or_there Down n (suc i) = inr (λ e. omega arith)

pub index_below : (v : Way) (n i : ℕ) → i ≤ n → There v n i → index v i < n
index_below Up n i h o = o
index_below Down n i h o = omega arith

sized : (v : Way) (t : Kind) (n i : ℕ) (l : List ℕ) → good_list t (read_regions n l) ≡ true → i ≤ n → There v n i → 0 < (read_region (drop (24 * index v i) l)).size.0
sized v t n i l g h o = (record-at n (index v i) l (good_rises t (read_regions n l) g) (index_below v n i h o)).some

-- how many records are left, and that the place behind the next is a number
abbrev pub remain : Way → ℕ → ℕ → ℕ
remain v n i = choose v (n - i) i

abbrev Room : Way → ℕ → Type 0
Room Up i = i + 1 < 18446744073709551616
Room Down i = 1 ≤ i

fewer : (v : Way) (n i : ℕ) → There v n i → i ≤ n → after v i ≤ n
fewer Up n i h l = omega arith
fewer Down n i h l = omega arith

remain_less : (v : Way) (n i : ℕ) → There v n i → remain v n (after v i) < remain v n i
remain_less Up n i h = omega arith
remain_less Down n i h = omega arith

room_after : (v : Way) (n i : ℕ) → There v n i → i ≤ n → n < 18446744073709551616 → Room v i
room_after Up n i h l c = omega arith
room_after Down n i h l c = omega arith

-- the records left, in the order of the walk
abbrev left : Way → ℕ → List ℕ → ℕ → List Region
left v n l i = choose v (read_regions (n - i) (drop (24 * i) l)) (backs i l)

left_none : (v : Way) (n : ℕ) (l : List ℕ) (i : ℕ) → Over v n i → left v n l i ≡ []
unfolding backs
left_none Up n l i h = read_regions_end i n (drop (24 * i) l) h
left_none Down n l i h = rw h

left_next : (v : Way) (n : ℕ) (l : List ℕ) (i : ℕ) → There v n i → left v n l i ≡ read_region (drop (24 * index v i) l) ∷ left v n l (after v i)
unfolding backs
left_next Up n l i h = read_regions_rest i n l h
left_next Down n l zero h = absurd (h refl)
left_next Down n l (suc i) h = let e : suc i - 1 ≡ i = omega arith in rw e

-- of a table
abbrev rest : Way → Records → ℕ → List Region
rest v t i = left v t.count t.bytes.now i

abbrev at_place : Way → Records → ℕ → Region
at_place v t i = read_region (drop (24 * index v i) t.bytes.now)

-- the bounds of the next record
abbrev bounds : Way → Records → ℕ → Bounds
bounds v t j = choose v (bounds_low t j) (bounds_high t j)

-- where there is none
abbrev edge : Way → ℕ
edge v = choose v 18446744073709551615 0

pub bounds_none : (v : Way) (t : Records) (j : ℕ) (e : Address) → e.0 ≡ edge v → Over v t.count j → record { base = e; end = e } ≡ bounds v t j
bounds_none Up t j e x h = rw (le-leb t.count j h) (λ i. record { base = record { 0 = x i }; end = record { 0 = x i } })
bounds_none Down t j e x h = rw (eq-eqb j 0 h) (λ i. record { base = record { 0 = x i }; end = record { 0 = x i } })

there : (v : Way) (t : Records) (j : ℕ) → There v t.count j → bounds v t j ≡ bounds_of (at_place v t j)
there Up t j h = rw (lt-leb t.count j h)
there Down t j h = rw (ne_eqb j 0 h)

pub bounds_some : (v : Way) (t : Records) (j : ℕ) (r : Region) (b : Bounds) → There v t.count j → r ≡ at_place v t j → b ≡ bounds_of r → b ≡ bounds v t j
bounds_some v t j r b h is e = e ∙ ap bounds_of is ∙ sym (there v t j h)

bounds_over : (v : Way) (t : Records) (j : ℕ) (b : Bounds) → Over v t.count j → b ≡ bounds v t j → (b.base.0 ≡ edge v) × (b.end.0 ≡ edge v)
bounds_over v t j b h e =
    let x = e ∙ sym (bounds_none v t j (record { 0 = edge v }) refl h) in
    (ap (λ (y : Bounds). y.base.0) x, ap (λ (y : Bounds). y.end.0) x)

-- ---- what is found first is the answer, and where nothing is found the rest gives it

place_first : (o : Option ℕ) (u A : Option Hit) (s : Answer Address) (a lo hi : Address) → s ≡ spot_of o → s ≡ Some a → or_else (hit_in lo.0 hi.0 o) u ≡ A
    → Some (record { at = a; run = record { low = lo; end = hi } }) ≡ place_of A
place_first none u A s a lo hi i g h = absurd (zero_not_one cc)
place_first (some x) u A s a lo hi i g h =
    let y : a ≡ record { 0 = x } = cc in
    ap (λ (b : Address). Some (record { at = b; run = record { low = lo; end = hi } })) y ∙ ap place_of h

place_next : (o : Option ℕ) (u A : Option Hit) (s : Answer Address) (lo hi : ℕ) → s ≡ spot_of o → s ≡ None → or_else (hit_in lo hi o) u ≡ A → u ≡ A
place_next none u A s lo hi i g h = h
place_next (some x) u A s lo hi i g h = absurd (zero_not_one cc)

-- ---- the steps

abbrev cut : Way → Query → ℕ → ℕ → Option ℕ
cut v = choose v cut_low cut_high

-- where the gap before the taken record t begins and ends
abbrev near_low : Way → Bounds → Address → Address
near_low v t x = choose v x t.end

abbrev near_high : Way → Bounds → Address → Address
near_high v t y = choose v t.base y

-- what is left behind t
abbrev far_low : Way → Bounds → ℕ → ℕ
far_low v t x = choose v (max x t.end.0) x

abbrev far_high : Way → Bounds → ℕ → ℕ
far_high v t y = choose v y (min y t.base.0)

-- where the last gap of a record ends, before t
abbrev last_low : Way → Bounds → ℕ → ℕ
last_low v t x = choose v x (max x t.end.0)

abbrev last_high : Way → Bounds → ℕ → ℕ
last_high v t y = choose v (min y t.base.0) y

-- t lies behind what is left of the record from lo to hi, or meets it; it reaches past it, or ends in it or with it
abbrev Behind : Way → Bounds → ℕ → ℕ → Type 0
Behind v t lo hi = choose v hi t.end.0 ≤ choose v t.base.0 lo

abbrev Meets : Way → Bounds → ℕ → ℕ → Type 0
Meets v t lo hi = choose v t.base.0 lo < choose v hi t.end.0

abbrev Reaches : Way → Bounds → ℕ → ℕ → Type 0
Reaches v t lo hi = choose v hi t.base.0 < choose v t.end.0 lo

abbrev Ends : Way → Bounds → ℕ → ℕ → Type 0
Ends v t lo hi = choose v t.end.0 lo ≤ choose v hi t.base.0

abbrev reaches : Way → Bounds → ℕ → ℕ → Bool
reaches v t lo hi = ltb (choose v hi t.base.0) (choose v t.end.0 lo)

-- such bounds meet nothing
never : (v : Way) (t : Bounds) → t.base.0 ≡ edge v → t.end.0 ≡ edge v → (lo hi : ℕ) → hi < 18446744073709551616 → Meets v t lo hi → ⊥
never Up t b e lo hi s l = omega arith
never Down t b e lo hi s l = omega arith

-- ---- a gap, by numbers, and the taken record behind it

abbrev gaps_in : Way → Query → (List Region → Option Hit) → ℕ → ℕ → List Region → Option Hit
gaps_in v q k lo hi ts = gaps v q k (near v lo hi) (far v lo hi) ts

module _ (q : Query) (k : List Region → Option Hit) (low lo top hi : Address) (from : lo.0 ≡ max low.0 q.start.0) (upto : hi.0 ≡ min top.0 q.end.0) where
  -- nothing is taken any more
  none_left : (v : Way) (e : Bounds) → top.0 < 18446744073709551616 → e.base.0 ≡ edge v → e.end.0 ≡ edge v
      → gaps_in v q k low.0 top.0 [] ≡ or_else (hit_in (last_low v e low.0) (last_high v e top.0) (cut v q lo.0 hi.0)) (k [])
  unfolding gaps fit_low fit_high
  none_left Up e s x y = let m : min top.0 e.base.0 ≡ top.0 = omega arith in rw (m, from, upto)
  none_left Down e s x y = let m : max low.0 e.end.0 ≡ low.0 = omega arith in rw (m, from, upto)

  module _ (r : Region) (us : List Region) (some : 0 < r.size.0) where
    -- the record lies behind it
    behind_it : (v : Way) → Behind v (bounds_of r) lo.0 hi.0 → gaps_in v q k low.0 top.0 (r ∷ us)
        ≡ or_else (hit_in (last_low v (bounds_of r) low.0) (last_high v (bounds_of r) top.0) (cut v q lo.0 hi.0)) (k (r ∷ us))
    unfolding gaps fit_low fit_high
    behind_it Up l =
        let x : ltb (min top.0 q.end.0) (end r) ≡ true = lt-ltb (min top.0 q.end.0) (end r) (omega arith) in
        let m : min (min top.0 r.base.0) q.end.0 ≡ hi.0 = omega arith in
        rw (x, m, ← from)
    behind_it Down l =
        let x : ltb r.base.0 (max low.0 q.start.0) ≡ true = lt-ltb r.base.0 (max low.0 q.start.0) (omega arith) in
        let m : max (max low.0 (end r)) q.start.0 ≡ lo.0 = omega arith in
        rw (x, m, ← upto)

    -- or in it
    in_it : (v : Way) → Meets v (bounds_of r) lo.0 hi.0 → gaps_in v q k low.0 top.0 (r ∷ us)
        ≡ or_else (hit_in (near_low v (bounds_of r) low).0 (near_high v (bounds_of r) top).0 (cut v q (near_low v (bounds_of r) lo).0 (near_high v (bounds_of r) hi).0))
        (cond (reaches v (bounds_of r) lo.0 hi.0) (k (r ∷ us)) (gaps_in v q k (far_low v (bounds_of r) low.0) (far_high v (bounds_of r) top.0) us))
    unfolding gaps fit_low fit_high
    in_it Up l =
        let m : min top.0 r.base.0 ≡ r.base.0 = omega arith in
        let x : min r.base.0 q.end.0 ≡ r.base.0 = omega arith in
        rw (m, x, ← from, ← upto)
    in_it Down l =
        let m : max low.0 (end r) ≡ end r = omega arith in
        let x : max (end r) q.start.0 ≡ end r = omega arith in
        rw (m, x, ← from, ← upto)

-- ---- the walks

module _ (v : Way) (tables : Tables) (q : Query) where
  -- the records left at i, over the taken records left at j
  unfoldable pub walk_from : ℕ → ℕ → Option Hit
  walk_from i j = walk v q (rest v tables.memory i) (rest v tables.taken j)

  -- the gaps from lo to hi, and then those records
  unfoldable pub gaps_from : ℕ → ℕ → ℕ → ℕ → Option Hit
  gaps_from i j lo hi = gaps_in v q (walk v q (rest v tables.memory i)) lo hi (rest v tables.taken j)

  -- where a walk stands
  pub record Stands (i j : ℕ) (t : Bounds) : Type 0 where
    pub ask : Searchable tables q
    pub count : tables.taken.count < 18446744073709551616
    pub few : i ≤ tables.memory.count
    pub places : j ≤ tables.taken.count
    pub next : t ≡ bounds v tables.taken j

  module _ (A : Option Hit) where
    -- what holds before each record, and in each gap
    pub record Walking (i j : ℕ) (t : Bounds) : Type 0 where
      pub stands : Stands i j t
      pub rest : walk_from i j ≡ A

    pub record Gap (i j : ℕ) (t : Bounds) (low lo top hi : Address) : Type 0 where
      pub stands : Stands i j t
      pub small : top.0 < 18446744073709551616
      pub from : lo.0 ≡ max low.0 q.start.0
      pub upto : hi.0 ≡ min top.0 q.end.0
      pub rest : gaps_from i j low.0 top.0 ≡ A

  -- past the next record, or the next taken record
  past_one : (i j : ℕ) (t : Bounds) → There v tables.memory.count i → Stands i j t → Stands (after v i) j t
  past_one i j t h s = record { ask = s.ask; count = s.count; few = fewer v tables.memory.count i h s.few; places = s.places; next = s.next }

  past_taken : (i j : ℕ) (t t' : Bounds) → There v tables.taken.count j → t' ≡ bounds v tables.taken (after v j) → Stands i j t → Stands i (after v j) t'
  past_taken i j t t' h e s = record { ask = s.ask; count = s.count; few = s.few; places = fewer v tables.taken.count j h s.places; next = e }

  module _ (A : Option Hit) (i j : ℕ) (t : Bounds) where
    pub over : Over v tables.memory.count i → Walking A i j t → None ≡ place_of A
    unfolding walk_from walk
    over h w = ap place_of (rw (left_none v tables.memory.count tables.memory.bytes.now i h) at w.rest)

    module _ (r : Region) (b : Bool) (h : There v tables.memory.count i) (e : r ≡ at_place v tables.memory i) (s : b ≡ serves (asks q) r) where
      pub skip : b ≡ false → Walking A i j t → Walking A (after v i) j t
      unfolding walk_from walk
      skip f w =
          let x : serves (asks q) (at_place v tables.memory i) ≡ false = rw e at (sym s ∙ f) in
          record { stands = past_one i j t h w.stands; rest = rw (left_next v tables.memory.count tables.memory.bytes.now i h, x) at w.rest }

      pub enter : b ≡ true → (lo top hi : Address) → lo.0 ≡ max r.base.0 q.start.0 → top.0 ≡ r.base.0 + r.size.0 → top.0 < 18446744073709551616
          → hi.0 ≡ min top.0 q.end.0 → Walking A i j t → Gap A (after v i) j t r.base lo top hi
      unfolding walk_from gaps_from walk
      enter f lo top hi x y z u w =
          let k : serves (asks q) (at_place v tables.memory i) ≡ true = rw e at (sym s ∙ f) in
          record { stands = past_one i j t h w.stands; small = z; from = x; upto = u; rest = rw (y, e) (rw (left_next v tables.memory.count tables.memory.bytes.now i h, k) at w.rest) }

    module _ (low lo top hi : Address) (g : Gap A i j t low lo top hi) where
      -- no taken record is left in the record
      at_last : Behind v t lo.0 hi.0 → or_else (hit_in (last_low v t low.0) (last_high v t top.0) (cut v q lo.0 hi.0)) (walk_from i j) ≡ A
      unfolding gaps_from walk_from
      at_last h = go (over_or_there v tables.taken.count j)
        where
          go : Over v tables.taken.count j ⊎ There v tables.taken.count j → or_else (hit_in (last_low v t low.0) (last_high v t top.0) (cut v q lo.0 hi.0)) (walk_from i j) ≡ A
          go (inl o) =
              let f = left_none v tables.taken.count tables.taken.bytes.now j o in
              let b = bounds_over v tables.taken j t o g.stands.next in
              rw f (sym (none_left q (walk v q (rest v tables.memory i)) low lo top hi g.from g.upto v t g.small b.0 b.1) ∙ rw f at g.rest)
          go (inr o) =
              let f = left_next v tables.taken.count tables.taken.bytes.now j o in
              let r = at_place v tables.taken j in
              let b : t ≡ bounds_of r = g.stands.next ∙ there v tables.taken j o in
              let s : 0 < r.size.0 = sized v Taken tables.taken.count j tables.taken.bytes.now g.stands.ask.tables.good_taken g.stands.places o in
              rw (b, f) (sym (behind_it q (walk v q (rest v tables.memory i)) low lo top hi g.from g.upto r (rest v tables.taken (after v j)) s v (rw b at h)) ∙ rw f at g.rest)

      module _ (l : Meets v t lo.0 hi.0) where
        pub present : There v tables.taken.count j
        present = go (over_or_there v tables.taken.count j)
          where
            go : Over v tables.taken.count j ⊎ There v tables.taken.count j → There v tables.taken.count j
            go (inr o) = o
            go (inl o) = let b = bounds_over v tables.taken j t o g.stands.next in absurd (never v t b.0 b.1 lo.0 hi.0 (omega (arith, g.small, g.upto)) l)

        at_taken : or_else (hit_in (near_low v t low).0 (near_high v t top).0 (cut v q (near_low v t lo).0 (near_high v t hi).0))
            (cond (reaches v t lo.0 hi.0) (walk_from i j) (gaps_from i (after v j) (far_low v t low.0) (far_high v t top.0))) ≡ A
        unfolding gaps_from walk_from
        at_taken =
            let f = left_next v tables.taken.count tables.taken.bytes.now j present in
            let r = at_place v tables.taken j in
            let b : t ≡ bounds_of r = g.stands.next ∙ there v tables.taken j present in
            let s : 0 < r.size.0 = sized v Taken tables.taken.count j tables.taken.bytes.now g.stands.ask.tables.good_taken g.stands.places present in
            rw (b, f) (sym (in_it q (walk v q (rest v tables.memory i)) low lo top hi g.from g.upto r (rest v tables.taken (after v j)) s v (rw b at l)) ∙ rw f at g.rest)

        pub less : remain v tables.taken.count (after v j) < remain v tables.taken.count j
        less = remain_less v tables.taken.count j present

        pub room : Room v j
        room = room_after v tables.taken.count j present g.stands.places g.stands.count

        module _ (s : Answer Address) (is : s ≡ spot_of (cut v q (near_low v t lo).0 (near_high v t hi).0)) where
          pub in_gap : (a : Address) → s ≡ Some a → Some (record { at = a; run = record { low = near_low v t low; end = near_high v t top } }) ≡ place_of A
          in_gap a y = place_first (cut v q (near_low v t lo).0 (near_high v t hi).0) _ A s a (near_low v t low) (near_high v t top) is y at_taken

          module _ (y : s ≡ None) where
            after_gap : cond (reaches v t lo.0 hi.0) (walk_from i j) (gaps_from i (after v j) (far_low v t low.0) (far_high v t top.0)) ≡ A
            after_gap = place_next (cut v q (near_low v t lo).0 (near_high v t hi).0) _ A s (near_low v t low).0 (near_high v t top).0 is y at_taken

            -- the taken record reaches past the record
            pub covered : Reaches v t lo.0 hi.0 → Walking A i j t
            covered h = record { stands = g.stands; rest = rw (lt-ltb (choose v hi.0 t.base.0) (choose v t.end.0 lo.0) h) at after_gap }

            -- or ends in it, or with it
            pub onward : (low' lo' top' hi' : Address) → low'.0 ≡ far_low v t low.0 → lo'.0 ≡ far_low v t lo.0 → top'.0 ≡ far_high v t top.0 → hi'.0 ≡ far_high v t hi.0
                → (t' : Bounds) → t' ≡ bounds v tables.taken (after v j) → Ends v t lo.0 hi.0 → Gap A i (after v j) t' low' lo' top' hi'
            onward low' lo' top' hi' a b c d t' e h =
                let k = cut_again v g.from g.upto g.small in
                record {
                  stands = past_taken i j t t' present e g.stands;
                  small = rw c k.1.1;
                  from = rw (a, b) k.0;
                  upto = rw (c, d) k.1.0;
                  rest = rw (a, c) (rw (le-ltb (choose v hi.0 t.base.0) (choose v t.end.0 lo.0) h) at after_gap);
                }
              where
                cut_again : (v : Way) → lo.0 ≡ max low.0 q.start.0 → hi.0 ≡ min top.0 q.end.0 → top.0 < 18446744073709551616
                    → (far_low v t lo.0 ≡ max (far_low v t low.0) q.start.0) × ((far_high v t hi.0 ≡ min (far_high v t top.0) q.end.0) × (far_high v t top.0 < 18446744073709551616))
                cut_again Up x y z = (omega arith, (omega arith, omega arith))
                cut_again Down x y z = (omega arith, (omega arith, omega arith))

      module _ (h : Behind v t lo.0 hi.0) (s : Answer Address) (is : s ≡ spot_of (cut v q lo.0 hi.0)) where
        pub in_last : (a x y : Address) → s ≡ Some a → x.0 ≡ last_low v t low.0 → y.0 ≡ last_high v t top.0 → Some (record { at = a; run = record { low = x; end = y } }) ≡ place_of A
        in_last a x y e l m = place_first (cut v q lo.0 hi.0) (walk_from i j) A s a x y is e (rw (l, m) (at_last h))

        pub leave : s ≡ None → Walking A i j t
        leave e =
            record { stands = g.stands; rest = place_next (cut v q lo.0 hi.0) (walk_from i j) A s (last_low v t low.0) (last_high v t top.0) is e (at_last h) }

-- ---- where they begin

-- no record ends at or below an address: there is none, or the first ends above it
module _ (n : ℕ) (l : List ℕ) (a : ℕ) where
  pub ended_none : n ≡ 0 → 0 ≡ ending_by a (read_regions n l)
  unfolding ending_by read_regions
  ended_none h = rw h

  pub ended_above : (n ≡ 0 → ⊥) → (b : Bool) → b ≡ leb (end (read_region (drop (24 * 0) l))) a → not b ≡ true → 0 ≡ ending_by a (read_regions n l)
  ended_above h b e f = omega (arith, ending_above a 0 n l (omega arith) (leb-false (end (read_region (drop (24 * 0) l))) a (sym e ∙ not-true b f)))

pub memory_table : (t : Tables) → GoodTables t → Table t.memory.bytes.now t.memory.count
memory_table t p = good_table_lem Memory t.memory.count t.memory.bytes.now p.room_memory p.good_memory

pub taken_table : (t : Tables) → GoodTables t → Table t.taken.bytes.now t.taken.count
taken_table t p = good_table_lem Taken t.taken.count t.taken.bytes.now p.room_taken p.good_taken

module _ (tables : Tables) (q : Query) where
  abbrev ms : List Region
  ms = memory_of tables

  abbrev ts : List Region
  ts = taken_of tables

  pub begin_up : (i k j : ℕ) (t : Bounds) → Searchable tables q → tables.taken.count < 18446744073709551616 → i ≡ ending_by q.start.0 ms
      → k ≡ ending_by q.start.0 ts → j ≡ k - 1 → t ≡ bounds_low tables.taken j → Walking Up tables q (first_in Up ms ts q) i j t
  unfolding walk_from
  begin_up i k j t p n a b c e =
      let x : i ≤ tables.memory.count = place_le tables.memory.bytes.now tables.memory.count q.start.0 i a in
      let y : j ≤ tables.taken.count = omega (arith, place_le tables.taken.bytes.now tables.taken.count q.start.0 k b) in
      let z : j ≡ ending_by q.start.0 ts - 1 = rw (← b) c in
      let m = good_rises Memory ms p.tables.good_memory in
      let u = good_rises Taken ts p.tables.good_taken in
      let f : first_in Up (drop i ms) (drop j ts) q ≡ first_in Up ms (drop j ts) q = rw a (from_memory q p.size ms (drop j ts) m) in
      let g : first_in Up ms (drop j ts) q ≡ first_in Up ms ts q = rw z (from_taken q p.size ms ts m u) in
      record {
        stands = record { ask = p; count = n; few = x; places = y; next = e };
        rest = rw (← drop_read i tables.memory.count tables.memory.bytes.now x, ← drop_read j tables.taken.count tables.taken.bytes.now y)
            (walk_first Up q (drop i ms) (drop j ts) p.size (power_some q.align.0 p.align) (canonical_drop i ms m) (canonical_drop j ts u) ∙ f ∙ g);
      }

  pub begin_down : (t : Bounds) → Searchable tables q → tables.taken.count < 18446744073709551616 → t ≡ bounds_high tables.taken tables.taken.count
      → Walking Down tables q (first_in Down ms ts q) tables.memory.count tables.taken.count t
  unfolding walk_from
  begin_down t p n e =
      record {
        stands = record { ask = p; count = n; few = omega arith; places = omega arith; next = e };
        rest = rw (backs_falling tables.memory.count tables.memory.bytes.now, backs_falling tables.taken.count tables.taken.bytes.now)
            (walk_first Down q ms ts p.size (power_some q.align.0 p.align) (good_rises Memory ms p.tables.good_memory) (good_rises Taken ts p.tables.good_taken));
      }

  -- the way that was asked is the one that was walked
  pub walked : (asked way : Way) → asked ≡ way → (f : Answer Spot) → f ≡ place_of (first_in way ms ts q) → f ≡ place_of (first_in asked ms ts q)
  walked asked way e f is = rw e is
