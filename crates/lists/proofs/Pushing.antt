-- A list built in a scratch table: appended, grown, put behind. Assumes nothing.
use Rattle.std.proofs.Common.{Option, Some, None}
use Prim.Native.Nat.{ℕ, ◌+◌, ◌*◌, ◌-◌, ◌/◌, ◌≤◌, ◌<◌, min, max}
use mathlib.Core.Path.{◌≡◌, refl, sym, ap, subst, ◌∙◌}
use mathlib.Core.Bool.{Bool, true, false, cond}
use mathlib.Core.List.{List, [], ◌∷◌, ◌++◌, append_assoc}
use native.Mathlib.Omega.{arith}
use lib.Dec.{leb}
use lib.ListN.{length, drop, length-append}
use lib.Seq.{sets}
use borrow.Author.Tests.{le-leb, lt-leb, leb-true, leb-false}
use Rattle.address.proofs.Tests.{zero_not_one}
use Rattle.address.specs.declared.Size.{Size}
use Rattle.regions.specs.declared.Tag.{Tag}
use Rattle.regions.specs.declared.Region.{Region}
use Rattle.regions.specs.declared.State.{State}
use Rattle.regions.specs.declared.State.TheVariants.{Absent, Present}
use Rattle.regions.specs.Meaning.{region, end, joins, join, push}
use Rattle.regions.specs.Bytes.{read_region, region_bytes, read_regions}
use Rattle.regions.specs.Steps.{stretch}
use Rattle.regions.proofs.Push.{joins_true}
use Rattle.regions.proofs.Count.{push_longer}
use Rattle.regions.proofs.Records.{Fit, put_here, put_before, read_regions_snoc, read_regions_length}
use Rattle.regions.proofs.RoundTrip.{join_snoc, push_absent, push_present}
use Rattle.lists.specs.declared.Built.{Built}
use Rattle.lists.specs.Steps.{fits_in, HoldsAfter, HoldsList, built_count, Became}

-- ---- what an answer tells

answer_count : (b : Bool) (m k : ℕ) → Some m ≡ cond b (Some k) None → (b ≡ true) × (m ≡ k)
answer_count true m k e = (refl, cc)
answer_count false m k e = absurd (zero_not_one cc)

answer_full : (b : Bool) (k : ℕ) → None ≡ cond b (Some k) None → b ≡ false
answer_full true k e = absurd (zero_not_one cc)
answer_full false k e = refl

module _ (l : List ℕ) (cap : ℕ) (xs : List Region) (a : Option ℕ) (p : HoldsList l cap xs a) where
  pub holds_count : (m : ℕ) → a ≡ Some m → (m ≤ cap) × (m ≡ length xs)
  unfolding fits_in
  holds_count m e =
      let z = answer_count (leb (length xs) cap) m (length xs) (sym e ∙ p.answer) in
      (omega (arith, leb-true (length xs) cap z.0, z.1), z.1)

  pub holds_list : (m : ℕ) → a ≡ Some m → read_regions m l ≡ xs
  holds_list m e = subst (λ (x : Option ℕ). HoldsAfter x l xs) e p.after

  pub holds_full : a ≡ None → cap < length xs
  unfolding fits_in
  holds_full e = leb-false (length xs) cap (answer_full (leb (length xs) cap) (length xs) (sym e ∙ p.answer))

-- ---- what makes an answer right

pub full_holds : (l : List ℕ) (cap : ℕ) (xs : List Region) → cap < length xs → HoldsList l cap xs None
unfolding fits_in
full_holds l cap xs h = record { answer = rw (lt-leb (length xs) cap h); after = tt }

count_holds : (l : List ℕ) (cap m : ℕ) (xs : List Region) → m ≤ cap → read_regions m l ≡ xs → HoldsList l cap xs (Some m)
unfolding fits_in
count_holds l cap m xs h e =
    let n : length xs ≡ m = ap (length {A = Region}) (sym e) ∙ read_regions_length m l in
    record { answer = rw (n, le-leb m cap h); after = e }

-- ---- a list that is being built

module _ (p q : Built) (xs : List Region) (a : Option (Unit {0})) (s : Became p q xs a) where
  pub became_count : (u : Unit {0}) → a ≡ Some u → 24 * q.count ≤ length p.out.now
  became_count u e =
      let h = holds_count q.out.now (length p.out.now / 24) xs _ s.holds q.count (ap (built_count q.count) e) in
      omega (arith, h.0)

  pub became_list : (u : Unit {0}) → a ≡ Some u → read_regions q.count q.out.now ≡ xs
  became_list u e = holds_list q.out.now (length p.out.now / 24) xs _ s.holds q.count (ap (built_count q.count) e)

  pub became_full : a ≡ None → length p.out.now / 24 < length xs
  became_full e = holds_full q.out.now (length p.out.now / 24) xs _ s.holds (ap (built_count q.count) e)

  pub all_built : (u : Unit {0}) → a ≡ Some u → HoldsList q.out.now (length p.out.now / 24) xs (Some q.count)
  all_built u e = rw e at s.holds

  pub full_left : a ≡ None → HoldsList q.out.now (length p.out.now / 24) xs None
  full_left e = rw e at s.holds

-- what it leaves in the bytes that it was lent
pub left : (p m : List ℕ) (xs : List Region) (l x : List ℕ) {a b : Option ℕ} → length p ≡ length m → x ≡ l → b ≡ a → HoldsList l (length p / 24) xs a → HoldsList x (length m / 24) xs b
left p m xs l x h e f s = rw (e, f, ← h) s

-- ---- append

module _ (l : List ℕ) (n cap : ℕ) (r : Region) where
  pub append_full : n ≡ cap → HoldsList l cap (read_regions n l ++ (r ∷ [])) None
  append_full e =
      let m : length (read_regions n l ++ (r ∷ [])) ≡ n + 1 = length-append (read_regions n l) (r ∷ []) ∙ rw read_regions_length in
      full_holds l cap (read_regions n l ++ (r ∷ [])) (omega arith)

  pub append_done : (l' : List ℕ) → n ≤ cap → (n ≡ cap → ⊥) → 24 * cap ≤ length l → Fit r → l' ≡ sets l (24 * n) (region_bytes r)
      → HoldsList l' cap (read_regions n l ++ (r ∷ [])) (Some (n + 1))
  append_done l' k e s f q =
      let a : 24 * n + 24 ≤ length l = omega arith in
      let z : read_regions (n + 1) l' ≡ read_regions n l ++ (r ∷ []) =
      rw q (rw (read_regions_snoc, put_before l (24 * n) r a n (omega arith), put_here l (24 * n) r a f)) in
      count_holds l' cap (n + 1) (read_regions n l ++ (r ∷ [])) (omega arith) z

-- ---- a region that grows

module _ (p r : Region) (j : joins p r.base.0 r.tag ≡ true) (h : end r < 18446744073709551616) where
  -- its size never passes the end
  pub grown_fits : p.size.0 + r.size.0 < 18446744073709551616
  grown_fits = let e = joins_true p r.base.0 r.tag j in omega arith

  pub grown_by : (s : Size) → s.0 ≡ p.size.0 + r.size.0 → record { base = p.base; size = s; tag = r.tag } ≡ region p.base.0 (p.size.0 + r.size.0) r.tag
  grown_by s v = λ i. record { base = p.base; size = record { 0 = v i }; tag = r.tag }

-- ---- push

module _ (l l' : List ℕ) (n cap : ℕ) (r : Region) where
  pub push_none : (a : Option ℕ) → n ≡ 0 → HoldsList l' cap (read_regions n l ++ (r ∷ [])) a
      → HoldsList l' cap (join (read_regions n l) r.base.0 r.size.0 r.tag) a
  unfolding join read_regions
  push_none a e h = rw e (rw e at h)

  module _ (p : Region) (b : Bool) (some : n ≡ 0 → ⊥) (here : p ≡ read_region (drop (24 * (n - 1)) l)) (q : b ≡ joins p r.base.0 r.tag) where
    split : read_regions n l ≡ read_regions (n - 1) l ++ (p ∷ [])
    split =
        let e : n ≡ n - 1 + 1 = omega arith in
        ap (λ (m : ℕ). read_regions m l) e ∙ read_regions_snoc (n - 1) l ∙ rw (← here)

    grown : (t : Bool) → b ≡ t → join (read_regions n l) r.base.0 r.size.0 r.tag
        ≡ read_regions (n - 1) l ++ cond t (region p.base.0 (p.size.0 + r.size.0) r.tag ∷ []) (p ∷ r ∷ [])
    unfolding join
    grown t e = rw (split, join_snoc, ← q, e)

    pub push_apart : (a : Option ℕ) → b ≡ false → HoldsList l' cap (read_regions n l ++ (r ∷ [])) a
        → HoldsList l' cap (join (read_regions n l) r.base.0 r.size.0 r.tag) a
    push_apart a t h =
        let e : join (read_regions n l) r.base.0 r.size.0 r.tag ≡ read_regions n l ++ (r ∷ []) =
        grown false t ∙ rw (split, append_assoc) in
        rw e h

    pub push_grow : b ≡ true → n ≤ cap → 24 * cap ≤ length l → (g : Region) → g ≡ region p.base.0 (p.size.0 + r.size.0) r.tag → Fit g
        → l' ≡ sets l (24 * (n - 1)) (region_bytes g) → HoldsList l' cap (join (read_regions n l) r.base.0 r.size.0 r.tag) (Some n)
    push_grow t k o g y f z =
        let a : 24 * (n - 1) + 24 ≤ length l = omega arith in
        let m : n ≡ n - 1 + 1 = omega arith in
        let e : read_regions n l' ≡ join (read_regions n l) r.base.0 r.size.0 r.tag =
        ap (λ (j : ℕ). read_regions j l') m ∙ rw (z, read_regions_snoc, put_before l (24 * (n - 1)) g a (n - 1) (omega arith), put_here l (24 * (n - 1)) g a f)
        (ap (λ (q : Region). read_regions (n - 1) l ++ (q ∷ [])) y ∙ sym (grown true t)) in
        count_holds l' cap n (join (read_regions n l) r.base.0 r.size.0 r.tag) k e

    pub joined : b ≡ true → joins p r.base.0 r.tag ≡ true
    joined t = sym q ∙ t

-- ---- one stretch of one state

module _ (l : List ℕ) (n cap c e : ℕ) where
  pub piece_absent : (v : State) → v ≡ Absent → n ≤ cap → HoldsList l cap (push (read_regions n l) c (e - c) v) (Some n)
  unfolding push
  piece_absent v a h = rw a (count_holds l cap n (read_regions n l) h refl)

  pub piece_empty : (v : State) (t : Tag) → v ≡ Present t → c ≡ e → n ≤ cap → HoldsList l cap (push (read_regions n l) c (e - c) v) (Some n)
  unfolding push
  piece_empty v t a q h =
      let z : e - c ≡ 0 = omega arith in
      rw (a, z) (count_holds l cap n (read_regions n l) h refl)

  pub piece_some : (v : State) (t : Tag) (s : ℕ) (l' : List ℕ) (a : Option ℕ) → v ≡ Present t → s ≡ e - c → c ≤ e → (c ≡ e → ⊥)
      → HoldsList l' cap (join (read_regions n l) c s t) a → HoldsList l' cap (push (read_regions n l) c (e - c) v) a
  piece_some v t s l' a q z h d p = rw (q, ← z, push_present (read_regions n l) c s t (omega arith)) p

-- ---- addresses that no record has: only what the change makes of them inside the range is put behind

module _ (k : State → State) (lo hi from to : ℕ) (v : State) (ev : v ≡ k Absent) where
  pub gap_kept : v ≡ Absent → (l : List ℕ) (n cap : ℕ) → n ≤ cap → HoldsList l cap (stretch k lo hi (read_regions n l) from to Absent) (Some n)
  unfolding stretch
  gap_kept e l n cap h = rw (← ev, e, push_absent, push_absent, push_absent) (count_holds l cap n (read_regions n l) h refl)

  pub gap_holds : (t : Tag) → v ≡ Present t → (acc : List Region) (b p : ℕ) → b ≡ max from (min lo to) → p ≡ max from (min hi to)
      → (l : List ℕ) (cap : ℕ) (a : Option ℕ) → HoldsList l cap (push acc b (p - b) (Present t)) a → HoldsList l cap (stretch k lo hi acc from to Absent) a
  unfolding stretch
  gap_holds t e acc b p eb ep l cap a h = rw (← ev, e, push_absent, push_absent) (rw (eb, ep) at h)

-- ---- a stretch cut at the ends of the edit's range: three pieces

module _ (k : State → State) (lo hi c e : ℕ) (v : State) (p₀ p₁ : Built) (b p : ℕ) (eb : b ≡ max c (min lo e)) (ep : p ≡ max c (min hi e))
    (a : Option (Unit {0})) (h : Became p₀ p₁ (push (read_regions p₀.count p₀.out.now) c (b - c) v) a) where
  one : List Region
  one = push (read_regions p₀.count p₀.out.now) c (b - c) v

  two : List Region
  two = push one b (p - b) (k v)

  whole : List Region
  whole = stretch k lo hi (read_regions p₀.count p₀.out.now) c e v

  pieces : whole ≡ push two p (e - p) v
  unfolding stretch whole two one
  pieces = rw (eb, ep)

  pub first_full : a ≡ None → (r : Option (Unit {0})) → r ≡ None → Became p₀ p₁ (stretch k lo hi (read_regions p₀.count p₀.out.now) c e v) r
  unfolding one two whole
  first_full f r g =
      let z : length p₀.out.now / 24 < length whole =
      rw pieces (omega (arith, became_full p₀ p₁ one a h f, push_longer one b (p - b) (k v), push_longer two p (e - p) v)) in
      record { same = h.same; long = h.long; holds = rw g (full_holds p₁.out.now (length p₀.out.now / 24) whole z) }

  module _ (i : Unit {0}) (f : a ≡ Some i) (u : State) (q : u ≡ k v) (p₂ : Built) (a' : Option (Unit {0}))
      (h' : Became p₁ p₂ (push (read_regions p₁.count p₁.out.now) b (p - b) u) a') where
    second : Became p₀ p₂ two a'
    unfolding one two
    second = record { same = h'.same ∙ h.same; long = h'.long ∙ h.long; holds = rw (became_list p₀ p₁ one a h i f, q, h.long) at h'.holds }

    pub second_full : a' ≡ None → (r : Option (Unit {0})) → r ≡ None → Became p₀ p₂ (stretch k lo hi (read_regions p₀.count p₀.out.now) c e v) r
    unfolding two whole
    second_full f' r g =
        let z : length p₀.out.now / 24 < length whole = rw pieces (omega (arith, became_full p₀ p₂ two a' second f', push_longer two p (e - p) v)) in
        record { same = second.same; long = second.long; holds = rw g (full_holds p₂.out.now (length p₀.out.now / 24) whole z) }

    pub third_holds : (i' : Unit {0}) → a' ≡ Some i' → (p₃ : Built) (a'' : Option (Unit {0})) → Became p₂ p₃ (push (read_regions p₂.count p₂.out.now) p (e - p) v) a''
        → Became p₀ p₃ (stretch k lo hi (read_regions p₀.count p₀.out.now) c e v) a''
    unfolding two whole
    third_holds i' f' p₃ a'' h'' =
        let s = second in
        record {
          same = h''.same ∙ s.same;
          long = h''.long ∙ s.long;
          holds = rw pieces (rw (became_list p₀ p₂ two a' s i' f', s.long) at h''.holds);
        }
