-- What eligible comes to for an address and for a stretch of addresses, and that find gives an eligible one. Assumes nothing.
use Prim.Native.Nat.{ℕ, ◌+◌, ◌%◌, ◌≤◌, ◌<◌}
use mathlib.Core.Path.{◌≡◌, refl, ap, ◌∙◌}
use mathlib.Core.Bool.{Bool, true, false, ◌&&◌, cond, not}
use mathlib.Core.List.{List}
use mathlib.Core.Option.{Option, none, some}
use native.Mathlib.Omega.{arith}
use lib.Dec.{leb, eqb}
use borrow.Author.Tests.{leb-true, le-leb, eq-eqb, eqb-true}
use Rattle.address.proofs.Tests.{both, and, no, iff, zero_not_one}
use Rattle.regions.specs.declared.Region.{Region}
use Rattle.regions.specs.declared.Tag.{Tag}
use Rattle.regions.specs.declared.State.{State}
use Rattle.regions.specs.declared.State.TheVariants.{Absent, Present}
use Rattle.regions.specs.Meaning.{at}
use Rattle.regions.specs.Free.{usable}
use Rattle.regions.specs.Runs.{in_one, run_at}
use Rattle.regions.specs.Changes.{has}
use Rattle.regions.proofs.Lying.{passes, in_none, in_run, one_in, Agree, turned, run_same, one_same}
use Rattle.regions.proofs.Rises.{Rises, Canonical}
use Rattle.fits.specs.declared.Query.{Query}
use Rattle.fits.specs.Eligible.{asks, eligible, Gives, Lies}
use Rattle.fits.specs.Places.{hit_of}
use Rattle.fits.specs.Steps.{serves}
use Rattle.fits.specs.declared.Way.{Way}
use Rattle.fits.specs.declared.Way.TheVariants.{Up, Down}
use Rattle.fits.proofs.Ways.{From, last}
use Rattle.fits.proofs.Fits.{in_window}

-- an address is eligible exactly when it lies so
pub eligible_lies : (q : Query) (runs : List Region) (a : ℕ) → eligible q runs a ≡ true → Lies q runs a
unfolding eligible
eligible_lies q runs a e =
    let w : Bool = leb q.start.0 a && leb (a + q.size.0) q.end.0 in
    let p = both (eqb (a % q.align.0) 0) (w && in_one (asks q) q.size.0 a runs) e in
    let r = both w (in_one (asks q) q.size.0 a runs) p.1 in
    let t = both (leb q.start.0 a) (leb (a + q.size.0) q.end.0) r.0 in
    record { aligned = eqb-true (a % q.align.0) 0 p.0; start = leb-true q.start.0 a t.0; end = leb-true (a + q.size.0) q.end.0 t.1; run = r.1 }

pub lies_eligible : (q : Query) (runs : List Region) (a : ℕ) → Lies q runs a → eligible q runs a ≡ true
unfolding eligible
lies_eligible q runs a l =
    and (eq-eqb (a % q.align.0) 0 l.aligned)
    (and (and (le-leb q.start.0 a l.start) (le-leb (a + q.size.0) q.end.0 l.end)) l.run)

and_false : (a b : Bool) → b ≡ false → a && b ≡ false
and_false true b e = e
and_false false b e = refl

-- eligible: in the window, and in a run
eligible_is : (q : Query) (xs : List Region) (a : ℕ) → eligible q xs a ≡ in_window q a && in_one (asks q) q.size.0 a xs
unfolding eligible
eligible_is q xs a = go (eqb (a % q.align.0) 0)
  where
    go : (b : Bool) → b && ((leb q.start.0 a && leb (a + q.size.0) q.end.0) && in_one (asks q) q.size.0 a xs) ≡ (b && (leb q.start.0 a && leb (a + q.size.0) q.end.0)) && in_one (asks q) q.size.0 a xs
    go true = refl
    go false = refl

-- ---- eligible, stretch by stretch

module _ (q : Query) (pos : 0 < q.size.0) {c n : ℕ} {v : State} {xs : List Region} (w : Rises c v n xs) where
  pub none_eligible : (a : ℕ) → passes (asks q) (at xs a) ≡ false → eligible q xs a ≡ false
  none_eligible a h = eligible_is q xs a ∙ and_false (in_window q a) (in_one (asks q) q.size.0 a xs) (in_none (asks q) q.size.0 a pos w h)

  pub eligible_here : (lo hi : ℕ) (t : Tag) → asks q t ≡ true → ((a : ℕ) → lo ≤ a → a < hi → at xs a ≡ Present t) → (at xs hi ≡ Present t → ⊥)
      → (a : ℕ) → lo ≤ a → a < hi → eligible q xs a ≡ in_window q a && leb (a + q.size.0) hi
  eligible_here lo hi t e f g a l m =
      eligible_is q xs a ∙ ap (λ (b : Bool). in_window q a && b) (in_run (asks q) q.size.0 a pos w t hi m (λ b i j. f b (omega arith) j) g e)

-- nothing from the end of the window on is eligible, in the order of a walk
pub past_window : (v : Way) (q : Query) (xs : List Region) (a : ℕ) → 0 < q.size.0 → From v (last v q) a → eligible q xs a ≡ false
past_window Up q xs a s h = no (eligible q xs a) (λ t. omega (arith, (eligible_lies q xs a t).end))
past_window Down q xs a s h = no (eligible q xs a) (λ t. omega (arith, (eligible_lies q xs a t).start))

-- ---- runs that agree on the tags asked for, from where the window begins, or below

module _ (q : Query) (pos : 0 < q.size.0) (d : ℕ) (l : d ≤ q.start.0) where
  still : {n : ℕ} {xs ys : List Region} → Canonical n xs → Canonical n ys → Agree (asks q) xs ys d → (a : ℕ) → eligible q xs a ≡ true → eligible q ys a ≡ true
  still {n} {xs} {ys} w v g a e =
      let k = eligible_lies q xs a e in
      lies_eligible q ys a (record { aligned = k.aligned; start = k.start; end = k.end; run = one_same w v (asks q) d a g (omega (arith, k.start)) q.size.0 pos k.run })

  module _ {n : ℕ} {xs ys : List Region} (w : Canonical n xs) (v : Canonical n ys) (g : Agree (asks q) xs ys d) where
    -- the same addresses are eligible
    pub eligible_same : (a : ℕ) → eligible q xs a ≡ eligible q ys a
    eligible_same a = iff (eligible q xs a) (eligible q ys a) (still w v g a) (still v w (turned (asks q) xs ys d g) a)

    -- and have the same runs
    pub hits_same : (beyond : ℕ → ℕ → Type 0) (m : ℕ) (o : Option ℕ) → Gives (eligible q xs) beyond m o → hit_of (run_at xs) o ≡ hit_of (run_at ys) o
    hits_same beyond m none f = refl
    hits_same beyond m (some a) f =
        let k = eligible_lies q xs a f.0 in
        let s = (one_in (asks q) q.size.0 a w k.run).same in
        let r = run_same w v (asks q) d a g (omega (arith, k.start)) s.tag s.right (s.all a (omega arith) (omega arith)) in
        λ i. some (record { at = a; run = r i })

-- ---- a record

-- a record that does not serve holds no address asked for
pub not_serving : (p : Tag → Bool) (r : Region) → serves p r ≡ false → passes p (usable (Present r.tag)) ≡ false
not_serving p r e = go (has 4 r.tag.flags) e
  where
    go : (b : Bool) → not b && p r.tag ≡ false → passes p (cond b Absent (Present r.tag)) ≡ false
    go true e = refl
    go false e = e

pub does_serve : (p : Tag → Bool) (r : Region) → serves p r ≡ true → (usable (Present r.tag) ≡ Present r.tag) × (p r.tag ≡ true)
does_serve p r e = go (has 4 r.tag.flags) e
  where
    go : (b : Bool) → not b && p r.tag ≡ true → (cond b Absent (Present r.tag) ≡ Present r.tag) × (p r.tag ≡ true)
    go true e = absurd (zero_not_one cc)
    go false e = (refl, e)
