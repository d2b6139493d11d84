-- The lines judged one after the other come to what the definition says of the whole plan. Assumes nothing.
use Prim.Native.Nat.{ℕ, ◌+◌, ◌≤◌, ◌<◌, min, max}
use native.Mathlib.Nat.{not-suc-le-zero}
use mathlib.Core.Path.{◌≡◌, refl, sym, ap, ◌∙◌}
use mathlib.Core.Bool.{Bool, true, false, cond, not, ◌&&◌, ◌||◌}
use mathlib.Core.List.{List, [], ◌∷◌, ◌++◌, map, map-append, append-nil}
use mathlib.Core.Logic.{◌⊎◌, inl, inr}
use mathlib.Core.Option.{Option, none, some}
use native.Mathlib.Omega.{arith}
use lib.Dec.{leb, ltb}
use lib.ListN.{length, take, length-map, length-append, get_or-map}
use lib.Seq.{append_snoc, take_at, get_or-append_seam}
use borrow.Author.Tests.{leb-true, ltb-true, lt-ltb}
use Rattle.std.proofs.lemmas.List.{take-map}
use Rattle.std.proofs.Common.{Result, Ok, Err}
use Rattle.address.proofs.Tests.{clash, both, le_or_lt, zero_not_one}
use Rattle.regions.specs.declared.Run.{Run}
use Rattle.block.specs.Block.{current, Contents, contents, good}
use Rattle.fits.specs.Eligible.{lowest, Gives}
use Rattle.fits.proofs.Extremes.{lowest_gives}
use Rattle.refusals.specs.Numbers.{number}
use Rattle.range.specs.Outcomes.{outcome}
use Rattle.plan.specs.Answers.{Answer, answer, with_index}
use Rattle.plan.specs.declared.Fault.{Fault}
use Rattle.plan.specs.declared.Line.{Line}
use Rattle.refusals.specs.declared.Refusal.{Refusal}
use Rattle.refusals.specs.declared.Refusal.TheVariants.{Block, Lines, Line as LineFails}
use Rattle.plan.specs.Plan.{range_of, lies, share, passes, any, line_at, faulty, first_fault, at_zero, reserving, verdict, plan}
use Rattle.plan.specs.Steps.{begun, judged, judged_all, Apart, AllApart}
use Rattle.plan.proofs.Any.{any_none}
use Rattle.plan.proofs.Judging.{passes_fine}

-- the lowest number that passes, named
lowest_is : (p : ℕ → Bool) (n m : ℕ) → m < n → ((i : ℕ) → i < m → p i ≡ false) → p m ≡ true → lowest p n ≡ some m
lowest_is p n m l h e = go (lowest p n) (lowest_gives p n)
  where
    go : (o : Option ℕ) → Gives p (λ b a. b < a) n o → o ≡ some m
    go none g = absurd (clash (p m) e (g m l))
    go (some a) g = order (le_or_lt a m) (le_or_lt m a)
      where
        order : (a ≤ m) ⊎ (m < a) → (m ≤ a) ⊎ (a < m) → some a ≡ some m
        order (inl i) (inl j) = let f : a ≡ m = omega arith in ap some f
        order (inl i) (inr j) = absurd (clash (p a) g.0 (h a j))
        order (inr i) j = absurd (clash (p m) e (g.1.1 m l i))

lowest_none : (p : ℕ → Bool) (n : ℕ) → ((i : ℕ) → i < n → p i ≡ false) → lowest p n ≡ none
lowest_none p n h = go (lowest p n) (lowest_gives p n)
  where
    go : (o : Option ℕ) → Gives p (λ b a. b < a) n o → o ≡ none
    go none g = refl
    go (some a) g = absurd (clash (p a) g.0 (h a g.1.0))

-- ---- all lines

module _ (b : List ℕ) where
  abbrev c : Contents
  c = contents current b

  -- no line is at fault, and these are their ranges; or the first at fault is told
  data Told (r : Result (List Run) Fault) (ls : List Line) : Type 0 where
    accepted : r ≡ Ok (map range_of ls) → ((i : ℕ) → i < length ls → faulty c ls i ≡ false) → Told r ls
    refused : (i : ℕ) → r ≡ Err (record { refusal = LineFails; index = i }) → first_fault c ls ≡ some i → Told r ls

  -- the line behind those judged
  faulty_next : (ps ls : List Line) (l : Line) → faulty c (ps ++ (l ∷ ls)) (length ps) ≡ not (passes c l) || any (share (range_of l)) (map range_of ps)
  faulty_next ps ls l = rw (get_or-append_seam ps l ls, take_at ps (l ∷ ls) (length ps) refl)

  judged_next : (ps : List Line) (l : Line) (t : Bool) → not (passes c l) || any (share (range_of l)) (map range_of ps) ≡ t
      → judged c (map range_of ps) l ≡ cond t (Err (record { refusal = LineFails; index = length ps })) (Ok (range_of l))
  unfolding judged
  judged_next ps l t e = rw (length-map ps range_of, ← e) (go (passes c l) (any (share (range_of l)) (map range_of ps)) (Ok (range_of l)) (Err (record { refusal = LineFails; index = length ps })))
    where
      go : (p q : Bool) (x y : Result Run Fault) → cond (p && not q) x y ≡ cond (not p || q) y x
      go true true x y = refl
      go true false x y = refl
      go false q x y = refl

  all_judged : (ps ls : List Line) → ((i : ℕ) → i < length ps → faulty c (ps ++ ls) i ≡ false) → Told (judged_all c (map range_of ps) ls) (ps ++ ls)
  all_judged ps [] f = rw (append-nil ps) (accepted refl (rw (append-nil ps) at f))
  all_judged ps (l ∷ ls) f = go (faulty c (ps ++ (l ∷ ls)) (length ps)) refl (all_judged (ps ++ (l ∷ [])) ls)
    where
      go : (t : Bool) → faulty c (ps ++ (l ∷ ls)) (length ps) ≡ t
          → (((i : ℕ) → i < length (ps ++ (l ∷ [])) → faulty c ((ps ++ (l ∷ [])) ++ ls) i ≡ false) → Told (judged_all c (map range_of (ps ++ (l ∷ []))) ls) ((ps ++ (l ∷ [])) ++ ls))
          → Told (judged_all c (map range_of ps) (l ∷ ls)) (ps ++ (l ∷ ls))
      go true e ih =
          let longer : length ps < length (ps ++ (l ∷ ls)) = omega (arith, length-append ps (l ∷ ls)) in
          rw (judged_next ps l true (sym (faulty_next ps ls l) ∙ e), judged_all)
          (refused (length ps) refl (lowest_is (faulty c (ps ++ (l ∷ ls))) (length (ps ++ (l ∷ ls))) (length ps) longer f e))
      go false e ih =
          rw (judged_next ps l false (sym (faulty_next ps ls l) ∙ e), judged_all)
          (rw (append_snoc ps l ls, map-append range_of ps (l ∷ [])) at (ih (rw (append_snoc ps l ls) before)))
        where
          before : (i : ℕ) → i < length (ps ++ (l ∷ [])) → faulty c (ps ++ (l ∷ ls)) i ≡ false
          before i h = last (le_or_lt (length ps) i)
            where
              last : (length ps ≤ i) ⊎ (i < length ps) → faulty c (ps ++ (l ∷ ls)) i ≡ false
              last (inl k) = let z : i ≡ length ps = omega (arith, length-append ps (l ∷ [])) in rw z e
              last (inr k) = f i k

-- ---- what comes of it

-- a line that passes and shares nothing with the ranges before it can be filled behind them
line_apart : (b : List ℕ) → good current b ≡ true → (l : Line) (rs : List Run) → passes (contents current b) l ≡ true → any (share (range_of l)) rs ≡ false
    → Apart (contents current b).taken rs (range_of l)
line_apart b g l rs p n =
    let f = passes_fine b g l p in
    record {
      some = omega (arith, f.some);
      end = f.end;
      vacant = λ a i j.
          let e : any (lies a) rs ≡ false = any_none (lies a) (share (range_of l)) (shares a i j) rs n in
          rw e (f.vacant a i j);
    }
  where
    -- a range that has an address of the line's shares it
    shares : (a : ℕ) → l.at.0 ≤ a → a < l.at.0 + l.query.size.0 → (r : Run) → lies a r ≡ true → share (range_of l) r ≡ true
    shares a i j r e =
        let q = both (leb r.low.0 a) (ltb a r.end.0) e in
        let u = leb-true r.low.0 a q.0 in
        let v = ltb-true a r.end.0 q.1 in
        lt-ltb (max l.at.0 r.low.0) (min (l.at.0 + l.query.size.0) r.end.0) (omega arith)

-- no fault
pub unfaulted : (p q : Bool) → not p || q ≡ false → (p ≡ true) × (q ≡ false)
unfaulted true q e = (refl, e)
unfaulted false q e = absurd (zero_not_one cc)

lines_apart : (b : List ℕ) → good current b ≡ true → (ls : List Line) → ((i : ℕ) → i < length ls → faulty (contents current b) ls i ≡ false)
    → AllApart (contents current b).taken (map range_of ls)
lines_apart b g ls f i l =
    let k : i < length ls = omega (arith, length-map ls range_of) in
    let l₀ : Line = line_at ls i in
    let p = unfaulted (passes (contents current b) l₀) (any (share (range_of l₀)) (map range_of (take i ls))) (f i k) in
    rw (take-map range_of i ls, get_or-map range_of ls i (line_at [] 0)) (line_apart b g l₀ (map range_of (take i ls)) p.0 p.1)

-- ---- the answer

abbrev done : Unit {0}
done = tt

module _ (b : List ℕ) (ls : List Line) (n : ℕ) (m : n ≡ length ls) where
  pub told_begun : (e : Refusal) → Err e ≡ begun b n → with_index 0 (answer (number e) b []) ≡ plan current ls b
  unfolding begun plan
  told_begun e h = go (good current b) (leb (length ls) 64) (rw m at h)
    where
      go : (t u : Bool) → Err e ≡ cond t (cond u (Ok done) (Err Lines)) (Err Block)
          → with_index 0 (answer (number e) b []) ≡ cond t (cond u (verdict current ls b (first_fault (contents current b) ls)) (answer 14 b [])) (answer 1 b [])
      go true true q = cc
      go true false q = let p : e ≡ Lines = cc in rw p
      go false u q = let p : e ≡ Block = cc in rw p

  module _ (h : Ok tt ≡ begun b n) where
    begun_is : (good current b ≡ true) × (leb (length ls) 64 ≡ true)
    unfolding begun
    begun_is = go (good current b) (leb (length ls) 64) (rw m at h)
      where
        go : (t u : Bool) → Ok tt ≡ cond t (cond u (Ok done) (Err Lines)) (Err Block) → (t ≡ true) × (u ≡ true)
        go true true q = (refl, refl)
        go true false q = cc
        go false u q = cc

    pub begun_good : good current b ≡ true
    begun_good = begun_is.0

    pub begun_few : length ls ≤ 64
    begun_few = leb-true (length ls) 64 begun_is.1

    plan_is : plan current ls b ≡ verdict current ls b (first_fault (contents current b) ls)
    unfolding plan
    plan_is = rw (begun_is.0, begun_is.1)

    pub told_fault : (f : Fault) → Err f ≡ judged_all (contents current b) [] ls → with_index f.index (answer (number f.refusal) b []) ≡ plan current ls b
    told_fault f e = go (all_judged b [] ls (λ i l. absurd (not-suc-le-zero l))) ∙ sym plan_is
      where
        go : Told b (judged_all (contents current b) [] ls) ls → with_index f.index (answer (number f.refusal) b []) ≡ verdict current ls b (first_fault (contents current b) ls)
        go (accepted p u) = cc
        go (refused i p o) = let q : f ≡ record { refusal = LineFails; index = i } = cc in rw (q, o)

    module _ (rs : List Run) (e : Ok rs ≡ judged_all (contents current b) [] ls) where
      -- no line is at fault
      record Sound : Type 0 where
        ranges : rs ≡ map range_of ls
        clean : (i : ℕ) → i < length ls → faulty (contents current b) ls i ≡ false

      sound : Sound
      sound = go (all_judged b [] ls (λ i l. absurd (not-suc-le-zero l)))
        where
          go : Told b (judged_all (contents current b) [] ls) ls → Sound
          go (accepted p u) = record { ranges = cc; clean = u }
          go (refused i p o) = absurd cc

      pub told_apart : AllApart (contents current b).taken rs
      told_apart = rw sound.ranges (lines_apart b begun_good ls sound.clean)

      pub told_reserved : (n : ℕ) (d : List ℕ) (xs : List Run) → outcome n d ≡ reserving current xs b → xs ≡ rs → with_index 0 (answer n d []) ≡ plan current ls b
      told_reserved n d xs q w =
          let o = lowest_none (faulty (contents current b) ls) (length ls) sound.clean in
          ap at_zero (rw (w, sound.ranges) at q) ∙ sym (plan_is ∙ rw o)

-- ---- the whole

-- the lines judged behind the block's check: their ranges, or the first fault
abbrev pub walked : List ℕ → List Line → Result (List Run) Fault
walked b ls = elim (begun b (length ls)) [ Ok u ↦ judged_all (contents current b) [] ls | Err e ↦ Err (record { refusal = e; index = 0 }) ]

-- what comes of that
abbrev pub ended : List ℕ → Result (List Run) Fault → Answer
ended b (Ok rs) = at_zero (reserving current rs b)
ended b (Err f) = with_index f.index (answer (number f.refusal) b [])

pub ended_all : (b : List ℕ) (ls : List Line) → ended b (walked b ls) ≡ plan current ls b
ended_all b ls = go (begun b (length ls)) refl
  where
    after : Ok tt ≡ begun b (length ls) → (x : Result (List Run) Fault) → x ≡ judged_all (contents current b) [] ls → ended b x ≡ plan current ls b
    after h (Err f) e = told_fault b ls (length ls) refl h f e
    after h (Ok rs) e = let o = reserving current rs b in told_reserved b ls (length ls) refl h rs e o.number o.block rs refl refl

    go : (x : Result Unit Refusal) → x ≡ begun b (length ls)
        → ended b (elim x [ Ok u ↦ judged_all (contents current b) [] ls | Err e ↦ Err (record { refusal = e; index = 0 }) ]) ≡ plan current ls b
    go (Err e) h = told_begun b ls (length ls) refl e h
    go (Ok u) h = after h (judged_all (contents current b) [] ls) refl

-- lines that were judged with no fault stand on a good block, are 64 at most, and their ranges can be filled in turn
pub record Placeable (b : List ℕ) (ls : List Line) (rs : List Run) : Type 0 where
  pub good : good current b ≡ true
  pub few : length ls ≤ 64
  pub apart : AllApart (contents current b).taken rs

pub placeable_all : (b : List ℕ) (ls : List Line) (rs : List Run) → Ok rs ≡ walked b ls → Placeable b ls rs
placeable_all b ls rs e = go (begun b (length ls)) refl e
  where
    go : (x : Result Unit Refusal) → x ≡ begun b (length ls)
        → ◌≡◌ {A = Result (List Run) Fault} (Ok rs) (elim x [ Ok u ↦ judged_all (contents current b) [] ls | Err f ↦ Err (record { refusal = f; index = 0 }) ]) → Placeable b ls rs
    go (Err f) h q = absurd cc
    go (Ok u) h q = record { good = begun_good b ls (length ls) refl h; few = begun_few b ls (length ls) refl h; apart = told_apart b ls (length ls) refl h rs q }
