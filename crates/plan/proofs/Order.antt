-- The order of a plan's lines does not matter to the number and the block. Assumes nothing.
use Prim.Native.Nat.{ℕ, zero, suc, ◌<◌, min, max}
use native.Mathlib.Nat.{not-suc-le-zero, le_of_suc-le-suc}
use mathlib.Core.Path.{◌≡◌, refl, sym, ap, ◌∙◌}
use mathlib.Core.Bool.{Bool, true, false, cond, not, ◌||◌}
use mathlib.Core.List.{List, [], ◌∷◌, map, Permᴰ}
use mathlib.Core.Option.{Option, none, some}
use native.Mathlib.Omega.{arith}
use lib.Dec.{leb}
use lib.ListN.{length, take, length-map, get_or-map}
use Rattle.address.proofs.Tests.{no, clash, zero_not_one}
use Rattle.regions.specs.declared.Run.{Run}
use Rattle.regions.specs.declared.Region.{Region}
use Rattle.regions.specs.declared.State.TheVariants.{Present}
use Rattle.regions.specs.declared.Kind.TheVariants.{Taken}
use Rattle.regions.specs.Meaning.{at, shortest, top}
use Rattle.regions.specs.Runs.{run_of}
use Rattle.regions.proofs.Count.{agree}
use Rattle.block.specs.Block.{current, Contents, contents, good}
use Rattle.range.specs.Outcomes.{tag, store}
use Rattle.fits.specs.Eligible.{Gives}
use Rattle.fits.proofs.Extremes.{lowest_gives}
use Rattle.plan.specs.Answers.{Answer, answer}
use Rattle.plan.specs.declared.Line.{Line}
use Rattle.plan.specs.Plan.{range_of, lies, share, passes, any, line_at, faulty, first_fault, with_ranges, at_zero, verdict, plan}
use Rattle.plan.specs.Sentences.{SameInAnyOrder, OrderSentence}
use Rattle.std.proofs.lemmas.List.Folds.{list_any_at}
use Rattle.plan.proofs.Any.{any_found}

-- ---- lists in another order

same_length : {ls ms : List Line} → Permᴰ ls ms → length ls ≡ length ms
same_length Permᴰ.nil = refl
same_length (Permᴰ.cons p q) = ap suc (same_length q)
same_length (Permᴰ.swap p q) = refl
same_length (Permᴰ.trans p q) = same_length p ∙ same_length q

same_any : (p : Run → Bool) {ls ms : List Line} → Permᴰ ls ms → any p (map range_of ls) ≡ any p (map range_of ms)
same_any p Permᴰ.nil = refl
same_any p (Permᴰ.cons {a = k} {b = l} {l₁ = ls} {l₂ = ms} e q) = rw (e, same_any p q)
same_any p (Permᴰ.swap {a = k} {b = l} {a' = l'} {b' = k'} {l = ls} e f) = rw (e, f) (go (p (range_of k')) (p (range_of l')) (any p (map range_of ls)))
  where
    go : (t u v : Bool) → t || (u || v) ≡ u || (t || v)
    go true true v = refl
    go true false v = refl
    go false u v = refl
same_any p (Permᴰ.trans q r) = same_any p q ∙ same_any p r

share_turned : (r s : Run) → share r s ≡ share s r
share_turned r s =
    let e : max r.low.0 s.low.0 ≡ max s.low.0 r.low.0 = omega arith in
    let f : min r.end.0 s.end.0 ≡ min s.end.0 r.end.0 = omega arith in
    rw (e, f)

neither : (t u : Bool) → t || u ≡ false → (t ≡ false) × (u ≡ false)
neither true u e = absurd (zero_not_one cc)
neither false u e = (refl, e)

-- ---- no fault, said without indices

-- no line fails by itself, and none shares an address with one behind it
abbrev Clear : Contents → List Line → Type 0
Clear s [] = Unit {0}
Clear s (l ∷ ls) = (passes s l ≡ true) × ((any (share (range_of l)) (map range_of ls) ≡ false) × Clear s ls)

module _ (s : Contents) where
  swapped : (k l : Line) (ls : List Line) → Clear s (k ∷ l ∷ ls) → Clear s (l ∷ k ∷ ls)
  swapped k l ls (pk, (nk, (pl, (nl, c)))) =
      let n = neither (share (range_of k) (range_of l)) (any (share (range_of k)) (map range_of ls)) nk in
      let t : share (range_of l) (range_of k) ≡ false = share_turned (range_of l) (range_of k) ∙ n.0 in
      (pl, (rw (t, nl), (pk, (n.1, c))))

  pub record Both (ls ms : List Line) : Type 0 where
    there : Clear s ls → Clear s ms
    back : Clear s ms → Clear s ls

  clear_both : {ls ms : List Line} → Permᴰ ls ms → Both ls ms
  clear_both Permᴰ.nil = record { there = λ c. c; back = λ c. c }
  clear_both (Permᴰ.cons {a = k} {b = l} {l₁ = ls} {l₂ = ms} e q) =
      let h = clear_both q in
      let a : any (share (range_of k)) (map range_of ls) ≡ any (share (range_of k)) (map range_of ms) = same_any (share (range_of k)) q in
      rw (← e) (record { there = λ c. (c.0, (sym a ∙ c.1.0, h.there c.1.1)); back = λ c. (c.0, (a ∙ c.1.0, h.back c.1.1)) })
  clear_both (Permᴰ.swap {a = k} {b = l} {a' = l'} {b' = k'} {l = ls} e f) = rw (← e, ← f) (record { there = swapped k l ls; back = swapped l k ls })
  clear_both (Permᴰ.trans p q) =
      let h = clear_both p in
      let i = clear_both q in
      record { there = λ c. i.there (h.there c); back = λ c. h.back (i.back c) }

  -- a line shares an address with none of a list
  none_shared : (l : Line) (ls : List Line) → ((i : ℕ) → i < length ls → share (range_of (line_at ls i)) (range_of l) ≡ false) → any (share (range_of l)) (map range_of ls) ≡ false
  none_shared l ls h =
      no (any (share (range_of l)) (map range_of ls)) (λ e.
      let f = any_found (share (range_of l)) (run_of 0 0) (map range_of ls) e in
      let i : f.at < length ls = omega (arith, f.there, length-map ls range_of) in
      let y : share (range_of l) (range_of (line_at ls f.at)) ≡ true = rw (get_or-map range_of ls f.at (line_at [] 0)) at f.holds in
      clash (share (range_of l) (range_of (line_at ls f.at))) y (share_turned (range_of l) (range_of (line_at ls f.at)) ∙ h f.at i))

  one_shared : (l : Line) (ls : List Line) → any (share (range_of l)) (map range_of ls) ≡ false → (i : ℕ) → i < length ls → share (range_of (line_at ls i)) (range_of l) ≡ false
  one_shared l ls n i h =
      no (share (range_of (line_at ls i)) (range_of l)) (λ e.
      let y : share (range_of l) (range_of (line_at ls i)) ≡ true = share_turned (range_of l) (range_of (line_at ls i)) ∙ e in
      clash (any (share (range_of l)) (map range_of ls))
      (list_any_at (share (range_of l)) (map range_of ls) i (run_of 0 0) (omega (arith, length-map ls range_of)) (rw (get_or-map range_of ls i (line_at [] 0)) y))
      n)

  abbrev Unfaulted : List Line → Type 0
  Unfaulted ls = (i : ℕ) → i < length ls → faulty s ls i ≡ false

  -- the three tests of a line behind l
  behind : (p t u : Bool) → not p || (t || u) ≡ false → (t ≡ false) × (not p || u ≡ false)
  behind true t u e = neither t u e
  behind false t u e = absurd (zero_not_one cc)

  ahead : (p t u : Bool) → t ≡ false → not p || u ≡ false → not p || (t || u) ≡ false
  ahead true t u e f = rw e f
  ahead false t u e f = absurd (zero_not_one cc)

  first : (p : Bool) → not p || false ≡ false → p ≡ true
  first true e = refl
  first false e = absurd (zero_not_one cc)

  unfaulted_clear : (ls : List Line) → Unfaulted ls → Clear s ls
  unfaulted_clear [] f = tt
  unfaulted_clear (l ∷ ls) f =
      (first (passes s l) (f 0 (omega arith)), (none_shared l ls (λ i h. (parts i h).0), unfaulted_clear ls (λ i h. (parts i h).1)))
    where
      parts : (i : ℕ) → i < length ls → (share (range_of (line_at ls i)) (range_of l) ≡ false) × (faulty s ls i ≡ false)
      parts i h =
          behind (passes s (line_at ls i)) (share (range_of (line_at ls i)) (range_of l)) (any (share (range_of (line_at ls i))) (map range_of (take i ls)))
          (f (suc i) (omega arith))

  clear_unfaulted : (ls : List Line) → Clear s ls → Unfaulted ls
  clear_unfaulted [] c i h = absurd (not-suc-le-zero h)
  clear_unfaulted (l ∷ ls) c zero h = rw c.0
  clear_unfaulted (l ∷ ls) c (suc i) h =
      ahead (passes s (line_at ls i)) (share (range_of (line_at ls i)) (range_of l)) (any (share (range_of (line_at ls i))) (map range_of (take i ls)))
      (one_shared l ls c.1.0 i (le_of_suc-le-suc h)) (clear_unfaulted ls c.1.1 i (le_of_suc-le-suc h))

-- ---- the sentence

pub order_sentence : OrderSentence
unfolding plan
order_sentence b ls ms q =
    go (good current b) (leb (length ls) 64) (leb (length ms) 64) (ap (λ (n : ℕ). leb n 64) (same_length q))
    (first_fault s ls) (lowest_gives (faulty s ls) (length ls)) (first_fault s ms) (lowest_gives (faulty s ms) (length ms))
  where
    s : Contents
    s = contents current b

    same_list : shortest (with_ranges (map range_of ls) (at s.taken)) top ≡ shortest (with_ranges (map range_of ms) (at s.taken)) top
    same_list = agree (with_ranges (map range_of ls) (at s.taken)) (with_ranges (map range_of ms) (at s.taken)) top (λ a l. ap (λ (t : Bool). cond t (Present (tag 0 0)) (at s.taken a)) (same_any (lies a) q))

    alike : {x y : Answer} → x ≡ y → SameInAnyOrder x y
    alike e = record { number = ap (λ (a : Answer). a.number) e; block = ap (λ (a : Answer). a.block) e; index = λ n. ap (λ (a : Answer). a.index) e }

    go : (t u v : Bool) → u ≡ v → (o : Option ℕ) → Gives (faulty s ls) (λ y x. y < x) (length ls) o → (w : Option ℕ) → Gives (faulty s ms) (λ y x. y < x) (length ms) w
        → SameInAnyOrder (cond t (cond u (verdict current ls b o) (answer 14 b [])) (answer 1 b [])) (cond t (cond v (verdict current ms b w) (answer 14 b [])) (answer 1 b []))
    go false u v e o f w h = alike refl
    go true false false e o f w h = alike refl
    go true false true e o f w h = absurd (zero_not_one cc)
    go true true false e o f w h = absurd (zero_not_one cc)
    go true true true e none f none h = alike (ap (λ (xs : List Region). at_zero (store current Taken xs b)) same_list)
    go true true true e (some i) f (some j) h = record { number = refl; block = refl; index = λ n. absurd (n refl) }
    go true true true e none f (some j) h =
        absurd (clash (faulty s ms j) h.0 (clear_unfaulted s ms ((clear_both s q).there (unfaulted_clear s ls f)) j h.1.0))
    go true true true e (some i) f none h =
        absurd (clash (faulty s ls i) f.0 (clear_unfaulted s ls ((clear_both s q).back (unfaulted_clear s ms h)) i f.1.0))
