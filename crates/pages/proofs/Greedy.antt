-- The pieces are E14's cut of each run from the bottom. Assumes nothing.
use Prim.Native.Nat.{ℕ, zero, suc, ◌+◌, ◌-◌, ◌*◌, ◌%◌, ◌^◌, ◌≤◌, ◌<◌}
use mathlib.Core.Path.{◌≡◌, refl, ap, ap₂, ◌∙◌}
use mathlib.Core.Bool.{Bool, true, false, ◌&&◌}
use mathlib.Core.List.{List, [], ◌∷◌, ◌++◌}
use mathlib.Core.Option.{Option, none, some}
use mathlib.Core.Logic.{◌⊎◌, inl, inr}
use native.Mathlib.Omega.{arith}
use native.Mathlib.Nat.{mod-one, le_trans}
use lib.Dec.{leb, eqb}
use lib.Pow.{pow_pos}
use borrow.Author.Tests.{eq-eqb, eqb-true, eqb-false, le-leb, leb-true, leb-false}
use Rattle.address.specs.Numbers.{down}
use Rattle.address.proofs.Tests.{both, and, clash, le_or_lt}
use Rattle.address.proofs.Rounding.{down_le, down_near, down_multiple, next_multiple}
use Rattle.regions.specs.declared.Region.{Region}
use Rattle.regions.specs.declared.State.{State}
use Rattle.regions.specs.Meaning.{top, top_is}
use Rattle.regions.proofs.Rises.{Rises, ended, next, Canonical}
use Rattle.regions.proofs.RoundTrip.{rises_end}
use Rattle.pages.specs.declared.Piece.{Piece}
use Rattle.pages.specs.Pages.{piece, whole, PageTest, order_at, pieces, pieces_from, page_top, page_top_is}
use Rattle.pages.specs.Cut.{cut_order, cut_step, cut, cuts, first_page, past_page}
use Rattle.pages.specs.Steps.{within}
use Rattle.pages.proofs.Dyadic.{down_unique, down_same, down_odd, multiple_below, multiple_next}
use Rattle.fits.proofs.Extremes.{highest_gives}
use Rattle.fits.proofs.Stretches.{highest_agree}
use Rattle.pages.proofs.Orders.{tested, Largest}
use Rattle.pages.proofs.Listing.{starts_at, pieces_none, pieces_bare, pieces_skip, pieces_split, pieces_one}
use Rattle.pages.proofs.Runs.{past_run, before_run, in_run, no_run}

-- what the cut tests
abbrev fitting : ℕ → ℕ → ℕ → Bool
fitting c l o = eqb (c % 2 ^ o) 0 && leb (c + 2 ^ o) l

cut_largest : (c l : ℕ) (o : Option ℕ) → cut_order c l ≡ o → Largest (fitting c l) o
unfolding cut_order
cut_largest c l o e = rw e at (highest_gives (fitting c l) 11)

cut_none : (c l : ℕ) → cut_order c l ≡ none → l ≤ c
cut_none c l e =
    let x = cut_largest c l none e 0 (omega arith) in
    let z : leb (c + 2 ^ 0) l ≡ false = rw (eq-eqb (c % 2 ^ 0) 0 (mod-one c)) at x in
    omega (arith, leb-false (c + 2 ^ 0) l z)

module _ (f l : ℕ) where
  -- c lies inside no piece that fits from f to l
  abbrev Edge : ℕ → Type 0
  Edge c = (o : ℕ) → o < 11 → within f l o (down c (2 ^ o)) ≡ true → down c (2 ^ o) ≡ c

  edge_first : Edge f
  edge_first o h e =
      let p = both (leb f (down f (2 ^ o))) (leb (down f (2 ^ o) + 2 ^ o) l) e in
      omega (arith, leb-true f (down f (2 ^ o)) p.0, down_le f (2 ^ o) (pow_pos o))

  module _ (c : ℕ) (low : f ≤ c) (edge : Edge c) where
    edge_test : (o : ℕ) → o < 11 → within f l o (down c (2 ^ o)) ≡ fitting c l o
    edge_test o h = go (within f l o (down c (2 ^ o))) refl (eqb (c % 2 ^ o) 0) refl (leb (c + 2 ^ o) l) refl
      where
        go : (t : Bool) → within f l o (down c (2 ^ o)) ≡ t → (u : Bool) → eqb (c % 2 ^ o) 0 ≡ u → (v : Bool) → leb (c + 2 ^ o) l ≡ v → t ≡ u && v
        go true e true x true y = refl
        go true e true x false y =
            let d = edge o h e in
            let p = both (leb f (down c (2 ^ o))) (leb (down c (2 ^ o) + 2 ^ o) l) e in
            let i = leb-true (down c (2 ^ o) + 2 ^ o) l p.1 in
            absurd (omega (arith, leb-false (c + 2 ^ o) l y))
        go true e false x v y = absurd (eqb-false (c % 2 ^ o) 0 x (down_odd c (2 ^ o) (edge o h e)))
        go false e true x true y =
            let d = down_same c (2 ^ o) (eqb-true (c % 2 ^ o) 0 x) in
            let i = le-leb f (down c (2 ^ o)) (omega arith) in
            let j = le-leb (down c (2 ^ o) + 2 ^ o) l (omega (arith, leb-true (c + 2 ^ o) l y)) in
            absurd (clash (within f l o (down c (2 ^ o))) (and i j) e)
        go false e true x false y = refl
        go false e false x v y = refl

    edge_order : order_at (within f l) c ≡ cut_order c l
    unfolding order_at cut_order
    edge_order = highest_agree (tested (within f l) c) (fitting c l) 11 edge_test

    edge_next : (g : ℕ) → Largest (fitting c l) (some g) → Edge (c + 2 ^ g)
    edge_next g m o h e = go (le_or_lt o g)
      where
        even : c % 2 ^ g ≡ 0
        even = eqb-true (c % 2 ^ g) 0 (both (eqb (c % 2 ^ g) 0) (leb (c + 2 ^ g) l) m.0).0

        b : ℕ
        b = down (c + 2 ^ g) (2 ^ o)

        bm : b % 2 ^ o ≡ 0
        bm = down_multiple (c + 2 ^ g) (2 ^ o) (pow_pos o)

        not_above : g < o → b < c + 2 ^ g → (b ≤ c) ⊎ (c < b) → b ≤ c
        not_above i j (inl k) = k
        not_above i j (inr k) =
            let n = next_multiple c (2 ^ g) (pow_pos g) b k (multiple_below b g o (omega arith) bm) in
            absurd (omega (arith, down_same c (2 ^ g) even))

        inner : g < o → b < c + 2 ^ g → ⊥
        inner i j =
            let k = not_above i j (le_or_lt b c) in
            let n = down_near (c + 2 ^ g) (2 ^ o) (pow_pos o) in
            let d = down_unique c (2 ^ o) b bm k (omega (arith, pow_pos g)) in
            let w : within f l o (down c (2 ^ o)) ≡ true = rw d e in
            clash (within f l o (down c (2 ^ o))) w (edge_test o h ∙ m.1.1 o h i)

        at : g < o → (c + 2 ^ g ≤ b) ⊎ (b < c + 2 ^ g) → b ≡ c + 2 ^ g
        at i (inl j) = omega (arith, down_le (c + 2 ^ g) (2 ^ o) (pow_pos o))
        at i (inr j) = absurd (inner i j)

        go : (o ≤ g) ⊎ (g < o) → b ≡ c + 2 ^ g
        go (inl i) = down_same (c + 2 ^ g) (2 ^ o) (multiple_below (c + 2 ^ g) o g i (multiple_next c (2 ^ g) even))
        go (inr i) = at i (le_or_lt (c + 2 ^ g) b)

  module _ (free : PageTest) (same : (q : ℕ) → f ≤ q → q < l → order_at free q ≡ order_at (within f l) q) where
    cut_pieces : (n c : ℕ) → l - c ≤ n → f ≤ c → Edge c → pieces free c (l - c) ≡ cut n c l
    unfolding cut
    cut_pieces zero c h low edge = pieces_none free c (l - c) (omega arith)
    cut_pieces (suc n) c h low edge = go (cut_order c l) refl (λ d x y z. cut_pieces n d x y z)
      where
        go : (v : Option ℕ) → cut_order c l ≡ v → ((d : ℕ) → l - d ≤ n → f ≤ d → Edge d → pieces free d (l - d) ≡ cut n d l)
            → pieces free c (l - c) ≡ cut_step c v (λ d. cut n d l)
        go none e ih = pieces_none free c (l - c) (omega (arith, cut_none c l e))
        go (some g) e ih =
            let m = cut_largest c l (some g) e in
            let p = both (eqb (c % 2 ^ g) 0) (leb (c + 2 ^ g) l) m.0 in
            let i = leb-true (c + 2 ^ g) l p.1 in
            let j = pow_pos g in
            let o = same c low (omega arith) ∙ edge_order c low edge ∙ e in
            let k : l - c ≡ 2 ^ g + (l - (c + 2 ^ g)) = omega arith in
            rw (k, pieces_one free c g (l - (c + 2 ^ g)) o (eqb-true (c % 2 ^ g) 0 p.0))
            (ap (λ (t : List Piece). piece c g ∷ t) (ih (c + 2 ^ g) (omega arith) (omega arith) (edge_next c low edge g m)))

    -- the pages from f to l, cut
    pub run_pieces : pieces free f (l - f) ≡ cut (l - f) f l
    run_pieces = cut_pieces (l - f) f (omega arith) (omega arith) edge_first

-- from p on none begins before f: the pages from f to l, and those from l on
stretch : (free : PageTest) (p f l t : ℕ) → p ≤ f → p ≤ l → l ≤ t → ((q : ℕ) → p ≤ q → q < f → starts_at free q ≡ [])
    → pieces free p (t - p) ≡ pieces free f (l - f) ++ pieces free l (t - l)
stretch free p f l t a b c h = go (le_or_lt f l)
  where
    go : (f ≤ l) ⊎ (l < f) → pieces free p (t - p) ≡ pieces free f (l - f) ++ pieces free l (t - l)
    go (inl i) =
        let d : t - p ≡ (f - p) + ((l - f) + (t - l)) = omega arith in
        let e : p + (f - p) ≡ f = omega arith in
        let g : f + (l - f) ≡ l = omega arith in
        rw (d, pieces_skip free p (f - p) ((l - f) + (t - l)) (λ q x y. h q x (omega arith)), e, pieces_split free f (l - f) (t - l), g)
    go (inr i) =
        let d : t - p ≡ (l - p) + (t - l) = omega arith in
        let e : p + (l - p) ≡ l = omega arith in
        rw (d, pieces_skip free p (l - p) (t - l) (λ q x y. h q x (omega arith)), e, pieces_none free f (l - f) (omega arith))

-- run for run: free says of the pages from p on what the runs say
all_pieces : (free : PageTest) (p : ℕ) {c n : ℕ} {v : State} {xs : List Region} → Rises c v n xs → n ≤ 4096 * page_top → 4096 * p ≤ c
    → ((q : ℕ) → p ≤ q → order_at free q ≡ order_at (whole xs) q) → pieces free p (page_top - p) ≡ cuts xs
unfolding cuts
all_pieces free p (ended l) t h same = pieces_bare free p (page_top - p) (λ q i j. rw (same q i, no_run q))
all_pieces free p (next {r = r} {rs = rs} k w) t h same =
    let low : p ≤ first_page r = omega (arith, k.low) in
    let far : p ≤ past_page r = omega (arith, k.low) in
    stretch free p (first_page r) (past_page r) page_top low far (omega (arith, rises_end w))
    (λ q i j. rw (same q i, before_run r rs q (next k w) j))
    ∙ ap₂ (λ (x y : List Piece). x ++ y)
    (run_pieces (first_page r) (past_page r) free (λ q x y. same q (le_trans low x) ∙ in_run r rs q (next k w) y))
    (all_pieces free (past_page r) w t (omega arith) (λ q i. same q (le_trans far i) ∙ past_run r rs q i))

-- the pieces are E14's: each run's whole pages cut from the bottom, the largest piece first that begins at a multiple of its size and fits
pub pieces_greedy : (runs : List Region) → Canonical top runs → pieces_from runs 0 ≡ cuts runs
unfolding pieces_from
pieces_greedy runs w = all_pieces (whole runs) 0 w (omega (arith, top_is, page_top_is)) (omega arith) (λ q i. refl)
