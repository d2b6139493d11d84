-- The pieces rise and lie apart, and their pages are those that lie whole in one run, each once. Assumes nothing.
use Prim.Native.Nat.{ℕ, zero, suc, ◌+◌, ◌-◌, ◌*◌, ◌%◌, ◌^◌, ◌≤◌, ◌<◌}
use mathlib.Core.Path.{◌≡◌, refl, sym, ap, ◌∙◌}
use mathlib.Core.Bool.{Bool, true, false, cond}
use mathlib.Core.List.{List, [], ◌∷◌, ◌++◌, append-nil}
use mathlib.Core.Option.{Option, some}
use mathlib.Core.Option as option
use mathlib.Core.Logic.{◌⊎◌, inl, inr}
use native.Mathlib.Omega.{arith}
use native.Mathlib.Nat.{zero-add, mod-one}
use lib.Dec.{leb, ltb}
use lib.Pow.{pow_pos}
use borrow.Author.Tests.{eq-eqb, le-leb, lt-leb, lt-ltb, leb-true, ltb-true}
use Rattle.address.specs.Numbers.{down}
use Rattle.address.proofs.Tests.{both, le_or_lt}
use Rattle.address.proofs.Rounding.{down_le, down_near, down_multiple}
use Rattle.regions.specs.declared.Region.{Region}
use Rattle.regions.specs.Meaning.{inside, top, top_is}
use Rattle.regions.proofs.Rises.{Canonical}
use Rattle.regions.proofs.Lying.{one_in, in_one_lem}
use Rattle.fits.specs.Eligible.{wanted}
use Rattle.pages.specs.Sentences.{times, Rising, none, next, from_page}
use Rattle.pages.specs.declared.Piece.{Piece}
use Rattle.pages.specs.Pages.{whole, PageTest, order_at, pieces, pieces_from, page_top, page_top_is}
use Rattle.pages.proofs.Dyadic.{down_unique, down_same}
use Rattle.pages.proofs.Orders.{order_largest, same_piece, in_piece}
use Rattle.pages.proofs.Listing.{starts_at, starts_cases, starts_not, pieces_none, pieces_split, Begins}

times_append : (q : ℕ) (xs ys : List Piece) → times q (xs ++ ys) ≡ times q xs + times q ys
unfolding times
times_append q [] ys = omega arith
times_append q (x ∷ xs) ys = omega (arith, times_append q xs ys)

module _ (free : PageTest) where
  rising_from : (b p n : ℕ) → ((q : ℕ) → p ≤ q → q < b → starts_at free q ≡ []) → Rising b (pieces free p n)
  unfolding pieces
  rising_from b p zero h = none
  rising_from b p (suc n) h = go (starts_cases free p) (λ c g. rising_from c (suc p) n g)
    where
      past : (o : ℕ) → Begins free p o → (p < b) ⊎ (b ≤ p) → b ≤ p
      past o g (inl l) =
          let e = h p (omega arith) l in
          let f = g.listed in
          let z : ◌≡◌ {A = ℕ} 0 1 = cc in absurd (omega arith)
      past o g (inr l) = l

      turn : (b ≤ p) ⊎ (p < b) → (p < b) ⊎ (b ≤ p)
      turn (inl l) = inr l
      turn (inr l) = inl l

      go : (starts_at free p ≡ []) ⊎ ((o : ℕ) × Begins free p o)
          → ((c : ℕ) → ((q : ℕ) → suc p ≤ q → q < c → starts_at free q ≡ []) → Rising c (pieces free (suc p) n)) → Rising b (starts_at free p ++ pieces free (suc p) n)
      go (inl e) ih = rw e (ih b (λ q l m. h q (omega arith) m))
      go (inr g) ih =
          let s = down_same p (2 ^ g.0) g.1.first in
          rw g.1.listed
          (next (past g.0 g.1 (turn (le_or_lt b p))) (ih (p + 2 ^ g.0) (λ q l m. starts_not free p q g.0 g.1.order (omega arith) (omega arith))))

  pub pieces_rising : (p n : ℕ) → Rising p (pieces free p n)
  pieces_rising p n = rising_from p p n (λ q l m. absurd (omega arith))

  -- page q is in no piece that begins at m, unless that is its own
  starts_zero : (m q : ℕ) → ((o : ℕ) → order_at free q ≡ some o → down q (2 ^ o) ≡ m → ⊥) → times q (starts_at free m) ≡ 0
  unfolding times
  starts_zero m q h = go (starts_cases free m)
    where
      at : (o : ℕ) → Begins free m o → (t : Bool) → inside m (m + 2 ^ o) q ≡ t → cond t 1 0 + 0 ≡ 0
      at o g false e = refl
      at o g true e =
          let p = both (leb m q) (ltb q (m + 2 ^ o)) e in
          let i = leb-true m q p.0 in
          let j = ltb-true q (m + 2 ^ o) p.1 in
          let s = down_same m (2 ^ o) g.first in
          absurd (h o (in_piece free m q o g.order (omega arith) (omega arith)) (down_unique q (2 ^ o) m g.first i j))

      go : (starts_at free m ≡ []) ⊎ ((o : ℕ) × Begins free m o) → times q (starts_at free m) ≡ 0
      go (inl e) = rw e
      go (inr g) = rw g.1.listed (at g.0 g.1 (inside m (m + 2 ^ g.0) q) refl)

  starts_one : (q o : ℕ) → order_at free q ≡ some o → times q (starts_at free (down q (2 ^ o))) ≡ 1
  unfolding times
  starts_one q o e =
      let s : ℕ = down q (2 ^ o) in
      let m = down_multiple q (2 ^ o) (pow_pos o) in
      let f = same_piece free q s o e (sym (down_same s (2 ^ o) m)) in
      let i = le-leb s q (down_le q (2 ^ o) (pow_pos o)) in
      let j = lt-ltb q (s + 2 ^ o) (down_near q (2 ^ o) (pow_pos o)) in
      rw (f, eq-eqb (s % 2 ^ o) 0 m, i, j)

  times_none : (q p n : ℕ) → ((m : ℕ) → p ≤ m → m < p + n → times q (starts_at free m) ≡ 0) → times q (pieces free p n) ≡ 0
  unfolding pieces
  times_none q p zero h = unfold times in refl
  times_none q p (suc n) h =
      let a = h p (omega arith) (omega arith) in
      let b = times_none q (suc p) n (λ m i j. h m (omega arith) (omega arith)) in
      omega (arith, times_append q (starts_at free p) (pieces free (suc p) n))

  times_some : (q o n : ℕ) → order_at free q ≡ some o → q < n → times q (pieces free 0 n) ≡ 1
  unfolding pieces
  times_some q o n e l =
      let s : ℕ = down q (2 ^ o) in
      let i = down_le q (2 ^ o) (pow_pos o) in
      let k : ℕ = n - s - 1 in
      let f : n ≡ s + suc k = omega arith in
      let other : (m : ℕ) → (m ≡ s → ⊥) → times q (starts_at free m) ≡ 0 = λ m h. starts_zero m q (λ u x y. h (sym y ∙ ap (λ (w : ℕ). down q (2 ^ w)) (same_some u x))) in
      let a = times_none q 0 s (λ m x y. other m (λ z. omega arith)) in
      let b = starts_one q o e in
      let c = times_none q (suc s) k (λ m x y. other m (λ z. omega arith)) in
      rw (f, pieces_split free 0 s (suc k), zero-add s)
      (omega (arith, times_append q (pieces free 0 s) (starts_at free s ++ pieces free (suc s) k), times_append q (starts_at free s) (pieces free (suc s) k)))
    where
      same_some : (u : ℕ) → order_at free q ≡ some u → u ≡ o
      same_some u x = cc

  -- each page that is free by itself is in one piece, and no other in any
  pub cover : ((o q : ℕ) → free o (down q (2 ^ o)) ≡ true → free 0 q ≡ true) → (q n : ℕ) → (free 0 q ≡ true → q < n) → times q (pieces free 0 n) ≡ cond (free 0 q) 1 0
  unfolding order_at
  cover smaller q n l = go (order_at free q) refl
    where
      go : (v : Option ℕ) → order_at free q ≡ v → times q (pieces free 0 n) ≡ cond (free 0 q) 1 0
      go option.none e =
          let f = order_largest free q option.none e 0 (omega arith) in
          let d : down q (2 ^ 0) ≡ q = down_same q (2 ^ 0) (mod-one q) in
          let g : free 0 q ≡ false = ap (free 0) (sym d) ∙ f in
          rw g (times_none q 0 n (λ m i j. starts_zero m q (λ o x y. let z : ◌≡◌ {A = ℕ} 0 1 = cc in omega arith)))
      go (some o) e = let f = smaller o q (order_largest free q (some o) e).0 in rw f (times_some q o n e (l f))

module _ (runs : List Region) (w : Canonical top runs) where
  -- a page of a piece that lies in one run lies in it
  pub whole_smaller : (o q : ℕ) → whole runs o (down q (2 ^ o)) ≡ true → whole runs 0 q ≡ true
  unfolding whole
  whole_smaller o q e =
      let i = down_le q (2 ^ o) (pow_pos o) in
      let j = down_near q (2 ^ o) (pow_pos o) in
      let s = (one_in (wanted 4294967295 1) (4096 * 2 ^ o) (4096 * down q (2 ^ o)) w e).same in
      in_one_lem (wanted 4294967295 1) (4096 * 2 ^ 0) (4096 * q) s.tag w (omega arith) s.right (λ b x y. s.all b (omega arith) (omega arith))

  -- a page lies in one piece if it lies whole in one run, and otherwise in none
  pub pieces_cover : (q : ℕ) → times q (pieces_from runs 0) ≡ cond (whole runs 0 q) 1 0
  unfolding pieces_from whole
  pieces_cover q =
      let e : page_top - 0 ≡ page_top = omega arith in
      rw e (cover (whole runs) whole_smaller q page_top (λ f. omega (arith, (one_in (wanted 4294967295 1) (4096 * 2 ^ 0) (4096 * q) w f).high, top_is, page_top_is)))

-- ---- the pieces that begin at or above a page

module _ (free : PageTest) (p : ℕ) where
  begin_below : (c n : ℕ) → c + n ≤ p → (xs : List Piece) → from_page p (pieces free c n ++ xs) ≡ from_page p xs
  unfolding pieces
  begin_below c zero h xs = refl
  begin_below c (suc n) h xs = go (starts_cases free c) (begin_below (suc c) n (omega arith) xs)
    where
      go : (starts_at free c ≡ []) ⊎ ((o : ℕ) × Begins free c o) → from_page p (pieces free (suc c) n ++ xs) ≡ from_page p xs
          → from_page p ((starts_at free c ++ pieces free (suc c) n) ++ xs) ≡ from_page p xs
      go (inl e) ih = rw e ih
      go (inr g) ih = unfold from_page in rw (g.1.listed, lt-leb p c (omega arith)) ih

  begin_above : (c n : ℕ) → p ≤ c → from_page p (pieces free c n) ≡ pieces free c n
  unfolding pieces from_page
  begin_above c zero h = refl
  begin_above c (suc n) h = go (starts_cases free c) (begin_above (suc c) n (omega arith))
    where
      go : (starts_at free c ≡ []) ⊎ ((o : ℕ) × Begins free c o) → from_page p (pieces free (suc c) n) ≡ pieces free (suc c) n
          → from_page p (starts_at free c ++ pieces free (suc c) n) ≡ starts_at free c ++ pieces free (suc c) n
      go (inl e) ih = rw e ih
      go (inr g) ih = rw (g.1.listed, le-leb p c h, ih)

pub pieces_from_lem : (runs : List Region) (p : ℕ) → pieces_from runs p ≡ from_page p (pieces_from runs 0)
unfolding pieces_from
pieces_from_lem runs p = go (le_or_lt p page_top)
  where
    go : (p ≤ page_top) ⊎ (page_top < p) → pieces (whole runs) p (page_top - p) ≡ from_page p (pieces (whole runs) 0 (page_top - 0))
    go (inl l) =
        let e : page_top - 0 ≡ p + (page_top - p) = omega arith in
        rw (e, pieces_split (whole runs) 0 p (page_top - p), begin_below (whole runs) p 0 p (omega arith), zero-add p) (sym (begin_above (whole runs) p p (page_top - p) (omega arith)))
    go (inr l) =
        let z = pieces_none (whole runs) p (page_top - p) (omega arith) in
        let e = begin_below (whole runs) p 0 (page_top - 0) (omega arith) [] in
        z ∙ sym (ap (from_page p) (sym (append-nil (pieces (whole runs) 0 (page_top - 0)))) ∙ e ∙ (unfold from_page in refl))

pub pieces_rise : (runs : List Region) (p : ℕ) → Rising p (pieces_from runs p)
unfolding pieces_from
pieces_rise runs p = pieces_rising (whole runs) p (page_top - p)
