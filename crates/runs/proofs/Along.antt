-- Lists of regions in the order of a walk, a shortest list with the last region first among them, and a table read from its end. Assumes nothing.
use Prim.Native.Nat.{ℕ, zero, suc, ◌*◌, ◌≤◌, ◌<◌}
use mathlib.Core.Path.{◌≡◌, refl, sym, ap, ◌∙◌}
use mathlib.Core.Bool.{Bool, true, false, cond}
use mathlib.Core.List.{List, [], ◌∷◌, ◌++◌}
use mathlib.Core.Logic.{◌⊎◌, inl, inr}
use native.Mathlib.Omega.{arith}
use native.Mathlib.Numerals.{add-one}
use lib.ListN.{drop}
use Rattle.address.proofs.Tests.{le_or_lt, zero_not_one}
use Rattle.regions.specs.declared.Tag.{Tag}
use Rattle.regions.specs.declared.Region.{Region}
use Rattle.regions.specs.declared.State.{State}
use Rattle.regions.specs.declared.State.TheVariants.{Absent, Present}
use Rattle.regions.specs.Meaning.{Meaning, end, inside, at}
use Rattle.regions.specs.Bytes.{read_region, read_regions}
use Rattle.regions.proofs.Rises.{Rises, ended, next, Canonical}
use Rattle.regions.proofs.RoundTrip.{inside_hi, at_here, at_before, at_past, rises_below}
use Rattle.regions.proofs.Records.{read_regions_snoc}
use Rattle.regions.proofs.Trim.{rises_apart}
use Rattle.fits.specs.declared.Way.{Way}
use Rattle.fits.specs.declared.Way.TheVariants.{Up, Down}
use Rattle.fits.proofs.Ways.{near, front, back, InOrder, Before, From, in_order, front_back, onto, falling, along}

-- ---- what lies beside a record has not its tag

pub record Shut (f : Meaning) (r : Region) : Type 0 where
  pub stops : f (end r) ≡ Present r.tag → ⊥
  pub begins : (b : ℕ) → suc b ≡ r.base.0 → f b ≡ Present r.tag → ⊥

abbrev pub AllShut : Meaning → List Region → Type 0
AllShut f [] = Unit {0}
AllShut f (r ∷ rs) = Shut f r × AllShut f rs

rises_shut : (f : Meaning) {c n : ℕ} {v : State} {xs : List Region} → Rises c v n xs → ((a : ℕ) → c ≤ a → f a ≡ at xs a)
    → ((b : ℕ) (t : Tag) → suc b ≡ c → f b ≡ Present t → v ≡ Present t) → AllShut f xs
rises_shut f (ended l) h g = tt
rises_shut f {c} (next {r = r} {rs = rs} k w) h g = (
  record { stops = λ e. rises_apart w (sym (behind (end r) (omega arith)) ∙ e); begins = λ b y. begins b y (le_or_lt c b) },
  rises_shut f w behind (λ b t y e. sym (at_here r rs b (omega (arith, k.some)) (omega arith)) ∙ sym (h b (omega (arith, k.low, k.some))) ∙ e),
)
  where
    behind : (a : ℕ) → end r ≤ a → f a ≡ at rs a
    behind a i = h a (omega (arith, k.low)) ∙ at_past r rs a i

    begins : (b : ℕ) → suc b ≡ r.base.0 → (c ≤ b) ⊎ (b < c) → f b ≡ Present r.tag → ⊥
    begins b y (inl i) e =
        let d = sym (h b i ∙ at_before r rs b (omega arith) ∙ rises_below b w (omega arith)) ∙ e in
        absurd (zero_not_one cc)
    begins b y (inr i) e = k.apart (omega (arith, k.low)) (g b r.tag (omega (arith, k.low)) e)

canonical_shut : (n : ℕ) (xs : List Region) → Canonical n xs → AllShut (at xs) xs
canonical_shut n xs w = rises_shut (at xs) w (λ a i. refl) (λ b t y. absurd (omega arith))

onto_shut : (f : Meaning) (acc xs : List Region) → AllShut f acc → AllShut f xs → AllShut f (onto acc xs)
unfolding onto
onto_shut f acc [] a w = a
onto_shut f acc (r ∷ rs) a w = onto_shut f (r ∷ acc) rs (w.0, a) w.1

pub along_shut : (v : Way) (n : ℕ) (xs : List Region) → Canonical n xs → AllShut (at xs) (along v xs)
unfolding falling
along_shut Up n xs w = canonical_shut n xs w
along_shut Down n xs w = onto_shut (at xs) [] xs tt (canonical_shut n xs w)

-- ---- lists in the order of a walk

-- none is empty, and a walk comes to none before c or before it leaves the one before
pub data Along (v : Way) : ℕ → List Region → Type 0 where
  done : {c : ℕ} → Along v c []
  step : {c : ℕ} {r : Region} {rs : List Region} → InOrder v c (front v r) → 0 < r.size.0 → Along v (back v r) rs → Along v c (r ∷ rs)

-- a region says nothing before it and nothing behind it
pub at_outside : (v : Way) (r : Region) (rs : List Region) (x : ℕ) → Before v (front v r) x ⊎ From v (back v r) x → at (r ∷ rs) x ≡ at rs x
at_outside Up r rs x (inl h) = at_before r rs x h
at_outside Down r rs x (inl h) = at_past r rs x h
at_outside Up r rs x (inr h) = at_past r rs x h
at_outside Down r rs x (inr h) = at_before r rs x h

-- nothing lies before c
pub along_before : (v : Way) {c : ℕ} {xs : List Region} (x : ℕ) → Along v c xs → Before v c x → at xs x ≡ Absent
unfolding at
along_before v x done h = refl
along_before v {c} x (step {r = r} {rs = rs} l s w) h =
    let i = in_order v _ _ _ h l in
    at_outside v r rs x (inl i) ∙ along_before v x w (in_order v _ _ _ i (front_back v r))

rising_along : {c n : ℕ} {s : State} {xs : List Region} → Rises c s n xs → Along Up c xs
rising_along (ended l) = done
rising_along (next k w) = step k.low k.some (rising_along w)

onto_along : (acc : List Region) {c n : ℕ} {v : State} {xs : List Region} → ((d : ℕ) → c ≤ d → Along Down d acc) → Rises c v n xs → Along Down n (onto acc xs)
unfolding onto
onto_along acc {n = n} w (ended l) = w n l
onto_along acc w (next {r = r} k u) = onto_along (r ∷ acc) (λ d m. step m k.some (w r.base.0 k.low)) u

-- where the list says something it speaks, and elsewhere what is there already
abbrev first : State → State → State
first Absent w = w
first (Present t) w = Present t

first_alone : (w : State) → first w Absent ≡ w
first_alone Absent = refl
first_alone (Present t) = refl

onto_at : (acc : List Region) {c n : ℕ} {v : State} {xs : List Region} (a : ℕ) → Rises c v n xs → at (onto acc xs) a ≡ first (at xs a) (at acc a)
unfolding onto at
onto_at acc a (ended l) = refl
onto_at acc a (next {r = r} {rs = rs} k u) = onto_at (r ∷ acc) a u ∙ go (inside r.base.0 (end r) a) refl
  where
    go : (b : Bool) → inside r.base.0 (end r) a ≡ b → first (at rs a) (cond b (Present r.tag) (at acc a)) ≡ first (cond b (Present r.tag) (at rs a)) (at acc a)
    go true e = rw (rises_below a u (inside_hi r.base.0 (end r) a e))
    go false e = refl

-- ---- a shortest list

pub along_along : (v : Way) (n : ℕ) (xs : List Region) → Canonical n xs → Along v (near v 0 n) (along v xs)
unfolding falling
along_along Up n xs w = rising_along w
along_along Down n xs w = onto_along [] (λ d m. done) w

pub along_at : (v : Way) (n : ℕ) (xs : List Region) (a : ℕ) → Canonical n xs → at (along v xs) a ≡ at xs a
unfolding falling at
along_at Up n xs a w = refl
along_at Down n xs a w = onto_at [] a w ∙ first_alone (at xs a)

-- ---- a table's records, the last first

-- the first records of a table, from the last of them down
unfoldable pub backs : ℕ → List ℕ → List Region
backs zero l = []
backs (suc n) l = read_region (drop (24 * n) l) ∷ backs n l

onto_snoc : (acc ys : List Region) (r : Region) → onto acc (ys ++ (r ∷ [])) ≡ r ∷ onto acc ys
unfolding onto
onto_snoc acc [] r = refl
onto_snoc acc (y ∷ ys) r = onto_snoc (y ∷ acc) ys r

pub backs_falling : (k : ℕ) (l : List ℕ) → backs k l ≡ falling (read_regions k l)
unfolding backs read_regions falling onto
backs_falling zero l = refl
backs_falling (suc k) l =
    let r = read_region (drop (24 * k) l) in
    sym (ap (onto []) (rw add-one at (read_regions_snoc k l)) ∙ onto_snoc [] (read_regions k l) r ∙ ap (λ (x : List Region). r ∷ x) (sym (backs_falling k l)))
