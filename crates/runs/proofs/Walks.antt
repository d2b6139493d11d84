-- A walk over records and gaps finds the lowest eligible address, or the highest, and its run: one induction for both ways. Assumes nothing.
use Prim.Native.Nat.{ℕ, suc, ◌≤◌, ◌<◌, min, max}
use mathlib.Core.Path.{◌≡◌, refl, sym, ap, ◌∙◌}
use mathlib.Core.Bool.{Bool, true, false, cond}
use mathlib.Core.List.{List, [], ◌∷◌}
use mathlib.Core.Option.{Option, none}
use mathlib.Core.Logic.{◌⊎◌, inl, inr, ⊎_elim}
use native.Mathlib.Omega.{arith}
use Rattle.address.proofs.Tests.{le_or_lt, zero_not_one}
use Rattle.regions.specs.declared.Tag.{Tag}
use Rattle.regions.specs.declared.Region.{Region}
use Rattle.regions.specs.declared.State.{State}
use Rattle.regions.specs.declared.State.TheVariants.{Absent, Present}
use Rattle.regions.specs.Meaning.{Meaning, end, at, top}
use Rattle.regions.specs.Free.{usable, untaken, free_memory, free_runs}
use Rattle.regions.specs.Runs.{run_at}
use Rattle.regions.proofs.Rises.{Canonical}
use Rattle.regions.proofs.RoundTrip.{at_here, at_before, at_past}
use Rattle.regions.proofs.Free.{pass_untaken, runs_at, free_canonical, free_memory_lem}
use Rattle.regions.specs.Steps.{Longest}
use Rattle.regions.proofs.Lying.{passes, run_is, one_run_in}
use Rattle.fits.specs.declared.Query.{Query}
use Rattle.fits.specs.Eligible.{asks, or_else, eligible}
use Rattle.fits.specs.Places.{Hit}
use Rattle.fits.specs.Steps.{serves}
use Rattle.runs.specs.Steps.{first_in}
use Rattle.fits.specs.declared.Way.{Way}
use Rattle.fits.specs.declared.Way.TheVariants.{Up, Down}
use Rattle.fits.proofs.Ways.{near, far, front, back, sooner, later, precedes, Before, From, before_or_from, last, fit, gaps, walk, along}
use Rattle.fits.proofs.Ways.{in_order, from_sooner, before_later, precedes_yes, precedes_no, front_back, near_near, far_far, between, within, by_points}
use Rattle.fits.proofs.Stretches.{NoneIn, Finds, extend, join, finds_extreme}
use Rattle.fits.proofs.Fits.{fit_finds}
use Rattle.fits.proofs.Eligible.{past_window, none_eligible, eligible_lies, eligible_here, not_serving, does_serve}
use Rattle.runs.proofs.Along.{Shut, AllShut, Along, done, step, at_outside, along_before, along_along, along_shut, along_at}

-- f has every tag that the runs xs have, and the walks end at z
module _ (q : Query) (some_size : 0 < q.size.0) (some-align : 0 < q.align.0) (n z : ℕ) (xs : List Region) (good : Canonical n xs) (f : Meaning)
    (whole : (a : ℕ) (t : Tag) → at xs a ≡ Present t → f a ≡ Present t) where
  abbrev p : ℕ → Bool
  p = eligible q xs

  abbrev Gives : Way → ℕ → ℕ → Option Hit → Type 0
  Gives v a b o = Finds v (run_at xs) p a b o

  -- ---- a gap

  -- from lo to hi memory of the tag t, free where ts says nothing, and at both ends something else
  record Open (t : Tag) (ts : List Region) (lo hi : ℕ) : Type 0 where
    asked : asks q t ≡ true
    free : (a : ℕ) → lo ≤ a → a < hi → at xs a ≡ untaken (Present t) (at ts a)
    stops : lo < hi → at xs hi ≡ Present t → ⊥
    begins : lo < hi → (b : ℕ) → suc b ≡ lo → at xs b ≡ Present t → ⊥

  abbrev OpenFrom : Way → Tag → List Region → ℕ → ℕ → Type 0
  OpenFrom v t ts a b = Open t ts (near v a b) (far v a b)

  -- where ts says nothing at all, the fit is what a walk finds
  clear_finds : (v : Way) (t : Tag) (ts : List Region) (a b : ℕ) → OpenFrom v t ts a b → ((x : ℕ) → near v a b ≤ x → x < far v a b → at ts x ≡ Absent)
      → Gives v a b (fit v q a b)
  clear_finds v t ts a b o h =
      let run : near v a b < far v a b → Longest xs t (near v a b) (far v a b) =
      λ l. record { all = λ x i j. o.free x i j ∙ ap (untaken (Present t)) (h x i j); stops = o.stops l; begins = o.begins l } in
      rw (near_near a b v, far_far a b v) at (fit_finds q some_size some-align p (near v a b) (far v a b)
      (λ x i j. let l = run (omega arith) in eligible_here q some_size good (near v a b) (far v a b) t o.asked l.all l.stops x i j)
      (run_at xs) (λ x i j. run_is t (near v a b) x (far v a b) good i j (run (omega arith))) v)

  -- a taken region leaves what is below it and what is above it
  module _ (t : Tag) (r : Region) (us : List Region) (some : 0 < r.size.0) where
    module _ (lo hi : ℕ) (o : Open t (r ∷ us) lo hi) where
      gone : (a : ℕ) → lo ≤ a → a < hi → r.base.0 ≤ a → a < end r → at xs a ≡ Absent
      gone a i j x y = o.free a i j ∙ ap (untaken (Present t)) (at_here r us a x y)

      not_there : (a : ℕ) → lo ≤ a → a < hi → r.base.0 ≤ a → a < end r → at xs a ≡ Present t → ⊥
      not_there a i j x y e = let d = sym (gone a i j x y) ∙ e in absurd (zero_not_one cc)

      under : Open t us lo (min hi r.base.0)
      under =
          record {
            asked = o.asked;
            free = λ a i j. o.free a i (omega arith) ∙ ap (untaken (Present t)) (at_before r us a (omega arith));
            stops = stops (le_or_lt hi r.base.0);
            begins = λ l. o.begins (omega arith);
          }
        where
          stops : (hi ≤ r.base.0) ⊎ (r.base.0 < hi) → lo < min hi r.base.0 → at xs (min hi r.base.0) ≡ Present t → ⊥
          stops (inl i) l e = let m : min hi r.base.0 ≡ hi = omega arith in o.stops (omega arith) (rw m at e)
          stops (inr i) l e =
              let m : min hi r.base.0 ≡ r.base.0 = omega arith in
              not_there r.base.0 (omega arith) i (omega arith) (omega arith) (rw m at e)

      over : Open t us (max lo (end r)) hi
      over =
          record {
            asked = o.asked;
            free = λ a i j. o.free a (omega arith) j ∙ ap (untaken (Present t)) (at_past r us a (omega arith));
            stops = λ l. o.stops (omega arith);
            begins = λ l b y. begins l b y (le_or_lt (end r) lo);
          }
        where
          begins : max lo (end r) < hi → (b : ℕ) → suc b ≡ max lo (end r) → (end r ≤ lo) ⊎ (lo < end r) → at xs b ≡ Present t → ⊥
          begins l b y (inl i) = o.begins (omega arith) b (omega arith)
          begins l b y (inr i) = not_there b (omega arith) (omega arith) (omega arith) (omega arith)

    -- what a walk comes to first, where us says nothing, and what it comes to behind the region
    ahead_finds : (v : Way) (a b : ℕ) → OpenFrom v t (r ∷ us) a b → ((x : ℕ) → Before v (front v r) x → at us x ≡ Absent)
        → Gives v a (sooner v b (front v r)) (fit v q a (sooner v b (front v r)))
    ahead_finds Up a b o h = clear_finds Up t us a (min b r.base.0) (under a b o) (λ x i j. h x (omega arith))
    ahead_finds Down a b o h = clear_finds Down t us a (max b (end r)) (over b a o) (λ x i j. h x (omega arith))

    open_behind : (v : Way) (a b : ℕ) → OpenFrom v t (r ∷ us) a b → OpenFrom v t us (later v a (back v r)) b
    open_behind Up a b o = over a b o
    open_behind Down a b o = under b a o

    -- nothing in between
    none_taken : (v : Way) (a b x : ℕ) → OpenFrom v t (r ∷ us) a b → From v a x → From v (sooner v b (front v r)) x → Before v b x → Before v (back v r) x
        → p x ≡ false
    none_taken v a b x o i j k l =
        let m = between a b v x i k in
        let u = within r.base.0 (end r) v x (from_sooner b (front v r) x v j k) l in
        none_eligible q some_size good x (ap (passes (asks q)) (gone (near v a b) (far v a b) o x m.0 m.1 u.0 u.1))

  -- ---- a record

  module _ (r : Region) (shut : Shut f r) (ts : List Region)
      (here : (a : ℕ) → r.base.0 ≤ a → a < end r → at xs a ≡ untaken (usable (Present r.tag)) (at ts a)) where
    open_record : serves (asks q) r ≡ true → Open r.tag ts r.base.0 (end r)
    open_record e =
        let s = does_serve (asks q) r e in
        record {
          asked = s.1;
          free = λ a i j. here a i j ∙ ap (λ (x : State). untaken x (at ts a)) s.0;
          stops = λ l x. shut.stops (whole (end r) r.tag x);
          begins = λ l b y x. shut.begins b y (whole b r.tag x);
        }

    passed_record : (v : Way) → serves (asks q) r ≡ false → NoneIn v p (front v r) (back v r)
    passed_record v e x i j =
        let m = within r.base.0 (end r) v x i j in
        none_eligible q some_size good x
        (ap (passes (asks q)) (here x m.0 m.1) ∙ pass_untaken (asks q) (usable (Present r.tag)) (at ts x) (not_serving (asks q) r e))

  -- where there is no record there is nothing
  unrecorded : (a : ℕ) (rs ts : List Region) → at xs a ≡ free_memory (at rs) (at ts) a → at rs a ≡ Absent → p a ≡ false
  unfolding free_memory
  unrecorded a rs ts h e =
      none_eligible q some_size good a (ap (passes (asks q)) (h ∙ ap (λ (x : State). untaken (usable x) (at ts a)) e) ∙ pass_untaken (asks q) Absent (at ts a) refl)

  -- ---- the walk

  -- what comes from b on is found by k, whatever taken regions are left
  abbrev Onward : Way → (List Region → Option Hit) → List Region → ℕ → Type 0
  Onward v k rs b = (ts : List Region) (c : ℕ) → Along v c ts → ((x : ℕ) → From v b x → at xs x ≡ free_memory (at rs) (at ts) x) → Gives v b z (k ts)

  gaps_finds : (v : Way) (k : List Region → Option Hit) (rs : List Region) (t : Tag) (a b : ℕ) {c : ℕ} {ts : List Region}
      → Onward v k rs b → Along v c ts → OpenFrom v t ts a b → ((x : ℕ) → From v b x → at xs x ≡ free_memory (at rs) (at ts) x) → Gives v a z (gaps v q k a b ts)
  unfolding gaps at free_memory
  gaps_finds v k rs t a b {c} g done o j =
      join v (run_at xs) p a b z (fit v q a b) (k []) (clear_finds v t [] a b o (λ x i j. refl)) (g [] c done j)
  gaps_finds v k rs t a b {c} g (step {r = r} {rs = us} l s w) o j =
      go (gaps_finds v k rs t (later v a (back v r)) b g w (open_behind t r us s v a b o)) (fit v q a (sooner v b (front v r)))
      (ahead_finds t r us s v a b o (λ x i. along_before v x w (in_order v _ _ _ i (front_back v r)))) (precedes v (sooner v b (last v q)) (back v r)) refl
    where
      go : (((x : ℕ) → From v b x → at xs x ≡ free_memory (at rs) (at us) x) → Gives v (later v a (back v r)) z (gaps v q k (later v a (back v r)) b us))
          → (f : Option Hit) → Gives v a (sooner v b (front v r)) f → (y : Bool) → precedes v (sooner v b (last v q)) (back v r) ≡ y
          → Gives v a z (or_else f (cond y (k (r ∷ us)) (gaps v q k (later v a (back v r)) b us)))
      go ih f h true y =
          let d = precedes_yes v (sooner v b (last v q)) (back v r) y in
          join v (run_at xs) p a b z f (k (r ∷ us))
          (extend v (run_at xs) p a (sooner v b (front v r)) b f
          (λ x i m u. ⊎_elim (none_taken t r us s v a b x o i m u) (λ n. past_window v q xs x some_size (from_sooner b (last v q) x v (in_order v _ _ _ d n) u))
          (before_or_from v (back v r) x)) h)
          (g (r ∷ us) c (step l s w) j)
      go ih f h false y =
          let d = precedes_no b (last v q) (back v r) v y in
          join v (run_at xs) p a (later v a (back v r)) z f (gaps v q k (later v a (back v r)) b us)
          (extend v (run_at xs) p a (sooner v b (front v r)) (later v a (back v r)) f
          (λ x i m u. let n = before_later a (back v r) x v u i in none_taken t r us s v a b x o i m (in_order v _ _ _ n d) n) h)
          (ih (λ x i. j x i ∙ ap (untaken (usable (at rs x))) (at_outside v r us x (inr (in_order v _ _ _ d i)))))

  walk_finds : (v : Way) {c c' : ℕ} {rs ts : List Region} → Along v c rs → AllShut f rs → Along v c' ts
      → ((x : ℕ) → From v c x → at xs x ≡ free_memory (at rs) (at ts) x) → Gives v c z (walk v q rs ts)
  unfolding walk at free_memory
  walk_finds v {ts = ts} done sh u h = λ x i j. unrecorded x [] ts (h x i) refl
  walk_finds v {c} {ts = ts} (step {r = r} {rs = rs} l s w) sh u h =
      join v (run_at xs) p c (front v r) z none (cond (serves (asks q) r) (gaps v q (walk v q rs) (front v r) (back v r) ts) (walk v q rs ts))
      (λ x i j. unrecorded x (r ∷ rs) ts (h x i) (at_outside v r rs x (inl j) ∙ along_before v x w (in_order v _ _ _ j (front_back v r))))
      (go (λ us d y g. walk_finds v {ts = us} w sh.1 y g) (λ g. walk_finds v {ts = ts} w sh.1 u g) (serves (asks q) r) refl)
    where
      here : (x : ℕ) → r.base.0 ≤ x → x < end r → at xs x ≡ untaken (usable (Present r.tag)) (at ts x)
      here x i j = h x (in_order v _ _ _ l (by_points r.base.0 (end r) v x i j).0) ∙ ap (λ (y : State). untaken (usable y) (at ts x)) (at_here r rs x i j)

      behind : (x : ℕ) → From v (back v r) x → at xs x ≡ untaken (usable (at rs x)) (at ts x)
      behind x i = h x (in_order v _ _ _ l (in_order v _ _ _ (front_back v r) i)) ∙ ap (λ (y : State). untaken (usable y) (at ts x)) (at_outside v r rs x (inr i))

      go : Onward v (walk v q rs) rs (back v r)
          → (((x : ℕ) → From v (back v r) x → at xs x ≡ untaken (usable (at rs x)) (at ts x)) → Gives v (back v r) z (walk v q rs ts))
          → (b : Bool) → serves (asks q) r ≡ b → Gives v (front v r) z (cond b (gaps v q (walk v q rs) (front v r) (back v r) ts) (walk v q rs ts))
      go g ih true e =
          let o = open_record r sh.0 ts here e in
          gaps_finds v (walk v q rs) rs r.tag (front v r) (back v r) g u (rw (near_near r.base.0 (end r) v, far_far r.base.0 (end r) v) o) behind
      go g ih false e = join v (run_at xs) p (front v r) (back v r) z none (walk v q rs ts) (passed_record r sh.0 ts here v e) (ih behind)

-- so a walk gives the first eligible address of two tables
module _ (v : Way) (q : Query) (ms ts : List Region) (s : 0 < q.size.0) (l : 0 < q.align.0) (w : Canonical top ms) (u : Canonical top ts) where
  abbrev xs : List Region
  xs = free_runs ms ts

  runs : Canonical top xs
  runs = free_canonical ms ts

  below : (a : ℕ) → eligible q xs a ≡ true → a < top
  unfolding free_runs
  below a e = omega (arith, (one_run_in (free_memory (at ms) (at ts)) (asks q) q.size.0 a s (eligible_lies q xs a e).run).0)

  here : (a : ℕ) → at xs a ≡ free_memory (at (along v ms)) (at (along v ts)) a
  unfolding free_memory
  here a = rw (along_at v top ms a w, along_at v top ts a u) (runs_at ms ts w a)

  pub walk_first : walk v q (along v ms) (along v ts) ≡ first_in v ms ts q
  unfolding first_in
  walk_first =
      finds_extreme v (run_at xs) (eligible q xs) top below (walk v q (along v ms) (along v ts))
      (walk_finds q s l top (far v 0 top) xs runs (at ms) (free_memory_lem ms ts w) v (along_along v top ms w) (along_shut v top ms w) (along_along v top ts u) (λ a i. here a))
