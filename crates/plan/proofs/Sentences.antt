-- E12's sentences: what the definition's tests come to for lines and addresses. Assumes nothing.
use Prim.Native.Nat.{ℕ, ◌+◌, ◌≤◌, ◌<◌, min, max}
use native.Mathlib.Nat.{not-suc-le-zero}
use mathlib.Core.Path.{◌≡◌, refl, sym, ap, ◌∙◌}
use mathlib.Core.Bool.{Bool, true, false, cond, not, ◌||◌}
use mathlib.Core.List.{List, [], map}
use mathlib.Core.Logic.{◌⊎◌, inl, inr}
use mathlib.Core.Option.{Option, none, some}
use native.Mathlib.Omega.{arith}
use lib.Dec.{leb, ltb, eqb}
use lib.ListN.{length, take, get_or, length-map, length-take, get_or-map}
use lib.Seq.{take-length, get_or-take}
use borrow.Author.Tests.{eq-eqb, eqb-true, leb-true, le-leb, lt-leb, ltb-true, lt-ltb}
use Rattle.address.proofs.Tests.{no, clash, both, and, le_or_lt}
use Rattle.regions.specs.declared.Run.{Run}
use Rattle.regions.specs.declared.Region.{Region}
use Rattle.regions.specs.declared.Kind.TheVariants.{Memory, Taken}
use Rattle.regions.specs.declared.State.TheVariants.{Present}
use Rattle.regions.specs.Meaning.{at, shortest, top}
use Rattle.regions.specs.Lists.{good_list}
use Rattle.regions.specs.Runs.{run_of}
use Rattle.regions.proofs.Rises.{Canonical}
use Rattle.regions.proofs.Good.{good_rises}
use Rattle.regions.proofs.Count.{agree}
use Rattle.regions.proofs.RoundTrip.{round_trip, at_shortest, at_shortest_above, rises_above}
use Rattle.block.specs.Block.{current, capacity, Contents, with_list, block_bytes, contents, good}
use Rattle.block.proofs.Blocks.{room, lists_ok, good_contents_lem, good_spelled}
use Rattle.block.proofs.Kept.{list_kept}
use Rattle.block.proofs.Layouts.{small_current}
use Rattle.range.specs.Outcomes.{tag, unless, done_with, store}
use Rattle.fits.specs.Eligible.{eligible, Gives}
use Rattle.fits.proofs.Extremes.{lowest_gives}
use Rattle.seek.specs.Search.{window, runs_of}
use Rattle.search.specs.Answers.{refusal}
use Rattle.plan.specs.Answers.{answer}
use Rattle.search.proofs.Eligible.{passes_eligible, eligible_passes}
use Rattle.plan.specs.declared.Line.{Line}
use Rattle.plan.specs.Plan.{range_of, lies, share, passes, any, line_at, faulty, first_fault, with_ranges, at_zero, verdict, plan}
use Rattle.plan.specs.Sentences.{In, Fit, Share, Accepted, SharesEarlier, AtFault, FirstFault, Finished, PlanSentence, Reserved, ReservedSentence}
use Rattle.std.proofs.lemmas.List.Folds.{list_any_at}
use Rattle.plan.proofs.Any.{Found, any_found}
use Rattle.plan.proofs.Judging.{refusal_ready, passes_fine}
use Rattle.plan.proofs.Filling.{list_good}
use Rattle.plan.proofs.Whole.{unfaulted}

-- ---- ranges and addresses

lies_in : (l : Line) (x : ℕ) → lies x (range_of l) ≡ true → In l x
lies_in l x e =
    let p = both (leb l.at.0 x) (ltb x (l.at.0 + l.query.size.0)) e in
    (leb-true l.at.0 x p.0, ltb-true x (l.at.0 + l.query.size.0) p.1)

in_lies : (l : Line) (x : ℕ) → In l x → lies x (range_of l) ≡ true
in_lies l x h = and (le-leb l.at.0 x h.0) (lt-ltb x (l.at.0 + l.query.size.0) h.1)

-- the higher of the two low ends is shared, if any address is
share_address : (k l : Line) → share (range_of l) (range_of k) ≡ true → Share k l
share_address k l e =
    let h = ltb-true (max l.at.0 k.at.0) (min (l.at.0 + l.query.size.0) (k.at.0 + k.query.size.0)) e in
    record { address = max l.at.0 k.at.0; one = (omega arith, omega arith); other = (omega arith, omega arith) }

address_share : (k l : Line) → Share k l → share (range_of l) (range_of k) ≡ true
address_share k l h =
    let a = h.one.0 in
    let b = h.one.1 in
    let c = h.other.0 in
    let d = h.other.1 in
    lt-ltb (max l.at.0 k.at.0) (min (l.at.0 + l.query.size.0) (k.at.0 + k.query.size.0)) (omega arith)

-- the line at an index among the first ones
line_before : (ls : List Line) (i j : ℕ) → j < i → get_or (map range_of (take i ls)) j (run_of 0 0) ≡ range_of (line_at ls j)
line_before ls i j l = get_or-map range_of (take i ls) j (line_at [] 0) ∙ ap range_of (get_or-take i ls j (line_at [] 0) l)

-- ---- lines of a plan on a good block

module _ (b : List ℕ) (g : good current b ≡ true) where
  abbrev s : Contents
  s = contents current b

  rising : Canonical top s.memory
  rising = good_rises Memory s.memory (lists_ok current s (good_contents_lem current b g) Memory)

  passes_fit : (l : Line) → passes s l ≡ true → Fit s l
  passes_fit l e =
      let p = both (eqb (refusal l.query) 0) (eligible (window s.settings.limit.0 l.query) (runs_of s) l.at.0) e in
      let z = eqb-true (refusal l.query) 0 p.0 in
      record { numbers = z; eligible = passes_eligible s l.query (refusal_ready b g l.query z).size l.at.0 p.1 }

  fit_passes : (l : Line) → Fit s l → passes s l ≡ true
  fit_passes l h =
      and (eq-eqb (refusal l.query) 0 h.numbers)
      (eligible_passes s l.query (refusal_ready b g l.query h.numbers).size l.at.0 rising h.eligible)

  module _ (ls : List Line) (i : ℕ) (l : i < length ls) where
    abbrev own : Line
    own = line_at ls i

    abbrev before : List Run
    before = map range_of (take i ls)

    before_length : length before ≡ i
    before_length = length-map (take i ls) range_of ∙ length-take i ls ∙ omega arith

    shares_earlier : any (share (range_of own)) before ≡ true → SharesEarlier ls i
    shares_earlier e =
        let f = any_found (share (range_of own)) (run_of 0 0) before e in
        let j : f.at < i = omega (arith, f.there, before_length) in
        record { earlier = f.at; before = j; share = share_address (line_at ls f.at) own (rw (line_before ls i f.at j) at f.holds) }

    earlier_shares : SharesEarlier ls i → any (share (range_of own)) before ≡ true
    earlier_shares h =
        list_any_at (share (range_of own)) before h.earlier (run_of 0 0) (omega (arith, h.before, before_length))
        (rw (line_before ls i h.earlier h.before) (address_share (line_at ls h.earlier) own h.share))

    faulty_fault : faulty s ls i ≡ true → AtFault s ls i
    faulty_fault e = record { there = l; fault = go (passes s own) refl e }
      where
        go : (t : Bool) → passes s own ≡ t → not t || any (share (range_of own)) before ≡ true → (Fit s own → ⊥) ⊎ SharesEarlier ls i
        go true p f = inr (shares_earlier f)
        go false p f = inl (λ h. clash (passes s own) (fit_passes own h) p)

  fault_faulty : (ls : List Line) (i : ℕ) → AtFault s ls i → faulty s ls i ≡ true
  fault_faulty ls i h = go h.fault
    where
      own : Line
      own = line_at ls i

      go : (Fit s own → ⊥) ⊎ SharesEarlier ls i → not (passes s own) || any (share (range_of own)) (map range_of (take i ls)) ≡ true
      go (inl f) = rw (no (passes s own) (λ e. f (passes_fit own e)))
      go (inr f) = or (not (passes s own)) (earlier_shares ls i h.there f)
        where
          or : (t : Bool) {u : Bool} → u ≡ true → t || u ≡ true
          or true e = refl
          or false e = e

  -- no line is at fault: the plan is accepted
  unfaulted_accepted : (ls : List Line) → ((i : ℕ) → i < length ls → faulty s ls i ≡ false) → Accepted s ls
  unfaulted_accepted ls f =
      record {
        fit = λ i l. passes_fit (line_at ls i) (clean i l).0;
        apart = λ i j m l h. clash (any (share (range_of (line_at ls j))) (map range_of (take j ls))) (earlier_shares ls j l (record { earlier = i; before = m; share = h })) (clean j l).1;
      }
    where
      clean : (i : ℕ) → i < length ls → (passes s (line_at ls i) ≡ true) × (any (share (range_of (line_at ls i))) (map range_of (take i ls)) ≡ false)
      clean i l = unfaulted (passes s (line_at ls i)) (any (share (range_of (line_at ls i))) (map range_of (take i ls))) (f i l)

  accepted_unfaulted : (ls : List Line) → Accepted s ls → (i : ℕ) → AtFault s ls i → ⊥
  accepted_unfaulted ls h i f = go f.fault
    where
      go : (Fit s (line_at ls i) → ⊥) ⊎ SharesEarlier ls i → ⊥
      go (inl n) = n (h.fit i f.there)
      go (inr n) = h.apart n.earlier i n.before f.there n.share

  -- what the first fault that the definition names says
  verdicts : (ls : List Line) (o : Option ℕ) → Gives (faulty s ls) (λ y x. y < x) (length ls) o → Accepted s ls ⊎ FirstFault s ls
  verdicts ls none f = inl (unfaulted_accepted ls f)
  verdicts ls (some i) f =
      inr (record { index = i; first = record { holds = faulty_fault ls i f.1.0 f.0; least = least } })
    where
      least : (j : ℕ) → AtFault s ls j → i ≤ j
      least j h = go (le_or_lt i j)
        where
          go : (i ≤ j) ⊎ (j < i) → i ≤ j
          go (inl l) = l
          go (inr l) = absurd (clash (faulty s ls j) (fault_faulty ls j h) (f.1.1 j h.there l))

  pub first_none : (ls : List Line) → Accepted s ls → first_fault s ls ≡ none
  first_none ls h = go (first_fault s ls) (lowest_gives (faulty s ls) (length ls))
    where
      go : (o : Option ℕ) → Gives (faulty s ls) (λ y x. y < x) (length ls) o → o ≡ none
      go none f = refl
      go (some i) f = absurd (accepted_unfaulted ls h i (faulty_fault ls i f.1.0 f.0))

  first_some : (ls : List Line) (h : FirstFault s ls) → first_fault s ls ≡ some h.index
  first_some ls h = go (first_fault s ls) (lowest_gives (faulty s ls) (length ls))
    where
      go : (o : Option ℕ) → Gives (faulty s ls) (λ y x. y < x) (length ls) o → o ≡ some h.index
      go none f = absurd (clash (faulty s ls h.index) (fault_faulty ls h.index h.first.holds) (f h.index h.first.holds.there))
      go (some i) f =
          let w = faulty_fault ls i f.1.0 f.0 in
          let e : i ≡ h.index = order (le_or_lt i h.index) (h.first.least i w) in
          ap some e
        where
          order : (i ≤ h.index) ⊎ (h.index < i) → h.index ≤ i → i ≡ h.index
          order (inl l) m = omega arith
          order (inr l) m = absurd (clash (faulty s ls h.index) (fault_faulty ls h.index h.first.holds) (f.1.1 h.index h.first.holds.there l))

-- ---- the finished list

-- x is in one of the lines' ranges, or in none
pub in_any : (ls : List Line) (i x : ℕ) → i < length ls → In (line_at ls i) x → any (lies x) (map range_of ls) ≡ true
in_any ls i x l h =
    list_any_at (lies x) (map range_of ls) i (run_of 0 0) (omega (arith, length-map ls range_of))
    (rw (get_or-map range_of ls i (line_at [] 0)) (in_lies (line_at ls i) x h))

any_in : (ls : List Line) (x : ℕ) → any (lies x) (map range_of ls) ≡ true → Found (λ l. lies x (range_of l)) (line_at [] 0) ls
any_in ls x e =
    let f = any_found (lies x) (run_of 0 0) (map range_of ls) e in
    record {
      at = f.at;
      there = omega (arith, f.there, length-map ls range_of);
      holds = rw (get_or-map range_of ls f.at (line_at [] 0)) at f.holds;
    }

in_none : (ls : List Line) (x : ℕ) → ((i : ℕ) → i < length ls → In (line_at ls i) x → ⊥) → any (lies x) (map range_of ls) ≡ false
in_none ls x n = no (any (lies x) (map range_of ls)) (λ e. let f = any_in ls x e in n f.at f.there (lies_in (line_at ls f.at) x f.holds))

module _ (b : List ℕ) (g : good current b ≡ true) (ls : List Line) where
  abbrev taken : List Region
  taken = (contents current b).taken

  abbrev new : List Region
  new = shortest (with_ranges (map range_of ls) (at taken)) top

  taken_good : good_list Taken taken ≡ true
  taken_good = lists_ok current (contents current b) (good_contents_lem current b g) Taken

  -- there is but one finished list
  finished_is : (xs : List Region) → Finished (contents current b) ls xs → xs ≡ new
  finished_is xs h = sym (round_trip top xs (good_rises Taken xs h.good)) ∙ agree (at xs) (with_ranges (map range_of ls) (at taken)) top (λ a l. same a (any (lies a) (map range_of ls)) refl)
    where
      same : (a : ℕ) (t : Bool) → any (lies a) (map range_of ls) ≡ t → at xs a ≡ cond t (Present (tag 0 0)) (at taken a)
      same a true e = let f = any_in ls a e in h.lines f.at f.there a (lies_in (line_at ls f.at) a f.holds)
      same a false e = h.others a (λ i l k. clash (any (lies a) (map range_of ls)) (in_any ls i a l k) e)

  pub new_good : good_list Taken new ≡ true
  new_good = rw (take-length (map range_of ls)) at (list_good taken (map range_of ls) taken_good (length (map range_of ls)))

  -- where the lines' ranges end by the top, it is this one
  new_finished : ((i : ℕ) → i < length ls → (line_at ls i).at.0 + (line_at ls i).query.size.0 ≤ top) → Finished (contents current b) ls new
  new_finished ends =
      record {
        good = new_good;
        lines = λ i l x h. at_shortest (with_ranges (map range_of ls) (at taken)) top x (omega (arith, ends i l, h.1)) ∙ rw (in_any ls i x l h);
        others = λ x n. other x (in_none ls x n) (le_or_lt top x);
      }
    where
      other : (x : ℕ) → any (lies x) (map range_of ls) ≡ false → (top ≤ x) ⊎ (x < top) → at new x ≡ at taken x
      other x e (inl l) = at_shortest_above (with_ranges (map range_of ls) (at taken)) top x l ∙ sym (rises_above x (good_rises Taken taken taken_good) l)
      other x e (inr l) = at_shortest (with_ranges (map range_of ls) (at taken)) top x l ∙ rw e

  accepted_ends : Accepted (contents current b) ls → (i : ℕ) → i < length ls → (line_at ls i).at.0 + (line_at ls i).query.size.0 ≤ top
  accepted_ends h i l = (passes_fine b g (line_at ls i) (fit_passes b g (line_at ls i) (h.fit i l))).end

  -- an accepted plan of at most 64 lines is stored
  stored : length ls ≤ 64 → Accepted (contents current b) ls → plan current ls b ≡ at_zero (store current Taken new b)
  unfolding plan
  stored n h = rw (g, le-leb (length ls) 64 n, first_none b g ls h)

-- no lines: the list stays
none_new : (b : List ℕ) (g : good current b ≡ true) → new b g [] ≡ (contents current b).taken
none_new b g = round_trip top (contents current b).taken (good_rises Taken (contents current b).taken (taken_good b g []))

-- ---- the sentences

pub plan_sentence : (b : List ℕ) (ls : List Line) → PlanSentence b ls
unfolding plan store capacity
plan_sentence b ls =
    record {
      bad = λ g. rw g;
      long = λ g l. rw (g, lt-leb (length ls) 64 l);
      fault = λ g n f. rw (g, le-leb (length ls) 64 n, first_some b g ls f);
      full = λ g n h xs f l.
          let e = finished_is b g ls xs f in
          stored b g ls n h ∙ rw (← e, lt-leb (length xs) 512 l);
      done = λ g n h xs f l.
          let e = finished_is b g ls xs f in
          stored b g ls n h ∙ rw (← e, le-leb (length xs) 512 l);
      either = λ g. verdicts b g ls (first_fault (contents current b) ls) (lowest_gives (faulty (contents current b) ls) (length ls));
      never_both = λ i h f. never i h f.fault f.there;
      list = λ g h. record { list = new b g ls; finished = new_finished b g ls (accepted_ends b g ls h) };
      empty = λ g e. none g e;
    }
  where
    never : (i : ℕ) → Accepted (contents current b) ls → (Fit (contents current b) (line_at ls i) → ⊥) ⊎ SharesEarlier ls i → i < length ls → ⊥
    never i h (inl n) l = n (h.fit i l)
    never i h (inr n) l = h.apart n.earlier i n.before l n.share

    none : good current b ≡ true → ls ≡ [] → plan current ls b ≡ answer 0 b []
    none g e =
        let xs : List Region = (contents current b).taken in
        let h : Accepted (contents current b) [] = record { fit = λ i l. absurd (not-suc-le-zero l); apart = λ i j l m. absurd (not-suc-le-zero m) } in
        let m = le-leb (length xs) 512 (room current (contents current b) (good_contents_lem current b g) Taken) in
        ap (λ (ks : List Line). plan current ks b) e ∙ stored b g [] (omega arith) h ∙ ap (λ (ys : List Region). at_zero (store current Taken ys b)) (none_new b g) ∙ rw (m, good_spelled current b g)

pub reserved_sentence : ReservedSentence
unfolding plan store
reserved_sentence b ls = go (good current b) refl (leb (length ls) 64) refl (first_fault (contents current b) ls) refl (lowest_gives (faulty (contents current b) ls) (length ls))
  where
    xs : List Region
    xs = shortest (with_ranges (map range_of ls) (at (contents current b).taken)) top

    stands : good current b ≡ true → Accepted (contents current b) ls → (t : Bool) → leb (length xs) (capacity current Taken) ≡ t → (unless t 6 b (done_with (block_bytes current (with_list (contents current b) Taken xs)))).number ≡ 0
        → Reserved b ls (unless t 6 b (done_with (block_bytes current (with_list (contents current b) Taken xs)))).block
    stands g h false e z = absurd (omega (arith, z))
    stands g h true e z =
        let k = list_kept current small_current b g Taken xs e (new_good b g ls) in
        let f = new_finished b g ls (accepted_ends b g ls h) in
        record {
          is_good = k.is_good;
          lines = λ i l x n. rw k.says (f.lines i l x n);
          others = λ x n. rw k.says (f.others x n);
          memory = ap (λ (c : Contents). c.memory) k.says;
          settings = ap (λ (c : Contents). c.settings) k.says;
        }

    go : (t : Bool) → good current b ≡ t → (u : Bool) → leb (length ls) 64 ≡ u → (o : Option ℕ) → first_fault (contents current b) ls ≡ o
        → Gives (faulty (contents current b) ls) (λ y x. y < x) (length ls) o
        → (cond t (cond u (verdict current ls b o) (answer 14 b [])) (answer 1 b [])).number ≡ 0
        → Reserved b ls (cond t (cond u (verdict current ls b o) (answer 14 b [])) (answer 1 b [])).block
    go false g u e o f w z = absurd (omega (arith, z))
    go true g false e o f w z = absurd (omega (arith, z))
    go true g true e (some i) f w z = absurd (omega (arith, z))
    go true g true e none f w z = stands g (unfaulted_accepted b g ls w) (leb (length xs) (capacity current Taken)) refl z
