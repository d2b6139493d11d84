-- Calls worked out on what a block says: an executable twin of the definitions, for calls whose own numbers pass the checks. Assumes nothing.
use Prim.Native.Nat.{ℕ, ◌+◌, ◌≤◌, ◌<◌, min, max}
use mathlib.Core.Path.{◌≡◌, refl, sym, ap, ap₂, ◌∙◌}
use mathlib.Core.Bool.{Bool, true, false, cond, ◌&&◌}
use mathlib.Core.List.{List, [], ◌∷◌, map}
use mathlib.Core.Option.{Option, none, some}
use native.Mathlib.Omega.{arith}
use lib.Dec.{leb, ltb, eqb}
use lib.ListN.{length, replicate}
use lib.Pow.{pow_pos}
use borrow.Author.Tests.{leb-true, ltb-true, eqb-true}
use Rattle.address.specs.Numbers.{power_of_two}
use Rattle.address.proofs.Tests.{both, zero_not_one}
use Rattle.address.proofs.Powers.{power_is, power_some}
use Rattle.regions.specs.declared.Kind.{Kind}
use Rattle.regions.specs.declared.Kind.TheVariants.{Memory, Taken}
use Rattle.regions.specs.declared.Region.{Region}
use Rattle.regions.specs.declared.Run.{Run}
use Rattle.regions.specs.declared.State.TheVariants.{Absent}
use Rattle.regions.specs.declared.Change.{Change}
use Rattle.regions.specs.declared.Change.TheVariants.{Fill}
use Rattle.regions.specs.Meaning.{top, top_is}
use Rattle.regions.specs.Lists.{rises, legal, good_list}
use Rattle.regions.specs.Changes.{change, cut, changed, allowed}
use Rattle.regions.specs.Runs.{run_at}
use Rattle.regions.specs.Trim.{round_each}
use Rattle.regions.proofs.Rises.{Canonical}
use Rattle.regions.proofs.Good.{good_rises}
use Rattle.regions.proofs.Trim.{trim_rounds}
use Rattle.regions.proofs.Update.{update}
use Rattle.regions.proofs.Update.{update_shortest}
use Rattle.block.specs.Block.{current, capacity, Contents, list_of, with_list, with_settings, settings, with_image, block_bytes, contents, good_table, good_contents, good}
use Rattle.range.specs.Outcomes.{outcome, unless, store, tag, change_range}
use Rattle.tables.specs.Commands.{Command, table, change_of, legal_verb, strict, command_outcome, set, set_image_end, trim}
use Rattle.block.proofs.Blocks.{lists_ok}
use Rattle.block.proofs.Reading.{Spellable, contents_spelled, good_spelled_block}
use Rattle.block.proofs.Layouts.{small_current}
use Rattle.fits.specs.declared.Query.{Query}
use Rattle.fits.specs.declared.Way.{Way}
use Rattle.fits.specs.declared.Way.TheVariants.{Up, Down}
use Rattle.seek.specs.Search.{window, runs_of, bottom_up, found, found_place}
use Rattle.seek.specs.Steps.{with_window}
use Rattle.search.specs.Answers.{Answer, answer, slip_of, refusal, check_number, asking, place_answer, find, allocate, allocate_answer, reserved}
use Rattle.fits.specs.Places.{Hit, hit_of, place_of}
use Rattle.fits.specs.Eligible.{or_else, lowest, highest, eligible}
use Rattle.fits.specs.Steps.{extreme}
use Rattle.runs.specs.Steps.{first_in}
use Rattle.seek.proofs.Found.{eligible_below, found_eligible}
use Rattle.seek.proofs.BottomUp.{above, lowest_raised}
use Rattle.search.proofs.Answering.{number_ready}
use Rattle.fits.proofs.Ways.{walk, along}
use Rattle.runs.proofs.Walks.{walk_first}
use Rattle.memblock.specs.Calls.{Call, to_fresh, to_set, to_set_image_end, to_command, to_trim, to_find, to_next_free, to_allocate, to_pages, to_intake, to_intake_tree, to_intake_trees, to_convert, answer_of, answers}

-- ---- which contents can stand in a block, computed

abbrev good_listed : Kind → List Region → Bool
good_listed k xs = leb (length xs) (capacity current k) && (rises 0 Absent 18446744073709551615 xs && legal k xs)

abbrev pub sound : Contents → Bool
sound s =
    (leb s.settings.direction 1 && (good_listed Memory s.memory && good_listed Taken s.taken))
    && (ltb s.settings.limit.0 18446744073709551616 && ltb s.settings.image.0 18446744073709551616)

pub sound_spellable : (s : Contents) → sound s ≡ true → Spellable current s
unfolding good_contents good_table good_list
sound_spellable s e =
    let p = both (leb s.settings.direction 1 && (good_listed Memory s.memory && good_listed Taken s.taken)) _ e in
    let l = both (ltb s.settings.limit.0 18446744073709551616) (ltb s.settings.image.0 18446744073709551616) p.1 in
    let x = ltb-true s.settings.limit.0 18446744073709551616 l.0 in
    let y = ltb-true s.settings.image.0 18446744073709551616 l.1 in
    record { good = rw top_is p.0; settings = record { limit = x; image = y } }

-- ---- what a call makes of contents

pub record Result : Type 0 where
  pub number : ℕ
  pub after : Contents
  pub slip : List ℕ

abbrev pub result : ℕ → Contents → List ℕ → Result
result n s slip = record { number = n; after = s; slip = slip }

-- a change over a range of a table
abbrev edited : Contents → Kind → Change → ℕ → ℕ → List Region
edited s k c base size = update (change c) base (min (base + size) 18446744073709551615) (list_of s k)

abbrev kept : Contents → Kind → List Region → List ℕ → List ℕ → Result
kept s k xs done full = cond (leb (length xs) (capacity current k)) (result 0 (with_list s k xs) done) (result 6 s full)

-- a command may change its range
abbrev may : Contents → Command → Bool
may s c = allowed (strict c.verb) c.base (min (c.base + c.size) 18446744073709551615) (list_of s (table c.verb))

-- what a walk finds
abbrev walked : Way → Contents → Query → Option Hit
walked v s w = walk v w (along v s.memory) (along v s.taken)

-- the window from the image end on
abbrev raised : Query → ℕ → Query
raised w image = with_window w (record { 0 = max w.start.0 image }) w.end

-- what find finds
abbrev seek : Contents → Query → Option Hit
seek s q =
    let w = window s.settings.limit.0 q in
    cond (eqb s.settings.direction 1) (or_else (walked Up s (raised w s.settings.image.0)) (walked Down s w)) (walked Down s w)

abbrev finds : Contents → Option Hit → Result
finds s none = result 5 s (replicate 16 0)
finds s (some h) = result 0 s (slip_of h.at h.run.end.0)

abbrev takes : Contents → ℕ → Option Hit → Result
takes s size none = result 5 s (replicate 16 0)
takes s size (some h) = kept s Taken (edited s Taken (Fill (tag 0 0)) h.at size) (slip_of h.at h.run.end.0) (replicate 16 0)

unfoldable pub compute : Call → Contents → Result
compute to_fresh s = result 0 s []
compute (to_set limit direction) s = result 0 (with_settings s (settings limit direction s.settings.image.0)) []
compute (to_set_image_end image) s = result 0 (with_settings s (with_image s.settings image)) []
compute (to_command c) s = cond (may s c) (kept s (table c.verb) (edited s (table c.verb) (change_of c.verb) c.base c.size) [] []) (result 12 s [])
compute (to_trim align) s = result 0 (with_list s Memory (round_each align s.memory)) []
compute (to_find q slip) s = finds s (seek s q)
compute (to_next_free from node wish slip) s = result 0 s []
compute (to_allocate q slip) s = takes s q.size.0 (seek s q)
compute (to_pages page buffer slip) s = result 0 s []
compute (to_intake report) s = result 0 s []
compute (to_intake_tree tree) s = result 0 s []
compute (to_intake_trees board service) s = result 0 s []
compute (to_convert old) s = result 0 s []

-- the call is one that this twin works out: its own numbers pass the checks
abbrev asks : Query → List ℕ → Bool
asks q slip = eqb (length slip) 16 && eqb (refusal q) 0

unfoldable pub computable : Call → Bool
computable to_fresh = false
computable (to_set limit direction) = leb direction 1
computable (to_set_image_end image) = true
computable (to_command c) = legal_verb c.verb && leb c.base 18446744073709551615
computable (to_trim align) = power_of_two align
computable (to_find q slip) = asks q slip
computable (to_next_free from node wish slip) = false
computable (to_allocate q slip) = asks q slip
computable (to_pages page buffer slip) = false
computable (to_intake report) = false
computable (to_intake_tree tree) = false
computable (to_intake_trees board service) = false
computable (to_convert old) = false

-- the answer that is result
abbrev pub spelled : Result → Answer
spelled p = answer p.number (block_bytes current p.after) p.slip

module _ (s : Contents) (sp : Spellable current s) where
  is_good : good current (block_bytes current s) ≡ true
  is_good = good_spelled_block current small_current s sp

  says : contents current (block_bytes current s) ≡ s
  says = contents_spelled current small_current s sp

  canonical : (k : Kind) → Canonical top (list_of s k)
  canonical k = good_rises k (list_of s k) (lists_ok current s sp.good k)

  edit_is : (k : Kind) (c : Change) (base size : ℕ) → base ≤ 18446744073709551615 → changed c base size (list_of s k) ≡ edited s k c base size
  unfolding changed
  edit_is k c base size h =
      let e : cut base size ≡ min (base + size) 18446744073709551615 = omega (arith, top_is) in
      rw e (sym (update_shortest (change c) base (min (base + size) 18446744073709551615) top (list_of s k) (omega arith) (omega (arith, top_is)) (canonical k)))

  range_is : (k : Kind) (c : Change) (base size : ℕ) → base ≤ 18446744073709551615
      → change_range current k c base size (block_bytes current s)
      ≡ cond (leb (length (edited s k c base size)) (capacity current k)) (outcome 0 (block_bytes current (with_list s k (edited s k c base size)))) (outcome 6 (block_bytes current s))
  unfolding store
  range_is k c base size h = rw (says, edit_is k c base size h)

  -- ---- what find finds, by the walks

  hit_else : (W : ℕ → Run) (o u : Option ℕ) → hit_of W (or_else o u) ≡ or_else (hit_of W o) (hit_of W u)
  hit_else W none u = refl
  hit_else W (some a) u = refl

  seek_is : (q : Query) → 0 < q.size.0 → 0 < q.align.0 → hit_of (run_at (runs_of s)) (found s q) ≡ seek s q
  unfolding found first_in
  seek_is q i j = go (eqb s.settings.direction 1)
    where
      runs : List Region
      runs = runs_of s

      image : ℕ
      image = s.settings.image.0

      w : Query
      w = window s.settings.limit.0 q

      by : (v : Way) (w : Query) → 0 < w.size.0 → 0 < w.align.0 → hit_of (run_at runs) (extreme v (eligible w runs) top) ≡ walked v s w
      by v w i j = sym (walk_first v w s.memory s.taken i j (canonical Memory) (canonical Taken))

      up : hit_of (run_at runs) (bottom_up image (eligible w runs)) ≡ or_else (walked Up s (raised w image)) (walked Down s w)
      up =
          hit_else (run_at runs) (lowest (above w runs image) top) (highest (eligible w runs) top)
          ∙ ap₂ or_else (ap (hit_of (run_at runs)) (sym (lowest_raised w runs image (record { 0 = max w.start.0 image }) refl)) ∙ by Up (raised w image) i j) (by Down w i j)

      go : (t : Bool) → hit_of (run_at runs) (cond t (bottom_up image (eligible w runs)) (highest (eligible w runs) top))
          ≡ cond t (or_else (walked Up s (raised w image)) (walked Down s w)) (walked Down s w)
      go true = up
      go false = by Down w i j

  -- ---- the calls

  set_computed : (limit direction : ℕ) → leb direction 1 ≡ true → answer_of (to_set limit direction) (block_bytes current s) ≡ spelled (compute (to_set limit direction) s)
  unfolding answer_of compute set
  set_computed limit direction e = rw (is_good, e, says)

  image_computed : (image : ℕ) → answer_of (to_set_image_end image) (block_bytes current s) ≡ spelled (compute (to_set_image_end image) s)
  unfolding answer_of compute set_image_end
  image_computed image = rw (is_good, says)

  command_computed : (c : Command) → legal_verb c.verb ≡ true → c.base ≤ 18446744073709551615
      → answer_of (to_command c) (block_bytes current s) ≡ spelled (compute (to_command c) s)
  unfolding answer_of command_outcome compute
  command_computed c e h =
      rw (is_good, e, range_is (table c.verb) (change_of c.verb) c.base c.size h, says, cut_is)
      (go (may s c) (leb (length (edited s (table c.verb) (change_of c.verb) c.base c.size)) (capacity current (table c.verb))))
    where
      cut_is : cut c.base c.size ≡ min (c.base + c.size) 18446744073709551615
      cut_is = omega (arith, top_is)

      done : List ℕ
      done = block_bytes current (with_list s (table c.verb) (edited s (table c.verb) (change_of c.verb) c.base c.size))

      go : (u t : Bool)
          → answer (unless u 12 (block_bytes current s) (cond t (outcome 0 done) (outcome 6 (block_bytes current s)))).number
          (unless u 12 (block_bytes current s) (cond t (outcome 0 done) (outcome 6 (block_bytes current s)))).block []
          ≡ spelled (cond u (cond t (result 0 (with_list s (table c.verb) (edited s (table c.verb) (change_of c.verb) c.base c.size)) []) (result 6 s [])) (result 12 s []))
      go true true = refl
      go true false = refl
      go false t = refl

  trim_computed : (align : ℕ) → power_of_two align ≡ true → answer_of (to_trim align) (block_bytes current s) ≡ spelled (compute (to_trim align) s)
  unfolding answer_of compute trim
  trim_computed align e =
      let p = power_is 64 align e in
      let h : 0 < align = omega (arith, pow_pos p.0, p.2) in
      rw (is_good, e, says, trim_rounds align s.memory h (canonical Memory))

  asked_is : (q : Query) (slip : List ℕ) → asks q slip ≡ true → (a : Answer) → (asking (check_number current q (block_bytes current s)) (block_bytes current s) slip a ≡ a) × ((0 < q.size.0) × (0 < q.align.0))
  asked_is q slip e a =
      let p = both (eqb (length slip) 16) (eqb (refusal q) 0) e in
      let n : check_number current q (block_bytes current s) ≡ 0 = rw is_good (eqb-true (refusal q) 0 p.1) in
      let t = number_ready current (block_bytes current s) q n in
      (rw (p.0, is_good, p.1), (t.1, power_some q.align.0 t.0.1))

  find_computed : (q : Query) (slip : List ℕ) → asks q slip ≡ true → answer_of (to_find q slip) (block_bytes current s) ≡ spelled (compute (to_find q slip) s)
  unfolding answer_of compute find found_place
  find_computed q slip e =
      let a : Answer = place_answer (block_bytes current s) (found_place (contents current (block_bytes current s)) q) in
      let w = asked_is q slip e a in
      w.0 ∙ rw (says, seek_is q w.1.0 w.1.1) (go (seek s q))
    where
      go : (o : Option Hit) → place_answer (block_bytes current s) (place_of o) ≡ spelled (finds s o)
      go none = refl
      go (some h) = refl

  allocate_computed : (q : Query) (slip : List ℕ) → asks q slip ≡ true → answer_of (to_allocate q slip) (block_bytes current s) ≡ spelled (compute (to_allocate q slip) s)
  unfolding answer_of compute allocate found_place
  allocate_computed q slip e =
      let a : Answer = allocate_answer current (block_bytes current s) q.size.0 (found_place (contents current (block_bytes current s)) q) in
      let w = asked_is q slip e a in
      w.0 ∙ rw says (go (found s q) refl w.1.0 ∙ ap (λ (o : Option Hit). spelled (takes s q.size.0 o)) (seek_is q w.1.0 w.1.1))
    where
      by : (x end : ℕ) (t : Bool)
          → reserved (block_bytes current s) x end (cond t (outcome 0 (block_bytes current (with_list s Taken (edited s Taken (Fill (tag 0 0)) x q.size.0)))) (outcome 6 (block_bytes current s)))
          ≡ spelled (cond t (result 0 (with_list s Taken (edited s Taken (Fill (tag 0 0)) x q.size.0)) (slip_of x end)) (result 6 s (replicate 16 0)))
      by x end true = refl
      by x end false = refl

      go : (o : Option ℕ) → found s q ≡ o → 0 < q.size.0
          → allocate_answer current (block_bytes current s) q.size.0 (place_of (hit_of (run_at (runs_of s)) o)) ≡ spelled (takes s q.size.0 (hit_of (run_at (runs_of s)) o))
      go none h i = refl
      go (some x) h i =
          let l = eligible_below (window s.settings.limit.0 q) s x i (found_eligible s q x h) in
          rw (range_is Taken (Fill (tag 0 0)) x q.size.0 (omega (arith, top_is))) (by x (run_at (runs_of s) x).end.0 (leb (length (edited s Taken (Fill (tag 0 0)) x q.size.0)) (capacity current Taken)))

-- ---- a list of calls

pub call_computed : (c : Call) (s : Contents) → Spellable current s → computable c ≡ true → answer_of c (block_bytes current s) ≡ spelled (compute c s)
unfolding computable
call_computed to_fresh s sp e = absurd (zero_not_one cc)
call_computed (to_set limit direction) s sp e = set_computed s sp limit direction e
call_computed (to_set_image_end image) s sp e = image_computed s sp image
call_computed (to_command c) s sp e =
    let p = both (legal_verb c.verb) (leb c.base 18446744073709551615) e in
    command_computed s sp c p.0 (leb-true c.base 18446744073709551615 p.1)
call_computed (to_trim align) s sp e = trim_computed s sp align e
call_computed (to_find q slip) s sp e = find_computed s sp q slip e
call_computed (to_next_free from node wish slip) s sp e = absurd (zero_not_one cc)
call_computed (to_allocate q slip) s sp e = allocate_computed s sp q slip e
call_computed (to_pages page buffer slip) s sp e = absurd (zero_not_one cc)
call_computed (to_intake report) s sp e = absurd (zero_not_one cc)
call_computed (to_intake_tree tree) s sp e = absurd (zero_not_one cc)
call_computed (to_intake_trees board service) s sp e = absurd (zero_not_one cc)
call_computed (to_convert old) s sp e = absurd (zero_not_one cc)

unfoldable pub compute_all : List Call → Contents → List Result
compute_all [] s = []
compute_all (c ∷ cs) s = compute c s ∷ compute_all cs (compute c s).after

-- each call is one that the twin works out, on contents that can stand in a block
unfoldable pub all_computable : List Call → Contents → Bool
all_computable [] s = true
all_computable (c ∷ cs) s = (sound s && computable c) && all_computable cs (compute c s).after

pub answers_computed : (cs : List Call) (s : Contents) → all_computable cs s ≡ true → answers cs (block_bytes current s) ≡ map spelled (compute_all cs s)
unfolding answers compute_all all_computable
answers_computed [] s e = refl
answers_computed (c ∷ cs) s e =
    let p = both (sound s && computable c) (all_computable cs (compute c s).after) e in
    let q = both (sound s) (computable c) p.0 in
    let a = call_computed c s (sound_spellable s q.0) q.1 in
    ap₂ (λ (x : Answer) (xs : List Answer). x ∷ xs) a (ap (λ (x : Answer). answers cs x.block) a ∙ answers_computed cs (compute c s).after p.1)
