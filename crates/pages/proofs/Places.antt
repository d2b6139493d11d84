-- Where the walk over the pages stands: on to the next run, and on past a piece. Assumes nothing.
use Prim.Native.Nat.{ℕ, ◌+◌, ◌-◌, ◌*◌, ◌/◌, ◌^◌, ◌≤◌, ◌<◌, max}
use mathlib.Core.Path.{◌≡◌, refl, sym, ◌∙◌}
use mathlib.Core.List.{List, [], ◌∷◌}
use mathlib.Core.Option.{none, some}
use mathlib.Core.Logic.{◌⊎◌, inl, inr}
use native.Mathlib.Omega.{arith}
use lib.Dec.{leb}
use lib.Pow.{pow_pos}
use borrow.Author.Tests.{leb-true}
use Rattle.address.specs.Numbers.{down}
use Rattle.address.proofs.Tests.{both, le_or_lt, zero_not_one}
use Rattle.address.proofs.Rounding.{down_le, down_near}
use Rattle.regions.specs.declared.Region.{Region}
use Rattle.regions.specs.declared.State.TheVariants.{Absent}
use Rattle.regions.specs.Meaning.{at, top, top_is}
use Rattle.std.specs.Prelude.{Some, None}
use Rattle.std.specs.Prelude.{Option as Answer}
use Rattle.runs.specs.declared.Tables.{Tables}
use Rattle.runs.specs.Steps.{memory_of, taken_of}
use Rattle.regions.proofs.Rises.{Canonical}
use Rattle.regions.proofs.Free.{free_canonical}
use Rattle.sweep.specs.declared.Sweep.{Sweep}
use Rattle.sweep.specs.declared.Swept.{Swept}
use Rattle.pages.specs.declared.Found.{Found}
use Rattle.pages.specs.declared.Stand.{Stand}
use Rattle.pages.specs.Pages.{whole, order_at, piece, pieces_from, page_top, page_top_is}
use Rattle.sweep.specs.Steps.{runs_in, Ahead, Reached, Advanced}
use Rattle.pages.specs.Steps.{within, Around, enter, Entered}
use Rattle.pages.proofs.Dyadic.{down_odd}
use Rattle.pages.proofs.Orders.{order_largest}
use Rattle.pages.proofs.Listing.{pieces_bare, pieces_skip, pieces_one, pieces_inside}
use Rattle.pages.proofs.RunPages.{bare_page, run_below, last_page, in_run}

-- the run at hand gives its pages their orders, and no page between it and the sweep is whole
pub record Stands (tables : Tables) (s : Stand) : Type 0 where
  pub low : s.pages.first ≤ s.page
  pub few : s.page ≤ page_top
  pub top : s.pages.last ≤ page_top
  pub same : (q : ℕ) → s.page ≤ q → q < s.pages.last
      → order_at (whole (runs_in tables)) q ≡ order_at (within s.pages.first s.pages.last) q
  pub none : (q : ℕ) → max s.page s.pages.last ≤ q → 4096 * q < s.at.low.0 → order_at (whole (runs_in tables)) q ≡ none
  pub ahead : Ahead tables s.at

-- from page p on none begins below d
skipped : (runs : List Region) (p d : ℕ) → p ≤ d → d ≤ page_top → ((q : ℕ) → p ≤ q → q < d → order_at (whole runs) q ≡ none) → pieces_from runs p ≡ pieces_from runs d
unfolding pieces_from
skipped runs p d l t h =
    let e : page_top - p ≡ (d - p) + (page_top - d) = omega arith in
    let f : p + (d - p) ≡ d = omega arith in
    rw (e, pieces_skip (whole runs) p (d - p) (page_top - d) (λ q a b. rw (h q a (omega arith))), f)

module _ (tables : Tables) where
  abbrev runs : List Region
  runs = runs_in tables

  canonical : Canonical top runs
  canonical = free_canonical (memory_of tables) (taken_of tables)

  pub stand_first : (p : ℕ) → p < 4503599627370496 → (a : Sweep) → a.low.0 ≤ 4096 * p → Ahead tables a
      → Stands tables (record { pages = record { first = 0; last = 0 }; page = p; at = a })
  stand_first p h a l f =
      record {
        low = omega arith;
        few = omega (arith, page_top_is);
        top = omega arith;
        same = λ q x y. absurd (omega arith);
        none = λ q x y. absurd (omega arith);
        ahead = f;
      }

  -- ---- on to the next run

  -- what is so at the new stand t
  pub record Enters (s t : Stand) : Type 0 where
    pub stands : Stands tables t
    pub rest : pieces_from runs s.page ≡ pieces_from runs t.page
    pub up : s.page ≤ t.page
    pub onward : s.at.low.0 < t.at.low.0

  module _ (s : Stand) (h : Stands tables s) (over : s.pages.last ≤ s.page) where
    -- a page from which on nothing is free, or not below c
    empty : (c q : ℕ) → ((b : ℕ) → s.at.low.0 ≤ b → b < c → at runs b ≡ Absent) → s.page ≤ q → 4096 * q < c → order_at (whole runs) q ≡ none
    empty c q f l m = go (le_or_lt s.at.low.0 (4096 * q))
      where
        go : (s.at.low.0 ≤ 4096 * q) ⊎ (4096 * q < s.at.low.0) → order_at (whole runs) q ≡ none
        go (inl i) = bare_page runs canonical q (f (4096 * q) i m)
        go (inr i) = h.none q (omega arith) i

    none_left : ((b : ℕ) → s.at.low.0 ≤ b → at runs b ≡ Absent) → pieces_from runs s.page ≡ []
    unfolding pieces_from
    none_left f = pieces_bare (whole runs) s.page (page_top - s.page) (λ q a b. rw (empty (4096 * q + 1) q (λ c x y. f c x) a (omega arith)))

    enters : (x : Swept) → Reached runs s.at.low.0 x → Ahead tables x.behind → (f l d : ℕ) → f ≡ (x.low.0 + 4095) / 4096 → l ≡ x.end.0 / 4096
        → d ≡ max s.page f → Enters s (record { pages = record { first = f; last = l }; page = d; at = x.behind })
    enters x r g f l d a b c =
        let n = r.run in
        let y = run_below runs canonical n in
        let z = n.some in
        let k : f ≤ page_top = omega (arith, top_is, page_top_is) in
        let i : d ≤ page_top = omega (arith, h.few) in
        record {
          stands = record {
            low = omega arith;
            few = i;
            top = omega (arith, top_is, page_top_is);
            same = λ q u v. in_run runs canonical n f l q a b (omega arith) v;
            none = λ q u v. behind q u v (le_or_lt x.end.0 (4096 * q));
            ahead = g;
          };
          rest = skipped runs s.page d (omega arith) i (λ q u v. empty x.low.0 q n.before u (omega arith));
          up = omega arith;
          onward = omega (arith, n.from, r.onward);
        }
      where
        behind : (q : ℕ) → max d l ≤ q → 4096 * q < x.behind.low.0 → (x.end.0 ≤ 4096 * q) ⊎ (4096 * q < x.end.0) → order_at (whole runs) q ≡ none
        behind q u v (inl e) = bare_page runs canonical q (r.after (4096 * q) e v)
        behind q u v (inr e) = last_page runs canonical r.run q (omega arith) e (omega arith)

    module _ (r : Answer Stand) (e : Entered tables s r) where
      pub enter_done : r ≡ None → pieces_from runs s.page ≡ []
      enter_done f = go e.found e.advanced (sym e.is ∙ f)
        where
          go : (a : Answer Swept) → Advanced tables s.at a → enter a s ≡ None → pieces_from runs s.page ≡ []
          go None a g = none_left a
          go (Some x) a g = absurd (zero_not_one cc)

      pub enter_at : (t : Stand) → r ≡ Some t → Enters s t
      enter_at t f = go e.found e.advanced (sym e.is ∙ f)
        where
          go : (a : Answer Swept) → Advanced tables s.at a → enter a s ≡ Some t → Enters s t
          go None a g = absurd (zero_not_one cc)
          go (Some x) a g =
              let n : ℕ = (x.low.0 + 4095) / 4096 in
              let m : ℕ = x.end.0 / 4096 in
              let u : Stand = record { pages = record { first = (x.low.0 + 4095) / 4096; last = x.end.0 / 4096 }; page = max s.page ((x.low.0 + 4095) / 4096); at = x.behind } in
              let v : u ≡ t = cc in
              rw v at (enters x a.0 a.1 n m (max s.page n) refl refl refl)

  -- ---- on past a piece

  module _ (s : Stand) (h : Stands tables s) (high : s.page < s.pages.last) (f : Found) (g : Around s.pages.first s.pages.last s.page f) where
    ordered : order_at (whole runs) s.page ≡ some f.scale.order
    ordered = h.same s.page (omega arith) high ∙ g.order

    pub past_above : s.page < f.past
    past_above = omega (arith, g.past, g.start, down_near s.page (2 ^ f.scale.order) (pow_pos f.scale.order))

    pub past_below : f.past ≤ s.pages.last
    past_below =
        let d : ℕ = down s.page (2 ^ f.scale.order) in
        let m = (order_largest (within s.pages.first s.pages.last) s.page (some f.scale.order) g.order).0 in
        let q = both (leb s.pages.first d) (leb (d + 2 ^ f.scale.order) s.pages.last) m in
        omega (arith, g.past, g.start, leb-true (d + 2 ^ f.scale.order) s.pages.last q.1)

    pub stand_past : Stands tables (record { pages = s.pages; page = f.past; at = s.at })
    stand_past =
        let i = past_above in
        let j = past_below in
        record {
          low = omega (arith, h.low);
          few = omega (arith, h.top);
          top = h.top;
          same = λ q a b. h.same q (omega arith) b;
          none = λ q a b. h.none q (omega arith) b;
          ahead = h.ahead;
        }

    -- the page is inside a piece that begins below it
    pub step_inside : f.start < s.page → pieces_from runs s.page ≡ pieces_from runs f.past
    unfolding pieces_from
    step_inside l =
        let i = past_above in
        let j = past_below in
        let e : page_top - s.page ≡ (f.past - s.page) + (page_top - f.past) = omega (arith, h.top) in
        let k : s.page + (f.past - s.page) ≡ f.past = omega arith in
        rw (e, pieces_inside (whole runs) s.page f.scale.order (f.past - s.page) (page_top - f.past) ordered (omega (arith, g.start)) (omega (arith, g.past, g.start)), k)

    -- or a piece begins there
    pub step_piece : s.page ≤ f.start → pieces_from runs s.page ≡ piece s.page f.scale.order ∷ pieces_from runs f.past
    unfolding pieces_from
    step_piece l =
        let d : down s.page (2 ^ f.scale.order) ≡ s.page = omega (arith, g.start, down_le s.page (2 ^ f.scale.order) (pow_pos f.scale.order)) in
        let k : s.page + 2 ^ f.scale.order ≡ f.past = omega (arith, g.past, g.start) in
        let j = past_below in
        let e : page_top - s.page ≡ 2 ^ f.scale.order + (page_top - f.past) = omega (arith, h.top) in
        rw (e, pieces_one (whole runs) s.page f.scale.order (page_top - f.past) ordered (down_odd s.page (2 ^ f.scale.order) d), k)
