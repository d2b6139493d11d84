-- The invariant of the walk over the pages, and its ways on and out. Assumes nothing.
use Prim.Native.Nat.{ℕ, ◌+◌, ◌-◌, ◌*◌, ◌/◌, ◌≤◌, ◌<◌}
use mathlib.Core.Path.{◌≡◌, refl, sym, ap, ◌∙◌}
use mathlib.Core.List.{List, [], ◌∷◌}
use native.Mathlib.Omega.{arith}
use lib.ListN.{length, take, drop, length-take, length-drop, drop_of_length-le}
use lib.Seq.{sets, take_all, take-nil, drop-nil}
use Rattle.regions.specs.Meaning.{top_is}
use Rattle.sweep.specs.declared.Sweep.{Sweep}
use Rattle.pages.specs.declared.Piece.{Piece}
use Rattle.pages.specs.declared.Found.{Found}
use Rattle.pages.specs.declared.Stand.{Stand}
use Rattle.std.specs.Prelude.{Option, Some, None}
use Rattle.runs.specs.declared.Tables.{Tables}
use Rattle.pages.specs.Pages.{piece, pieces, pieces_from, page_top, page_top_is, piece_bytes, pieces_bytes, next_page, written}
use Rattle.sweep.specs.Steps.{runs_in, Ahead}
use Rattle.pages.specs.Steps.{Sized, Around, HandedOver, Entered}
use Rattle.pages.proofs.Places.{Stands, stand_first, Enters, enter_done, enter_at, past_above, past_below, stand_past, step_inside, step_piece}
use Rattle.pages.proofs.Writing.{take_more, drop_more, length_more, written_length, written_more}

-- count pieces are written, and what is left is the list from the walk's page on
pub record Walked (tables : Tables) (p : ℕ) (lent : List ℕ) (count : ℕ) (s : Stand) (buffer : List ℕ) : Type 0 where
  pub small : length lent < 18446744073709551616
  pub few : count ≤ length lent / 12
  pub some : count ≤ length (pieces_from (runs_in tables) p)
  pub rest : drop count (pieces_from (runs_in tables) p) ≡ pieces_from (runs_in tables) s.page
  pub bytes : buffer ≡ written (take count (pieces_from (runs_in tables) p)) lent
  pub stands : Stands tables s

-- what falls from turn to turn
abbrev pub ahead : Stand → ℕ
ahead s = (18446744073709551616 - s.at.low.0) + (18446744073709551616 - s.page)

-- the order from which the first one is looked for
pub scale_first : Sized (record { order = 10; size = 1024 })
scale_first = record { few = omega arith; size = refl }

-- no page is left from 2^52 on
pub walk_far : (tables : Tables) (p : ℕ) (lent : List ℕ) → 4503599627370496 ≤ p → HandedOver (pieces_from (runs_in tables) p) lent 0 4503599627370496 lent
unfolding pieces_from pieces next_page written pieces_bytes
walk_far tables p lent h =
    let z : page_top - p ≡ 0 = omega (arith, page_top_is) in
    record { many = rw (z, take-nil); rest = rw (z, drop-nil) (sym page_top_is); bytes = rw (z, take-nil) }

pub walk_start : (tables : Tables) (p : ℕ) (lent : List ℕ) → length lent < 18446744073709551616 → p < 4503599627370496 → (a : Sweep) → a.low.0 ≤ 4096 * p
    → Ahead tables a → Walked tables p lent 0 (record { pages = record { first = 0; last = 0 }; page = p; at = a }) lent
unfolding written pieces_bytes
walk_start tables p lent n h a l f =
    record { small = n; few = omega arith; some = omega arith; rest = refl; bytes = refl; stands = stand_first tables p h a l f }

module _ {tables : Tables} {p : ℕ} {lent : List ℕ} {count : ℕ} {s : Stand} {buffer : List ℕ}
    (w : Walked tables p lent count s buffer) where
  pub walk_length : length buffer ≡ length lent
  walk_length = rw w.bytes (written_length (take count (pieces_from (runs_in tables) p)) lent (omega (arith, length-take count (pieces_from (runs_in tables) p), w.few)))

  pub walk_room : (count ≡ length lent / 12 → ⊥) → 12 * count + 12 ≤ length buffer
  walk_room h = rw walk_length (omega (arith, w.few))

  -- the place of the next piece, and the next count, are numbers
  pub walk_place : 12 * count < 18446744073709551616
  walk_place = omega (arith, w.few, w.small)

  pub walk_count : count + 1 < 18446744073709551616
  walk_count = omega (arith, w.few, w.small)

  -- ---- past the run at hand

  module _ {r : Option Stand} (over : s.pages.last ≤ s.page) (e : Entered tables s r) where
    -- nothing is left
    pub walk_done : r ≡ None → HandedOver (pieces_from (runs_in tables) p) lent count 4503599627370496 buffer
    unfolding next_page
    walk_done f =
        let ps : List Piece = pieces_from (runs_in tables) p in
        let z : drop count ps ≡ [] = w.rest ∙ enter_done tables s w.stands over r e f in
        let l : length ps ≡ count = omega (arith, ap length z, length-drop count ps, w.some) in
        let a : take (length lent / 12) ps ≡ ps = take_all (length lent / 12) ps (omega (arith, w.few)) in
        let b : drop (length lent / 12) ps ≡ [] = drop_of_length-le ps {i = length lent / 12} (omega (arith, w.few)) in
        let d : take count ps ≡ ps = take_all count ps (omega arith) in
        record { many = rw (a, l); rest = rw b (sym page_top_is); bytes = w.bytes ∙ rw (a, d) }

    module _ {t : Stand} (f : r ≡ Some t) where
      entering : Enters tables s t
      entering = enter_at tables s w.stands over r e t f

      pub walk_less : ahead t < ahead s
      walk_less = omega (arith, entering.up, entering.onward, entering.stands.ahead.small, top_is)

      pub walk_enter : Walked tables p lent count t buffer
      walk_enter = record { small = w.small; few = w.few; some = w.some; rest = w.rest ∙ entering.rest; bytes = w.bytes; stands = entering.stands }

  -- ---- in the run at hand

  pub walk_ahead : Ahead tables s.at
  walk_ahead = w.stands.ahead

  pub walk_low : s.pages.first ≤ s.page
  walk_low = w.stands.low

  module _ {f : Found} (high : s.page < s.pages.last) (g : Around s.pages.first s.pages.last s.page f) where
    abbrev next : Stand
    next = record { pages = s.pages; page = f.past; at = s.at }

    pub walk_on : ahead next < ahead s
    walk_on = omega (arith, past_above tables s w.stands high f g, past_below tables s w.stands high f g, w.stands.top, page_top_is)

    -- inside a piece that begins below the page
    pub walk_inside : f.start < s.page → Walked tables p lent count next buffer
    walk_inside l =
        record {
          small = w.small;
          few = w.few;
          some = w.some;
          rest = w.rest ∙ step_inside tables s w.stands high f g l;
          bytes = w.bytes;
          stands = stand_past tables s w.stands high f g;
        }

    left : s.page ≤ f.start → drop count (pieces_from (runs_in tables) p) ≡ piece s.page f.scale.order ∷ pieces_from (runs_in tables) f.past
    left l = w.rest ∙ step_piece tables s w.stands high f g l

    -- a piece, and no room
    pub walk_full : s.page ≤ f.start → count ≡ length lent / 12 → HandedOver (pieces_from (runs_in tables) p) lent count s.page buffer
    unfolding next_page
    walk_full l k =
        let ps : List Piece = pieces_from (runs_in tables) p in
        let z = left l in
        record { many = rw (← k) (omega (arith, length-take count ps, w.some)); rest = rw (← k, z); bytes = rw (← k) w.bytes }

    -- a piece, and room
    pub walk_put : s.page ≤ f.start → (count ≡ length lent / 12 → ⊥) → {after : List ℕ} → after ≡ sets buffer (12 * count) (piece_bytes (piece s.page f.scale.order))
        → Walked tables p lent (count + 1) next after
    walk_put l k {after} h =
        let ps : List Piece = pieces_from (runs_in tables) p in
        let x : Piece = piece s.page f.scale.order in
        let xs : List Piece = pieces_from (runs_in tables) f.past in
        let z = left l in
        let o : length (take count ps) ≡ count = omega (arith, length-take count ps, w.some) in
        record {
          small = w.small;
          few = omega (arith, w.few);
          some = length_more ps count x xs z;
          rest = drop_more ps count x xs z;
          bytes = h ∙ rw (w.bytes, take_more ps count x xs z) (written_more (take count ps) x lent count o (omega (arith, w.few)));
          stands = stand_past tables s w.stands high f g;
        }
