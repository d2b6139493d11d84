-- Whole blocks: a good block's two parts can be searched, and what is found in them is what the definitions say of the block. Assumes nothing.
use Prim.Native.Nat.{ℕ, ◌+◌, ◌-◌, ◌≤◌, ◌<◌, min, max}
use mathlib.Core.Path.{◌≡◌, refl, ◌∙◌}
use mathlib.Core.Bool.{Bool, true, false, ◌&&◌}
use mathlib.Core.List.{List}
use native.Mathlib.Omega.{arith}
use native.Mathlib.Nat.{mod-one}
use lib.Dec.{leb}
use lib.ListN.{length, take, drop}
use borrow.Author.Tests.{eq-eqb, ne_eqb, le-leb}
use Rattle.address.specs.declared.Address.{Address}
use Rattle.address.specs.Numbers.{power_below}
use Rattle.regions.specs.declared.Kind.TheVariants.{Memory, Taken}
use Rattle.regions.specs.declared.Region.{Region}
use Rattle.regions.specs.Meaning.{top, top_is}
use Rattle.block.specs.declared.Header.{Header}
use Rattle.block.specs.Block.{current, capacity, offset, Contents, read_header, contents, good}
use Rattle.block.proofs.Blocks.{lists_ok, good_contents_lem, good_length, counted_room}
use Rattle.regions.specs.Runs.{in_one}
use Rattle.fits.specs.declared.Query.{Query}
use Rattle.fits.specs.declared.Way.TheVariants.{Up, Down}
use Rattle.std.specs.Prelude.{Option}
use Rattle.fits.specs.declared.Spot.{Spot}
use Rattle.fits.specs.Eligible.{wanted, eligible}
use Rattle.runs.specs.declared.Tables.{Tables}
use Rattle.runs.specs.Steps.{first_in}
use Rattle.seek.specs.Search.{bounded_end, window, window_end, runs_of, found, found_place, free_from, lowest_free, next_place}
use Rattle.seek.specs.Steps.{Ready, TablesOf, with_window, first_of, bottom_up_of, next_query}
use Rattle.fits.proofs.Stretches.{lowest_agree}

-- ---- the window

module _ (limit end : ℕ) where
  pub bounded_limit : end ≡ 0 → limit ≡ bounded_end limit end
  bounded_limit z = rw (eq-eqb end 0 z)

  pub bounded_named : (end ≡ 0 → ⊥) → (e : ℕ) → e ≡ min end limit → e ≡ bounded_end limit end
  bounded_named z e h = rw (ne_eqb end 0 z) h

pub window_is : (limit : Address) (q : Query) (start bound end : Address) → start.0 ≡ max q.start.0 4096 → bound.0 ≡ bounded_end limit.0 q.end.0
    → end.0 ≡ max bound.0 start.0 → (w : Query) → w ≡ with_window q start end → w ≡ window limit.0 q
window_is limit q start bound end s b e w is =
    let f : end.0 ≡ window_end limit.0 q.start.0 q.end.0 = rw (← b, ← s) e in
    is ∙ (λ i. with_window q (record { 0 = s i }) (record { 0 = f i }))

-- ---- the parts of a good block

pub header_room : (b : List ℕ) → good current b ≡ true → 80 ≤ length b
header_room b g = omega (arith, good_length current b g)

-- the tables as the code lends them
pub tables_are : (b : List ℕ) → good current b ≡ true → (h : Header) → h ≡ read_header b → (t : Tables) → t.memory.bytes.now ≡ take (3152 - 80) (drop 80 b)
    → t.memory.count ≡ h.memory.count → t.taken.bytes.now ≡ take (15440 - 3152) (drop 3152 b) → t.taken.count ≡ h.taken.count → TablesOf b t
unfolding contents capacity offset
tables_are b p h r t m c u d =
    let g = good_contents_lem current b p in
    record {
      good = record {
        room_memory = rw (m, c, r) (counted_room current b p Memory);
        room_taken = rw (u, d, r) (counted_room current b p Taken);
        good_memory = rw (m, c, r) (lists_ok current (contents current b) g Memory);
        good_taken = rw (u, d, r) (lists_ok current (contents current b) g Taken);
      };
      memory = rw (m, c, r);
      taken = rw (u, d, r);
    }

-- ---- find

module _ (b : List ℕ) (q : Query) (h : Header) (r : h ≡ read_header b) (w : Query) (e : w ≡ window h.settings.limit.0 q) where
  pub ready_window : Ready b q → Ready b w
  ready_window p = rw e (record { good = p.good; size = p.size; align = p.align })

  pub limit_is : w ≡ window (contents current b).settings.limit.0 q
  unfolding contents
  limit_is = rw r at e

pub ready_above : (b : List ℕ) (w : Query) (start end : Address) (u : Query) → u ≡ with_window w start end → Ready b w → Ready b u
ready_above b w start end u e p = rw e (record { good = p.good; size = p.size; align = p.align })

module _ (b : List ℕ) (q : Query) (h : Header) (r : h ≡ read_header b) (w : Query) (e : w ≡ window h.settings.limit.0 q) where
  pub find_up : h.settings.direction ≡ 1 → (f : Option Spot) → f ≡ bottom_up_of (contents current b) w h.settings.image.0 → f ≡ found_place (contents current b) q
  unfolding found found_place contents
  find_up d f i =
      let k : (read_header b).settings.direction ≡ 1 = rw r at d in
      let j : f ≡ bottom_up_of (contents current b) w (read_header b).settings.image.0 = rw r at i in
      rw (eq-eqb (read_header b).settings.direction 1 k, ← limit_is b q h r w e) j

  pub find_down : (h.settings.direction ≡ 1 → ⊥) → (f : Option Spot) → f ≡ first_of Down (contents current b) w → f ≡ found_place (contents current b) q
  unfolding found found_place contents first_in
  find_down d f i =
      let k : (read_header b).settings.direction ≡ 1 → ⊥ = rw r at d in
      rw (ne_eqb (read_header b).settings.direction 1 k, ← limit_is b q h r w e) i

-- ---- next free

pub next_ready : (b : List ℕ) (p : Address) (node wish : ℕ) (q : Query) → q ≡ next_query p node wish → good current b ≡ true → Ready b q
unfolding power_below
next_ready b p node wish q e g = rw e (record { good = g; size = omega arith; align = refl })

-- an address is eligible for it exactly when it is free, from p on
next_eligible : (p : Address) (node wish : ℕ) (runs : List Region) (a : ℕ) → a < top → eligible (next_query p node wish) runs a ≡ free_from p.0 node wish runs a
unfolding eligible
next_eligible p node wish runs a h =
    let f : a + 1 ≤ 18446744073709551615 = omega (arith, top_is) in
    rw (mod-one a, le-leb (a + 1) 18446744073709551615 f) (go (leb p.0 a))
  where
    go : (t : Bool) → (t && true) && in_one (wanted node wish) 1 a runs ≡ t && in_one (wanted node wish) 1 a runs
    go true = refl
    go false = refl

pub next_found : (s : Contents) (p : Address) (node wish : ℕ) (q : Query) → q ≡ next_query p node wish → (f : Option Spot) → f ≡ first_of Up s q → f ≡ next_place s p.0 node wish
unfolding first_in next_place lowest_free
next_found s p node wish q e f i =
    let k = lowest_agree (eligible (next_query p node wish) (runs_of s)) (free_from p.0 node wish (runs_of s)) top (next_eligible p node wish (runs_of s)) in
    rw (e, k) at i
