-- Which addresses a search may give, and which of them it gives. Assumes nothing.
use Rattle.std.specs.Prelude.{ℕ, min, max, Bool, cond, ◌&&◌, List, leb, eqb}
use Rattle.std.specs.Prelude.{Option as Answer}
use Rattle.std.proofs.Math.Option.{Option}
use Rattle.regions.specs.declared.Region.{Region}
use Rattle.regions.specs.Meaning.{top}
use Rattle.regions.specs.Free.{free_runs}
use Rattle.regions.specs.Runs.{in_one, run_at}
use Rattle.block.specs.Block.{Contents}
use Rattle.fits.specs.declared.Query.{Query}
use Rattle.fits.specs.declared.Spot.{Spot}
use Rattle.fits.specs.Eligible.{or_else, lowest, highest, wanted, eligible}
use Rattle.fits.specs.Places.{hit_of, place_of}

-- ---- find

-- the limit binds (E3): a named end becomes the smaller of itself and the limit; an end of 0 means the limit
abbrev pub bounded_end : ℕ → ℕ → ℕ
bounded_end limit end = cond (eqb end 0) limit (min end limit)

-- document 01's window: start is raised to at least 4096, then end, bounded, to at least start
abbrev pub window_start : ℕ → ℕ
window_start start = max start 4096

abbrev pub window_end : ℕ → ℕ → ℕ → ℕ
window_end limit start end = max (bounded_end limit end) (window_start start)

abbrev pub window : ℕ → Query → Query
window limit q =
    record {
      size = q.size;
      align = q.align;
      start = record { 0 = window_start q.start.0 };
      end = record { 0 = window_end limit q.start.0 q.end.0 };
      node = q.node;
      wish = q.wish;
    }

abbrev pub runs_of : Contents → List Region
runs_of s = free_runs s.memory s.taken

-- of the addresses at which p holds (E7): the lowest at or above the image end or, where there is none, the highest
abbrev pub bottom_up : ℕ → (ℕ → Bool) → Option ℕ
bottom_up image p = or_else (lowest (λ a. leb image a && p a) top) (highest p top)

-- what find finds of the eligible addresses: bottom-up (direction 1) so, top-down the highest
unfoldable pub found : Contents → Query → Option ℕ
found s q =
    let p = eligible (window s.settings.limit.0 q) (runs_of s) in
    cond (eqb s.settings.direction 1) (bottom_up s.settings.image.0 p) (highest p top)

-- the same with the free run that it lies in
unfoldable pub found_place : Contents → Query → Answer Spot
found_place s q = place_of (hit_of (run_at (runs_of s)) (found s q))

-- ---- next free

-- a at or above p, in a free run of the node and the wish asked for
abbrev pub free_from : ℕ → ℕ → ℕ → List Region → ℕ → Bool
free_from p node wish runs a = leb p a && in_one (wanted node wish) 1 a runs

unfoldable pub lowest_free : Contents → ℕ → ℕ → ℕ → Option ℕ
lowest_free s p node wish = lowest (free_from p node wish (runs_of s)) top

unfoldable pub next_place : Contents → ℕ → ℕ → ℕ → Answer Spot
next_place s p node wish = place_of (hit_of (run_at (runs_of s)) (lowest_free s p node wish))
