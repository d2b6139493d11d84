-- Fits in one stretch, and what a walk looks for. Only inner contracts and proofs cite this module. Assumes nothing.
use Rattle.std.specs.Prelude.{ℕ, ◌+◌, ◌-◌, min, max, Bool, cond, not, ◌&&◌, leb, Some, None}
use Rattle.std.specs.Prelude.{Option as Answer}
use Rattle.std.proofs.Math.Option.{Option, none, some}
use Rattle.address.specs.Numbers.{up, down}
use Rattle.address.specs.declared.Address.{Address}
use Rattle.regions.specs.declared.Tag.{Tag}
use Rattle.regions.specs.declared.Region.{Region}
use Rattle.regions.specs.Changes.{has}
use Rattle.regions.specs.Runs.{run_of}
use Rattle.fits.specs.declared.Query.{Query}
use Rattle.fits.specs.declared.Way.{Way}
use Rattle.fits.specs.declared.Way.TheVariants.{Up, Down}
use Rattle.fits.specs.Eligible.{lowest, highest, granted}
use Rattle.fits.specs.Places.{Hit, hit_of}

-- ---- one stretch

-- flags that a search with this wish looks at: not no-map, and granted
abbrev pub open_to : ℕ → ℕ → Bool
open_to wish flags = not (has 4 flags) && granted wish flags

-- a record whose addresses may lie in free runs whose tag passes
abbrev pub serves : (Tag → Bool) → Region → Bool
serves p r = not (has 4 r.tag.flags) && p r.tag

-- the lowest and the highest multiple of the alignment that fits from lo to hi
unfoldable pub cut_low : Query → ℕ → ℕ → Option ℕ
cut_low q lo hi = cond (leb (up lo q.align.0 + q.size.0) hi) (some (up lo q.align.0)) none

unfoldable pub cut_high : Query → ℕ → ℕ → Option ℕ
cut_high q lo hi = cond (leb q.size.0 hi && leb lo (down (hi - q.size.0) q.align.0)) (some (down (hi - q.size.0) q.align.0)) none

abbrev pub spot_of : Option ℕ → Answer Address
spot_of none = None
spot_of (some a) = Some (record { 0 = a })

abbrev pub hit_in : ℕ → ℕ → Option ℕ → Option Hit
hit_in lo hi o = hit_of (λ a. run_of lo hi) o

-- the same in the window, with the run from lo to hi
unfoldable pub fit_low : Query → ℕ → ℕ → Option Hit
fit_low q lo hi = hit_in lo hi (cut_low q (max lo q.start.0) (min hi q.end.0))

unfoldable pub fit_high : Query → ℕ → ℕ → Option Hit
fit_high q lo hi = hit_in lo hi (cut_high q (max lo q.start.0) (min hi q.end.0))

-- ---- a walk

-- what a walk looks for among all numbers below n: upwards the lowest, downwards the highest
abbrev pub extreme : Way → (ℕ → Bool) → ℕ → Option ℕ
extreme Up = lowest
extreme Down = highest
