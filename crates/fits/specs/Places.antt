-- What a search found: an address with the free run that it lies in, or nothing. Assumes nothing.
use Rattle.std.specs.Prelude.{ℕ, Some, None}
use Rattle.std.specs.Prelude.{Option as Answer}
use Rattle.std.proofs.Math.Option.{Option, none, some}
use Rattle.regions.specs.declared.Run.{Run}
use Rattle.fits.specs.declared.Spot.{Spot}

pub record Hit : Type 0 where
  pub at : ℕ
  pub run : Run

-- the address found, with its run
abbrev pub hit_of : (ℕ → Run) → Option ℕ → Option Hit
hit_of w none = none
hit_of w (some a) = some (record { at = a; run = w a })

abbrev pub place_of : Option Hit → Answer Spot
place_of none = None
place_of (some h) = Some (record { at = record { 0 = h.at }; run = h.run })
