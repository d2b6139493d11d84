-- E14's own words for the pieces: each run's whole pages, cut from the bottom. Assumes nothing.
use Rattle.std.specs.Prelude.{ℕ, zero, suc, ◌+◌, ◌-◌, ◌/◌, ◌%◌, ◌^◌, ◌&&◌, List, [], ◌∷◌, ◌++◌, leb, eqb}
use Rattle.std.proofs.Math.Option.{Option, none, some}
use Rattle.regions.specs.declared.Region.{Region}
use Rattle.regions.specs.Meaning.{end}
use Rattle.fits.specs.Eligible.{highest}
use Rattle.pages.specs.declared.Piece.{Piece}
use Rattle.pages.specs.Pages.{piece}

-- the largest order from 0 to 10 whose piece begins at page c, a multiple of its size, and fits in what is left below page l
unfoldable pub cut_order : ℕ → ℕ → Option ℕ
cut_order c l = highest (λ o. eqb (c % 2 ^ o) 0 && leb (c + 2 ^ o) l) 11

-- the piece that begins at c, and what is cut from its end on
abbrev pub cut_step : ℕ → Option ℕ → (ℕ → List Piece) → List Piece
cut_step c none more = []
cut_step c (some o) more = piece c o ∷ more (c + 2 ^ o)

-- the pages from c up to, not including, l, cut from the bottom, in n pieces at the most
unfoldable pub cut : ℕ → ℕ → ℕ → List Piece
cut zero c l = []
cut (suc n) c l = cut_step c (cut_order c l) (λ d. cut n d l)

-- a run's whole pages: from the first, its base rounded up, up to, not including, the last, its end rounded down
abbrev pub first_page : Region → ℕ
first_page r = (r.base.0 + 4095) / 4096

abbrev pub past_page : Region → ℕ
past_page r = end r / 4096

-- run for run, as many pieces as there are pages at the most
unfoldable pub cuts : List Region → List Piece
cuts [] = []
cuts (r ∷ rs) = cut (past_page r - first_page r) (first_page r) (past_page r) ++ cuts rs
