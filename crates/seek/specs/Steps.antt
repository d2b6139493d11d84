-- What the steps of the search answer, and what they ask for. Only inner contracts cite this module. Assumes nothing.
use Rattle.std.specs.Prelude.{ℕ, ◌<◌, ◌≡◌, true, List, Option}
use Rattle.address.specs.Numbers.{power_of_two}
use Rattle.address.specs.declared.Address.{Address}
use Rattle.regions.specs.Runs.{run_at}
use Rattle.block.specs.Block.{current, Contents, contents, good}
use Rattle.fits.specs.declared.Query.{Query}
use Rattle.fits.specs.declared.Way.{Way}
use Rattle.fits.specs.declared.Spot.{Spot}
use Rattle.fits.specs.Eligible.{eligible}
use Rattle.fits.specs.Places.{hit_of, place_of}
use Rattle.runs.specs.declared.Tables.{Tables}
use Rattle.runs.specs.Steps.{memory_of, taken_of, GoodTables, first_in}
use Rattle.seek.specs.Search.{runs_of, bottom_up}

-- a good block, and something that can be looked for
pub record Ready (b : List ℕ) (q : Query) : Type 0 where
  pub good : good current b ≡ true
  pub size : 0 < q.size.0
  pub align : power_of_two q.align.0 ≡ true

-- its two tables: good ones, with the lists that it holds
pub record TablesOf (b : List ℕ) (t : Tables) : Type 0 where
  pub good : GoodTables t
  pub memory : memory_of t ≡ (contents current b).memory
  pub taken : taken_of t ≡ (contents current b).taken

-- what a walk finds in the tables
abbrev pub first_of : Way → Contents → Query → Option Spot
first_of v s q = place_of (first_in v s.memory s.taken q)

-- a query with another window
abbrev pub with_window : Query → Address → Address → Query
with_window q start end = record { size = q.size; align = q.align; start = start; end = end; node = q.node; wish = q.wish }

-- what a bottom-up search finds in a window
abbrev pub bottom_up_of : Contents → Query → ℕ → Option Spot
bottom_up_of s w image = place_of (hit_of (run_at (runs_of s)) (bottom_up image (eligible w (runs_of s))))

-- what next free asks: one address from p on
abbrev pub next_query : Address → ℕ → ℕ → Query
next_query p node wish = record { size = record { 0 = 1 }; align = record { 0 = 1 }; start = p; end = record { 0 = 18446744073709551615 }; node = node; wish = wish }
