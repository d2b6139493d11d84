-- The search of two tables. Only inner contracts and proofs cite this module. Assumes nothing.
use Rattle.std.specs.Prelude.{ℕ, ◌*◌, ◌-◌, ◌≤◌, ◌<◌, ◌≡◌, true, cond, List, leb, eqb, length, drop}
use Rattle.std.proofs.Math.Option.{Option}
use Rattle.address.specs.Numbers.{power_of_two}
use Rattle.regions.specs.declared.Region.{Region}
use Rattle.regions.specs.declared.Kind.TheVariants.{Memory, Taken}
use Rattle.regions.specs.Meaning.{end, top}
use Rattle.regions.specs.Lists.{good_list}
use Rattle.regions.specs.Free.{free_runs}
use Rattle.regions.specs.Runs.{run_at}
use Rattle.regions.specs.Bytes.{read_region, read_regions}
use Rattle.fits.specs.declared.Query.{Query}
use Rattle.fits.specs.declared.Way.{Way}
use Rattle.records.specs.declared.table.Records.{Records}
use Rattle.runs.specs.declared.Bounds.{Bounds}
use Rattle.runs.specs.declared.Tables.{Tables}
use Rattle.fits.specs.Eligible.{eligible}
use Rattle.fits.specs.Places.{Hit, hit_of}
use Rattle.fits.specs.Steps.{extreme}

-- ---- the record that a walk has come to, of the taken table

abbrev pub bounds_of : Region → Bounds
bounds_of r = record { base = r.base; end = record { 0 = end r } }

-- behind the last record one at the top, before the first one at 0: neither is ever met
abbrev pub bounds_low : Records → ℕ → Bounds
bounds_low t j =
    cond (leb t.count j) (record { base = record { 0 = 18446744073709551615 }; end = record { 0 = 18446744073709551615 } })
    (bounds_of (read_region (drop (24 * j) t.bytes.now)))

abbrev pub bounds_high : Records → ℕ → Bounds
bounds_high t j = cond (eqb j 0) (record { base = record { 0 = 0 }; end = record { 0 = 0 } }) (bounds_of (read_region (drop (24 * (j - 1)) t.bytes.now)))

-- ---- two tables

-- the lists that they hold
abbrev pub regions_of : Records → List Region
regions_of t = read_regions t.count t.bytes.now

abbrev pub memory_of : Tables → List Region
memory_of t = regions_of t.memory

abbrev pub taken_of : Tables → List Region
taken_of t = regions_of t.taken

-- the first eligible address in the order of the walk, with its free run
unfoldable pub first_in : Way → List Region → List Region → Query → Option Hit
first_in v ms ts q = hit_of (run_at (free_runs ms ts)) (extreme v (eligible q (free_runs ms ts)) top)

-- they lie in the bytes lent, and are good
pub record GoodTables (t : Tables) : Type 0 where
  pub room_memory : 24 * t.memory.count ≤ length t.memory.bytes.now
  pub room_taken : 24 * t.taken.count ≤ length t.taken.bytes.now
  pub good_memory : good_list Memory (memory_of t) ≡ true
  pub good_taken : good_list Taken (taken_of t) ≡ true

-- good tables, and something that can be looked for
pub record Searchable (t : Tables) (q : Query) : Type 0 where
  pub tables : GoodTables t
  pub size : 0 < q.size.0
  pub align : power_of_two q.align.0 ≡ true
