-- A list of regions built up in a scratch table. Only inner contracts and proofs cite this module. Assumes nothing.
use Rattle.std.specs.Prelude.{ℕ, ◌/◌, ◌≤◌, ◌≡◌, cond, List, leb, length, Option, Some, None}
use Rattle.regions.specs.declared.Region.{Region}
use Rattle.regions.specs.Meaning.{at, shortest, top}
use Rattle.regions.specs.Bytes.{read_regions}
use Rattle.regions.specs.Steps.{FlagBounded}
use Rattle.regions.specs.Changes.{change, after}
use Rattle.lists.specs.declared.Edit.{Edit}
use Rattle.lists.specs.declared.Built.{Built}

-- the answer for a list that is to stand where there is room for cap records: how many it has
unfoldable pub fits_in : ℕ → List Region → Option ℕ
fits_in cap xs = cond (leb (length xs) cap) (Some (length xs)) None

abbrev pub HoldsAfter : Option ℕ → List ℕ → List Region → Type 0
HoldsAfter (Some m) l xs = read_regions m l ≡ xs
HoldsAfter None l xs = Unit {0}

-- the bytes l hold the list xs, if it has room
pub record HoldsList (l : List ℕ) (cap : ℕ) (xs : List Region) (a : Option ℕ) : Type 0 where
  pub answer : a ≡ fits_in cap xs
  pub after : HoldsAfter a l xs

-- how many records a list has that was built, if it has room
abbrev pub built_count : ℕ → Option (Unit {0}) → Option ℕ
built_count n (Some u) = Some n
built_count n None = None

-- a list that is being built has become xs, in the same bytes, if it has room there
pub record Became (old new : Built) (xs : List Region) (a : Option (Unit {0})) : Type 0 where
  pub same : new.out.ghost_name ≡ old.out.ghost_name
  pub long : length new.out.now ≡ length old.out.now
  pub holds : HoldsList new.out.now (length old.out.now / 24) xs (built_count new.count a)

-- a change over a range that ends at or below the top
pub record Editable (e : Edit) : Type 0 where
  pub flag_bounded : FlagBounded e.change
  pub low : e.lo.0 ≤ e.hi.0
  pub high : e.hi.0 ≤ top

-- the finished shortest list: what a change makes of a list
abbrev pub finished : Edit → List Region → List Region
finished d xs = shortest (after (change d.change) d.lo.0 d.hi.0 (at xs)) top
