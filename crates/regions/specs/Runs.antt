-- Lying in one region of a list of runs, being of one tag, and the run of an address. Assumes nothing.
use Rattle.std.specs.Prelude.{ℕ, ◌+◌, ◌≤◌, ◌<◌, ◌≡◌, Bool, true, false, cond, ◌&&◌, ◌||◌, List, [], ◌∷◌, leb}
use Rattle.regions.specs.declared.Tag.{Tag}
use Rattle.regions.specs.declared.Region.{Region}
use Rattle.regions.specs.declared.Run.{Run}
use Rattle.regions.specs.declared.State.TheVariants.{Present}
use Rattle.regions.specs.Meaning.{Meaning, end, inside}

-- the size addresses from a lie in the region r, whose tag passes p
abbrev pub lies_in : (Tag → Bool) → ℕ → ℕ → Region → Bool
lies_in p size a r = p r.tag && (leb r.base.0 a && leb (a + size) (end r))

-- they lie in one of the regions
unfoldable pub in_one : (Tag → Bool) → ℕ → ℕ → List Region → Bool
in_one p size a [] = false
in_one p size a (r ∷ rs) = lies_in p size a r || in_one p size a rs

-- the size addresses from a are all present with one tag, which passes
pub record OneTag (f : Meaning) (p : Tag → Bool) (size a : ℕ) : Type 0 where
  pub tag : Tag
  pub right : p tag ≡ true
  pub all : (b : ℕ) → a ≤ b → b < a + size → f b ≡ Present tag

abbrev pub run_of : ℕ → ℕ → Run
run_of lo hi = record { low = record { 0 = lo }; end = record { 0 = hi } }

-- the run that a lies in, from where to where; from 0 to 0, if it lies in none
unfoldable pub run_at : List Region → ℕ → Run
run_at [] a = run_of 0 0
run_at (r ∷ rs) a = cond (inside r.base.0 (end r) a) (run_of r.base.0 (end r)) (run_at rs a)
