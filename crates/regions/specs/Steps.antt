-- Steps of a walk over a table, and the runs of a list. Only inner contracts and proofs cite this module. Assumes nothing.
use Rattle.std.specs.Prelude.{ℕ, suc, ◌-◌, ◌≤◌, ◌<◌, min, max, ◌≡◌, List}
use Rattle.regions.specs.declared.Tag.{Tag}
use Rattle.regions.specs.declared.Region.{Region}
use Rattle.regions.specs.declared.State.{State}
use Rattle.regions.specs.declared.State.TheVariants.{Absent, Present}
use Rattle.regions.specs.declared.Change.{Change}
use Rattle.regions.specs.declared.Change.TheVariants.{Fill, Clear, Mark, Unmark}
use Rattle.regions.specs.Meaning.{at, push}

-- a change whose flag is one of the three weights or between them
abbrev pub FlagBounded : Change → Type 0
FlagBounded (Fill t) = Unit {0}
FlagBounded Clear = Unit {0}
FlagBounded (Mark w) = (0 < w) × (w ≤ 4)
FlagBounded (Unmark w) = (0 < w) × (w ≤ 4)

-- a state whose flags leave room for one more
abbrev pub FlagsBounded : State → Type 0
FlagsBounded Absent = Unit {0}
FlagsBounded (Present t) = t.flags ≤ 7

-- the stretch from c to e of state v, put behind acc: as it was below lo, changed from lo to hi, as it was from hi on
unfoldable pub stretch : (State → State) → ℕ → ℕ → List Region → ℕ → ℕ → State → List Region
stretch k lo hi acc c e v =
    let m = max c (min lo e) in
    let p = max c (min hi e) in
    push (push (push acc c (m - c) v) m (p - m) (k v)) p (e - p) v

-- from lo to hi all addresses have the tag t, and those beside have not: a run
pub record Longest (xs : List Region) (t : Tag) (lo hi : ℕ) : Type 0 where
  pub all : (b : ℕ) → lo ≤ b → b < hi → at xs b ≡ Present t
  pub stops : at xs hi ≡ Present t → ⊥
  pub begins : (b : ℕ) → suc b ≡ lo → at xs b ≡ Present t → ⊥

-- no run reaches across d
abbrev pub Parted : List Region → ℕ → Type 0
Parted xs d = (b : ℕ) (t : Tag) → suc b ≡ d → at xs b ≡ Present t → at xs d ≡ Present t → ⊥
