-- What a sweep over the free runs of two tables has come to, and what it comes to next. Only inner contracts and proofs cite this module. Assumes nothing.
use Rattle.std.specs.Prelude.{ℕ, ◌≤◌, ◌<◌, ◌≡◌, List, drop, Option, Some, None}
use Rattle.regions.specs.declared.Tag.{Tag}
use Rattle.regions.specs.declared.Region.{Region}
use Rattle.regions.specs.declared.State.TheVariants.{Absent, Present}
use Rattle.regions.specs.Meaning.{at, top}
use Rattle.regions.specs.Free.{usable, free_runs}
use Rattle.regions.specs.Steps.{Longest, Parted}
use Rattle.runs.specs.declared.Tables.{Tables}
use Rattle.runs.specs.Steps.{memory_of, taken_of, bounds_low}
use Rattle.sweep.specs.declared.Sweep.{Sweep}
use Rattle.sweep.specs.declared.Swept.{Swept}

-- the free runs that two tables say
abbrev pub runs_in : Tables → List Region
runs_in t = free_runs (memory_of t) (taken_of t)

-- from low to hi memory is of one tag, not no-map, and at hi it is not of that tag
pub record OneRecord (ms : List Region) (low hi : ℕ) : Type 0 where
  pub tag : Tag
  pub all : (b : ℕ) → low ≤ b → b < hi → usable (at ms b) ≡ Present tag
  pub stops : usable (at ms hi) ≡ Present tag → ⊥

-- no run goes across low; from there on the taken records from j on say what is taken, and the record at hand, up to hi, and behind it the records from i on say
-- what memory there is
pub record Left (ms ts : List Region) (low hi i j : ℕ) : Type 0 where
  pub edge : Parted (free_runs ms ts) low
  pub taken : (b : ℕ) → low ≤ b → at ts b ≡ at (drop j ts) b
  pub memory : (b : ℕ) → low ≤ b → hi ≤ b → usable (at ms b) ≡ usable (at (drop i ms) b)
  pub hand : low < hi → OneRecord ms low hi

-- so it is of a sweep, and the taken record that it holds is the one at its place
pub record Ahead (t : Tables) (s : Sweep) : Type 0 where
  pub few : s.memory ≤ t.memory.count
  pub places : s.taken ≤ t.taken.count
  pub small : s.low.0 ≤ top
  pub next : s.next ≡ bounds_low t.taken s.taken
  pub left : Left (memory_of t) (taken_of t) s.low.0 s.top.0 s.memory s.taken

-- from lo to hi lies one of the runs, the first from c on
pub record FirstRun (runs : List Region) (c lo hi : ℕ) : Type 0 where
  pub tag : Tag
  pub some : lo < hi
  pub from : c ≤ lo
  pub before : (b : ℕ) → c ≤ b → b < lo → at runs b ≡ Absent
  pub run : Longest runs tag lo hi

-- a run that a sweep from c on comes to, with nothing free between it and the sweep behind it
pub record Reached (runs : List Region) (c : ℕ) (x : Swept) : Type 0 where
  pub run : FirstRun runs c x.low.0 x.end.0
  pub onward : x.end.0 ≤ x.behind.low.0
  pub after : (b : ℕ) → x.end.0 ≤ b → b < x.behind.low.0 → at runs b ≡ Absent

-- what a sweep comes to next: such a run, or nothing is free any more
abbrev pub Advanced : Tables → Sweep → Option Swept → Type 0
Advanced t s None = (b : ℕ) → s.low.0 ≤ b → at (runs_in t) b ≡ Absent
Advanced t s (Some x) = Reached (runs_in t) s.low.0 x × Ahead t x.behind
