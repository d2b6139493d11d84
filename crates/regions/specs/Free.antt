-- Free memory and its runs. Assumes nothing.
use Rattle.std.specs.Prelude.{cond, List}
use Rattle.regions.specs.declared.Region.{Region}
use Rattle.regions.specs.declared.State.{State}
use Rattle.regions.specs.declared.State.TheVariants.{Absent, Present}
use Rattle.regions.specs.Meaning.{Meaning, at, shortest, top}
use Rattle.regions.specs.Changes.{has}

-- memory that is not no-map (flag 4)
abbrev pub usable : State → State
usable Absent = Absent
usable (Present t) = cond (has 4 t.flags) Absent (Present t)

-- of state v, where it is not taken
abbrev pub untaken : State → State → State
untaken v Absent = v
untaken v (Present t) = Absent

-- untaken memory, not no-map, with its tag
unfoldable pub free_memory : Meaning → Meaning → Meaning
free_memory memory taken a = untaken (usable (memory a)) (taken a)

-- document 01's free runs, the longest ranges of one tag: the shortest list of free memory
unfoldable pub free_runs : List Region → List Region → List Region
free_runs memory taken = shortest (free_memory (at memory) (at taken)) top
