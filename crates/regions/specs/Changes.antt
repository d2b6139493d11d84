-- The commands on a table, at one address and over a range. Assumes nothing.
use Rattle.std.specs.Prelude.{ℕ, zero, suc, ◌+◌, ◌-◌, ◌/◌, ◌%◌, min, Bool, true, false, cond, ◌&&◌, ◌||◌, List, eqb}
use Rattle.regions.specs.declared.Region.{Region}
use Rattle.regions.specs.declared.State.{State}
use Rattle.regions.specs.declared.State.TheVariants.{Absent, Present}
use Rattle.regions.specs.declared.Change.{Change}
use Rattle.regions.specs.declared.Change.TheVariants.{Fill, Clear, Mark, Unmark}
use Rattle.regions.specs.Meaning.{Meaning, inside, at, shortest, top}

-- flags f have the flag of weight w (1, 2 or 4)
abbrev pub has : ℕ → ℕ → Bool
has w f = eqb (f / w % 2) 1

-- E6's flags, one of the three: 1 hotplug, 2 mirror, 4 no-map
abbrev pub one_flag : ℕ → Bool
one_flag w = eqb w 1 || (eqb w 2 || eqb w 4)

-- f with that flag, and without it
abbrev pub set_flag : ℕ → ℕ → ℕ
set_flag w f = cond (has w f) f (f + w)

abbrev pub clear_flag : ℕ → ℕ → ℕ
clear_flag w f = cond (has w f) (f - w) f

-- what a command makes of an address: an address that is there keeps its tag when it is filled, and one that is not there cannot be marked
unfoldable pub change : Change → State → State
change (Fill t) Absent = Present t
change (Fill t) (Present u) = Present u
change Clear v = Absent
change (Mark w) Absent = Absent
change (Mark w) (Present t) = Present (record { flags = set_flag w t.flags; node = t.node })
change (Unmark w) Absent = Absent
change (Unmark w) (Present t) = Present (record { flags = clear_flag w t.flags; node = t.node })

-- a change k of states, made at the addresses from lo to below hi
unfoldable pub after : (State → State) → ℕ → ℕ → Meaning → Meaning
after k lo hi f a = cond (inside lo hi a) (k (f a)) (f a)

-- document 01's cut at the top: the end of a command's range is base + size, but at most 2^64 - 1
abbrev pub cut : ℕ → ℕ → ℕ
cut base size = min (base + size) top

-- the finished shortest list: what a command on a range makes of a table
unfoldable pub changed : Change → ℕ → ℕ → List Region → List Region
changed k base size xs = shortest (after (change k) base (cut base size) (at xs)) top

-- ---- E10: where a change is allowed

abbrev pub present : State → Bool
present Absent = false
present (Present t) = true

-- the n addresses from a are all present
unfoldable pub all_present : Meaning → ℕ → ℕ → Bool
all_present f a zero = true
all_present f a (suc n) = present (f (a + n)) && all_present f a n

-- a strict change is allowed where the table has each address from lo to below hi, any other everywhere
abbrev pub allowed : Bool → ℕ → ℕ → List Region → Bool
allowed false lo hi xs = true
allowed true lo hi xs = all_present (at xs) lo (hi - lo)
