-- Trim by an alignment, at one address and by records. Assumes nothing.
use Rattle.std.specs.Prelude.{ℕ, zero, suc, ◌+◌, ◌-◌, Bool, true, false, cond, ◌&&◌, List, [], ◌∷◌, ◌++◌, ltb}
use Rattle.address.specs.Numbers.{up, down}
use Rattle.regions.specs.declared.Region.{Region}
use Rattle.regions.specs.declared.State.{State}
use Rattle.regions.specs.declared.State.TheVariants.{Absent, Present}
use Rattle.regions.specs.Meaning.{Meaning, region, end, at, shortest, same_tag, top}

abbrev pub same_state : State → State → Bool
same_state Absent Absent = true
same_state Absent (Present u) = false
same_state (Present t) Absent = false
same_state (Present t) (Present u) = same_tag t u

-- the n addresses from a on all have state v
unfoldable pub throughout : Meaning → State → ℕ → ℕ → Bool
throughout f v a zero = true
throughout f v a (suc n) = same_state (f (a + n)) v && throughout f v a n

-- an address stays exactly when the whole aligned stretch around it has its state
unfoldable pub trimmed : ℕ → Meaning → Meaning
trimmed align f a = cond (throughout f (f a) (down a align) align) (f a) Absent

-- the same by records, as document 01 says it: each has its base rounded up and its end rounded down; if nothing is left it goes
abbrev pub round_one : ℕ → Region → List Region
round_one align r =
    let base = up r.base.0 align in
    let past = down (end r) align in
    cond (ltb base past) (region base (past - base) r.tag ∷ []) []

unfoldable pub round_each : ℕ → List Region → List Region
round_each align [] = []
round_each align (r ∷ rs) = round_one align r ++ round_each align rs

-- what trim makes of a table
unfoldable pub trimmed_list : ℕ → List Region → List Region
trimmed_list align xs = shortest (trimmed align (at xs)) top
