-- A range of one table changed: the records met, what becomes of them, a gap. Only inner contracts and proofs cite this module. Assumes nothing.
use Rattle.std.specs.Prelude.{Option, None, Some, Result, Ok, Err, ℕ, suc, ◌+◌, ◌-◌, ◌/◌, ◌<◌, ◌≤◌, ◌≡◌, Bool, true, false, cond, List, [], ◌∷◌, ◌++◌, ◌⊎◌, leb, length, take, drop}
use Rattle.std.specs.List.{All}
use Rattle.regions.specs.declared.Region.{Region}
use Rattle.regions.specs.Meaning.{region, at, join, shortest, top}
use Rattle.regions.specs.declared.State.TheVariants.{Absent}
use Rattle.regions.specs.Bytes.{read_regions, table_bytes}
use Rattle.regions.specs.Changes.{change, after}
use Rattle.regions.specs.declared.Tag.{Tag}
use Rattle.regions.specs.declared.Change.{Change}
use Rattle.regions.specs.declared.Change.TheVariants.{Fill, Clear, Mark, Unmark}
use Rattle.change.specs.declared.gap.Side.{Side}
use Rattle.change.specs.declared.gap.Gap.{Gap}
use Rattle.lists.specs.declared.Edit.{Edit}
use Rattle.records.specs.declared.table.Tally.{Tally}
use Rattle.refusals.specs.declared.Refusal.{Refusal}
use Rattle.refusals.specs.declared.Refusal.TheVariants.{Full, NotTaken}
use Rattle.change.specs.declared.inplace.Met.{Met}
use Rattle.records.specs.Totals.{tally}
use Rattle.records.specs.Steps.{ending_by, Whole}
use Rattle.lists.specs.Steps.{Editable}

-- how many of the first regions begin at or below an address
unfoldable pub starting_by : ℕ → List Region → ℕ
starting_by a [] = 0
starting_by a (r ∷ rs) = cond (leb r.base.0 a) (suc (starting_by a rs)) 0

-- each region has the tag
abbrev pub AllTagged : Tag → List Region → Type 0
AllTagged t xs = All (λ (r : Region). r.tag ≡ t) xs

-- all regions have one tag
pub record OneTagged (xs : List Region) : Type 0 where
  pub tag : Tag
  pub all : AllTagged tag xs

-- the change makes one state of every address of a range, whatever the list says of it
abbrev pub Uniform : Change → List Region → Type 0
Uniform (Fill t) xs = AllTagged t xs
Uniform Clear xs = Unit {0}
Uniform (Mark w) xs = ⊥
Uniform (Unmark w) xs = ⊥

-- a change of a table that a scratch table of 128 records is enough for: the table is no longer, or the change leaves few records
pub record Changeable (t : List ℕ) (y : Tally) (e : Edit) : Type 0 where
  pub edit : Editable e
  pub scratch : (length t ≤ 3072) ⊎ Uniform e.change (read_regions y.count t)

-- the answer for a list that is to stand where there is room for cap records, and the table's bytes then
unfoldable pub stored_answer : ℕ → List Region → Result Tally Refusal
stored_answer cap xs = cond (leb (length xs) cap) (Ok (tally xs)) (Err Full)

unfoldable pub stored_bytes : ℕ → List Region → List ℕ → List ℕ
stored_bytes cap xs t = cond (leb (length xs) cap) (table_bytes cap xs) t

-- a table of bytes t, that is to hold the list xs, has the bytes e, and a is answered
pub record Stored (t e : List ℕ) (xs : List Region) (a : Result Tally Refusal) : Type 0 where
  pub answer : a ≡ stored_answer (length t / 24) xs
  pub after : e ≡ stored_bytes (length t / 24) xs t

-- the same if the change is allowed; else the bytes are as they were, and it is answered that addresses are missing
pub record StoredIf (ok : Bool) (t e : List ℕ) (xs : List Region) (a : Result Tally Refusal) : Type 0 where
  pub yes : ok ≡ true → Stored t e xs a
  pub no : ok ≡ false → (a ≡ Err NotTaken) × (e ≡ t)

-- a table, a change of it, and the records that its range meets or touches
pub record Meets (t : List ℕ) (y : Tally) (d : Edit) (m : Met) : Type 0 where
  pub whole : Whole t y
  pub changeable : Changeable t y d
  pub from : m.first ≡ ending_by (d.lo.0 - 1) (read_regions y.count t)
  pub to : m.stop ≡ starting_by d.hi.0 (read_regions y.count t)

-- after a try in a scratch table of cap records: the answer; or the table's bytes are as they were, and where cap is 128 the list has no room
abbrev pub TriedAs : ℕ → Option (Result Tally Refusal) → List ℕ → List ℕ → List Region → Type 0
TriedAs cap (Some a) t e xs = Stored t e xs a
TriedAs cap None t e xs = (e ≡ t) × (128 ≤ cap → Stored t t xs (Err Full))

-- no region begins below an address
unfoldable pub clear_to : ℕ → List Region → Bool
clear_to a [] = true
clear_to a (r ∷ rs) = leb a r.base.0

-- what starts at lo with a tag, put behind the first i records: the last of them grows, or there is one more; it then begins at the side's bound
pub record JoinedBelow (t : List ℕ) (i lo : ℕ) (tag : Tag) (s : Side) : Type 0 where
  pub most : s.at ≤ i
  pub low : s.bound.0 ≤ lo
  pub joined : (n : ℕ) → join (read_regions i t) lo n tag ≡ read_regions s.at t ++ (region s.bound.0 (lo - s.bound.0 + n) tag ∷ [])

-- a gap up to hi before the region i of a list, filled: the region grows downwards, or stays; the filled stretch then ends at the side's bound
pub record JoinedAbove (xs : List Region) (i hi : ℕ) (tag : Tag) (s : Side) : Type 0 where
  pub least : i ≤ s.at
  pub most : s.at ≤ length xs
  pub high : hi ≤ s.bound.0
  pub small : s.bound.0 ≤ top
  pub filled : (lo : ℕ) → lo < hi → i ≡ ending_by lo xs → shortest (after (change (Fill tag)) lo hi (at xs)) top ≡ join (take i xs) lo (s.bound.0 - lo) tag ++ drop s.at xs

-- a change fills a range that no region meets, with a tag, at a place among them
pub record Fills (e : Edit) (i : ℕ) (t : Tag) (xs : List Region) : Type 0 where
  pub filling : e.change ≡ Fill t
  pub place : i ≡ ending_by e.lo.0 xs
  pub some : e.lo.0 < e.hi.0
  pub clear : clear_to e.hi.0 (drop i xs) ≡ true

abbrev pub GapAs : Option Gap → Edit → List Region → Type 0
GapAs (Some g) e xs = Fills e g.at g.tag xs
GapAs None e xs = Unit {0}

-- none of the addresses from lo to below hi is in the list
abbrev pub Vacant : ℕ → ℕ → List Region → Type 0
Vacant lo hi xs = (a : ℕ) → lo ≤ a → a < hi → at xs a ≡ Absent
