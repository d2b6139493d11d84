-- Demand 2's sentence on the searches, of every answer: "no address" exactly when no eligible address exists, otherwise the lowest or the highest, by
-- direction; as E7 amends it, bottom-up the lowest at or above the image end first. Assumes nothing.
use Rattle.std.specs.Prelude.{ℕ, ◌+◌, ◌%◌, ◌≤◌, ◌≡◌, true, List, ◌⊎◌, length}
use Rattle.regions.specs.declared.Tag.{Tag}
use Rattle.regions.specs.declared.State.TheVariants.{Present}
use Rattle.regions.specs.Meaning.{Meaning, at}
use Rattle.regions.specs.Free.{free_memory}
use Rattle.regions.specs.Runs.{OneTag}
use Rattle.regions.specs.Bytes.{number}
use Rattle.block.specs.declared.Layout.{Layout}
use Rattle.block.specs.declared.Settings.{Settings}
use Rattle.block.specs.Block.{Contents, contents}
use Rattle.tables.specs.declared.commands.Verb.TheVariants.{Reserve}
use Rattle.range.specs.Outcomes.{Outcome}
use Rattle.tables.specs.Commands.{command, command_outcome}
use Rattle.fits.specs.declared.Query.{Query}
use Rattle.fits.specs.Eligible.{wanted, asks}
use Rattle.search.specs.Answers.{Answer, check_number, next_number, find, allocate, next_free}

-- ---- which addresses

-- untaken memory, not no-map, with its tags
abbrev pub free_in : Contents → Meaning
free_in s = free_memory (at s.memory) (at s.taken)

-- document 01's eligible, under E3's limit (an end of 0 names none): the size addresses from a are free, of one tag, which the query asks for
pub record Eligible (s : Contents) (q : Query) (a : ℕ) : Type 0 where
  pub aligned : a % q.align.0 ≡ 0
  pub from_start : q.start.0 ≤ a
  pub from_4096 : 4096 ≤ a
  pub by_limit : a + q.size.0 ≤ s.settings.limit.0
  pub by_end : (q.end.0 ≡ 0) ⊎ (a + q.size.0 ≤ q.end.0)
  pub one_tag : OneTag (free_in s) (asks q) q.size.0 a

-- free for next free: at or above p, of a tag that is asked for
pub record FreeFrom (s : Contents) (p node wish a : ℕ) : Type 0 where
  pub from : p ≤ a
  pub tag : Tag
  pub asked : wanted node wish tag ≡ true
  pub present : free_in s a ≡ Present tag

-- ---- the sentence

-- E holds at x, and at no lower number; at no higher one
pub record Lowest (E : ℕ → Type 0) (x : ℕ) : Type 0 where
  pub holds : E x
  pub least : (y : ℕ) → E y → x ≤ y

pub record Highest (E : ℕ → Type 0) (x : ℕ) : Type 0 where
  pub holds : E x
  pub most : (y : ℕ) → E y → y ≤ x

-- of the addresses at which E holds, those at or above the image end
abbrev pub AboveImage : Settings → (ℕ → Type 0) → ℕ → Type 0
AboveImage s E a = E a × (s.image.0 ≤ a)

-- x is what a search gives: top-down (direction 0) the highest; bottom-up (1), by E7, the lowest at or above the image end if there is one, else the highest
pub record ByDirection (s : Settings) (E : ℕ → Type 0) (x : ℕ) : Type 0 where
  pub top_down : s.direction ≡ 0 → Highest E x
  pub bottom_up : s.direction ≡ 1 → (y : ℕ) → AboveImage s E y → Lowest (AboveImage s E) x
  pub other_way : s.direction ≡ 1 → ((y : ℕ) → AboveImage s E y → ⊥) → Highest E x

-- the slip is of 16 bytes, and the checks have the number 0
pub record Passed (checks : ℕ) (slip : List ℕ) : Type 0 where
  pub of_16 : length slip ≡ 16
  pub fine : checks ≡ 0

-- what an answer says of the addresses at which E holds: 5 exactly when the checks passed and there is none; when there is one, a number of
-- `done`; and with 0 the slip's first number is the right one
pub record Searched (passed : Type 0) (E : ℕ → Type 0) (right : ℕ → Type 0) (done : ℕ → Type 0) (a : Answer) : Type 0 where
  pub five : a.number ≡ 5 → passed × ((x : ℕ) → E x → ⊥)
  pub none : passed → ((x : ℕ) → E x → ⊥) → a.number ≡ 5
  pub some : passed → (x : ℕ) → E x → done a.number
  pub given : a.number ≡ 0 → right (number 8 a.slip)

-- find and allocate, of the block as lent
abbrev pub LooksEligible : Layout → Query → List ℕ → List ℕ → (ℕ → Type 0) → Answer → Type 0
LooksEligible L q b slip done a =
    Searched (Passed (check_number L q b) slip) (Eligible (contents L b) q) (ByDirection (contents L b).settings (Eligible (contents L b) q)) done a

-- done, or the table is full
abbrev pub OrFull : ℕ → Type 0
OrFull n = (n ≡ 0) ⊎ (n ≡ 6)

abbrev pub FindSentence : Type 0
FindSentence = (L : Layout) (q : Query) (b slip : List ℕ) → LooksEligible L q b slip (λ n. n ≡ 0) (find L q b slip)

abbrev pub AllocateSentence : Type 0
AllocateSentence = (L : Layout) (q : Query) (b slip : List ℕ) → LooksEligible L q b slip OrFull (allocate L q b slip)

-- what reserve does with the size found at the address that find writes
abbrev pub reserving : Layout → Query → List ℕ → List ℕ → Outcome
reserving L q b slip = command_outcome L (command Reserve (number 8 (find L q b slip).slip) q.size.0) b

-- allocate first looks as find does, and goes on only when there is an address; then it reserves the size found there, so that 6 speaks of that address
pub record LooksThenReserves (L : Layout) (q : Query) (b slip : List ℕ) : Type 0 where
  pub refused : ((find L q b slip).number ≡ 0 → ⊥) → allocate L q b slip ≡ find L q b slip
  pub number : (find L q b slip).number ≡ 0 → (allocate L q b slip).number ≡ (reserving L q b slip).number
  pub block : (find L q b slip).number ≡ 0 → (allocate L q b slip).block ≡ (reserving L q b slip).block
  pub written : (allocate L q b slip).number ≡ 0 → (allocate L q b slip).slip ≡ (find L q b slip).slip

abbrev pub ReserveSentence : Type 0
ReserveSentence = (L : Layout) (q : Query) (b slip : List ℕ) → LooksThenReserves L q b slip

abbrev pub NextFreeSentence : Type 0
NextFreeSentence =
    (L : Layout) (p node wish : ℕ) (b slip : List ℕ)
    → Searched (Passed (next_number L node wish b) slip) (FreeFrom (contents L b) p node wish) (Lowest (FreeFrom (contents L b) p node wish)) (λ n. n ≡ 0) (next_free L p node wish b slip)
