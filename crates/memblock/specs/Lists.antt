-- Demand 3's words: lists of the six commands, which of them are done, what they cover, and how an address stands at the end. Assumes nothing.
use Rattle.std.specs.Prelude.{ℕ, suc, ◌≡◌, Bool, true, false, cond, ◌&&◌, ◌⊎◌, eqb, take, drop}
use mathlib.Core.List.{List, [], ◌∷◌, Memᴰ}
use Rattle.regions.specs.declared.Kind.{Kind}
use Rattle.regions.specs.declared.Tag.{Tag}
use Rattle.regions.specs.declared.State.{State}
use Rattle.regions.specs.declared.State.TheVariants.{Absent, Present}
use Rattle.regions.specs.Meaning.{inside, at, same_tag}
use Rattle.regions.specs.Changes.{cut, set_flag, clear_flag}
use Rattle.block.specs.Block.{current, list_of, contents, good}
use Rattle.range.specs.Outcomes.{tag}
use Rattle.tables.specs.Commands.{Command, table}
use Rattle.tables.specs.declared.commands.Verb.{Verb}
use Rattle.tables.specs.declared.commands.Verb.TheVariants.{Add, Remove, Mark, Unmark, Reserve, Free}
use Rattle.memblock.specs.Calls.{outcome_of, Call, answers}

-- ---- running a list

-- each command gets the block that the one before it left
unfoldable pub run : List Command → List ℕ → List ℕ
run [] b = b
run (c ∷ cs) b = run cs (outcome_of c b).block

-- the done commands: those that answered 0
unfoldable pub done : List Command → List ℕ → List Command
done [] b = []
done (c ∷ cs) b = cond (eqb (outcome_of c b).number 0) (c ∷ done cs (outcome_of c b).block) (done cs (outcome_of c b).block)

-- ---- what a command works on

-- a command covers the addresses of its range after the cut at the top; a size of 0 covers none
abbrev pub covers : Command → ℕ → Bool
covers c a = inside c.base (cut c.base c.size) a

-- the demand's condition: any two of the commands that work on the same table share no address or are the same command with the same tag
abbrev pub Agreed : List Command → Type 0
Agreed ds =
    (d e : Command) → Memᴰ d ds → Memᴰ e ds → table d.verb ≡ table e.verb
    → ((a : ℕ) → covers d a ≡ true → covers e a ≡ true → ⊥) ⊎ (d.verb ≡ e.verb)

-- ---- how an address stands at the end

-- of an address that stood as v at the start, as document 01 lists it
unfoldable pub says : Verb → State → State
says (Add t) Absent = Present t
says (Add t) (Present u) = Present u
says Remove v = Absent
says (Mark w) Absent = Absent
says (Mark w) (Present t) = Present (tag (set_flag w t.flags) t.node)
says (Unmark w) Absent = Absent
says (Unmark w) (Present t) = Present (tag (clear_flag w t.flags) t.node)
says Reserve v = Present (tag 0 0)
says Free v = Absent

-- v is how the address stands in the table k at the end: as a command of the list that works there and covers it says, or, where none does, as at the start
pub record Stands (ds : List Command) (k : Kind) (a : ℕ) (start v : State) : Type 0 where
  pub covered : (d : Command) → Memᴰ d ds → table d.verb ≡ k → covers d a ≡ true → v ≡ says d.verb start
  pub uncovered : ((d : Command) → Memᴰ d ds → table d.verb ≡ k → covers d a ≡ false) → v ≡ start

-- ---- the same commands done

-- which of the six, add's tag, and the flag that mark and unmark name (E6)
abbrev pub code : Verb → ℕ
code (Add t) = 1
code Remove = 2
code (Mark w) = 3
code (Unmark w) = 4
code Reserve = 5
code Free = 6

abbrev pub tag_of : Verb → Tag
tag_of (Add t) = t
tag_of Remove = tag 0 0
tag_of (Mark w) = tag 0 0
tag_of (Unmark w) = tag 0 0
tag_of Reserve = tag 0 0
tag_of Free = tag 0 0

abbrev pub flag_of : Verb → ℕ
flag_of (Add t) = 0
flag_of Remove = 0
flag_of (Mark w) = w
flag_of (Unmark w) = w
flag_of Reserve = 0
flag_of Free = 0

-- the same command with the same tag and the same flag named
abbrev pub same_verb : Verb → Verb → Bool
same_verb v u = eqb (code v) (code u) && (same_tag (tag_of v) (tag_of u) && eqb (flag_of v) (flag_of u))

-- the same call with the same numbers
abbrev pub same_call : Command → Command → Bool
same_call d e = same_verb d.verb e.verb && (eqb d.base e.base && eqb d.size e.size)

-- how often a call stands in a list
unfoldable pub often : Command → List Command → ℕ
often d [] = 0
often d (e ∷ es) = cond (same_call d e) (suc (often d es)) (often d es)

-- two orders have the same commands done: the same calls with the same numbers, each as often
abbrev pub SameDone : List Command → List Command → Type 0
SameDone ds es = (d : Command) → often d ds ≡ often d es

-- ---- demand 3

-- e is a good block that says, of a list of done commands that began on b, how each address stands at the end, and has bytes 40 to 55 and 72 to 79 as at
-- the start
pub record Ends (b : List ℕ) (ds : List Command) (e : List ℕ) : Type 0 where
  pub is_good : good current e ≡ true
  pub stands : (k : Kind) (a : ℕ) → Stands ds k a (at (list_of (contents current b) k) a) (at (list_of (contents current e) k) a)
  pub settings : take 16 (drop 40 e) ≡ take 16 (drop 40 b)
  pub spare : take 8 (drop 72 e) ≡ take 8 (drop 72 b)

-- of the list cs that starts on b: it ends so; its end is the one block that does; any other list in which the same commands are done ends in that block
-- too; and from there on any later calls give equal answers and equal lent bytes
pub record DemandThree (b : List ℕ) (cs : List Command) : Type 0 where
  pub ends : Ends b (done cs b) (run cs b)
  pub only : (e : List ℕ) → Ends b (done cs b) e → e ≡ run cs b
  pub order : (es : List Command) → SameDone (done cs b) (done es b) → run es b ≡ run cs b
  pub later : (es : List Command) → SameDone (done cs b) (done es b) → (calls : List Call) → answers calls (run es b) ≡ answers calls (run cs b)
