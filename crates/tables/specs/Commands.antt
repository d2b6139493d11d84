-- What each command on the tables answers and leaves, for all inputs: refusals in document 01's order. Assumes nothing.
use Rattle.std.specs.Prelude.{ℕ, Bool, true, false, List, leb, eqb, length}
use Rattle.address.specs.Numbers.{power_of_two}
use Rattle.regions.specs.declared.Kind.{Kind}
use Rattle.regions.specs.declared.Kind.TheVariants.{Memory, Taken}
use Rattle.regions.specs.declared.Region.{Region}
use Rattle.regions.specs.declared.Change.{Change}
use Rattle.regions.specs.Lists.{legal_tag}
use Rattle.regions.specs.Changes.{one_flag, cut, allowed}
use Rattle.regions.specs.Trim.{trimmed_list}
use Rattle.block.specs.declared.Layout.{Layout}
use Rattle.block.specs.declared.Settings.{Settings}
use Rattle.range.specs.Outcomes.{Outcome, done_with, unless, change_range, tag}
use Rattle.tables.specs.declared.commands.Verb.{Verb}
use Rattle.tables.specs.declared.commands.Verb.TheVariants.{Add, Remove, Mark, Unmark, Reserve, Free}
use Rattle.block.specs.Block.{block_length, list_of, with_list, with_settings, settings, with_image, fresh_contents, block_bytes, contents, good}

unfoldable pub fresh : Layout → List ℕ → Outcome
fresh L b = unless (eqb (length b) (block_length L)) 1 b (done_with (block_bytes L fresh_contents))

-- a good block with other settings
abbrev pub set_to : Layout → Settings → List ℕ → Outcome
set_to L x b = done_with (block_bytes L (with_settings (contents L b) x))

-- stores a limit and a direction; the image end stays
unfoldable pub set : Layout → ℕ → ℕ → List ℕ → Outcome
set L limit direction b =
    unless (good L b) 1 b (unless (leb direction 1) 7 b (set_to L (settings limit direction (contents L b).settings.image.0) b))

-- E7: stores the image end; limit and direction stay
unfoldable pub set_image_end : Layout → ℕ → List ℕ → Outcome
set_image_end L image b = unless (good L b) 1 b (set_to L (with_image (contents L b).settings image) b)

-- ---- the commands on a range

-- one of the six, whatever its range, and the range
pub record Command : Type 0 where
  pub verb : Verb
  pub base : ℕ
  pub size : ℕ

abbrev pub command : Verb → ℕ → ℕ → Command
command v base size = record { verb = v; base = base; size = size }

-- add, remove, mark and unmark work on the memory table, reserve and free on the taken table
abbrev pub table : Verb → Kind
table (Add t) = Memory
table Remove = Memory
table (Mark w) = Memory
table (Unmark w) = Memory
table Reserve = Taken
table Free = Taken

-- what it makes of each address of its range; in the taken table every tag is 0, 0
abbrev pub change_of : Verb → Change
change_of (Add t) = Change.Fill t
change_of Remove = Change.Clear
change_of (Mark w) = Change.Mark w
change_of (Unmark w) = Change.Unmark w
change_of Reserve = Change.Fill (tag 0 0)
change_of Free = Change.Clear

-- add's tag is legal, and mark and unmark name exactly one of the three flags; the others name nothing
abbrev pub legal_verb : Verb → Bool
legal_verb (Add t) = legal_tag Memory t
legal_verb Remove = true
legal_verb (Mark w) = one_flag w
legal_verb (Unmark w) = one_flag w
legal_verb Reserve = true
legal_verb Free = true

-- E10: whether its table must have each address of its range: free frees only what is taken
abbrev pub strict : Verb → Bool
strict (Add t) = false
strict Remove = false
strict (Mark w) = false
strict (Unmark w) = false
strict Reserve = false
strict Free = true

-- a command may change its range, after the cut at the top, in the list of its table
abbrev pub allows : Command → List Region → Bool
allows c xs = allowed (strict c.verb) c.base (cut c.base c.size) xs

unfoldable pub command_outcome : Layout → Command → List ℕ → Outcome
command_outcome L c b =
    unless (good L b) 1 b
    (unless (legal_verb c.verb) 2 b
    (unless (allows c (list_of (contents L b) (table c.verb))) 12 b
    (change_range L (table c.verb) (change_of c.verb) c.base c.size b)))

-- ---- trim

-- trim needs no more room than there was, so it never answers 6
unfoldable pub trim : Layout → ℕ → List ℕ → Outcome
trim L align b =
    unless (good L b) 1 b
    (unless (power_of_two align) 3 b (done_with (block_bytes L (with_list (contents L b) Memory (trimmed_list align (contents L b).memory)))))
