-- E12: a placement plan. Which lines pass, which line is the first at fault, and what the whole plan answers and leaves. Assumes nothing.
use Rattle.std.specs.Prelude.{ℕ, ◌+◌, min, max, Bool, cond, not, ◌&&◌, ◌||◌, List, [], map, leb, ltb, eqb, length, take, get_or}
use Rattle.std.specs.List.{list_any}
use Rattle.std.proofs.Math.Option.{Option, none, some}
use Rattle.regions.specs.declared.Run.{Run}
use Rattle.regions.specs.declared.Kind.TheVariants.{Taken}
use Rattle.regions.specs.declared.State.TheVariants.{Present}
use Rattle.regions.specs.Meaning.{Meaning, inside, at, shortest, top}
use Rattle.regions.specs.Runs.{run_of}
use Rattle.block.specs.declared.Layout.{Layout}
use Rattle.block.specs.Block.{Contents, contents, good}
use Rattle.range.specs.Outcomes.{Outcome, tag, store}
use Rattle.fits.specs.Eligible.{query, lowest, eligible}
use Rattle.seek.specs.Search.{window, runs_of}
use Rattle.search.specs.Answers.{refusal}
use Rattle.plan.specs.Answers.{Answer, answer, with_index}
use Rattle.plan.specs.declared.Line.{Line}

-- ---- a line

-- its range: its size addresses from the proposed one on
abbrev pub range_of : Line → Run
range_of l = run_of l.at.0 (l.at.0 + l.query.size.0)

-- a lies in the range
abbrev pub lies : ℕ → Run → Bool
lies a r = inside r.low.0 r.end.0 a

-- two ranges share an address
abbrev pub share : Run → Run → Bool
share r s = ltb (max r.low.0 s.low.0) (min r.end.0 s.end.0)

-- a line passes by itself: its own numbers pass the checks of find, and its address is eligible in the block as lent
abbrev pub passes : Contents → Line → Bool
passes s l = eqb (refusal l.query) 0 && eligible (window s.settings.limit.0 l.query) (runs_of s) l.at.0

-- ---- the lines of a plan

-- p holds of one of them
abbrev pub any : {A : Type 0} → (A → Bool) → List A → Bool
any p xs = list_any p xs

-- the line at an index, from 0; past the end one of size 0
abbrev pub line_at : List Line → ℕ → Line
line_at ls i = get_or ls i (record { query = query 0 0 0 0 0 0; at = record { 0 = 0 } })

-- the line at i is at fault: it fails by itself, or shares an address with an earlier line
abbrev pub faulty : Contents → List Line → ℕ → Bool
faulty s ls i = not (passes s (line_at ls i)) || any (share (range_of (line_at ls i))) (map range_of (take i ls))

-- the index of the first line at fault
abbrev pub first_fault : Contents → List Line → Option ℕ
first_fault s ls = lowest (faulty s ls) (length ls)

-- what is taken, with the addresses of these ranges
abbrev pub with_ranges : List Run → Meaning → Meaning
with_ranges rs f a = cond (any (lies a) rs) (Present (tag 0 0)) (f a)

-- ---- what the plan answers and leaves: a number, an index beside it, and every byte of the block

-- an outcome, at index 0
abbrev pub at_zero : Outcome → Answer
at_zero o = answer o.number o.block []

-- the ranges reserved at once: only the finished list may be too long
abbrev pub reserving : Layout → List Run → List ℕ → Outcome
reserving L rs b = store L Taken (shortest (with_ranges rs (at (contents L b).taken)) top) b

abbrev pub verdict : Layout → List Line → List ℕ → Option ℕ → Answer
verdict L ls b none = at_zero (reserving L (map range_of ls) b)
verdict L ls b (some i) = with_index i (answer 13 b [])

-- the block's check first, then the number of lines
unfoldable pub plan : Layout → List Line → List ℕ → Answer
plan L ls b = cond (good L b) (cond (leb (length ls) 64) (verdict L ls b (first_fault (contents L b) ls)) (answer 14 b [])) (answer 1 b [])
