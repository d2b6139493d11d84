-- A plan judged line by line, and what the steps ask for. Only inner contracts and proofs cite this module. Assumes nothing.
use Rattle.std.specs.Prelude.{ℕ, ◌<◌, ◌≤◌, ◌≡◌, true, cond, not, ◌&&◌, List, [], ◌∷◌, ◌++◌, leb, length, take, get_or, Result, Ok, Err}
use Rattle.regions.specs.declared.Run.{Run}
use Rattle.regions.specs.declared.Region.{Region}
use Rattle.regions.specs.declared.State.TheVariants.{Absent}
use Rattle.regions.specs.declared.Kind.TheVariants.{Taken}
use Rattle.regions.specs.Meaning.{at, top}
use Rattle.regions.specs.Runs.{run_of}
use Rattle.regions.specs.Lists.{good_list}
use Rattle.regions.specs.Bytes.{table_bytes}
use Rattle.records.specs.declared.table.Tally.{Tally}
use Rattle.records.specs.Totals.{tally}
use Rattle.block.specs.Block.{current, Contents, good}
use Rattle.plan.specs.declared.Fault.{Fault}
use Rattle.plan.specs.declared.Line.{Line}
use Rattle.refusals.specs.declared.Refusal.{Refusal}
use Rattle.refusals.specs.declared.Refusal.TheVariants.{Block, Lines, Line as LineFails}
use Rattle.plan.specs.Plan.{range_of, share, passes, any, with_ranges}

-- ---- the steps

-- before the first line: the block's check, and the number of lines
unfoldable pub begun : List ℕ → ℕ → Result Unit Refusal
begun b n = cond (good current b) (cond (leb n 64) (Ok tt) (Err Lines)) (Err Block)

-- the range of the line behind those with these ranges, or the fault at it
unfoldable pub judged : Contents → List Run → Line → Result Run Fault
judged s rs l = cond (passes s l && not (any (share (range_of l)) rs)) (Ok (range_of l)) (Err (record { refusal = LineFails; index = length rs }))

-- the ranges of all the lines behind those, or the first fault
abbrev pub judged_all : Contents → List Run → List Line → Result (List Run) Fault
judged_all s rs [] = Ok rs
judged_all s rs (l ∷ ls) = elim (judged s rs l) [ Ok r ↦ judged_all s (rs ++ (r ∷ [])) ls | Err f ↦ Err f ]

-- ---- what the steps ask for

-- a range of some addresses, none of them in a list nor in the ranges before
pub record Apart (xs : List Region) (before : List Run) (r : Run) : Type 0 where
  pub some : r.low.0 < r.end.0
  pub end : r.end.0 ≤ top
  pub vacant : (a : ℕ) → r.low.0 ≤ a → a < r.end.0 → with_ranges before (at xs) a ≡ Absent

-- ranges each of which is so, in turn
abbrev pub AllApart : List Region → List Run → Type 0
AllApart xs rs = (i : ℕ) → i < length rs → Apart xs (take i rs) (get_or rs i (run_of 0 0))

-- ---- the ranges filled in turn

-- the bytes of a scratch table of 576 records spell a list that the taken table may have, with its tally
pub record Spells (t : List ℕ) (y : Tally) (xs : List Region) : Type 0 where
  pub bytes : t ≡ table_bytes 576 xs
  pub tally : y ≡ tally xs
  pub room : length xs ≤ 576
  pub good : good_list Taken xs ≡ true
