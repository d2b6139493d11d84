-- What begins and ends a search answers, and what reserving asks for. Only inner contracts cite this module. Assumes nothing.
use Rattle.std.specs.Prelude.{ℕ, ◌+◌, ◌≤◌, ◌<◌, ◌≡◌, true, List, replicate}
use Rattle.regions.specs.Meaning.{top}
use Rattle.block.specs.Block.{current, contents, good}
use Rattle.change.specs.Steps.{Vacant}
use Rattle.std.specs.Prelude.{Option as Maybe}
use Rattle.fits.specs.declared.Spot.{Spot}
use Rattle.search.specs.Answers.{Answer, answer, refuse, with_slip, place_answer}

-- the slip and the checks, whose number is n, and no more: a slip of 16 bytes is all zero
abbrev pub begun : ℕ → List ℕ → List ℕ → Answer
begun n b slip = with_slip b slip (refuse n b)

-- the number n and the slip are the answer for that place, whatever the block
abbrev pub Told : Maybe Spot → ℕ → List ℕ → Type 0
Told p n slip = (b : List ℕ) → answer n b slip ≡ place_answer b p

-- what allocate reserves: some addresses of a good block, none of them taken; the slip is still all zero
pub record Reservable (b : List ℕ) (a size : ℕ) (slip : List ℕ) : Type 0 where
  pub good : good current b ≡ true
  pub some : 0 < size
  pub end : a + size ≤ top
  pub vacant : Vacant a (a + size) (contents current b).taken
  pub zero : slip ≡ replicate 16 0
