-- What find, next free and allocate answer and leave, for all inputs: refusals in document 01's order. Assumes nothing.
use Rattle.std.specs.Prelude.{ℕ, ◌≡◌, Bool, cond, ◌&&◌, ◌||◌, List, [], ◌++◌, leb, eqb, length, replicate}
use Rattle.address.specs.Numbers.{power_of_two}
use Rattle.regions.specs.declared.Kind.TheVariants.{Taken}
use Rattle.regions.specs.declared.Change.TheVariants.{Fill}
use Rattle.regions.specs.Bytes.{bytes}
use Rattle.block.specs.declared.Layout.{Layout}
use Rattle.block.specs.Block.{contents, good}
use Rattle.range.specs.Outcomes.{Outcome, tag, change_range}
use Rattle.fits.specs.declared.Query.{Query}
use Rattle.std.specs.Prelude.{Option, Some, None}
use Rattle.fits.specs.declared.Spot.{Spot}
use Rattle.seek.specs.Search.{found_place, next_place}

-- the number, and every byte of the block, of the answer slip and of the buffer that a call fills (E14) after the call
pub record Answer : Type 0 where
  pub number : ℕ
  pub block : List ℕ
  pub slip : List ℕ
  pub buffer : List ℕ

-- of a call that fills no buffer: one of no bytes
abbrev pub answer : ℕ → List ℕ → List ℕ → Answer
answer n b slip = record { number = n; block = b; slip = slip; buffer = [] }

-- with what is in the buffer
abbrev pub with_buffer : List ℕ → Answer → Answer
with_buffer buffer a = record { number = a.number; block = a.block; slip = a.slip; buffer = buffer }

-- two answers with the same number and the same slip
pub record SameAnswer (x y : Answer) : Type 0 where
  pub number : x.number ≡ y.number
  pub slip : x.slip ≡ y.slip

-- a refusal leaves the block as lent, and a slip of 16 bytes all zero
abbrev pub refuse : ℕ → List ℕ → Answer
refuse n b = answer n b (replicate 16 0)

abbrev pub unless : Bool → ℕ → List ℕ → Answer → Answer
unless test n b a = cond test a (refuse n b)

-- document 01's slip: two u64
abbrev pub slip_of : ℕ → ℕ → List ℕ
slip_of x y = bytes 8 x ++ bytes 8 y

-- a slip of another length gets 8 and stays as lent
abbrev pub with_slip : List ℕ → List ℕ → Answer → Answer
with_slip b slip a = cond (eqb (length slip) 16) a (answer 8 b slip)

-- a node of 0 to 63, or any, and a wish of 0 to 3
abbrev pub askable : ℕ → ℕ → Bool
askable node wish = (leb node 63 || eqb node 4294967295) && leb wish 3

-- the number that a query's own numbers get, in document 01's order: 2, 3 or 4; 0, if they pass
abbrev pub refusal : Query → ℕ
refusal q = cond (askable q.node q.wish) (cond (power_of_two q.align.0) (cond (eqb q.size.0 0) 4 0) 3) 2

-- the number of the checks that find and allocate share: the block comes first
abbrev pub check_number : Layout → Query → List ℕ → ℕ
check_number L q b = cond (good L b) (refusal q) 1

-- the number of next free's checks
abbrev pub next_number : Layout → ℕ → ℕ → List ℕ → ℕ
next_number L node wish b = cond (good L b) (cond (askable node wish) 0 2) 1

-- the answer a, once the slip and the checks, whose number is n, have passed
abbrev pub asking : ℕ → List ℕ → List ℕ → Answer → Answer
asking n b slip a = with_slip b slip (unless (eqb n 0) n b a)

-- the address found and the end of its free run (E5), for find and next free; the block stays
abbrev pub place_answer : List ℕ → Option Spot → Answer
place_answer b None = refuse 5 b
place_answer b (Some s) = answer 0 b (slip_of s.at.0 s.run.end.0)

unfoldable pub find : Layout → Query → List ℕ → List ℕ → Answer
find L q b slip = asking (check_number L q b) b slip (place_answer b (found_place (contents L b) q))

-- the address reserved and the end of the run that held it before the call, or table full
abbrev pub reserved : List ℕ → ℕ → ℕ → Outcome → Answer
reserved b a end o = cond (eqb o.number 0) (answer 0 o.block (slip_of a end)) (refuse o.number b)

abbrev pub allocate_answer : Layout → List ℕ → ℕ → Option Spot → Answer
allocate_answer L b size None = refuse 5 b
allocate_answer L b size (Some s) = reserved b s.at.0 s.run.end.0 (change_range L Taken (Fill (tag 0 0)) s.at.0 size b)

unfoldable pub allocate : Layout → Query → List ℕ → List ℕ → Answer
allocate L q b slip = asking (check_number L q b) b slip (allocate_answer L b q.size.0 (found_place (contents L b) q))

unfoldable pub next_free : Layout → ℕ → ℕ → ℕ → List ℕ → List ℕ → Answer
next_free L p node wish b slip = asking (next_number L node wish b) b slip (place_answer b (next_place (contents L b) p node wish))
