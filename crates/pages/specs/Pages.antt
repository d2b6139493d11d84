-- The free pages as pieces, and what a call that hands them over answers and leaves. Assumes nothing.
use Rattle.std.specs.Prelude.{ℕ, zero, suc, ◌-◌, ◌*◌, ◌/◌, ◌%◌, ◌^◌, ◌≡◌, Bool, cond, List, [], ◌∷◌, ◌++◌, eqb, length, take, drop}
use Rattle.std.proofs.Math.Option.{Option, none, some}
use Rattle.address.specs.Numbers.{down}
use Rattle.regions.specs.declared.Region.{Region}
use Rattle.regions.specs.Runs.{in_one}
use Rattle.regions.specs.Bytes.{bytes}
use Rattle.block.specs.declared.Layout.{Layout}
use Rattle.block.specs.Block.{contents, good}
use Rattle.fits.specs.Eligible.{wanted, highest}
use Rattle.seek.specs.Search.{runs_of}
use Rattle.search.specs.Answers.{Answer, answer, with_buffer, refuse, slip_of}
use Rattle.pages.specs.declared.Piece.{Piece}

-- ---- pieces

-- the 64-bit addresses make 2^52 pages of 4096 bytes. Shut, so that nothing counts up to it
pub page_top : ℕ
page_top = 2 ^ 52

pub page_top_is : page_top ≡ 4503599627370496
unfolding page_top
page_top_is = λ i. 4503599627370496

-- of an order and a page, whether the 2^order pages from it are free as a whole
abbrev pub PageTest : Type 0
PageTest = ℕ → ℕ → Bool

-- they lie whole in one free run (wish 1, any node)
unfoldable pub whole : List Region → PageTest
whole runs o p = in_one (wanted 4294967295 1) (4096 * 2 ^ o) (4096 * p) runs

-- the order of the piece that page p lies in: the largest from 0 to 10 whose piece around p, which begins at a multiple of its size, is free as a whole
unfoldable pub order_at : PageTest → ℕ → Option ℕ
order_at free p = highest (λ o. free o (down p (2 ^ o))) 11

-- E14's piece: 2^order pages from a page on
abbrev pub piece : ℕ → ℕ → Piece
piece p o = record { page = p; order = o }

-- the piece that begins at page p, if the one that p lies in does
abbrev pub starting : ℕ → Option ℕ → List Piece
starting p none = []
starting p (some o) = cond (eqb (p % 2 ^ o) 0) (piece p o ∷ []) []

-- the pieces that begin at one of the n pages from p on, in rising order
unfoldable pub pieces : PageTest → ℕ → ℕ → List Piece
pieces free p zero = []
pieces free p (suc n) = starting p (order_at free p) ++ pieces free (suc p) n

-- E14's list, from page p on
unfoldable pub pieces_from : List Region → ℕ → List Piece
pieces_from runs p = pieces (whole runs) p (page_top - p)

-- ---- handing over

-- u64 page number and u32 order
unfoldable pub piece_bytes : Piece → List ℕ
piece_bytes x = bytes 8 x.page ++ bytes 4 x.order

unfoldable pub pieces_bytes : List Piece → List ℕ
pieces_bytes [] = []
pieces_bytes (x ∷ xs) = piece_bytes x ++ pieces_bytes xs

-- how many pieces a buffer takes
abbrev pub room : List ℕ → ℕ
room buffer = length buffer / 12

-- the page where the first of the pieces begins; 2^52, if there is none
unfoldable pub next_page : List Piece → ℕ
next_page [] = page_top
next_page (x ∷ xs) = x.page

-- a buffer with pieces written to its front, the bytes after the last as lent
unfoldable pub written : List Piece → List ℕ → List ℕ
written xs buffer = pieces_bytes xs ++ drop (12 * length xs) buffer

-- as many of the pieces as fit; in the slip how many, and the page where the next one begins
abbrev pub given : List ℕ → List Piece → List ℕ → Answer
given b ps buffer =
    with_buffer (written (take (room buffer) ps) buffer) (answer 0 b (slip_of (length (take (room buffer) ps)) (next_page (drop (room buffer) ps))))

-- E14's call for page p: a slip of another length gets 8, then a bad block 1, both with the buffer as lent; the block stays
unfoldable pub hand_over : Layout → ℕ → List ℕ → List ℕ → List ℕ → Answer
hand_over L p b buffer slip =
    cond (eqb (length slip) 16)
    (cond (good L b) (given b (pieces_from (runs_of (contents L b)) p) buffer) (with_buffer buffer (refuse 1 b)))
    (with_buffer buffer (answer 8 b slip))
