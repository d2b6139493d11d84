-- E14's last sentence: calls in turn on one block, each for the page that the last one answered. Assumes nothing.
use Rattle.std.specs.Prelude.{ℕ, zero, suc, ◌*◌, ◌/◌, ◌≤◌, ◌<◌, ◌≡◌, cond, List, [], ◌∷◌, ◌++◌, length, take, drop}
use Rattle.regions.specs.Bytes.{number}
use Rattle.block.specs.Block.{Contents}
use Rattle.seek.specs.Search.{runs_of}
use Rattle.search.specs.Answers.{Answer}
use Rattle.pages.specs.declared.Piece.{Piece}
use Rattle.pages.specs.Pages.{page_top, piece, pieces_from, whole, next_page}
use Rattle.pages.specs.Cut.{cuts}
use Rattle.pages.specs.Sentences.{times, Rising}

-- ---- the words

-- what one of the calls is lent, besides the block
pub record Lent : Type 0 where
  pub buffer : List ℕ
  pub slip : List ℕ

-- each slip has 16 bytes; each buffer at least 12
abbrev pub AllSlips : List Lent → Type 0
AllSlips [] = Unit {0}
AllSlips (x ∷ xs) = (length x.slip ≡ 16) × AllSlips xs

abbrev pub AllRoomy : List Lent → Type 0
AllRoomy [] = Unit {0}
AllRoomy (x ∷ xs) = (12 ≤ length x.buffer) × AllRoomy xs

-- the slip's two numbers: how many pieces were written, and the page where the next one begins
abbrev pub how_many : Answer → ℕ
how_many a = number 8 a.slip

abbrev pub next_from : Answer → ℕ
next_from a = number 8 (drop 8 a.slip)

-- n pieces read from a buffer, 12 bytes each: u64 page number, u32 order
unfoldable pub read_pieces : ℕ → List ℕ → List Piece
read_pieces zero l = []
read_pieces (suc n) l = piece (number 8 l) (number 4 (drop 8 l)) ∷ read_pieces n (drop 12 l)

-- a call for a page, by what it is lent
abbrev pub Handing : Type 0
Handing = ℕ → Lent → Answer

-- the pieces that calls give together, the first for page p and each later one for the page that the last one answered
unfoldable pub gives : Handing → ℕ → List Lent → List Piece
gives hand p [] = []
gives hand p (x ∷ xs) = read_pieces (how_many (hand p x)) (hand p x).buffer ++ gives hand (next_from (hand p x)) xs

-- and the page that the last one answered
unfoldable pub reaches : Handing → ℕ → List Lent → ℕ
reaches hand p [] = p
reaches hand p (x ∷ xs) = reaches hand (next_from (hand p x)) xs

-- ---- the sentences, of calls on a good block that says s

pub record HandOverSentence (hand : Handing) (s : Contents) : Type 0 where
  -- one call is done, and writes as many pieces as fit, from page p on, and the page where the next one begins; the bytes after the last one stay; a buffer under 12
  -- bytes takes none
  pub done : (p : ℕ) (x : Lent) → length x.slip ≡ 16 → (hand p x).number ≡ 0
  pub pieces : (p : ℕ) (x : Lent) → length x.slip ≡ 16 → read_pieces (how_many (hand p x)) (hand p x).buffer ≡ take (length x.buffer / 12) (pieces_from (runs_of s) p)
  pub next : (p : ℕ) (x : Lent) → length x.slip ≡ 16 → next_from (hand p x) ≡ next_page (drop (length x.buffer / 12) (pieces_from (runs_of s) p))
  pub stay : (p : ℕ) (x : Lent) → length x.slip ≡ 16 → drop (12 * how_many (hand p x)) (hand p x).buffer ≡ drop (12 * how_many (hand p x)) x.buffer
  pub none : (p : ℕ) (x : Lent) → length x.slip ≡ 16 → length x.buffer < 12 → how_many (hand p x) ≡ 0
  -- calls that begin at page 0 and go on until 2^52 is answered:
  -- they give the same pieces wherever they are cut,
  pub same : (xs ys : List Lent) → AllSlips xs → AllSlips ys → reaches hand 0 xs ≡ page_top → reaches hand 0 ys ≡ page_top → gives hand 0 xs ≡ gives hand 0 ys
  -- the runs' whole pages cut from the bottom,
  pub cut : (xs : List Lent) → AllSlips xs → reaches hand 0 xs ≡ page_top → gives hand 0 xs ≡ cuts (runs_of s)
  -- whose pages are exactly those that lie whole in one free run, each once;
  pub once : (xs : List Lent) → AllSlips xs → reaches hand 0 xs ≡ page_top → (q : ℕ) → times q (gives hand 0 xs) ≡ cond (whole (runs_of s) 0 q) 1 0
  -- they rise and do not overlap
  pub rising : (xs : List Lent) → AllSlips xs → reaches hand 0 xs ≡ page_top → Rising 0 (gives hand 0 xs)
  -- and 2^52 is answered, with buffers of at least 12 bytes, after one call for each piece at the latest, or one call where there is none
  pub ends : (xs : List Lent) → AllSlips xs → AllRoomy xs → 0 < length xs → length (cuts (runs_of s)) ≤ length xs → reaches hand 0 xs ≡ page_top
