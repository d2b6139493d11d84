-- E14's sentences on the list of pieces: it is the cut of the free runs from the bottom, and its pages are those that lie whole in one run, each once. Assumes nothing.
use Rattle.std.specs.Prelude.{ℕ, ◌+◌, ◌*◌, ◌^◌, ◌≤◌, ◌≡◌, true, cond, List, [], ◌∷◌, leb}
use Rattle.regions.specs.declared.Tag.{Tag}
use Rattle.regions.specs.Meaning.{at, inside, top}
use Rattle.regions.specs.Free.{free_memory}
use Rattle.regions.specs.Runs.{OneTag}
use Rattle.block.specs.Block.{Contents}
use Rattle.fits.specs.Eligible.{wanted}
use Rattle.seek.specs.Search.{runs_of}
use Rattle.pages.specs.declared.Piece.{Piece}
use Rattle.pages.specs.Pages.{whole, pieces_from}
use Rattle.pages.specs.Cut.{cuts}

-- ---- the words

-- how many of the pieces hold page q
unfoldable pub times : ℕ → List Piece → ℕ
times q [] = 0
times q (x ∷ xs) = cond (inside x.page (x.page + 2 ^ x.order) q) 1 0 + times q xs

-- from page p on, each piece past the one before: they rise and do not overlap
pub data Rising : ℕ → List Piece → Type 0 where
  none : {p : ℕ} → Rising p []
  next : {p : ℕ} {x : Piece} {xs : List Piece} → p ≤ x.page → Rising (x.page + 2 ^ x.order) xs → Rising p (x ∷ xs)

-- those of the pieces that begin at or above page p
unfoldable pub from_page : ℕ → List Piece → List Piece
from_page p [] = []
from_page p (x ∷ xs) = cond (leb p x.page) (x ∷ from_page p xs) (from_page p xs)

-- the 4096 addresses of page q are untaken memory, not no-map, of one tag
abbrev pub FreePage : Contents → ℕ → Type 0
FreePage s q = OneTag (free_memory (at s.memory) (at s.taken)) (λ t. true) 4096 (4096 * q)

-- ---- the sentences, of what any block says

pub record PiecesSentence (s : Contents) : Type 0 where
  -- the pieces are the runs' whole pages cut from the bottom, each time the largest order
  pub cut : pieces_from (runs_of s) 0 ≡ cuts (runs_of s)
  -- a call for page p has those of that list that begin at or above it
  pub from : (p : ℕ) → pieces_from (runs_of s) p ≡ from_page p (pieces_from (runs_of s) 0)
  -- wish 1 and any node ask for every free run
  pub every : (t : Tag) → wanted 4294967295 1 t ≡ true
  -- a page is in one piece if it lies whole in one free run, else in none
  pub once : (q : ℕ) → times q (pieces_from (runs_of s) 0) ≡ cond (whole (runs_of s) 0 q) 1 0
  -- it lies so exactly if its addresses are free and of one tag; the last page is not, as the last address is in no table
  pub free : (q : ℕ) → whole (runs_of s) 0 q ≡ true → FreePage s q
  pub whole : (q : ℕ) → 4096 * q + 4096 ≤ top → FreePage s q → whole (runs_of s) 0 q ≡ true
  -- those from page p on rise and do not overlap
  pub rising : (p : ℕ) → Rising p (pieces_from (runs_of s) p)
