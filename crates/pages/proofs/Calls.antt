-- E14's calls in turn give together the one list, whatever buffers it is cut by. Assumes nothing.
use Prim.Native.Nat.{ℕ, zero, suc, ◌*◌, ◌≤◌, ◌<◌}
use mathlib.Core.Path.{◌≡◌, refl, sym, ap, ◌∙◌}
use mathlib.Core.Bool.{true}
use mathlib.Core.List.{List, [], ◌∷◌, ◌++◌, append_assoc, append-nil}
use native.Mathlib.Omega.{arith}
use lib.ListN.{length, take, drop, length-take, length-drop, take-append-drop}
use lib.Seq.{drop-drop, drop_at, drop-nil}
use borrow.Author.Tests.{eq-eqb}
use Rattle.regions.specs.declared.Region.{Region}
use Rattle.regions.specs.Bytes.{number, bytes}
use Rattle.regions.proofs.Numbers.{number_bytes, bytes_length}
use Rattle.block.specs.Block.{current, contents, good}
use Rattle.seek.specs.Search.{runs_of}
use Rattle.search.specs.Answers.{Answer, slip_of}
use Rattle.pages.specs.declared.Piece.{Piece}
use Rattle.pages.specs.Pages.{piece, pieces_from, page_top, page_top_is, piece_bytes, pieces_bytes, next_page, written, room, given, hand_over}
use Rattle.pages.specs.Calls.{Lent, AllSlips, AllRoomy, how_many, next_from, read_pieces, Handing, gives, reaches, HandOverSentence}
use Rattle.pages.proofs.Writing.{pieces_length}
use Rattle.pages.proofs.Resume.{AllFit, none_left, resume, few_pieces, all_fit}
use Rattle.pages.proofs.Greedy.{pieces_greedy}
use Rattle.pages.proofs.Cover.{pieces_cover, pieces_rise}
use Rattle.pages.proofs.Runs.{runs_canonical}

-- ---- the numbers of a slip, and pieces read back

slip_first : (x y : ℕ) → x < 18446744073709551616 → number 8 (slip_of x y) ≡ x
slip_first x y h = number_bytes 8 x (bytes 8 y) h

slip_second : (x y : ℕ) → y < 18446744073709551616 → number 8 (drop 8 (slip_of x y)) ≡ y
slip_second x y h = rw (drop_at (bytes 8 x) (bytes 8 y) 8 (bytes_length 8 x)) (ap (number 8) (sym (append-nil (bytes 8 y))) ∙ number_bytes 8 y [] h)

read_one : (a o n : ℕ) (l : List ℕ) → a < 18446744073709551616 → o < 4294967296 → read_pieces (suc n) (bytes 8 a ++ (bytes 4 o ++ l)) ≡ piece a o ∷ read_pieces n l
unfolding read_pieces
read_one a o n l h i =
    let d = drop_at (bytes 8 a) (bytes 4 o ++ l) 8 (bytes_length 8 a) in
    let e : drop 12 (bytes 8 a ++ (bytes 4 o ++ l)) ≡ l = sym (drop-drop 4 8 (bytes 8 a ++ (bytes 4 o ++ l))) ∙ ap (drop 4) d ∙ drop_at (bytes 4 o) l 4 (bytes_length 4 o) in
    rw (number_bytes 8 a (bytes 4 o ++ l) h, d, number_bytes 4 o l i, e)

read_back : (xs : List Piece) (l : List ℕ) → AllFit xs → read_pieces (length xs) (pieces_bytes xs ++ l) ≡ xs
unfolding pieces_bytes piece_bytes
read_back [] l f = unfold read_pieces in refl
read_back (x ∷ xs) l f =
    rw (append_assoc, append_assoc) (read_one x.page x.order (length xs) (pieces_bytes xs ++ l) f.0.0 f.0.1 ∙ ap (λ (ys : List Piece). x ∷ ys) (read_back xs l f.1))

take_fit : (k : ℕ) (xs : List Piece) → AllFit xs → AllFit (take k xs)
take_fit zero xs f = tt
take_fit (suc k) [] f = tt
take_fit (suc k) (x ∷ xs) f = (f.0, take_fit k xs f.1)

next_small : (ps : List Piece) → AllFit ps → next_page ps < 18446744073709551616
unfolding next_page
next_small [] f = omega (arith, page_top_is)
next_small (x ∷ xs) f = f.0.0

drop_fit : (k : ℕ) (xs : List Piece) → AllFit xs → AllFit (drop k xs)
drop_fit zero xs f = f
drop_fit (suc k) [] f = tt
drop_fit (suc k) (x ∷ xs) f = drop_fit k xs f.1

-- ---- one call

module _ (b : List ℕ) (g : good current b ≡ true) where
  abbrev runs : List Region
  runs = runs_of (contents current b)

  abbrev hand : Handing
  hand p x = hand_over current p b x.buffer x.slip

  module _ (p : ℕ) (x : Lent) (h : length x.slip ≡ 16) where
    abbrev n : ℕ
    n = room x.buffer

    abbrev ps : List Piece
    ps = pieces_from runs p

    hand_is : hand p x ≡ given b ps x.buffer
    unfolding hand_over
    hand_is = rw (eq-eqb (length x.slip) 16 h, g)

    said : how_many (hand p x) ≡ length (take n ps)
    said =
        rw hand_is
        (slip_first (length (take n ps)) (next_page (drop n ps)) (omega (arith, length-take n ps, few_pieces runs p, page_top_is)))

    told : next_from (hand p x) ≡ next_page (drop n ps)
    told = rw hand_is (slip_second (length (take n ps)) (next_page (drop n ps)) (next_small (drop n ps) (drop_fit n ps (all_fit runs p))))

    read : read_pieces (how_many (hand p x)) (hand p x).buffer ≡ take n ps
    unfolding written
    read =
        let e : (hand p x).buffer ≡ written (take n ps) x.buffer = ap (λ (a : Answer). a.buffer) hand_is in
        rw (said, e) (read_back (take n ps) (drop (12 * length (take n ps)) x.buffer) (take_fit n ps (all_fit runs p)))

    bytes_stay : drop (12 * how_many (hand p x)) (hand p x).buffer ≡ drop (12 * how_many (hand p x)) x.buffer
    unfolding written
    bytes_stay =
        let e : (hand p x).buffer ≡ written (take n ps) x.buffer = ap (λ (a : Answer). a.buffer) hand_is in
        rw (said, e) (drop_at (pieces_bytes (take n ps)) (drop (12 * length (take n ps)) x.buffer) (12 * length (take n ps)) (pieces_length (take n ps)))

    under_twelve : length x.buffer < 12 → how_many (hand p x) ≡ 0
    under_twelve l = said ∙ omega (arith, length-take n ps)

  -- ---- calls in turn

  -- what they give and what is left is the list from their first page on
  together : (p : ℕ) (xs : List Lent) → AllSlips xs → gives hand p xs ++ pieces_from runs (reaches hand p xs) ≡ pieces_from runs p
  unfolding gives reaches
  together p [] l = refl
  together p (x ∷ xs) l =
      rw (read p x l.0, append_assoc, together (next_from (hand p x)) xs l.1, told p x l.0, ← resume runs p (room x.buffer))
      (take-append-drop (room x.buffer) (pieces_from runs p))

  given_all : (xs : List Lent) → AllSlips xs → reaches hand 0 xs ≡ page_top → gives hand 0 xs ≡ pieces_from runs 0
  given_all xs l e = sym (append-nil (gives hand 0 xs)) ∙ rw (← none_left runs, ← e) (together 0 xs l)

  stays : (xs : List Lent) → AllSlips xs → reaches hand page_top xs ≡ page_top
  unfolding reaches next_page
  stays [] l = refl
  stays (x ∷ xs) l =
      let e : next_from (hand page_top x) ≡ page_top = told page_top x l.0 ∙ rw (none_left runs, drop-nil) in
      rw e (stays xs l.1)

  -- 2^52 is answered when there were as many calls as pieces
  ends_from : (p : ℕ) (xs : List Lent) → AllSlips xs → AllRoomy xs → 0 < length xs → length (pieces_from runs p) ≤ length xs → reaches hand p xs ≡ page_top
  unfolding reaches
  ends_from p [] l r s m = absurd (omega arith)
  ends_from p (x ∷ xs) l r s m = rw (told p x l.0) (go (drop (room x.buffer) (pieces_from runs p)) refl (λ q i j. ends_from q xs l.1 r.1 i j))
    where
      go : (ps : List Piece) → drop (room x.buffer) (pieces_from runs p) ≡ ps
          → ((q : ℕ) → 0 < length xs → length (pieces_from runs q) ≤ length xs → reaches hand q xs ≡ page_top)
          → reaches hand (next_page (drop (room x.buffer) (pieces_from runs p))) xs ≡ page_top
      go [] e ih = unfold next_page in rw e (stays xs l.1)
      go (y ∷ ys) e ih =
          let d = ap length e in
          let f = length-drop (room x.buffer) (pieces_from runs p) in
          let k = r.0 in
          ih (next_page (drop (room x.buffer) (pieces_from runs p))) (omega arith) (rw (← resume runs p (room x.buffer)) (omega arith))

  pub hand_over_sentence : HandOverSentence hand (contents current b)
  hand_over_sentence =
      let w = runs_canonical (contents current b) in
      record {
        done = λ p x h. ap (λ (a : Answer). a.number) (hand_is p x h);
        pieces = read;
        next = told;
        stay = bytes_stay;
        none = under_twelve;
        same = λ xs ys l m e f. given_all xs l e ∙ sym (given_all ys m f);
        cut = λ xs l e. given_all xs l e ∙ pieces_greedy runs w;
        once = λ xs l e q. rw (given_all xs l e) (pieces_cover runs w q);
        rising = λ xs l e. rw (given_all xs l e) (pieces_rise runs 0);
        ends = λ xs l r s m. ends_from 0 xs l r s (rw (pieces_greedy runs w) m);
      }
