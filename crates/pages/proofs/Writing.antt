-- One more piece written behind those in a buffer. Assumes nothing.
use Prim.Native.Nat.{ℕ, ◌+◌, ◌*◌, ◌≤◌}
use mathlib.Core.Path.{◌≡◌, refl, sym, ap, ◌∙◌}
use mathlib.Core.List.{List, [], ◌∷◌, ◌++◌, append_assoc, append-nil}
use native.Mathlib.Omega.{arith}
use lib.ListN.{length, take, drop, length-append, length-drop}
use lib.Seq.{sets, sets-eq, take-add, drop-drop, take_at, drop_at}
use Rattle.regions.specs.Bytes.{bytes}
use Rattle.regions.proofs.Numbers.{sets_append, bytes_length}
use Rattle.pages.specs.declared.Piece.{Piece}
use Rattle.pages.specs.Pages.{piece_bytes, pieces_bytes, written}

-- ---- what is left begins with x

module _ (l : List Piece) (n : ℕ) (x : Piece) (xs : List Piece) (e : drop n l ≡ x ∷ xs) where
  pub take_more : take (n + 1) l ≡ take n l ++ (x ∷ [])
  take_more = rw (take-add, e)

  pub drop_more : drop (n + 1) l ≡ xs
  drop_more = sym (drop-drop 1 n l) ∙ rw e

  pub length_more : n + 1 ≤ length l
  length_more = omega (arith, ap length e, length-drop n l)

piece_length : (x : Piece) → length (piece_bytes x) ≡ 12
unfolding piece_bytes
piece_length x = simp (length-append, bytes_length)

pub pieces_length : (xs : List Piece) → length (pieces_bytes xs) ≡ 12 * length xs
unfolding pieces_bytes
pieces_length [] = refl
pieces_length (x ∷ xs) = omega (arith, length-append (piece_bytes x) (pieces_bytes xs), piece_length x, pieces_length xs)

pub pieces_append : (xs ys : List Piece) → pieces_bytes (xs ++ ys) ≡ pieces_bytes xs ++ pieces_bytes ys
unfolding pieces_bytes
pieces_append [] ys = refl
pieces_append (x ∷ xs) ys = rw (pieces_append xs ys, append_assoc)

pub written_length : (xs : List Piece) (b : List ℕ) → 12 * length xs ≤ length b → length (written xs b) ≡ length b
unfolding written
written_length xs b h = omega (arith, length-append (pieces_bytes xs) (drop (12 * length xs) b), pieces_length xs, length-drop (12 * length xs) b)

pub written_more : (xs : List Piece) (x : Piece) (b : List ℕ) (n : ℕ) → length xs ≡ n → 12 * n + 12 ≤ length b
    → sets (written xs b) (12 * n) (piece_bytes x) ≡ written (xs ++ (x ∷ [])) b
unfolding written pieces_bytes
written_more xs x b n e h =
    let w = written_length xs b (omega arith) in
    let p = piece_length x in
    let l : length (pieces_bytes xs) ≡ 12 * n = pieces_length xs ∙ ap (λ (k : ℕ). 12 * k) e in
    let k : length (xs ++ (x ∷ [])) ≡ n + 1 = omega (arith, length-append xs (x ∷ [])) in
    let m : 12 * (n + 1) ≡ 12 * n + 12 = omega arith in
    rw (sets-eq (piece_bytes x) (pieces_bytes xs ++ drop (12 * length xs) b) (12 * n) (omega arith), p, take_at (pieces_bytes xs) (drop (12 * length xs) b) (12 * n) l, ← drop-drop 12 (12 * n) (pieces_bytes xs ++ drop (12 * length xs) b), drop_at (pieces_bytes xs) (drop (12 * length xs) b) (12 * n) l, e, drop-drop 12 (12 * n) b, pieces_append xs (x ∷ []), append-nil (piece_bytes x), k, m, append_assoc)

-- a piece written field by field
pub sets_piece : (l : List ℕ) (at : ℕ) (x : Piece) → sets (sets l at (bytes 8 x.page)) (at + 8) (bytes 4 x.order) ≡ sets l at (piece_bytes x)
unfolding piece_bytes
sets_piece l at x = simp (sets_append, bytes_length)
