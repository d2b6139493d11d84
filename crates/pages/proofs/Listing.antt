-- The list of pieces, a stretch of pages at a time. Assumes nothing.
use Prim.Native.Nat.{ℕ, zero, suc, ◌+◌, ◌%◌, ◌^◌, ◌≤◌, ◌<◌}
use mathlib.Core.Path.{◌≡◌, refl, ap, ◌∙◌}
use mathlib.Core.Bool.{Bool, true, false}
use mathlib.Core.List.{List, [], ◌∷◌, ◌++◌, append_assoc}
use mathlib.Core.Option.{Option, none, some}
use mathlib.Core.Logic.{◌⊎◌, inl, inr}
use native.Mathlib.Omega.{arith}
use native.Mathlib.Nat.{zero-add, add-zero, suc-add, add-suc}
use lib.Dec.{eqb}
use lib.Pow.{pow_pos}
use borrow.Author.Tests.{eq-eqb, ne_eqb, eqb-true}
use Rattle.address.specs.Numbers.{down}
use Rattle.address.proofs.Rounding.{down_multiple}
use Rattle.pages.specs.declared.Piece.{Piece}
use Rattle.pages.specs.Pages.{PageTest, order_at, piece, starting, pieces}
use Rattle.pages.proofs.Dyadic.{down_unique, down_same}
use Rattle.pages.proofs.Orders.{in_piece}

module _ (free : PageTest) where
  abbrev pub starts_at : ℕ → List Piece
  starts_at p = starting p (order_at free p)

  pub pieces_none : (p n : ℕ) → n ≡ 0 → pieces free p n ≡ []
  unfolding pieces
  pieces_none p n e = rw e

  pub pieces_split : (p j k : ℕ) → pieces free p (j + k) ≡ pieces free p j ++ pieces free (p + j) k
  unfolding pieces
  pieces_split p zero k = rw (zero-add, add-zero)
  pieces_split p (suc j) k = rw (suc-add, pieces_split (suc p) j k, append_assoc, suc-add, add-suc)

  -- a stretch in which none begins
  pub pieces_bare : (p n : ℕ) → ((q : ℕ) → p ≤ q → q < p + n → starts_at q ≡ []) → pieces free p n ≡ []
  unfolding pieces
  pieces_bare p zero h = refl
  pieces_bare p (suc n) h =
      rw (h p (omega arith) (omega arith)) (pieces_bare (suc p) n (λ q l m. h q (omega arith) (omega arith)))

  pub pieces_skip : (p j k : ℕ) → ((q : ℕ) → p ≤ q → q < p + j → starts_at q ≡ []) → pieces free p (j + k) ≡ pieces free (p + j) k
  pieces_skip p j k h = rw (pieces_split, pieces_bare p j h)

  -- no piece begins inside of one
  pub starts_not : (p q o : ℕ) → order_at free p ≡ some o → down p (2 ^ o) < q → q < down p (2 ^ o) + 2 ^ o → starts_at q ≡ []
  starts_not p q o e l h =
      let f = in_piece free p q o e (omega arith) h in
      let d = down_unique q (2 ^ o) (down p (2 ^ o)) (down_multiple p (2 ^ o) (pow_pos o)) (omega arith) h in
      let n : q % 2 ^ o ≡ 0 → ⊥ = λ z. omega (arith, down_same q (2 ^ o) z) in
      rw (f, ne_eqb (q % 2 ^ o) 0 n)

  -- at a piece's first page: the piece, and what begins past it
  pub pieces_one : (p o k : ℕ) → order_at free p ≡ some o → p % 2 ^ o ≡ 0
      → pieces free p (2 ^ o + k) ≡ piece p o ∷ pieces free (p + 2 ^ o) k
  unfolding pieces
  pieces_one p o k e z = go (2 ^ o) refl (pow_pos o)
    where
      s : down p (2 ^ o) ≡ p
      s = down_same p (2 ^ o) z

      go : (w : ℕ) → 2 ^ o ≡ w → 0 < w → pieces free p (w + k) ≡ piece p o ∷ pieces free (p + w) k
      go zero f l = absurd (omega arith)
      go (suc w) f l = rw (suc-add, e, eq-eqb (p % 2 ^ o) 0 z) (ap (λ (l : List Piece). piece p o ∷ l) (pieces_skip (suc p) w k (λ q i j. starts_not p q o e (omega arith) (omega arith)) ∙ rw (suc-add, add-suc)))

  -- inside a piece: what begins past it
  pub pieces_inside : (p o n k : ℕ) → order_at free p ≡ some o → down p (2 ^ o) < p → down p (2 ^ o) + 2 ^ o ≡ p + n
      → pieces free p (n + k) ≡ pieces free (p + n) k
  pieces_inside p o n k e l f = pieces_skip p n k (λ q i j. starts_not p q o e (omega arith) (omega arith))

  -- a piece begins at page p
  pub record Begins (p o : ℕ) : Type 0 where
    pub order : order_at free p ≡ some o
    pub first : p % 2 ^ o ≡ 0
    pub listed : starts_at p ≡ piece p o ∷ []

  -- none does, or one does
  pub starts_cases : (p : ℕ) → (starts_at p ≡ []) ⊎ ((o : ℕ) × Begins p o)
  starts_cases p = go (order_at free p) refl
    where
      at : (o : ℕ) → order_at free p ≡ some o → (t : Bool) → eqb (p % 2 ^ o) 0 ≡ t → (starts_at p ≡ []) ⊎ ((o : ℕ) × Begins p o)
      at o e true f = inr (o, record { order = e; first = eqb-true (p % 2 ^ o) 0 f; listed = rw (e, f) })
      at o e false f = inl (rw (e, f))

      go : (v : Option ℕ) → order_at free p ≡ v → (starts_at p ≡ []) ⊎ ((o : ℕ) × Begins p o)
      go none e = inl (rw e)
      go (some o) e = at o e (eqb (p % 2 ^ o) 0) refl
