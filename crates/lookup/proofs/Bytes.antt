-- Equal bytes, and a name in the strings block that is the one asked for, by the library's words for slices. Assumes nothing.
use Prim.Native.Nat.{ℕ, zero, suc, ◌≤◌, ◌<◌}
use mathlib.Core.Path.{◌≡◌, refl, sym, ap, ◌∙◌}
use mathlib.Core.Bool.{Bool, true, false, ◌&&◌, not}
use mathlib.Core.List.{List, [], ◌∷◌}
use native.Mathlib.Omega.{arith}
use lib.Dec.{eqb}
use lib.ListN.{length, get_or}
use borrow.Author.Tests.{eq-eqb, ne_eqb}
use Rattle.std.proofs.Common.{◌==◌}
use Rattle.std.specs.Cmp.Lexicographic.{pointwise}
use Rattle.std.specs.List.{list_all, zip}
use Rattle.std.proofs.lemmas.List.{get_or_past}
use Rattle.tree.specs.Tokens.{to_zero}
use Rattle.lookup.specs.Values.{same}

pub same_pointwise : (a b : List ℕ) → same a b ≡ pointwise (λ x y. x == y) a b
unfolding same
same_pointwise [] [] = refl
same_pointwise [] (y ∷ b) = refl
same_pointwise (x ∷ a) [] = refl
same_pointwise (x ∷ a) (y ∷ b) = ap (λ (t : Bool). eqb x y && t) (same_pointwise a b)

-- a byte that is no zero, and equals the name's
abbrev pub goes_on : ℕ × ℕ → Bool
goes_on p = not (p.0 == 0) && p.0 == p.1

-- more bytes than there are, and so no name
pub name_short : (l name : List ℕ) → length l < length name → false ≡ same (to_zero l) name
unfolding same to_zero
name_short [] [] h = absurd (omega (arith, h))
name_short [] (y ∷ name) h = refl
name_short (zero ∷ l) [] h = absurd (omega (arith, h))
name_short (zero ∷ l) (y ∷ name) h = refl
name_short (suc b ∷ l) [] h = absurd (omega (arith, h))
name_short (suc b ∷ l) (y ∷ name) h = go (eqb (suc b) y) (name_short l name (omega (arith, h)))
  where
    go : (t : Bool) → false ≡ same (to_zero l) name → false ≡ t && same (to_zero l) name
    go true e = e
    go false e = refl

-- bytes begin with a name, in which no byte is zero, and a zero byte or nothing follows
pub name_begins : (l name : List ℕ) → length name ≤ length l → same (to_zero l) name ≡ list_all goes_on (zip l name) && eqb (get_or l (length name) 0) 0
unfolding same to_zero
name_begins [] [] h = refl
name_begins [] (y ∷ name) h = absurd (omega (arith, h))
name_begins (zero ∷ l) [] h = refl
name_begins (zero ∷ l) (y ∷ name) h = refl
name_begins (suc b ∷ l) [] h = rw (ne_eqb (suc b) 0 (omega arith)) refl
name_begins (suc b ∷ l) (y ∷ name) h = go (eqb (suc b) y) (name_begins l name (omega (arith, h)))
  where
    go : (t : Bool) → same (to_zero l) name ≡ list_all goes_on (zip l name) && eqb (get_or l (length name) 0) 0
        → t && same (to_zero l) name ≡ ((not (eqb (suc b) 0) && t) && list_all goes_on (zip l name)) && eqb (get_or l (length name) 0) 0
    go true e = rw (ne_eqb (suc b) 0 (omega arith)) e
    go false e = rw (ne_eqb (suc b) 0 (omega arith)) refl

module _ (l name : List ℕ) (h : length name ≤ length l) (t : Bool) (e : t ≡ list_all goes_on (zip l name)) where
  pub name_differs : t ≡ false → t ≡ same (to_zero l) name
  name_differs f = f ∙ sym (name_begins l name h ∙ rw (← e, f) refl)

  pub name_ends : t ≡ true → eqb (get_or l (length name) 0) 0 ≡ same (to_zero l) name
  name_ends f = sym (name_begins l name h ∙ rw (← e, f) refl)

  pub name_fills : t ≡ true → length l ≡ length name → true ≡ same (to_zero l) name
  name_fills f k = sym (sym (name_ends f) ∙ rw (get_or_past l (length name) 0 (omega (arith, k))) (eq-eqb 0 0 refl))
