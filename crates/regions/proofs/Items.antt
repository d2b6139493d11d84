-- Items of one width, read one after the other: what is left from item i on. Assumes nothing.
use Prim.Native.Nat.{ℕ, suc, ◌+◌, ◌-◌, ◌*◌, ◌≤◌, ◌<◌}
use mathlib.Core.Path.{◌≡◌, sym, ◌∙◌, ap}
use mathlib.Core.List.{List, [], ◌∷◌}
use native.Mathlib.Nat.{mul-suc}
use native.Mathlib.Numerals.{add-one}
use native.Mathlib.Omega.{arith}
use lib.ListN.{drop}
use lib.Seq.{drop-drop}

-- w is the width of an item, one reads an item, all reads n of them
module _ {A : Type 0} (w : ℕ) (one : List ℕ → A) (all : ℕ → List ℕ → List A) (none : (l : List ℕ) → all 0 l ≡ [])
    (more : (n : ℕ) (l : List ℕ) → all (suc n) l ≡ one l ∷ all n (drop w l)) where
  pub items_rest : (i n : ℕ) (l : List ℕ) → i < n → all (n - i) (drop (w * i) l) ≡ one (drop (w * i) l) ∷ all (n - (i + 1)) (drop (w * (i + 1)) l)
  items_rest i n l h =
      let e : n - i ≡ suc (n - (i + 1)) = omega arith in
      let f : w * i + w ≡ w * (i + 1) = sym (ap (λ (x : ℕ). w * x) (add-one i) ∙ mul-suc w i) in
      rw (e, more) (rw (drop-drop, f))

  pub items_end : (i n : ℕ) (l : List ℕ) → n ≤ i → all (n - i) l ≡ []
  items_end i n l h =
      let e : n - i ≡ 0 = omega arith in
      rw e (none l)
