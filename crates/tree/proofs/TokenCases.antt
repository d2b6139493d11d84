-- What the token at the front of some bytes can be, and which of the bytes are its name or its value. Assumes nothing.
use Prim.Native.Nat.{ℕ, ◌+◌, ◌-◌, ◌≤◌}
use mathlib.Core.Path.{◌≡◌, refl, ap, ◌∙◌}
use mathlib.Core.Bool.{Bool, true, cond, ◌&&◌}
use mathlib.Core.List.{List}
use native.Mathlib.Omega.{arith}
use lib.Dec.{leb, ltb, eqb}
use lib.ListN.{length, drop, take, length-drop}
use lib.Seq.{drop-drop, length-take-le}
use borrow.Author.Tests.{leb-true, ltb-true, eqb-true}
use Rattle.tree.specs.Words.{word}
use Rattle.tree.specs.Tokens.{to_zero, zero_ended, Token, begin, end, property, nop, stop, broken, begin_of, property_of, plain_of, token_of, token}
use Rattle.tree.specs.Steps.{shape}
use Rattle.tree.specs.declared.tokens.Token.TheVariants.{Begin, Property}
use Rattle.tree.proofs.Booleans.{both, chosen}
use Rattle.tree.proofs.Names.{to_zero_take}

-- what holds in each case holds of the token
module _
    (names : ℕ) (l : List ℕ) (P : Token → Type 0) (of-broken : P broken)
    (of-begin : 4 ≤ length l → word l ≡ 1 → zero_ended (drop 4 l) ≡ true → P (begin (to_zero (drop 4 l))))
    (of-property : word l ≡ 3 → 12 + word (drop 4 l) ≤ length l → ltb (word (drop 8 l)) names ≡ true
    → P (property (word (drop 8 l)) (take (word (drop 4 l)) (drop 12 l))))
    (of_end : 4 ≤ length l → word l ≡ 2 → P end)
    (of-nop : 4 ≤ length l → word l ≡ 4 → P nop)
    (of-stop : 4 ≤ length l → word l ≡ 9 → P stop)
  where
    begin_cases : 4 ≤ length l → word l ≡ 1 → P (begin_of (drop 4 l))
    unfolding begin_of
    begin_cases h w = chosen P (zero_ended (drop 4 l)) _ _ (of-begin h w) of-broken

    property_cases : word l ≡ 3 → P (property_of names (drop 4 l))
    unfolding property_of
    property_cases w = rw (drop-drop 4 4 l, drop-drop 8 4 l) (chosen P (a && (b && c)) _ _ fits of-broken)
      where
        a : Bool
        a = leb 8 (length (drop 4 l))

        b : Bool
        b = leb (word (drop 4 l)) (length (drop 4 l) - 8)

        c : Bool
        c = ltb (word (drop 8 l)) names

        fits : a && (b && c) ≡ true → P (property (word (drop 8 l)) (take (word (drop 4 l)) (drop 12 l)))
        fits e =
            let p = both a (b && c) e in
            let q = both b c p.1 in
            let h = leb-true 8 (length (drop 4 l)) p.0 in
            let k = leb-true (word (drop 4 l)) (length (drop 4 l) - 8) q.0 in
            of-property w (omega (arith, length-drop 4 l)) q.1

    by_number : (w : ℕ) (x y : Token) → (word l ≡ w → P x) → P y → P (cond (eqb (word l) w) x y)
    by_number w x y f g = chosen P (eqb (word l) w) x y (λ e. f (eqb-true (word l) w e)) g

    pub token_cases : P (token names l)
    unfolding token token_of plain_of
    token_cases = chosen P (leb 4 (length l)) _ _ (λ e. whole (leb-true 4 (length l) e)) of-broken
      where
        whole : 4 ≤ length l → P (token_of names (word l) (drop 4 l))
        whole h =
            by_number 1 _ _ (begin_cases h) (by_number 3 _ _ property_cases
            (by_number 2 _ _ (of_end h) (by_number 4 _ _ (of-nop h) (by_number 9 _ _ (of-stop h) of-broken))))

-- ---- by its numbers

differ : {A : Type 0} → ◌≡◌ {A = ℕ} 0 1 → A
differ e = absurd (omega arith)

-- a property whose name begins at m of the strings block, with a value of n bytes
pub record IsProperty (x : Token) (m n : ℕ) (l : List ℕ) : Type 0 where
  pub is : x ≡ property m (take n (drop 12 l))
  pub within : 12 + n ≤ length l

pub property_is : (names : ℕ) (l : List ℕ) (m n : ℕ) → Property m n ≡ shape (token names l) → IsProperty (token names l) m n l
property_is names l m n =
    token_cases names l (λ x. Property m n ≡ shape x → IsProperty x m n l) (λ e. differ (cc)) (λ _ _ _ e. differ (cc)) fits (λ _ _ e. differ (cc))
    (λ _ _ e. differ (cc)) (λ _ _ e. differ (cc))
  where
    fits : word l ≡ 3 → 12 + word (drop 4 l) ≤ length l → ltb (word (drop 8 l)) names ≡ true
        → Property m n ≡ shape (property (word (drop 8 l)) (take (word (drop 4 l)) (drop 12 l)))
        → IsProperty (property (word (drop 8 l)) (take (word (drop 4 l)) (drop 12 l))) m n l
    fits w h z e =
        let i : m ≡ word (drop 8 l) = cc in
        let j : n ≡ length (take (word (drop 4 l)) (drop 12 l)) = cc in
        let k : n ≡ word (drop 4 l) = j ∙ length-take-le (word (drop 4 l)) (drop 12 l) (omega (arith, length-drop 12 l)) in
        record { is = rw (i, k) refl; within = omega arith }

-- a node's begin, with a name of n bytes
pub record IsBegin (x : Token) (n : ℕ) (l : List ℕ) : Type 0 where
  pub is : x ≡ begin (take n (drop 4 l))
  pub within : 4 + n ≤ length l

pub begin_is : (names : ℕ) (l : List ℕ) (n : ℕ) → Begin n ≡ shape (token names l) → IsBegin (token names l) n l
begin_is names l n =
    token_cases names l (λ x. Begin n ≡ shape x → IsBegin x n l) (λ e. differ (cc)) fits (λ _ _ _ e. differ (cc)) (λ _ _ e. differ (cc))
    (λ _ _ e. differ (cc)) (λ _ _ e. differ (cc))
  where
    fits : 4 ≤ length l → word l ≡ 1 → zero_ended (drop 4 l) ≡ true → Begin n ≡ shape (begin (to_zero (drop 4 l))) → IsBegin (begin (to_zero (drop 4 l))) n l
    fits h w z e =
        let k : n ≡ length (to_zero (drop 4 l)) = cc in
        let b = ltb-true (length (to_zero (drop 4 l))) (length (drop 4 l)) z in
        record { is = rw k (ap begin (to_zero_take (drop 4 l))); within = omega (arith, length-drop 4 l) }
