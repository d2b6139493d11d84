-- Big-endian numbers: byte by byte, in two halves, and by the bytes that count. Assumes nothing.
use Prim.Native.Nat.{ℕ, zero, suc, ◌+◌, ◌*◌}
use mathlib.Core.Path.{◌≡◌, refl, ap, ◌∙◌}
use mathlib.Core.List.{List, [], ◌∷◌}
use native.Mathlib.Nat.{suc-add}
use native.Mathlib.Numerals.{add-one}
use native.Mathlib.Omega.{arith}
use lib.ListN.{drop, take, get_or}
use lib.Seq.{drop-drop, drop-nil}
use Rattle.tree.specs.Words.{big, word}

-- ---- a u32

big_next : (v k at : ℕ) (l : List ℕ) → big v (suc k) (drop at l) ≡ big (256 * v + get_or l at 0) k (drop (at + 1) l)
unfolding big
big_next v k zero [] = let e : 256 * v ≡ 256 * v + 0 = omega arith in ap (λ (x : ℕ). big x k []) e
big_next v k (suc at) [] = let e : 256 * v ≡ 256 * v + 0 = omega arith in rw add-one (ap (λ (x : ℕ). big x k []) e)
big_next v k zero (b ∷ l) = refl
big_next v k (suc at) (b ∷ l) = big_next v k at l ∙ rw (add-one, add-one)

big_none : (v : ℕ) (l : List ℕ) → big v 0 l ≡ v
unfolding big
big_none v l = refl

-- 4 bytes behind the digits so far
big_four : (v at : ℕ) (l : List ℕ)
    → big v 4 (drop at l) ≡ 256 * (256 * (256 * (256 * v + get_or l at 0) + get_or l (at + 1) 0) + get_or l (at + 2) 0) + get_or l (at + 3) 0
big_four v at l =
    let p : at + 1 + 1 ≡ at + 2 = omega arith in
    let q : at + 2 + 1 ≡ at + 3 = omega arith in
    let v₁ = 256 * v + get_or l at 0 in
    let v₂ = 256 * v₁ + get_or l (at + 1) 0 in
    let v₃ = 256 * v₂ + get_or l (at + 2) 0 in
    let v₄ = 256 * v₃ + get_or l (at + 3) 0 in
    cc (big_next v 3 at l, big_next v₁ 2 (at + 1) l, big_next v₂ 1 (at + 2) l, big_next v₃ 0 (at + 3) l, big_none v₄ (drop (at + 3 + 1) l))

pub word_at : (at : ℕ) (l : List ℕ)
    → get_or l at 0 * 16777216 + get_or l (at + 1) 0 * 65536 + get_or l (at + 2) 0 * 256 + get_or l (at + 3) 0 ≡ word (drop at l)
word_at at l = omega (arith, big_four 0 at l)

-- ---- a u64

big_add : (v j k : ℕ) (l : List ℕ) → big v (j + k) l ≡ big (big v j l) k (drop j l)
unfolding big
big_add v zero k l = let z : zero + k ≡ k = omega arith in rw z refl
big_add v (suc j) k [] = rw suc-add (big_add (256 * v) j k [] ∙ rw drop-nil refl)
big_add v (suc j) k (b ∷ l) = rw suc-add (big_add (256 * v + b) j k l)

-- 8 bytes
pub double_at : (at : ℕ) (l : List ℕ)
    → get_or l at 0 * 72057594037927936 + get_or l (at + 1) 0 * 281474976710656 + get_or l (at + 2) 0 * 1099511627776 + get_or l (at + 3) 0 * 4294967296
    + get_or l (at + 4) 0 * 16777216 + get_or l (at + 5) 0 * 65536 + get_or l (at + 6) 0 * 256 + get_or l (at + 7) 0 ≡ big 0 8 (drop at l)
double_at at l =
    let d : big 0 8 (drop at l) ≡ big (big 0 4 (drop at l)) 4 (drop (at + 4) l) = big_add 0 4 4 (drop at l) ∙ rw (drop-drop 4 at l) refl in
    let p : at + 4 + 1 ≡ at + 5 = omega arith in
    let q : at + 4 + 2 ≡ at + 6 = omega arith in
    let r : at + 4 + 3 ≡ at + 7 = omega arith in
    omega (arith, d, big_four 0 at l, rw (p, q, r) at (big_four (big 0 4 (drop at l)) (at + 4) l))

-- ---- the bytes that count

big_take : (v k : ℕ) (l : List ℕ) → big v k (take k l) ≡ big v k l
unfolding big
big_take v zero l = refl
big_take v (suc k) [] = refl
big_take v (suc k) (b ∷ l) = big_take (256 * v + b) k l

pub word_take : (l : List ℕ) → word (take 4 l) ≡ word l
word_take l = big_take 0 4 l
