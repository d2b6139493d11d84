-- Reading and spelling a number are inverse, over the width; a wide number is its halves. Assumes nothing.
use Prim.Native.Nat.{ℕ, zero, suc, ◌+◌, ◌*◌, ◌/◌, ◌%◌, ◌^◌, ◌≤◌, ◌<◌}
use mathlib.Core.Path.{◌≡◌, refl, sym, ap, ap₂, ◌∙◌}
use mathlib.Core.List.{List, [], ◌∷◌, ◌++◌}
use native.Mathlib.Nat.{mod-add-div, div-lt_iff_lt-mul, div-div-eq-div-mul, pow-suc, mod-lt, mul_comm, zero-add, add-suc, suc-add, add-zero, div-one, mul_assoc, le_of_suc-le-suc, not-suc-le-zero}
use native.Mathlib.Numerals.{add-one}
use native.Mathlib.Omega.{arith}
use mir.Syntax.{w8}
use mir.Val.{Fits}
use lib.Arith.{digits_div, digits_mod, mod-mul}
use lib.Dec.{lit<}
use lib.ListN.{length, take, drop, get_or, set}
use lib.Seq.{sets}
use Rattle.regions.specs.Bytes.{number, bytes}

pow_some : (k : ℕ) → 0 < 256 ^ k
pow_some zero = lit< tt
pow_some (suc k) = rw pow-suc (omega (arith, pow_some k))

number_nil : (k : ℕ) → number k [] ≡ 0
unfolding number
number_nil zero = refl
number_nil (suc k) = refl

number_none : (l : List ℕ) → number 0 l ≡ 0
unfolding number
number_none l = refl

-- one byte, and the rest
number_drop : (k at : ℕ) (l : List ℕ) → number (suc k) (drop at l) ≡ get_or l at 0 + 256 * number k (drop (at + 1) l)
unfolding number
number_drop k zero [] = omega (arith, number_nil k)
number_drop k (suc at) [] = rw add-one (omega (arith, number_nil k))
number_drop k zero (b ∷ l) = refl
number_drop k (suc at) (b ∷ l) = number_drop k at l ∙ rw (add-one, add-one)

pub number_four : (at : ℕ) (l : List ℕ)
    → number 4 (drop at l) ≡ get_or l at 0 + get_or l (at + 1) 0 * 256 + get_or l (at + 2) 0 * 65536 + get_or l (at + 3) 0 * 16777216
number_four at l =
    let a : at + 1 + 1 ≡ at + 2 = omega arith in
    let b : at + 2 + 1 ≡ at + 3 = omega arith in
    omega (
      arith,
      number_drop 3 at l,
      number_drop 2 (at + 1) l,
      rw a at (number_drop 1 (at + 1 + 1) l),
      ap (λ (n : ℕ). number 2 (drop n l)) a,
      rw b at (number_drop 0 (at + 2 + 1) l),
      ap (λ (n : ℕ). number 1 (drop n l)) b,
      number_none (drop (at + 3 + 1) l),
    )

-- the bytes of a sum of widths: the low part, then the high part
pub number_add : (j k : ℕ) (l : List ℕ) → number (j + k) l ≡ number j l + 256 ^ j * number k (drop j l)
unfolding number
number_add zero k l = rw zero-add (omega (arith, number_none l))
number_add (suc j) k [] = simp (number_nil) (omega arith)
number_add (suc j) k (b ∷ l) =
    rw suc-add
    (omega (
      arith,
      number_add j k l,
      sym (mul_assoc 256 (256 ^ j) (number k (drop j l))),
      ap (λ (n : ℕ). n * number k (drop j l)) (pow-suc 256 j ∙ mul_comm (256 ^ j) 256),
    ))

pub bytes_length : (k v : ℕ) → length (bytes k v) ≡ k
unfolding bytes
bytes_length zero v = refl
bytes_length (suc k) v = ap suc (bytes_length k (v / 256))

bytes_add : (j k v : ℕ) → bytes (j + k) v ≡ bytes j v ++ bytes k (v / 256 ^ j)
unfolding bytes
bytes_add zero k v = rw (zero-add, div-one)
bytes_add (suc j) k v =
    rw suc-add
    (ap (λ (l : List ℕ). v % 256 ∷ l)
    (bytes_add j k (v / 256)
    ∙ ap (λ (n : ℕ). bytes j (v / 256) ++ bytes k n) (div-div-eq-div-mul v 256 (256 ^ j) ∙ ap (λ (n : ℕ). v / n) (mul_comm 256 (256 ^ j) ∙ sym (pow-suc 256 j)))))

-- only the low k bytes count
pub bytes_mod : (k v : ℕ) → bytes k (v % 256 ^ k) ≡ bytes k v
unfolding bytes
bytes_mod zero v = refl
bytes_mod (suc k) v =
    let e : v % 256 ^ suc k ≡ (v / 256 % 256 ^ k) * 256 + v % 256 =
    ap (λ (n : ℕ). v % n) (pow-suc 256 k) ∙ mod-mul v (pow_some k) (lit< tt) in
    rw e
    (ap₂ (λ (a : ℕ) (l : List ℕ). a ∷ l)
    (digits_mod (v / 256 % 256 ^ k) (mod-lt v (lit< tt)))
    (ap (bytes k) (digits_div (v / 256 % 256 ^ k) (mod-lt v (lit< tt))) ∙ bytes_mod k (v / 256)))

-- what was written is read
pub number_bytes : (k v : ℕ) (rest : List ℕ) → v < 256 ^ k → number k (bytes k v ++ rest) ≡ v
unfolding number bytes
number_bytes zero v rest h = omega arith
number_bytes (suc k) v rest h =
    let d : v / 256 < 256 ^ k = (div-lt_iff_lt-mul (lit< tt)).1 (rw pow-suc at h) in
    omega (arith, number_bytes k (v / 256) rest d, mod-add-div v 256)

-- the number read from k bytes is below 256 ^ k
pub data Bytes : List ℕ → Type 0 where
  none : Bytes []
  one : {b : ℕ} {l : List ℕ} → b < 256 → Bytes l → Bytes (b ∷ l)

pub number_lt : (k : ℕ) (l : List ℕ) → Bytes l → number k l < 256 ^ k
unfolding number
number_lt zero l h = lit< tt
number_lt (suc k) [] h = pow_some (suc k)
number_lt (suc k) (b ∷ l) (one hb hl) = rw pow-suc (omega (arith, number_lt k l hl))

-- what was read is written back
pub bytes_number : (k : ℕ) (l : List ℕ) → Bytes l → k ≤ length l → bytes k (number k l) ≡ take k l
unfolding number bytes
bytes_number zero l h n = refl
bytes_number (suc k) [] h n = absurd (not-suc-le-zero n)
bytes_number (suc k) (b ∷ l) (one hb hl) n =
    let e : b + 256 * number k l ≡ number k l * 256 + b = omega arith in
    rw e
    (ap₂ (λ (a : ℕ) (r : List ℕ). a ∷ r)
    (digits_mod (number k l) hb)
    (ap (bytes k) (digits_div (number k l) hb) ∙ bytes_number k l hl (le_of_suc-le-suc n)))

pub sets_append : (l : List ℕ) (i : ℕ) (xs ys : List ℕ) → sets l i (xs ++ ys) ≡ sets (sets l i xs) (i + length xs) ys
sets_append l i [] ys = rw add-zero
sets_append l i (x ∷ xs) ys = sets_append (set l i x) (suc i) xs ys ∙ ap (λ (n : ℕ). sets (sets (set l i x) (suc i) xs) n ys) (suc-add i (length xs) ∙ sym (add-suc i (length xs)))

-- a number of 8 bytes written as two of 4
pub sets8 : (l : List ℕ) (at v : ℕ) → sets (sets l at (bytes 4 (v % 4294967296))) (at + 4) (bytes 4 (v / 4294967296)) ≡ sets l at (bytes 8 v)
sets8 l at v = rw (bytes_mod 4 v, bytes_add 4 4 v, sets_append, bytes_length)

-- a number read from a list does not depend on what follows
pub number_append : (k : ℕ) (x y : List ℕ) → k ≤ length x → number k (x ++ y) ≡ number k x
unfolding number
number_append zero x y h = refl
number_append (suc k) [] y h = absurd (not-suc-le-zero h)
number_append (suc k) (b ∷ x) y h = rw (number_append k x y (le_of_suc-le-suc h))

-- a slice's elements are bytes
pub bytes_all : (l : List ℕ) → ((i : ℕ) → Fits w8 (get_or l i 0)) → Bytes l
bytes_all [] h = none
bytes_all (b ∷ l) h = one (h 0).fits (bytes_all l (λ i. h (suc i)))

pub bytes_drop : (k : ℕ) (l : List ℕ) → Bytes l → Bytes (drop k l)
bytes_drop zero l h = h
bytes_drop (suc k) [] h = none
bytes_drop (suc k) (b ∷ l) (one p h) = bytes_drop k l h

pub bytes_take : (k : ℕ) (l : List ℕ) → Bytes l → Bytes (take k l)
bytes_take zero l h = none
bytes_take (suc k) [] h = none
bytes_take (suc k) (b ∷ l) (one p h) = one p (bytes_take k l h)
