-- Reading and spelling regions are inverse; a region that is written leaves those before it. Assumes nothing.
use Prim.Native.Nat.{ℕ, zero, suc, ◌+◌, ◌-◌, ◌*◌, ◌^◌, ◌≤◌, ◌<◌}
use mathlib.Core.Path.{◌≡◌, refl, sym, ap, ap₂, ◌∙◌}
use mathlib.Core.List.{List, [], ◌∷◌, ◌++◌, append_assoc}
use native.Mathlib.Nat.{add_assoc, mul-suc}
use native.Mathlib.Numerals.{add-one}
use native.Mathlib.Omega.{arith}
use lib.ListN.{length, take, drop, length-append, length-drop, take-append-drop}
use lib.Seq.{sets, sets-eq, drop-drop, drop-append-le, drop_at, take-add, length-take-le}
use Rattle.regions.specs.declared.Region.{Region}
use Rattle.regions.specs.Bytes.{bytes, read_region, region_bytes, read_regions, regions_bytes}
use Rattle.regions.proofs.Items.{items_rest, items_end}
use Rattle.regions.proofs.Numbers.{Bytes, bytes_number, number_bytes, number_append, bytes_length, bytes_drop, sets_append}

-- a record written field by field
pub sets_region : (l : List ℕ) (at : ℕ) (r : Region)
    → sets (sets (sets (sets l at (bytes 8 r.base.0)) (at + 8) (bytes 8 r.size.0)) (at + 16) (bytes 4 r.tag.flags)) (at + 20) (bytes 4 r.tag.node) ≡ sets l at (region_bytes r)
unfolding region_bytes
sets_region l at r = simp (sets_append, bytes_length, add_assoc)

-- each field fits its place
pub record Fit (r : Region) : Type 0 where
  pub base : r.base.0 < 2 ^ 64
  pub size : r.size.0 < 2 ^ 64
  pub flags : r.tag.flags < 2 ^ 32
  pub node : r.tag.node < 2 ^ 32

pub region_bytes_length : (r : Region) → length (region_bytes r) ≡ 24
unfolding region_bytes
region_bytes_length r = simp (length-append, bytes_length)

read_region_append : (x y : List ℕ) → 24 ≤ length x → read_region (x ++ y) ≡ read_region x
unfolding read_region
read_region_append x y h =
    let a : 8 ≤ length x = omega arith in
    let b : 16 ≤ length x = omega arith in
    let c : 20 ≤ length x = omega arith in
    let d : 8 ≤ length (drop 8 x) = simp length-drop (omega arith) in
    let e : 4 ≤ length (drop 16 x) = simp length-drop (omega arith) in
    let f : 4 ≤ length (drop 20 x) = simp length-drop (omega arith) in
    rw (
      drop-append-le 8 x y a,
      drop-append-le 16 x y b,
      drop-append-le 20 x y c,
      number_append 8 x y a,
      number_append 8 (drop 8 x) y d,
      number_append 4 (drop 16 x) y e,
      number_append 4 (drop 20 x) y f,
    )

-- the fields one after another
drop_bytes : (k v : ℕ) (l : List ℕ) → drop k (bytes k v ++ l) ≡ l
drop_bytes k v l = drop_at (bytes k v) l k (bytes_length k v)

read_region_bytes : (r : Region) (l : List ℕ) → Fit r → read_region (region_bytes r ++ l) ≡ r
unfolding read_region region_bytes
read_region_bytes r l f =
    let b = r.base.0 in
    let s = r.size.0 in
    let t : List ℕ = bytes 4 r.tag.flags ++ (bytes 4 r.tag.node ++ l) in
    let e : (bytes 8 b ++ (bytes 8 s ++ (bytes 4 r.tag.flags ++ bytes 4 r.tag.node))) ++ l ≡ bytes 8 b ++ (bytes 8 s ++ t) = simp append_assoc in
    let d8 : drop 8 (bytes 8 b ++ (bytes 8 s ++ t)) ≡ bytes 8 s ++ t = drop_bytes 8 b (bytes 8 s ++ t) in
    let d16 : drop 16 (bytes 8 b ++ (bytes 8 s ++ t)) ≡ t = sym (drop-drop 8 8 (bytes 8 b ++ (bytes 8 s ++ t))) ∙ ap (drop 8) d8 ∙ drop_bytes 8 s t in
    let d20 : drop 20 (bytes 8 b ++ (bytes 8 s ++ t)) ≡ bytes 4 r.tag.node ++ l =
    sym (drop-drop 4 16 (bytes 8 b ++ (bytes 8 s ++ t))) ∙ ap (drop 4) d16 ∙ drop_bytes 4 r.tag.flags (bytes 4 r.tag.node ++ l) in
    rw (
      e,
      d8,
      d16,
      d20,
      number_bytes 8 b (bytes 8 s ++ t) f.base,
      number_bytes 8 s t f.size,
      number_bytes 4 r.tag.flags (bytes 4 r.tag.node ++ l) f.flags,
      number_bytes 4 r.tag.node l f.node,
    )

-- ---- a run of records

-- what follows does not count
pub read_regions_append : (n : ℕ) (x y : List ℕ) → 24 * n ≤ length x → read_regions n (x ++ y) ≡ read_regions n x
unfolding read_regions
read_regions_append zero x y h = refl
read_regions_append (suc n) x y h =
    let a : 24 ≤ length x = omega (arith, mul-suc 24 n) in
    let b : 24 * n ≤ length (drop 24 x) = simp length-drop (omega (arith, mul-suc 24 n)) in
    ap₂ (λ (r : Region) (rs : List Region). r ∷ rs) (read_region_append x y a) (ap (read_regions n) (drop-append-le 24 x y a) ∙ read_regions_append n (drop 24 x) y b)

-- one record more, at the end
snoc : (n : ℕ) (l : List ℕ) → read_regions (suc n) l ≡ read_regions n l ++ (read_region (drop (24 * n) l) ∷ [])
unfolding read_regions
snoc zero l = refl
snoc (suc n) l =
    let e : 24 + 24 * n ≡ 24 * suc n = omega (arith, mul-suc 24 n) in
    ap (λ (rs : List Region). read_region l ∷ rs) (rw (drop-drop (24 * n) 24 l, e) at (snoc n (drop 24 l)))

pub read_regions_snoc : (n : ℕ) (l : List ℕ) → read_regions (n + 1) l ≡ read_regions n l ++ (read_region (drop (24 * n) l) ∷ [])
read_regions_snoc n l = rw add-one (snoc n l)

pub read_regions_length : (n : ℕ) (l : List ℕ) → length (read_regions n l) ≡ n
unfolding read_regions
read_regions_length zero l = refl
read_regions_length (suc n) l = ap suc (read_regions_length n (drop 24 l))

module _ (l : List ℕ) (i : ℕ) (r : Region) (h : i + 24 ≤ length l) where
  put_eq : sets l i (region_bytes r) ≡ take i l ++ region_bytes r ++ drop (i + 24) l
  put_eq = sets-eq (region_bytes r) l i (rw region_bytes_length h) ∙ rw region_bytes_length

  front : length (take i l) ≡ i
  front = length-take-le i l (omega arith)

  -- the record that was written
  pub put_here : Fit r → read_region (drop i (sets l i (region_bytes r))) ≡ r
  put_here f = rw (put_eq, append_assoc, drop_at (take i l) (region_bytes r ++ drop (i + 24) l) i front) (read_region_bytes r (drop (i + 24) l) f)

  -- the records before
  pub put_before : (n : ℕ) → 24 * n ≤ i → read_regions n (sets l i (region_bytes r)) ≡ read_regions n l
  put_before n k =
      let k' : 24 * n ≤ length (take i l) = omega (arith, front) in
      rw (put_eq, append_assoc) (read_regions_append n (take i l) (region_bytes r ++ drop (i + 24) l) k')
      ∙ sym (read_regions_append n (take i l) (drop i l) k')
      ∙ ap (read_regions n) (take-append-drop i l)

-- ---- spelled again

-- a record read and written again
region_bytes_read : (l : List ℕ) → Bytes l → 24 ≤ length l → region_bytes (read_region l) ≡ take 24 l
unfolding region_bytes read_region
region_bytes_read l h n =
    let d : 8 ≤ length (drop 8 l) = simp length-drop (omega arith) in
    let e : 4 ≤ length (drop 16 l) = simp length-drop (omega arith) in
    let f : 4 ≤ length (drop 20 l) = simp length-drop (omega arith) in
    let a : take 24 l ≡ take 8 l ++ take 16 (drop 8 l) = take-add 8 16 l in
    let b : take 16 (drop 8 l) ≡ take 8 (drop 8 l) ++ take 8 (drop 16 l) = take-add 8 8 (drop 8 l) ∙ rw drop-drop in
    let c : take 8 (drop 16 l) ≡ take 4 (drop 16 l) ++ take 4 (drop 20 l) = take-add 4 4 (drop 16 l) ∙ rw drop-drop in
    rw (
      bytes_number 8 l h (omega arith),
      bytes_number 8 (drop 8 l) (bytes_drop 8 l h) d,
      bytes_number 4 (drop 16 l) (bytes_drop 16 l h) e,
      bytes_number 4 (drop 20 l) (bytes_drop 20 l h) f,
      a,
      b,
      c,
    )

pub regions_bytes_read : (n : ℕ) (l : List ℕ) → Bytes l → 24 * n ≤ length l → regions_bytes (read_regions n l) ≡ take (24 * n) l
unfolding regions_bytes read_regions
regions_bytes_read zero l h k = refl
regions_bytes_read (suc n) l h k =
    let a : 24 ≤ length l = omega (arith, mul-suc 24 n) in
    let b : 24 * n ≤ length (drop 24 l) = simp length-drop (omega (arith, mul-suc 24 n)) in
    let e : 24 * suc n ≡ 24 + 24 * n = omega (arith, mul-suc 24 n) in
    ap₂ (λ (x y : List ℕ). x ++ y) (region_bytes_read l h a) (regions_bytes_read n (drop 24 l) (bytes_drop 24 l h) b)
    ∙ sym (ap (λ (m : ℕ). take m l) e ∙ take-add 24 (24 * n) l)

-- every region of the list has fields that fit their places
pub data AllFit : List Region → Type 0 where
  none : AllFit []
  more : {r : Region} {rs : List Region} → Fit r → AllFit rs → AllFit (r ∷ rs)

pub regions_bytes_length : (rs : List Region) → length (regions_bytes rs) ≡ 24 * length rs
unfolding regions_bytes
regions_bytes_length [] = refl
regions_bytes_length (r ∷ rs) =
    length-append (region_bytes r) (regions_bytes rs) ∙ omega (arith, region_bytes_length r, regions_bytes_length rs, mul-suc 24 (length rs))

pub read_regions_bytes : (rs : List Region) (l : List ℕ) → AllFit rs → read_regions (length rs) (regions_bytes rs ++ l) ≡ rs
unfolding read_regions regions_bytes
read_regions_bytes [] l none = refl
read_regions_bytes (r ∷ rs) l (more f fs) =
    ap₂ (λ (x : Region) (xs : List Region). x ∷ xs)
    (ap read_region (append_assoc (region_bytes r) (regions_bytes rs) l) ∙ read_region_bytes r (regions_bytes rs ++ l) f)
    (ap (λ (x : List ℕ). read_regions (length rs) (drop 24 x)) (append_assoc (region_bytes r) (regions_bytes rs) l)
    ∙ ap (read_regions (length rs)) (drop_at (region_bytes r) (regions_bytes rs ++ l) 24 (region_bytes_length r))
    ∙ read_regions_bytes rs l fs)

-- ---- what is left of a run of records from record i on

pub read_regions_rest : (i n : ℕ) (l : List ℕ) → i < n
    → read_regions (n - i) (drop (24 * i) l) ≡ read_region (drop (24 * i) l) ∷ read_regions (n - (i + 1)) (drop (24 * (i + 1)) l)
unfolding read_regions
read_regions_rest i n l h = items_rest 24 read_region read_regions (λ x. refl) (λ m x. refl) i n l h

pub read_regions_end : (i n : ℕ) (l : List ℕ) → n ≤ i → read_regions (n - i) l ≡ []
unfolding read_regions
read_regions_end i n l h = items_end 24 read_region read_regions (λ x. refl) (λ m x. refl) i n l h
