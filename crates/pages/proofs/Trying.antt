-- Where the larger of two pieces around a page fits, so does the smaller: the largest that fits is found from any order, up or down. Assumes nothing.
use Prim.Native.Nat.{ℕ, zero, suc, ◌+◌, ◌*◌, ◌^◌, ◌≤◌, ◌<◌}
use mathlib.Core.Path.{◌≡◌, sym, ◌∙◌}
use mathlib.Core.Bool.{Bool, true, false, not, ◌&&◌}
use mathlib.Core.Option.{some}
use mathlib.Core.Logic.{◌⊎◌, inl, inr}
use native.Mathlib.Omega.{arith}
use native.Mathlib.Nat.{pow-suc, mod-one}
use lib.Dec.{leb}
use lib.Pow.{pow_pos}
use borrow.Author.Tests.{le-leb, leb-true, not-false}
use Rattle.address.specs.Numbers.{down, power_of_two}
use Rattle.address.proofs.Tests.{both, and, no, clash, le_or_lt}
use Rattle.address.proofs.Rounding.{down_le, down_multiple, down_most, down_near, next_multiple}
use Rattle.address.proofs.Powers.{power_of}
use Rattle.pages.specs.Steps.{within, Sized, NoneAbove, Around}
use Rattle.pages.proofs.Dyadic.{down_same, multiple_below, multiple_next}
use Rattle.pages.proofs.Orders.{tested, largest_order}

-- ---- smaller pieces

module _ (f l p : ℕ) where
  smaller : (o : ℕ) → tested (within f l) p (suc o) ≡ true → tested (within f l) p o ≡ true
  smaller o e =
      let d : ℕ = down p (2 ^ suc o) in
      let c = both (leb f d) (leb (d + 2 ^ suc o) l) e in
      let m = down_multiple p (2 ^ suc o) (pow_pos (suc o)) in
      let i = down_most p (2 ^ o) (pow_pos o) d (down_le p (2 ^ suc o) (pow_pos (suc o))) (multiple_below d o (suc o) (omega arith) m) in
      let n = multiple_below (d + 2 ^ suc o) o (suc o) (omega arith) (multiple_next d (2 ^ suc o) m) in
      let j = next_multiple p (2 ^ o) (pow_pos o) (d + 2 ^ suc o) (down_near p (2 ^ suc o) (pow_pos (suc o))) n in
      and (le-leb f (down p (2 ^ o)) (omega (arith, leb-true f d c.0))) (le-leb (down p (2 ^ o) + 2 ^ o) l (omega (arith, leb-true (d + 2 ^ suc o) l c.1)))

  -- where one does not fit, no larger one does
  larger : (o : ℕ) → tested (within f l) p (suc o) ≡ false → (k : ℕ) → o < k → tested (within f l) p k ≡ false
  larger o e zero h = absurd (omega arith)
  larger o e (suc k) h = go (le_or_lt k o) (larger o e k)
    where
      go : (k ≤ o) ⊎ (o < k) → (o < k → tested (within f l) p k ≡ false) → tested (within f l) p (suc k) ≡ false
      go (inl i) ih = let d : k ≡ o = omega arith in rw d e
      go (inr i) ih = no (tested (within f l) p (suc k)) (λ x. clash (tested (within f l) p k) (smaller k x) (ih i))

-- ---- up

module _ {o z : ℕ} (s : Sized (record { order = o; size = z })) where
  double : 2 * z ≡ 2 ^ suc o
  double = omega (arith, s.size, pow-suc 2 o)

  pub size_power : power_of_two z ≡ true
  size_power = rw s.size (power_of 64 o (omega (arith, s.few)))

  module _ (h : o < 10) where
    pub double_power : power_of_two (2 * z) ≡ true
    double_power = rw double (power_of 64 (suc o) (omega arith))

  pub raise_stays : (f l p : ℕ) (b : Bool) → b ≡ leb f (down p (2 * z)) && leb (down p (2 * z) + 2 * z) l → b ≡ false → NoneAbove f l p o
  raise_stays f l p b e n =
      let g : tested (within f l) p (suc o) ≡ false = rw double at (sym e ∙ n) in
      λ k h m. larger f l p o g k h

  -- ---- down

  module _ (f l p : ℕ) (n : NoneAbove f l p o) {a : ℕ} (is : a ≡ down p z) where
    around : tested (within f l) p o ≡ true → Around f l p (record { start = a; past = a + z; scale = record { order = o; size = z } })
    around g =
        record {
          sized = s;
          order = largest_order (within f l) p (some o) (g, (omega (arith, s.few), λ k x y. n k y x));
          start = rw s.size at is;
          past = rw s.size;
        }

    -- it fits
    pub piece_is : (b : Bool) → b ≡ leb f (down p z) && leb (down p z + z) l → not b ≡ false → Around f l p (record { start = a; past = a + z; scale = record { order = o; size = z } })
    piece_is b e h = let g : b ≡ tested (within f l) p o = rw s.size at e in around (sym g ∙ not-false b h)

    -- a page by itself does
    pub page_is : o ≤ 0 → f ≤ p → p < l → Around f l p (record { start = a; past = a + z; scale = record { order = o; size = z } })
    page_is i j k =
        let x : o ≡ 0 = omega arith in
        let d : down p (2 ^ 0) ≡ p = down_same p (2 ^ 0) (mod-one p) in
        let g : tested (within f l) p 0 ≡ true = rw d (and (le-leb f p j) (le-leb (p + 2 ^ 0) l (omega arith))) in
        around (rw x g)
