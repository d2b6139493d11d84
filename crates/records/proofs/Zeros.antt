-- Zero bytes, one at a time and as many as make a number. Assumes nothing.
use Rattle.std.proofs.Common.{◌≡◌, ℕ, zero, suc, ◌+◌, ◌-◌, ◌*◌, ◌<◌, ◌≤◌, Bool, true, false, ◌&&◌, eqb, List, [], ◌∷◌, ◌++◌, length, take, drop, replicate, sym, refl, ap, ◌∙◌, ap₂, le_of_suc-le-suc, not-suc-le-zero, arith, length-drop, take-append-drop, drop_of_length-le, drop-drop, take-add, eq-eqb, ne_eqb, eqb-true}
use Rattle.std.proofs.lemmas.List.{drop-replicate}
use mathlib.Core.Bool.{and-true, and-false}
use lib.Bits.{bit_or, or_add_and, and_le_l, and_le_r}
use borrow.Author.Tests.{eqb-false}
use Rattle.address.proofs.Tests.{both}
use Rattle.regions.specs.Bytes.{number}
use Rattle.records.specs.Checks.{all_zeros}

-- a sum is 0 where both parts are
sum_zero : (b m : ℕ) → eqb (b + 256 * m) 0 ≡ (eqb b 0 && eqb m 0)
sum_zero b m = go (eqb b 0) refl
  where
    go : (t : Bool) → eqb b 0 ≡ t → eqb (b + 256 * m) 0 ≡ (t && eqb m 0)
    go true e = rest (eqb m 0) refl
      where
        rest : (u : Bool) → eqb m 0 ≡ u → eqb (b + 256 * m) 0 ≡ u
        rest true f = eq-eqb (b + 256 * m) 0 (omega (arith, eqb-true b 0 e, eqb-true m 0 f))
        rest false f = ne_eqb (b + 256 * m) 0 (λ z. eqb-false m 0 f (omega arith))
    go false e = ne_eqb (b + 256 * m) 0 (λ z. eqb-false b 0 e (omega arith))

-- the first k bytes are 0 exactly when the number that they spell is
zeros_number : (k : ℕ) (l : List ℕ) → k ≤ length l → all_zeros l ≡ (eqb (number k l) 0 && all_zeros (drop k l))
unfolding all_zeros number
zeros_number zero l h = refl
zeros_number (suc k) [] h = absurd (not-suc-le-zero h)
zeros_number (suc k) (b ∷ l) h = rw (sum_zero b (number k l), zeros_number k l (le_of_suc-le-suc h)) (three (eqb b 0) (eqb (number k l) 0) (all_zeros (drop k l)))
  where
    three : (x y z : Bool) → x && (y && z) ≡ (x && y) && z
    three true y z = refl
    three false y z = refl

module _ (l : List ℕ) (at i : ℕ) (inv : all_zeros (drop at l) ≡ all_zeros (drop i l)) where
  step8 : 8 ≤ length l - i → all_zeros (drop at l) ≡ (eqb (number 8 (drop i l)) 0 && all_zeros (drop (i + 8) l))
  step8 h =
      let n : 8 ≤ length (drop i l) = simp length-drop (omega arith) in
      inv ∙ zeros_number 8 (drop i l) n ∙ rw drop-drop

  pub zeros_hit8 : (v : ℕ) → 8 ≤ length l - i → v ≡ number 8 (drop i l) → (v ≡ 0 → ⊥) → false ≡ all_zeros (drop at l)
  zeros_hit8 v h e z = rw (step8 h, ← e, ne_eqb v 0 z)

  pub zeros_again8 : (v : ℕ) → 8 ≤ length l - i → v ≡ number 8 (drop i l) → v ≡ 0 → all_zeros (drop at l) ≡ all_zeros (drop (i + 8) l)
  zeros_again8 v h e z = rw (step8 h, ← e, eq-eqb v 0 z)

  pub zeros_rest : (b : Bool) → b ≡ all_zeros (drop i l) → b ≡ all_zeros (drop at l)
  zeros_rest b e = e ∙ sym inv

-- ---- words joined

-- joined words are 0 where both are
or_none : (a b : ℕ) → eqb (bit_or a b) 0 ≡ (eqb a 0 && eqb b 0)
or_none a b = go (eqb a 0) refl
  where
    go : (t : Bool) → eqb a 0 ≡ t → eqb (bit_or a b) 0 ≡ (t && eqb b 0)
    go true e = rest (eqb b 0) refl
      where
        rest : (u : Bool) → eqb b 0 ≡ u → eqb (bit_or a b) 0 ≡ u
        rest true f = eq-eqb (bit_or a b) 0 (omega (arith, eqb-true a 0 e, eqb-true b 0 f, or_add_and a b))
        rest false f = ne_eqb (bit_or a b) 0 (λ z. eqb-false b 0 f (omega (arith, or_add_and a b, and_le_l a b)))
    go false e = ne_eqb (bit_or a b) 0 (λ z. eqb-false a 0 e (omega (arith, or_add_and a b, and_le_r a b)))

zeros_append : (x y : List ℕ) → all_zeros (x ++ y) ≡ (all_zeros x && all_zeros y)
unfolding all_zeros
zeros_append [] y = refl
zeros_append (b ∷ x) y = rw (zeros_append x y) (go (eqb b 0))
  where
    go : (t : Bool) → t && (all_zeros x && all_zeros y) ≡ (t && all_zeros x) && all_zeros y
    go true = refl
    go false = refl

-- a number is 0 where its bytes are
number_zeros : (k : ℕ) (l : List ℕ) → eqb (number k l) 0 ≡ all_zeros (take k l)
unfolding all_zeros number
number_zeros zero l = refl
number_zeros (suc k) [] = refl
number_zeros (suc k) (b ∷ l) = sum_zero b (number k l) ∙ rw (number_zeros k l)

module _ (l : List ℕ) where
  -- v is 0 exactly when the m bytes from i on are
  abbrev Spells : ℕ → ℕ → ℕ → Type 0
  Spells m i v = eqb v 0 ≡ all_zeros (take m (drop i l))

  word : (i v : ℕ) → v ≡ number 8 (drop i l) → Spells 8 i v
  word i v e = rw e (number_zeros 8 (drop i l))

  joined : (m k i j n a b : ℕ) → i + m ≡ j → m + k ≡ n → Spells m i a → Spells k j b → Spells n i (bit_or a b)
  joined m k i j n a b e f p q =
      let c : drop m (drop i l) ≡ drop j l = drop-drop m i l ∙ rw e in
      rw (← f, take-add m k (drop i l), c, zeros_append, ← p, ← q) (or_none a b)

  -- four of one length, one after the other
  four : (m i j k n a b c d : ℕ) → i + 2 * m ≡ j → i + 3 * m ≡ k → 4 * m ≡ n → Spells m i a → Spells m (i + m) b → Spells m j c → Spells m k d
      → Spells n i (bit_or (bit_or (bit_or a b) c) d)
  four m i j k n a b c d ej ek en p q r s =
      joined (3 * m) m i k n (bit_or (bit_or a b) c) d ek (omega arith)
      (joined (2 * m) m i j (3 * m) (bit_or a b) c ej (omega arith) (joined m m i (i + m) (2 * m) a b refl (omega arith) p q) r)
      s

  pub four_words : (i a b c d : ℕ) → a ≡ number 8 (drop i l) → b ≡ number 8 (drop (i + 8) l) → c ≡ number 8 (drop (i + 16) l) → d ≡ number 8 (drop (i + 24) l)
      → eqb (bit_or (bit_or (bit_or a b) c) d) 0 ≡ all_zeros (take 32 (drop i l))
  four_words i a b c d p q r s = four 8 i (i + 16) (i + 24) 32 a b c d refl refl refl (word i a p) (word (i + 8) b q) (word (i + 16) c r) (word (i + 24) d s)

  pub four_32 : (i a b c d : ℕ) → eqb a 0 ≡ all_zeros (take 32 (drop i l)) → eqb b 0 ≡ all_zeros (take 32 (drop (i + 32) l)) → eqb c 0 ≡ all_zeros (take 32 (drop (i + 64) l))
      → eqb d 0 ≡ all_zeros (take 32 (drop (i + 96) l)) → eqb (bit_or (bit_or (bit_or a b) c) d) 0 ≡ all_zeros (take 128 (drop i l))
  four_32 i a b c d p q r s = four 32 i (i + 64) (i + 96) 128 a b c d refl refl refl p q r s

  -- those up to i, and those from there on
  cut : (at i : ℕ) → at ≤ i → all_zeros (drop at l) ≡ (all_zeros (take (i - at) (drop at l)) && all_zeros (drop i l))
  cut at i h =
      let e : at + (i - at) ≡ i = omega arith in
      let d : drop (i - at) (drop at l) ≡ drop i l = drop-drop (i - at) at l ∙ rw e in
      let f : take (i - at) (drop at l) ++ drop i l ≡ drop at l = rw (← d) (take-append-drop (i - at) (drop at l)) in
      rw (← zeros_append, f)

  pub none_yet : (n : ℕ) → n ≡ length l → all_zeros (drop n l) ≡ true
  unfolding all_zeros
  none_yet n e = ap all_zeros (drop_of_length-le l {i = n} (omega (arith, e)))

  -- m bytes a turn, those before i
  module _ (m at i : ℕ) (inv : all_zeros (drop i l) ≡ true) (room : m ≤ i - at) (v : ℕ) (e : eqb v 0 ≡ all_zeros (take m (drop (i - m) l))) where
    behind : at ≤ i → all_zeros (drop (i - m) l) ≡ eqb v 0
    behind low =
        let n : i - (i - m) ≡ m = omega arith in
        cut (i - m) i (omega arith) ∙ rw (n, ← e, inv, and-true)

    pub zero_turn : at ≤ i → v ≡ 0 → all_zeros (drop (i - m) l) ≡ true
    zero_turn low z = behind low ∙ eq-eqb v 0 z

    pub turn_hit : at ≤ i → (v ≡ 0 → ⊥) → false ≡ all_zeros (drop at l)
    turn_hit low z = sym (cut at (i - m) (omega arith) ∙ rw (behind low, ne_eqb v 0 z, and-false))

  -- fewer than m are left: they are among the first m
  pub zero_first : (m at i : ℕ) → all_zeros (drop i l) ≡ true → i - at < m → (v : ℕ) → eqb v 0 ≡ all_zeros (take m (drop at l)) → eqb v 0 ≡ all_zeros (drop at l)
  zero_first m at i inv few v e =
      let n : at + m - at ≡ m = omega arith in
      let r : all_zeros (drop (at + m) l) ≡ true = (both (all_zeros (take (at + m - i) (drop i l))) (all_zeros (drop (at + m) l)) (sym (cut i (at + m) (omega arith)) ∙ inv)).1 in
      sym (cut at (at + m) (omega arith) ∙ rw (n, ← e, r, and-true))

-- zeros are zeros
pub zeros_replicate : (l : List ℕ) → all_zeros l ≡ true → l ≡ replicate (length l) 0
unfolding all_zeros
zeros_replicate [] h = refl
zeros_replicate (b ∷ l) h =
    let p = both (eqb b 0) (all_zeros l) h in
    ap₂ (λ (z : ℕ) (zs : List ℕ). z ∷ zs) (eqb-true b 0 p.0) (zeros_replicate l p.1)

pub replicate_zeros : (n : ℕ) → all_zeros (replicate n 0) ≡ true
unfolding all_zeros
replicate_zeros zero = refl
replicate_zeros (suc n) = replicate_zeros n

pub drop_zeros : (k n : ℕ) → drop k (replicate {A = ℕ} n 0) ≡ replicate (n - k) 0
drop_zeros k n = drop-replicate k n 0
