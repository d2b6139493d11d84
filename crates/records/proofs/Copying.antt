-- Bytes copied over the front of others, and the records in them. Assumes nothing.
use Rattle.std.proofs.Common.{◌≡◌, ℕ, suc, ◌+◌, ◌*◌, ◌<◌, ◌≤◌, List, ◌∷◌, ◌++◌, length, get_or, take, drop, set, sym, ap, ◌∙◌, add-one, arith, take-append-drop, length-take-le, drop-cons, take-suc}
use lib.Seq.{set_at, append_snoc}
use Rattle.regions.specs.Bytes.{read_regions}
use Rattle.regions.proofs.Records.{read_regions_append}

module _ (d d₀ s : List ℕ) (i : ℕ) (inv : d ≡ take i s ++ drop i d₀) where
  pub copy_more : i < length s → i < length d₀ → set d i (get_or s i 0) ≡ take (i + 1) s ++ drop (i + 1) d₀
  copy_more h k =
      let n : length (take i s) ≡ i = length-take-le i s (omega arith) in
      let e : d ≡ take i s ++ (get_or d₀ i 0 ∷ drop (suc i) d₀) = inv ∙ ap (λ (x : List ℕ). take i s ++ x) (drop-cons d₀ i 0 k) in
      rw (e, set_at (take i s) (get_or d₀ i 0) (drop (suc i) d₀) (get_or s i 0) i n, add-one, take-suc s i 0 h, append_snoc)

  pub copy_end : (m : ℕ) → i ≤ m → m ≤ i → d ≡ take m s ++ drop m d₀
  copy_end m h k =
      let e : i ≡ m = omega arith in
      rw (← e) inv

-- the records that were copied
pub copied_records : (d s : List ℕ) (n : ℕ) → 24 * n ≤ length s → read_regions n (take (24 * n) s ++ d) ≡ read_regions n s
copied_records d s n h =
    let m : 24 * n ≤ length (take (24 * n) s) = omega (arith, length-take-le (24 * n) s h) in
    read_regions_append n (take (24 * n) s) d m ∙ sym (read_regions_append n (take (24 * n) s) (drop (24 * n) s) m) ∙ ap (read_regions n) (take-append-drop (24 * n) s)
