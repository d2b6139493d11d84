-- Records put in the place of others: the rest is moved, and the table spells the new list. Assumes nothing.
use Prim.Native.Nat.{ℕ, ◌+◌, ◌*◌, ◌-◌, ◌/◌, ◌≤◌, ◌<◌}
use mathlib.Core.Path.{◌≡◌, refl, sym, ap, ap₂, ◌∙◌}
use mathlib.Core.Bool.{true}
use mathlib.Core.List.{List, [], ◌∷◌, ◌++◌, append_assoc, append-nil}
use native.Mathlib.Omega.{arith}
use native.Mathlib.Nat.{sub-zero}
use lib.ListN.{length, take, drop, replicate, length-append, length-drop, length-replicate, replicate-append-replicate, take-append-drop, drop_of_length-le}
use lib.Seq.{sets, sets-eq, take_at, drop_at, drop-drop, length-take-le, length-sets}
use Rattle.std.proofs.lemmas.List.{drop-replicate, take_rest}
use Rattle.regions.specs.declared.Region.{Region}
use Rattle.regions.specs.Bytes.{read_region, read_regions, region_bytes, regions_bytes, table_bytes}
use Rattle.regions.proofs.Numbers.{Bytes, bytes_drop, sets_append}
use Rattle.regions.proofs.Records.{Fit, region_bytes_length, put_here, regions_bytes_read, read_regions_length}
use Rattle.records.specs.Checks.{all_zeros}
use Rattle.records.specs.Steps.{put}
use Rattle.records.proofs.Zeros.{zeros_replicate}
use Rattle.records.proofs.Placing.{take_read, drop_read}
use Rattle.records.proofs.Copying.{copied_records}
use Rattle.moves.proofs.Moving.{take_sets}

-- ---- records spelled, and their parts

regions_append : (xs ys : List Region) → regions_bytes (xs ++ ys) ≡ regions_bytes xs ++ regions_bytes ys
unfolding regions_bytes
regions_append [] ys = refl
regions_append (r ∷ xs) ys = rw (regions_append xs ys, append_assoc)

-- ---- the rest moved

sets_same : (m i : ℕ) (t : List ℕ) → i + m ≤ length t → sets t i (take m (drop i t)) ≡ t
sets_same m i t h =
    let n : length (take m (drop i t)) ≡ m = length-take-le m (drop i t) (simp length-drop (omega arith)) in
    let k : i + length (take m (drop i t)) ≤ length t = rw n h in
    sets-eq (take m (drop i t)) t i k ∙ rw (n, append_assoc, ← drop-drop, take-append-drop, take-append-drop)

sets_zeros : (t : List ℕ) (left m : ℕ) → left + m ≤ length t → sets t left (replicate m 0) ≡ take left t ++ (replicate m 0 ++ drop m (drop left t))
sets_zeros t left m h =
    let n : length (replicate {A = ℕ} m 0) ≡ m = length-replicate m 0 in
    let k : left + length (replicate {A = ℕ} m 0) ≤ length t = omega arith in
    sets-eq (replicate m 0) t left k ∙ rw (n, append_assoc, drop-drop)

sets_two : (t t' c u : List ℕ) (i j : ℕ) → t' ≡ sets t i c → i + length c ≡ j → sets t' j u ≡ sets t i (c ++ u)
sets_two t t' c u i j e f = rw (e, ← f) (sym (sets_append t i c u))

module _ (t : List ℕ) (count stop new : ℕ) (h : stop ≤ count) (r : 24 * count ≤ length t) where
  none : stop ≤ new → replicate {A = ℕ} (24 * (stop - new)) 0 ≡ []
  none l = let e : 24 * (stop - new) ≡ 0 = omega arith in rw e

  pub shift_none : stop ≡ new → t ≡ sets t (24 * new) (take (24 * (count - stop)) (drop (24 * stop) t) ++ replicate (24 * (stop - new)) 0)
  shift_none e = rw (none (omega arith), append-nil, ← e) (sym (sets_same (24 * (count - stop)) (24 * stop) t (omega arith)))

  pub shift_up : (t' : List ℕ) → stop < new → t' ≡ sets t (24 * (stop + (new - stop))) (take (24 * (count - stop)) (drop (24 * stop) t))
      → t' ≡ sets t (24 * new) (take (24 * (count - stop)) (drop (24 * stop) t) ++ replicate (24 * (stop - new)) 0)
  shift_up t' l e = let f : stop + (new - stop) ≡ new = omega arith in rw (none (omega arith), append-nil) (rw f at e)

  pub shift_down : (t' x : List ℕ) (left end : ℕ) → new ≤ stop → left ≡ 24 * (count - (stop - new)) → end ≡ 24 * count
      → t' ≡ sets t (24 * (stop - (stop - new))) (take (24 * (count - stop)) (drop (24 * stop) t))
      → x ≡ take 0 (take (end - left) (drop left t')) ++ replicate (length (take (end - left) (drop left t')) - 0) 0
      → take left t' ++ (x ++ drop (end - left) (drop left t')) ≡ sets t (24 * new) (take (24 * (count - stop)) (drop (24 * stop) t) ++ replicate (24 * (stop - new)) 0)
  shift_down t' x left end l el ee e q =
      let c : List ℕ = take (24 * (count - stop)) (drop (24 * stop) t) in
      let f : stop - (stop - new) ≡ new = omega arith in
      let n : length c ≡ 24 * (count - stop) = length-take-le (24 * (count - stop)) (drop (24 * stop) t) (simp length-drop (omega arith)) in
      let e' : t' ≡ sets t (24 * new) c = rw f at e in
      let len : length t' ≡ length t = ap (length {A = ℕ}) e' ∙ length-sets t (24 * new) c in
      let m : 24 * (stop - new) ≡ end - left = omega arith in
      let p : length (take (end - left) (drop left t')) - 0 ≡ end - left = sub-zero _ ∙ length-take-le (end - left) (drop left t') (simp length-drop (omega arith)) in
      let o : 24 * new + length c ≡ left = omega arith in
      let z : x ≡ replicate (end - left) 0 = q ∙ ap (λ (y : ℕ). replicate y 0) p in
      ap (λ (y : List ℕ). take left t' ++ (y ++ drop (end - left) (drop left t'))) z ∙ sym (sets_zeros t' left (end - left) (omega arith))
      ∙ sets_two t t' c (replicate (end - left) 0) (24 * new) left e' o ∙ ap (λ (y : ℕ). sets t (24 * new) (c ++ replicate y 0)) (sym m)

-- ---- and the new records put before it

-- bytes that were copied into others are spelled by their records
pub copied_spelled : (n : ℕ) (src d p q : List ℕ) → 24 * n ≤ length src → Bytes (p ++ ((take (24 * n) src ++ d) ++ q)) → regions_bytes (read_regions n src) ≡ take (24 * n) src
copied_spelled n src d p q h b =
    let k : length (take (24 * n) src) ≡ 24 * n = length-take-le (24 * n) src h in
    let e : drop (length p) (p ++ ((take (24 * n) src ++ d) ++ q)) ≡ take (24 * n) src ++ (d ++ q) = drop_at p _ (length p) refl ∙ append_assoc (take (24 * n) src) d q in
    let c : Bytes (take (24 * n) src ++ (d ++ q)) = rw e at (bytes_drop (length p) _ b) in
    let l : 24 * n ≤ length (take (24 * n) src ++ (d ++ q)) = omega (arith, length-append (take (24 * n) src) (d ++ q)) in
    ap regions_bytes (sym (copied_records (d ++ q) src n h)) ∙ regions_bytes_read n _ c l ∙ take_at (take (24 * n) src) (d ++ q) (24 * n) k

module _ (t src : List ℕ) (count first stop n : ℕ) (a : first ≤ stop) (b : stop ≤ count) (r : 24 * count ≤ length t) (s : 24 * (count - stop + (first + n)) ≤ length t)
    (w : 24 * n ≤ length src) (d : length t ≡ 24 * (length t / 24)) (z : all_zeros (drop (24 * count) t) ≡ true) (bt : Bytes t)
    (bs : regions_bytes (read_regions n src) ≡ take (24 * n) src) where
  tail : List ℕ
  tail = take (24 * (count - stop)) (drop (24 * stop) t)

  tail_length : length tail ≡ 24 * (count - stop)
  unfolding tail
  tail_length = length-take-le (24 * (count - stop)) (drop (24 * stop) t) (simp length-drop (omega arith))

  clear : (i : ℕ) → 24 * count ≤ i → drop i t ≡ replicate (length t - i) 0
  clear i h =
      let e : 24 * count + (i - 24 * count) ≡ i = omega arith in
      let f : length (drop (24 * count) t) - (i - 24 * count) ≡ length t - i = simp length-drop (omega arith) in
      ap (λ (y : ℕ). drop y t) (sym e) ∙ sym (drop-drop (i - 24 * count) (24 * count) t)
      ∙ ap (drop (i - 24 * count)) (zeros_replicate (drop (24 * count) t) z) ∙ drop-replicate (i - 24 * count) (length (drop (24 * count) t)) 0 ∙ ap (λ (y : ℕ). replicate y 0) f

  -- how many bytes are left behind
  more : ℕ
  more = length t - 24 * (count - stop + (first + n))

  -- what is moved, and the zeros that take its place
  moved : List ℕ
  moved = tail ++ replicate (24 * (stop - (first + n))) 0

  moved_length : length moved ≡ 24 * (count - stop) + 24 * (stop - (first + n))
  unfolding moved
  moved_length = length-append tail (replicate (24 * (stop - (first + n))) 0) ∙ ap₂ (λ (x y : ℕ). x + y) tail_length (length-replicate (24 * (stop - (first + n))) 0)

  moved_room : 24 * (first + n) + length moved ≤ length t
  moved_room = omega (arith, moved_length)

  behind : drop (24 * (first + n)) (sets t (24 * (first + n)) moved) ≡ tail ++ replicate more 0
  unfolding moved more
  behind =
      let k : length (take (24 * (first + n)) t) ≡ 24 * (first + n) = length-take-le (24 * (first + n)) t (omega arith) in
      let o : 24 * (stop - (first + n)) + (length t - (24 * (first + n) + length moved)) ≡ length t - 24 * (count - stop + (first + n)) = omega (arith, moved_length) in
      ap (drop (24 * (first + n))) (sets-eq moved t (24 * (first + n)) moved_room ∙ append_assoc (take (24 * (first + n)) t) moved (drop (24 * (first + n) + length moved) t))
      ∙ drop_at (take (24 * (first + n)) t) (moved ++ drop (24 * (first + n) + length moved) t) (24 * (first + n)) k
      ∙ ap (λ (y : List ℕ). moved ++ y) (clear (24 * (first + n) + length moved) (omega (arith, moved_length)))
      ∙ append_assoc tail (replicate (24 * (stop - (first + n))) 0) (replicate (length t - (24 * (first + n) + length moved)) 0)
      ∙ ap (λ (y : List ℕ). tail ++ y) (replicate-append-replicate (24 * (stop - (first + n))) (length t - (24 * (first + n) + length moved)) 0 ∙ ap (λ (y : ℕ). replicate y 0) o)

  spelled : table_bytes (length t / 24) (put first stop (read_regions n src) (read_regions count t)) ≡ take (24 * first) t ++ (take (24 * n) src ++ (tail ++ replicate more 0))
  unfolding table_bytes put tail more
  spelled =
      let x : take first (read_regions count t) ≡ read_regions first t = take_read first count t (omega arith) in
      let y : drop stop (read_regions count t) ≡ read_regions (count - stop) (drop (24 * stop) t) = drop_read stop count t b in
      let l : 24 * (count - stop) ≤ length (drop (24 * stop) t) = simp length-drop (omega arith) in
      let u : length (read_regions first t ++ (read_regions n src ++ read_regions (count - stop) (drop (24 * stop) t))) ≡ first + (n + (count - stop)) =
      simp (length-append, read_regions_length) in
      let v : 24 * (length t / 24 - (first + (n + (count - stop)))) ≡ length t - 24 * (count - stop + (first + n)) = omega arith in
      rw (
        x,
        y,
        u,
        v,
        regions_append,
        regions_append,
        regions_bytes_read first t bt (omega arith),
        bs,
        regions_bytes_read (count - stop) (drop (24 * stop) t) (bytes_drop (24 * stop) t bt) l,
        append_assoc,
        append_assoc,
      )

  pub replaced : (t' x : List ℕ) → t' ≡ sets t (24 * (first + n)) (take (24 * (count - stop)) (drop (24 * stop) t) ++ replicate (24 * (stop - (first + n))) 0)
      → x ≡ take (24 * n) src ++ drop (24 * n) (take (length t' - 24 * first) (drop (24 * first) t'))
      → take (24 * first) t' ++ (x ++ drop (length t' - 24 * first) (drop (24 * first) t')) ≡ table_bytes (length t / 24) (put first stop (read_regions n src) (read_regions count t))
  unfolding moved tail
  replaced t' x e q =
      let f : t' ≡ sets t (24 * (first + n)) moved = e in
      let l : 24 * first + 24 * n ≡ 24 * (first + n) = omega arith in
      let u : take (24 * first) t' ≡ take (24 * first) t = ap (take (24 * first)) f ∙ take_sets moved t (24 * first) (24 * (first + n)) (omega arith) in
      let v : drop (24 * (first + n)) t' ≡ tail ++ replicate more 0 = ap (drop (24 * (first + n))) f ∙ behind in
      let g : drop (24 * n) (drop (24 * first) t') ≡ tail ++ replicate more 0 = drop-drop (24 * n) (24 * first) t' ∙ ap (λ (y : ℕ). drop y t') l ∙ v in
      let o : x ≡ take (24 * n) src ++ (tail ++ replicate more 0) = q ∙ ap (λ (y : List ℕ). take (24 * n) src ++ drop (24 * n) y) (take_rest t' (24 * first)) ∙ ap (λ (y : List ℕ). take (24 * n) src ++ y) g in
      let k : length (drop (24 * first) t') ≤ length t' - 24 * first = simp length-drop (omega arith) in
      let d : drop (length t' - 24 * first) (drop (24 * first) t') ≡ [] = drop_of_length-le (drop (24 * first) t') k in
      ap₂ (λ (y s : List ℕ). y ++ s) u (ap₂ (λ (y s : List ℕ). y ++ s) o d ∙ append-nil (take (24 * n) src ++ (tail ++ replicate more 0))) ∙ sym spelled

-- one record
pub replaced_one : (t : List ℕ) (count first stop : ℕ) → first ≤ stop → stop ≤ count → 24 * count ≤ length t → 24 * (count - stop + (first + 1)) ≤ length t → length t ≡ 24 * (length t / 24)
    → all_zeros (drop (24 * count) t) ≡ true → Bytes t → (t' z : List ℕ) (r : Region) → Fit r → Bytes z
    → t' ≡ sets t (24 * (first + 1)) (take (24 * (count - stop)) (drop (24 * stop) t) ++ replicate (24 * (stop - (first + 1))) 0) → length t' ≡ length t → z ≡ sets t' (24 * first) (region_bytes r)
    → z ≡ table_bytes (length t / 24) (put first stop (r ∷ []) (read_regions count t))
unfolding read_regions
replaced_one t count first stop a b c d e f bt t' z r g bz h len q =
    let n : length (region_bytes r) ≡ 24 = region_bytes_length r in
    let k : 24 * first + 24 ≤ length t' = omega arith in
    let k' : 24 * first + length (region_bytes r) ≤ length t' = omega arith in
    let m : length (take (24 * first) t') ≡ 24 * first = length-take-le (24 * first) t' (omega arith) in
    let v : List ℕ = drop 24 (drop (24 * first) t') in
    let x₁ : z ≡ take (24 * first) t' ++ (region_bytes r ++ drop 24 (drop (24 * first) t')) = q ∙ sets-eq (region_bytes r) t' (24 * first) k' ∙ rw (n, append_assoc, drop-drop) in
    let src : List ℕ = drop (24 * first) z in
    let x₂ : drop (24 * first) z ≡ region_bytes r ++ drop 24 (drop (24 * first) t') = ap (drop (24 * first)) x₁ ∙ drop_at (take (24 * first) t') (region_bytes r ++ drop 24 (drop (24 * first) t')) (24 * first) m in
    let x₃ : take 24 (drop (24 * first) z) ≡ region_bytes r = ap (take 24) x₂ ∙ take_at (region_bytes r) (drop 24 (drop (24 * first) t')) 24 n in
    let x₄ : read_region (drop (24 * first) z) ≡ r = ap (λ (y : List ℕ). read_region (drop (24 * first) y)) q ∙ put_here t' (24 * first) r k g in
    let w : 24 * 1 ≤ length (drop (24 * first) z) = omega (arith, ap (length {A = ℕ}) x₂ ∙ length-append (region_bytes r) (drop 24 (drop (24 * first) t'))) in
    let x : List ℕ = take (24 * 1) (drop (24 * first) z) ++ drop (24 * 1) (take (length t' - 24 * first) (drop (24 * first) t')) in
    let p = replaced t (drop (24 * first) z) count first stop 1 a b c d w e f bt (regions_bytes_read 1 (drop (24 * first) z) (bytes_drop (24 * first) z bz) w) t' x h refl in
    let o : length (drop (24 * first) t') ≤ length t' - 24 * first = simp length-drop (omega arith) in
    let y₁ : drop (length t' - 24 * first) (drop (24 * first) t') ≡ [] = drop_of_length-le (drop (24 * first) t') o in
    let y₂ : x ≡ region_bytes r ++ drop 24 (drop (24 * first) t') = ap₂ (λ (y s : List ℕ). y ++ drop 24 s) x₃ (take_rest t' (24 * first)) in
    let y₃ : x ++ drop (length t' - 24 * first) (drop (24 * first) t') ≡ region_bytes r ++ drop 24 (drop (24 * first) t') = ap₂ (λ (y s : List ℕ). y ++ s) y₂ y₁ ∙ append-nil (region_bytes r ++ drop 24 (drop (24 * first) t')) in
    x₁ ∙ ap (λ (y : List ℕ). take (24 * first) t' ++ y) (sym y₃) ∙ p ∙ ap (λ (y : Region). table_bytes (length t / 24) (put first stop (y ∷ []) (read_regions count t))) x₄
