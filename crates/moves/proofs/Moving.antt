-- Bytes moved within a list: a run of them stored at another place, piece by piece. Assumes nothing.
use Prim.Native.Nat.{ℕ, suc, ◌+◌, ◌*◌, ◌-◌, ◌≤◌, ◌<◌}
use mathlib.Core.Path.{◌≡◌, refl, sym, ap, ◌∙◌}
use mathlib.Core.List.{List, [], ◌∷◌, ◌++◌, append_assoc}
use native.Mathlib.Omega.{arith}
use lib.ListN.{length, take, drop, set, length-drop}
use Rattle.std.proofs.lemmas.List.{drop-take}
use lib.Seq.{sets, sets-eq, set_comm, take-set-le, drop-set-lt, length-take-le, take-add, drop-drop}
use Rattle.regions.proofs.Numbers.{sets_append}

-- ---- stores at different places

set_sets : (vs l : List ℕ) (j k : ℕ) (x : ℕ) → k < j → set (sets l j vs) k x ≡ sets (set l k x) j vs
set_sets [] l j k x h = refl
set_sets (v ∷ vs) l j k x h = set_sets vs (set l j v) (suc j) k x (omega arith) ∙ ap (λ (y : List ℕ). sets y (suc j) vs) (set_comm l j k v x (λ e. omega arith))

pub sets_sets : (us vs l : List ℕ) (j k : ℕ) → k + length us ≤ j → sets (sets l j vs) k us ≡ sets (sets l k us) j vs
sets_sets [] vs l j k h = refl
sets_sets (u ∷ us) vs l j k h =
    ap (λ (y : List ℕ). sets y (suc k) us) (set_sets vs l j k u (omega arith)) ∙ sets_sets us vs (set l k u) j (suc k) (omega arith)

pub take_sets : (vs l : List ℕ) (m j : ℕ) → m ≤ j → take m (sets l j vs) ≡ take m l
take_sets [] l m j h = refl
take_sets (v ∷ vs) l m j h = take_sets vs (set l j v) m (suc j) (omega arith) ∙ take-set-le m l j v h

pub drop_sets : (vs l : List ℕ) (m j : ℕ) → j + length vs ≤ m → drop m (sets l j vs) ≡ drop m l
drop_sets [] l m j h = refl
drop_sets (v ∷ vs) l m j h = drop_sets vs (set l j v) m (suc j) (omega arith) ∙ drop-set-lt m l j v (omega arith)

-- what is read below or above the stores is as it was
read_below : (vs l : List ℕ) (i m j : ℕ) → i + m ≤ j → take m (drop i (sets l j vs)) ≡ take m (drop i l)
read_below vs l i m j h = sym (drop-take i m (sets l j vs)) ∙ ap (drop i) (take_sets vs l (i + m) j h) ∙ drop-take i m l

-- a piece read at `from` and stored at `to`
pub copied : (m from to : ℕ) (t p x : List ℕ) → from + m ≤ length t → to + m ≤ length t → p ≡ take (from + m - from) (drop from t) → x ≡ p
    → take to t ++ (x ++ drop (to + m - to) (drop to t)) ≡ sets t to (take m (drop from t))
copied m from to t p x h k e f =
    let a : from + m - from ≡ m = omega arith in
    let b : to + m - to ≡ m = omega arith in
    let n : length (take m (drop from t)) ≡ m = length-take-le m (drop from t) (simp length-drop (omega arith)) in
    let r : to + length (take m (drop from t)) ≤ length t = rw n k in
    rw (f, e, a, b, drop-drop) (sym (sets-eq (take m (drop from t)) t to r ∙ rw (n, append_assoc)))

-- ---- upwards, from the end: what stands from i on is moved

module _ (t₀ : List ℕ) (end by : ℕ) where
  abbrev BytesUp : List ℕ → ℕ → Type 0
  BytesUp t i = t ≡ sets t₀ (i + by) (take (end - i) (drop i t₀))

  up_more : (t : List ℕ) (i m : ℕ) → BytesUp t i → m ≤ i → i ≤ end → end ≤ length t₀ → (t' : List ℕ) → t' ≡ sets t (i - m + by) (take m (drop (i - m) t)) → BytesUp t' (i - m)
  up_more t i m inv h k r t' e =
      let j : ℕ = i - m in
      let a : List ℕ = take m (drop j t₀) in
      let b : List ℕ = take (end - i) (drop i t₀) in
      let ji : j + m ≡ i = omega arith in
      let n : length a ≡ m = length-take-le m (drop j t₀) (simp length-drop (omega arith)) in
      let g : take m (drop j t) ≡ a = ap (λ (y : List ℕ). take m (drop j y)) inv ∙ read_below b t₀ j m (i + by) (omega arith) in
      let s : end - j ≡ m + (end - i) = omega arith in
      let c : drop m (drop j t₀) ≡ drop i t₀ = drop-drop m j t₀ ∙ rw ji in
      let d : take (end - j) (drop j t₀) ≡ a ++ b = rw (s, take-add m (end - i) (drop j t₀), c) in
      let o : j + by + length a ≡ i + by = omega arith in
      let x : t' ≡ sets (sets t₀ (i + by) b) (j + by) a = e ∙ rw (g, inv) in
      let y : sets t₀ (j + by) (take (end - j) (drop j t₀)) ≡ sets (sets t₀ (j + by) a) (i + by) b = rw (d, sets_append, o) in
      x ∙ sets_sets a b t₀ (i + by) (j + by) (omega arith) ∙ sym y

-- ---- downwards, from the start: what stands below i is moved

module _ (t₀ : List ℕ) (from by : ℕ) where
  abbrev BytesDown : List ℕ → ℕ → Type 0
  BytesDown t i = t ≡ sets t₀ (from - by) (take (i - from) (drop from t₀))

  down_more : (t : List ℕ) (i m : ℕ) → BytesDown t i → by ≤ from → from ≤ i → i + m ≤ length t₀ → (t' : List ℕ) → t' ≡ sets t (i - by) (take m (drop i t)) → BytesDown t' (i + m)
  down_more t i m inv h k r t' e =
      let a : List ℕ = take (i - from) (drop from t₀) in
      let n : length a ≡ i - from = length-take-le (i - from) (drop from t₀) (simp length-drop (omega arith)) in
      let g : take m (drop i t) ≡ take m (drop i t₀) = ap (take m) (ap (drop i) inv ∙ drop_sets a t₀ i (from - by) (omega arith)) in
      let s : i + m - from ≡ i - from + m = omega arith in
      let f : from + (i - from) ≡ i = omega arith in
      let c : drop (i - from) (drop from t₀) ≡ drop i t₀ = drop-drop (i - from) from t₀ ∙ rw f in
      let d : take (i + m - from) (drop from t₀) ≡ a ++ take m (drop i t₀) = rw (s, take-add (i - from) m (drop from t₀), c) in
      let o : from - by + length a ≡ i - by = omega arith in
      let x : t' ≡ sets (sets t₀ (from - by) a) (i - by) (take m (drop i t₀)) = e ∙ rw (g, inv) in
      let y : sets t₀ (from - by) (take (i + m - from) (drop from t₀)) ≡ sets (sets t₀ (from - by) a) (i - by) (take m (drop i t₀)) = rw (d, sets_append, o) in
      x ∙ sym y

-- ---- the same by records

minus : (a b : ℕ) → 24 * (a - b) ≡ 24 * a - 24 * b
minus a b = omega arith

plus : (a b : ℕ) → 24 * (a + b) ≡ 24 * a + 24 * b
plus a b = omega arith

-- the records of t₀ from i up to end stand higher by `by` records
pub record Up (t₀ : List ℕ) (end by : ℕ) (t : List ℕ) (i : ℕ) : Type 0 where
  pub to : i ≤ end
  pub moved : t ≡ sets t₀ (24 * (i + by)) (take (24 * (end - i)) (drop (24 * i) t₀))

pub none_up : (t : List ℕ) (end by : ℕ) → Up t end by t end
none_up t end by = let e : 24 * (end - end) ≡ 0 = omega arith in record { to = omega arith; moved = rw e }

module _ (t₀ t : List ℕ) (end by i : ℕ) (s : Up t₀ end by t i) (r : 24 * (end + by) ≤ length t₀) where
  records_up : (m b j : ℕ) → b ≡ 24 * m → j + m ≡ i → (t' : List ℕ) → t' ≡ sets t (24 * (j + by)) (take b (drop (24 * j) t)) → Up t₀ end by t' j
  records_up m b j e h t' q =
      let v : 24 * j ≡ 24 * i - b = omega arith in
      let u : 24 * (j + by) ≡ 24 * i - b + 24 * by = plus j by ∙ rw v in
      let w : 24 * (end - j) ≡ 24 * end - (24 * i - b) = minus end j ∙ rw v in
      record {
        to = omega (arith, s.to);
        moved = rw (u, v, w) (up_more t₀ (24 * end) (24 * by) t (24 * i) b (rw (plus i by, minus end i) at s.moved) (omega arith) (omega (arith, s.to)) (omega arith) t' (rw (u, v) at q));
      }

  pub up_four : (j : ℕ) → j + 4 ≡ i → (t' : List ℕ) → t' ≡ sets t (24 * (j + by)) (take 96 (drop (24 * j) t)) → Up t₀ end by t' j
  up_four j h t' q = records_up 4 96 j refl h t' q

  pub up_one : (j : ℕ) → j + 1 ≡ i → (t' : List ℕ) → t' ≡ sets t (24 * (j + by)) (take 24 (drop (24 * j) t)) → Up t₀ end by t' j
  up_one j h t' q = records_up 1 24 j refl h t' q

-- those from `from` up to i stand lower by `by` records
pub record Down (t₀ : List ℕ) (from by : ℕ) (t : List ℕ) (i : ℕ) : Type 0 where
  pub since : from ≤ i
  pub moved : t ≡ sets t₀ (24 * (from - by)) (take (24 * (i - from)) (drop (24 * from) t₀))

pub none_down : (t : List ℕ) (from by : ℕ) → Down t from by t from
none_down t from by = let e : 24 * (from - from) ≡ 0 = omega arith in record { since = omega arith; moved = rw e }

module _ (t₀ t : List ℕ) (from by i : ℕ) (s : Down t₀ from by t i) (l : by ≤ from) where
  records_down : (m b : ℕ) → b ≡ 24 * m → 24 * (i + m) ≤ length t₀ → (t' : List ℕ) → t' ≡ sets t (24 * (i - by)) (take b (drop (24 * i) t)) → Down t₀ from by t' (i + m)
  records_down m b e h t' q =
      let w : 24 * (i + m - from) ≡ 24 * i + b - 24 * from = minus (i + m) from ∙ rw (plus i m, e) in
      record {
        since = omega (arith, s.since);
        moved = rw (minus from by, w) (down_more t₀ (24 * from) (24 * by) t (24 * i) b (rw (minus from by, minus i from) at s.moved) (omega arith) (omega (arith, s.since)) (omega arith) t' (rw (minus i by) at q));
      }

  pub down_four : (t' : List ℕ) → 24 * (i + 4) ≤ length t₀ → t' ≡ sets t (24 * (i - by)) (take 96 (drop (24 * i) t)) → Down t₀ from by t' (i + 4)
  down_four t' h q = records_down 4 96 refl h t' q

  pub down_one : (t' : List ℕ) → 24 * (i + 1) ≤ length t₀ → t' ≡ sets t (24 * (i - by)) (take 24 (drop (24 * i) t)) → Down t₀ from by t' (i + 1)
  down_one t' h q = records_down 1 24 refl h t' q
