-- Where a good block's settings stand: limit and direction from byte 40, the image end from byte 72. Assumes nothing.
use Prim.Native.Nat.{ℕ, ◌+◌, ◌≤◌}
use mathlib.Core.Path.{◌≡◌, refl, sym, ap, ◌∙◌}
use mathlib.Core.Bool.{true}
use mathlib.Core.List.{List, ◌++◌, append_assoc}
use native.Mathlib.Omega.{arith}
use lib.ListN.{length, take, drop, length-append, length-drop, take-append-drop}
use lib.Seq.{sets, sets-eq, take_at, drop_at, drop-drop, drop-append-le, length-take-le}
use Rattle.regions.specs.Bytes.{number, bytes}
use Rattle.regions.proofs.Numbers.{bytes_length, number_append}
use Rattle.block.specs.declared.Layout.{Layout}
use Rattle.block.specs.declared.Settings.{Settings}
use Rattle.block.specs.declared.Header.{Header}
use Rattle.block.specs.Block.{Contents, with_settings, settings, with_image, entries_bytes, settings_bytes, totals_bytes, header_bytes, header_of, block_bytes, contents, good}
use Rattle.block.proofs.Blocks.{good_length, good_spelled}
use Rattle.block.proofs.Headers.{entries_length, settings_length}

-- ---- bytes 40 to 55 and 72 to 79 of a header, and of a block

header_settings : (L : Layout) (h : Header) (l : List ℕ) → take 16 (drop 40 (header_bytes L h ++ l)) ≡ settings_bytes h.settings
unfolding header_bytes
header_settings L h l =
    let a : List ℕ = entries_bytes L h.memory.count h.taken.count in
    let s : List ℕ = settings_bytes h.settings in
    let t : List ℕ = totals_bytes h.memory.total.0 h.taken.total.0 h.settings.image.0 in
    let e : (a ++ (s ++ t)) ++ l ≡ a ++ (s ++ (t ++ l)) = simp append_assoc in
    rw (e, drop_at a (s ++ (t ++ l)) 40 (entries_length L h.memory.count h.taken.count))
    (take_at s (t ++ l) 16 (settings_length h.settings))

-- the header's bytes before the image end
front : Layout → Header → List ℕ
front L h = entries_bytes L h.memory.count h.taken.count ++ (settings_bytes h.settings ++ (bytes 8 h.memory.total.0 ++ bytes 8 h.taken.total.0))

front_length : (L : Layout) (h : Header) → length (front L h) ≡ 72
unfolding front
front_length L h = simp (length-append, entries_length, settings_length, bytes_length)

header_split : (L : Layout) (h : Header) (l : List ℕ) → header_bytes L h ++ l ≡ front L h ++ (bytes 8 h.settings.image.0 ++ l)
unfolding header_bytes totals_bytes front
header_split L h l = simp append_assoc

header_image : (L : Layout) (h : Header) (l : List ℕ) → take 8 (drop 72 (header_bytes L h ++ l)) ≡ bytes 8 h.settings.image.0
header_image L h l =
    let v : List ℕ = bytes 8 h.settings.image.0 in
    rw (header_split L h l, drop_at (front L h) (v ++ l) 72 (front_length L h)) (take_at v l 8 (bytes_length 8 h.settings.image.0))

module _ (L : Layout) (s : Contents) where
  block_settings : take 16 (drop 40 (block_bytes L s)) ≡ settings_bytes s.settings
  unfolding block_bytes
  block_settings = header_settings L (header_of s) _

  pub block_image : take 8 (drop 72 (block_bytes L s)) ≡ bytes 8 s.settings.image.0
  unfolding block_bytes
  block_image = header_image L (header_of s) _

-- ---- of a good block

-- the settings that these bytes say: limit and direction, and the image end
abbrev pub settings_at : List ℕ → List ℕ → Settings
settings_at l m = settings (number 8 l) (number 4 (drop 8 l)) (number 8 m)

module _ (L : Layout) (b : List ℕ) (g : good L b ≡ true) where
  pub good_settings : take 16 (drop 40 b) ≡ settings_bytes (contents L b).settings
  good_settings = rw (good_spelled L b g) at (block_settings L (contents L b))

  pub good_image : take 8 (drop 72 b) ≡ bytes 8 (contents L b).settings.image.0
  good_image = rw (good_spelled L b g) at (block_image L (contents L b))

  settings_room : length (take 16 (drop 40 b)) ≡ 16
  settings_room = length-take-le 16 (drop 40 b) (rw length-drop (omega (arith, good_length L b g)))

  good_limit : (contents L b).settings.limit.0 ≡ number 8 (take 16 (drop 40 b))
  unfolding contents
  good_limit =
      let l : List ℕ = drop 40 b in
      let n : 8 ≤ length (take 16 l) = omega (arith, settings_room) in
      ap (number 8) (sym (take-append-drop 16 l)) ∙ number_append 8 (take 16 l) (drop 16 l) n

  good_direction : (contents L b).settings.direction ≡ number 4 (drop 8 (take 16 (drop 40 b)))
  unfolding contents
  good_direction =
      let l : List ℕ = drop 40 b in
      let n : 8 ≤ length (take 16 l) = omega (arith, settings_room) in
      let m : 4 ≤ length (drop 8 (take 16 l)) = rw length-drop (omega (arith, settings_room)) in
      ap (number 4) (sym (drop-drop 8 40 b) ∙ ap (drop 8) (sym (take-append-drop 16 l)) ∙ drop-append-le 8 (take 16 l) (drop 16 l) n)
      ∙ number_append 4 (drop 8 (take 16 l)) (drop 16 l) m

  image_there : (contents L b).settings.image.0 ≡ number 8 (take 8 (drop 72 b))
  unfolding contents
  image_there =
      let l : List ℕ = drop 72 b in
      let n : length (take 8 l) ≡ 8 = length-take-le 8 l (rw length-drop (omega (arith, good_length L b g))) in
      ap (number 8) (sym (take-append-drop 8 l)) ∙ number_append 8 (take 8 l) (drop 8 l) (omega arith)

  -- the settings are read from bytes 40 to 55 and 72 to 79 alone
  pub settings_there : (contents L b).settings ≡ settings_at (take 16 (drop 40 b)) (take 8 (drop 72 b))
  settings_there = λ i. settings (good_limit i) (good_direction i) (image_there i)

-- ---- the image end written alone

-- the header with another image end
image_header : Header → ℕ → Header
image_header h v = record { memory = h.memory; taken = h.taken; settings = with_image h.settings v }

front_same : (L : Layout) (h : Header) (v : ℕ) → front L (image_header h v) ≡ front L h
unfolding front settings_bytes image_header
front_same L h v = refl

image_last : (L : Layout) (h : Header) (v : ℕ) (l : List ℕ) → header_bytes L (image_header h v) ++ l ≡ front L h ++ (bytes 8 v ++ l)
unfolding image_header
image_last L h v l = header_split L (image_header h v) l ∙ ap (λ (x : List ℕ). x ++ (bytes 8 v ++ l)) (front_same L h v)

header_written : (L : Layout) (h : Header) (v : ℕ) (l : List ℕ) → sets (header_bytes L h ++ l) 72 (bytes 8 v) ≡ header_bytes L (image_header h v) ++ l
header_written L h v l =
    let f : List ℕ = front L h in
    let old : List ℕ = bytes 8 h.settings.image.0 in
    let n : length f ≡ 72 = front_length L h in
    let o : length old ≡ 8 = bytes_length 8 h.settings.image.0 in
    let m : length (bytes 8 v) ≡ 8 = bytes_length 8 v in
    let w : length (f ++ (old ++ l)) ≡ 80 + length l = simp length-append (omega arith) in
    let x : sets (f ++ (old ++ l)) 72 (bytes 8 v) ≡ take 72 (f ++ (old ++ l)) ++ bytes 8 v ++ drop (72 + length (bytes 8 v)) (f ++ (old ++ l)) =
    sets-eq (bytes 8 v) (f ++ (old ++ l)) 72 (omega arith) in
    let y : drop 80 (f ++ (old ++ l)) ≡ l = sym (drop-drop 8 72 (f ++ (old ++ l))) ∙ ap (drop 8) (drop_at f (old ++ l) 72 n) ∙ drop_at old l 8 o in
    let z : 72 + length (bytes 8 v) ≡ 80 = omega arith in
    rw (header_split L h l) (x ∙ rw (z, y, take_at f (old ++ l) 72 n, append_assoc) (sym (image_last L h v l)))

-- eight bytes written over those at 72 of a good block
pub image_written : (L : Layout) (b : List ℕ) → good L b ≡ true → (v : ℕ)
    → sets b 72 (bytes 8 v) ≡ block_bytes L (with_settings (contents L b) (with_image (contents L b).settings v))
unfolding block_bytes image_header
image_written L b g v =
    let s : Contents = contents L b in
    ap (λ (x : List ℕ). sets x 72 (bytes 8 v)) (sym (good_spelled L b g)) ∙ header_written L (header_of s) v _
