-- E7's sentence on the image end: what sets it, and what set and fresh leave of it. Assumes nothing.
use Rattle.std.specs.Prelude.{ℕ, ◌^◌, ◌<◌, ◌≡◌, true, false, List, take, drop}
use Rattle.std.proofs.lemmas.List.Edits.{sets}
use Rattle.regions.specs.Bytes.{bytes}
use Rattle.block.specs.Block.{current, with_settings, with_image, contents, good}
use Rattle.range.specs.Outcomes.{outcome}
use Rattle.tables.specs.Commands.{fresh, set, set_image_end}

-- the u64 at offset 72 is the image end
abbrev pub ImageAt72 : List ℕ → Type 0
ImageAt72 b = take 8 (drop 72 b) ≡ bytes 8 (contents current b).settings.image.0

-- a command of its own sets it, any value, and refuses only a bad block: it writes these eight bytes and no other, and the block is good and says the image
-- end where it said another
pub record SetsImageEnd (image : ℕ) (b : List ℕ) : Type 0 where
  pub refused : good current b ≡ false → set_image_end current image b ≡ outcome 1 b
  pub done : good current b ≡ true → set_image_end current image b ≡ outcome 0 (sets b 72 (bytes 8 image))
  pub is_good : good current b ≡ true → good current (set_image_end current image b).block ≡ true
  pub says : good current b ≡ true → image < 2 ^ 64
      → contents current (set_image_end current image b).block ≡ with_settings (contents current b) (with_image (contents current b).settings image)

-- set keeps it, done or refused, and in a fresh block it is 0: none
pub record ImageEndSentence : Type 0 where
  pub there : (b : List ℕ) → good current b ≡ true → ImageAt72 b
  pub by_itself : (image : ℕ) (b : List ℕ) → SetsImageEnd image b
  pub kept : (limit direction : ℕ) (b : List ℕ) → take 8 (drop 72 (set current limit direction b).block) ≡ take 8 (drop 72 b)
  pub none : (b : List ℕ) → (fresh current b).number ≡ 0 → (contents current (fresh current b).block).settings.image.0 ≡ 0
