-- E7's sentence on the image end holds. Assumes nothing.
use Prim.Native.Nat.{ℕ, ◌^◌, ◌<◌}
use mathlib.Core.Path.{◌≡◌, refl, sym, ap, ◌∙◌}
use mathlib.Core.Bool.{Bool, true, false, cond}
use mathlib.Core.List.{List}
use native.Mathlib.Omega.{arith}
use lib.Dec.{leb, eqb}
use lib.ListN.{length, take, drop}
use Rattle.block.specs.Block.{current, block_length, Contents, with_settings, settings, with_image, fresh_contents, block_bytes, contents, good}
use Rattle.block.proofs.Reading.{SettingsFit, contents_spelled, good_spellable}
use Rattle.block.proofs.Kept.{good_bytes}
use Rattle.block.proofs.Layouts.{small_current}
use Rattle.block.proofs.Fields.{block_image, good_image, image_written}
use Rattle.range.specs.Outcomes.{outcome, done_with}
use Rattle.tables.specs.Commands.{fresh, set, set_to, set_image_end}
use Rattle.tables.specs.ImageEnd.{SetsImageEnd, ImageEndSentence}
use Rattle.tables.proofs.Printed.{fresh_spellable}
use Rattle.tables.proofs.Good.{settings_spellable, direction_legal, image_good}

-- ---- the command for it

module _ (image : ℕ) (b : List ℕ) where
  image_refused : good current b ≡ false → set_image_end current image b ≡ outcome 1 b
  unfolding set_image_end
  image_refused g = rw g

  module _ (g : good current b ≡ true) where
    image_stored : set_image_end current image b ≡ outcome 0 (block_bytes current (with_settings (contents current b) (with_image (contents current b).settings image)))
    unfolding set_image_end
    image_stored = rw g

    image_fits : image < 2 ^ 64 → SettingsFit (with_image (contents current b).settings image)
    image_fits l = record { limit = (good_spellable current small_current b (good_bytes current b g) g).settings.limit; image = l }

  sets_image_end : SetsImageEnd image b
  sets_image_end =
      record {
        refused = image_refused;
        done = λ g. image_stored g ∙ ap (outcome 0) (sym (image_written current b g image));
        is_good = λ g. image_good b g image;
        says = λ g l. rw (image_stored g) (contents_spelled current small_current _ (settings_spellable b g _ (direction_legal b g) (image_fits g l)));
      }

-- ---- set and fresh

set_keeps : (limit direction : ℕ) (b : List ℕ) → take 8 (drop 72 (set current limit direction b).block) ≡ take 8 (drop 72 b)
unfolding set
set_keeps limit direction b = go (good current b) refl (leb direction 1)
  where
    s : Contents
    s = contents current b

    go : (g : Bool) → good current b ≡ g → (t : Bool)
        → take 8 (drop 72 (cond g (cond t (set_to current (settings limit direction s.settings.image.0) b) (outcome 7 b)) (outcome 1 b)).block) ≡ take 8 (drop 72 b)
    go true g true = block_image current (with_settings s (settings limit direction s.settings.image.0)) ∙ sym (good_image current b g)
    go true g false = refl
    go false g t = refl

fresh_none : (b : List ℕ) → (fresh current b).number ≡ 0 → (contents current (fresh current b).block).settings.image.0 ≡ 0
unfolding fresh
fresh_none b e = go (eqb (length b) (block_length current)) e
  where
    go : (t : Bool) → (cond t (done_with (block_bytes current fresh_contents)) (outcome 1 b)).number ≡ 0
        → (contents current (cond t (done_with (block_bytes current fresh_contents)) (outcome 1 b)).block).settings.image.0 ≡ 0
    go true n = ap (λ (s : Contents). s.settings.image.0) (contents_spelled current small_current fresh_contents (fresh_spellable current))
    go false n = absurd (omega (arith, n))

pub image_end_sentence : ImageEndSentence
image_end_sentence = record { there = good_image current; by_itself = sets_image_end; kept = set_keeps; none = fresh_none }
