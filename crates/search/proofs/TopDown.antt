-- A top-down search, and next free, do not look at the image end. Assumes nothing.
use Prim.Native.Nat.{ℕ, ◌^◌, ◌<◌}
use mathlib.Core.Path.{◌≡◌, refl, ap, ◌∙◌}
use mathlib.Core.Bool.{true, false, cond}
use mathlib.Core.List.{List}
use mathlib.Core.Logic.{◌⊎◌, inl, inr}
use native.Mathlib.Omega.{arith}
use borrow.Author.Tests.{ne_eqb}
use Rattle.address.proofs.Tests.{either}
use Rattle.regions.specs.declared.Kind.TheVariants.{Taken}
use Rattle.regions.specs.declared.Region.{Region}
use Rattle.regions.specs.declared.Change.TheVariants.{Fill}
use Rattle.regions.specs.Changes.{changed}
use Rattle.block.specs.Block.{current, Contents, with_settings, with_image, contents, good}
use Rattle.range.specs.Outcomes.{Outcome, store, tag}
use Rattle.tables.specs.Commands.{set_image_end}
use Rattle.tables.proofs.ImageEnd.{image_end_sentence}
use Rattle.fits.specs.declared.Query.{Query}
use Rattle.std.specs.Prelude.{Option, Some, None}
use Rattle.fits.specs.declared.Spot.{Spot}
use Rattle.seek.specs.Search.{found, found_place, lowest_free, next_place}
use Rattle.search.specs.Answers.{Answer, SameAnswer, askable, refusal, allocate_answer, find, allocate, next_free}
use Rattle.search.specs.TopDown.{TopDownSentence}
use Rattle.search.proofs.SameAnswers.{same, asking_same, place_same, reserved_same, store_same, find_same}

-- ---- another image end

abbrev imaged : Contents → ℕ → Contents
imaged s image = with_settings s (with_image s.settings image)

place_down : (s : Contents) (q : Query) (image : ℕ) → s.settings.direction ≡ 0 → found_place (imaged s image) q ≡ found_place s q
unfolding found_place found
place_down s q image d = rw (ne_eqb s.settings.direction 1 (λ e. omega (arith, d, e)))

allocate_same : (b c : List ℕ) (image size : ℕ) → contents current c ≡ imaged (contents current b) image → (p : Option Spot)
    → SameAnswer (allocate_answer current c size p) (allocate_answer current b size p)
allocate_same b c image size e None = record { number = refl; slip = refl }
allocate_same b c image size e (Some s) =
    let filled : List Region → List Region = changed (Fill (tag 0 0)) s.at.0 size in
    let n : (store current Taken (filled (contents current c).taken) c).number ≡ (store current Taken (filled (contents current b).taken) b).number =
    ap (λ (x : Contents). (store current Taken (filled x.taken) c).number) e ∙ store_same (filled (contents current b).taken) c b in
    reserved_same c b s.at.0 s.run.end.0 (store current Taken (filled (contents current c).taken) c) (store current Taken (filled (contents current b).taken) b) n

module _ (b : List ℕ) (image : ℕ) (l : image < 2 ^ 64) where
  c : List ℕ
  c = (set_image_end current image b).block

  -- nothing is set in a bad block
  stays : good current b ≡ false → c ≡ b
  unfolding c
  stays g = ap (λ (o : Outcome). o.block) ((image_end_sentence.by_itself image b).refused g)

  module _ (g : good current b ≡ true) where
    is_good : good current c ≡ true
    unfolding c
    is_good = (image_end_sentence.by_itself image b).is_good g

    says : contents current c ≡ imaged (contents current b) image
    unfolding c
    says = (image_end_sentence.by_itself image b).says g l

  -- what holds of a good block holds of any
  if_good : (ask : List ℕ → Answer) → (good current b ≡ true → SameAnswer (ask c) (ask b)) → SameAnswer (ask c) (ask b)
  if_good ask h = go (either (good current b))
    where
      go : (good current b ≡ true) ⊎ (good current b ≡ false) → SameAnswer (ask c) (ask b)
      go (inl g) = h g
      go (inr g) = same (ap ask (stays g))

  module _ (q : Query) (slip : List ℕ) (d : (contents current b).settings.direction ≡ 0) where
    found_same : good current b ≡ true → found_place (contents current c) q ≡ found_place (contents current b) q
    found_same g = ap (λ (s : Contents). found_place s q) (says g) ∙ place_down (contents current b) q image d

    find_down : good current b ≡ true → SameAnswer (find current q c slip) (find current q b slip)
    find_down g = find_same q c b slip (is_good g) g (λ e. found_same g)

    allocate_down : good current b ≡ true → SameAnswer (allocate current q c slip) (allocate current q b slip)
    unfolding allocate
    allocate_down g =
        rw (is_good g, g, found_same g)
        (asking_same (refusal q) c b slip _ _ (λ e. allocate_same b c image q.size.0 (says g) (found_place (contents current b) q)))

  next_same : (p node wish : ℕ) (slip : List ℕ) → good current b ≡ true → SameAnswer (next_free current p node wish c slip) (next_free current p node wish b slip)
  unfolding next_free next_place lowest_free
  next_same p node wish slip g =
      rw (is_good g, g, says g) (asking_same (cond (askable node wish) 0 2) c b slip _ _ (λ e. place_same c b (next_place (contents current b) p node wish)))

pub top_down_sentence : TopDownSentence
unfolding c
top_down_sentence =
    record {
      find = λ q b slip d image l. if_good b image l (λ e. find current q e slip) (find_down b image l q slip d);
      allocate = λ q b slip d image l. if_good b image l (λ e. allocate current q e slip) (allocate_down b image l q slip d);
      next_free = λ p node wish b slip image l. if_good b image l (λ e. next_free current p node wish e slip) (next_same b image l p node wish slip);
    }
