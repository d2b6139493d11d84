-- E7's last sentence: top-down blocks answer as before; and so does next free, in any block. Assumes nothing.
use Rattle.std.specs.Prelude.{ℕ, ◌^◌, ◌<◌, ◌≡◌, List}
use Rattle.block.specs.Block.{current, contents}
use Rattle.tables.specs.Commands.{set_image_end}
use Rattle.fits.specs.declared.Query.{Query}
use Rattle.search.specs.Answers.{Answer, SameAnswer, find, allocate, next_free}

-- a search answers the same after the image end has been set, to whatever value
abbrev pub HeedsNoImage : List ℕ → (List ℕ → Answer) → Type 0
HeedsNoImage b ask = (image : ℕ) → image < 2 ^ 64 → SameAnswer (ask (set_image_end current image b).block) (ask b)

pub record TopDownSentence : Type 0 where
  pub find : (q : Query) (b slip : List ℕ) → (contents current b).settings.direction ≡ 0 → HeedsNoImage b (λ c. find current q c slip)
  pub allocate : (q : Query) (b slip : List ℕ) → (contents current b).settings.direction ≡ 0 → HeedsNoImage b (λ c. allocate current q c slip)
  pub next_free : (p node wish : ℕ) (b slip : List ℕ) → HeedsNoImage b (λ c. next_free current p node wish c slip)
