-- E4: what the converting command answers and leaves. Assumes nothing.
use Rattle.std.specs.Prelude.{ℕ, ◌≡◌, Bool, true, ◌&&◌, ◌||◌, List, [], ◌∷◌, eqb, length, drop}
use Rattle.regions.specs.declared.Region.{Region}
use Rattle.regions.specs.Bytes.{number}
use Rattle.block.specs.Block.{edition_one, current, block_length, fresh_contents, block_bytes, contents, good}
use Rattle.range.specs.Outcomes.{Outcome, outcome, done_with, unless}

-- document 01's flags of memory: 0 or 4
abbrev pub old_flags : ℕ → Bool
old_flags flags = eqb flags 0 || eqb flags 4

unfoldable pub flags_one : List Region → Bool
flags_one [] = true
flags_one (r ∷ rs) = old_flags r.tag.flags && flags_one rs

-- a good edition 1 block by document 01, whatever later requests let a good block say: flags of 0 or 4, and the u64 at 72 zero
unfoldable pub good_one : List ℕ → Bool
good_one old = good edition_one old && (flags_one (contents edition_one old).memory && eqb (number 8 (drop 72 old)) 0)

-- the meaning of an edition 1 block, written over any bytes of the length that the commands work on
unfoldable pub convert : List ℕ → List ℕ → Outcome
convert old b = unless (good_one old && eqb (length b) (block_length current)) 1 b (done_with (block_bytes current (contents edition_one old)))

-- the request's words: 1, with the block untouched, exactly when the first is not a good edition 1 block or the second has another length; else the block
-- is good and says exactly what the old one says, limit and direction too, and has no image
pub record Converts (old b : List ℕ) : Type 0 where
  pub refused : (good_one old ≡ true → length b ≡ block_length current → ⊥) → convert old b ≡ outcome 1 b
  pub done : good_one old ≡ true → length b ≡ block_length current → (convert old b).number ≡ 0
  pub is_good : (convert old b).number ≡ 0 → good current (convert old b).block ≡ true
  pub says : (convert old b).number ≡ 0 → contents current (convert old b).block ≡ contents edition_one old
  pub no_image : (convert old b).number ≡ 0 → (contents current (convert old b).block).settings.image.0 ≡ 0

-- and a fresh edition 1 block becomes a fresh block
pub record ConvertSentence : Type 0 where
  pub converts : (old b : List ℕ) → Converts old b
  pub fresh : (b : List ℕ) → length b ≡ block_length current → convert (block_bytes edition_one fresh_contents) b ≡ done_with (block_bytes current fresh_contents)
