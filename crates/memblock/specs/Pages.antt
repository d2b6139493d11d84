-- E14's last sentence of the call in the table: calls in turn on one block. Assumes nothing.
use Rattle.std.specs.Prelude.{ℕ, ◌≡◌, true, List}
use Rattle.block.specs.Block.{current, contents, good}
use Rattle.pages.specs.Calls.{Lent, Handing, HandOverSentence}
use Rattle.memblock.specs.Calls.{to_pages, answer_of}

-- the call on the block b
abbrev pub handing : List ℕ → Handing
handing b page x = answer_of (to_pages page x.buffer x.slip) b

pub record PagesSentence (b : List ℕ) : Type 0 where
  -- the block never changes
  pub stays : (page : ℕ) (x : Lent) → (handing b page x).block ≡ b
  -- so on a good block calls in turn hand over one list
  pub calls : good current b ≡ true → HandOverSentence (handing b) (contents current b)
