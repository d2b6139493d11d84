-- A number and every byte of the block; and what a changed range of a table answers and leaves. Assumes nothing.
use Rattle.std.specs.Prelude.{ℕ, Bool, cond, List, leb, length}
use Rattle.regions.specs.declared.Kind.{Kind}
use Rattle.regions.specs.declared.Tag.{Tag}
use Rattle.regions.specs.declared.Region.{Region}
use Rattle.regions.specs.declared.Change.{Change}
use Rattle.regions.specs.Changes.{changed}
use Rattle.block.specs.declared.Layout.{Layout}
use Rattle.block.specs.Block.{capacity, list_of, with_list, block_bytes, contents}

-- the number that boot code gets back, and every byte of the block after the call
pub record Outcome : Type 0 where
  pub number : ℕ
  pub block : List ℕ

abbrev pub outcome : ℕ → List ℕ → Outcome
outcome n b = record { number = n; block = b }

-- document 01's done
abbrev pub done_with : List ℕ → Outcome
done_with b = outcome 0 b

-- refused with n, and the block as lent, unless the test holds
abbrev pub unless : Bool → ℕ → List ℕ → Outcome → Outcome
unless test n b o = cond test o (outcome n b)

-- the block with another list in one of its tables, if the table has room for it
unfoldable pub store : Layout → Kind → List Region → List ℕ → Outcome
store L k xs b = unless (leb (length xs) (capacity L k)) 6 b (done_with (block_bytes L (with_list (contents L b) k xs)))

-- a change made over a range of a table
abbrev pub change_range : Layout → Kind → Change → ℕ → ℕ → List ℕ → Outcome
change_range L k c base size b = store L k (changed c base size (list_of (contents L b) k)) b

abbrev pub tag : ℕ → ℕ → Tag
tag flags node = record { flags = flags; node = node }
