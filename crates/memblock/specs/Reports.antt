-- E1's order promise. Assumes nothing.
use Rattle.std.specs.Prelude.{ℕ, ◌≡◌}
use mathlib.Core.List.{List, Permᴰ}
use Rattle.block.specs.Block.{current}
use Rattle.intake.specs.E820.{entries, intake_e820}

-- the same entries in another order
abbrev pub SameEntries : List ℕ → List ℕ → Type 0
SameEntries r s = Permᴰ (entries r) (entries s)

-- two such reports, taken in on equal blocks, neither refused, end in equal blocks
abbrev pub OrderPromise : Type 0
OrderPromise =
    (b r s : List ℕ) → SameEntries r s → (intake_e820 current r b).number ≡ 0 → (intake_e820 current s b).number ≡ 0
    → (intake_e820 current r b).block ≡ (intake_e820 current s b).block
