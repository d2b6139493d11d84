-- The layouts of both editions have offsets that fit. Assumes nothing.
use mathlib.Core.Path.{◌≡◌}
use native.Mathlib.Omega.{arith}
use Rattle.block.specs.declared.Layout.{Layout}
use Rattle.block.specs.Block.{edition_one, current}
use Rattle.block.specs.Checks.{Small}

pub small_one : Small edition_one
small_one = record { memory = omega arith; taken = omega arith }

pub small_current : Small current
small_current = record { memory = omega arith; taken = omega arith }

-- so does one that is known to be such a layout
pub small_as : {L : Layout} → Small L → (l : Layout) → l ≡ L → Small l
small_as s l e = rw e s
