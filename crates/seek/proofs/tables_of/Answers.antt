-- `seek::tables_of` meets its contract.
use mathlib.Core.Path.{refl}
use native.Mathlib.Omega.{arith}
use Rattle.block.specs.Block.{current}
use Rattle.block.proofs.Blocks.{good_length}
use Rattle.seek.proofs.InBlock.{tables_are}
use Rattle.seek.proofs.tables_of.Goals as goal

pub get_header-h-requires : goal.get_header-h-requires
get_header-h-requires c = omega (arith, good_length current _ c.requires)

pub slice_bounds-result-end : goal.slice_bounds-result-end
slice_bounds-result-end c = omega (arith, good_length current _ c.requires)

pub slice_bounds-result-end-2 : goal.slice_bounds-result-end-2
slice_bounds-result-end-2 c = omega (arith, good_length current _ c.requires)

pub returns : goal.returns
returns c = tables_are _ c.requires _ c.get_header-h.ensures _ refl refl refl refl
