-- `range::fill_range` meets its contract.
use Rattle.regions.proofs.Numbers.{bytes_all}
use Rattle.block.proofs.Blocks.{good_length}
use Rattle.range.proofs.Storing.{span_le}
use Rattle.range.proofs.Ranging.{range_whole, range_vacant, range_stored}
use borrow.Author.Rules.{rules}
use native.Mathlib.Omega.{arith}
use Rattle.block.specs.Block.{current}
use Rattle.range.proofs.fill_range.Goals as goal

pub get_header-own-requires : goal.get_header-own-requires
get_header-own-requires c = omega (arith, good_length current _ c.requires.0)

pub slice_bounds-fill_table-end : goal.slice_bounds-fill_table-end
slice_bounds-fill_table-end c = search (span_le, rules)

pub fill_table-changed-requires : goal.fill_table-changed-requires
fill_table-changed-requires c = search (bytes_all, range_whole, range_vacant, rules)

pub store_changed-requires : goal.store_changed-requires
store_changed-requires c = omega (arith, good_length current _ c.requires.0, c.fill_table-changed.auto)

pub returns : goal.returns
returns c = search (bytes_all, range_stored, rules)
