-- `range::trim_memory` meets its contract.
use Rattle.regions.proofs.Numbers.{bytes_all}
use Rattle.block.proofs.Blocks.{good_length}
use Rattle.block.proofs.Layouts.{small_current, small_as}
use Rattle.range.proofs.Storing.{span_le}
use Rattle.range.proofs.Ranging.{range_whole, trim_done}
use borrow.Author.Rules.{rules}
use native.Mathlib.Omega.{arith}
use Rattle.block.specs.Block.{current}
use Rattle.range.proofs.trim_memory.Goals as goal

pub get_header-own-requires : goal.get_header-own-requires
get_header-own-requires c = omega (arith, good_length current _ c.requires.0)

pub slice_bounds-trim_table-end : goal.slice_bounds-trim_table-end
slice_bounds-trim_table-end c = search (span_le, rules)

pub trim_table-new-requires : goal.trim_table-new-requires
trim_table-new-requires c = search (bytes_all, range_whole, rules)

pub put_header-requires : goal.put_header-requires
put_header-requires c = (omega (arith, good_length current _ c.requires.0, c.trim_table-new.auto), small_as small_current _ c.current_layout.ensures)

pub returns : goal.returns
returns c = search (bytes_all, trim_done, rules)
