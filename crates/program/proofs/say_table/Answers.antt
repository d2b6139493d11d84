-- `program::say_table` meets its contract.
use Rattle.block.specs.Block.{current}
use Rattle.block.proofs.Blocks.{good_length}
use Rattle.range.proofs.Storing.{span_le}
use Rattle.range.proofs.Ranging.{range_table}
use native.Mathlib.Omega.{arith}
use borrow.Author.Rules.{rules}
use Rattle.program.proofs.say_table.Goals as goal

pub get_header-requires : goal.get_header-requires
get_header-requires g c = omega (arith, good_length current _ c.requires)

pub slice_bounds-table-end : goal.slice_bounds-table-end
slice_bounds-table-end g c =
    let h = span_le _ _ _ c.requires c.table_span-span.ensures.1 in
    search rules

pub get_region-requires : goal.get_region-requires
get_region-requires g c =
    let span = c.table_span-span.ensures in
    let table = range_table _ c.requires _ _ _ span.0 span.1 _ c.get_header.ensures _ c.tally-count.ensures in
    omega (arith, table.room, c.loop-i-test.true)
