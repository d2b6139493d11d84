-- `range::change_range` meets its contract.
use Rattle.regions.proofs.Numbers.{bytes_all}
use Rattle.block.proofs.Blocks.{good_length}
use Rattle.range.proofs.Storing.{span_le}
use Rattle.range.proofs.Ranging.{editable, range_whole, range_changeable, range_tagged, range_stored_if}
use borrow.Author.Rules.{rules}
use native.Mathlib.Omega.{arith}
use Rattle.block.specs.Block.{current}
use Rattle.range.proofs.change_range.Goals as goal

pub get_header-own-requires : goal.get_header-own-requires
get_header-own-requires c = omega (arith, good_length current _ c.requires.0)

pub slice_bounds-change_table-end : goal.slice_bounds-change_table-end
slice_bounds-change_table-end c = search (span_le, rules)

pub change_table-changed-requires : goal.change_table-changed-requires
change_table-changed-requires c =
    let d = editable c.args.kind c.args.change c.args.base _ _ c.requires.1.0 (omega arith) c.cut_end.ensures in
    (search (bytes_all, range_whole, rules), (search (range_changeable, rules), search (range_tagged, rules)))

pub store_changed-requires : goal.store_changed-requires
store_changed-requires c = omega (arith, good_length current _ c.requires.0, c.change_table-changed.auto)

pub returns : goal.returns
returns c = search (bytes_all, range_stored_if, rules)
