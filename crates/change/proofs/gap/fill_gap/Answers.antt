-- `change::gap::fill_gap` meets its contract.
use Rattle.records.proofs.Placing.{place_le}
use Rattle.change.proofs.Splicing.{put_room}
use Rattle.change.proofs.Filling.{gap_order, gap_most, gap_left, gap_full, gap_small, gap_done}
use borrow.Author.Rules.{rules}
use native.Mathlib.Omega.{arith}
use Rattle.change.proofs.gap.fill_gap.Goals as goal

pub side_below-low-requires : goal.side_below-low-requires
side_below-low-requires c = omega (arith, place_le _ _ _ _ c.requires.1.0.0, c.requires.0.table.room)

pub side_above-high-requires : goal.side_above-high-requires
side_above-high-requires c = search (place_le, rules)

pub overflow_sub-left-2 : goal.overflow_sub-left-2
overflow_sub-left-2 c = search (gap_left, rules)

pub returns-then-t-left : goal.returns-then-t-left
returns-then-t-left c = search (gap_full, rules)

pub replace_one-requires : goal.replace_one-requires
replace_one-requires c = search (gap_order, gap_most, put_room, rules)

pub add-requires : goal.add-requires
add-requires c = search (gap_small, rules)

pub returns : goal.returns
returns c = search (gap_done, rules)
