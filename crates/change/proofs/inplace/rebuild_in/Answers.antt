-- `change::inplace::rebuild_in` meets its contract.
use native.Mathlib.Omega.{arith}
use Rattle.change.proofs.Rebuilding.{met_order, met_small, met_room, part_table, tried_full, splice_ready, tried_spliced}
use borrow.Author.Rules.{rules}
use Rattle.change.proofs.inplace.rebuild_in.Goals as goal

pub overflow_mul-old : goal.overflow_mul-old
overflow_mul-old c = let p = c.requires in record { fits = omega (arith, met_order _ _ _ _ p, met_small _ _ _ _ p) }

pub overflow_mul-old-2 : goal.overflow_mul-old-2
overflow_mul-old-2 c = let p = c.requires in record { fits = omega (arith, met_small _ _ _ _ p) }

pub overflow_sub-old : goal.overflow_sub-old
overflow_sub-old c = search (met_order, rules)

pub slice_bounds-old-count : goal.slice_bounds-old-count
slice_bounds-old-count c = omega (arith, met_order _ _ _ _ c.requires)

pub slice_bounds-old-start : goal.slice_bounds-old-start
slice_bounds-old-start c = omega (arith, met_order _ _ _ _ c.requires)

pub slice_bounds-old-end : goal.slice_bounds-old-end
slice_bounds-old-end c = search (met_room, rules)

pub change_list-requires : goal.change_list-requires
change_list-requires c = search (part_table, rules)

pub returns-in_err-count : goal.returns-in_err-count
returns-in_err-count c = search (tried_full, rules)

pub splice-requires : goal.splice-requires
splice-requires c = splice_ready _ _ _ _ c.requires _ _ _ c.change_list.ensures _ c.in_ok-count.was (omega arith)

pub returns : goal.returns
returns c = tried_spliced _ _ _ _ c.requires _ _ _ c.change_list.ensures _ c.in_ok-count.was _ _ c.splice.ensures
