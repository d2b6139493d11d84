-- `range::table_span` meets its contract.
use Rattle.range.proofs.Storing.{start_bound, capacity_now, start_now, span_end}
use Rattle.block.proofs.Layouts.{small_current, small_as}
use native.Mathlib.Omega.{arith}
use borrow.Author.Rules.{rules}
use Rattle.range.proofs.table_span.Goals as goal

pub start-start-requires : goal.start-start-requires
start-start-requires c = search (small_as small_current, rules)

pub overflow_mul-result : goal.overflow_mul-result
overflow_mul-result c =
    let h = capacity_now _ _ _ c.current_layout-layout.ensures c.capacity.ensures in
    record { fits = omega arith }

pub overflow_add-result : goal.overflow_add-result
overflow_add-result c =
    let h = capacity_now _ _ _ c.current_layout-layout.ensures c.capacity.ensures in
    let s = start_bound _ _ _ c.current_layout-layout.ensures c.start-start.ensures in
    record { fits = omega arith }

pub returns : goal.returns
returns c = (search (start_now, rules), search (span_end, rules))
