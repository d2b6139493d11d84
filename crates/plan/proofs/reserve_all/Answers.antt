-- `plan::reserve_all` meets its contract.
use native.Mathlib.Omega.{arith}
use Rattle.regions.specs.declared.Kind.TheVariants.{Taken}
use Rattle.regions.proofs.Numbers.{bytes_all}
use Rattle.block.specs.Block.{current}
use Rattle.block.proofs.Blocks.{good_length}
use Rattle.range.proofs.Storing.{span_le}
use Rattle.range.proofs.Ranging.{list_is, list_good, range_whole, list_stored}
use Rattle.plan.proofs.Judging.{taken_length}
use borrow.Author.Rules.{rules}
use Rattle.plan.proofs.reserve_all.Goals as goal

pub get_header-own-requires : goal.get_header-own-requires
get_header-own-requires c =
    omega (arith, good_length current _ c.requires.good)

pub slice_bounds-place_all-end : goal.slice_bounds-place_all-end
slice_bounds-place_all-end c =
    let h = span_le _ _ _ c.requires.good c.table_span-span.ensures.1 in
    search rules

pub place_all-changed-requires-clause-whole : goal.place_all-changed-requires-clause-whole
place_all-changed-requires-clause-whole c = search (range_whole, bytes_all, rules)

pub place_all-changed-requires-clause-long : goal.place_all-changed-requires-clause-long
place_all-changed-requires-clause-long c = search (taken_length, rules)

pub place_all-changed-requires-clause-good : goal.place_all-changed-requires-clause-good
place_all-changed-requires-clause-good c =
    let y = c.table_span-span.ensures in
    let h = c.get_header-own.ensures in
    let t = c.tally-tally.ensures in
    rw (list_is _ c.requires.good Taken _ _ y.0 y.1 _ h _ t) (list_good _ c.requires.good Taken _ _ y.0 y.1 _ h _ t)

pub place_all-changed-requires-clause-apart : goal.place_all-changed-requires-clause-apart
place_all-changed-requires-clause-apart c =
    let y = c.table_span-span.ensures in
    rw (list_is _ c.requires.good Taken _ _ y.0 y.1 _ c.get_header-own.ensures _ c.tally-tally.ensures) c.requires.apart

pub store_changed-requires : goal.store_changed-requires
store_changed-requires c =
    omega (arith, good_length current _ c.requires.good, c.place_all-changed.auto)

pub returns : goal.returns
returns c =
    let y = c.table_span-span.ensures in
    let h = c.get_header-own.ensures in
    let t = c.tally-tally.ensures in
    let k = rw (list_is _ c.requires.good Taken _ _ y.0 y.1 _ h _ t) at c.place_all-changed.ensures in
    search (list_stored, bytes_all, rules)
