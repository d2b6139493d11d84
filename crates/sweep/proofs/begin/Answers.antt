-- `sweep::begin` meets its contract.
use Rattle.records.proofs.Placing.{place_le}
use Rattle.runs.proofs.Steps.{memory_table, taken_table}
use Rattle.sweep.proofs.Tables.{begins_low, begins_ahead}
use borrow.Author.Rules.{rules}
use Rattle.sweep.proofs.begin.Goals as goal

pub place-i-requires : goal.place-i-requires
place-i-requires c = search (memory_table, rules)

pub place-j-requires : goal.place-j-requires
place-j-requires c = search (taken_table, rules)

pub bounds_high-requires : goal.bounds_high-requires
bounds_high-requires c = (search (memory_table, rules), search (place_le, rules))

pub bounds_high-requires-2 : goal.bounds_high-requires-2
bounds_high-requires-2 c = (search (taken_table, rules), search (place_le, rules))

pub bounds_low-next-requires : goal.bounds_low-next-requires
bounds_low-next-requires c = search (taken_table, rules)

pub returns : goal.returns
returns c = (
  search (begins_low, rules),
  begins_ahead _ c.requires _ _ _ c.place-i.ensures c.place-j.ensures _ _ c.bounds_high.ensures
      c.bounds_high-2.ensures _ c.max.ensures _ c.bounds_low-next.ensures,
)
