-- `records::table::Records::check` meets its contract.
use Rattle.std.proofs.Common.{◌≡◌, true, arith, rules}
use Rattle.regions.specs.Meaning.{top_is}
use Rattle.regions.specs.Lists.{fits}
use Rattle.records.proofs.Checking.{records_start, records_done, records_tag, records_past, records_low, records_touch, fit_level, fit_above, records_next}
use Rattle.records.proofs.table.Records.check.Goals as goal
use Rattle.records.proofs.table.Records.check.Goals.{then-base-low+else-base-low-2+else-is, else-base-low}

pub loop-i-init : goal.loop-i-init
loop-i-init c = search (records_start, rules)

pub returns-then-not-legal : goal.returns-then-not-legal
returns-then-not-legal c = search (records_tag, rules)

pub returns-then-end-base : goal.returns-then-end-base
returns-then-end-base c = search (records_past, rules)

pub returns-then-base-low-2 : goal.returns-then-base-low-2
returns-then-base-low-2 c = search (records_low, rules)

pub returns-then-is : goal.returns-then-is
returns-then-is c = search (records_touch, rules)

pub loop-i-preserved : goal.loop-i-preserved
loop-i-preserved c =
    let o = c.loop-i in
    let q : true ≡ fits o.low o.below c.get-r.result = elim c.if-base-low.branch [
      | then-base-low+else-base-low-2+else-is w ↦ search (fit_level, rules)
      | else-base-low w ↦ search (fit_above, rules)
    ] in
    search (records_next, rules)

-- the sum is the total of what is checked then

pub overflow_add-total : goal.overflow_add-total
overflow_add-total c = record { fits = omega (arith, (loop-i-preserved c).small, (loop-i-preserved c).high, top_is) }

pub returns : goal.returns
returns c = search (records_done, rules)
