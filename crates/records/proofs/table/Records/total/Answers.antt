-- `records::table::Records::total` meets its contract.
use Rattle.std.proofs.Common.{rules}
use Rattle.records.proofs.Totals.{sum_start, sum_end, sum_fits, sum_next}
use Rattle.records.proofs.table.Records.total.Goals as goal

pub loop-i-init : goal.loop-i-init
loop-i-init c = search (sum_start, rules)

pub add-sum-requires : goal.add-sum-requires
add-sum-requires c = search (sum_fits, rules)

pub loop-i-preserved : goal.loop-i-preserved
loop-i-preserved c = search (sum_next, rules)

pub returns : goal.returns
returns c = search (sum_end, rules)
