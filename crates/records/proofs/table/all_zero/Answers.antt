-- `records::table::all_zero` meets its contract.
use Rattle.std.proofs.Common.{rules}
use Rattle.records.proofs.Zeros.{none_yet, zero_turn, turn_hit, zero_first}
use Rattle.records.proofs.table.all_zero.Goals as goal

pub loop-i-init : goal.loop-i-init
loop-i-init c = search (none_yet, rules)

pub returns-then-any16-ne0 : goal.returns-then-any16-ne0
returns-then-any16-ne0 c = search (turn_hit, rules)

pub loop-i-preserved : goal.loop-i-preserved
loop-i-preserved c = (search rules, (search rules, search (zero_turn, rules)))

pub returns-then-n-at-ge128 : goal.returns-then-n-at-ge128
returns-then-n-at-ge128 c = search (zero_first, rules)
