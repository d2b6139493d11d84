-- `records::table::few_zero` meets its contract.
use Rattle.std.proofs.Common.{rules}
use Rattle.records.proofs.Zeros.{zeros_rest, zeros_hit8, zeros_again8}
use Rattle.records.proofs.table.few_zero.Goals as goal

pub returns-then-get_u64-ne0 : goal.returns-then-get_u64-ne0
returns-then-get_u64-ne0 c = search (zeros_hit8, rules)

pub loop-i-preserved : goal.loop-i-preserved
loop-i-preserved c = (search rules, search (zeros_again8, rules))

pub returns : goal.returns
returns c = search (zeros_rest, rules)
