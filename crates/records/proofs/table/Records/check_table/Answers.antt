-- `records::table::Records::check_table` meets its contract.
use Rattle.records.proofs.Checking.{table_long, table_bad, table_tail, table_done}
use Rattle.std.proofs.Common.{rules}
use Rattle.records.proofs.table.Records.check_table.Goals as goal

pub returns-then-self : goal.returns-then-self
returns-then-self c = search (table_long, rules)

pub returns-in_err-total : goal.returns-in_err-total
returns-in_err-total c = search (table_bad, rules)

pub returns-then-not-all_zero : goal.returns-then-not-all_zero
returns-then-not-all_zero c = search (table_tail, rules)

pub returns : goal.returns
returns c = search (table_done, rules)
