-- `records::table::any16` meets its contract.
use Rattle.records.proofs.Zeros.{four_32}
use Rattle.std.proofs.Common.{rules}
use Rattle.records.proofs.table.any16.Goals as goal

pub returns : goal.returns
returns c = search (four_32, rules)
