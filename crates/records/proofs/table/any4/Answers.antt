-- `records::table::any4` meets its contract.
use Rattle.records.proofs.Zeros.{four_words}
use Rattle.std.proofs.Common.{rules}
use Rattle.records.proofs.table.any4.Goals as goal

pub returns : goal.returns
returns c = search (four_words, rules)
