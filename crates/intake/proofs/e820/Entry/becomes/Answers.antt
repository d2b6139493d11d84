-- `intake::e820::Entry::becomes` meets its contract.
use Rattle.std.proofs.Common.{rules}
use Rattle.intake.proofs.ByKind.{kind_outside, kind_listed}
use Rattle.intake.proofs.e820.Entry.becomes.Goals as goal

pub returns-in-Some : goal.returns-in-Some
returns-in-Some c = search (kind_listed, rules)

pub returns-in-None : goal.returns-in-None
returns-in-None c = kind_outside _ (search rules)
