-- `intake::e820::take_entry` meets its contract.
use Rattle.intake.proofs.ByKind.{plain_legal, entry_added, entry_passed}
use borrow.Author.Rules.{rules}
use Rattle.intake.proofs.e820.take_entry.Goals as goal

pub on_good-requires : goal.on_good-requires
on_good-requires c = (search rules, plain_legal)

pub returns-in-Added : goal.returns-in-Added
returns-in-Added c = search (entry_added, rules)

pub returns-in-PassedOver : goal.returns-in-PassedOver
returns-in-PassedOver c = search (entry_passed, rules)
