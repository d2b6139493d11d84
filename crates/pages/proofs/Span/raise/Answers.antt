-- `pages::Span::raise` meets its contract.
use Rattle.pages.proofs.Trying.{double_power, raise_stays}
use borrow.Author.Rules.{rules}
use Rattle.pages.proofs.Span.raise.Goals as goal

pub holds-requires : goal.holds-requires
holds-requires c = (search rules, search (double_power, rules))

pub returns-else-holds : goal.returns-else-holds
returns-else-holds c = (search rules, search (raise_stays, rules))
