-- `search::find::put_slip` meets its contract.
use Rattle.search.proofs.Answering.{slip_written}
use borrow.Author.Rules.{rules}
use Rattle.search.proofs.find.put_slip.Goals as goal

pub returns : goal.returns
returns c = search (slip_written, rules)
