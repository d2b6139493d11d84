-- `change::inplace::meet` meets its contract.
use Rattle.change.proofs.Meeting.{meet_low}
use borrow.Author.Rules.{rules}
use Rattle.change.proofs.inplace.meet.Goals as goal

pub starting_by-stop-requires : goal.starting_by-stop-requires
starting_by-stop-requires c = search (meet_low, rules)
