-- `seek::eligible_in` meets its contract.
use Rattle.seek.proofs.InBlock.{header_room}
use Rattle.seek.proofs.AtAddress.{in_window}
use borrow.Author.Rules.{rules}
use Rattle.seek.proofs.eligible_in.Goals as goal

pub get_header-requires : goal.get_header-requires
get_header-requires c = search (header_room, rules)

pub returns : goal.returns
returns c = search (in_window, rules)
