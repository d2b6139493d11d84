-- `seek::find_in` meets its contract.
use Rattle.seek.proofs.InBlock.{header_room, find_up, find_down}
use borrow.Author.Rules.{rules}
use Rattle.seek.proofs.find_in.Goals as goal

pub get_header-requires : goal.get_header-requires
get_header-requires c = search (header_room, rules)

pub returns-then-settings-ne1 : goal.returns-then-settings-ne1
returns-then-settings-ne1 c = search (find_down, rules)

pub returns : goal.returns
returns c = search (find_up, rules)
