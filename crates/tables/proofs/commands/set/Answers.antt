-- `tables::commands::set` meets its contract.
use Rattle.regions.proofs.Numbers.{bytes_all}
use Rattle.block.proofs.Layouts.{small_current, small_as}
use Rattle.tables.proofs.Setting.{set_bad, set_direction, checked_room, set_done}
use borrow.Author.Rules.{rules}
use Rattle.tables.proofs.commands.set.Goals as goal

pub returns-then-not-block_good : goal.returns-then-not-block_good
returns-then-not-block_good c = search (set_bad, rules)

pub returns-then-direction-gt1 : goal.returns-then-direction-gt1
returns-then-direction-gt1 c = search (set_direction, rules)

pub get_header-own-requires : goal.get_header-own-requires
get_header-own-requires c = search (checked_room, rules)

pub put_header-requires : goal.put_header-requires
put_header-requires c = search (small_as small_current, checked_room, rules)

pub returns : goal.returns
returns c = search (set_done, bytes_all, rules)
