-- `tables::commands::set_image_end` meets its contract.
use Rattle.tables.proofs.Setting.{image_bad, checked_room, image_done}
use borrow.Author.Rules.{rules}
use Rattle.tables.proofs.commands.set_image_end.Goals as goal

pub returns-then-not-block_good : goal.returns-then-not-block_good
returns-then-not-block_good c = search (image_bad, rules)

pub put_image_end-requires : goal.put_image_end-requires
put_image_end-requires c = search (checked_room, rules)

pub returns : goal.returns
returns c = search (image_done, rules)
