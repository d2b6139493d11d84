-- `board::taking::intake_tree` meets its contract.
use Rattle.std.proofs.Common.{rules}
use Rattle.block.proofs.Layouts.{small_current, small_as}
use Rattle.tree.proofs.Heading.{formed_header, formed_parts}
use Rattle.board.proofs.Whole.{is_good_lem, not_good, no_form, alone_read, rooted, taken_alone}
use Rattle.board.proofs.taking.intake_tree.Goals as goal

pub block_good-requires : goal.block_good-requires
block_good-requires c = search (small_as small_current, rules)

pub returns-then-not-block_good : goal.returns-then-not-block_good
returns-then-not-block_good c = search (not_good, rules)

pub returns-in_default : goal.returns-in_default
returns-in_default c = search (no_form, rules)

pub list-requires : goal.list-requires
list-requires c = (search (formed_header, rules), search (formed_parts, rules))

pub take_valued-requires : goal.take_valued-requires
take_valued-requires c = (search (is_good_lem, rules), search (alone_read, rules), search (rooted, rules))

pub returns : goal.returns
returns c =
    taken_alone _ c.current_layout.ensures _ _ c.block_good.ensures _ (search rules) c.in-Some.ensures.0 _ c.in-Some.ensures.1 _ c.list.ensures _ c.take_valued.ensures
