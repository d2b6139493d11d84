-- `board::taking::intake_trees` meets its contract.
use Rattle.std.proofs.Common.{rules}
use Rattle.block.proofs.Layouts.{small_current, small_as}
use Rattle.tree.proofs.Heading.{formed_header, formed_parts}
use Rattle.board.proofs.Whole.{is_good_lem, pair_not_good, board_no_form, service_no_form, pair_read, rooted, pair_taken}
use Rattle.board.proofs.taking.intake_trees.Goals as goal

pub block_good-requires : goal.block_good-requires
block_good-requires c = search (small_as small_current, rules)

pub returns-then-not-block_good : goal.returns-then-not-block_good
returns-then-not-block_good c = search (pair_not_good, rules)

pub returns-in_default : goal.returns-in_default
returns-in_default c = search (board_no_form, rules)

pub returns-in_default-open : goal.returns-in_default-open
returns-in_default-open c = search (service_no_form, rules)

pub list-requires : goal.list-requires
list-requires c = (search (formed_header, rules), search (formed_parts, rules))

pub take_valued-requires : goal.take_valued-requires
take_valued-requires c = (search (is_good_lem, rules), search (pair_read, rules), search (rooted, rules))

pub returns : goal.returns
returns c =
    pair_taken _ c.current_layout.ensures _ _ c.block_good.ensures _ _ (search rules) c.in-Some.ensures.0 c.in-Some-open.ensures.0 _ _ c.in-Some.ensures.1 c.in-Some-open.ensures.1 _ c.list.ensures _ c.take_valued.ensures
