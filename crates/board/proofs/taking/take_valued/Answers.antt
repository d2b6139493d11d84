-- `board::taking::take_valued` meets its contract.
use Rattle.std.proofs.Common.{rules}
use Rattle.board.proofs.Whole.{no_address, no_size, bad_values, good_values}
use Rattle.board.proofs.taking.take_valued.Goals as goal

pub returns-in_default : goal.returns-in_default
returns-in_default c = search (no_address, rules)

pub returns-in_default-cell_count : goal.returns-in_default-cell_count
returns-in_default-cell_count c = search (no_size, rules)

pub returns-then-not-children_ok : goal.returns-then-not-children_ok
returns-then-not-children_ok c = search (bad_values, rules)

pub returns : goal.returns
returns c = search (good_values, rules)
