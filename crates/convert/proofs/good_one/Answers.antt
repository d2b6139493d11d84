-- `convert::good_one` meets its contract.
use Rattle.convert.proofs.Converting.{old_header, old_memory, not_edition_one, edition_one_lem, one_image, one_room, one_judged}
use borrow.Author.Rules.{rules}
use Rattle.convert.proofs.good_one.Goals as goal

pub returns-then-not-block_good : goal.returns-then-not-block_good
returns-then-not-block_good c = search (not_edition_one, rules)

pub get_header-h-requires : goal.get_header-h-requires
get_header-h-requires c = search (old_header, edition_one_lem, rules)

pub slice_bounds-memory-end : goal.slice_bounds-memory-end
slice_bounds-memory-end c = search (old_memory, edition_one_lem, rules)

pub flags_one-requires : goal.flags_one-requires
flags_one-requires c = search (one_room, rules)

pub returns-then-h-eq0 : goal.returns-then-h-eq0
returns-then-h-eq0 c = search (one_judged, rules)

pub returns-else-h-eq0 : goal.returns-else-h-eq0
returns-else-h-eq0 c = search (one_image, rules)
