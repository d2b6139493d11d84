-- `change::inplace::splice` meets its contract.
use Rattle.change.proofs.Splicing.{part_room, part_rises, splice_full, lost_le, put_small, splice_done, counted}
use borrow.Author.Rules.{rules}
use Rattle.change.proofs.inplace.splice.Goals as goal

pub returns-then-t-left : goal.returns-then-t-left
returns-then-t-left c = search (splice_full, counted, rules)

pub total-requires : goal.total-requires
total-requires c =
    let p = c.requires in
    (part_room _ _ _ _ p.1.0.0 p.1.0.1 p.0.table.room, part_rises _ _ _ _ p.1.0.0 p.1.0.1 p.0.table.room p.0.table.rising)

pub sub-requires : goal.sub-requires
sub-requires c = search (lost_le, rules)

pub add-total-requires : goal.add-total-requires
add-total-requires c = search (put_small, rules)

pub returns : goal.returns
returns c = search (splice_done, counted, rules)
