-- `plan::place_all` meets its contract.
use Rattle.regions.proofs.Numbers.{bytes_all}
use Rattle.plan.proofs.Filling.{copied_spells, copied_room, copied_apart, placed_full, placed_done}
use borrow.Author.Rules.{rules}
use Rattle.plan.proofs.place_all.Goals as goal

pub fill_each-new-requires-clause-spells : goal.fill_each-new-requires-clause-spells
fill_each-new-requires-clause-spells c = search (copied_spells, bytes_all, rules)

pub fill_each-new-requires-clause-room : goal.fill_each-new-requires-clause-room
fill_each-new-requires-clause-room c = search (copied_room, bytes_all, rules)

pub fill_each-new-requires-clause-apart : goal.fill_each-new-requires-clause-apart
fill_each-new-requires-clause-apart c = search (copied_apart, bytes_all, rules)

pub returns-then-t-new : goal.returns-then-t-new
returns-then-t-new c = search (placed_full, bytes_all, rules)

pub returns : goal.returns
returns c = search (placed_done, bytes_all, rules)
