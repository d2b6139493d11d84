-- `plan::fill_each` meets its contract.
use Rattle.plan.proofs.Filling.{upto_start, upto_end, upto_next, fill_whole, fill_some, fill_end, fill_vacant, fills}
use borrow.Author.Rules.{rules}
use Rattle.plan.proofs.fill_each.Goals as goal

pub loop-r-init : goal.loop-r-init
loop-r-init c = search (upto_start, rules)

pub fill_table-requires : goal.fill_table-requires
fill_table-requires c = search (fill_whole, fill_some, fill_end, fill_vacant, rules)

pub unwrap-held-requires : goal.unwrap-held-requires
unwrap-held-requires c =
    fills _ _ _ c.requires.spells c.requires.apart _ _ _ c.loop-r.invariant c.loop-r-test.true _ c.requires.room _ _ c.fill_table.ensures

pub loop-r-preserved : goal.loop-r-preserved
loop-r-preserved c = search (upto_next, rules)

pub returns : goal.returns
returns c = search (upto_end, rules)
