-- `memblock::memblock_trim` meets its contract.
use Rattle.memblock.specs.Calls.{answer_of}
use Rattle.memblock.proofs.Called.{called}
use borrow.Author.Rules.{rules}
use Rattle.memblock.proofs.memblock_trim.Goals as goal

pub returns : goal.returns
unfolding answer_of
returns c = search (called, rules)
