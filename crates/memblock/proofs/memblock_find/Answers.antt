-- `memblock::memblock_find` meets its contract.
use Rattle.memblock.specs.Calls.{answer_of}
use borrow.Author.Rules.{rules}
use Rattle.memblock.proofs.memblock_find.Goals as goal

pub returns : goal.returns
unfolding answer_of
returns c = search rules
