-- `tree::header::structure` meets its contract.
use Rattle.tree.proofs.Heading.{structure_in}
use Rattle.tree.proofs.header.structure.Goals as goal

pub part-requires-clause-inside : goal.part-requires-clause-inside
part-requires-clause-inside c = structure_in c.args.tree.now c.requires.1
