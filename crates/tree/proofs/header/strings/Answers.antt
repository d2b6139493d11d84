-- `tree::header::strings` meets its contract.
use Rattle.tree.proofs.Heading.{strings_in}
use Rattle.tree.proofs.header.strings.Goals as goal

pub part-requires-clause-inside : goal.part-requires-clause-inside
part-requires-clause-inside c = strings_in c.args.tree.now c.requires.1
