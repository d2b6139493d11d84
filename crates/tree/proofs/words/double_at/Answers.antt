-- `tree::words::double_at` meets its contract.
use mathlib.Core.Path.{◌∙◌}
use Rattle.tree.proofs.Numbers.{double_at}
use Rattle.tree.proofs.words.double_at.Goals as goal

pub returns : goal.returns
returns c = c.from_be_bytes.ensures ∙ double_at c.args.at c.args.s.now
