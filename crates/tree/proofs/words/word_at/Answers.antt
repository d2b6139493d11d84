-- `tree::words::word_at` meets its contract.
use mathlib.Core.Path.{◌∙◌}
use Rattle.tree.proofs.Numbers.{word_at}
use Rattle.tree.proofs.words.word_at.Goals as goal

pub returns : goal.returns
returns c = c.from_be_bytes.ensures ∙ word_at c.args.at c.args.s.now
