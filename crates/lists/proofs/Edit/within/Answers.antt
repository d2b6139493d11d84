-- `lists::Edit::within` meets its contract.
use Rattle.std.proofs.Common.{max, ◌∙◌, ap}
use Rattle.lists.proofs.Edit.within.Goals as goal

pub returns : goal.returns
returns c = (c.max.ensures ∙ ap (max c.args.from.0) c.min.ensures, c.max-2.ensures ∙ ap (max c.args.from.0) c.min-2.ensures)
