-- `board::taking::Taking::take_if_reserved` meets its contract.
use Rattle.std.proofs.Common.{rules}
use Rattle.board.proofs.Passes.{no_reserved}
use Rattle.board.proofs.taking.Taking.take_if_reserved.Goals as goal

pub returns : goal.returns
returns c = search (no_reserved, rules)
