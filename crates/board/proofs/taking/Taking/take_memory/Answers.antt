-- `board::taking::Taking::take_memory` meets its contract.
use Rattle.std.proofs.Common.{rules}
use Rattle.board.proofs.Passes.{no_memory_lem, memory_added, id_there, id_legal}
use Rattle.board.proofs.taking.Taking.take_memory.Goals as goal

pub returns-then-not-is_just : goal.returns-then-not-is_just
returns-then-not-is_just c = search (no_memory_lem, rules)

pub returns-in_default : goal.returns-in_default
returns-in_default c = absurd (search (id_there, rules))

pub take_reg-requires : goal.take_reg-requires
take_reg-requires c = (search rules, search (id_legal, rules), search rules, search rules)

pub returns : goal.returns
returns c = search (memory_added, rules)
