-- `address::round_up` meets its contract.
use Rattle.std.proofs.Common.{rules}
use Rattle.address.proofs.Rounding.{up_even, up_odd, rest_le_divisor}
use Rattle.address.proofs.round_up.Goals as goal

pub returns-then-over-eq0 : goal.returns-then-over-eq0
returns-then-over-eq0 c = rw (up_even _ _ _ c.remainder-over.ensures c.if-over-eq0.true) (search rules)

pub overflow_sub-by : goal.overflow_sub-by
overflow_sub-by c = search (rest_le_divisor, rules)

pub returns : goal.returns
returns c = rw (up_odd _ _ _ c.remainder-over.ensures c.if-over-eq0.false) c.checked_add.ensures
