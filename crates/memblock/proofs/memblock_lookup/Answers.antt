-- `memblock::memblock_lookup` meets its contract.
use Rattle.memblock.proofs.Lookups.{other_slip, place_told, none_told, refusal_told}
use borrow.Author.Rules.{rules}
use Rattle.memblock.proofs.memblock_lookup.Goals as goal

pub returns-then-slip-ne16 : goal.returns-then-slip-ne16
returns-then-slip-ne16 c = search (other_slip, rules)

pub returns-in-Ok-Some : goal.returns-in-Ok-Some
returns-in-Ok-Some c = let e = rw c.in-Ok-Some.field-0-is at c.in-Ok-Some.is in search (place_told, rules)

pub returns-in-Ok-None : goal.returns-in-Ok-None
returns-in-Ok-None c = let e = rw c.in-Ok-None.field-0-is at c.in-Ok-None.is in search (none_told, rules)

pub returns-in-Err : goal.returns-in-Err
returns-in-Err c = search (refusal_told, rules)
