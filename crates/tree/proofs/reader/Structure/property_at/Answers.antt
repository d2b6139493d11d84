-- `tree::reader::Structure::property_at` meets its contract.
use Rattle.tree.proofs.Stepping.{property_short, property_long, property_unnamed, property_whole}
use borrow.Author.Rules.{rules}
use Rattle.tree.proofs.reader.Structure.property_at.Goals as goal
use Rattle.tree.proofs.reader.Structure.property_at.Goals.{then-len-from-via-then-len-from, then-len-from-via-else-len-from+then-self-name}

pub returns-then-len-from-lt8 : goal.returns-then-len-from-lt8
returns-then-len-from-lt8 c = rw c.broken.ensures (search (property_short, rules))

pub returns-then-len-from : goal.returns-then-len-from
returns-then-len-from c =
    rw c.broken-then-len-from.ensures
    (elim c.then-len-from.branch [
      | then-len-from-via-then-len-from w ↦ search (property_long, rules)
      | then-len-from-via-else-len-from+then-self-name w ↦ search (property_unnamed, rules)
    ])

pub returns : goal.returns
returns c = search (property_whole, rules)
