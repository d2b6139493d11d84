-- `pages::Span::piece_at` meets its contract. The invariant: no order above the one at hand fits.
use Rattle.pages.proofs.Trying.{size_power, piece_is, page_is}
use borrow.Author.Rules.{rules}
use Rattle.pages.proofs.Span.piece_at.Goals as goal
use Rattle.pages.proofs.Span.piece_at.Goals.{then-loop-order-test+else-not-holds, else-loop-order-test}

pub holds-requires : goal.holds-requires
holds-requires c = (search rules, search (size_power, rules))

pub round_down-start-requires : goal.round_down-start-requires
round_down-start-requires c = search (size_power, rules)

pub returns : goal.returns
returns c =
    elim c.loop-order-test.branch [
      | then-loop-order-test+else-not-holds w ↦ search (piece_is, rules)
      | else-loop-order-test w ↦ search (page_is, rules)
    ]
