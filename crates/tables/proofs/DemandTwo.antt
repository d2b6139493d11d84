-- A command answers 6 exactly when its finished list would not fit. Assumes nothing.
use mathlib.Core.Path.{◌≡◌, ap}
use native.Mathlib.Omega.{arith}
use lib.ListN.{length}
use borrow.Author.Tests.{lt-leb, leb-false}
use Rattle.address.proofs.Tests.{clash}
use Rattle.block.specs.Block.{capacity, good}
use Rattle.range.specs.Outcomes.{Outcome}
use Rattle.tables.specs.Commands.{table, legal_verb, command_outcome}
use Rattle.tables.specs.DemandTwo.{finished, Full, FullSentence}
use Rattle.tables.proofs.Answered.{Answered, not_good, not_legal, not_allowed, no_room, done, has_room, answered, number_is}
use Rattle.tables.proofs.NotTaken.{not_allowed_lem, never_full}

pub full_sentence : FullSentence
full_sentence L c b = (λ e. only e (answered L c b), λ f. given f (answered L c b))
  where
    only : (command_outcome L c b).number ≡ 6 → Answered L c b → Full L c b
    only h (not_good g e) = absurd (omega (arith, number_is e h))
    only h (not_legal g l e) = absurd (omega (arith, number_is e h))
    only h (not_allowed g l a e) = absurd (omega (arith, number_is e h))
    only h (no_room g l a m e) = record { is_good = g; legal = l; no_room = leb-false (length (finished L c b)) (capacity L (table c.verb)) m }
    only h (done g l a m e) = absurd (omega (arith, number_is e h))

    given : Full L c b → Answered L c b → (command_outcome L c b).number ≡ 6
    given f (not_good g e) = absurd (clash (good L b) f.is_good g)
    given f (not_legal g l e) = absurd (clash (legal_verb c.verb) f.legal l)
    given f (not_allowed g l a e) = absurd (never_full L c b (not_allowed_lem L c b g a) f)
    given f (no_room g l a m e) = ap (λ (o : Outcome). o.number) e
    given f (done g l a m e) = absurd (clash (has_room L c b) m (lt-leb (length (finished L c b)) (capacity L (table c.verb)) f.no_room))
