-- `pages::put_piece` meets its contract.
use Rattle.pages.proofs.Writing.{sets_piece}
use Rattle.pages.proofs.put_piece.Goals as goal

pub returns : goal.returns
returns c = rw (← sets_piece) (cc)
