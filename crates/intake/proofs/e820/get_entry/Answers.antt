-- `intake::e820::get_entry` meets its contract.
use lib.Seq.{drop-drop}
use Rattle.intake.specs.E820.{read_entry}
use Rattle.intake.proofs.e820.get_entry.Goals as goal

pub returns : goal.returns
unfolding read_entry
returns c = simp drop-drop (cc)
