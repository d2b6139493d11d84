-- `regions::bytes::get_region` meets its contract.
use Rattle.regions.specs.Bytes.{read_region}
use lib.Seq.{drop-drop}
use Rattle.regions.proofs.bytes.get_region.Goals as goal

pub returns : goal.returns
unfolding read_region
returns c = simp drop-drop (cc)
