-- The bytes of a good list are a table. Assumes nothing.
use Rattle.std.proofs.Common.{◌≡◌, ℕ, ◌*◌, ◌≤◌, true, eqb, leb, List, [], ◌∷◌, length, arith, eqb-true, leb-true}
use Rattle.address.proofs.Tests.{both}
use Rattle.regions.specs.declared.Kind.{Kind}
use Rattle.regions.specs.declared.Kind.TheVariants.{Memory, Taken}
use Rattle.regions.specs.declared.Tag.{Tag}
use Rattle.regions.specs.declared.Region.{Region}
use Rattle.regions.specs.Lists.{legal, legal_tag, good_list}
use Rattle.regions.specs.Bytes.{read_regions}
use Rattle.regions.proofs.Rises.{Rises-rises}
use Rattle.regions.proofs.Good.{good_rises, good_legal}
use Rattle.records.specs.Steps.{AllFlagsBounded, Table}

-- legal tags have few flags
tag_flags_bounded : (k : Kind) (t : Tag) → legal_tag k t ≡ true → t.flags ≤ 7
unfolding legal_tag
tag_flags_bounded Memory t e = leb-true t.flags 7 (both (leb t.flags 7) (leb t.node 63) e).0
tag_flags_bounded Taken t e = omega (arith, eqb-true t.flags 0 (both (eqb t.flags 0) (eqb t.node 0) e).0)

legal_flags_bounded : (k : Kind) (xs : List Region) → legal k xs ≡ true → AllFlagsBounded xs
unfolding legal
legal_flags_bounded k [] e = tt
legal_flags_bounded k (r ∷ rs) e =
    let p = both (legal_tag k r.tag) (legal k rs) e in
    (tag_flags_bounded k r.tag p.0, legal_flags_bounded k rs p.1)

pub good_table_lem : (k : Kind) (n : ℕ) (l : List ℕ) → 24 * n ≤ length l → good_list k (read_regions n l) ≡ true → Table l n
good_table_lem k n l h g =
    record {
      room = h;
      rising = Rises-rises (good_rises k (read_regions n l) g);
      flags_bounded = legal_flags_bounded k (read_regions n l) (good_legal k (read_regions n l) g);
    }
