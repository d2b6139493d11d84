-- Layouts whose offsets fit, and a header with other tallies. Only inner contracts and proofs cite this module. Assumes nothing.
use Rattle.std.specs.Prelude.{◌≤◌}
use Rattle.regions.specs.declared.Kind.{Kind}
use Rattle.regions.specs.declared.Kind.TheVariants.{Memory, Taken}
use Rattle.address.specs.declared.Size.{Size}
use Rattle.block.specs.declared.Layout.{Layout}
use Rattle.block.specs.declared.Header.{Header}
use Rattle.records.specs.declared.table.Tally.{Tally}

-- a layout whose offsets fit the header's fields
pub record Small (L : Layout) : Type 0 where
  pub memory : L.memory ≤ 65536
  pub taken : L.taken ≤ 65536

-- a header with other totals
abbrev pub with_totals : Header → Size → Size → Header
with_totals h memory taken =
    record {
      memory = record { count = h.memory.count; total = memory };
      taken = record { count = h.taken.count; total = taken };
      settings = h.settings;
    }

-- a table's part of a header, and the header with another
abbrev pub tally_of : Header → Kind → Tally
tally_of h Memory = h.memory
tally_of h Taken = h.taken

abbrev pub with_tally : Header → Kind → Tally → Header
with_tally h Memory t = record { memory = t; taken = h.taken; settings = h.settings }
with_tally h Taken t = record { memory = h.memory; taken = t; settings = h.settings }
