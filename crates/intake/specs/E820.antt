-- Taking in an E820 report: what it answers and leaves, for any bytes. Assumes nothing.
use Rattle.std.specs.Prelude.{ℕ, zero, suc, ◌/◌, ◌%◌, Bool, cond, ◌&&◌, List, [], ◌∷◌, ◌++◌, leb, eqb, length, drop}
use Rattle.regions.specs.Bytes.{number}
use Rattle.block.specs.declared.Layout.{Layout}
use Rattle.block.specs.Block.{good}
use Rattle.tables.specs.declared.commands.Verb.TheVariants.{Add}
use Rattle.range.specs.Outcomes.{Outcome, unless, tag}
use Rattle.tables.specs.Commands.{Command, command, trim}
use Rattle.intake.specs.declared.e820.Entry.{Entry}
use Rattle.intake.specs.declared.e820.Becomes.{Becomes}
use Rattle.intake.specs.declared.e820.Becomes.TheVariants.{Added, PassedOver}
use Rattle.intake.specs.Turns.{Step, steps, wholly}

-- ---- the report

-- u64 base, u64 length, u32 kind
unfoldable pub read_entry : List ℕ → Entry
read_entry l = record { base = record { 0 = number 8 l }; size = record { 0 = number 8 (drop 8 l) }; kind = number 4 (drop 16 l) }

-- n entries of 20 bytes, one after the other
unfoldable pub read_entries : ℕ → List ℕ → List Entry
read_entries zero l = []
read_entries (suc n) l = read_entry l ∷ read_entries n (drop 20 l)

abbrev pub entries : List ℕ → List Entry
entries report = read_entries (length report / 20) report

-- whole entries, and no more than 128
unfoldable pub readable : List ℕ → Bool
readable report = eqb (length report % 20) 0 && leb (length report / 20) 128

-- ---- taking it in

-- kind 1 is added, all other numbers are passed over
unfoldable pub becomes : ℕ → Becomes
becomes kind = cond (eqb kind 1) Added PassedOver

-- what is added gets the tag 0, 0
abbrev pub commands_as : Becomes → Entry → List Command
commands_as Added e = command (Add (tag 0 0)) e.base.0 e.size.0 ∷ []
commands_as PassedOver e = []

abbrev pub entry_commands : Entry → List Command
entry_commands e = commands_as (becomes e.kind) e

unfoldable pub commands : List Entry → List Command
commands [] = []
commands (e ∷ es) = entry_commands e ++ commands es

-- the entries' commands in turn, then memory is trimmed by 4096
unfoldable pub entry_steps : Layout → List Entry → List Step
entry_steps L es = steps L (commands es) ++ (trim L 4096 ∷ [])

-- the block is looked at first, then the report's length, then the entries; a refusal leaves the block as it was
unfoldable pub intake_e820 : Layout → List ℕ → List ℕ → Outcome
intake_e820 L report b = unless (good L b) 1 b (unless (readable report) 10 b (wholly (entry_steps L (entries report)) b))
