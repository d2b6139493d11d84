-- The block's bytes: what a block says, the one spelling of it, and which blocks are good. Assumes nothing.
use Rattle.std.specs.Prelude.{ℕ, ◌+◌, ◌*◌, ◌-◌, ◌^◌, Bool, true, false, ◌&&◌, List, [], ◌∷◌, ◌++◌, leb, eqb, length, take, drop}
use Rattle.regions.specs.declared.Kind.{Kind}
use Rattle.regions.specs.declared.Kind.TheVariants.{Memory, Taken}
use Rattle.regions.specs.declared.Region.{Region}
use Rattle.regions.specs.Lists.{good_list}
use Rattle.regions.specs.Bytes.{number, bytes, read_regions, table_bytes}
use Rattle.block.specs.declared.Layout.{Layout}
use Rattle.block.specs.declared.Settings.{Settings}
use Rattle.block.specs.declared.Header.{Header}
use Rattle.records.specs.Totals.{tally}

-- ---- the layout

-- document 01's block: edition 1, room for 128 records in each table
abbrev pub edition_one : Layout
edition_one = record { edition = 1; memory = 128; taken = 128 }

-- E4's: edition 2, room for 512 taken records
abbrev pub edition_two : Layout
edition_two = record { edition = 2; memory = 128; taken = 512 }

-- the layout that the commands work on
abbrev pub current : Layout
current = edition_two

unfoldable pub capacity : Layout → Kind → ℕ
capacity L Memory = L.memory
capacity L Taken = L.taken

-- where a table begins
unfoldable pub offset : Layout → Kind → ℕ
offset L Memory = 80
offset L Taken = 80 + 24 * L.memory

-- 6,224 bytes in edition 1, 15,440 in edition 2
abbrev pub block_length : Layout → ℕ
block_length L = 80 + 24 * (L.memory + L.taken)

-- ---- what a block says

pub record Contents : Type 0 where
  pub memory : List Region
  pub taken : List Region
  pub settings : Settings

abbrev pub list_of : Contents → Kind → List Region
list_of s Memory = s.memory
list_of s Taken = s.taken

abbrev pub with_list : Contents → Kind → List Region → Contents
with_list s Memory xs = record { memory = xs; taken = s.taken; settings = s.settings }
with_list s Taken xs = record { memory = s.memory; taken = xs; settings = s.settings }

abbrev pub with_settings : Contents → Settings → Contents
with_settings s x = record { memory = s.memory; taken = s.taken; settings = x }

-- limit, direction and image end (E7); 0 means no image
abbrev pub settings : ℕ → ℕ → ℕ → Settings
settings limit direction image = record { limit = record { 0 = limit }; direction = direction; image = record { 0 = image } }

abbrev pub with_image : Settings → ℕ → Settings
with_image s image = record { limit = s.limit; direction = s.direction; image = record { 0 = image } }

-- document 01's fresh block: both tables empty, limit 2^64 - 1, top-down; and no image
abbrev pub fresh_contents : Contents
fresh_contents = record { memory = []; taken = []; settings = settings (2 ^ 64 - 1) 0 0 }

-- ---- spelling

-- document 01's entry of a table: u32 kind, u32 offset, u32 count, u32 capacity
unfoldable pub entry_bytes : ℕ → ℕ → ℕ → ℕ → List ℕ
entry_bytes kind offset count capacity = bytes 4 kind ++ (bytes 4 offset ++ (bytes 4 count ++ bytes 4 capacity))

-- u64 limit, u32 direction, u32 zero
unfoldable pub settings_bytes : Settings → List ℕ
settings_bytes s = bytes 8 s.limit.0 ++ (bytes 4 s.direction ++ bytes 4 0)

-- u64 memory total, u64 taken total, u64 image end (document 01's zero, until E7)
unfoldable pub totals_bytes : ℕ → ℕ → ℕ → List ℕ
totals_bytes memory taken image = bytes 8 memory ++ (bytes 8 taken ++ bytes 8 image)

-- u32 edition, u32 number of bodies 2, an entry for each table
unfoldable pub entries_bytes : Layout → ℕ → ℕ → List ℕ
entries_bytes L memory taken =
    bytes 4 L.edition
    ++ (bytes 4 2 ++ (entry_bytes 1 (offset L Memory) memory (capacity L Memory) ++ entry_bytes 2 (offset L Taken) taken (capacity L Taken)))

-- the first 80 bytes
unfoldable pub header_bytes : Layout → Header → List ℕ
header_bytes L h =
    entries_bytes L h.memory.count h.taken.count
    ++ (settings_bytes h.settings ++ totals_bytes h.memory.total.0 h.taken.total.0 h.settings.image.0)

abbrev pub header_of : Contents → Header
header_of s = record { memory = tally s.memory; taken = tally s.taken; settings = s.settings }

unfoldable pub block_bytes : Layout → Contents → List ℕ
block_bytes L s = header_bytes L (header_of s) ++ (table_bytes (capacity L Memory) s.memory ++ table_bytes (capacity L Taken) s.taken)

-- ---- reading

abbrev pub read_header : List ℕ → Header
read_header b =
    record {
      memory = record { count = number 4 (drop 16 b); total = record { 0 = number 8 (drop 56 b) } };
      taken = record { count = number 4 (drop 32 b); total = record { 0 = number 8 (drop 64 b) } };
      settings = settings (number 8 (drop 40 b)) (number 4 (drop 48 b)) (number 8 (drop 72 b));
    }

-- a table's bytes
abbrev pub part : Layout → Kind → List ℕ → List ℕ
part L k b = take (24 * capacity L k) (drop (offset L k) b)

unfoldable pub contents : Layout → List ℕ → Contents
contents L b =
    record {
      memory = read_regions (read_header b).memory.count (part L Memory b);
      taken = read_regions (read_header b).taken.count (part L Taken b);
      settings = (read_header b).settings;
    }

-- ---- good

unfoldable pub same_bytes : List ℕ → List ℕ → Bool
same_bytes [] [] = true
same_bytes [] (y ∷ ys) = false
same_bytes (x ∷ xs) [] = false
same_bytes (x ∷ xs) (y ∷ ys) = eqb x y && same_bytes xs ys

-- a list that the table has room for, and that may stand there
unfoldable pub good_table : Layout → Kind → List Region → Bool
good_table L k xs = leb (length xs) (capacity L k) && good_list k xs

unfoldable pub good_contents : Layout → Contents → Bool
good_contents L s = leb s.settings.direction 1 && (good_table L Memory s.memory && good_table L Taken s.taken)

-- document 01's good block: it says something that a block may say, and is the spelling of that
unfoldable pub good : Layout → List ℕ → Bool
good L b = good_contents L (contents L b) && same_bytes b (block_bytes L (contents L b))
