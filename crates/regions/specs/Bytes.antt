-- Numbers and regions as bytes, little-endian: reading and spelling. Assumes nothing.
use Rattle.std.specs.Prelude.{ℕ, zero, suc, ◌+◌, ◌*◌, ◌-◌, ◌/◌, ◌%◌, List, [], ◌∷◌, ◌++◌, length, drop, replicate}
use Rattle.regions.specs.declared.Region.{Region}

-- the number that the first k bytes of l spell, the lowest first; what lies past the end counts 0
unfoldable pub number : ℕ → List ℕ → ℕ
number zero l = 0
number (suc k) [] = 0
number (suc k) (b ∷ l) = b + 256 * number k l

-- the k bytes of v, the lowest first
unfoldable pub bytes : ℕ → ℕ → List ℕ
bytes zero v = []
bytes (suc k) v = v % 256 ∷ bytes k (v / 256)

-- document 01's record: u64 base, u64 size, u32 flags, u32 node
unfoldable pub read_region : List ℕ → Region
read_region l =
    record {
      base = record { 0 = number 8 l };
      size = record { 0 = number 8 (drop 8 l) };
      tag = record { flags = number 4 (drop 16 l); node = number 4 (drop 20 l) };
    }

unfoldable pub region_bytes : Region → List ℕ
region_bytes r = bytes 8 r.base.0 ++ (bytes 8 r.size.0 ++ (bytes 4 r.tag.flags ++ bytes 4 r.tag.node))

-- n records, one after the other
unfoldable pub read_regions : ℕ → List ℕ → List Region
read_regions zero l = []
read_regions (suc n) l = read_region l ∷ read_regions n (drop 24 l)

unfoldable pub regions_bytes : List Region → List ℕ
regions_bytes [] = []
regions_bytes (r ∷ rs) = region_bytes r ++ regions_bytes rs

-- a table with room for capacity records: those of the list, and zeros
unfoldable pub table_bytes : ℕ → List Region → List ℕ
table_bytes capacity rs = regions_bytes rs ++ replicate (24 * (capacity - length rs)) 0
