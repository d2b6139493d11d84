-- What the checks of a table's part answer. Only inner contracts and proofs cite this module. Assumes nothing.
use Rattle.std.specs.Prelude.{ℕ, ◌*◌, ◌/◌, Bool, true, cond, ◌&&◌, List, [], ◌∷◌, length, drop, ◌==◌, nat_le, Option, Some, None}
use Rattle.regions.specs.declared.Kind.{Kind}
use Rattle.regions.specs.declared.Region.{Region}
use Rattle.regions.specs.Meaning.{at, total, top}
use Rattle.regions.specs.Lists.{good_list}
use Rattle.regions.specs.Bytes.{read_regions}
use Rattle.address.specs.declared.Size.{Size}

-- every byte is 0
unfoldable pub all_zeros : List ℕ → Bool
all_zeros [] = true
all_zeros (b ∷ l) = b == 0 && all_zeros l

-- a good list's total
unfoldable pub checked_list : Kind → List Region → Option Size
checked_list k xs = cond (good_list k xs) (Some (record { 0 = total (at xs) top })) None

-- a part that holds n records of a good list, as many as it has room for, and then zeros
unfoldable pub good_part : Kind → ℕ → List ℕ → Bool
good_part k n l = nat_le n (length l / 24) && (good_list k (read_regions n l) && all_zeros (drop (24 * n) l))

-- such a part's total
unfoldable pub checked_table : Kind → ℕ → List ℕ → Option Size
checked_table k n l = cond (good_part k n l) (Some (record { 0 = total (at (read_regions n l)) top })) None
