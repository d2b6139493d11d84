-- What is spelled are bytes. Assumes nothing.
use Prim.Native.Nat.{ℕ, zero, suc, ◌*◌, ◌-◌, ◌/◌}
use mathlib.Core.List.{List, [], ◌∷◌, ◌++◌}
use native.Mathlib.Nat.{mod-lt}
use lib.Dec.{lit<}
use lib.ListN.{length, replicate}
use Rattle.regions.specs.declared.Region.{Region}
use Rattle.regions.specs.Bytes.{bytes, region_bytes, regions_bytes, table_bytes}
use Rattle.regions.proofs.Numbers.{Bytes, none, one}

pub bytes_append : {x y : List ℕ} → Bytes x → Bytes y → Bytes (x ++ y)
bytes_append none q = q
bytes_append (one h p) q = one h (bytes_append p q)

pub number_spelled : (k v : ℕ) → Bytes (bytes k v)
unfolding bytes
number_spelled zero v = none
number_spelled (suc k) v = one (mod-lt v (lit< tt)) (number_spelled k (v / 256))

zeros_spelled : (n : ℕ) → Bytes (replicate n 0)
zeros_spelled zero = none
zeros_spelled (suc n) = one (lit< tt) (zeros_spelled n)

regions_spelled : (rs : List Region) → Bytes (regions_bytes rs)
unfolding region_bytes regions_bytes
regions_spelled [] = none
regions_spelled (r ∷ rs) =
    let n = number_spelled in
    bytes_append
    (bytes_append (n 8 r.base.0) (bytes_append (n 8 r.size.0) (bytes_append (n 4 r.tag.flags) (n 4 r.tag.node))))
    (regions_spelled rs)

pub table_spelled : (capacity : ℕ) (rs : List Region) → Bytes (table_bytes capacity rs)
unfolding table_bytes
table_spelled capacity rs = bytes_append (regions_spelled rs) (zeros_spelled (24 * (capacity - length rs)))
