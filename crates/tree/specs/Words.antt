-- Big-endian numbers. Assumes nothing.
use Rattle.std.specs.Prelude.{ℕ, zero, suc, ◌+◌, ◌*◌, List, [], ◌∷◌}

-- the number that the first k bytes of l spell, the highest first, behind the digits so far; what lies past the end counts 0
unfoldable pub big : ℕ → ℕ → List ℕ → ℕ
big v zero l = v
big v (suc k) [] = big (256 * v) k []
big v (suc k) (b ∷ l) = big (256 * v + b) k l

-- a u32
abbrev pub word : List ℕ → ℕ
word l = big 0 4 l
