-- Which lists of regions may stand in a table: shortest lists, by their records, with legal tags. Assumes nothing.
use Rattle.std.specs.Prelude.{ℕ, Bool, true, false, not, ◌&&◌, List, [], ◌∷◌, leb, ltb, eqb}
use Rattle.regions.specs.declared.Tag.{Tag}
use Rattle.regions.specs.declared.Region.{Region}
use Rattle.regions.specs.declared.State.{State}
use Rattle.regions.specs.declared.State.TheVariants.{Absent, Present}
use Rattle.regions.specs.declared.Kind.{Kind}
use Rattle.regions.specs.declared.Kind.TheVariants.{Memory, Taken}
use Rattle.regions.specs.Meaning.{end, same_tag, top}

-- the state is present with tag t
abbrev pub is : State → Tag → Bool
is Absent t = false
is (Present u) t = same_tag u t

-- r may come next where nothing reaches past c and the address below c has state v: r is not empty, starts at c or above, and
-- does not start at c with the tag of the address below
unfoldable pub fits : ℕ → State → Region → Bool
fits c v r = leb c r.base.0 && (not (eqb c r.base.0 && is v r.tag) && ltb 0 r.size.0)

-- each region fits in turn, and none ends above n: none empty, in rising order, none overlapping, none that touch with equal tags
unfoldable pub rises : ℕ → State → ℕ → List Region → Bool
rises c v n [] = leb c n
rises c v n (r ∷ rs) = fits c v r && rises (end r) (Present r.tag) n rs

-- in rising order from c on, none overlapping; records may be empty, and may touch with equal tags
unfoldable pub sorted : ℕ → List Region → Bool
sorted c [] = true
sorted c (r ∷ rs) = leb c r.base.0 && sorted (end r) rs

-- legal tags: in memory flags of 0 to 7 (E6) and a node of 0 to 63, in the taken table 0, 0
unfoldable pub legal_tag : Kind → Tag → Bool
legal_tag Memory t = leb t.flags 7 && leb t.node 63
legal_tag Taken t = eqb t.flags 0 && eqb t.node 0

unfoldable pub legal : Kind → List Region → Bool
legal k [] = true
legal k (r ∷ rs) = legal_tag k r.tag && legal k rs

-- a list that may stand in the table: no record ends above 2^64 - 1
unfoldable pub good_list : Kind → List Region → Bool
good_list k xs = rises 0 Absent top xs && legal k xs
