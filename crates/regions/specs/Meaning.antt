-- What a table of regions means, and the one shortest list that says it. Assumes nothing.
use Rattle.std.specs.Prelude.{ℕ, zero, suc, ◌+◌, ◌-◌, ◌^◌, ◌≡◌, Bool, cond, ◌&&◌, List, [], ◌∷◌, leb, ltb, eqb}
use Rattle.regions.specs.declared.Tag.{Tag}
use Rattle.regions.specs.declared.Region.{Region}
use Rattle.regions.specs.declared.State.{State}
use Rattle.regions.specs.declared.State.TheVariants.{Absent, Present}

-- document 01's table: a set of addresses, each with one tag
abbrev pub Meaning : Type 0
Meaning = ℕ → State

-- document 01's top: the last address of 64 bits, which is in no table. Shut, so that nothing counts up to it
pub top : ℕ
top = 2 ^ 64 - 1

pub top_is : top ≡ 18446744073709551615
unfolding top
top_is = λ i. 18446744073709551615

-- ---- regions, and what a list of them says of an address

abbrev pub region : ℕ → ℕ → Tag → Region
region base size tag = record { base = record { 0 = base }; size = record { 0 = size }; tag = tag }

-- the first address past a region, a whole number
abbrev pub end : Region → ℕ
end r = r.base.0 + r.size.0

-- lo ≤ a < hi
abbrev pub inside : ℕ → ℕ → ℕ → Bool
inside lo hi a = leb lo a && ltb a hi

unfoldable pub at : List Region → Meaning
at [] a = Absent
at (r ∷ rs) a = cond (inside r.base.0 (end r) a) (Present r.tag) (at rs a)

-- ---- the shortest list: one address after the other, each put behind the list so far

abbrev pub same_tag : Tag → Tag → Bool
same_tag t u = eqb t.flags u.flags && eqb t.node u.node

-- document 01's merging rule: what starts at c with tag t is one with r where r ends there with that tag
abbrev pub joins : Region → ℕ → Tag → Bool
joins r c t = eqb (end r) c && same_tag r.tag t

-- s addresses of tag t from c, put behind a list: its last region grows by them, or they are a region of their own
unfoldable pub join : List Region → ℕ → ℕ → Tag → List Region
join [] c s t = region c s t ∷ []
join (r ∷ []) c s t = cond (joins r c t) (region r.base.0 (r.size.0 + s) t ∷ []) (r ∷ region c s t ∷ [])
join (r ∷ q ∷ rs) c s t = r ∷ join (q ∷ rs) c s t

-- s addresses of one state from c, put behind a list
unfoldable pub push : List Region → ℕ → ℕ → State → List Region
push xs c s Absent = xs
push xs c zero (Present t) = xs
push xs c (suc s) (Present t) = join xs c (suc s) t

-- the list that says what f says of the addresses below n
unfoldable pub shortest : Meaning → ℕ → List Region
shortest f zero = []
shortest f (suc n) = push (shortest f n) n 1 (f n)

-- ---- document 01's total: how many addresses below n are present

abbrev pub one : State → ℕ
one Absent = 0
one (Present t) = 1

unfoldable pub total : Meaning → ℕ → ℕ
total f zero = 0
total f (suc n) = total f n + one (f n)
