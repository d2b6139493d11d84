-- Which addresses a search over free runs may give; the lowest and the highest number. Assumes nothing.
use Rattle.std.specs.Prelude.{ℕ, zero, suc, ◌+◌, ◌%◌, ◌≤◌, ◌<◌, ◌≡◌, Bool, true, false, cond, not, ◌&&◌, ◌||◌, List, leb, eqb}
use Rattle.std.proofs.Math.Option.{Option, none, some}
use Rattle.regions.specs.declared.Tag.{Tag}
use Rattle.regions.specs.declared.Region.{Region}
use Rattle.regions.specs.Changes.{has}
use Rattle.regions.specs.Runs.{in_one}
use Rattle.fits.specs.declared.Query.{Query}

-- what a call asks for, by its numbers
abbrev pub query : ℕ → ℕ → ℕ → ℕ → ℕ → ℕ → Query
query size align start end node wish =
    record { size = record { 0 = size }; align = record { 0 = align }; start = record { 0 = start }; end = record { 0 = end }; node = node; wish = wish }

-- ---- the lowest and the highest number below n at which p holds

abbrev pub or_else : {A : Type 0} → Option A → Option A → Option A
or_else none o = o
or_else (some a) o = some a

unfoldable pub lowest : (ℕ → Bool) → ℕ → Option ℕ
lowest p zero = none
lowest p (suc n) = or_else (lowest p n) (cond (p n) (some n) none)

unfoldable pub highest : (ℕ → Bool) → ℕ → Option ℕ
highest p zero = none
highest p (suc n) = cond (p n) (some n) (highest p n)

-- what is so of an answer to `which number below n passes`, where the others ruled out are those that lie beyond; only proofs cite it
abbrev pub Gives : (ℕ → Bool) → (ℕ → ℕ → Type 0) → ℕ → Option ℕ → Type 0
Gives p beyond n none = (b : ℕ) → b < n → p b ≡ false
Gives p beyond n (some a) = (p a ≡ true) × ((a < n) × ((b : ℕ) → b < n → beyond b a → p b ≡ false))

-- ---- eligible

-- node n is the one asked for; 0xFFFFFFFF means any
abbrev pub asked : ℕ → ℕ → Bool
asked node n = eqb node 4294967295 || eqb n node

-- E6's wish grants these flags: they are not hotplug (1), or the wish has 1; and the wish has not 2, or they are mirror (2)
abbrev pub granted : ℕ → ℕ → Bool
granted wish flags = (not (has 1 flags) || has 1 wish) && (not (has 2 wish) || has 2 flags)

-- a tag of the node asked for, whose flags the wish grants; and what a query asks of a tag
abbrev pub wanted : ℕ → ℕ → Tag → Bool
wanted node wish t = asked node t.node && granted wish t.flags

abbrev pub asks : Query → Tag → Bool
asks q t = wanted q.node q.wish t

-- document 01's eligible: a multiple of the alignment, start ≤ a, a + size ≤ end, and the size addresses from a in one free run
unfoldable pub eligible : Query → List Region → ℕ → Bool
eligible q runs a =
    eqb (a % q.align.0) 0 && ((leb q.start.0 a && leb (a + q.size.0) q.end.0) && in_one (asks q) q.size.0 a runs)

-- the same, part by part; only proofs cite it
pub record Lies (q : Query) (runs : List Region) (a : ℕ) : Type 0 where
  pub aligned : a % q.align.0 ≡ 0
  pub start : q.start.0 ≤ a
  pub end : a + q.size.0 ≤ q.end.0
  pub run : in_one (asks q) q.size.0 a runs ≡ true
