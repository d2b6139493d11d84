-- A plan's lines as seven lists of numbers beside each other. Assumes nothing.
use Rattle.std.specs.Prelude.{ℕ, zero, suc, min, List, [], ◌∷◌, length, get_or}
use Rattle.fits.specs.Eligible.{query}
use Rattle.plan.specs.declared.Line.{Line}
use Rattle.plan.specs.declared.Numbers.{Numbers as Slices}

-- a line's fields, in the request's order
pub record Numbers : Type 0 where
  pub sizes : List ℕ
  pub aligns : List ℕ
  pub starts : List ℕ
  pub ends : List ℕ
  pub nodes : List ℕ
  pub wishes : List ℕ
  pub ats : List ℕ

abbrev pub numbers : (sizes aligns starts ends nodes wishes ats : List ℕ) → Numbers
numbers sizes aligns starts ends nodes wishes ats =
    record { sizes = sizes; aligns = aligns; starts = starts; ends = ends; nodes = nodes; wishes = wishes; ats = ats }

-- those of the slices lent
abbrev pub lists : Slices → Numbers
lists s = numbers s.sizes.now s.aligns.now s.starts.now s.ends.now s.nodes.now s.wishes.now s.ats.now

-- the line at an index: the number there of each list
abbrev pub line_of : Numbers → ℕ → Line
line_of x i =
    record {
      query = query (get_or x.sizes i 0) (get_or x.aligns i 0) (get_or x.starts i 0) (get_or x.ends i 0) (get_or x.nodes i 0) (get_or x.wishes i 0);
      at = record { 0 = get_or x.ats i 0 };
    }

-- n lines from an index on
unfoldable pub lines_from : Numbers → ℕ → ℕ → List Line
lines_from x i zero = []
lines_from x i (suc n) = line_of x i ∷ lines_from x (suc i) n

-- as many as the shortest of the lists has
unfoldable pub count_of : Numbers → ℕ
count_of x =
    min (length x.sizes) (min (length x.aligns) (min (length x.starts) (min (length x.ends)
    (min (length x.nodes) (min (length x.wishes) (length x.ats))))))

abbrev pub lines_of : Numbers → List Line
lines_of x = lines_from x 0 (count_of x)
