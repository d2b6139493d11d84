-- The walk over the lines. Assumes nothing.
use Prim.Native.Nat.{ℕ, zero, suc, ◌+◌, ◌≤◌, ◌<◌, min}
use native.Mathlib.Nat.{not-suc-le-zero, le_of_suc-le-suc}
use native.Mathlib.Numerals.{add-one}
use mathlib.Core.Path.{◌≡◌, refl, sym, ap, ◌∙◌}
use mathlib.Core.List.{List, [], ◌∷◌, ◌++◌}
use native.Mathlib.Omega.{arith}
use lib.ListN.{length, drop, get_or, length-append, drop_of_length-le}
use Rattle.std.proofs.Common.{Ok, Err, zero-add}
use Rattle.std.proofs.Math.Seq.{drop-cons}
use Rattle.regions.specs.declared.Run.{Run}
use Rattle.block.specs.Block.{Contents}
use Rattle.plan.specs.declared.Fault.{Fault}
use Rattle.plan.specs.declared.Line.{Line}
use Rattle.plan.specs.Numbers.{Numbers, line_of, lines_from, count_of, lines_of}
use Rattle.plan.specs.Steps.{judged, judged_all}

module _ (s : Contents) (ls : List Line) where
  -- after i lines, none of them at fault: as many ranges, and what the rest comes to
  pub record Walked (rs : List Run) (i : ℕ) : Type 0 where
    pub many : length rs ≡ i
    pub rest : judged_all s rs (drop i ls) ≡ judged_all s [] ls

  pub walked_none : Walked [] 0
  walked_none = record { many = refl; rest = refl }

  pub walked_all : (rs : List Run) (i : ℕ) → Walked rs i → length ls ≤ i → Ok rs ≡ judged_all s [] ls
  walked_all rs i w h = rw (drop_of_length-le ls h) at w.rest

  module _ (rs : List Run) (i : ℕ) (w : Walked rs i) (l : i < length ls) (k : Line) (e : k ≡ get_or ls i k) where
    next : drop i ls ≡ k ∷ drop (i + 1) ls
    next = drop-cons ls i k l ∙ rw (← e, add-one i)

    pub walked_fault : (f : Fault) → Err f ≡ judged s rs k → Err f ≡ judged_all s [] ls
    walked_fault f q = rw (next, ← q, judged_all) at w.rest

    pub walked_more : (r : Run) → Ok r ≡ judged s rs k → (qs : List Run) → qs ≡ rs ++ (r ∷ []) → Walked qs (i + 1)
    walked_more r q qs p =
        record {
          many = omega (arith, ap (length {A = Run}) p, length-append rs (r ∷ []), w.many);
          rest = rw p (rw (next, ← q, judged_all) at w.rest);
        }

-- the lines that the numbers give are as many as the shortest list has, each that of its index
lines_length : (x : Numbers) (m i : ℕ) → length (lines_from x i m) ≡ m
unfolding lines_from
lines_length x zero i = refl
lines_length x (suc m) i = ap suc (lines_length x m (suc i))

line_there : (x : Numbers) (d : Line) (m i j : ℕ) → j < m → get_or (lines_from x i m) j d ≡ line_of x (i + j)
unfolding lines_from
line_there x d zero i j l = absurd (not-suc-le-zero l)
line_there x d (suc m) i zero l = let e : i ≡ i + 0 = omega arith in ap (line_of x) e
line_there x d (suc m) i (suc j) l = let e : suc i + j ≡ i + suc j = omega arith in line_there x d m (suc i) j (le_of_suc-le-suc l) ∙ ap (line_of x) e

pub lines_long : (x : Numbers) → length (lines_of x) ≡ count_of x
lines_long x = lines_length x (count_of x) 0

pub lines_many : (x : Numbers) (n : ℕ) → n ≡ count_of x → n ≡ length (lines_of x)
lines_many x n e = e ∙ sym (lines_long x)

pub line_is : (x : Numbers) (i : ℕ) (k : Line) → i < count_of x → k ≡ line_of x i → k ≡ get_or (lines_of x) i k
line_is x i k l e = e ∙ sym (line_there x k (count_of x) 0 i l ∙ rw (zero-add i))

pub line_here : (x : Numbers) (i : ℕ) (k : Line) → i < count_of x → k ≡ get_or (lines_of x) i k → k ≡ line_of x i
line_here x i k l e = e ∙ line_there x k (count_of x) 0 i l ∙ rw (zero-add i)

-- the shortest of the lists, one after the other
pub count_is : (x : Numbers) (a b c d e f : ℕ) → a ≡ min (length x.sizes) (length x.aligns) → b ≡ min a (length x.starts) → c ≡ min b (length x.ends)
    → d ≡ min c (length x.nodes) → e ≡ min d (length x.wishes) → f ≡ min e (length x.ats) → f ≡ count_of x
unfolding count_of
count_is x a b c d e f p q r s t u = u ∙ rw (t, s, r, q, p) (simp turned)
  where
    turned : (k m n : ℕ) → min (min k m) n ≡ min k (min m n)
    turned k m n = omega arith

-- no list is shorter than the lines are many
module _ (x : Numbers) where
  pub many_sizes : length (lines_of x) ≤ length x.sizes
  unfolding count_of
  many_sizes = omega (arith, lines_long x)

  pub many_aligns : length (lines_of x) ≤ length x.aligns
  unfolding count_of
  many_aligns = omega (arith, lines_long x)

  pub many_starts : length (lines_of x) ≤ length x.starts
  unfolding count_of
  many_starts = omega (arith, lines_long x)

  pub many_ends : length (lines_of x) ≤ length x.ends
  unfolding count_of
  many_ends = omega (arith, lines_long x)

  pub many_nodes : length (lines_of x) ≤ length x.nodes
  unfolding count_of
  many_nodes = omega (arith, lines_long x)

  pub many_wishes : length (lines_of x) ≤ length x.wishes
  unfolding count_of
  many_wishes = omega (arith, lines_long x)

  pub many_ats : length (lines_of x) ≤ length x.ats
  unfolding count_of
  many_ats = omega (arith, lines_long x)

pub ruleset many = (many_sizes, many_aligns, many_starts, many_ends, many_nodes, many_wishes, many_ats)
