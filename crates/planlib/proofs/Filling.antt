-- Lines stored one after the other into an array. Assumes nothing.
use Prim.Native.Nat.{ℕ, zero, suc, ◌+◌, ◌<◌}
use mathlib.Core.Path.{◌≡◌, refl, ap, ◌∙◌}
use mathlib.Core.List.{List, [], ◌∷◌, ◌++◌}
use native.Mathlib.Numerals.{add-one}
use native.Mathlib.Omega.{arith}
use lib.ListN.{length, take, set, length-set}
use lib.Seq.{take-suc-set}
use Rattle.plan.specs.declared.Line.{Line}
use Rattle.plan.specs.Numbers.{Numbers, line_of, lines_from}

-- one line more at the end
lines_more : (x : Numbers) (i k n : ℕ) → i + n ≡ k → lines_from x i (suc n) ≡ lines_from x i n ++ (line_of x k ∷ [])
unfolding lines_from
lines_more x i k zero e = ap (λ (j : ℕ). line_of x j ∷ []) (omega arith)
lines_more x i k (suc n) e = ap (λ (ls : List Line). line_of x i ∷ ls) (lines_more x (suc i) k n (omega arith))

-- the first i lines are in an array of 65
pub record Filled (x : Numbers) (i : ℕ) (ls : List Line) : Type 0 where
  pub room : length ls ≡ 65
  pub lines : take i ls ≡ lines_from x 0 i

pub filled_none : (x : Numbers) (ls : List Line) → length ls ≡ 65 → Filled x 0 ls
unfolding lines_from
filled_none x ls h = record { room = h; lines = refl }

pub filled_more : (x : Numbers) (i : ℕ) (ls : List Line) (l : Line) → Filled x i ls → i < 65 → l ≡ line_of x i → Filled x (i + 1) (set ls i l)
filled_more x i ls l f h e =
    let room : i < length ls = omega arith in
    record {
      room = simp length-set f.room;
      lines = rw add-one (take-suc-set ls i l room ∙ cc (lines_more x 0 i i (omega arith)));
    }
