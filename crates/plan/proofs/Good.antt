-- A refused plan leaves the block as it was, and one that is done a good block. Assumes nothing.
use mathlib.Core.Path.{◌≡◌, refl}
use mathlib.Core.Bool.{Bool, true, false, cond}
use mathlib.Core.List.{List, [], map}
use mathlib.Core.Option.{Option, none, some}
use Prim.Native.Nat.{ℕ}
use lib.Dec.{leb}
use lib.ListN.{length}
use Rattle.regions.specs.declared.Region.{Region}
use Rattle.regions.specs.declared.Kind.TheVariants.{Taken}
use Rattle.regions.specs.Meaning.{at, shortest, top}
use Rattle.block.specs.Block.{current, capacity, with_list, block_bytes, contents, good}
use Rattle.range.specs.Outcomes.{unless, done_with, store}
use Rattle.plan.specs.Answers.{Answer, answer}
use Rattle.plan.specs.declared.Line.{Line}
use Rattle.plan.specs.Plan.{range_of, first_fault, with_ranges, at_zero, verdict, plan}
use Rattle.plan.proofs.Sentences.{reserved_sentence}

-- what is so of a plan's answer on b: there is no slip and no buffer
pub record Left (b : List ℕ) (x : Answer) : Type 0 where
  pub block : (x.number ≡ 0 → ⊥) → x.block ≡ b
  pub buffer : x.buffer ≡ []
  pub slip : x.slip ≡ []
  pub is_good : x.number ≡ 0 → good current x.block ≡ true

-- the first three of these
record Lent (b : List ℕ) (x : Answer) : Type 0 where
  block : (x.number ≡ 0 → ⊥) → x.block ≡ b
  buffer : x.buffer ≡ []
  slip : x.slip ≡ []

pub plan_left : (b : List ℕ) (ls : List Line) → Left b (plan current ls b)
unfolding plan store
plan_left b ls =
    let k = go (good current b) (leb (length ls) 64) (first_fault (contents current b) ls) in
    record { block = k.block; buffer = k.buffer; slip = k.slip; is_good = λ z. (reserved_sentence b ls z).is_good }
  where
    xs : List Region
    xs = shortest (with_ranges (map range_of ls) (at (contents current b).taken)) top

    stored : (t : Bool) → Lent b (at_zero (unless t 6 b (done_with (block_bytes current (with_list (contents current b) Taken xs)))))
    stored true = record { block = λ d. absurd (d refl); buffer = refl; slip = refl }
    stored false = record { block = λ d. refl; buffer = refl; slip = refl }

    go : (t u : Bool) (o : Option ℕ) → Lent b (cond t (cond u (verdict current ls b o) (answer 14 b [])) (answer 1 b []))
    go false u o = record { block = λ d. refl; buffer = refl; slip = refl }
    go true false o = record { block = λ d. refl; buffer = refl; slip = refl }
    go true true (some i) = record { block = λ d. refl; buffer = refl; slip = refl }
    go true true none = stored (leb (length xs) (capacity current Taken))
