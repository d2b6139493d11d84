-- The same number and slip on two blocks: past the same checks, for the same place, and of find where it finds the same. Assumes nothing.
use Prim.Native.Nat.{ℕ}
use mathlib.Core.Path.{◌≡◌, refl, ap}
use mathlib.Core.Bool.{Bool, true, false, cond}
use mathlib.Core.List.{List}
use lib.Dec.{leb, eqb}
use lib.ListN.{length}
use borrow.Author.Tests.{eqb-true}
use Rattle.regions.specs.declared.Kind.TheVariants.{Taken}
use Rattle.regions.specs.declared.Region.{Region}
use Rattle.block.specs.Block.{current, capacity, with_list, block_bytes, contents, good}
use Rattle.range.specs.Outcomes.{Outcome, outcome, done_with, store}
use Rattle.fits.specs.declared.Query.{Query}
use Rattle.std.specs.Prelude.{Option, Some, None}
use Rattle.fits.specs.declared.Spot.{Spot}
use Rattle.seek.specs.Search.{found_place}
use Rattle.search.specs.Answers.{Answer, SameAnswer, answer, refuse, slip_of, asking, refusal, place_answer, reserved, find}

pub same : {x y : Answer} → x ≡ y → SameAnswer x y
same e = record { number = ap (λ (x : Answer). x.number) e; slip = ap (λ (x : Answer). x.slip) e }

-- past the same checks
pub asking_same : (n : ℕ) (b c slip : List ℕ) (x y : Answer) → (n ≡ 0 → SameAnswer x y) → SameAnswer (asking n b slip x) (asking n c slip y)
asking_same n b c slip x y s = go (eqb (length slip) 16) (eqb n 0) refl
  where
    go : (w t : Bool) → eqb n 0 ≡ t → SameAnswer (cond w (cond t x (refuse n b)) (answer 8 b slip)) (cond w (cond t y (refuse n c)) (answer 8 c slip))
    go true true e = s (eqb-true n 0 e)
    go true false e = record { number = refl; slip = refl }
    go false t e = record { number = refl; slip = refl }

pub place_same : (b c : List ℕ) (p : Option Spot) → SameAnswer (place_answer b p) (place_answer c p)
place_same b c None = record { number = refl; slip = refl }
place_same b c (Some s) = record { number = refl; slip = refl }

-- reserved in both, or in neither
pub reserved_same : (b c : List ℕ) (a end : ℕ) (o u : Outcome) → o.number ≡ u.number → SameAnswer (reserved b a end o) (reserved c a end u)
reserved_same b c a end o u e = rw e (go (eqb u.number 0))
  where
    go : (t : Bool) → SameAnswer (cond t (answer 0 o.block (slip_of a end)) (refuse u.number b)) (cond t (answer 0 u.block (slip_of a end)) (refuse u.number c))
    go true = record { number = refl; slip = refl }
    go false = record { number = refl; slip = refl }

-- a list is stored in both, or in neither
pub store_same : (xs : List Region) (b c : List ℕ) → (store current Taken xs b).number ≡ (store current Taken xs c).number
unfolding store
store_same xs b c = go (leb (length xs) (capacity current Taken))
  where
    go : (t : Bool) → (cond t (done_with (block_bytes current (with_list (contents current b) Taken xs))) (outcome 6 b)).number
        ≡ (cond t (done_with (block_bytes current (with_list (contents current c) Taken xs))) (outcome 6 c)).number
    go true = refl
    go false = refl

pub find_same : (q : Query) (b c slip : List ℕ) → good current b ≡ true → good current c ≡ true
    → (refusal q ≡ 0 → found_place (contents current b) q ≡ found_place (contents current c) q) → SameAnswer (find current q b slip) (find current q c slip)
unfolding find
find_same q b c slip g h f =
    rw (g, h) (asking_same (refusal q) b c slip _ _ (λ e. rw (f e) (place_same b c (found_place (contents current c) q))))
