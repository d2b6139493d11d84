-- Which structure blocks are a tree's; `Trees` says it of trees. Assumes nothing.
use Rattle.std.specs.Prelude.{ℕ, suc, ◌-◌, Bool, true, false, cond, not, ◌&&◌, ◌||◌, List, [], ◌∷◌, ltb, eqb, length}
use Rattle.tree.specs.Tokens.{zero_ended, Token, begin, end, property, nop, stop, broken, tokens}

-- what may follow where n nodes are open, and a node has ended at that level (late) or none has yet: one root, properties before children,
-- no more than 16 nodes open; the end token where the root has ended, with nothing after it
unfoldable pub follows : ℕ → Bool → List Token → Bool
follows n late [] = false
follows n late (begin name ∷ ts) = (ltb 0 n || not late) && (ltb n 16 && follows (suc n) false ts)
follows n late (end ∷ ts) = ltb 0 n && follows (n - 1) true ts
follows n late (property at value ∷ ts) = (ltb 0 n && not late) && follows n false ts
follows n late (nop ∷ ts) = follows n late ts
follows n late (stop ∷ ts) = (eqb n 0 && late) && eqb (length ts) 0
follows n late (broken ∷ ts) = false

-- how many places of a strings block begin a name that ends inside it
unfoldable pub named : List ℕ → ℕ
named [] = 0
named (b ∷ l) = cond (zero_ended (b ∷ l)) (suc (named l)) 0

-- a structure block is a tree's, beside its strings block
unfoldable pub formed : List ℕ → List ℕ → Bool
formed strings structure = follows 0 false (tokens (named strings) structure)
