-- The exported call that hands pages over: the block stays, and its calls in turn give one list. Assumes nothing.
use Prim.Native.Nat.{ℕ}
use mathlib.Core.Path.{◌≡◌, refl}
use mathlib.Core.Bool.{Bool, true, false, cond}
use mathlib.Core.List.{List}
use lib.Dec.{eqb}
use lib.ListN.{length}
use Rattle.block.specs.Block.{current, contents, good}
use Rattle.seek.specs.Search.{runs_of}
use Rattle.search.specs.Answers.{answer, with_buffer, refuse}
use Rattle.pages.specs.Pages.{pieces_from, given, hand_over}
use Rattle.pages.specs.Calls.{Lent, HandOverSentence}
use Rattle.pages.proofs.Calls.{hand_over_sentence}
use Rattle.memblock.specs.Calls.{answer_of}
use Rattle.memblock.specs.Pages.{handing, PagesSentence}

block_stays : (b : List ℕ) (page : ℕ) (x : Lent) → (handing b page x).block ≡ b
unfolding answer_of hand_over
block_stays b page x = go (eqb (length x.slip) 16) (good current b)
  where
    go : (t u : Bool)
        → (cond t (cond u (given b (pieces_from (runs_of (contents current b)) page) x.buffer) (with_buffer x.buffer (refuse 1 b))) (with_buffer x.buffer (answer 8 b x.slip))).block ≡ b
    go true true = refl
    go true false = refl
    go false u = refl

calls_in_turn : (b : List ℕ) → good current b ≡ true → HandOverSentence (handing b) (contents current b)
unfolding answer_of
calls_in_turn b g = hand_over_sentence b g

pub pages_sentence : (b : List ℕ) → PagesSentence b
pages_sentence b = record { stays = block_stays b; calls = calls_in_turn b }
