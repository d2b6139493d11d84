-- `board::taking::Taking::take_wholly` meets its contract.
use Rattle.std.proofs.Common.{rules, ℕ, sym, ◌∙◌, arith}
use lib.ListN.{replicate, length-replicate}
use Rattle.block.specs.Block.{current}
use Rattle.block.proofs.Blocks.{good_length}
use Rattle.board.proofs.Passes.{put_all_back, left_all_done}
use Rattle.board.proofs.taking.Taking.take_wholly.Goals as goal

pub copy_front-requires : goal.copy_front-requires
copy_front-requires c = (search rules, omega (arith, good_length current _ c.requires.0))

pub copy_front-requires-then-is_err : goal.copy_front-requires-then-is_err
copy_front-requires-then-is_err c = (omega (arith, good_length current _ c.requires.0, c.take_in_turn-answer.auto), search rules)

pub returns-then-is_err : goal.returns-then-is_err
returns-then-is_err c =
    put_all_back _ _ _ _ _ c.requires.0 _ _ c.take_in_turn-answer.ensures (sym c.is_err.ensures.value ∙ c.if-is_err.true) (replicate 15440 0) _ _ (length-replicate {A = ℕ} 15440 0) c.copy_front.ensures c.copy_front-then-is_err.ensures

pub returns-else-is_err : goal.returns-else-is_err
returns-else-is_err c = left_all_done _ _ _ _ c.take_in_turn-answer.ensures (sym c.is_err.ensures.value ∙ c.if-is_err.false)
