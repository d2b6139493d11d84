-- Whatever the call and the bytes: a refusal leaves all as it was and a slip zero, and a call that is done leaves a good block. Assumes nothing.
use Prim.Native.Nat.{ℕ}
use mathlib.Core.Path.{◌≡◌, refl, ap, ◌∙◌}
use mathlib.Core.Bool.{Bool, true, false, cond, ◌&&◌}
use mathlib.Core.List.{List, []}
use mathlib.Core.Logic.{◌⊎◌, inl, inr}
use native.Mathlib.Omega.{arith}
use lib.Dec.{leb, eqb}
use lib.ListN.{length, replicate}
use borrow.Author.Tests.{eq-eqb, eqb-true, eqb-false}
use Rattle.address.specs.Numbers.{power_of_two}
use Rattle.address.proofs.Tests.{clash}
use Rattle.regions.specs.declared.Kind.TheVariants.{Taken}
use Rattle.regions.specs.declared.Change.TheVariants.{Fill}
use Rattle.block.specs.Block.{current, block_length, contents, good}
use Rattle.tables.specs.declared.commands.Verb.TheVariants.{Reserve}
use Rattle.range.specs.Outcomes.{Outcome, unless, done_with, change_range, tag}
use Rattle.tables.specs.Commands.{Command, command, command_outcome, fresh, set, set_image_end, trim}
use Rattle.convert.specs.Convert.{good_one, convert}
use Rattle.tables.proofs.Answered.{Refuses, Stores, refuses_or_stores}
use Rattle.convert.proofs.Converting.{convert_sentence}
use Rattle.tables.proofs.Good.{was_good, command_good, trim_good, set_good, image_good, fresh_good}
use Rattle.intake.specs.Turns.{Step, steps, in_turn, wholly}
use Rattle.intake.specs.E820.{entries, readable, entry_steps, intake_e820}
use Rattle.intake.proofs.Whole.{checked}
use Rattle.intake.proofs.Good.{intake_good}
use Rattle.board.specs.Board as board
use Rattle.board.specs.Board.{intake_tree}
use Rattle.board.specs.Pairs.{readable_pair, asks_pair, intake_trees}
use Rattle.board.proofs.Good.{tree_good, pair_good}
use Rattle.fits.specs.declared.Query.{Query}
use Rattle.std.specs.Prelude.{Option, Some, None}
use Rattle.fits.specs.declared.Spot.{Spot}
use Rattle.seek.specs.Search.{runs_of, found_place, next_place}
use Rattle.pages.specs.Pages.{pieces_from, given, hand_over}
use Rattle.search.specs.Answers.{Answer, answer, with_buffer, refuse, unless as unlessAnswer, slip_of, with_slip, asking, askable, refusal, check_number, next_number, place_answer, find, allocate, allocate_answer, reserved, next_free}
use Rattle.memblock.specs.Calls.{Call, to_fresh, to_set, to_set_image_end, to_command, to_trim, to_find, to_next_free, to_allocate, to_pages, to_intake, to_intake_tree, to_intake_trees, to_convert, plain, answer_of}
use Rattle.memblock.specs.Refusals.{slip_lent, buffer_lent, RefusalSentence, DoneSentence}

-- ---- calls without a slip

-- a refusal leaves the block
abbrev Keeps : List ℕ → Outcome → Type 0
Keeps b o = (o.number ≡ 0 → ⊥) → o.block ≡ b

unless_keeps : (t : Bool) (n : ℕ) (b : List ℕ) (o : Outcome) → Keeps b o → Keeps b (unless t n b o)
unless_keeps true n b o h = h
unless_keeps false n b o h = λ d. refl

-- so do one and two refusals in front of what is done
module _ (b x : List ℕ) where
  one_keeps : (t : Bool) (n : ℕ) → Keeps b (unless t n b (done_with x))
  one_keeps t n = unless_keeps t n b (done_with x) (λ d. absurd (d refl))

  two_keep : (t u : Bool) (n m : ℕ) → Keeps b (unless t n b (unless u m b (done_with x)))
  two_keep t u n m = unless_keeps t n b (unless u m b (done_with x)) (one_keeps u m)

-- what is so of an outcome on b
record FairOutcome (b : List ℕ) (o : Outcome) : Type 0 where
  keeps : Keeps b o
  is_good : o.number ≡ 0 → good current o.block ≡ true

module _ (b : List ℕ) where
  fresh_fair : FairOutcome b (fresh current b)
  unfolding fresh
  fresh_fair = record { keeps = one_keeps b _ (eqb (length b) (block_length current)) 1; is_good = fresh_good b }

  set_fair : (limit direction : ℕ) → FairOutcome b (set current limit direction b)
  unfolding set
  set_fair limit direction =
      record {
        keeps = two_keep b _ (good current b) (leb direction 1) 1 7;
        is_good = λ h. set_good b (was_good (good current b) b _ h) limit direction;
      }

  image_fair : (image : ℕ) → FairOutcome b (set_image_end current image b)
  unfolding set_image_end
  image_fair image =
      record { keeps = one_keeps b _ (good current b) 1; is_good = λ h. image_good b (was_good (good current b) b _ h) image }

  command_fair : (c : Command) → FairOutcome b (command_outcome current c b)
  command_fair c = go (refuses_or_stores current c b)
    where
      go : Refuses current c b ⊎ Stores current c b → FairOutcome b (command_outcome current c b)
      go (inl r) = record { keeps = λ d. r.block; is_good = λ z. absurd (clash _ (eq-eqb _ 0 z) r.number) }
      go (inr s) = record { keeps = λ d. absurd (d (ap (λ (o : Outcome). o.number) s.is)); is_good = λ z. command_good b s.is_good c }

  trim_fair : (align : ℕ) → FairOutcome b (trim current align b)
  unfolding trim
  trim_fair align =
      record {
        keeps = two_keep b _ (good current b) (power_of_two align) 1 3;
        is_good = λ h. trim_good b (was_good (good current b) b _ h) align;
      }

  -- steps in turn, whole or not at all
  wholly_keeps : (ss : List Step) → Keeps b (wholly ss b)
  unfolding wholly
  wholly_keeps ss = go (eqb (in_turn ss b).number 0) refl
    where
      go : (t : Bool) → eqb (in_turn ss b).number 0 ≡ t → Keeps b (unless t (in_turn ss b).number b (in_turn ss b))
      go true e = λ d. absurd (d (eqb-true (in_turn ss b).number 0 e))
      go false e = λ d. refl

  -- after the block's check and one of what is lent
  intake_keeps : (n : ℕ) (t : Bool) (ss : List Step) → Keeps b (checked n t ss b)
  intake_keeps n t ss = unless_keeps (good current b) 1 b _ (unless_keeps t n b _ (wholly_keeps ss))

  intake_fair : (report : List ℕ) → FairOutcome b (intake_e820 current report b)
  unfolding intake_e820
  intake_fair report =
      record {
        keeps = intake_keeps 10 (readable report) (entry_steps current (entries report));
        is_good = λ h. intake_good report b (was_good (good current b) b _ h);
      }

  tree_fair : (tree : List ℕ) → FairOutcome b (intake_tree current tree b)
  unfolding intake_tree
  tree_fair tree =
      record {
        keeps = intake_keeps 11 (board.readable tree) (steps current (board.asks tree));
        is_good = λ h. tree_good tree b (was_good (good current b) b _ h);
      }

  pair_fair : (board service : List ℕ) → FairOutcome b (intake_trees current board service b)
  unfolding intake_trees
  pair_fair board service =
      record {
        keeps = intake_keeps 11 (readable_pair board service) (steps current (asks_pair board service));
        is_good = λ h. pair_good board service b (was_good (good current b) b _ h);
      }

  convert_fair : (old : List ℕ) → FairOutcome b (convert old b)
  unfolding convert
  convert_fair old =
      record { keeps = one_keeps b _ (good_one old && eqb (length b) (block_length current)) 1; is_good = (convert_sentence.converts old b).is_good }

-- ---- calls with a slip, and one with a buffer

-- what is so of an answer on b with a slip and a buffer
record Fair (b slip filled : List ℕ) (x : Answer) : Type 0 where
  block : (x.number ≡ 0 → ⊥) → x.block ≡ b
  buffer : (x.number ≡ 0 → ⊥) → x.buffer ≡ filled
  zero : (x.number ≡ 0 → ⊥) → length slip ≡ 16 → x.slip ≡ replicate 16 0
  lent : (x.number ≡ 0 → ⊥) → (length slip ≡ 16 → ⊥) → x.slip ≡ slip
  is_good : x.number ≡ 0 → good current x.block ≡ true

plain_fair : (b : List ℕ) (o : Outcome) → FairOutcome b o → Fair b [] [] (plain o)
plain_fair b o f = record { block = f.keeps; buffer = λ d. refl; zero = λ d l. absurd (omega (arith, l)); lent = λ d l. refl; is_good = f.is_good }

module _ (b slip : List ℕ) where
  with_slip_fair : (x : Answer) → (length slip ≡ 16 → Fair b slip [] x) → Fair b slip [] (with_slip b slip x)
  with_slip_fair x h = go (eqb (length slip) 16) refl
    where
      go : (t : Bool) → eqb (length slip) 16 ≡ t → Fair b slip [] (cond t x (answer 8 b slip))
      go true e = h (eqb-true (length slip) 16 e)
      go false e =
          record {
            block = λ d. refl;
            buffer = λ d. refl;
            zero = λ d l. absurd (eqb-false (length slip) 16 e l);
            lent = λ d l. refl;
            is_good = λ z. absurd (omega (arith, z));
          }

  module _ (l : length slip ≡ 16) where
    refuse_fair : (n : ℕ) → (n ≡ 0 → ⊥) → Fair b slip [] (refuse n b)
    refuse_fair n d = record { block = λ e. refl; buffer = λ e. refl; zero = λ e m. refl; lent = λ e m. absurd (m l); is_good = λ z. absurd (d z) }

    unless_fair : (t : Bool) (n : ℕ) (x : Answer) → (t ≡ false → n ≡ 0 → ⊥) → (t ≡ true → Fair b slip [] x) → Fair b slip [] (unlessAnswer t n b x)
    unless_fair true n x d h = h refl
    unless_fair false n x d h = refuse_fair n (d refl)

    done_fair : (c s : List ℕ) → good current c ≡ true → Fair b slip [] (answer 0 c s)
    done_fair c s g = record { block = λ d. absurd (d refl); buffer = λ d. absurd (d refl); zero = λ d m. absurd (d refl); lent = λ d m. absurd (d refl); is_good = λ z. g }

-- the checks let only a good block pass
checks_good : (b : List ℕ) (n : ℕ) → cond (good current b) n 1 ≡ 0 → good current b ≡ true
checks_good b n e = go (good current b) refl e
  where
    go : (t : Bool) → good current b ≡ t → cond t n 1 ≡ 0 → t ≡ true
    go true g h = refl
    go false g h = absurd (omega (arith, h))

module _ (b slip : List ℕ) where
  -- what is answered past the checks
  asking_fair : (n : ℕ) (x : Answer) → (n ≡ 0 → good current b ≡ true) → (length slip ≡ 16 → good current b ≡ true → Fair b slip [] x) → Fair b slip [] (asking n b slip x)
  asking_fair n x c h =
      with_slip_fair b slip (unlessAnswer (eqb n 0) n b x) (λ l. unless_fair b slip l (eqb n 0) n x (eqb-false n 0) (λ e. h l (c (eqb-true n 0 e))))

  place_fair : length slip ≡ 16 → good current b ≡ true → (p : Option Spot) → Fair b slip [] (place_answer b p)
  place_fair l g None = refuse_fair b slip l 5 (λ z. omega (arith, z))
  place_fair l g (Some s) = done_fair b slip l b _ g

  find_fair : (q : Query) → Fair b slip [] (find current q b slip)
  unfolding find
  find_fair q = asking_fair (check_number current q b) _ (checks_good b (refusal q)) (λ l g. place_fair l g (found_place (contents current b) q))

  allocate_fair : (q : Query) → Fair b slip [] (allocate current q b slip)
  unfolding allocate command_outcome
  allocate_fair q = asking_fair (check_number current q b) _ (checks_good b (refusal q)) (λ l g. go l g (found_place (contents current b) q))
    where
      reserving : length slip ≡ 16 → (a end : ℕ) (o : Outcome) → good current o.block ≡ true → Fair b slip [] (reserved b a end o)
      reserving l a end o h = by (eqb o.number 0) refl
        where
          by : (t : Bool) → eqb o.number 0 ≡ t → Fair b slip [] (cond t (answer 0 o.block (slip_of a end)) (refuse o.number b))
          by true e = done_fair b slip l o.block _ h
          by false e = refuse_fair b slip l o.number (eqb-false o.number 0 e)

      go : length slip ≡ 16 → good current b ≡ true → (p : Option Spot) → Fair b slip [] (allocate_answer current b q.size.0 p)
      go l g None = refuse_fair b slip l 5 (λ z. omega (arith, z))
      go l g (Some s) =
          let o : Outcome = change_range current Taken (Fill (tag 0 0)) s.at.0 q.size.0 b in
          let h : good current o.block ≡ true = rw g at (command_good b g (command Reserve s.at.0 q.size.0)) in
          reserving l s.at.0 s.run.end.0 o h

  next_free_fair : (from node wish : ℕ) → Fair b slip [] (next_free current from node wish b slip)
  unfolding next_free
  next_free_fair from node wish =
      asking_fair (next_number current node wish b) _ (checks_good b (cond (askable node wish) 0 2))
      (λ l g. place_fair l g (next_place (contents current b) from node wish))

  pages_fair : (page : ℕ) (buffer : List ℕ) → Fair b slip buffer (hand_over current page b buffer slip)
  unfolding hand_over
  pages_fair page buffer = go (eqb (length slip) 16) refl (good current b) refl
    where
      go : (t : Bool) → eqb (length slip) 16 ≡ t → (u : Bool) → good current b ≡ u
          → Fair b slip buffer (cond t (cond u (given b (pieces_from (runs_of (contents current b)) page) buffer) (with_buffer buffer (refuse 1 b))) (with_buffer buffer (answer 8 b slip)))
      go true l true g =
          record { block = λ d. refl; buffer = λ d. absurd (d refl); zero = λ d m. absurd (d refl); lent = λ d m. absurd (d refl); is_good = λ z. g }
      go true l false g =
          record {
            block = λ d. refl;
            buffer = λ d. refl;
            zero = λ d m. refl;
            lent = λ d m. absurd (m (eqb-true (length slip) 16 l));
            is_good = λ z. absurd (omega (arith, z));
          }
      go false l u g =
          record {
            block = λ d. refl;
            buffer = λ d. refl;
            zero = λ d m. absurd (eqb-false (length slip) 16 l m);
            lent = λ d m. refl;
            is_good = λ z. absurd (omega (arith, z));
          }

-- ---- every call

fair : (c : Call) (b : List ℕ) → Fair b (slip_lent c) (buffer_lent c) (answer_of c b)
unfolding answer_of
fair to_fresh b = plain_fair b _ (fresh_fair b)
fair (to_set limit direction) b = plain_fair b _ (set_fair b limit direction)
fair (to_set_image_end image) b = plain_fair b _ (image_fair b image)
fair (to_command c) b = plain_fair b _ (command_fair b c)
fair (to_trim align) b = plain_fair b _ (trim_fair b align)
fair (to_find q slip) b = find_fair b slip q
fair (to_next_free from node wish slip) b = next_free_fair b slip _ _ _
fair (to_allocate q slip) b = allocate_fair b slip q
fair (to_pages page buffer slip) b = pages_fair b slip page buffer
fair (to_intake report) b = plain_fair b _ (intake_fair b report)
fair (to_intake_tree tree) b = plain_fair b _ (tree_fair b tree)
fair (to_intake_trees board service) b = plain_fair b _ (pair_fair b board service)
fair (to_convert old) b = plain_fair b _ (convert_fair b old)

pub refusal_sentence : RefusalSentence
refusal_sentence c b d = let f = fair c b in record { block = f.block d; buffer = f.buffer d; zero = f.zero d; lent = f.lent d }

pub done_sentence : DoneSentence
done_sentence c b h = (fair c b).is_good h

-- ---- for programs that call the functions

-- done or not, a call leaves a good block good
pub left_good : (c : Call) (b : List ℕ) → good current b ≡ true → (n : ℕ) (x : List ℕ) → answer n x [] ≡ answer_of c b → good current x ≡ true
left_good c b g n x e = ap (λ (o : Answer). good current o.block) e ∙ go (eqb (answer_of c b).number 0) refl
  where
    go : (t : Bool) → eqb (answer_of c b).number 0 ≡ t → good current (answer_of c b).block ≡ true
    go true z = done_sentence c b (eqb-true (answer_of c b).number 0 z)
    go false z = ap (good current) (refusal_sentence c b (eqb-false (answer_of c b).number 0 z)).block ∙ g

-- and fresh makes one of any bytes of the right length
pub fresh_left_good : (b : List ℕ) → length b ≡ block_length current → (n : ℕ) (x : List ℕ) → answer n x [] ≡ answer_of to_fresh b → good current x ≡ true
unfolding answer_of fresh
fresh_left_good b l n x e = ap (λ (o : Answer). good current o.block) e ∙ done_sentence to_fresh b (rw (eq-eqb (length b) (block_length current) l))
