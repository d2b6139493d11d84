-- Allocate is find and then reserve. Assumes nothing.
use Prim.Native.Nat.{ℕ, ◌<◌}
use mathlib.Core.Path.{◌≡◌, refl, sym, ap, ◌∙◌}
use mathlib.Core.Bool.{Bool, true, false, cond}
use mathlib.Core.List.{List}
use mathlib.Core.Option.{Option, none, some}
use native.Mathlib.Omega.{arith}
use lib.Dec.{eqb}
use lib.ListN.{length}
use borrow.Author.Tests.{eqb-true, eqb-false}
use Rattle.regions.specs.declared.Kind.TheVariants.{Taken}
use Rattle.regions.specs.declared.Change.TheVariants.{Fill}
use Rattle.regions.specs.Meaning.{top}
use Rattle.regions.specs.Bytes.{number}
use Rattle.regions.specs.Runs.{run_at}
use Rattle.block.specs.declared.Layout.{Layout}
use Rattle.block.specs.Block.{contents, good}
use Rattle.tables.specs.declared.commands.Verb.TheVariants.{Reserve}
use Rattle.range.specs.Outcomes.{Outcome, change_range, tag}
use Rattle.tables.specs.Commands.{command, command_outcome}
use Rattle.fits.specs.declared.Query.{Query}
use Rattle.fits.specs.Eligible.{eligible, Gives}
use Rattle.fits.specs.Places.{hit_of, place_of}
use Rattle.seek.specs.Search.{window, runs_of, found, found_place}
use Rattle.search.specs.Answers.{Answer, answer, refuse, slip_of, check_number, place_answer, find, allocate, allocate_answer, reserved}
use Rattle.search.specs.DemandTwo.{ReserveSentence}
use Rattle.search.proofs.Answering.{number_ready, slip_first}
use Rattle.search.proofs.Allocating.{store_leaves}
use Rattle.seek.proofs.Found.{Beyond, found_gives}

-- f is what find answers, a what allocate answers, o what reserve does
record Then (f a : Answer) (o : Outcome) : Type 0 where
  refused : (f.number ≡ 0 → ⊥) → a ≡ f
  number : f.number ≡ 0 → a.number ≡ o.number
  block : f.number ≡ 0 → a.block ≡ o.block
  slip : a.number ≡ 0 → a.slip ≡ f.slip

alike : (f : Answer) (o : Outcome) → (f.number ≡ 0 → ⊥) → Then f f o
alike f o h = record { refused = λ d. refl; number = λ e. absurd (h e); block = λ e. absurd (h e); slip = λ e. refl }

-- what was reserved, or the table is full and nothing has changed
reserved_then : (b : List ℕ) (a end : ℕ) (o : Outcome) → ((o.number ≡ 0 → ⊥) → o.block ≡ b) → Then (answer 0 b (slip_of a end)) (reserved b a end o) o
reserved_then b a end o k = go (eqb o.number 0) refl
  where
    go : (t : Bool) → eqb o.number 0 ≡ t → Then (answer 0 b (slip_of a end)) (cond t (answer 0 o.block (slip_of a end)) (refuse o.number b)) o
    go true e = record { refused = λ d. absurd (d refl); number = λ z. sym (eqb-true o.number 0 e); block = λ z. refl; slip = λ z. refl }
    go false e =
        let d = eqb-false o.number 0 e in
        record { refused = λ h. absurd (h refl); number = λ z. refl; block = λ z. sym (k d); slip = λ z. absurd (d z) }

module _ (L : Layout) (q : Query) (b : List ℕ) where
  abbrev taking : ℕ → Outcome
  taking a = change_range L Taken (Fill (tag 0 0)) a q.size.0 b

  -- reserve on a good block
  reserve_is : good L b ≡ true → (a : ℕ) → command_outcome L (command Reserve a q.size.0) b ≡ taking a
  unfolding command_outcome
  reserve_is g a = rw g

  leaves : (a : ℕ) → ((taking a).number ≡ 0 → ⊥) → (taking a).block ≡ b
  leaves a d = store_leaves L Taken _ b (taking a).block (taking a).number refl d

pub reserve_sentence : ReserveSentence
unfolding find allocate found_place
reserve_sentence L q b slip =
    let t = go (eqb (length slip) 16) (eqb n 0) refl (found (contents L b) q) (found_gives (contents L b) q) in
    record { refused = t.refused; number = t.number; block = t.block; written = t.slip }
  where
    n : ℕ
    n = check_number L q b

    finds : Bool → Bool → Option ℕ → Answer
    finds w t o = cond w (cond t (place_answer b (place_of (hit_of (run_at (runs_of (contents L b))) o))) (refuse n b)) (answer 8 b slip)

    takes : Bool → Bool → Option ℕ → Answer
    takes w t o = cond w (cond t (allocate_answer L b q.size.0 (place_of (hit_of (run_at (runs_of (contents L b))) o))) (refuse n b)) (answer 8 b slip)

    end : ℕ → ℕ
    end x = (run_at (runs_of (contents L b)) x).end.0

    there : (x : ℕ) → eqb n 0 ≡ true → x < top → command_outcome L (command Reserve (number 8 (slip_of x (end x))) q.size.0) b ≡ taking L q b x
    there x e l =
        ap (λ (y : ℕ). command_outcome L (command Reserve y q.size.0) b) (slip_first x (end x) l)
        ∙ reserve_is L q b (number_ready L b q (eqb-true n 0 e)).0.0 x

    go : (w t : Bool) → eqb n 0 ≡ t → (o : Option ℕ) → Gives (eligible (window (contents L b).settings.limit.0 q) (runs_of (contents L b))) (Beyond (contents L b).settings) top o
        → Then (finds w t o) (takes w t o) (command_outcome L (command Reserve (number 8 (finds w t o).slip) q.size.0) b)
    go false t e o g = alike (answer 8 b slip) _ (λ z. omega (arith, z))
    go true false e o g = alike (refuse n b) _ (eqb-false n 0 e)
    go true true e none g = alike (refuse 5 b) _ (λ z. omega (arith, z))
    go true true e (some x) g = rw (there x e g.1.0) (reserved_then b x (end x) (taking L q b x) (leaves L q b x))
