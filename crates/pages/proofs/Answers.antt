-- What a call that hands pages over answers: 8, 1, or as many pieces as fit. Assumes nothing.
use Prim.Native.Nat.{ℕ}
use mathlib.Core.Path.{◌≡◌}
use mathlib.Core.Bool.{Bool, true, false, not}
use mathlib.Core.List.{List}
use lib.ListN.{length, replicate}
use borrow.Author.Tests.{eq-eqb, ne_eqb, not-true, not-false}
use Rattle.block.specs.declared.Layout.{Layout}
use Rattle.block.specs.Block.{current, contents, good}
use Rattle.runs.specs.declared.Tables.{Tables}
use Rattle.seek.specs.Search.{runs_of}
use Rattle.seek.specs.Steps.{TablesOf}
use Rattle.search.specs.Answers.{answer, with_buffer, slip_of}
use Rattle.pages.specs.Pages.{pieces_from, hand_over}
use Rattle.sweep.specs.Steps.{runs_in}
use Rattle.pages.specs.Steps.{HandedOver}

-- ---- the answers

pub hand_no_slip : (p : ℕ) (b buffer slip : List ℕ) → (length slip ≡ 16 → ⊥) → with_buffer buffer (answer 8 b slip) ≡ hand_over current p b buffer slip
unfolding hand_over
hand_no_slip p b buffer slip h = rw (ne_eqb (length slip) 16 h)

module _ (p : ℕ) (b buffer slip : List ℕ) (h : length slip ≡ 16) {L : Layout} (l : L ≡ current) {g : Bool} (e : g ≡ good L b) where
  pub hand_bad : not g ≡ true → {z : List ℕ} → z ≡ replicate 16 0 → with_buffer buffer (answer 1 b z) ≡ hand_over current p b buffer slip
  unfolding hand_over
  hand_bad f {z} i =
      let j = not-true g f in
      let k : good current b ≡ false = cc in
      rw (eq-eqb (length slip) 16 h, k, i)

  pub hand_given : not g ≡ false → {t : Tables} → TablesOf b t → {count next : ℕ} {after z : List ℕ} → HandedOver (pieces_from (runs_in t) p) buffer count next after
      → z ≡ slip_of count next → with_buffer after (answer 0 b z) ≡ hand_over current p b buffer slip
  unfolding hand_over
  hand_given f {t} is {count} {next} {after} {z} v i =
      let j = not-false g f in
      let k : good current b ≡ true = cc in
      let w : HandedOver (pieces_from (runs_of (contents current b)) p) buffer count next after = rw (is.memory, is.taken) at v in
      rw (eq-eqb (length slip) 16 h, k, i, w.many, w.rest, w.bytes)
