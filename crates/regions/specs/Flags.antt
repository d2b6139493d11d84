-- E6's marking facts, once over the flag: what setting and clearing one of the three flags makes of a flag word. Assumes nothing.
use Rattle.std.specs.Prelude.{ℕ, ◌≤◌, ◌≡◌, true, false}
use Rattle.regions.specs.Changes.{has, one_flag, set_flag, clear_flag}

-- the flag w is set or cleared, the other two stand as they did in f, and the word is of 0 to 7 again
pub record Marking (w f : ℕ) : Type 0 where
  pub set : has w (set_flag w f) ≡ true
  pub cleared : has w (clear_flag w f) ≡ false
  pub others_set : (v : ℕ) → one_flag v ≡ true → (v ≡ w → ⊥) → has v (set_flag w f) ≡ has v f
  pub others_cleared : (v : ℕ) → one_flag v ≡ true → (v ≡ w → ⊥) → has v (clear_flag w f) ≡ has v f
  pub set_small : set_flag w f ≤ 7
  pub cleared_small : clear_flag w f ≤ 7

abbrev pub MarkingSentence : Type 0
MarkingSentence = (w f : ℕ) → one_flag w ≡ true → f ≤ 7 → Marking w f
