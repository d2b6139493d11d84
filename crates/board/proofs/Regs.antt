-- The ranges of a reg and of the reservation list, one by one: what is still to be done on the block so far is what the whole is on the block at the start.
-- Assumes nothing.
use Rattle.std.proofs.Common.{◌≡◌, ℕ, zero, suc, ◌+◌, ◌-◌, ◌*◌, ◌/◌, ◌≤◌, ◌<◌, Bool, true, false, ◌&&◌, cond, List, [], ◌∷◌, ◌++◌, Result, length, drop, refl, sym, ◌∙◌, arith, length-append, length-drop}
use lib.Dec.{eqb}
use Rattle.block.specs.Block.{current}
use Rattle.range.specs.Outcomes.{Outcome, outcome}
use Rattle.tables.specs.declared.commands.Verb.{Verb}
use Rattle.tables.specs.declared.commands.Verb.TheVariants.{Reserve}
use Rattle.refusals.specs.Numbers.{number}
use Rattle.refusals.specs.declared.Refusal.{Refusal}
use Rattle.refusals.specs.declared.Refusal.TheVariants.{Block, Tag, Alignment, Size, Nowhere, Full, Direction, Slip, Report, Tree, NotTaken, Line, Lines}
use Rattle.tables.specs.Commands.{Command, command, command_outcome}
use Rattle.intake.specs.Turns.{steps, in_turn}
use Rattle.intake.proofs.Turns.{commands_refused, commands_next, turn_last}
use Rattle.tree.specs.Words.{big}
use Rattle.tree.specs.Header.{Range, pairs, before_end}
use Rattle.board.specs.declared.ranges.Cells.{Cells}
use Rattle.board.specs.Board.{entries, on_ranges}
use Rattle.board.specs.Steps.{OneOrTwo}

-- ---- answers

abbrev pub Answer : Type 0
Answer = Result (Unit {0}) Refusal

-- a refusal has a number
pub refusal_some : (y : Refusal) → number y ≡ 0 → ⊥
refusal_some Block e = absurd (omega arith)
refusal_some Tag e = absurd (omega arith)
refusal_some Alignment e = absurd (omega arith)
refusal_some Size e = absurd (omega arith)
refusal_some Nowhere e = absurd (omega arith)
refusal_some Full e = absurd (omega arith)
refusal_some Direction e = absurd (omega arith)
refusal_some Slip e = absurd (omega arith)
refusal_some Report e = absurd (omega arith)
refusal_some Tree e = absurd (omega arith)
refusal_some NotTaken e = absurd (omega arith)
refusal_some Line e = absurd (omega arith)
refusal_some Lines e = absurd (omega arith)

-- of two lists of commands, where the first was refused, and where it was done
module _ (cs ds : List Command) (b b' : List ℕ) where
  pub refused_first : (y : Refusal) → outcome (number y) b' ≡ in_turn (steps current cs) b → outcome (number y) b' ≡ in_turn (steps current (cs ++ ds)) b
  refused_first y o = commands_refused cs ds b (number y) b' o (refusal_some y)

  pub done_first : outcome 0 b' ≡ in_turn (steps current cs) b → in_turn (steps current ds) b' ≡ in_turn (steps current (cs ++ ds)) b
  done_first o = commands_next cs ds b 0 b' o refl

-- ---- ranges in turn

module _ (v : Verb) (rest : List Range) (b : List ℕ) (whole : Outcome) (inv : whole ≡ in_turn (steps current (on_ranges v rest)) b) where
  all_done : rest ≡ [] → outcome 0 b ≡ whole
  unfolding in_turn
  all_done e = sym (inv ∙ rw e refl)

  module _ (r : Range) (rs : List Range) (e : rest ≡ r ∷ rs) (x : ℕ) (b' : List ℕ) (o : outcome x b' ≡ command_outcome current (command v r.base r.size) b) where
    first_one : outcome x b' ≡ in_turn (steps current (command v r.base r.size ∷ [])) b
    first_one = o ∙ sym (turn_last (command_outcome current (command v r.base r.size)) b)

    one_refused : (x ≡ 0 → ⊥) → outcome x b' ≡ whole
    one_refused h = commands_refused (command v r.base r.size ∷ []) (on_ranges v rs) b x b' first_one h ∙ sym (inv ∙ rw e refl)

    one_next : x ≡ 0 → whole ≡ in_turn (steps current (on_ranges v rs)) b'
    one_next h = inv ∙ rw e refl ∙ sym (commands_next (command v r.base r.size ∷ []) (on_ranges v rs) b x b' first_one h)

-- ---- a number of one or two cells

pub one_cell : (l : List ℕ) (at cells : ℕ) → cells ≡ 1 → (x : ℕ) → x ≡ big 0 4 (drop at l) → x ≡ big 0 (4 * cells) (drop at l)
one_cell l at cells e x q = q ∙ rw e refl

pub two_cells : (l : List ℕ) (at cells : ℕ) → 0 < cells → cells ≤ 2 → (cells ≡ 1 → ⊥) → (x : ℕ) → x ≡ big 0 8 (drop at l) → x ≡ big 0 (4 * cells) (drop at l)
two_cells l at cells h g n x q = let e : cells ≡ 2 = omega arith in q ∙ rw e refl

-- ---- the entries of a reg

-- the bytes that an entry of one or two cells each can have
data Width : ℕ → Type 0 where
  eight : Width 8
  twelve : Width 12
  sixteen : Width 16

widths : (a z : ℕ) → 0 < a → a ≤ 2 → 0 < z → z ≤ 2 → Width (4 * (a + z))
widths (suc zero) (suc zero) h g j k = eight
widths (suc zero) (suc (suc zero)) h g j k = twelve
widths (suc (suc zero)) (suc zero) h g j k = twelve
widths (suc (suc zero)) (suc (suc zero)) h g j k = sixteen
widths zero z h g j k = absurd (omega arith)
widths (suc (suc (suc a))) z h g j k = absurd (omega arith)
widths (suc zero) zero h g j k = absurd (omega arith)
widths (suc zero) (suc (suc (suc z))) h g j k = absurd (omega arith)
widths (suc (suc zero)) zero h g j k = absurd (omega arith)
widths (suc (suc zero)) (suc (suc (suc z))) h g j k = absurd (omega arith)

width_is : (c : Cells) → OneOrTwo c → Width (4 * (c.address + c.size))
width_is c few = widths c.address c.size few.some_address few.few_address few.some_size few.few_size

-- one entry less
less_one : (m w : ℕ) → Width w → w ≤ m → m / w ≡ suc ((m - w) / w)
less_one m w eight h = omega arith
less_one m w twelve h = omega arith
less_one m w sixteen h = omega arith

-- no whole one
less_none : (m w : ℕ) → Width w → m < w → m / w ≡ 0
less_none m w eight h = omega arith
less_none m w twelve h = omega arith
less_none m w sixteen h = omega arith

-- the bytes past the first k do not matter
big_front : (v k : ℕ) (xs ys : List ℕ) → k ≤ length xs → big v k (xs ++ ys) ≡ big v k xs
unfolding big
big_front v zero xs ys h = refl
big_front v (suc k) [] ys h = absurd (omega arith)
big_front v (suc k) (x ∷ xs) ys h = big_front (256 * v + x) k xs ys (omega arith)

drop_front : (k : ℕ) (xs ys : List ℕ) → k ≤ length xs → drop k (xs ++ ys) ≡ drop k xs ++ ys
drop_front zero xs ys h = refl
drop_front (suc k) [] ys h = absurd (omega arith)
drop_front (suc k) (x ∷ xs) ys h = drop_front k xs ys (omega arith)

drop_whole : (k : ℕ) (xs ys : List ℕ) → k ≡ length xs → drop k (xs ++ ys) ≡ ys
drop_whole k [] ys e = rw e refl
drop_whole zero (x ∷ xs) ys e = absurd (omega arith)
drop_whole (suc k) (x ∷ xs) ys e = drop_whole k xs ys (omega arith)

-- the entries in bytes that are left
abbrev pub EntriesIn : Cells → List ℕ → List Range
EntriesIn c l = entries (length l / (4 * (c.address + c.size))) c.address c.size l

module _ (v : Verb) (c : Cells) (few : OneOrTwo c) (l : List ℕ) (w : ℕ) (width : w ≡ 4 * (c.address + c.size)) where
  pub entries_done : length l < w → (b : List ℕ) (whole : Outcome) → whole ≡ in_turn (steps current (on_ranges v (EntriesIn c l))) b → outcome 0 b ≡ whole
  unfolding entries
  entries_done h b whole inv = all_done v (EntriesIn c l) b whole inv (rw (less_none (length l) (4 * (c.address + c.size)) (width_is c few) (omega (arith, h, width))) refl)

  module _ (x rest : List ℕ) (parts : l ≡ x ++ rest) (k : length x ≡ w) (b : List ℕ) (whole : Outcome)
      (inv : whole ≡ in_turn (steps current (on_ranges v (EntriesIn c l))) b) (base size : ℕ) (p : base ≡ big 0 (4 * c.address) x)
      (q : size ≡ big 0 (4 * c.size) (drop (4 * c.address) x)) (b' : List ℕ) where
    whole_entry : length x ≡ 4 * (c.address + c.size)
    whole_entry = k ∙ width

    one : EntriesIn c l ≡ record { base = base; size = size } ∷ EntriesIn c rest
    unfolding entries
    one =
        let m : length l ≡ 4 * (c.address + c.size) + length rest = rw parts (simp length-append (omega (arith, whole_entry))) in
        let z : length l - 4 * (c.address + c.size) ≡ length rest = omega (arith, m) in
        let u : length (drop (4 * c.address) x) ≡ 4 * c.size = simp length-drop (omega (arith, whole_entry)) in
        let f : big 0 (4 * c.address) l ≡ base = rw parts (big_front 0 (4 * c.address) x rest (omega (arith, whole_entry)) ∙ sym p) in
        let g : big 0 (4 * c.size) (drop (4 * c.address) l) ≡ size =
        rw (parts, drop_front (4 * c.address) x rest (omega (arith, whole_entry))) (big_front 0 (4 * c.size) (drop (4 * c.address) x) rest (omega (arith, u)) ∙ sym q) in
        let d : drop (4 * (c.address + c.size)) l ≡ rest = rw parts (drop_whole (4 * (c.address + c.size)) x rest (sym whole_entry)) in
        rw (less_one (length l) (4 * (c.address + c.size)) (width_is c few) (omega (arith, m)), z, f, g, d) refl

    pub entries_refused : (r : Refusal) → outcome (number r) b' ≡ command_outcome current (command v base size) b → outcome (number r) b' ≡ whole
    entries_refused r o = one_refused v (EntriesIn c l) b whole inv (record { base = base; size = size }) _ one (number r) b' o (refusal_some r)

    pub entries_next : outcome 0 b' ≡ command_outcome current (command v base size) b → whole ≡ in_turn (steps current (on_ranges v (EntriesIn c rest))) b'
    entries_next o = one_next v (EntriesIn c l) b whole inv (record { base = base; size = size }) _ one 0 b' o refl

-- ---- the reservation list

-- the ranges in bytes that are left
abbrev pub ListIn : List ℕ → List Range
ListIn l = before_end (pairs (length l / 16) l)

module _ (l : List ℕ) (w : ℕ) (width : w ≡ 16) where
  pub list_over : length l < w → (b : List ℕ) (whole : Outcome) → whole ≡ in_turn (steps current (on_ranges Reserve (ListIn l))) b → outcome 0 b ≡ whole
  unfolding before_end pairs
  list_over h b whole inv = all_done Reserve (ListIn l) b whole inv (rw (less_none (length l) 16 sixteen (omega (arith, h, width))) refl)

  module _ (x rest : List ℕ) (parts : l ≡ x ++ rest) (k : length x ≡ w) (b : List ℕ) (whole : Outcome)
      (inv : whole ≡ in_turn (steps current (on_ranges Reserve (ListIn l))) b) (base size : ℕ) (p : base ≡ big 0 8 x) (q : size ≡ big 0 8 (drop 8 x)) where
    whole_pair : length x ≡ 16
    whole_pair = k ∙ width

    at_pair : ListIn l ≡ cond (eqb base 0 && eqb size 0) [] (record { base = base; size = size } ∷ ListIn rest)
    unfolding before_end pairs
    at_pair =
        let m : length l ≡ 16 + length rest = rw parts (simp length-append (omega (arith, whole_pair))) in
        let z : length l - 16 ≡ length rest = omega (arith, m) in
        let f : big 0 8 l ≡ base = rw parts (big_front 0 8 x rest (omega (arith, whole_pair)) ∙ sym p) in
        let g : big 0 8 (drop 8 l) ≡ size = rw (parts, drop_front 8 x rest (omega (arith, whole_pair))) (big_front 0 8 (drop 8 x) rest (simp length-drop (omega (arith, whole_pair))) ∙ sym q) in
        let d : drop 16 l ≡ rest = rw parts (drop_whole 16 x rest (sym whole_pair)) in
        rw (less_one (length l) 16 sixteen (omega (arith, m)), z, f, g, d) refl

    module _ (t : Bool) (is : t ≡ eqb base 0 && eqb size 0) where
      pub list_ended : t ≡ true → outcome 0 b ≡ whole
      list_ended e = all_done Reserve (ListIn l) b whole inv (at_pair ∙ rw (← is, e) refl)

      module _ (e : t ≡ false) (b' : List ℕ) where
        next_pair : ListIn l ≡ record { base = base; size = size } ∷ ListIn rest
        next_pair = at_pair ∙ rw (← is, e) refl

        pub list_refused : (r : Refusal) → outcome (number r) b' ≡ command_outcome current (command Reserve base size) b → outcome (number r) b' ≡ whole
        list_refused r o = one_refused Reserve (ListIn l) b whole inv (record { base = base; size = size }) _ next_pair (number r) b' o (refusal_some r)

        pub list_next : outcome 0 b' ≡ command_outcome current (command Reserve base size) b → whole ≡ in_turn (steps current (on_ranges Reserve (ListIn rest))) b'
        list_next o = one_next Reserve (ListIn l) b whole inv (record { base = base; size = size }) _ next_pair 0 b' o refl
