-- A command answers 2 exactly when the block is good and what it names is not legal. Assumes nothing.
use Prim.Native.Nat.{ℕ}
use mathlib.Core.Path.{◌≡◌, refl}
use mathlib.Core.Bool.{Bool, true, false, ◌&&◌, and-false}
use mathlib.Core.Logic.{inl, inr}
use native.Mathlib.Omega.{arith}
use lib.Dec.{leb}
use borrow.Author.Tests.{lt-leb, leb-false, ne_eqb}
use Rattle.address.proofs.Tests.{clash, zero_not_one}
use Rattle.regions.specs.Lists.{legal_tag}
use Rattle.regions.specs.Changes.{one_flag}
use Rattle.block.specs.Block.{good}
use Rattle.tables.specs.declared.commands.Verb.{Verb}
use Rattle.tables.specs.declared.commands.Verb.TheVariants.{Add, Remove, Mark, Unmark, Reserve, Free}
use Rattle.range.specs.Outcomes.{outcome}
use Rattle.tables.specs.Commands.{legal_verb, command_outcome}
use Rattle.tables.specs.BadTag.{NotOneFlag, BadTag, BadTagSentence}
use Rattle.tables.proofs.Answered.{Answered, not_good, not_legal, not_allowed, no_room, done, answered, number_is}

-- ---- what is not legal is bad

not_one : (w : ℕ) → one_flag w ≡ false → NotOneFlag w
not_one w e = (λ h. clash (one_flag w) (rw h) e, (λ h. clash (one_flag w) (rw h) e, λ h. clash (one_flag w) (rw h) e))

not_legal_lem : (v : Verb) → legal_verb v ≡ false → BadTag v
unfolding legal_tag
not_legal_lem (Add t) e = go (leb t.flags 7) refl e
  where
    go : (x : Bool) → leb t.flags 7 ≡ x → x && leb t.node 63 ≡ false → BadTag (Add t)
    go true h i = inr (leb-false t.node 63 i)
    go false h i = inl (leb-false t.flags 7 h)
not_legal_lem Remove e = absurd (zero_not_one cc)
not_legal_lem (Mark w) e = not_one w e
not_legal_lem (Unmark w) e = not_one w e
not_legal_lem Reserve e = absurd (zero_not_one cc)
not_legal_lem Free e = absurd (zero_not_one cc)

-- ---- and the other way

one_not : (w : ℕ) → NotOneFlag w → one_flag w ≡ false
one_not w n = rw (ne_eqb w 1 n.0, ne_eqb w 2 n.1.0, ne_eqb w 4 n.1.1)

bad_is : (v : Verb) → BadTag v → legal_verb v ≡ false
unfolding legal_tag
bad_is (Add t) (inl h) = rw (lt-leb t.flags 7 h)
bad_is (Add t) (inr h) = rw (lt-leb t.node 63 h, and-false)
bad_is Remove n = absurd n
bad_is (Mark w) n = one_not w n
bad_is (Unmark w) n = one_not w n
bad_is Reserve n = absurd n
bad_is Free n = absurd n

-- ---- the sentence

pub bad_tag_sentence : BadTagSentence
bad_tag_sentence L c b = (λ e. only e (answered L c b), λ g n. given g (bad_is c.verb n) (answered L c b))
  where
    only : (command_outcome L c b).number ≡ 2 → Answered L c b → (good L b ≡ true) × BadTag c.verb
    only h (not_good g e) = absurd (omega (arith, number_is e h))
    only h (not_legal g l e) = (g, not_legal_lem c.verb l)
    only h (not_allowed g l a e) = absurd (omega (arith, number_is e h))
    only h (no_room g l a m e) = absurd (omega (arith, number_is e h))
    only h (done g l a m e) = absurd (omega (arith, number_is e h))

    given : good L b ≡ true → legal_verb c.verb ≡ false → Answered L c b → command_outcome L c b ≡ outcome 2 b
    given h n (not_good g e) = absurd (clash (good L b) h g)
    given h n (not_legal g l e) = e
    given h n (not_allowed g l a e) = absurd (clash (legal_verb c.verb) l n)
    given h n (no_room g l a m e) = absurd (clash (legal_verb c.verb) l n)
    given h n (done g l a m e) = absurd (clash (legal_verb c.verb) l n)
