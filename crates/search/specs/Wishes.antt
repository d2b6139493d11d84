-- E6's sentences on wishes: which addresses they rule out, of all searches, and when a search answers 2. Assumes nothing.
use Rattle.std.specs.Prelude.{ℕ, ◌+◌, ◌≤◌, ◌<◌, ◌≡◌, Bool, true, false, List, ◌⊎◌, length}
use Rattle.regions.specs.declared.Tag.{Tag}
use Rattle.regions.specs.declared.State.TheVariants.{Present}
use Rattle.regions.specs.Meaning.{at}
use Rattle.regions.specs.Changes.{has}
use Rattle.block.specs.declared.Layout.{Layout}
use Rattle.block.specs.Block.{Contents, good}
use Rattle.fits.specs.declared.Query.{Query}
use Rattle.search.specs.Answers.{Answer, find, allocate, next_free}
use Rattle.search.specs.DemandTwo.{Eligible, FreeFrom}

-- ---- which addresses

-- x is memory whose flags have the flag w, or, where b is false, have it not
pub record Flagged (s : Contents) (w : ℕ) (b : Bool) (x : ℕ) : Type 0 where
  pub tag : Tag
  pub present : at s.memory x ≡ Present tag
  pub flag : has w tag.flags ≡ b

-- the wish rules x out: without 1 in it a hotplug address, with 2 in it one without mirror
abbrev pub RuledOut : Contents → ℕ → ℕ → Type 0
RuledOut s wish x = ((has 1 wish ≡ false) × Flagged s 1 true x) ⊎ ((has 2 wish ≡ true) × Flagged s 2 false x)

-- the same query with another wish
abbrev pub wishing : ℕ → Query → Query
wishing wish q = record { size = q.size; align = q.align; start = q.start; end = q.end; node = q.node; wish = wish }

-- such addresses are neither eligible nor free for next free, and all others are as by wish 1, which rules nothing out
pub record WishSentence : Type 0 where
  pub not_eligible : (s : Contents) (q : Query) (a x : ℕ) → Eligible s q a → a ≤ x → x < a + q.size.0 → RuledOut s q.wish x → ⊥
  pub not_free : (s : Contents) (p node wish a : ℕ) → FreeFrom s p node wish a → RuledOut s wish a → ⊥
  pub others_eligible : (s : Contents) (q : Query) (a : ℕ) → 0 < q.size.0 → Eligible s (wishing 1 q) a
      → ((x : ℕ) → a ≤ x → x < a + q.size.0 → RuledOut s q.wish x → ⊥) → Eligible s q a
  pub others_free : (s : Contents) (p node wish a : ℕ) → FreeFrom s p node 1 a → (RuledOut s wish a → ⊥) → FreeFrom s p node wish a
  pub wish_1 : (s : Contents) (x : ℕ) → RuledOut s 1 x → ⊥

-- ---- number 2

-- a node above 63 that is not 0xFFFFFFFF, or a wish above 3
abbrev pub BadAsk : ℕ → ℕ → Type 0
BadAsk node wish = ((63 < node) × (node ≡ 4294967295 → ⊥)) ⊎ (3 < wish)

-- 2, exactly when the slip is of 16 bytes, the block is good, and that is so: before the alignment and the size are looked at
pub record TwoWhen (L : Layout) (node wish : ℕ) (b slip : List ℕ) (a : Answer) : Type 0 where
  pub slip_right : a.number ≡ 2 → length slip ≡ 16
  pub is_good : a.number ≡ 2 → good L b ≡ true
  pub bad : a.number ≡ 2 → BadAsk node wish
  pub given : length slip ≡ 16 → good L b ≡ true → BadAsk node wish → a.number ≡ 2

pub record BadAskSentence : Type 0 where
  pub of_find : (L : Layout) (q : Query) (b slip : List ℕ) → TwoWhen L q.node q.wish b slip (find L q b slip)
  pub of_allocate : (L : Layout) (q : Query) (b slip : List ℕ) → TwoWhen L q.node q.wish b slip (allocate L q b slip)
  pub of_next_free : (L : Layout) (p node wish : ℕ) (b slip : List ℕ) → TwoWhen L node wish b slip (next_free L p node wish b slip)
