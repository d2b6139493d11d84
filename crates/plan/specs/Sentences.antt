-- E12's sentences, of lines and addresses. Assumes nothing.
use Rattle.std.specs.Prelude.{ℕ, ◌+◌, ◌≤◌, ◌<◌, ◌≡◌, true, false, ◌⊎◌, length}
use mathlib.Core.List.{List, [], Permᴰ}
use Rattle.regions.specs.declared.Kind.TheVariants.{Taken}
use Rattle.regions.specs.declared.Region.{Region}
use Rattle.regions.specs.declared.State.TheVariants.{Present}
use Rattle.regions.specs.Meaning.{at}
use Rattle.regions.specs.Lists.{good_list}
use Rattle.block.specs.Block.{current, Contents, with_list, block_bytes, contents, good}
use Rattle.range.specs.Outcomes.{tag}
use Rattle.search.specs.Answers.{refusal}
use Rattle.plan.specs.Answers.{Answer, answer, with_index}
use Rattle.search.specs.DemandTwo.{Eligible, Lowest}
use Rattle.plan.specs.declared.Line.{Line}
use Rattle.plan.specs.Plan.{line_at, plan}

-- ---- lines

-- x is an address of the line's range
abbrev pub In : Line → ℕ → Type 0
In l x = (l.at.0 ≤ x) × (x < l.at.0 + l.query.size.0)

-- a line that passes by itself: its own numbers pass the checks of find, and its address is eligible in the block as lent
pub record Fit (s : Contents) (l : Line) : Type 0 where
  pub numbers : refusal l.query ≡ 0
  pub eligible : Eligible s l.query l.at.0

-- two lines' ranges share an address
pub record Share (k l : Line) : Type 0 where
  pub address : ℕ
  pub one : In k address
  pub other : In l address

-- ---- which plans are accepted, and which line is at fault

-- each line passes by itself, and no two lines' ranges share an address
pub record Accepted (s : Contents) (ls : List Line) : Type 0 where
  pub fit : (i : ℕ) → i < length ls → Fit s (line_at ls i)
  pub apart : (i j : ℕ) → i < j → j < length ls → Share (line_at ls i) (line_at ls j) → ⊥

-- the line at i shares an address with an earlier line
pub record SharesEarlier (ls : List Line) (i : ℕ) : Type 0 where
  pub earlier : ℕ
  pub before : earlier < i
  pub share : Share (line_at ls earlier) (line_at ls i)

-- the line at i is at fault
pub record AtFault (s : Contents) (ls : List Line) (i : ℕ) : Type 0 where
  pub there : i < length ls
  pub fault : (Fit s (line_at ls i) → ⊥) ⊎ SharesEarlier ls i

-- the first line at fault
pub record FirstFault (s : Contents) (ls : List Line) : Type 0 where
  pub index : ℕ
  pub first : Lowest (AtFault s ls) index

-- ---- the answer

-- the finished list of the taken table: the addresses of all lines are taken, and every other address stands as in the block as lent
pub record Finished (s : Contents) (ls : List Line) (xs : List Region) : Type 0 where
  pub good : good_list Taken xs ≡ true
  pub lines : (i : ℕ) → i < length ls → (x : ℕ) → In (line_at ls i) x → at xs x ≡ Present (tag 0 0)
  pub others : (x : ℕ) → ((i : ℕ) → i < length ls → In (line_at ls i) x → ⊥) → at xs x ≡ at s.taken x

pub record FinishedList (s : Contents) (ls : List Line) : Type 0 where
  pub list : List Region
  pub finished : Finished s ls list

-- the number, the index and every byte of the block, in the request's order; a plan is accepted, or has a first line at fault, and never both
pub record PlanSentence (b : List ℕ) (ls : List Line) : Type 0 where
  pub bad : good current b ≡ false → plan current ls b ≡ answer 1 b []
  pub long : good current b ≡ true → 64 < length ls → plan current ls b ≡ answer 14 b []
  pub fault : good current b ≡ true → length ls ≤ 64 → (f : FirstFault (contents current b) ls) → plan current ls b ≡ with_index f.index (answer 13 b [])
  pub full : good current b ≡ true → length ls ≤ 64 → Accepted (contents current b) ls → (xs : List Region) → Finished (contents current b) ls xs → 512 < length xs
      → plan current ls b ≡ answer 6 b []
  pub done : good current b ≡ true → length ls ≤ 64 → Accepted (contents current b) ls → (xs : List Region) → Finished (contents current b) ls xs → length xs ≤ 512
      → plan current ls b ≡ answer 0 (block_bytes current (with_list (contents current b) Taken xs)) []
  pub either : good current b ≡ true → Accepted (contents current b) ls ⊎ FirstFault (contents current b) ls
  pub never_both : (i : ℕ) → Accepted (contents current b) ls → AtFault (contents current b) ls i → ⊥
  pub list : good current b ≡ true → Accepted (contents current b) ls → FinishedList (contents current b) ls
  pub empty : good current b ≡ true → ls ≡ [] → plan current ls b ≡ answer 0 b []

-- where it is done, the block says that the addresses of all lines are taken, and nothing else has changed
pub record Reserved (b : List ℕ) (ls : List Line) (e : List ℕ) : Type 0 where
  pub is_good : good current e ≡ true
  pub lines : (i : ℕ) → i < length ls → (x : ℕ) → In (line_at ls i) x → at (contents current e).taken x ≡ Present (tag 0 0)
  pub others : (x : ℕ) → ((i : ℕ) → i < length ls → In (line_at ls i) x → ⊥) → at (contents current e).taken x ≡ at (contents current b).taken x
  pub memory : (contents current e).memory ≡ (contents current b).memory
  pub settings : (contents current e).settings ≡ (contents current b).settings

abbrev pub ReservedSentence : Type 0
ReservedSentence = (b : List ℕ) (ls : List Line) → (plan current ls b).number ≡ 0 → Reserved b ls (plan current ls b).block

-- the same lines in another order: the same number and the same block; the index too, unless it names a line at fault
pub record SameInAnyOrder (x y : Answer) : Type 0 where
  pub number : x.number ≡ y.number
  pub block : x.block ≡ y.block
  pub index : (x.number ≡ 13 → ⊥) → x.index ≡ y.index

abbrev pub OrderSentence : Type 0
OrderSentence = (b : List ℕ) (ls ms : List Line) → Permᴰ ls ms → SameInAnyOrder (plan current ls b) (plan current ms b)
