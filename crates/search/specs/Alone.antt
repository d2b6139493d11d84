-- E13: one node's answers stand alone, said of a call by a query's numbers. Assumes nothing.
use Rattle.std.specs.Prelude.{ℕ, ◌≡◌, true, cond, List, eqb}
use Rattle.regions.specs.declared.State.{State}
use Rattle.regions.specs.declared.State.TheVariants.{Absent, Present}
use Rattle.regions.specs.Meaning.{Meaning, at}
use Rattle.regions.specs.Changes.{present}
use Rattle.block.specs.Block.{current, Contents, contents, good}
use Rattle.fits.specs.declared.Query.{Query}
use Rattle.search.specs.Answers.{Answer, SameAnswer}

-- ---- which blocks agree on a node

-- a state of node n with its tag; any other counts as absent
abbrev pub of_node : ℕ → State → State
of_node n Absent = Absent
of_node n (Present t) = cond (eqb t.node n) (Present t) Absent

-- node n's memory addresses with their tags
abbrev pub node_memory : ℕ → Contents → Meaning
node_memory n s a = of_node n (at s.memory a)

-- two blocks say the same direction, limit, image end, that node's memory addresses with their tags, and which of those addresses are taken;
-- nothing is asked of any other address, nor of counts or totals
pub record AgreeOnNode (n : ℕ) (s d : Contents) : Type 0 where
  pub direction : s.settings.direction ≡ d.settings.direction
  pub limit : s.settings.limit ≡ d.settings.limit
  pub image : s.settings.image ≡ d.settings.image
  pub memory : (a : ℕ) → node_memory n s a ≡ node_memory n d a
  pub taken : (a : ℕ) → (node_memory n s a ≡ Absent → ⊥) → present (at s.taken a) ≡ present (at d.taken a)

-- ---- the sentence

-- a call by a query's numbers, on a block, with a slip lent to it
abbrev pub Asking : Type 0
Asking = Query → (b slip : List ℕ) → Answer

-- for every query of a kind, on any two good blocks that agree on its node: by the same numbers, with the same slip lent, of whatever length,
-- the call gives the same number and slip
abbrev pub SameOn : (Query → Type 0) → (ℕ → Contents → Contents → Type 0) → Asking → Type 0
SameOn kind agree ask =
    (q : Query) → kind q → (b c : List ℕ) → good current b ≡ true → good current c ≡ true → agree q.node (contents current b) (contents current c)
    → (slip : List ℕ) → SameAnswer (ask q b slip) (ask q c slip)

-- a query for a named node: any but 0xFFFFFFFF, so one above 63 too
abbrev pub Named : Query → Type 0
Named q = q.node ≡ 4294967295 → ⊥

abbrev pub NodeAlone : Asking → Type 0
NodeAlone ask = SameOn Named AgreeOnNode ask
