-- A board's tree leaves a good block good; past the checks its commands are legal, so they are done or one finds its table full. Assumes nothing.
use Prim.Native.Nat.{ℕ}
use mathlib.Core.Path.{◌≡◌, refl, ap}
use mathlib.Core.Bool.{Bool, true, false, ◌&&◌}
use mathlib.Core.List.Memᴰ
use mathlib.Core.List.{List, [], ◌∷◌, ◌++◌, Memᴰ}
use lib.Dec.{leb, eqb}
use lib.ListN.{length}
use Rattle.regions.specs.Lists.{legal_tag}
use Rattle.block.specs.Block.{current, good}
use Rattle.range.specs.Outcomes.{tag}
use Rattle.tables.specs.declared.commands.Verb.{Verb}
use Rattle.tables.specs.declared.commands.Verb.TheVariants.{Add, Mark, Reserve}
use Rattle.tables.specs.Commands.{Command, legal_verb, strict}
use Rattle.intake.specs.Turns.{steps, in_turn}
use Rattle.intake.proofs.Whole.{checked_good}
use Rattle.intake.proofs.Good.{DoneOrFull, commands_good, commands_number}
use Rattle.tree.specs.Words.{word}
use Rattle.tree.specs.Content.{Content}
use Rattle.tree.specs.Header.{Range, form, root, strings, reservations}
use Rattle.tree.proofs.Booleans.{both}
use Rattle.lookup.specs.Values.{Node, Value, absent, present}
use Rattle.values.specs.Names.{reg, numa_node_id}
use Rattle.values.specs.Values.{Get, own, number_or, number_from, every, joined, a_cells, s_cells, memories, reserved, root_cells, whole_reg, node_id, values}
use Rattle.board.specs.Board.{ranges, on_ranges, on_reg, adds, reserves, marks, commands, readable, asks, intake_tree}
use Rattle.board.specs.Pairs.{pair_get, readable_pair, asks_pair, intake_trees}

pub tree_good : (tree b : List ℕ) → good current b ≡ true → good current (intake_tree current tree b).block ≡ true
unfolding intake_tree
tree_good tree b g = checked_good 11 (readable tree) (steps current (asks tree)) b g (commands_good (asks tree) b g)

pub pair_good : (board service b : List ℕ) → good current b ≡ true → good current (intake_trees current board service b).block ≡ true
unfolding intake_trees
pair_good board service b g =
    checked_good 11 (readable_pair board service) (steps current (asks_pair board service)) b g (commands_good (asks_pair board service) b g)

-- ---- the verbs of a tree's commands

-- of each command of a list
abbrev All : (Verb → Type 0) → List Command → Type 0
All P cs = (c : Command) → Memᴰ c cs → P c.verb

module _ (P : Verb → Type 0) where
  both_all : (cs ds : List Command) → All P cs → All P ds → All P (cs ++ ds)
  both_all [] ds h k c m = k c m
  both_all (x ∷ cs) ds h k c (Memᴰ.head e) = h c (Memᴰ.head e)
  both_all (x ∷ cs) ds h k c (Memᴰ.tail m) = both_all cs ds (λ d n. h d (Memᴰ.tail n)) k c m

  ranges_all : (v : Verb) → P v → (rs : List Range) → All P (on_ranges v rs)
  ranges_all v p [] c m = absurd (Memᴰ.not-nil m)
  ranges_all v p (r ∷ rs) c (Memᴰ.head e) = rw (ap (λ (d : Command). d.verb) e) p
  ranges_all v p (r ∷ rs) c (Memᴰ.tail m) = ranges_all v p rs c m

  joined_all : (f : Node → List Command) (t : Node → Bool) → ((n : Node) → t n ≡ true → All P (f n)) → (ns : List Node) → every t ns ≡ true → All P (joined f ns)
  unfolding joined every
  joined_all f t h [] e = λ c m. absurd (Memᴰ.not-nil m)
  joined_all f t h (n ∷ ns) e = let q = both (t n) (every t ns) e in both_all (f n) (joined f ns) (h n q.0) (joined_all f t h ns q.1)

all_true : (ns : List Node) → every (λ n. true) ns ≡ true
unfolding every
all_true [] = refl
all_true (n ∷ ns) = all_true ns

module _ (get : Get) (top : Content) where
  abbrev reg_of : Node → List Range
  reg_of n = ranges (a_cells get top) (s_cells get top) (get n reg)

  -- the same command on each reg
  regs_all : (P : Verb → Type 0) (v : Verb) → P v → (ns : List Node) → All P (joined (on_reg get top v) ns)
  regs_all P v p ns = joined_all P (on_reg get top v) (λ n. true) (λ n h. ranges_all P v p (reg_of n)) ns (all_true ns)

-- ---- they are legal

-- legal, and asking nothing of the table
abbrev Legal : Verb → Type 0
Legal v = (legal_verb v ≡ true) × (strict v ≡ false)

-- a node id from 0 to 63 makes a legal tag
id_legal : (v : Value) → number_from 0 63 v ≡ true → Legal (Add (tag 0 (number_or 0 v)))
unfolding legal_tag
id_legal absent e = (refl, refl)
id_legal (present v) e =
    let p = both (eqb (length v) 4) (leb 0 (word v) && leb (word v) 63) e in
    ((both (leb 0 (word v)) (leb (word v) 63) p.1).1, refl)

module _ (get : Get) (top : Content) where
  commands_legal : values get top ≡ true → (list : List Range) → All Legal (commands get top list)
  unfolding values commands
  commands_legal e list =
      let p = both (root_cells get top) (every (whole_reg get top) (memories get top) && (every (node_id get top) (memories get top) && every (whole_reg get top) (reserved get top))) e in
      let q = both (every (whole_reg get top) (memories get top)) (every (node_id get top) (memories get top) && every (whole_reg get top) (reserved get top)) p.1 in
      let r = both (every (node_id get top) (memories get top)) (every (whole_reg get top) (reserved get top)) q.1 in
      both_all Legal (adds get top) _
      (joined_all Legal (λ n. on_reg get top (Add (tag 0 (number_or 0 (get n numa_node_id)))) n) (node_id get top)
      (λ n h. ranges_all Legal (Add (tag 0 (number_or 0 (get n numa_node_id)))) (id_legal (get n numa_node_id) h) (reg_of get top n)) (memories get top) r.0)
      (both_all Legal (on_ranges Reserve list) _ (ranges_all Legal Reserve (refl, refl) list)
      (both_all Legal (reserves get top) (marks get top) (regs_all get top Legal Reserve (refl, refl) _) (regs_all get top Legal (Mark 4) (refl, refl) _)))

-- so each is done, or one finds its table full
pub asks_number : (tree : List ℕ) → readable tree ≡ true → (b : List ℕ) → good current b ≡ true → DoneOrFull (in_turn (steps current (asks tree)) b)
unfolding readable asks
asks_number tree e b g =
    let get = own (strings tree) in
    commands_number (commands get (root tree) (reservations tree)) (commands_legal get (root tree) (both (form tree) (values get (root tree)) e).1 (reservations tree)) b g

pub pair_number : (board service : List ℕ) → readable_pair board service ≡ true → (b : List ℕ) → good current b ≡ true
    → DoneOrFull (in_turn (steps current (asks_pair board service)) b)
unfolding readable_pair asks_pair
pair_number board service e b g =
    let get = pair_get board service in
    commands_number (commands get (root board) (reservations board))
    (commands_legal get (root board) (both (form board && form service) (values get (root board)) e).1 (reservations board)) b g

-- ---- what a board has taken is reserved, what it has marked is marked no-map

module _ (get : Get) (top : Content) (list : List Range) where
  pub taken_reserved : All (λ v. v ≡ Reserve) (on_ranges Reserve list ++ reserves get top)
  taken_reserved =
      both_all (λ v. v ≡ Reserve) (on_ranges Reserve list) (reserves get top) (ranges_all (λ v. v ≡ Reserve) Reserve refl list)
      (regs_all get top (λ v. v ≡ Reserve) Reserve refl _)

module _ (get : Get) (top : Content) where
  pub marked_no_map : All (λ v. v ≡ Mark 4) (marks get top)
  marked_no_map = regs_all get top (λ v. v ≡ Mark 4) (Mark 4) refl _
