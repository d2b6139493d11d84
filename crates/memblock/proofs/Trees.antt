-- A board's tree that is taken in, alone or corrected, is a list of commands, all done: by demand 3 the order among its memory, its reservations and its
-- marks does not count. Assumes nothing.
use Prim.Native.Nat.{ℕ}
use mathlib.Core.Path.{◌≡◌, sym, ap, ◌∙◌}
use mathlib.Core.Bool.{Bool, true}
use mathlib.Core.List.{List, ◌++◌, append_assoc, Permᴰ, Memᴰ}
use mathlib.Core.Logic.{inr}
use native.Mathlib.Omega.{arith}
use Rattle.block.specs.Block.{current, good}
use Rattle.range.specs.Outcomes.{Outcome}
use Rattle.tables.specs.declared.commands.Verb.{Verb}
use Rattle.tables.specs.declared.commands.Verb.TheVariants.{Mark, Reserve}
use Rattle.tables.specs.Commands.{Command}
use Rattle.tree.specs.Content.{Content}
use Rattle.tree.specs.Header.{Range, root, strings, reservations}
use Rattle.intake.specs.Turns.{steps, in_turn}
use Rattle.intake.proofs.Whole as w
use Rattle.values.specs.Values.{Get, own}
use Rattle.board.specs.Board.{on_ranges, adds, reserves, marks, commands, readable, asks, intake_tree}
use Rattle.board.specs.Pairs.{pair_get, readable_pair, asks_pair, intake_trees}
use Rattle.board.proofs.Good.{taken_reserved, marked_no_map}
use Rattle.memblock.specs.Lists.{run, done, Agreed, SameDone}
use Rattle.memblock.specs.Trees.{TreeSentence}
use Rattle.memblock.specs.Pairs.{PairOrderSentence}
use Rattle.memblock.proofs.DemandThree.{demand_three}
use Rattle.memblock.proofs.Often.{often_perm}
use Rattle.memblock.proofs.InTurn.{all_done, first_done, rest_done, run_both}
use Rattle.memblock.proofs.Runs.{ran}

-- all done in two orders, they leave the same block
any_order : (b : List ℕ) → good current b ≡ true → (cs ds : List Command) → Permᴰ cs ds → Agreed cs → (in_turn (steps current cs) b).number ≡ 0 → (in_turn (steps current ds) b).number ≡ 0
    → run ds b ≡ run cs b
any_order b g cs ds p a h k =
    let m = (all_done cs b h).each in
    let n = (all_done ds b k).each in
    let agreed : Agreed (done cs b) = rw m a in
    let same : SameDone (done cs b) (done ds b) = λ d. rw (m, n) (often_perm p d) in
    (demand_three b g cs agreed).order ds same

-- ---- commands in three parts, taken in after the checks

-- all done, one part after the other
record Parted (b : List ℕ) (o : Outcome) (ms ts ks : List Command) : Type 0 where
  is_good : good current b ≡ true
  number : (in_turn (steps current (ms ++ (ts ++ ks))) b).number ≡ 0
  block : o.block ≡ run ks (run ts (run ms b))

module _ (t : Bool) (cs : List Command) (b : List ℕ) (h : (w.checked 11 t (steps current cs) b).number ≡ 0) where
  done_all : w.TakenIn (steps current cs) b (w.checked 11 t (steps current cs) b)
  done_all = w.not_refused 11 t (steps current cs) b (λ e. omega arith) h

  each_done : done cs b ≡ cs
  each_done = (all_done cs b done_all.number).each

  leaves_run : (w.checked 11 t (steps current cs) b).block ≡ run cs b
  leaves_run = ap (λ (o : Outcome). o.block) (done_all.outcome ∙ (all_done cs b done_all.number).ends)

  in_parts : (ms ts ks : List Command) → cs ≡ ms ++ (ts ++ ks) → Parted b (w.checked 11 t (steps current cs) b) ms ts ks
  in_parts ms ts ks e = record {
    is_good = done_all.is_good;
    number = ap (λ (ds : List Command). (in_turn (steps current ds) b).number) (sym e) ∙ done_all.number;
    block = leaves_run ∙ ap (λ (ds : List Command). run ds b) e ∙ run_both ms (ts ++ ks) b ∙ run_both ts ks (run ms b);
  }

-- the order inside each part does not count
parts_in_order : (b : List ℕ) (o u : Outcome) (ms ts ks ns vs ls : List Command) → Parted b o ms ts ks → Parted b u ns vs ls
    → Permᴰ ms ns → Agreed ms → Permᴰ ts vs → Agreed ts → Permᴰ ks ls → Agreed ks → o.block ≡ u.block
parts_in_order b o u ms ts ks ns vs ls p q m a t c k d =
    let e = any_order b p.is_good ms ns m a (first_done ms _ b p.number) (first_done ns _ b q.number) in
    let b₁ = run ms b in
    let g₁ = (ran ms b p.is_good).is_good in
    let m₁ = rest_done ms (ts ++ ks) b p.number in
    let n₁ : (in_turn (steps current (vs ++ ls)) b₁).number ≡ 0 = ap (λ (x : List ℕ). (in_turn (steps current (vs ++ ls)) x).number) (sym e) ∙ rest_done ns (vs ++ ls) b q.number in
    let f = any_order b₁ g₁ ts vs t c (first_done ts ks b₁ m₁) (first_done vs ls b₁ n₁) in
    let b₂ = run ts b₁ in
    let g₂ = (ran ts b₁ g₁).is_good in
    let n₂ : (in_turn (steps current ls) b₂).number ≡ 0 = ap (λ (x : List ℕ). (in_turn (steps current ls) x).number) (sym f) ∙ rest_done vs ls b₁ n₁ in
    let w = any_order b₂ g₂ ks ls k d (rest_done ts ks b₁ m₁) n₂ in
    p.block ∙ sym w ∙ sym (q.block ∙ ap (λ (x : List ℕ). run ls (run vs x)) e ∙ ap (λ (x : List ℕ). run ls x) f)

-- commands of one verb always meet the condition
one_verb : (v : Verb) (cs : List Command) → ((c : Command) → Memᴰ c cs → c.verb ≡ v) → Agreed cs
one_verb v cs h d e i j t = inr (h d i ∙ sym (h e j))

-- ---- what a board asks, by what is got of its nodes' properties

module _ (get : Get) (top : Content) (list : List Range) where
  abbrev taken : List Command
  taken = on_ranges Reserve list ++ reserves get top

  three_parts : commands get top list ≡ adds get top ++ (taken ++ marks get top)
  unfolding commands
  three_parts = ap (λ (cs : List Command). adds get top ++ cs) (sym (append_assoc (on_ranges Reserve list) (reserves get top) (marks get top)))

  taken_agree : Agreed taken
  taken_agree = one_verb Reserve taken (taken_reserved get top list)

  marks_agree : Agreed (marks get top)
  marks_agree = one_verb (Mark 4) (marks get top) (marked_no_map get top)

pub tree_sentence : (b : List ℕ) → TreeSentence b
unfolding intake_tree asks
tree_sentence b = record {
  taken_in = λ tree h. record { each = each_done (readable tree) (asks tree) b h; leaves = leaves_run (readable tree) (asks tree) b h };
  order = λ r s p a h k.
      parts_in_order b _ _ _ _ _ _ _ _ (in_parts (readable r) (asks r) b h _ _ _ (three_parts (own (strings r)) (root r) (reservations r)))
      (in_parts (readable s) (asks s) b k _ _ _ (three_parts (own (strings s)) (root s) (reservations s))) p.same_memory a p.same_taken
      (taken_agree (own (strings r)) (root r) (reservations r)) p.same_marked (marks_agree (own (strings r)) (root r) (reservations r));
}

pub pair_order_sentence : (b : List ℕ) → PairOrderSentence b
unfolding intake_trees asks_pair
pair_order_sentence b = record {
  taken_in = λ board service h. record {
    each = each_done (readable_pair board service) (asks_pair board service) b h;
    leaves = leaves_run (readable_pair board service) (asks_pair board service) b h;
  };
  order = λ r s x y p a h k.
      parts_in_order b _ _ _ _ _ _ _ _ (in_parts (readable_pair r s) (asks_pair r s) b h _ _ _ (three_parts (pair_get r s) (root r) (reservations r)))
      (in_parts (readable_pair x y) (asks_pair x y) b k _ _ _ (three_parts (pair_get x y) (root x) (reservations x))) p.same_memory a p.same_taken
      (taken_agree (pair_get r s) (root r) (reservations r)) p.same_marked (marks_agree (pair_get r s) (root r) (reservations r));
}
