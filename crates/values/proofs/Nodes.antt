-- Nodes of the board: their paths are short, and the next one is named. Assumes nothing.
use Rattle.std.proofs.Common.{◌≡◌, ℕ, ◌+◌, ◌-◌, ◌<◌, ◌≤◌, List, Option, Some, length, take, drop, length-take, length-drop, refl, ◌∙◌, arith}
use Rattle.std.specs.Borrow.{Bor}
use Rattle.lookup.specs.Values.{path}
use Rattle.lookup.specs.Steps.{next_is}
use Rattle.lookup.specs.declared.Child as l
use Rattle.paths.specs.declared.ways.Way.TheVariants.{Top, Child, Below}
use Rattle.paths.proofs.Bytes.{child_fits, below_fits}
use Rattle.values.specs.declared.Trees.{Trees}
use Rattle.values.specs.declared.Node.{Node}
use Rattle.values.specs.declared.Child as c
use Rattle.values.specs.Steps.{Sources, AtNode, AtChild, FirstBelow}

module _ (t : Trees) where
  pub root_node : (at : ℕ) → Sources t → at ≤ length t.board.structure.bytes.now → AtNode t (record { way = Top; at = at })
  unfolding path
  root_node at s h = record { trees = s; fits = omega arith; within = h }

  module _ (x : c.Child) (a : AtChild t x) where
    pub child_node : (n : Node) → n ≡ record { way = Child x.name; at = x.at } → AtNode t n
    child_node n e = rw e (record { trees = a.trees; fits = child_fits x.name.now (omega (arith, a.short)); within = a.goes.within })

    pub below_node : (at : ℕ) (r : Option l.Child) → next_is t.board.structure.names t.board.structure.bytes.now 14 at r → (n : l.Child) → r ≡ Some n
        → (name : Bor (List ℕ)) → name.now ≡ take (n.name + n.len - n.name) (drop n.name t.board.structure.bytes.now)
        → FirstBelow t x.name.now at (record { way = Below x.name name; at = n.inner }) n.after
    below_node at r k n e name z =
        let q = rw e at k in
        let w : n.name + n.len - n.name ≡ n.len = omega arith in
        let y : name.now ≡ take n.len (drop n.name t.board.structure.bytes.now) = z ∙ rw w refl in
        let s : length name.now < 4294967296 = rw y (simp (length-take, length-drop) (omega (arith, a.trees.short))) in
        record {
          name = name.now;
          way = refl;
          first = record { is = rw y q.0; goes = record { within = q.7; is = q.2 }; forward = q.6 };
          node = record { trees = a.trees; fits = below_fits x.name.now name.now (omega (arith, a.short, s)); within = q.5 };
        }
