-- Find for a named node answers the same on blocks that agree on that node: its free addresses, and so its runs, are the same on both. Assumes nothing.
use Prim.Native.Nat.{ℕ, ◌<◌}
use mathlib.Core.Path.{◌≡◌, refl, sym, ap, ap₂, ◌∙◌}
use mathlib.Core.Bool.{Bool, true, false, cond, ◌&&◌, ◌||◌}
use native.Mathlib.Omega.{arith}
use lib.Dec.{leb, eqb}
use borrow.Author.Tests.{eqb-true, ne_eqb, eq-eqb}
use Rattle.address.proofs.Tests.{both, zero_not_one}
use Rattle.regions.specs.declared.Tag.{Tag}
use Rattle.regions.specs.declared.State.{State}
use Rattle.regions.specs.declared.State.TheVariants.{Absent, Present}
use Rattle.regions.specs.Meaning.{at, top}
use Rattle.regions.specs.Changes.{has, present}
use Rattle.regions.specs.Free.{usable, untaken, free_memory}
use Rattle.regions.specs.Runs.{run_at}
use Rattle.regions.proofs.Rises.{Canonical}
use Rattle.regions.proofs.Free.{untaken_absent, runs_at, free_canonical}
use Rattle.regions.proofs.Lying.{Within, Agree}
use Rattle.block.specs.Block.{current, Contents, contents}
use Rattle.fits.specs.declared.Query.{Query}
use Rattle.fits.specs.Eligible.{or_else, lowest, highest, granted, asks, eligible}
use Rattle.fits.specs.Places.{hit_of, place_of}
use Rattle.fits.proofs.Stretches.{lowest_agree, highest_agree}
use Rattle.fits.proofs.Eligible.{eligible_same, hits_same}
use Rattle.seek.specs.Search.{window, runs_of, bottom_up, found, found_place}
use Rattle.seek.proofs.Found.{Beyond, found_gives}
use Rattle.search.specs.Answers.{find}
use Rattle.search.specs.DemandTwo.{free_in}
use Rattle.search.specs.Alone.{of_node, node_memory, AgreeOnNode, Named, NodeAlone}
use Rattle.search.proofs.Answering.{number_ready}
use Rattle.search.proofs.DemandTwo.{memory_rises}
use Rattle.search.proofs.SameAnswers.{find_same}

-- ---- one node's free addresses

-- what is of node n
of_node_is : (n : ℕ) (t : Tag) → t.node ≡ n → of_node n (Present t) ≡ Present t
of_node_is n t e = rw (eq-eqb t.node n e)

of_node_present : (n : ℕ) (v : State) (t : Tag) → of_node n v ≡ Present t → v ≡ Present t
of_node_present n Absent t e = e
of_node_present n (Present u) t e = go (eqb u.node n) e
  where
    go : (b : Bool) → cond b (Present u) Absent ≡ Present t → Present u ≡ Present t
    go true e = e
    go false e = absurd (zero_not_one cc)

-- free addresses of the node are those of its memory that are free
of_node_free : (n : ℕ) (v u : State) → of_node n (untaken (usable v) u) ≡ untaken (usable (of_node n v)) u
of_node_free n v (Present s) = refl
of_node_free n Absent Absent = refl
of_node_free n (Present t) Absent = go (has 4 t.flags) refl (eqb t.node n) refl
  where
    go : (b : Bool) → has 4 t.flags ≡ b → (k : Bool) → eqb t.node n ≡ k → of_node n (cond b Absent (Present t)) ≡ usable (cond k (Present t) Absent)
    go true h true e = rw h
    go true h false e = refl
    go false h true e = rw (h, e)
    go false h false e = rw e

-- taken in the one and in the other
untaken_same : (v x y : State) → ((v ≡ Absent → ⊥) → present x ≡ present y) → untaken (usable v) x ≡ untaken (usable v) y
untaken_same Absent x y f = untaken_absent x ∙ sym (untaken_absent y)
untaken_same (Present s) Absent Absent f = refl
untaken_same (Present s) Absent (Present u) f = let z : false ≡ true = f (λ e. zero_not_one cc) in absurd (zero_not_one cc)
untaken_same (Present s) (Present t) Absent f = let z : true ≡ false = f (λ e. zero_not_one cc) in absurd (zero_not_one cc)
untaken_same (Present s) (Present t) (Present u) f = refl

-- blocks that agree on the node have the same free addresses of it
free_same : (n : ℕ) (s d : Contents) → AgreeOnNode n s d → (a : ℕ) → of_node n (free_in s a) ≡ of_node n (free_in d a)
unfolding free_memory
free_same n s d g a =
    of_node_free n (at s.memory a) (at s.taken a) ∙ untaken_same (node_memory n s a) (at s.taken a) (at d.taken a) (g.taken a)
    ∙ ap (λ (v : State). untaken (usable v) (at d.taken a)) (g.memory a) ∙ sym (of_node_free n (at d.memory a) (at d.taken a))

-- a tag that a query for a named node asks for is of that node
asked_node : (q : Query) → Named q → (t : Tag) → asks q t ≡ true → t.node ≡ q.node
asked_node q f t e =
    let h = (both (eqb q.node 4294967295 || eqb t.node q.node) (granted q.wish t.flags) e).0 in
    eqb-true t.node q.node (rw (ne_eqb q.node 4294967295 f) at h)

-- so their free runs have the tags that it asks for at the same addresses
module _ (q : Query) (named : Named q) (s d : Contents) (w : Canonical top s.memory) (w' : Canonical top d.memory) where
  runs_within : ((a : ℕ) → of_node q.node (free_in s a) ≡ of_node q.node (free_in d a)) → Within (asks q) 0 (runs_of s) (runs_of d)
  runs_within f t k a l h =
      let e : free_in s a ≡ Present t = sym (runs_at s.memory s.taken w a) ∙ h in
      runs_at d.memory d.taken w' a
      ∙ of_node_present q.node (free_in d a) t (sym (f a) ∙ ap (of_node q.node) e ∙ of_node_is q.node t (asked_node q named t k))

-- ---- what find finds

module _ (q : Query) (named : Named q) (pos : 0 < q.size.0) (s d : Contents) (w : Canonical top s.memory) (w' : Canonical top d.memory) (g : AgreeOnNode q.node s d) where
  agree : Agree (asks q) (runs_of s) (runs_of d) 0
  agree =
      record {
        there = runs_within q named s d w w' (free_same q.node s d g);
        back = runs_within q named d s w' w (λ a. sym (free_same q.node s d g a));
        low = λ b t e. absurd (omega arith);
        low' = λ b t e. absurd (omega arith);
      }

  rising : (x : Contents) → Canonical top (runs_of x)
  rising x = free_canonical x.memory x.taken

  can : (limit a : ℕ) → eligible (window limit q) (runs_of s) a ≡ eligible (window limit q) (runs_of d) a
  can limit = eligible_same (window limit q) pos 0 (omega arith) (rising s) (rising d) agree

  found_same : found s q ≡ found d q
  unfolding found
  found_same = rw (g.direction, g.limit, g.image) (go (eqb d.settings.direction 1))
    where
      p : ℕ → Bool
      p = eligible (window d.settings.limit.0 q) (runs_of s)

      r : ℕ → Bool
      r = eligible (window d.settings.limit.0 q) (runs_of d)

      image : ℕ
      image = d.settings.image.0

      low : lowest (λ a. leb image a && p a) top ≡ lowest (λ a. leb image a && r a) top
      low = lowest_agree _ _ top (λ a l. ap (λ (b : Bool). leb image a && b) (can d.settings.limit.0 a))

      high : highest p top ≡ highest r top
      high = highest_agree p r top (λ a l. can d.settings.limit.0 a)

      go : (t : Bool) → cond t (bottom_up image p) (highest p top) ≡ cond t (bottom_up image r) (highest r top)
      go true = ap₂ or_else low high
      go false = high

  -- with its run
  place_found : found_place s q ≡ found_place d q
  unfolding found_place
  place_found =
      ap place_of
      (hits_same (window s.settings.limit.0 q) pos 0 (omega arith) (rising s) (rising d) agree (Beyond s.settings) top (found s q) (found_gives s q)
      ∙ ap (hit_of (run_at (runs_of d))) found_same)

-- ---- the sentence

pub node_alone : NodeAlone (λ q b slip. find current q b slip)
node_alone q named b c g h agree slip =
    find_same q b c slip g h
    (λ e. place_found q named (number_ready current b q (rw g e)).1 (contents current b) (contents current c) (memory_rises current b g) (memory_rises current c h) agree)
