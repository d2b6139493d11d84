-- What a wish rules out is not given, and all else is as by wish 1; a search answers 2 exactly when its node or its wish may not be asked for. Assumes
-- nothing.
use Prim.Native.Nat.{ℕ, ◌+◌, ◌≤◌, ◌<◌}
use mathlib.Core.Path.{◌≡◌, refl, sym, ap, subst, ◌∙◌}
use mathlib.Core.Bool.{Bool, true, false, cond, not, ◌&&◌, ◌||◌, and-false}
use mathlib.Core.List.{List}
use mathlib.Core.Logic.{inl, inr}
use native.Mathlib.Omega.{arith}
use lib.Dec.{leb, eqb}
use lib.ListN.{length}
use borrow.Author.Tests.{lt-leb, leb-false, eq-eqb, ne_eqb, eqb-true, eqb-false}
use Rattle.address.proofs.Tests.{both, and, clash, zero_not_one}
use Rattle.address.specs.Numbers.{power_of_two}
use Rattle.regions.specs.declared.Tag.{Tag}
use Rattle.regions.specs.declared.State.TheVariants.{Present}
use Rattle.regions.specs.Meaning.{at}
use Rattle.regions.specs.Changes.{has}
use Rattle.regions.specs.Runs.{OneTag}
use Rattle.regions.proofs.Free.{free_is}
use Rattle.block.specs.declared.Layout.{Layout}
use Rattle.block.specs.Block.{Contents, contents, good}
use Rattle.fits.specs.declared.Query.{Query}
use Rattle.std.specs.Prelude.{Option, Some, None}
use Rattle.fits.specs.declared.Spot.{Spot}
use Rattle.fits.specs.Eligible.{asked, granted, wanted, asks}
use Rattle.seek.specs.Search.{found_place, next_place}
use Rattle.search.specs.Answers.{Answer, asking, askable, check_number, next_number, place_answer, allocate_answer, find, allocate, next_free}
use Rattle.search.specs.DemandTwo.{free_in, Eligible, OrFull}
use Rattle.search.proofs.DemandTwo.{Answers, place_answers, allocate_answers}
use Rattle.search.specs.Wishes.{RuledOut, wishing, WishSentence, BadAsk, TwoWhen, BadAskSentence}

-- ---- which addresses

implies : (a b : Bool) → not a || b ≡ true → a ≡ true → b ≡ true
implies true b e f = e
implies false b e f = absurd (zero_not_one cc)

implied : (a b : Bool) → (a ≡ true → b ≡ false → ⊥) → not a || b ≡ true
implied true true g = refl
implied true false g = absurd (g refl refl)
implied false b g = refl

flags_of : (t u : Tag) → Present t ≡ Present u → t.flags ≡ u.flags
flags_of t u e = cc

-- an address of memory whose flags the wish grants is not ruled out
not_ruled_out : (s : Contents) (wish x : ℕ) (t : Tag) → at s.memory x ≡ Present t → granted wish t.flags ≡ true → RuledOut s wish x → ⊥
not_ruled_out s wish x t e g (inl r) =
    let u : t.flags ≡ r.1.tag.flags = flags_of t r.1.tag (sym e ∙ r.1.present) in
    let h = both (not (has 1 t.flags) || has 1 wish) (not (has 2 wish) || has 2 t.flags) g in
    clash (has 1 wish) (implies (has 1 t.flags) (has 1 wish) h.0 (ap (has 1) u ∙ r.1.flag)) r.0
not_ruled_out s wish x t e g (inr r) =
    let u : t.flags ≡ r.1.tag.flags = flags_of t r.1.tag (sym e ∙ r.1.present) in
    let h = both (not (has 1 t.flags) || has 1 wish) (not (has 2 wish) || has 2 t.flags) g in
    clash (has 2 t.flags) (implies (has 2 wish) (has 2 t.flags) h.1 r.0) (ap (has 2) u ∙ r.1.flag)

-- and of one that is not ruled out it grants them
granted_if : (s : Contents) (wish x : ℕ) (t : Tag) → at s.memory x ≡ Present t → (RuledOut s wish x → ⊥) → granted wish t.flags ≡ true
granted_if s wish x t e n =
    and (implied (has 1 t.flags) (has 1 wish) (λ f w. n (inl (w, record { tag = t; present = e; flag = f }))))
    (implied (has 2 wish) (has 2 t.flags) (λ w f. n (inr (w, record { tag = t; present = e; flag = f }))))

wanted_if : (node wish : ℕ) (t : Tag) → wanted node 1 t ≡ true → granted wish t.flags ≡ true → wanted node wish t ≡ true
wanted_if node wish t e g = and (both (asked node t.node) (granted 1 t.flags) e).0 g

in_memory : (s : Contents) (x : ℕ) (t : Tag) → free_in s x ≡ Present t → at s.memory x ≡ Present t
in_memory s x t e = free_is (at s.memory) (at s.taken) x t e

pub wish_sentence : WishSentence
wish_sentence =
    record {
      not_eligible =
          λ s q a x e l m r. let o = e.one_tag in
          not_ruled_out s q.wish x o.tag (in_memory s x o.tag (o.all x l m)) (both (asked q.node o.tag.node) (granted q.wish o.tag.flags) o.right).1 r;
      not_free =
          λ s p node wish a e r. not_ruled_out s wish a e.tag (in_memory s a e.tag e.present)
          (both (asked node e.tag.node) (granted wish e.tag.flags) e.asked).1 r;
      others_eligible = eligible_too;
      others_free =
          λ s p node wish a e n. record {
            from = e.from;
            tag = e.tag;
            asked = wanted_if node wish e.tag e.asked (granted_if s wish a e.tag (in_memory s a e.tag e.present) n);
            present = e.present;
          };
      wish_1 = nothing;
    }
  where
    eligible_too : (s : Contents) (q : Query) (a : ℕ) → 0 < q.size.0 → Eligible s (wishing 1 q) a
        → ((x : ℕ) → a ≤ x → x < a + q.size.0 → RuledOut s q.wish x → ⊥) → Eligible s q a
    eligible_too s q a pos e n =
        let o = e.one_tag in
        let g = granted_if s q.wish a o.tag (in_memory s a o.tag (o.all a (omega arith) (omega arith))) (n a (omega arith) (omega arith)) in
        let t : OneTag (free_in s) (asks q) q.size.0 a = record { tag = o.tag; right = wanted_if q.node q.wish o.tag o.right g; all = o.all } in
        record { aligned = e.aligned; from_start = e.from_start; from_4096 = e.from_4096; by_limit = e.by_limit; by_end = e.by_end; one_tag = t }

    nothing : (s : Contents) (x : ℕ) → RuledOut s 1 x → ⊥
    nothing s x (inl r) = zero_not_one (let z = r.0 in cc)
    nothing s x (inr r) = zero_not_one (let z = r.0 in cc)

-- ---- number 2

bad_ask : (node wish : ℕ) → askable node wish ≡ false → BadAsk node wish
bad_ask node wish e = go (leb node 63) (eqb node 4294967295) (leb wish 3) refl refl refl e
  where
    go : (x y z : Bool) → leb node 63 ≡ x → eqb node 4294967295 ≡ y → leb wish 3 ≡ z → (x || y) && z ≡ false → BadAsk node wish
    go x y false p q r h = inr (leb-false wish 3 r)
    go true y true p q r h = absurd (zero_not_one cc)
    go false true true p q r h = absurd (zero_not_one cc)
    go false false true p q r h = inl (leb-false node 63 p, eqb-false node 4294967295 q)

ask_bad : (node wish : ℕ) → BadAsk node wish → askable node wish ≡ false
ask_bad node wish (inl h) = rw (lt-leb node 63 h.0, ne_eqb node 4294967295 h.1)
ask_bad node wish (inr h) = rw (lt-leb wish 3 h, and-false)

-- where the checks have the number n, which is 2 exactly when the block is good and the node or the wish bad, and what follows is never 2
module _ (L : Layout) (node wish : ℕ) (b slip : List ℕ) (n : ℕ) (a : Answer) where
  two_when : (n ≡ 2 → (good L b ≡ true) × (askable node wish ≡ false)) → (good L b ≡ true → askable node wish ≡ false → n ≡ 2) → (a.number ≡ 2 → ⊥)
      → TwoWhen L node wish b slip (asking n b slip a)
  two_when only given not-then =
      record {
        slip_right = λ e. (two (eqb (length slip) 16) (eqb n 0) refl refl e).0;
        is_good = λ e. (only (two (eqb (length slip) 16) (eqb n 0) refl refl e).1).0;
        bad = λ e. bad_ask node wish (only (two (eqb (length slip) 16) (eqb n 0) refl refl e).1).1;
        given = λ l g h. let t = given g (ask_bad node wish h) in rw (eq-eqb (length slip) 16 l, t);
      }
    where
      two : (x y : Bool) → eqb (length slip) 16 ≡ x → eqb n 0 ≡ y → (asking n b slip a).number ≡ 2 → (length slip ≡ 16) × (n ≡ 2)
      two true true p q e = absurd (not-then (rw (p, q) at e))
      two true false p q e = (eqb-true (length slip) 16 p, rw (p, q) at e)
      two false y p q e = let z : ◌≡◌ {A = ℕ} 8 2 = rw p at e in absurd (omega (arith, z))

-- the checks of find and allocate, and of next free
check_two : (g k p z : Bool) → ◌≡◌ {A = ℕ} (cond g (cond k (cond p (cond z 4 0) 3) 2) 1) 2 → (g ≡ true) × (k ≡ false)
check_two true false p z e = (refl, refl)
check_two true true true true e = absurd (omega (arith, e))
check_two true true true false e = absurd (omega (arith, e))
check_two true true false z e = absurd (omega (arith, e))
check_two false k p z e = absurd (omega (arith, e))

next_two : (g k : Bool) → ◌≡◌ {A = ℕ} (cond g (cond k 0 2) 1) 2 → (g ≡ true) × (k ≡ false)
next_two true false e = (refl, refl)
next_two true true e = absurd (omega (arith, e))
next_two false k e = absurd (omega (arith, e))

-- what is answered for a place is never 2
not_two : (done : ℕ → Type 0) (answers : Option Spot → Answer) → Answers done answers → (done 2 → ⊥) → (p : Option Spot) → (answers p).number ≡ 2 → ⊥
not_two done answers k n None e = omega (arith, sym k.nowhere ∙ e)
not_two done answers k n (Some s) e = n (subst done e (k.here s))

pub bad_ask_sentence : BadAskSentence
unfolding find allocate next_free
bad_ask_sentence =
    record {
      of_find =
          λ L q b slip. two_when L q.node q.wish b slip (check_number L q b) (place_answer b (found_place (contents L b) q)) (checks L q b) (λ g k. rw (g, k))
          (not_two (λ n. n ≡ 0) (place_answer b) (place_answers b) (λ e. omega (arith, e)) (found_place (contents L b) q));
      of_allocate =
          λ L q b slip. two_when L q.node q.wish b slip (check_number L q b) (allocate_answer L b q.size.0 (found_place (contents L b) q)) (checks L q b) (λ g k. rw (g, k))
          (not_two OrFull (allocate_answer L b q.size.0) (allocate_answers L b q.size.0) not_full (found_place (contents L b) q));
      of_next_free =
          λ L p node wish b slip. two_when L node wish b slip (next_number L node wish b) (place_answer b (next_place (contents L b) p node wish)) (next_two (good L b) (askable node wish))
          (λ g k. rw (g, k)) (not_two (λ n. n ≡ 0) (place_answer b) (place_answers b) (λ e. omega (arith, e)) (next_place (contents L b) p node wish));
    }
  where
    checks : (L : Layout) (q : Query) (b : List ℕ) → check_number L q b ≡ 2 → (good L b ≡ true) × (askable q.node q.wish ≡ false)
    checks L q b = check_two (good L b) (askable q.node q.wish) (power_of_two q.align.0) (eqb q.size.0 0)

    not_full : OrFull 2 → ⊥
    not_full (inl e) = omega (arith, e)
    not_full (inr e) = omega (arith, e)
