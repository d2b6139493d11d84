-- One node's answers stand alone, of the exported find; boards that show each premise needed, and that allocate is not so. Assumes nothing.
use Prim.Native.Nat.{ℕ, zero, suc, ◌+◌, ◌*◌, ◌-◌, ◌^◌, ◌≤◌, ◌<◌}
use mathlib.Core.Path.{◌≡◌, refl, sym, ap, ◌∙◌}
use mathlib.Core.Bool.{Bool, true, false, cond, not, ◌&&◌}
use mathlib.Core.List.{List, [], ◌∷◌}
use mathlib.Core.Logic.{◌⊎◌, inl, inr}
use lib.Dec.{eqb}
use lib.ListN.{length}
use native.Mathlib.Omega.{arith}
use borrow.Author.Tests.{eq-eqb}
use Rattle.address.specs.Numbers.{power_below}
use Rattle.address.proofs.Tests.{both, and, clash, le_or_lt}
use Rattle.regions.specs.declared.Region.{Region}
use Rattle.regions.specs.declared.State.{State}
use Rattle.regions.specs.declared.State.TheVariants.{Absent, Present}
use Rattle.regions.specs.declared.Change.TheVariants.{Fill}
use Rattle.regions.specs.Meaning.{region, inside, at, push, join, top, top_is}
use Rattle.regions.specs.Lists.{fits, rises, legal, legal_tag}
use Rattle.regions.specs.Changes.{change, cut, changed, present}
use Rattle.regions.specs.Bytes.{number, bytes}
use Rattle.regions.specs.Steps.{stretch}
use Rattle.regions.proofs.Rises.{Fits, Rises, ended, next, reach}
use Rattle.regions.proofs.RoundTrip.{at_before, at_past}
use Rattle.regions.proofs.Middle.{starts}
use Rattle.regions.proofs.Gap.{fill_apart}
use Rattle.block.specs.Block.{capacity, current, Contents, settings, fresh_contents, block_bytes, contents, same_bytes}
use Rattle.block.proofs.Same.{same_self}
use Rattle.block.proofs.Reading.{Spellable, contents_spelled, good_spelled_block}
use Rattle.block.proofs.Layouts.{small_current}
use Rattle.range.specs.Outcomes.{tag}
use Rattle.tables.specs.declared.commands.Verb.TheVariants.{Reserve}
use Rattle.tables.specs.Commands.{command, command_outcome}
use Rattle.tables.proofs.DemandTwo.{full_sentence}
use Rattle.fits.specs.declared.Query.{Query}
use Rattle.fits.specs.Eligible.{query}
use Rattle.fits.specs.Steps.{cut_low, cut_high, fit_low, fit_high}
use Rattle.search.specs.Answers.{Answer, SameAnswer, answer, slip_of}
use Rattle.search.specs.Alone.{of_node, node_memory, AgreeOnNode, SameOn, Named}
use Rattle.search.proofs.Answering.{slip_first}
use Rattle.search.proofs.Reserving.{reserve_sentence}
use Rattle.search.proofs.Alone.{node_alone}
use Rattle.memblock.specs.Calls.{Call, to_find, to_allocate, answer_of}
use Rattle.memblock.specs.Cases.{lent, of}
use Rattle.memblock.specs.Alone.{finding, AloneSentence, no_direction, no_limit, no_image, no_memory, no_taken, SameBut, SameButTags, NeededSentence, RoomShared}
use Rattle.memblock.proofs.Computing.{sound, spelled, compute, computable, sound_spellable, call_computed}
use Rattle.regions.proofs.Update as table
use Rattle.fits.proofs.Ways as walks

pub alone_sentence : AloneSentence
unfolding answer_of
alone_sentence = node_alone

-- ---- boards on which find answers otherwise

-- computed of two boards: they can stand in a block, and the call has another number or another slip
unfoldable differs : Call → Contents → Contents → Bool
differs c s d =
    ((sound s && sound d) && computable c) && not (eqb (compute c s).number (compute c d).number && same_bytes (compute c s).slip (compute c d).slip)

module _ (kind : Query → Type 0) (agree : ℕ → Contents → Contents → Type 0) (q : Query) (s d : Contents) (e : differs (to_find q lent) s d ≡ true) where
  apart : kind q → agree q.node s d → SameOn kind agree finding → ⊥
  unfolding differs
  apart n g h =
      let c = to_find q lent in
      let eq : Bool = eqb (compute c s).number (compute c d).number && same_bytes (compute c s).slip (compute c d).slip in
      let p = both ((sound s && sound d) && computable c) (not eq) e in
      let k = both (sound s && sound d) (computable c) p.0 in
      let m = both (sound s) (sound d) k.0 in
      let x = sound_spellable s m.0 in
      let y = sound_spellable d m.1 in
      let a = h q n (block_bytes current s) (block_bytes current d) (good_spelled_block current small_current s x) (good_spelled_block current small_current d y)
      (rw (contents_spelled current small_current s x, contents_spelled current small_current d y) g) lent in
      let i = call_computed c s x k.1 in
      let j = call_computed c d y k.1 in
      let u : (compute c s).number ≡ (compute c d).number = sym (ap (λ (z : Answer). z.number) i) ∙ a.number ∙ ap (λ (z : Answer). z.number) j in
      let v : (compute c s).slip ≡ (compute c d).slip = sym (ap (λ (z : Answer). z.slip) i) ∙ a.slip ∙ ap (λ (z : Answer). z.slip) j in
      let w : eq ≡ true = and (eq-eqb _ _ u) (rw v (same_self (compute c d).slip)) in
      clash (not eq) p.1 (ap not w)

-- memory of 64 KiB of node 0, with these flags; what is taken, limit, direction and image end
abbrev board : ℕ → List Region → ℕ → ℕ → ℕ → Contents
board flags taken limit direction image = record { memory = region 0x10000 0x10000 (tag flags 0) ∷ []; taken = taken; settings = settings limit direction image }

abbrev plain : Contents
plain = board 0 [] (2 ^ 64 - 1) 0 0

-- 4 KiB of a node's memory
abbrev page : ℕ → Query
page node = query 0x1000 0x1000 0 0 node 0

node_0 : Named (page 0)
node_0 e = omega arith

-- no memory is of node 0xFFFFFFFF
any_agrees : AgreeOnNode 4294967295 fresh_contents plain
unfolding at
any_agrees = record { direction = refl; limit = refl; image = refl; memory = λ a. go (inside 0x10000 0x20000 a); taken = λ a f. absurd (f refl) }
  where
    go : (b : Bool) → Absent ≡ of_node 4294967295 (cond b (Present (tag 0 0)) Absent)
    go true = refl
    go false = refl

-- the same addresses, no-map
tags_agree : SameButTags 0 plain (board 4 [] (2 ^ 64 - 1) 0 0)
unfolding at
tags_agree = record { rest = refl; addresses = λ a. go (inside 0x10000 0x20000 a) }
  where
    go : (b : Bool) → present (cond b (Present (tag 0 0)) Absent) ≡ present (cond b (Present (tag 4 0)) Absent)
    go true = refl
    go false = refl

-- the plain board beside one that is bottom-up, one with a limit in its middle, one without memory, one of no-map memory, and one of which all is taken;
-- and two bottom-up ones, one with an image end in its middle
pub needed_sentence : NeededSentence
unfolding differs capacity compute computable same_bytes power_below fits rises legal legal_tag bytes stretch cut_low cut_high fit_low fit_high walks.gaps walks.walk walks.onto walks.falling
needed_sentence =
    record {
      named = apart (λ q. Unit {0}) AgreeOnNode (page 4294967295) fresh_contents plain refl tt any_agrees;
      direction = apart Named (SameBut no_direction) (page 0) plain (board 0 [] (2 ^ 64 - 1) 1 0) refl node_0 refl;
      limit = apart Named (SameBut no_limit) (page 0) plain (board 0 [] 0x18000 0 0) refl node_0 refl;
      image = apart Named (SameBut no_image) (page 0) (board 0 [] (2 ^ 64 - 1) 1 0) (board 0 [] (2 ^ 64 - 1) 1 0x18000) refl node_0 refl;
      memory = apart Named (SameBut no_memory) (page 0) plain fresh_contents refl node_0 refl;
      tags = apart Named SameButTags (page 0) plain (board 4 [] (2 ^ 64 - 1) 0 0) refl node_0 tags_agree;
      taken = apart Named (SameBut no_taken) (page 0) plain (board 0 (of 0x10000 0x10000 0 ∷ []) (2 ^ 64 - 1) 0 0) refl node_0 refl;
    }

-- ---- allocate

-- n taken records of one address each, from c on, every other address free
unfoldable singles : ℕ → ℕ → List Region
singles c zero = []
singles c (suc n) = of c 1 0 ∷ singles (c + 2) n

none_below : (c n a : ℕ) → a < c → at (singles c n) a ≡ Absent
unfolding singles at
none_below c zero a h = refl
none_below c (suc n) a h = at_before (of c 1 0) (singles (c + 2) n) a h ∙ none_below (c + 2) n a (omega arith)

-- the plain board with as many of them as its taken table has room for, above its memory
full : Contents
full = board 0 (singles 0x30000 512) (2 ^ 64 - 1) 0 0

-- none of them lies in the memory
full_agrees : AgreeOnNode 0 plain full
unfolding full at
full_agrees = record { direction = refl; limit = refl; image = refl; memory = λ a. refl; taken = λ a f. go a f (le_or_lt 0x30000 a) }
  where
    go : (a : ℕ) → (node_memory 0 plain a ≡ Absent → ⊥) → (0x30000 ≤ a) ⊎ (a < 0x30000) → false ≡ present (at (singles 0x30000 512) a)
    go a f (inl h) = absurd (f (ap (of_node 0) (at_past (of 0x10000 0x10000 0) [] a (omega arith))))
    go a f (inr h) = sym (ap present (none_below 0x30000 512 a h))

plain_good : Spellable current plain
unfolding capacity rises legal legal_tag fits
plain_good = sound_spellable plain refl

full_good : Spellable current full
unfolding full singles capacity rises legal legal_tag fits
full_good = sound_spellable full refl

-- on the plain board find gives the page below 0x20000; by the sentence it does so on the full one
plain_found : spelled (compute (to_find (page 0) lent) plain) ≡ answer 0 (block_bytes current plain) (slip_of 0x1F000 0x20000)
unfolding compute cut_low cut_high fit_low fit_high walks.gaps walks.walk walks.onto walks.falling
plain_found = refl

asked : computable (to_find (page 0) lent) ≡ true
unfolding computable power_below
asked = refl

-- the plain and the full board, in blocks that agree
agreeing : AgreeOnNode 0 (contents current (block_bytes current plain)) (contents current (block_bytes current full))
agreeing = rw (contents_spelled current small_current plain plain_good, contents_spelled current small_current full full_good) full_agrees

same_found : SameAnswer (finding (page 0) (block_bytes current plain) lent) (finding (page 0) (block_bytes current full) lent)
same_found =
    alone_sentence (page 0) node_0 (block_bytes current plain) (block_bytes current full) (good_spelled_block current small_current plain plain_good)
    (good_spelled_block current small_current full full_good) agreeing lent

-- so many records rise from c on
singles_rise : (c n m e : ℕ) (v : State) → e < c → c + 2 * n ≤ m → Rises e v m (singles c n)
unfolding singles
singles_rise c zero m e v h l = let k : e ≤ m = omega arith in ended k
singles_rise c (suc n) m e v h l =
    let f : Fits e v (of c 1 0) = record { low = omega arith; apart = λ x y. omega arith; some = omega arith } in
    next f (singles_rise (c + 2) n m (c + 1) (Present (tag 0 0)) (omega arith) (omega arith))

length_singles : (c n : ℕ) → length (singles c n) ≡ n
unfolding singles
length_singles c zero = refl
length_singles c (suc n) = ap suc (length_singles (c + 2) n)

-- that page makes one record more
one_more : changed (Fill (tag 0 0)) 0x1F000 0x1000 (singles 0x30000 512) ≡ of 0x1F000 0x1000 0 ∷ singles 0x30000 512
unfolding changed singles starts reach join
one_more =
    let e : cut 0x1F000 0x1000 ≡ 0x20000 = omega (arith, top_is) in
    rw e
    (fill_apart (tag 0 0) 0x1F000 0x20000 top [] (singles 0x30000 512) (singles_rise 0x30000 512 top 0 Absent (omega arith) (omega (arith, top_is))) (omega arith) (omega arith)
    (omega arith) (singles_rise 0x30000 512 top 0x20000 (Present (tag 0 0)) (omega arith) (omega (arith, top_is))))

-- for which there is no room
full_refused : (command_outcome current (command Reserve 0x1F000 0x1000) (block_bytes current full)).number ≡ 6
unfolding full capacity
full_refused =
    (full_sentence current (command Reserve 0x1F000 0x1000) (block_bytes current full)).1
    (record { is_good = good_spelled_block current small_current full full_good; legal = refl; no_room = rw (contents_spelled current small_current full full_good, one_more, length_singles) (omega arith) })

plain_done : (compute (to_allocate (page 0) lent) plain).number ≡ 0
unfolding compute capacity change bytes push join stretch table.walk table.update cut_low cut_high fit_low fit_high walks.gaps walks.walk walks.onto walks.falling
plain_done = refl

pub room_shared : RoomShared
unfolding answer_of computable
room_shared =
    let b : List ℕ = block_bytes current full in
    let p : finding (page 0) (block_bytes current plain) lent ≡ answer 0 (block_bytes current plain) (slip_of 0x1F000 0x20000) =
    call_computed (to_find (page 0) lent) plain plain_good asked ∙ plain_found in
    let n : (finding (page 0) b lent).number ≡ 0 = sym same_found.number ∙ ap (λ (z : Answer). z.number) p in
    let a : number 8 (finding (page 0) b lent).slip ≡ 0x1F000 =
    ap (number 8) (sym same_found.slip ∙ ap (λ (z : Answer). z.slip) p) ∙ slip_first 0x1F000 0x20000 (omega (arith, top_is)) in
    record {
      query = page 0;
      slip = lent;
      roomy = block_bytes current plain;
      full = b;
      named = node_0;
      roomy_good = good_spelled_block current small_current plain plain_good;
      full_good = good_spelled_block current small_current full full_good;
      agree = agreeing;
      done = ap (λ (z : Answer). z.number) (call_computed (to_allocate (page 0) lent) plain plain_good asked) ∙ plain_done;
      refused = (reserve_sentence current (page 0) b lent).number n ∙ rw a full_refused;
    }
