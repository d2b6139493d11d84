-- A plan judged line by line: the steps, each as its code leaves it. Assumes nothing.
use Prim.Native.Nat.{ℕ, ◌+◌, ◌*◌, ◌-◌, ◌≤◌, ◌<◌}
use mathlib.Core.Path.{◌≡◌, sym, ap, ◌∙◌}
use mathlib.Core.Bool.{Bool, true, false, not}
use mathlib.Core.List.{List}
use native.Mathlib.Omega.{arith}
use lib.Dec.{eqb}
use lib.ListN.{length, take, drop}
use borrow.Author.Tests.{le-leb, lt-leb, eqb-true, not-true, not-false}
use Rattle.std.proofs.Common.{Ok, Err}
use Rattle.address.specs.declared.Address.{Address}
use Rattle.address.proofs.Tests.{both}
use Rattle.regions.specs.declared.Kind.TheVariants.{Taken}
use Rattle.regions.specs.declared.Run.{Run}
use Rattle.regions.specs.Meaning.{top, top_is}
use Rattle.block.specs.declared.Layout.{Layout}
use Rattle.block.specs.Block.{current, capacity, offset, contents, good}
use Rattle.block.proofs.Blocks.{bad_here, good_here}
use Rattle.change.specs.Steps.{Vacant}
use Rattle.range.proofs.Storing.{span_room}
use Rattle.fits.specs.declared.Query.{Query}
use Rattle.fits.specs.Eligible.{eligible}
use Rattle.seek.specs.Search.{window, runs_of}
use Rattle.seek.specs.Steps.{Ready}
use Rattle.seek.proofs.Found.{eligible_below, eligible_vacant}
use Rattle.search.specs.Answers.{refusal, check_number}
use Rattle.search.proofs.Answering.{number_ready}
use Rattle.plan.specs.declared.Fault.{Fault}
use Rattle.plan.specs.declared.Line.{Line}
use Rattle.refusals.specs.declared.Refusal.TheVariants.{Block, Lines, Line as LineFails}
use Rattle.plan.specs.Plan.{range_of, share, passes, any}
use Rattle.plan.specs.Steps.{begun, judged}

-- ---- before the first line

module _ (L : Layout) (is : L ≡ current) (b : List ℕ) (n : ℕ) (g : Bool) (x : g ≡ good L b) where
  pub begun_bad : not g ≡ true → Err Block ≡ begun b n
  unfolding begun
  begun_bad h = rw (bad_here L is b g x h)

  pub begun_long : not g ≡ false → 64 < n → Err Lines ≡ begun b n
  unfolding begun
  begun_long h l = rw (good_here L is b g x h, lt-leb n 64 l)

  pub begun_fine : not g ≡ false → n ≤ 64 → Ok tt ≡ begun b n
  unfolding begun
  begun_fine h l = rw (good_here L is b g x h, le-leb n 64 l)

-- ---- a line by itself

-- its numbers pass the checks of find, and a good block can be searched for it
pub refusal_ready : (b : List ℕ) → good current b ≡ true → (q : Query) → refusal q ≡ 0 → Ready b q
refusal_ready b g q e =
    let c : check_number current q b ≡ 0 = rw g e in
    let r = number_ready current b q c in
    record { good = g; size = r.1; align = r.0.1 }

-- it passes: its range has some addresses, ends by the top, and none of it is taken
pub record Fine (b : List ℕ) (l : Line) : Type 0 where
  pub some : 0 < l.query.size.0
  pub end : l.at.0 + l.query.size.0 ≤ top
  pub vacant : Vacant l.at.0 (l.at.0 + l.query.size.0) (contents current b).taken

pub passes_fine : (b : List ℕ) → good current b ≡ true → (l : Line) → passes (contents current b) l ≡ true → Fine b l
passes_fine b g l e =
    let s = contents current b in
    let p = both (eqb (refusal l.query) 0) (eligible (window s.settings.limit.0 l.query) (runs_of s) l.at.0) e in
    let r = refusal_ready b g l.query (eqb-true (refusal l.query) 0 p.0) in
    record {
      some = r.size;
      end = eligible_below (window s.settings.limit.0 l.query) s l.at.0 r.size p.1;
      vacant = eligible_vacant (window s.settings.limit.0 l.query) s l.at.0 r.size p.1;
    }

-- ---- the line behind those with these ranges

module _ (b : List ℕ) (rs : List Run) (l : Line) (t : Bool) (e : t ≡ passes (contents current b) l) where
  pub judged_fails : not t ≡ true → (f : Fault) → f ≡ record { refusal = LineFails; index = length rs } → Err f ≡ judged (contents current b) rs l
  unfolding judged
  judged_fails n f q = rw (← e, not-true t n, q)

  module _ (n : not t ≡ false) where
    -- it is eligible, so its range ends by the top
    pub judged_ends : good current b ≡ true → l.at.0 + l.query.size.0 < 18446744073709551616
    judged_ends g = omega (arith, (passes_fine b g l (sym e ∙ not-false t n)).end, top_is)

    module _ (end : Address) (k : end.0 ≡ l.at.0 + l.query.size.0) (u : Bool) (q : u ≡ any (share (record { low = l.at; end = end })) rs) where
      range_is : record { low = l.at; end = end } ≡ range_of l
      range_is = λ i. record { low = l.at; end = record { 0 = k i } }

      shares_is : any (share (range_of l)) rs ≡ u
      shares_is = sym (q ∙ ap (λ (x : Run). any (share x) rs) range_is)

      pub judged_shares : u ≡ true → (f : Fault) → f ≡ record { refusal = LineFails; index = length rs } → Err f ≡ judged (contents current b) rs l
      unfolding judged
      judged_shares v f w = rw (← e, not-false t n, shares_is, v, w)

      pub judged_passes : u ≡ false → Ok (record { low = l.at; end = end }) ≡ judged (contents current b) rs l
      unfolding judged
      judged_passes v = rw (← e, not-false t n, shares_is, v) (ap Ok range_is)

-- ---- the part of a good block that holds its taken table

pub taken_length : (b : List ℕ) (a e : ℕ) → good current b ≡ true → a ≡ offset current Taken → e ≡ offset current Taken + 24 * capacity current Taken
    → length (take (e - a) (drop a b)) ≡ 12288
unfolding capacity
taken_length b a e g p q = span_room Taken a e b g p q
