-- A page's order, by the run that it lies in: the runs one after the other. Assumes nothing.
use Prim.Native.Nat.{ℕ, ◌+◌, ◌*◌, ◌^◌, ◌≤◌, ◌<◌}
use mathlib.Core.Path.{◌≡◌, refl}
use mathlib.Core.Bool.{true, false, not, and-false, or-true, or-false}
use mathlib.Core.List.{List, [], ◌∷◌}
use mathlib.Core.Option.{none}
use native.Mathlib.Omega.{arith}
use lib.Dec.{leb}
use lib.Pow.{pow_pos}
use borrow.Author.Tests.{le-leb, lt-leb, leb-true}
use Rattle.address.specs.Numbers.{down}
use Rattle.address.proofs.Tests.{iff}
use Rattle.address.proofs.Rounding.{down_le, down_near}
use Rattle.regions.specs.declared.Tag.{Tag}
use Rattle.regions.specs.declared.Region.{Region}
use Rattle.regions.specs.declared.State.{State}
use Rattle.regions.specs.Meaning.{end, top}
use Rattle.regions.specs.Changes.{has}
use Rattle.regions.specs.Runs.{in_one}
use Rattle.regions.proofs.Rises.{Rises, ended, next, Canonical}
use Rattle.regions.proofs.Free.{free_canonical}
use Rattle.block.specs.Block.{Contents}
use Rattle.seek.specs.Search.{runs_of}
use Rattle.fits.specs.Eligible.{wanted}
use Rattle.pages.specs.Pages.{whole, order_at}
use Rattle.pages.specs.Cut.{first_page, past_page}
use Rattle.pages.specs.Steps.{within}
use Rattle.pages.proofs.Orders.{no_order, order_same}

-- free runs are a shortest list
pub runs_canonical : (s : Contents) → Canonical top (runs_of s)
runs_canonical s = free_canonical s.memory s.taken

pub leb_same : (a b c d : ℕ) → (a ≤ b → c ≤ d) → (c ≤ d → a ≤ b) → leb a b ≡ leb c d
leb_same a b c d f g = iff (leb a b) (leb c d) (λ e. le-leb c d (f (leb-true a b e))) (λ e. le-leb a b (g (leb-true c d e)))

-- wish 1 and any node ask for every run
pub all_wanted : (t : Tag) → wanted 4294967295 1 t ≡ true
all_wanted t = rw (or-true (not (has 1 t.flags)))

-- nothing that begins below a list's runs lies in one of them
below_none : (s a : ℕ) {c n : ℕ} {v : State} {xs : List Region} → Rises c v n xs → a < c → in_one (wanted 4294967295 1) s a xs ≡ false
unfolding in_one
below_none s a (ended l) h = refl
below_none s a (next {r = r} k w) h =
    rw (all_wanted r.tag, lt-leb r.base.0 a (omega (arith, k.low))) (below_none s a w (omega (arith, k.low)))

module _ (r : Region) (rs : List Region) (q : ℕ) where
  -- past the run only the later ones count
  pub past_run : past_page r ≤ q → order_at (whole (r ∷ rs)) q ≡ order_at (whole rs) q
  unfolding whole in_one
  past_run l =
      order_same (whole (r ∷ rs)) (whole rs) q
      (λ o h.
      let n = down_near q (2 ^ o) (pow_pos o) in
      rw (all_wanted r.tag, lt-leb (4096 * down q (2 ^ o) + 4096 * 2 ^ o) (end r) (omega arith), and-false))

  -- before the run there is none, where the list begins with it
  pub before_run : {c n : ℕ} {v : State} → Rises c v n (r ∷ rs) → q < first_page r → order_at (whole (r ∷ rs)) q ≡ none
  unfolding whole in_one
  before_run (next k w) l =
      no_order (whole (r ∷ rs)) q
      (λ o h.
      let d = down_le q (2 ^ o) (pow_pos o) in
      let z = below_none (4096 * 2 ^ o) (4096 * down q (2 ^ o)) w (omega arith) in
      rw (all_wanted r.tag, lt-leb r.base.0 (4096 * down q (2 ^ o)) (omega arith), z))

  -- in the run its own pages count
  pub in_run : {c n : ℕ} {v : State} → Rises c v n (r ∷ rs) → q < past_page r → order_at (whole (r ∷ rs)) q ≡ order_at (within (first_page r) (past_page r)) q
  unfolding whole in_one
  in_run (next k w) l =
      order_same (whole (r ∷ rs)) (within (first_page r) (past_page r)) q
      (λ o h.
      let d = down_le q (2 ^ o) (pow_pos o) in
      let s : ℕ = down q (2 ^ o) in
      let z = below_none (4096 * 2 ^ o) (4096 * s) w (omega arith) in
      let a = leb_same r.base.0 (4096 * s) (first_page r) s (λ i. omega arith) (λ i. omega arith) in
      let b = leb_same (4096 * s + 4096 * 2 ^ o) (end r) (s + 2 ^ o) (past_page r) (λ i. omega arith) (λ i. omega arith) in
      rw (all_wanted r.tag, z, or-false, a, b))

pub no_run : (q : ℕ) → order_at (whole []) q ≡ none
unfolding whole in_one
no_run q = no_order (whole []) q (λ o h. refl)
