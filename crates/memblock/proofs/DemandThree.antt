-- Demand 3, whole: on any good block, for any list of the six commands whose done commands agree. Assumes nothing.
use Prim.Native.Nat.{ℕ}
use mathlib.Core.Path.{◌≡◌, sym, ap}
use mathlib.Core.Bool.{true}
use mathlib.Core.List.{List, Memᴰ}
use Rattle.block.specs.Block.{current, good}
use Rattle.tables.specs.Commands.{Command}
use Rattle.memblock.specs.Calls.{answers}
use Rattle.memblock.specs.Lists.{run, done, Agreed, SameDone, Ends, DemandThree}
use Rattle.memblock.proofs.Runs.{ran}
use Rattle.memblock.proofs.Often.{same_members}
use Rattle.memblock.proofs.Standing.{ran_ends, ends_same}

-- ---- only which commands are done counts

agreed_members : (ds es : List Command) → ((d : Command) → Memᴰ d es → Memᴰ d ds) → Agreed ds → Agreed es
agreed_members ds es from w d e m n t = w d e (from d m) (from e n) t

ends_members : (b : List ℕ) (ds es : List Command) (e : List ℕ) → ((d : Command) → Memᴰ d ds → Memᴰ d es)
    → ((d : Command) → Memᴰ d es → Memᴰ d ds) → Ends b ds e → Ends b es e
ends_members b ds es e to from p =
    record {
      is_good = p.is_good;
      stands = λ k a. record { covered = λ d m. (p.stands k a).covered d (from d m); uncovered = λ o. (p.stands k a).uncovered (λ d m. o d (to d m)) };
      settings = p.settings;
      spare = p.spare;
    }

-- ---- demand 3

module _ (b : List ℕ) (g : good current b ≡ true) (cs : List Command) (w : Agreed (done cs b)) where
  list_ends : Ends b (done cs b) (run cs b)
  list_ends = ran_ends (done cs b) w b (run cs b) g (ran cs b g)

  any_order : (es : List Command) → SameDone (done cs b) (done es b) → run es b ≡ run cs b
  any_order es s =
      let to = same_members (done cs b) (done es b) s in
      let from = same_members (done es b) (done cs b) (λ d. sym (s d)) in
      let f : Ends b (done es b) (run es b) =
      ran_ends (done es b) (agreed_members (done cs b) (done es b) from w) b (run es b) g (ran es b g) in
      ends_same b (done cs b) (run es b) (run cs b) (ends_members b (done es b) (done cs b) (run es b) from to f) list_ends

pub demand_three : (b : List ℕ) → good current b ≡ true → (cs : List Command) → Agreed (done cs b) → DemandThree b cs
demand_three b g cs w =
    record {
      ends = list_ends b g cs w;
      only = λ e p. ends_same b (done cs b) e (run cs b) p (list_ends b g cs w);
      order = any_order b g cs w;
      later = λ es s calls. ap (answers calls) (any_order b g cs w es s);
    }
