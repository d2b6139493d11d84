-- The list of pieces is the cut of the free runs from the bottom, and its pages are those that lie whole in one run, each once. Assumes nothing.
use Prim.Native.Nat.{ℕ, ◌+◌, ◌*◌, ◌≤◌}
use mathlib.Core.Path.{◌≡◌, refl}
use mathlib.Core.Bool.{true}
use native.Mathlib.Omega.{arith}
use Rattle.regions.specs.Meaning.{at, top}
use Rattle.regions.specs.Free.{free_memory, free_runs}
use Rattle.regions.specs.Runs.{OneTag}
use Rattle.regions.proofs.Lying.{in_one_run, one_run_in}
use Rattle.block.specs.Block.{Contents}
use Rattle.fits.specs.Eligible.{wanted}
use Rattle.seek.specs.Search.{runs_of}
use Rattle.pages.specs.Pages.{whole}
use Rattle.pages.specs.Sentences.{FreePage, PiecesSentence}
use Rattle.pages.proofs.Runs.{all_wanted, runs_canonical}
use Rattle.pages.proofs.Greedy.{pieces_greedy}
use Rattle.pages.proofs.Cover.{pieces_cover, pieces_from_lem, pieces_rise}

module _ (s : Contents) (q : ℕ) where
  whole_free : whole (runs_of s) 0 q ≡ true → FreePage s q
  unfolding whole free_runs
  whole_free e =
      let o = (one_run_in (free_memory (at s.memory) (at s.taken)) (wanted 4294967295 1) 4096 (4096 * q) (omega arith) e).1 in
      record { tag = o.tag; right = refl; all = o.all }

  free_whole : 4096 * q + 4096 ≤ top → FreePage s q → whole (runs_of s) 0 q ≡ true
  unfolding whole free_runs
  free_whole h o =
      let p : OneTag (free_memory (at s.memory) (at s.taken)) (wanted 4294967295 1) 4096 (4096 * q) = record { tag = o.tag; right = all_wanted o.tag; all = o.all } in
      in_one_run (free_memory (at s.memory) (at s.taken)) (wanted 4294967295 1) 4096 (4096 * q) (omega arith) h p

pub pieces_sentence : (s : Contents) → PiecesSentence s
pieces_sentence s =
    record {
      cut = pieces_greedy (runs_of s) (runs_canonical s);
      from = pieces_from_lem (runs_of s);
      every = all_wanted;
      once = pieces_cover (runs_of s) (runs_canonical s);
      free = whole_free s;
      whole = free_whole s;
      rising = pieces_rise (runs_of s);
    }
