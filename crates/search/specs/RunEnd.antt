-- E5's sentence, of every answer of a search: the second number is the end of the free run that holds the address. Assumes nothing.
use Rattle.std.specs.Prelude.{ℕ, ◌+◌, ◌≤◌, ◌<◌, ◌≡◌, Bool, true, List, drop}
use Rattle.regions.specs.declared.Tag.{Tag}
use Rattle.regions.specs.declared.State.TheVariants.{Present}
use Rattle.regions.specs.Bytes.{number}
use Rattle.block.specs.declared.Layout.{Layout}
use Rattle.block.specs.Block.{Contents, contents}
use Rattle.fits.specs.declared.Query.{Query}
use Rattle.fits.specs.Eligible.{wanted, asks}
use Rattle.search.specs.Answers.{find, allocate, next_free}
use Rattle.search.specs.DemandTwo.{free_in}

-- the addresses from a to below end are free and of one tag, which p asks for, and the address at end is not in that run
pub record RunTo (s : Contents) (p : Tag → Bool) (a end : ℕ) : Type 0 where
  pub tag : Tag
  pub asked : p tag ≡ true
  pub free : (x : ℕ) → a ≤ x → x < end → free_in s x ≡ Present tag
  pub over : free_in s end ≡ Present tag → ⊥

-- so do a slip's two numbers, and the size addresses from the first on end by the second
pub record NamesRun (s : Contents) (p : Tag → Bool) (size : ℕ) (slip : List ℕ) : Type 0 where
  pub run : RunTo s p (number 8 slip) (number 8 (drop 8 slip))
  pub room : number 8 slip + size ≤ number 8 (drop 8 slip)

-- of the block as lent: after allocate the addresses reserved are free no more
abbrev pub FindRunSentence : Type 0
FindRunSentence =
    (L : Layout) (q : Query) (b slip : List ℕ) → (find L q b slip).number ≡ 0 → NamesRun (contents L b) (asks q) q.size.0 (find L q b slip).slip

abbrev pub AllocateRunSentence : Type 0
AllocateRunSentence =
    (L : Layout) (q : Query) (b slip : List ℕ) → (allocate L q b slip).number ≡ 0 → NamesRun (contents L b) (asks q) q.size.0 (allocate L q b slip).slip

abbrev pub NextFreeRunSentence : Type 0
NextFreeRunSentence =
    (L : Layout) (p node wish : ℕ) (b slip : List ℕ) → (next_free L p node wish b slip).number ≡ 0
    → NamesRun (contents L b) (wanted node wish) 1 (next_free L p node wish b slip).slip
