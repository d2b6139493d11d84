-- E13 of the exported find: one node's answers stand alone; none of the premises can be left out; and allocate is not so. Assumes nothing.
use Rattle.std.specs.Prelude.{ℕ, ◌≡◌, true, List, []}
use Rattle.regions.specs.declared.Kind.TheVariants.{Memory, Taken}
use Rattle.regions.specs.Meaning.{at}
use Rattle.regions.specs.Changes.{present}
use Rattle.block.specs.Block.{current, Contents, with_list, with_settings, settings, with_image, contents, good}
use Rattle.fits.specs.declared.Query.{Query}
use Rattle.search.specs.Alone.{AgreeOnNode, Asking, SameOn, Named, NodeAlone}
use Rattle.memblock.specs.Calls.{to_find, to_allocate, answer_of}

-- find and allocate, in the table of calls
abbrev pub finding : Asking
finding q b slip = answer_of (to_find q slip) b

abbrev pub allocating : Asking
allocating q b slip = answer_of (to_allocate q slip) b

-- the sentence
abbrev pub AloneSentence : Type 0
AloneSentence = NodeAlone finding

-- ---- what it asks of two blocks is needed

-- what a block says with one part of it blanked
abbrev pub no_direction : Contents → Contents
no_direction s = with_settings s (settings s.settings.limit.0 0 s.settings.image.0)

abbrev pub no_limit : Contents → Contents
no_limit s = with_settings s (settings 0 s.settings.direction s.settings.image.0)

abbrev pub no_image : Contents → Contents
no_image s = with_settings s (with_image s.settings 0)

abbrev pub no_memory : Contents → Contents
no_memory s = with_list s Memory []

abbrev pub no_taken : Contents → Contents
no_taken s = with_list s Taken []

-- two blocks say the same in all but that part
abbrev pub SameBut : (Contents → Contents) → ℕ → Contents → Contents → Type 0
SameBut blanked n s d = blanked s ≡ blanked d

-- and have memory at the same addresses, with whatever tags
pub record SameButTags (n : ℕ) (s d : Contents) : Type 0 where
  pub rest : SameBut no_memory n s d
  pub addresses : (a : ℕ) → present (at s.memory a) ≡ present (at d.memory a)

-- said for any node, or of blocks that say the same in all but one thing, it is false
pub record NeededSentence : Type 0 where
  pub named : SameOn (λ q. Unit {0}) AgreeOnNode finding → ⊥
  pub direction : SameOn Named (SameBut no_direction) finding → ⊥
  pub limit : SameOn Named (SameBut no_limit) finding → ⊥
  pub image : SameOn Named (SameBut no_image) finding → ⊥
  pub memory : SameOn Named (SameBut no_memory) finding → ⊥
  pub tags : SameOn Named SameButTags finding → ⊥
  pub taken : SameOn Named (SameBut no_taken) finding → ⊥

-- ---- allocate

-- there are good blocks that agree on a named node as the sentence asks, and one call gets 0 on the one and 6 on the other: the taken table's room is shared
pub record RoomShared : Type 0 where
  pub query : Query
  pub slip : List ℕ
  pub roomy : List ℕ
  pub full : List ℕ
  pub named : Named query
  pub roomy_good : good current roomy ≡ true
  pub full_good : good current full ≡ true
  pub agree : AgreeOnNode query.node (contents current roomy) (contents current full)
  pub done : (allocating query roomy slip).number ≡ 0
  pub refused : (allocating query full slip).number ≡ 6
