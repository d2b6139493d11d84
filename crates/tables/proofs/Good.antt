-- Every command leaves a good block: those on a range, trim, set and that for the image end one that was good, fresh any bytes of the right length. Assumes nothing.
use Prim.Native.Nat.{ℕ, ◌%◌, ◌^◌}
use mathlib.Core.Path.{◌≡◌, refl, ap, ◌∙◌}
use mathlib.Core.Bool.{Bool, true, false, cond}
use mathlib.Core.List.{List}
use mathlib.Core.Logic.{◌⊎◌, inl, inr}
use native.Mathlib.Nat.{mod-lt}
use native.Mathlib.Omega.{arith}
use lib.Dec.{leb, eqb, lit<}
use lib.ListN.{length}
use borrow.Author.Tests.{le-leb}
use Rattle.address.specs.Numbers.{power_of_two}
use Rattle.address.proofs.Powers.{power_some}
use Rattle.address.proofs.Tests.{and, clash}
use Rattle.regions.specs.declared.Kind.TheVariants.{Memory, Taken}
use Rattle.regions.proofs.Numbers.{bytes_mod}
use Rattle.block.specs.declared.Layout.{Layout}
use Rattle.block.specs.declared.Settings.{Settings}
use Rattle.block.specs.Block.{current, block_length, Contents, list_of, with_settings, settings, settings_bytes, totals_bytes, fresh_contents, header_bytes, block_bytes, contents, good_contents, good}
use Rattle.block.proofs.Blocks.{direction_ok, tables_ok, good_contents_lem}
use Rattle.block.proofs.Reading.{SettingsFit, Spellable, good_spelled_block}
use Rattle.block.proofs.Layouts.{small_current}
use Rattle.block.proofs.Kept.{change_kept, trim_kept}
use Rattle.range.specs.Outcomes.{Outcome, outcome, unless, done_with}
use Rattle.tables.specs.Commands.{Command, table, change_of, legal_verb, strict, allows, command_outcome, fresh, set, set_image_end, trim}
use Rattle.tables.proofs.Answered.{Answered, not_good, not_legal, not_allowed, no_room, done, answered, Refuses, Stores, refuses_or_stores}
use Rattle.tables.proofs.Verbs.{verb_keeps}
use Rattle.tables.proofs.Printed.{fresh_spellable}

-- what is done past the number 1 was done where its test holds
pub was_good : (t : Bool) (b : List ℕ) (o : Outcome) → (unless t 1 b o).number ≡ 0 → t ≡ true
was_good true b o h = refl
was_good false b o h = absurd (omega (arith, h))

-- ---- the commands on a range, and trim

module _ (b : List ℕ) (g : good current b ≡ true) where
  module _ (c : Command) where
    pub command_good : good current (command_outcome current c b).block ≡ true
    command_good = go (refuses_or_stores current c b)
      where
        go : Refuses current c b ⊎ Stores current c b → good current (command_outcome current c b).block ≡ true
        go (inl r) = ap (good current) r.block ∙ g
        go (inr d) =
            ap (λ (o : Outcome). good current o.block) d.is
            ∙ (change_kept current small_current b g (table c.verb) (change_of c.verb) c.base c.size (verb_keeps c.verb d.legal) d.room).is_good

    -- with a legal tag it is done or the table is full, but for free
    pub command_number : legal_verb c.verb ≡ true → strict c.verb ≡ false → ((command_outcome current c b).number ≡ 0) ⊎ ((command_outcome current c b).number ≡ 6)
    command_number h s = go (answered current c b)
      where
        lax : allows c (list_of (contents current b) (table c.verb)) ≡ true
        lax = rw s

        go : Answered current c b → ((command_outcome current c b).number ≡ 0) ⊎ ((command_outcome current c b).number ≡ 6)
        go (not_good f e) = absurd (clash (good current b) g f)
        go (not_legal f l e) = absurd (clash (legal_verb c.verb) h l)
        go (not_allowed f l a e) = absurd (clash _ lax a)
        go (no_room f l a m e) = inr (ap (λ (o : Outcome). o.number) e)
        go (done f l a m e) = inl (ap (λ (o : Outcome). o.number) e)

  pub trim_good : (k : ℕ) → good current (trim current k b).block ≡ true
  unfolding trim
  trim_good k = go (power_of_two k) refl
    where
      go : (p : Bool) → power_of_two k ≡ p → good current (trim current k b).block ≡ true
      go false e = rw (g, e) g
      go true e = rw (g, e) (trim_kept current small_current b g k (power_some k e)).is_good

-- ---- set, the image end and fresh

-- of a limit and of an image end eight bytes are spelled
settings_spelled : (L : Layout) (s : Contents) (limit direction image : ℕ)
    → block_bytes L (with_settings s (settings (limit % 256 ^ 8) direction (image % 256 ^ 8))) ≡ block_bytes L (with_settings s (settings limit direction image))
unfolding block_bytes header_bytes settings_bytes totals_bytes
settings_spelled L s limit direction image = rw (bytes_mod 8 limit, bytes_mod 8 image)

-- what a good block says, with other settings
pub settings_spellable : (b : List ℕ) → good current b ≡ true → (x : Settings) → leb x.direction 1 ≡ true → SettingsFit x
    → Spellable current (with_settings (contents current b) x)
unfolding good_contents
settings_spellable b g x e f =
    let s = contents current b in
    let p = good_contents_lem current b g in
    record { good = and e (and (tables_ok current s p Memory) (tables_ok current s p Taken)); settings = f }

-- so it is a good block, whatever the limit and the image end
settings_good : (b : List ℕ) → good current b ≡ true → (limit direction image : ℕ) → leb direction 1 ≡ true
    → good current (block_bytes current (with_settings (contents current b) (settings limit direction image))) ≡ true
settings_good b g limit direction image e =
    let f : SettingsFit (settings (limit % 256 ^ 8) direction (image % 256 ^ 8)) = record { limit = mod-lt limit (lit< tt); image = mod-lt image (lit< tt) } in
    rw (← settings_spelled current (contents current b) limit direction image) (good_spelled_block current small_current _ (settings_spellable b g _ e f))

-- a good block's direction
pub direction_legal : (b : List ℕ) → good current b ≡ true → leb (contents current b).settings.direction 1 ≡ true
direction_legal b g = le-leb (contents current b).settings.direction 1 (direction_ok current (contents current b) (good_contents_lem current b g))

pub set_good : (b : List ℕ) → good current b ≡ true → (limit direction : ℕ) → good current (set current limit direction b).block ≡ true
unfolding set
set_good b g limit direction = go (leb direction 1) refl
  where
    go : (t : Bool) → leb direction 1 ≡ t → good current (set current limit direction b).block ≡ true
    go false e = rw (g, e) g
    go true e = rw (g, e) (settings_good b g limit direction _ e)

pub image_good : (b : List ℕ) → good current b ≡ true → (image : ℕ) → good current (set_image_end current image b).block ≡ true
unfolding set_image_end
image_good b g image = rw g (settings_good b g _ _ image (direction_legal b g))

-- a fresh block is good; other lengths are refused
pub fresh_good : (b : List ℕ) → (fresh current b).number ≡ 0 → good current (fresh current b).block ≡ true
unfolding fresh
fresh_good b h = go (eqb (length b) (block_length current)) refl h
  where
    go : (t : Bool) → eqb (length b) (block_length current) ≡ t → (cond t (done_with (block_bytes current fresh_contents)) (outcome 1 b)).number ≡ 0
        → good current (cond t (done_with (block_bytes current fresh_contents)) (outcome 1 b)).block ≡ true
    go true e n = good_spelled_block current small_current fresh_contents (fresh_spellable current)
    go false e n = absurd (omega (arith, n))
