-- Document 01's marked cases, 1 to 10, as one table: calls on a fresh block, what each answers, and the tables at the end. Assumes nothing.
use Rattle.std.specs.Prelude.{ℕ, ◌-◌, ◌^◌, ◌≡◌, List, [], ◌∷◌, map, replicate}
use Rattle.regions.specs.declared.Region.{Region}
use Rattle.regions.specs.Meaning.{region, at, total, top}
use Rattle.block.specs.Block.{current, fresh_contents, block_bytes, contents}
use Rattle.tables.specs.declared.commands.Verb.TheVariants.{Add, Reserve, Free}
use Rattle.range.specs.Outcomes.{tag}
use Rattle.tables.specs.Commands.{command}
use Rattle.fits.specs.Eligible.{query}
use Rattle.search.specs.Answers.{Answer, slip_of}
use Rattle.memblock.specs.Calls.{Call, to_set, to_command, to_trim, to_find, to_allocate, answers, leaves}

pub record Case : Type 0 where
  pub calls : List Call
  pub numbers : List ℕ
  pub slips : List (List ℕ)
  pub memory : List Region
  pub memory_total : ℕ
  pub taken : List Region
  pub taken_total : ℕ

abbrev pub fresh : List ℕ
fresh = block_bytes current fresh_contents

-- what a case claims of the definitions
pub record Holds (c : Case) : Type 0 where
  pub numbers : map (λ (a : Answer). a.number) (answers c.calls fresh) ≡ c.numbers
  pub slips : map (λ (a : Answer). a.slip) (answers c.calls fresh) ≡ c.slips
  pub memory : (contents current (leaves c.calls fresh)).memory ≡ c.memory
  pub memory_total : total (at (contents current (leaves c.calls fresh)).memory) top ≡ c.memory_total
  pub taken : (contents current (leaves c.calls fresh)).taken ≡ c.taken
  pub taken_total : total (at (contents current (leaves c.calls fresh)).taken) top ≡ c.taken_total

-- every case of a table holds
abbrev pub AllHold : List Case → Type 0
AllHold [] = Unit {0}
AllHold (c ∷ cs) = Holds c × AllHold cs

-- ---- calls, by their numbers; what a case leaves unsaid is flags 0, node 0, start 0, end 0, any node and no wish

abbrev pub add : ℕ → ℕ → ℕ → Call
add base size node = to_command (command (Add (tag 0 node)) base size)

abbrev pub reserve : ℕ → ℕ → Call
reserve base size = to_command (command Reserve base size)

abbrev pub free : ℕ → ℕ → Call
free base size = to_command (command Free base size)

abbrev pub bottom_up : Call
bottom_up = to_set (2 ^ 64 - 1) 1

-- a slip of 16 bytes, lent full of 255
abbrev pub lent : List ℕ
lent = replicate 16 255

abbrev pub find : ℕ → ℕ → Call
find size align = to_find (query size align 0 0 4294967295 0) lent

abbrev pub allocate : ℕ → ℕ → Call
allocate size align = to_allocate (query size align 0 0 4294967295 0) lent

-- the slip of an address and the end of its free run (E5), of a refusal, and of a call that takes none
abbrev pub gives : ℕ → ℕ → List ℕ
gives a end = slip_of a end

abbrev pub zero_slip : List ℕ
zero_slip = replicate 16 0

abbrev pub no_slip : List ℕ
no_slip = []

abbrev pub of : ℕ → ℕ → ℕ → Region
of base size node = region base size (tag 0 node)

-- M is memory [0x10000, 0x20000) of tag 0, 0
abbrev pub M : Call
M = add 0x10000 0x10000 0

abbrev pub with_m : List Region → ℕ → List Call → List ℕ → List (List ℕ) → Case
with_m taken taken_total calls numbers slips =
    record {
      calls = M ∷ calls;
      numbers = 0 ∷ numbers;
      slips = no_slip ∷ slips;
      memory = of 0x10000 0x10000 0 ∷ [];
      memory_total = 0x10000;
      taken = taken;
      taken_total = taken_total;
    }

-- a case in which nothing is taken
abbrev pub untaken : List Region → ℕ → List Call → List ℕ → List (List ℕ) → Case
untaken memory memory_total calls numbers slips =
    record { calls = calls; numbers = numbers; slips = slips; memory = memory; memory_total = memory_total; taken = []; taken_total = 0 }

-- ---- the table

unfoldable pub cases : List Case
cases =
    -- 1: top-down 0x1F000, bottom-up 0x10000
    with_m [] 0 (find 0x1000 0x1000 ∷ bottom_up ∷ find 0x1000 0x1000 ∷ []) (0 ∷ 0 ∷ 0 ∷ []) (gives 0x1F000 0x20000 ∷ no_slip ∷ gives 0x10000 0x20000 ∷ [])
    -- 2: twice, top-down
    ∷ with_m (of 0x1E000 0x2000 0 ∷ []) 0x2000 (allocate 0x1000 0x1000 ∷ allocate 0x1000 0x1000 ∷ []) (0 ∷ 0 ∷ [])
    (gives 0x1F000 0x20000 ∷ gives 0x1E000 0x1F000 ∷ [])
    -- 3: then free(0x1E800, 0x800)
    ∷ with_m (of 0x1E000 0x800 0 ∷ of 0x1F000 0x1000 0 ∷ []) 0x1800
    (allocate 0x1000 0x1000 ∷ allocate 0x1000 0x1000 ∷ free 0x1E800 0x800 ∷ find 0x800 0x800 ∷ []) (0 ∷ 0 ∷ 0 ∷ 0 ∷ [])
    (gives 0x1F000 0x20000 ∷ gives 0x1E000 0x1F000 ∷ no_slip ∷ gives 0x1E800 0x1F000 ∷ [])
    -- 4: either direction
    ∷ with_m (of 0x18000 0x1000 0 ∷ []) 0x1000 (reserve 0x18000 0x1000 ∷ find 0x8000 1 ∷ find 0x8001 1 ∷ bottom_up ∷ find 0x8000 1 ∷ find 0x8001 1 ∷ [])
    (0 ∷ 0 ∷ 5 ∷ 0 ∷ 0 ∷ 5 ∷ []) (no_slip ∷ gives 0x10000 0x18000 ∷ zero_slip ∷ no_slip ∷ gives 0x10000 0x18000 ∷ zero_slip ∷ [])
    -- 5: a size larger than the end
    ∷ untaken (of 0x1000 0x1000 0 ∷ []) 0x1000 (add 0x1000 0x1000 0 ∷ find 0x3000 1 ∷ []) (0 ∷ 5 ∷ []) (no_slip ∷ zero_slip ∷ [])
    -- 6: nothing below 4096
    ∷ untaken (of 0 0x2000 0 ∷ []) 0x2000 (add 0 0x2000 0 ∷ bottom_up ∷ find 0x1000 0x1000 ∷ find 0x1001 0x1000 ∷ []) (0 ∷ 0 ∷ 0 ∷ 5 ∷ [])
    (no_slip ∷ no_slip ∷ gives 0x1000 0x2000 ∷ zero_slip ∷ [])
    -- 7: the cut at the top
    ∷ untaken (of (2 ^ 64 - 4096) 0xFFF 0 ∷ []) 0xFFF (add (2 ^ 64 - 4096) 0x2000 0 ∷ []) (0 ∷ []) (no_slip ∷ [])
    ∷ untaken [] 0 (add (2 ^ 64 - 1) 1 0 ∷ []) (0 ∷ []) (no_slip ∷ [])
    -- 8: rounding up past the top; trim empties the table
    ∷ untaken (of (2 ^ 64 - 4095) 0xFFE 0 ∷ []) 0xFFE (add (2 ^ 64 - 4095) 0xFFE 0 ∷ find 1 0x1000 ∷ bottom_up ∷ find 1 0x1000 ∷ []) (0 ∷ 5 ∷ 0 ∷ 5 ∷ [])
    (no_slip ∷ zero_slip ∷ no_slip ∷ zero_slip ∷ [])
    ∷ untaken [] 0 (add (2 ^ 64 - 4095) 0xFFE 0 ∷ to_trim 0x1000 ∷ []) (0 ∷ 0 ∷ []) (no_slip ∷ no_slip ∷ [])
    -- 9: in the one order and in the other
    ∷ untaken (of 0 0x1000 1 ∷ of 0x1000 0x1000 0 ∷ of 0x2000 0x1000 1 ∷ []) 0x3000 (add 0x1000 0x1000 0 ∷ add 0 0x3000 1 ∷ []) (0 ∷ 0 ∷ []) (no_slip ∷ no_slip ∷ [])
    ∷ untaken (of 0 0x3000 1 ∷ []) 0x3000 (add 0 0x3000 1 ∷ add 0x1000 0x1000 0 ∷ []) (0 ∷ 0 ∷ []) (no_slip ∷ no_slip ∷ [])
    -- 10: no run across two tags
    ∷ untaken (of 0x10000 0x8000 0 ∷ of 0x18000 0x8000 1 ∷ []) 0x10000
    (add 0x10000 0x8000 0 ∷ add 0x18000 0x8000 1 ∷ find 0x8001 1 ∷ find 0x8000 1 ∷ bottom_up ∷ find 0x8001 1 ∷ find 0x8000 1 ∷ []) (0 ∷ 0 ∷ 5 ∷ 0 ∷ 0 ∷ 5 ∷ 0 ∷ [])
    (no_slip ∷ no_slip ∷ zero_slip ∷ gives 0x18000 0x20000 ∷ no_slip ∷ zero_slip ∷ gives 0x10000 0x18000 ∷ [])
    ∷ []
