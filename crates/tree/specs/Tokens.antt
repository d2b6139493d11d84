-- A structure block as tokens (Devicetree Specification, 5.4). Assumes nothing.
use Rattle.std.specs.Prelude.{ℕ, zero, suc, ◌+◌, ◌*◌, ◌-◌, ◌/◌, Bool, cond, ◌&&◌, List, [], ◌∷◌, leb, ltb, eqb, length, drop, take}
use Rattle.tree.specs.Words.{word}

-- the bytes before the first zero byte; whether there is one
unfoldable pub to_zero : List ℕ → List ℕ
to_zero [] = []
to_zero (zero ∷ l) = []
to_zero (suc b ∷ l) = suc b ∷ to_zero l

abbrev pub zero_ended : List ℕ → Bool
zero_ended l = ltb (length (to_zero l)) (length l)

pub data Token : Type 0 where
  begin : List ℕ → Token  -- a node begins: its name
  end : Token  -- a node ends
  property : ℕ → List ℕ → Token  -- a property: where its name begins in the strings block, and its value
  nop : Token  -- no operation
  stop : Token  -- the end token
  broken : Token  -- no whole token

-- by the bytes behind the token's number: a name and its zero byte
unfoldable pub begin_of : List ℕ → Token
begin_of l = cond (zero_ended l) (begin (to_zero l)) broken

-- the length of a value, the place of a name in the strings block, the value; at the first `names` places begins a name that ends inside that block
unfoldable pub property_of : ℕ → List ℕ → Token
property_of names l =
    cond (leb 8 (length l) && (leb (word l) (length l - 8) && ltb (word (drop 4 l)) names))
    (property (word (drop 4 l)) (take (word l) (drop 8 l))) broken

unfoldable pub plain_of : ℕ → Token
plain_of w = cond (eqb w 2) end (cond (eqb w 4) nop (cond (eqb w 9) stop broken))

unfoldable pub token_of : ℕ → ℕ → List ℕ → Token
token_of names w l = cond (eqb w 1) (begin_of l) (cond (eqb w 3) (property_of names l) (plain_of w))

-- the token at the front of l
unfoldable pub token : ℕ → List ℕ → Token
token names l = cond (leb 4 (length l)) (token_of names (word l) (drop 4 l)) broken

-- n bytes and what pads them to a multiple of 4
abbrev pub padded : ℕ → ℕ
padded n = (n + 3) / 4 * 4

-- the bytes that a token takes, padding included
unfoldable pub size : Token → ℕ
size (begin name) = 4 + padded (length name + 1)
size end = 4
size (property at value) = 12 + padded (length value)
size nop = 4
size stop = 4
size broken = 4

-- one token behind the other, up to the end of l; n is at least as many as there are
unfoldable pub tokens_up_to : ℕ → ℕ → List ℕ → List Token
tokens_up_to names zero l = []
tokens_up_to names (suc n) [] = []
tokens_up_to names (suc n) (b ∷ l) = token names (b ∷ l) ∷ tokens_up_to names n (drop (size (token names (b ∷ l))) (b ∷ l))

abbrev pub tokens : ℕ → List ℕ → List Token
tokens names l = tokens_up_to names (length l) l
