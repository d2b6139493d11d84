-- Where each value of a structure block stands (E9). Assumes nothing.
use Rattle.std.specs.Prelude.{ℕ, ◌+◌, List, [], ◌∷◌, length}
use Rattle.tree.specs.Tokens.{Token, begin, end, property, nop, stop, broken, size}

-- a token that begins at `at`: a value is told by where it begins and how long it is, instead of by its bytes
abbrev pub placed : ℕ → Token → Token
placed at (begin name) = begin name
placed at end = end
placed at (property name value) = property name ((at + 12) ∷ length value ∷ [])
placed at nop = nop
placed at stop = stop
placed at broken = broken

-- each of a list of tokens, the first of which begins at `at`
unfoldable pub located : ℕ → List Token → List Token
located at [] = []
located at (t ∷ ts) = placed at t ∷ located (at + size t) ts
