-- The names and values that a board's tree is asked for, as bytes. Assumes nothing.
use Rattle.std.specs.Prelude.{ℕ, List, [], ◌∷◌}

-- #address-cells
abbrev pub address_cells : List ℕ
address_cells = 35 ∷ 97 ∷ 100 ∷ 100 ∷ 114 ∷ 101 ∷ 115 ∷ 115 ∷ 45 ∷ 99 ∷ 101 ∷ 108 ∷ 108 ∷ 115 ∷ []

-- #size-cells
abbrev pub size_cells : List ℕ
size_cells = 35 ∷ 115 ∷ 105 ∷ 122 ∷ 101 ∷ 45 ∷ 99 ∷ 101 ∷ 108 ∷ 108 ∷ 115 ∷ []

-- device_type
abbrev pub device_type : List ℕ
device_type = 100 ∷ 101 ∷ 118 ∷ 105 ∷ 99 ∷ 101 ∷ 95 ∷ 116 ∷ 121 ∷ 112 ∷ 101 ∷ []

-- memory and its zero byte
abbrev pub memory : List ℕ
memory = 109 ∷ 101 ∷ 109 ∷ 111 ∷ 114 ∷ 121 ∷ 0 ∷ []

-- reg
abbrev pub reg : List ℕ
reg = 114 ∷ 101 ∷ 103 ∷ []

-- numa-node-id
abbrev pub numa_node_id : List ℕ
numa_node_id = 110 ∷ 117 ∷ 109 ∷ 97 ∷ 45 ∷ 110 ∷ 111 ∷ 100 ∷ 101 ∷ 45 ∷ 105 ∷ 100 ∷ []

-- reserved-memory
abbrev pub reserved_memory : List ℕ
reserved_memory = 114 ∷ 101 ∷ 115 ∷ 101 ∷ 114 ∷ 118 ∷ 101 ∷ 100 ∷ 45 ∷ 109 ∷ 101 ∷ 109 ∷ 111 ∷ 114 ∷ 121 ∷ []

-- no-map
abbrev pub no_map : List ℕ
no_map = 110 ∷ 111 ∷ 45 ∷ 109 ∷ 97 ∷ 112 ∷ []
