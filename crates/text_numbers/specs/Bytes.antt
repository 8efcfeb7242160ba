-- Text as bytes.
use Rattle.std.specs.Prelude.{ℕ, List, [], ◌∷◌}
use Prim.Native.Char.{code}
use Prim.Native.String.{String, [] as none, ◌∷◌ as ◌then◌}

abbrev pub Bytes : Type 0
Bytes = List ℕ

-- the bytes of a text of ASCII characters
abbrev pub ascii : String → Bytes
ascii none = []
ascii (c then s) = code c ∷ ascii s

abbrev pub line_feed : ℕ
line_feed = 10

abbrev pub space : ℕ
space = 32
