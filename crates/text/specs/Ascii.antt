-- The bytes of an ASCII text.
-- Assumes nothing.
use Rattle.std.specs.Prelude.{ℕ, List, [], ◌∷◌}
use Prim.Native.Char.{code}
use Prim.Native.String.{String, [] as none, ◌∷◌ as first}

unfoldable pub ascii : String → List ℕ
ascii none = []
ascii (first c cs) = code c ∷ ascii cs
