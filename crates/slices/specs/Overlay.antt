-- Bytes put to the start of an output, as far as it has room for them.
use Rattle.std.specs.Prelude.{ℕ, List, ◌++◌, length, take, drop}

unfoldable pub overlay : List ℕ → List ℕ → List ℕ
overlay bytes out = take (length out) bytes ++ drop (length bytes) out
