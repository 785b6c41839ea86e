-- Bytes stored in an output from a place on, whole or not at all.
use Rattle.std.specs.Prelude.{ℕ, ◌+◌, Bool, cond, List, leb, length, Option, Some, None}
use Rattle.std.proofs.lemmas.List.Edits.{sets}

-- n bytes have room from a place on
abbrev pub has_room : List ℕ → ℕ → ℕ → Bool
has_room out at n = leb (at + n) (length out)

-- what is there then
unfoldable pub stored_in : List ℕ → ℕ → List ℕ → List ℕ
stored_in out at bytes = cond (has_room out at (length bytes)) (sets out at bytes) out

-- the place behind them, if there is room for all
unfoldable pub placed : List ℕ → ℕ → List ℕ → Option ℕ
placed out at bytes = cond (has_room out at (length bytes)) (Some (at + length bytes)) None
