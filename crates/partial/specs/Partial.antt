-- The partial frame of a box record (document 01, "The machine"): the machine's partial frame that it carries, and its bytes not in use.
use Rattle.std.specs.Prelude.{ℕ, ◌-◌, Bool, true, ◌&&◌, List, [], ◌∷◌, ◌++◌, leb, eqb, length, take, drop, replicate}
use Rattle.model.specs.State.{Partial}
use Rattle.partial.specs.declared.PartialFrame.{PartialFrame}

-- the bytes in use
abbrev pub partial_of : PartialFrame → Partial
partial_of q = record { bytes = take q.len q.bytes; size = q.kept }

-- the record that carries a partial frame: bytes not in use are zero
abbrev pub filled : List ℕ → List ℕ
filled bytes = bytes ++ replicate (25 - length bytes) 0

unfoldable pub frame_of : Partial → PartialFrame
frame_of q = record { bytes = filled q.bytes; len = length q.bytes; kept = q.size }

unfoldable pub zeros : List ℕ → Bool
zeros [] = true
zeros (b ∷ bytes) = eqb b 0 && zeros bytes

-- at most 25 bytes are in use, and the others are zero
unfoldable pub unused_zero : PartialFrame → Bool
unused_zero q = leb q.len 25 && zeros (drop q.len q.bytes)
