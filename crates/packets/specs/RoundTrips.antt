-- Demand 2 on packets of any generation: what is read of a packet that was written.
use Rattle.std.specs.Prelude.{ℕ, ◌≡◌, List, ◌++◌, length, drop}
use Rattle.packets.specs.Generation.{Generation}
use Rattle.packets.specs.Reader.{reading, data_put}

-- of the bytes s that packet is read with this command; to the stop it is used, and the data is put out
pub record ReadBack {C : Type 0} (g : Generation C) (s : List ℕ) (used packet : ℕ) (c : C) (d out : List ℕ) : Type 0 where
  pub same : reading g s (length out) ≡ record { answer = 0; used = used; packet = packet; command = c; size = length d }
  pub put : data_put g s out ≡ d ++ drop (length d) out

-- bytes behind a packet do not matter: unless none was finished, more bytes change nothing
abbrev pub RestUnused : {C : Type 0} → Generation C → Type 0
RestUnused g =
    (s rest out : List ℕ) → ((reading g s (length out)).answer ≡ 1 → ⊥)
    → (reading g (s ++ rest) (length out) ≡ reading g s (length out)) × (data_put g (s ++ rest) out ≡ data_put g s out)
