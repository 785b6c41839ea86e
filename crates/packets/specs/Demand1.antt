-- Demand 1 on packets of any generation: any bytes, commands and outputs get a defined answer, which is that reader and writer are functions here; no
-- byte of the output changes but those that are reported, and a refusal, with whatever answer, changes none and reports nothing.
use Rattle.std.specs.Prelude.{ℕ, Bool, true, ◌≡◌, List, [], ◌∷◌, length, drop}
use Rattle.commands.specs.Answers.{is_one_of}
use Rattle.packets.specs.Generation.{Generation}
use Rattle.packets.specs.Reader.{refused, reading, data_put}
use Rattle.packets.specs.Writer.{wrote_of, written_of}

-- the reader of the bytes s into the output out
pub record ReaderKeeps {C : Type 0} (g : Generation C) (s out : List ℕ) : Type 0 where
  pub size : length (data_put g s out) ≡ length out
  pub past : drop (reading g s (length out)).size (data_put g s out) ≡ drop (reading g s (length out)).size out
  pub leaves : ((reading g s (length out)).answer ≡ 0 → ⊥) → data_put g s out ≡ out
  -- all zero but the answer and, for 3 and 4, the bytes used
  pub zeros : ((reading g s (length out)).answer ≡ 0 → ⊥)
      → reading g s (length out) ≡ refused g (reading g s (length out)).answer (reading g s (length out)).used
  pub unused : is_one_of (1 ∷ 16 ∷ []) (reading g s (length out)).answer ≡ true → (reading g s (length out)).used ≡ 0

-- the writer of the packet p, where its values are good, into the output out
pub record WriterKeeps (good : Bool) (p out : List ℕ) : Type 0 where
  pub size : length (written_of good p out) ≡ length out
  pub past : drop (wrote_of good p out).used (written_of good p out) ≡ drop (wrote_of good p out).used out
  pub leaves : ((wrote_of good p out).answer ≡ 0 → ⊥) → written_of good p out ≡ out
  pub unused : ((wrote_of good p out).answer ≡ 0 → ⊥) → (wrote_of good p out).used ≡ 0
