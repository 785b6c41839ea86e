-- The writer of packets of a generation (requests 12 and 13).
use Rattle.std.specs.Prelude.{ℕ, Bool, cond, not, List, [], ◌∷◌, ◌++◌, eqb, ltb, length, drop}
use Rattle.commands.specs.Answers.{◌when◌, first_of}
use Rattle.commands.specs.declared.Wrote.{Wrote}
use Rattle.framing.specs.Packet.{packet_of}
use Rattle.packets.specs.Generation.{Generation}

-- a packet of any content: packet number, command and data
unfoldable pub framed : {C : Type 0} → Generation C → List ℕ → List ℕ
framed g content = packet_of (g.header_of content) content

-- ---- writing the packet p, where its values are good

-- a bad value, or a command that is not carried (4); output too short (16)
abbrev pub write_answer : Bool → List ℕ → List ℕ → ℕ
write_answer good p out = first_of (4 when not good ∷ 16 when ltb (length out) (length p) ∷ [])

unfoldable pub wrote_of : Bool → List ℕ → List ℕ → Wrote
wrote_of good p out = let a : ℕ = write_answer good p out in record { answer = a; used = cond (eqb a 0) (length p) 0 }

-- a success writes only the bytes it reports, a refusal leaves the output
unfoldable pub written_of : Bool → List ℕ → List ℕ → List ℕ
written_of good p out = cond (eqb (write_answer good p out) 0) (p ++ drop (length p) out) out
