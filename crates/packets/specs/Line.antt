-- A packet among other bytes of a line.
use Rattle.std.specs.Prelude.{ℕ, ◌-◌, ◌≡◌, List, length, take, drop}
use Rattle.stuffing.specs.Stuffing.{stuffing_byte}
use Rattle.framing.specs.Scan.{first_found, last_of}

-- bytes that do not end in a stuffing byte: an F0 behind them opens a packet
abbrev pub Open : List ℕ → Type 0
Open g = last_of 0 g ≡ stuffing_byte → ⊥

-- such bytes in which no packet is finished, so that a reader of them answers 1
pub record Garbage (g : List ℕ) : Type 0 where
  pub unfinished : (first_found g).used ≡ 0
  pub ends : Open g

-- one whole packet and nothing else: its body begins behind the first byte, and its stop is the last
abbrev pub Alone : List ℕ → Type 0
Alone p = first_found p ≡ record { body = 1; used = length p }

-- the bytes of the first finished packet, from its start to its stop
abbrev pub packet_at : List ℕ → List ℕ
packet_at s = take ((first_found s).used - ((first_found s).body - 1)) (drop ((first_found s).body - 1) s)
