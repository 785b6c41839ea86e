-- Finding packets in a row of bytes (request 12): a start byte straight after a stuffing byte opens no packet, any other opens a new one; a stop byte
-- straight after a stuffing byte closes none, any other closes the open one.
use Rattle.std.specs.Prelude.{ℕ, ◌+◌, ◌-◌, List, [], ◌∷◌, Bool, cond, not, ◌&&◌, eqb, ltb, take, drop, Option, None, Some}
use Rattle.stuffing.specs.Stuffing.{start_byte, stop_byte, stuffing_byte}
use Rattle.framing.specs.declared.Found.{Found}

-- the place of a finished packet's first byte after its start, and the place after its stop; both 0 where no packet is finished
abbrev pub none : Found
none = record { body = 0; used = 0 }

-- does b, straight after prev, open a packet?
unfoldable pub opens : ℕ → ℕ → Bool
opens prev b = not (eqb prev stuffing_byte) && eqb b start_byte

-- does b, straight after prev, close the packet whose body is at place body? 0: none is open
unfoldable pub closes : ℕ → ℕ → ℕ → Bool
closes prev body b = not (eqb prev stuffing_byte) && (eqb b stop_byte && ltb 0 body)

-- the body's place after b at place at
unfoldable pub opened : ℕ → ℕ → ℕ → ℕ → ℕ
opened prev body b at = cond (opens prev b) (at + 1) body

-- the first packet that is finished in bytes from place at on
unfoldable pub scan : ℕ → ℕ → ℕ → List ℕ → Found
scan prev body at [] = none
scan prev body at (b ∷ l) =
    cond (closes prev body b) (record { body = body; used = at + 1 }) (scan b (opened prev body b at) (at + 1) l)

-- in a slice, whose first byte has none before it: 0 stands for that
abbrev pub first_found : List ℕ → Found
first_found s = scan 0 0 0 s

-- what is found, or nothing
abbrev pub finished : Found → Option Found
finished f = cond (eqb f.used 0) None (Some f)

-- all packets that are finished, one after the other
unfoldable pub founds : ℕ → ℕ → ℕ → List ℕ → List Found
founds prev body at [] = []
founds prev body at (b ∷ l) =
    cond (closes prev body b) (record { body = body; used = at + 1 } ∷ founds b 0 (at + 1) l) (founds b (opened prev body b at) (at + 1) l)

-- the last of some bytes, prev where there is none
unfoldable pub last_of : ℕ → List ℕ → ℕ
last_of prev [] = prev
last_of prev (b ∷ l) = last_of b l

-- the bytes between a packet's start and its stop
unfoldable pub body_at : List ℕ → Found → List ℕ
body_at s f = take (f.used - 1 - f.body) (drop f.body s)
