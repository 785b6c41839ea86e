-- Where the check sum starts (request 13): "Its start value is the one under which the example packets of section 7 check."
use Rattle.std.specs.Prelude.{ℕ, ◌+◌, ◌-◌, ◌*◌, ◌<◌, ◌≡◌, List, map, length, get_or, take, drop}
use Rattle.std.specs.Int.Bits.{bit_xor}
use Rattle.crc.specs.Crc.{crc}
use Rattle.stuffing.specs.Stuffing.{stuffing_key}
use Rattle.demands3.specs.Section7.{section7}

-- the check sum that stands in a packet: the third and the fourth pair of its header, the high byte first
abbrev pub check_in : List ℕ → ℕ
check_in p = bit_xor (get_or p 6 0) stuffing_key * 256 + bit_xor (get_or p 8 0) stuffing_key

-- what it covers: all between header and stop
abbrev pub covered_in : List ℕ → List ℕ
covered_in p = take (length p - 10) (drop 9 p)

-- each check sum is that of the bytes it covers, polynomial 1021 hexadecimal
abbrev pub Checks : ℕ → Type 0
Checks start = map (λ (p : List ℕ). crc 15 0x1021 start (covered_in p)) section7 ≡ map check_in section7

pub record StartValue : Type 0 where
  pub checks : Checks 0
  pub only : (start : ℕ) → start < 65536 → Checks start → start ≡ 0
