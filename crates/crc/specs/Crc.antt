-- A cyclic redundancy check of k + 1 bits, most significant bit first, bit by bit.
use Rattle.std.specs.Prelude.{ℕ, zero, suc, ◌-◌, ◌*◌, ◌/◌, ◌%◌, ◌^◌, List, [], ◌∷◌}
use Rattle.std.specs.Int.Bits.{bit_xor}

-- one bit: the top bit falls out, the others move up, and where it was set the polynomial is taken off
unfoldable pub bit_step : ℕ → ℕ → ℕ → ℕ
bit_step k poly r = bit_xor (r % 2 ^ k * 2) (r / 2 ^ k * poly)

-- n bits
unfoldable pub bit_steps : ℕ → ℕ → ℕ → ℕ → ℕ
bit_steps zero k poly r = r
bit_steps (suc n) k poly r = bit_steps n k poly (bit_step k poly r)

-- a byte: it is taken into the top eight bits, and eight bits are stepped
unfoldable pub byte_step : ℕ → ℕ → ℕ → ℕ → ℕ
byte_step k poly r b = bit_steps 8 k poly (bit_xor r (b * 2 ^ (k - 7)))

-- a table of the check: for each byte in turn what it leaves of the remainder 0
unfoldable pub entries_from : (ℕ → ℕ) → ℕ → ℕ → List ℕ
entries_from f i zero = []
entries_from f i (suc n) = f i ∷ entries_from f (suc i) n

unfoldable pub table_of : ℕ → ℕ → List ℕ
table_of k poly = entries_from (byte_step k poly 0) 0 256

-- bytes, from the remainder r on
unfoldable pub crc : ℕ → ℕ → ℕ → List ℕ → ℕ
crc k poly r [] = r
crc k poly r (b ∷ bytes) = crc k poly (byte_step k poly r b) bytes

-- source 000, section 2.2: CRC-8, x^8 + x^2 + x + 1, 07 hexadecimal; the remainder is 0 at the start
abbrev pub crc8 : List ℕ → ℕ
crc8 bytes = crc 7 7 0 bytes

-- source 002, section 2.2: "CRC-CCITT 2 Byte (16 Bit)"; request 13: polynomial 1021 hexadecimal; the remainder is 0 at the start
abbrev pub crc16 : List ℕ → ℕ
crc16 bytes = crc 15 4129 0 bytes
