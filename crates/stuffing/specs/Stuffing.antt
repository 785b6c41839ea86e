-- Byte stuffing (source 000, section 2.2; source 002 has the same).
use Rattle.std.specs.Prelude.{ℕ, List, [], ◌∷◌, ◌++◌, Bool, false, not, cond, ◌&&◌, ◌||◌, eqb}
use Rattle.std.specs.Int.Bits.{bit_xor}

-- Table 6, "Byte constants": F0, 0F, 81, 55
abbrev pub start_byte : ℕ
start_byte = 240

abbrev pub stop_byte : ℕ
stop_byte = 15

abbrev pub stuffing_byte : ℕ
stuffing_byte = 129

abbrev pub stuffing_key : ℕ
stuffing_key = 85

-- "Every constant from Table 6, except the stuffing key, is escaped with the stuffing byte from the same table."
unfoldable pub special : ℕ → Bool
special b = eqb b start_byte || (eqb b stop_byte || eqb b stuffing_byte)

unfoldable pub any_special : List ℕ → Bool
any_special [] = false
any_special (b ∷ l) = special b || any_special l

-- "The value is then XORed with the stuffing key."
abbrev pub pair : ℕ → List ℕ
pair b = stuffing_byte ∷ bit_xor b stuffing_key ∷ []

unfoldable pub stuffed_byte : ℕ → List ℕ
stuffed_byte b = cond (special b) (pair b) (b ∷ [])

unfoldable pub stuffed : List ℕ → List ℕ
stuffed [] = []
stuffed (b ∷ l) = stuffed_byte b ++ stuffed l

-- bytes that are always stuffed
unfoldable pub pairs : List ℕ → List ℕ
pairs [] = []
pairs (b ∷ l) = pair b ++ pairs l

-- ---- reading them back, byte by byte; after: the byte before opened a pair

unfoldable pub opens_pair : Bool → ℕ → Bool
opens_pair after b = not after && eqb b stuffing_byte

-- a byte that the writer would not make: the second of a pair that stands for no constant, or a constant outside a pair
unfoldable pub wrong_in : Bool → ℕ → Bool
wrong_in after b = cond after (not (special (bit_xor b stuffing_key))) (special b && not (eqb b stuffing_byte))

-- are these bytes as the writer makes them?
unfoldable pub pairs_good : Bool → List ℕ → Bool
pairs_good after [] = not after
pairs_good after (b ∷ l) = not (wrong_in after b) && pairs_good (opens_pair after b) l

-- what a byte stands for
unfoldable pub plain_of : Bool → ℕ → List ℕ
plain_of after b = cond after (bit_xor b stuffing_key ∷ []) (cond (eqb b stuffing_byte) [] (b ∷ []))

unfoldable pub unstuffed : Bool → List ℕ → List ℕ
unstuffed after [] = []
unstuffed after (b ∷ l) = plain_of after b ++ unstuffed (opens_pair after b) l
