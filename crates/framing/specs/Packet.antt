-- A packet on the line (source 000, table 5; source 002 has the same): the start byte, a header whose bytes are always stuffed, a content whose bytes
-- are stuffed where they must be, the stop byte.
use Rattle.std.specs.Prelude.{ℕ, cond, List, [], ◌∷◌, ◌++◌, Option, None, Some, eqb, leb, length, drop}
use Rattle.stuffing.specs.Stuffing.{start_byte, stop_byte, pairs, stuffed}

unfoldable pub body_of : List ℕ → List ℕ → List ℕ
body_of header content = pairs header ++ stuffed content

unfoldable pub packet_of : List ℕ → List ℕ → List ℕ
packet_of header content = start_byte ∷ body_of header content ++ stop_byte ∷ []

-- writing it: how many bytes, 0 where the output is too short
unfoldable pub size_written : List ℕ → List ℕ → List ℕ → ℕ
size_written out header content = cond (leb (length (packet_of header content)) (length out)) (length (packet_of header content)) 0

-- the same with nothing in place of 0
abbrev pub some_size : ℕ → Option ℕ
some_size n = cond (eqb n 0) None (Some n)

-- and what it leaves of the output
unfoldable pub written_to : List ℕ → List ℕ → List ℕ → List ℕ
written_to out header content =
    cond (leb (length (packet_of header content)) (length out)) (packet_of header content ++ drop (length (packet_of header content)) out) out
