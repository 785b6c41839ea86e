-- The content of a packet of the RehaMove3 (source 002, section 2.2): "The packet number and command number combined use 2 Bytes", 6 bits and 10; then
-- the command's data.
use Rattle.std.specs.Prelude.{ℕ, ◌+◌, ◌*◌, ◌/◌, ◌%◌, Bool, ◌&&◌, List, [], ◌∷◌, ◌++◌, leb, get_or, drop}
use Rattle.commands3.specs.declared.Message.{Message}
use Rattle.commands3.specs.declared.Command.TheVariants.{Other}
use Rattle.commands3.specs.Commands.{number_of, data_of, good, alone, message_of, right}

-- two bytes, the high one first
abbrev pub two : ℕ → List ℕ
two n = n / 256 ∷ n % 256 ∷ []

-- ---- writing

unfoldable pub content_of : ℕ → Message → List ℕ
content_of packet m = two (packet * 1024 + number_of m.command) ++ data_of m

-- "The packet number ranges from 0 to 63"
abbrev pub writable : ℕ → Message → Bool
writable packet m = leb packet 63 && good m

-- ---- reading

abbrev pub head_in : List ℕ → ℕ
head_in content = get_or content 0 0 * 256 + get_or content 1 0

abbrev pub packet_in : List ℕ → ℕ
packet_in content = head_in content / 1024

abbrev pub message_in : List ℕ → Message
message_in content = message_of (head_in content % 1024) (drop 2 content)

abbrev pub size_good : ℕ → Bool
size_good size = leb 2 size

abbrev pub content_right : List ℕ → Bool
content_right content = right (head_in content % 1024) (drop 2 content)

abbrev pub no_message : Message
no_message = alone (Other 0)
