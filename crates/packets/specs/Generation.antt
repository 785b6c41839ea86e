-- What a generation of ScienceMode says of its packets: RehaStim2 (source 000) and RehaMove3 (source 002) have start, stop and stuffing in common.
use Rattle.std.specs.Prelude.{ℕ, Bool, List}

pub record Generation (C : Type 0) : Type 0 where
  -- writing: the bytes of the header, which are always stuffed, before a content of packet number, command and data
  pub header_of : List ℕ → List ℕ
  -- reading a body, which stands between start and stop: so many bytes of header, its checksum and its length
  pub header : ℕ
  pub check_right : List ℕ → Bool
  pub length_right : List ℕ → Bool
  -- reading the content that stands behind the header: how many bytes it may have, what it says, and whether that is good
  pub size_good : ℕ → Bool
  pub packet_in : List ℕ → ℕ
  pub command_in : List ℕ → C
  pub right : List ℕ → Bool
  -- what is handed back for a command where no packet was read
  pub no_command : C
  -- data has at most so many bytes
  pub longest : ℕ
