-- What a generation's header, checksum and length have to do with each other.
use Rattle.std.specs.Prelude.{ℕ, ◌≤◌, true, false, ◌≡◌, List, length}
use Rattle.stuffing.specs.Stuffing.{stuffed, pairs_good}
use Rattle.framing.specs.Packet.{body_of}
use Rattle.packets.specs.Generation.{Generation}
use Rattle.packets.specs.Reader.{plain, data_in, covered}

-- what stands between start and stop of a content's packet
abbrev pub body_for : {C : Type 0} → Generation C → List ℕ → List ℕ
body_for g content = body_of (g.header_of content) content

pub record Lawful {C : Type 0} (g : Generation C) : Type 0 where
  -- behind the header that the writer makes stands the content, stuffed, and the checksum is right
  pub covered_for : (content : List ℕ) → covered g (body_for g content) ≡ stuffed content
  pub check_for : (content : List ℕ) → g.check_right (body_for g content) ≡ true
  -- header and stuffing leave no choice: a body that passes is the one that the writer makes of what it stands for
  pub made_again : (body : List ℕ) → g.check_right body ≡ true → g.length_right body ≡ true → pairs_good false (covered g body) ≡ true
      → body_for g (plain (covered g body)) ≡ body
  pub short_data : (body : List ℕ) → g.length_right body ≡ true → g.size_good (length (plain (covered g body))) ≡ true
      → length (data_in (covered g body)) ≤ g.longest
