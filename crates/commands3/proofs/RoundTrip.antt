-- Contents there and back: a message of good values is read from its content as it was, and a content of a carried command that is right is
-- written again byte for byte. Assumes nothing.
use Prim.Native.Nat.{ℕ, ◌+◌, ◌*◌, ◌/◌, ◌%◌, ◌≤◌, ◌<◌}
use mathlib.Core.Path.{◌≡◌, refl, sym, ap₂}
use mathlib.Core.Bool.{true, false, ◌&&◌, or-true}
use mathlib.Core.List.{List, []}
use native.Mathlib.Omega.{arith}
use lib.Dec.{eqb, leb, lit<}
use lib.ListN.{length, get_or, drop}
use lib.Seq.{get_or-drop}
use borrow.Author.Tests.{leb-true, eqb-true, eq-eqb}
use Rattle.commands.proofs.Tests.{both}
use Rattle.charge.specs.declared.Point.{Point}
use Rattle.charge.specs.declared.Pulse.{Pulse}
use Rattle.charge.specs.Charge.{all, is_zero_point, pulse_good}
use Rattle.commands3.specs.declared.Command.{Command}
use Rattle.commands3.specs.declared.Message.{Message}
use Rattle.commands3.specs.declared.Command.TheVariants.{LlInit, LlInitAck, LlChannelConfig, LlChannelConfigAck, LlStop, LlStopAck, Other}
use Rattle.commands3.specs.Points.{points_in}
use Rattle.commands3.specs.Commands.{number_of, data_for, data_of, good_result, good_electrode, is_no_pulse, good_for, in_range, alone, message_of, reserved_clear, is_other, right}
use Rattle.commands3.specs.Contents.{content_of, head_in, packet_in, message_in, size_good, content_right}
use Rattle.commands3.proofs.Fronts.{whole_again}
use Rattle.commands3.proofs.Points.{reads_zeros}
use Rattle.commands3.proofs.Configs.{reads_config, clear_config, writes_config}
use Rattle.commands3.proofs.EachCommand.{each_read, number_of_lem}
use Rattle.commands3.proofs.Heads.{head_of, head_again}

-- ---- writing, then reading

-- a command's number and data read
record DataBack (c : Command) (p : Pulse) : Type 0 where
  below : number_of c < 1024
  clear : reserved_clear (number_of c) (data_for c p) ≡ true
  message : message_of (number_of c) (data_for c p) ≡ record { command = c; pulse = p }

alone_back : (c : Command) (p : Pulse) → length p.points ≡ 16 → is_no_pulse p ≡ true → alone c ≡ record { command = c; pulse = p }
unfolding is_no_pulse points_in
alone_back c p sixteen n =
    let zeros = both (eqb p.number 0) (all is_zero_point p.points) n in
    let points : points_in 16 0 [] ≡ p.points = rw sixteen at (reads_zeros p.points [] zeros.1) in
    ap₂
    (λ (number : ℕ) (l : List Point). record { command = c; pulse = record { number = number; points = l } })
    (sym (eqb-true p.number 0 zeros.0))
    points

init_back : (voltage : ℕ) → voltage ≤ 6 → (voltage * 2 / 2 % 8 ≡ voltage) × ((voltage * 2 / 16 ≡ 0) × (voltage * 2 % 2 ≡ 0))
init_back voltage h = (omega arith, (omega arith, omega arith))

data_back : (c : Command) (p : Pulse) → length p.points ≡ 16 → good_for c p ≡ true → DataBack c p
unfolding message_of reserved_clear
data_back (LlInit voltage) p sixteen g =
    let good = both (leb voltage 6) (is_no_pulse p) g in
    let back = init_back voltage (leb-true voltage 6 good.0) in
    record { below = lit< tt; clear = rw (back.1.0, back.1.1); message = rw back.0 (alone_back (LlInit voltage) p sixteen good.1) }
data_back (LlInitAck result) p sixteen g =
    record { below = lit< tt; clear = refl; message = alone_back (LlInitAck result) p sixteen (both (good_result result) (is_no_pulse p) g).1 }
data_back (LlChannelConfig execution channel) p sixteen g =
    let good = both (leb execution 1 && leb channel 3) (pulse_good p) g in
    let h = leb-true channel 3 (both (leb execution 1) (leb channel 3) good.0).1 in
    record { below = lit< tt; clear = clear_config execution channel p good.1 h sixteen; message = reads_config execution channel p good.1 h sixteen }
data_back (LlChannelConfigAck result electrode) p sixteen g =
    let good = both (good_result result && good_electrode result electrode) (is_no_pulse p) g in
    record { below = lit< tt; clear = refl; message = alone_back (LlChannelConfigAck result electrode) p sixteen good.1 }
data_back LlStop p sixteen g = record { below = lit< tt; clear = refl; message = alone_back LlStop p sixteen g }
data_back (LlStopAck result) p sixteen g =
    record { below = lit< tt; clear = refl; message = alone_back (LlStopAck result) p sixteen (both (good_result result) (is_no_pulse p) g).1 }
data_back (Other number) p sixteen g = absurd (let z : ◌≡◌ {A = ℕ} 0 1 = cc in omega arith)

-- a packet number and a message read from a content
pub record ReadsBack (content : List ℕ) (n : ℕ) (m : Message) : Type 0 where
  pub packet : packet_in content ≡ n
  pub message : message_in content ≡ m
  pub values : content_right content ≡ true

-- THEOREM. A message of good values is read from its content as it was, and the content is right.
pub reads_content : (packet : ℕ) (m : Message) → packet ≤ 63 → in_range m ≡ true → length m.pulse.points ≡ 16
    → ReadsBack (content_of packet m) packet m
unfolding content_of right
reads_content packet m h g sixteen =
    let it = data_back m.command m.pulse sixteen g in
    let head = head_of packet (number_of m.command) (data_of m) it.below in
    record {
      packet = head.0;
      message = rw head.1 it.message;
      values = rw (head.1, it.message, it.clear, g, eq-eqb (length (data_of m)) _ refl) (or-true (is_other m.command));
    }

-- ---- reading, then writing

init_again : (b : ℕ) → b / 16 ≡ 0 → b % 2 ≡ 0 → b / 2 % 8 * 2 ≡ b
init_again b high low = omega arith

module _ (number : ℕ) (d : List ℕ) (byte : (i : ℕ) → get_or d i 0 < 256) (clear : reserved_clear number d ≡ true) where
  data_again : length (data_of (message_of number d)) ≡ length d → data_of (message_of number d) ≡ d
  unfolding reserved_clear
  data_again =
      each_read
      number
      d
      (λ m. length (data_of m) ≡ length d → data_of m ≡ d)
      (λ e.
      let bits = both (eqb (get_or d 0 0 / 16) 0) (eqb (get_or d 0 0 % 2) 0) (rw e at clear) in
      rw (init_again (get_or d 0 0) (eqb-true (get_or d 0 0 / 16) 0 bits.0) (eqb-true (get_or d 0 0 % 2) 0 bits.1)) (whole_again d 1))
      (λ e. whole_again d 1)
      (λ e l. writes_config d byte l (rw e at clear))
      (λ e. whole_again d 2)
      (λ e. whole_again d 0)
      (λ e. whole_again d 1)
      (whole_again d 0)

-- THEOREM. A right content of a carried command has values in their ranges, and is written again byte for byte.
pub writes_content : (content : List ℕ) → ((i : ℕ) → get_or content i 0 < 256)
    → size_good (length content) ≡ true → content_right content ≡ true → is_other (message_in content).command ≡ false
    → (in_range (message_in content) ≡ true) × (content_of (packet_in content) (message_in content) ≡ content)
unfolding content_of right
writes_content content byte size values carried =
    let number = head_in content % 1024 in
    let d = drop 2 content in
    let m = message_in content in
    let long = both (eqb (length (data_of m)) (length d)) (reserved_clear number d && in_range m) (rw carried at values) in
    let good = both (reserved_clear number d) (in_range m) long.1 in
    let again : data_of m ≡ d =
    data_again number d (λ i. rw (get_or-drop 2 content i 0) (byte (2 + i))) good.0 (eqb-true (length (data_of m)) (length d) long.0) in
    (good.1, rw (number_of_lem number d, again) (head_again content byte (leb-true 2 (length content) size)))
