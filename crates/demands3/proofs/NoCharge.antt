-- No written pulse has a net charge. Assumes nothing.
use Prim.Native.Nat.{ℕ}
use mathlib.Core.Path.{◌≡◌, refl, ap, ◌∙◌}
use mathlib.Core.List.{List}
use lib.IntN.{pos}
use lib.ListN.{length}
use Rattle.packets.specs.Reader.{Reading, reading}
use Rattle.packets.specs.Line.{packet_at}
use Rattle.packets.proofs.Readings.{read_found, read_ways}
use Rattle.packets.proofs.Content.{framed_one}
use Rattle.packets.proofs.WritesBack.{content_in, framed_is}
use Rattle.charge.specs.Charge.{net_of, charge_of}
use Rattle.commands3.specs.declared.Message.{Message}
use Rattle.commands3.specs.Contents.{content_of, message_in}
use Rattle.commands3.proofs.RoundTrip.{reads_content}
use Rattle.packets3.specs.Rehamove3.{rehamove3}
use Rattle.packets3.specs.Writer.{packet_bytes}
use Rattle.packets3.proofs.Lawful.{lawful}
use Rattle.demands3.specs.NoCharge.{NoCharge}
use Rattle.demands3.proofs.Writable.{Writable, written_parts, lacking_refused}

module _ (packet : ℕ) (m : Message) (sixteen : length m.pulse.points ≡ 16) (w : Writable packet m) (s out : List ℕ)
    (same : packet_at s ≡ packet_bytes packet m) where
  -- a packet with the same bytes stands for the same message
  read_message : (reading rehamove3 s (length out)).answer ≡ 0 → message_in (content_in rehamove3 s) ≡ m
  read_message done =
      let one = framed_one rehamove3 lawful (content_in rehamove3 s) (content_of packet m) (framed_is rehamove3 lawful s out done ∙ same) in
      ap message_in one ∙ (reads_content packet m w.number w.values sixteen).message

  none_read : charge_of (reading rehamove3 s (length out)).command.pulse ≡ pos 0
  unfolding net_of
  none_read =
      read_ways rehamove3 (λ r o. charge_of r.command.pulse ≡ pos 0) s out
      (λ _. refl)
      (λ some passed.
      let done = ap (λ (r : Reading Message). r.answer) (read_found rehamove3 s out some passed) in
      ap (λ (x : Message). charge_of x.pulse) (read_message done) ∙ w.charge)
      (λ _ _. refl)

pub no_charge : NoCharge
no_charge =
    record {
      written = λ packet m out done. (written_parts packet m out done).charge;
      refused = λ packet m out n. lacking_refused packet m out (λ w. n w.charge);
      read = λ packet m sixteen to done. none_read packet m sixteen (written_parts packet m to done);
    }
