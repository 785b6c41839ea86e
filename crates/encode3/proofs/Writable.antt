-- What a message is that may be written. Assumes nothing.
use Prim.Native.Nat.{ℕ, ◌≤◌}
use mathlib.Core.Path.{◌≡◌}
use mathlib.Core.Bool.{true, ◌&&◌, false≢true}
use lib.Dec.{leb, lit≤}
use borrow.Author.Tests.{leb-true}
use Rattle.charge.specs.declared.Pulse.{Pulse}
use Rattle.charge.specs.Charge.{pulse_good, charge_of, is_zero}
use Rattle.commands.proofs.Tests.{both}
use Rattle.commands3.specs.declared.Command.{Command}
use Rattle.commands3.specs.declared.Command.TheVariants.{LlInit, LlInitAck, LlChannelConfig, LlChannelConfigAck, LlStop, LlStopAck, Other}
use Rattle.commands3.specs.declared.Message.{Message}
use Rattle.commands3.specs.Commands.{number_of, is_no_pulse, good_for, in_range, good}
use Rattle.commands3.specs.Contents.{writable}

pub writable_parts : (packet : ℕ) (m : Message) → writable packet m ≡ true → (packet ≤ 63) × (good_for m.command m.pulse ≡ true)
writable_parts packet m e =
    let t = both (leb packet 63) (good m) e in (leb-true packet 63 t.0, (both (in_range m) (is_zero (charge_of m.pulse)) t.1).0)

pub number_small : (c : Command) (p : Pulse) → good_for c p ≡ true → number_of c ≤ 5
number_small (LlInit voltage) p e = lit≤ tt
number_small (LlInitAck result) p e = lit≤ tt
number_small (LlChannelConfig execution channel) p e = lit≤ tt
number_small (LlChannelConfigAck result electrode) p e = lit≤ tt
number_small LlStop p e = lit≤ tt
number_small (LlStopAck result) p e = lit≤ tt
number_small (Other number) p e = absurd (false≢true e)

pub voltage_small : (voltage : ℕ) (p : Pulse) → good_for (LlInit voltage) p ≡ true → voltage ≤ 6
voltage_small voltage p e = leb-true voltage 6 (both (leb voltage 6) (is_no_pulse p) e).0

pub config_parts : (execution channel : ℕ) (p : Pulse) → good_for (LlChannelConfig execution channel) p ≡ true → (execution ≤ 1) × (channel ≤ 3) × (pulse_good p ≡ true)
config_parts execution channel p e =
    let t = both (leb execution 1 && leb channel 3) (pulse_good p) e in
    let u = both (leb execution 1) (leb channel 3) t.0 in
    (leb-true execution 1 u.0, leb-true channel 3 u.1, t.1)
