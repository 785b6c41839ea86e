-- How many bytes a content has. Assumes nothing.
use Prim.Native.Nat.{ℕ, ◌≤◌}
use mathlib.Core.Path.{◌≡◌}
use mathlib.Core.Bool.{true, ◌&&◌}
use native.Mathlib.Omega.{arith}
use lib.Dec.{leb, lit≤}
use lib.ListN.{length}
use Rattle.commands.proofs.Tests.{both}
use Rattle.charge.specs.declared.Pulse.{Pulse}
use Rattle.charge.specs.Charge.{pulse_good}
use Rattle.commands3.specs.declared.Command.{Command}
use Rattle.commands3.specs.declared.Message.{Message}
use Rattle.commands3.specs.declared.Command.TheVariants.{LlInit, LlInitAck, LlChannelConfig, LlChannelConfigAck, LlStop, LlStopAck, Other}
use Rattle.commands3.specs.Commands.{data_for, good_for, in_range}
use Rattle.commands3.specs.Contents.{content_of}
use Rattle.commands3.proofs.Configs.{length_config}

length_data_le : (c : Command) (p : Pulse) → good_for c p ≡ true → length (data_for c p) ≤ 65
length_data_le (LlInit voltage) p g = lit≤ tt
length_data_le (LlInitAck result) p g = lit≤ tt
length_data_le (LlChannelConfig execution channel) p g =
    length_config execution channel p (both (leb execution 1 && leb channel 3) (pulse_good p) g).1
length_data_le (LlChannelConfigAck result electrode) p g = lit≤ tt
length_data_le LlStop p g = lit≤ tt
length_data_le (LlStopAck result) p g = lit≤ tt
length_data_le (Other number) p g = lit≤ tt

-- THEOREM. A content has its two numbers' bytes, and at most 67.
pub length_content : (packet : ℕ) (m : Message) → in_range m ≡ true → (2 ≤ length (content_of packet m)) × (length (content_of packet m) ≤ 67)
unfolding content_of
length_content packet m g = let h = length_data_le m.command m.pulse g in (omega arith, omega arith)
