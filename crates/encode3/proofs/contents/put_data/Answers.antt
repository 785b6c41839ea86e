-- `encode3::contents::put_data` meets its contract. Assumes nothing.
use Prim.Native.Nat.{ℕ, ◌≤◌}
use mathlib.Core.Path.{◌≡◌}
use mathlib.Core.Bool.{true}
use native.Mathlib.Omega.{arith}
use Rattle.charge.specs.Charge.{pulse_good}
use Rattle.charge.proofs.Theorems.{good_pulse_lem, few_points, length_points, paper_points}
use Rattle.commands3.specs.declared.Command.TheVariants.{LlChannelConfig}
use Rattle.commands3.specs.declared.Message.{Message}
use Rattle.commands3.specs.Commands.{good_for}
use Rattle.encode3.proofs.Writable.{config_parts}
use Rattle.encode3.proofs.contents.put_data.Goals as goal

config_at : (execution channel : ℕ) (m : Message) → good_for m.command m.pulse ≡ true → m.command ≡ LlChannelConfig execution channel
    → (execution ≤ 1) × (channel ≤ 3) × (pulse_good m.pulse ≡ true)
config_at execution channel m g e = config_parts execution channel m.pulse (rw e at g)

pub first_byte-requires : goal.first_byte-requires
first_byte-requires c =
    let m = c.args.m in
    let g = config_at _ _ m c.requires.1 c.in-LlChannelConfig.is in
    let p = good_pulse_lem m.pulse g.2 in
    (g.0, g.1, p.some, p.few)

pub shared_ref_as_front-put_points : goal.shared_ref_as_front-put_points
shared_ref_as_front-put_points c =
    let m = c.args.m in few_points m.pulse (config_at _ _ m c.requires.1 c.in-LlChannelConfig.is).2

pub put_points-requires : goal.put_points-requires
put_points-requires c =
    let m = c.args.m in
    let g = (config_at _ _ m c.requires.1 c.in-LlChannelConfig.is).2 in
    (omega arith, length_points m.pulse g, paper_points m.pulse g)
