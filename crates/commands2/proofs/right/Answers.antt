-- `commands2::right` meets its contract: of a tag but the last the command is no other. Assumes nothing.
use Prim.Native.Nat.{ℕ}
use mathlib.Core.Path.{◌≡◌}
use mathlib.Core.Logic.{inl, inr}
use mathlib.Core.Bool.{false}
use Rattle.commands2.specs.declared.Command.{Command}
use Rattle.commands2.specs.declared.Command.TheVariants.{Other}
use Rattle.commands2.specs.Commands.{is_other, right}
use Rattle.commands2.proofs.EachCommand.{carried_or_other}
use Rattle.commands2.proofs.right.Goals as goal

carried : (c : Command) → ((n : ℕ) → c ≡ Other n → ⊥) → is_other c ≡ false
carried c h = elim (carried_or_other c) [ inl e ↦ e | inr o ↦ absurd (h o.0 o.1) ]

pub returns-in-Other : goal.returns-in-Other
unfolding right
returns-in-Other c = rw c.in-Other.is

pub returns-in_default : goal.returns-in_default
unfolding right
returns-in_default c = rw (carried c.args.c c.in_default.not-Other, c.good.ensures, c.data_size.ensures)
