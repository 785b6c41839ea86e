-- What holds of each command: that it is carried or another, and what holds of the command of every number. Assumes nothing.
use Prim.Native.Nat.{ℕ}
use mathlib.Core.Path.{◌≡◌, refl}
use mathlib.Core.Logic.{◌⊎◌, inl, inr}
use mathlib.Core.Bool.{false}
use mathlib.Core.List.{List}
use lib.ListN.{get_or}
use Rattle.commands.proofs.Tests.{one_of}
use Rattle.commands2.specs.declared.Command.{Command}
use Rattle.commands2.specs.declared.Command.TheVariants.{Init, InitAck, UnknownCommand, Watchdog, GetStimulationMode, GetStimulationModeAck, InitChannelListMode, InitChannelListModeAck, Other}
use Rattle.commands2.specs.Results.{signed_of}
use Rattle.commands2.specs.Commands.{command_of, list_in, is_other}

pub carried_or_other : (c : Command) → (is_other c ≡ false) ⊎ ((n : ℕ) × (c ≡ Other n))
carried_or_other (Init version) = inl refl
carried_or_other (InitAck result) = inl refl
carried_or_other (UnknownCommand echo) = inl refl
carried_or_other Watchdog = inl refl
carried_or_other GetStimulationMode = inl refl
carried_or_other (GetStimulationModeAck result mode) = inl refl
carried_or_other (InitChannelListMode list) = inl refl
carried_or_other (InitChannelListModeAck result) = inl refl
carried_or_other (Other number) = inr (number, refl)

module _ (number : ℕ) (d : List ℕ) (P : Command → Type 0) where
  pub each_read : (number ≡ 1 → P (Init (get_or d 0 0)))
      → (number ≡ 2 → P (InitAck (signed_of (get_or d 0 0))))
      → (number ≡ 3 → P (UnknownCommand (get_or d 0 0)))
      → (number ≡ 4 → P Watchdog)
      → (number ≡ 10 → P GetStimulationMode)
      → (number ≡ 11 → P (GetStimulationModeAck (signed_of (get_or d 0 0)) (get_or d 1 0)))
      → (number ≡ 30 → P (InitChannelListMode (list_in d)))
      → (number ≡ 31 → P (InitChannelListModeAck (signed_of (get_or d 0 0))))
      → P (Other number)
      → P (command_of number d)
  unfolding command_of
  each_read init init-ack unknown watchdog mode mode-ack list list-ack other =
      one_of P number 1 _ _ init
      (one_of P number 2 _ _ init-ack
      (one_of P number 3 _ _ unknown
      (one_of P number 4 _ _ watchdog
      (one_of P number 10 _ _ mode (one_of P number 11 _ _ mode-ack (one_of P number 30 _ _ list (one_of P number 31 _ _ list-ack other)))))))
