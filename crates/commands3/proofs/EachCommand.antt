-- What holds of each message: that its command is carried or another, and what holds of the message of every number. Assumes nothing.
use Prim.Native.Nat.{ℕ, ◌/◌, ◌%◌, ◌≤◌}
use mathlib.Core.Path.{◌≡◌, refl, sym}
use mathlib.Core.Logic.{◌⊎◌, inl, inr}
use mathlib.Core.Bool.{true, false}
use mathlib.Core.List.{List}
use native.Mathlib.Omega.{arith}
use lib.ListN.{get_or}
use Rattle.commands.proofs.Tests.{one_of}
use Rattle.commands3.specs.declared.Command.{Command}
use Rattle.commands3.specs.declared.Message.{Message}
use Rattle.commands3.specs.declared.Command.TheVariants.{LlInit, LlInitAck, LlChannelConfig, LlChannelConfigAck, LlStop, LlStopAck, Other}
use Rattle.commands3.specs.Commands.{number_of, alone, config_in, message_of, is_other}

pub carried_or_other : (m : Message) → (is_other m.command ≡ false) ⊎ ((number : ℕ) × (m.command ≡ Other number))
carried_or_other m = by m.command
  where
    by : (c : Command) → (is_other c ≡ false) ⊎ ((number : ℕ) × (c ≡ Other number))
    by (LlInit voltage) = inl refl
    by (LlInitAck result) = inl refl
    by (LlChannelConfig execution channel) = inl refl
    by (LlChannelConfigAck result electrode) = inl refl
    by LlStop = inl refl
    by (LlStopAck result) = inl refl
    by (Other number) = inr (number, refl)

module _ (number : ℕ) (d : List ℕ) (P : Message → Type 0) where
  pub each_read : (number ≡ 0 → P (alone (LlInit (get_or d 0 0 / 2 % 8))))
      → (number ≡ 1 → P (alone (LlInitAck (get_or d 0 0))))
      → (number ≡ 2 → P (config_in d))
      → (number ≡ 3 → P (alone (LlChannelConfigAck (get_or d 0 0) (get_or d 1 0))))
      → (number ≡ 4 → P (alone LlStop))
      → (number ≡ 5 → P (alone (LlStopAck (get_or d 0 0))))
      → P (alone (Other number))
      → P (message_of number d)
  unfolding message_of
  each_read init init-ack config config-ack stop stop-ack other =
      one_of P number 0 _ _ init (one_of P number 1 _ _ init-ack (one_of P number 2 _ _ config (one_of P number 3 _ _ config-ack (one_of P number 4 _ _ stop (one_of P number 5 _ _ stop-ack other)))))

module _ (number : ℕ) (d : List ℕ) where
  -- THEOREM. The message of a number has that number.
  pub number_of_lem : number_of (message_of number d).command ≡ number
  number_of_lem = each_read number d (λ m. number_of m.command ≡ number) sym sym sym sym sym sym refl

  -- THEOREM. Of another command nothing but its number is read.
  pub other_message : is_other (message_of number d).command ≡ true → message_of number d ≡ alone (Other number)
  other_message =
      each_read
      number
      d
      (λ m. is_other m.command ≡ true → m ≡ alone (Other number))
      (λ _ e. cc)
      (λ _ e. cc)
      (λ _ e. cc)
      (λ _ e. cc)
      (λ _ e. cc)
      (λ _ e. cc)
      (λ _. refl)

  -- THEOREM. A message that is read has at most sixteen points.
  pub few_points : (message_of number d).pulse.number ≤ 16
  few_points =
      each_read
      number
      d
      (λ m. m.pulse.number ≤ 16)
      (λ _. omega arith)
      (λ _. omega arith)
      (λ _. omega arith)
      (λ _. omega arith)
      (λ _. omega arith)
      (λ _. omega arith)
      (omega arith)
