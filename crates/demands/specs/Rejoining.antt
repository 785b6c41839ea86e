-- That demand 3 is not empty: a strict and a lax box, and calls by which the strict one trips and later rejoins, with pulses on both sides.
use Rattle.std.specs.Prelude.{Bool, true, false, ◌≡◌, List, [], ◌∷◌, ◌++◌, replicate}
use Rattle.frames.specs.Bytes.{frame}
use Rattle.trace.specs.declared.Record.{Record}
use Rattle.trace.specs.declared.Record.TheVariants.{Pulse}
use Rattle.model.specs.declared.Profile.{Profile}
use Rattle.model.specs.Profiles.{NowhereLooser}
use Rattle.model.specs.State.{is_tripped, fresh}
use Rattle.model.specs.Machine.{Call, run, after}
use Rattle.outcome.specs.Claims.{pulses_in}
use Rattle.demands.specs.FreshBox.{sent, ticks, loosest, trace}
use Rattle.demands.specs.Cases.{set_to, update_of, init5, update6}

-- at most 35 mA on each channel
abbrev pub strict : Profile
strict = record { currents = replicate 8 35; widths = replicate 8 500; charge = 63500; shortest = 30; watchdog = 250 }

-- the Init of case 5, and an Update that both boxes allow
abbrev pub allowed : List Call
allowed = sent init5 ++ ticks 5 ++ sent (frame (update_of (set_to 0 200 30) (set_to 1 300 30))) ++ ticks 110

-- the Update of case 6 has 40 mA: the strict box trips, the lax one goes on
abbrev pub too_strong : List Call
too_strong = sent update6 ++ ticks 105

-- then the first calls again: by the Init the strict box leaves the tripped state
abbrev pub all_three : List Call
all_three = allowed ++ too_strong ++ allowed

abbrev pub pulses : Profile → List Call → List Record
pulses p cs = pulses_in (trace (run p fresh cs))

abbrev pub is_down : Profile → List Call → Bool
is_down p cs = is_tripped (after p fresh cs).core

pub record Rejoins : Type 0 where
  pub stricter : NowhereLooser strict loosest
  pub trips : is_down strict (allowed ++ too_strong) ≡ true
  pub rejoins : is_down strict all_three ≡ false
  pub lax_runs : is_down loosest (allowed ++ too_strong) ≡ false
  pub strict_pulses : pulses strict all_three ≡ Pulse 100 1 200 30 ∷ Pulse 115 3 300 30 ∷ Pulse 320 1 200 30 ∷ Pulse 335 3 300 30 ∷ []
  pub lax_pulses : pulses loosest all_three
      ≡ Pulse 100 1 200 30 ∷ Pulse 115 3 300 30
      ∷ Pulse 145 3 300 30 ∷ Pulse 200 1 200 40 ∷ Pulse 215 3 300 30
      ∷ Pulse 320 1 200 30 ∷ Pulse 335 3 300 30 ∷ []
