-- Document 01, "The machine": states, and a fresh box.
use Rattle.std.specs.Prelude.{ℕ, zero, suc, Bool, true, false, List, []}
use Rattle.frames.specs.Reader.{no_init}
use Rattle.model.specs.declared.Run.{Run}
use Rattle.model.specs.declared.Core.{Core}
use Rattle.model.specs.Channels.{silence}

-- a partial frame: its bytes so far, and the length that it will have; length 0 where no frame is open
pub record Partial : Type 0 where
  pub bytes : List ℕ
  pub size : ℕ

abbrev pub no_frame : Partial
no_frame = record { bytes = []; size = 0 }

pub record State : Type 0 where
  pub clock : ℕ
  pub partial : Partial
  pub core : Core

-- by state: 0 idle, 1 running, 2 tripped; a good record has no number above, which counts as tripped
abbrev pub by_state {ℓ} : {A : Type ℓ} → ℕ → A → A → A → A
by_state zero when_idle when_running when_tripped = when_idle
by_state (suc zero) when_idle when_running when_tripped = when_running
by_state (suc (suc n)) when_idle when_running when_tripped = when_tripped

abbrev pub is_running : Core → Bool
is_running m = by_state m.state false true false

abbrev pub is_tripped : Core → Bool
is_tripped m = by_state m.state false false true

-- Whenever the box is not running, list, settings, waiting update, position, cycle and watchdog count are zero
abbrev pub still : Run
still = record { list = no_init; settings = silence; waits = 0; waiting = silence; position = 0; cycle = 0; watch = 0 }

-- A fresh box is idle at clock 0, no hold, no frame open
abbrev pub fresh : State
fresh = record { clock = 0; partial = no_frame; core = record { holda = 0; holdb = 0; state = 0; run = still } }
