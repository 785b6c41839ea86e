-- Document 01, "The machine", Tick.
use Rattle.std.specs.Prelude.{ℕ, ◌+◌, ◌-◌, Bool, cond, ◌&&◌, List, [], ◌∷◌, leb, eqb, get_or}
use Rattle.commands.specs.declared.Setting.{Setting}
use Rattle.commands.specs.Commands.{no_setting}
use Rattle.trace.specs.declared.Record.{Record}
use Rattle.model.specs.declared.Profile.{Profile}
use Rattle.model.specs.declared.Run.{Run}
use Rattle.model.specs.declared.Core.{Core}
use Rattle.model.specs.Below.{each_below}
use Rattle.model.specs.Channels.{silence}
use Rattle.model.specs.Timing.{t1}
use Rattle.model.specs.Slots.{due}
use Rattle.model.specs.State.{State, is_running}
use Rattle.model.specs.Effects.{Done, pulse, tripped}
use Rattle.model.specs.Arrival.{Result}

-- the clock's end
abbrev pub last_clock : ℕ
last_clock = 4294967295

-- the position moves on by one, or returns to 0, where a cycle is added and a waiting update begins to rule; the watchdog count rises
abbrev pub turned : Bool → Run → Run
turned over r =
    record {
      list = r.list;
      settings = cond (over && eqb r.waits 1) r.waiting r.settings;
      waits = cond over 0 r.waits;
      waiting = cond over silence r.waiting;
      position = cond over 0 (r.position + 1);
      cycle = cond over (r.cycle + 1) r.cycle;
      watch = r.watch + 1;
    }

-- returning to 0 after t1 − 1
unfoldable pub moved : Run → Run
moved r = turned (eqb (r.position + 1) (t1 r.list.main)) r

-- holds fall by one, not below 0
abbrev pub aged : Core → Core
aged m = record { holda = m.holda - 1; holdb = m.holdb - 1; state = m.state; run = cond (is_running m) (moved m.run) m.run }

-- channel i's pulse, where it is due
abbrev pub due_pulse : ℕ → Run → ℕ → List Record
due_pulse clock r i =
    let x : Setting = get_or r.settings i no_setting in cond (due r i) (pulse clock i x.width x.current ∷ []) []

-- the pulses due at this position, A before B
unfoldable pub releases : ℕ → Run → List Record
releases clock r = each_below 8 (due_pulse clock r)

-- while running: on reaching the watchdog the box trips and releases nothing, otherwise the pulses due are released
unfoldable pub watched : Profile → ℕ → Core → Done
watched p clock m =
    cond (leb p.watchdog m.run.watch) (tripped clock 2 m) (record { core = m; records = releases clock m.run })

unfoldable pub timed : Profile → ℕ → Core → Done
timed p clock m = cond (is_running m) (watched p clock m) (record { core = m; records = [] })

-- the clock moves on by one; 15 where it is at its end
unfoldable pub tick_step : Profile → State → Result
tick_step p s =
    let d : Done = timed p (s.clock + 1) (aged s.core) in
    cond (eqb s.clock last_clock)
    (record { state = s; answer = 15; reply = 0; records = [] })
    (record { state = record { clock = s.clock + 1; partial = s.partial; core = d.core }; answer = 0; reply = 0; records = d.records })
