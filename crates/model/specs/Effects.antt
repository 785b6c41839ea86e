-- Document 01, "The machine": what a judged command leaves, and the records that it releases behind its 01.
use Rattle.std.specs.Prelude.{ℕ, ◌+◌, cond, List, [], ◌∷◌, ltb, eqb}
use Rattle.commands.specs.declared.Init.{Init}
use Rattle.commands.specs.declared.Setting.{Setting}
use Rattle.commands.specs.Commands.{Command, Command.init, Command.update, Command.stop, Command.single}
use Rattle.trace.specs.declared.Record.{Record}
use Rattle.trace.specs.declared.Record.TheVariants.{Pulse, Trip}
use Rattle.model.specs.declared.Run.{Run}
use Rattle.model.specs.declared.Core.{Core}
use Rattle.model.specs.Channels.{silence}
use Rattle.model.specs.Slots.{felt}
use Rattle.model.specs.State.{still}
use Rattle.model.specs.Judgement.{asked}

pub record Done : Type 0 where
  pub core : Core
  pub records : List Record

-- the pulse of channel i, which the ring calls i + 1
abbrev pub pulse : ℕ → ℕ → ℕ → ℕ → Record
pulse clock i width current = Pulse clock (i + 1) width current

-- a trip keeps the holds; its causes are 1, a limit, and 2, the watchdog
abbrev pub trip : Core → Core
trip m = record { holda = m.holda; holdb = m.holdb; state = 2; run = still }

abbrev pub tripped : ℕ → ℕ → Core → Done
tripped clock cause m = record { core = trip m; records = Trip clock cause ∷ [] }

abbrev pub with_run : Core → Run → Core
with_run m r = record { holda = m.holda; holdb = m.holdb; state = m.state; run = r }

-- every finished frame with a right check sets the watchdog count to 0
abbrev pub fed : Run → Run
fed r =
    record { list = r.list; settings = r.settings; waits = r.waits; waiting = r.waiting; position = r.position; cycle = r.cycle; watch = 0 }

-- an accepted Init: position 0, cycle 0, settings all zero, no waiting update
abbrev pub started : Init → Run
started v = record { list = v; settings = silence; waits = 0; waiting = silence; position = 0; cycle = 0; watch = 0 }

-- an accepted Update waits, replacing an earlier one
abbrev pub waited : Run → List Setting → Run
waited r settings =
    record { list = r.list; settings = r.settings; waits = 1; waiting = settings; position = r.position; cycle = r.cycle; watch = 0 }

-- zero width or current releases nothing
unfoldable pub accept : ℕ → Core → Command → Done
accept clock m (init v) = record { core = record { holda = 15; holdb = 15; state = 1; run = started v }; records = [] }
accept clock m (update count entries) = record { core = with_run m (waited m.run (asked m (update count entries))); records = [] }
accept clock m stop = record { core = record { holda = 15; holdb = 15; state = 0; run = still }; records = [] }
accept clock m (single v) =
    record {
      core = record { holda = cond (ltb v.channel 4) 15 m.holda; holdb = cond (ltb v.channel 4) m.holdb 15; state = m.state; run = fed m.run };
      records = cond (felt v.width v.current) (pulse clock v.channel v.width v.current ∷ []) [];
    }

-- not carried out: 9 trips the box; else the frame is dropped, and any answer but 3 feeds the watchdog
abbrev pub dropped : ℕ → Core → ℕ → Done
dropped clock m answer =
    cond (eqb answer 9) (tripped clock 1 m) (record { core = cond (eqb answer 3) m (with_run m (fed m.run)); records = [] })

unfoldable pub carry : ℕ → Core → Command → ℕ → Done
carry clock m c answer = cond (eqb answer 0) (accept clock m c) (dropped clock m answer)
