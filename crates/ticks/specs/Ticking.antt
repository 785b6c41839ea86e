-- What a tick gives back and leaves of a good box.
use Rattle.std.specs.Prelude.{ℕ, ◌+◌, ◌-◌, cond, [], ◌∷◌, ltb, get_or, Option, None, Some}
use Rattle.commands.specs.declared.Setting.{Setting}
use Rattle.commands.specs.Commands.{no_setting}
use Rattle.model.specs.declared.Run.{Run}
use Rattle.model.specs.declared.Core.{Core}
use Rattle.model.specs.Effects.{Done}
use Rattle.record.specs.declared.Box.{Box}
use Rattle.said.specs.declared.Released.{Released}
use Rattle.said.specs.declared.Records.{Records}
use Rattle.outcome.specs.declared.Stepped.{Stepped}
use Rattle.said.specs.Said.{released, pulse_record, pulse_of, records_of}

-- the partial frame stays
abbrev pub with_core : Box → ℕ → Core → Box
with_core b clock m = record { profile = b.profile; clock = clock; core = m; partial = b.partial; ring = b.ring }

-- holds fall, and no list runs
abbrev pub rested : Core → Core
rested m = record { holda = m.holda - 1; holdb = m.holdb - 1; state = m.state; run = m.run }

unfoldable pub ticked : Box → ℕ → Done → Stepped
ticked b clock d =
    record {
      said = record { answer = 0; reply = 0; a = pulse_of 1 4 d.records; b = pulse_of 5 8 d.records };
      records = records_of d.records;
      next = with_core b clock d.core;
    }

-- the pulse of a channel, which the ring calls i + 1; none where the channel's number is 8
unfoldable pub released_at : ℕ → Run → ℕ → Option Released
released_at clock r i =
    let x : Setting = get_or r.settings i no_setting in cond (ltb i 8) (Some (released clock (i + 1) x.width x.current)) None

-- the records of two pulses, of which each may be none
abbrev pub pulse_records : Option Released → Option Released → Records
pulse_records None None = records_of []
pulse_records None (Some b) = records_of (pulse_record b ∷ [])
pulse_records (Some a) None = records_of (pulse_record a ∷ [])
pulse_records (Some a) (Some b) = records_of (pulse_record a ∷ pulse_record b ∷ [])
