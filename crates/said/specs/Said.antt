-- What a call gives back, by value: its answer and reply, a pulse of module A and one of module B, and its records.
use Rattle.std.specs.Prelude.{ℕ, cond, List, [], ◌∷◌, Option, None, Some}
use Rattle.commands.specs.Ranges.{within}
use Rattle.trace.specs.declared.Record.{Record}
use Rattle.trace.specs.declared.Record.TheVariants.{Answer, Pulse, Trip}
use Rattle.model.specs.Arrival.{Result}
use Rattle.said.specs.declared.Released.{Released}
use Rattle.said.specs.declared.Said.{Said}
use Rattle.said.specs.declared.Records.{Records}
use Rattle.said.specs.declared.Records.TheVariants.{Empty, One, Two}

-- no pulse
abbrev pub nothing : Released
nothing = record { clock = 0; channel = 0; width = 0; current = 0 }

-- a pulse that may be missing, as it is handed back
abbrev pub shown : Option Released → Released
shown None = nothing
shown (Some x) = x

abbrev pub released : ℕ → ℕ → ℕ → ℕ → Released
released clock channel width current = record { clock = clock; channel = channel; width = width; current = current }

-- its record
abbrev pub pulse_record : Released → Record
pulse_record x = Pulse x.clock x.channel x.width x.current

-- the first pulse, among a call's records, of the channels from least to most
unfoldable pub pulse_of : ℕ → ℕ → List Record → Released
pulse_of least most [] = nothing
pulse_of least most (Answer clock ident answer ∷ xs) = pulse_of least most xs
pulse_of least most (Pulse clock channel width current ∷ xs) =
    cond (within least channel most) (released clock channel width current) (pulse_of least most xs)
pulse_of least most (Trip clock cause ∷ xs) = pulse_of least most xs

-- a pulse of module A (channels 1 to 4) and one of module B (5 to 8)
unfoldable pub said_of : Result → Said
said_of r = record { answer = r.answer; reply = r.reply; a = pulse_of 1 4 r.records; b = pulse_of 5 8 r.records }

-- the records, of which a call releases at most two
abbrev pub records_of : List Record → Records
records_of [] = Empty
records_of (x ∷ []) = One x
records_of (x ∷ y ∷ xs) = Two x y
