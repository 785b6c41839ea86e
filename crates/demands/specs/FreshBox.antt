-- What a fresh box gives back to some calls: for the cases of document 01 that speak of the box.
use Rattle.std.specs.Prelude.{ℕ, List, [], ◌∷◌, ◌++◌, replicate}
use Rattle.commands.specs.Commands.{Command}
use Rattle.frames.specs.Bytes.{frame}
use Rattle.trace.specs.declared.Part.{Part}
use Rattle.trace.specs.declared.Record.{Record}
use Rattle.model.specs.declared.Profile.{Profile}
use Rattle.model.specs.State.{fresh}
use Rattle.model.specs.Machine.{Call, Call.byte, Call.tick, Outcome, run}
use Rattle.calls.specs.Making.{make_of}
use Rattle.demands.specs.Copied.{Copied, read_to}
use Rattle.demands.specs.OneBuffer.{Bench, bench_after}

-- ---- calls: bytes, the frames of commands, and ticks

abbrev pub sent : List ℕ → List Call
sent [] = []
sent (b ∷ bs) = byte b ∷ sent bs

abbrev pub commanded : List Command → List Call
commanded [] = []
commanded (c ∷ cs) = sent (frame c) ++ commanded cs

abbrev pub ticks : ℕ → List Call
ticks n = replicate n tick

-- ---- the box, and what it gives back to each call

-- limits at their loosest, watchdog 250
abbrev pub loosest : Profile
loosest = record { currents = replicate 8 127; widths = replicate 8 500; charge = 63500; shortest = 30; watchdog = 250 }

abbrev pub outcomes : List Call → List Outcome
outcomes cs = run loosest fresh cs

-- an answer alone, without reply and records
abbrev pub only : ℕ → Outcome
only answer = record { answer = answer; reply = 0; records = [] }

-- ---- all records

abbrev pub trace : List Outcome → List Record
trace [] = []
trace (o ∷ os) = o.records ++ trace os

-- ---- its ring, in a buffer of 41 bytes the part from place 5 on, read out behind the calls to an output of 30

abbrev pub copied_out : ℕ → List Call → Copied
copied_out capacity cs =
    let at : Part = record { offset = 5; size = capacity } in
    let k : Bench = bench_after at (record { box = (make_of loosest capacity).made; buf = replicate 41 0xAA }) cs in
    read_to k.box k.buf at (replicate 30 0xBB)
