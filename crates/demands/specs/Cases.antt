-- Document 01, "Sixteen to prove": the cases as one list under a single claim.
use Rattle.std.specs.Prelude.{ℕ, ◌-◌, ◌≡◌, List, [], ◌∷◌, ◌++◌, length, drop, replicate}
use Rattle.commands.specs.declared.Setting.{Setting}
use Rattle.commands.specs.Commands.{Command, Command.init, Command.update, Command.stop, Command.single, no_setting, check_of}
use Rattle.frames.specs.Bytes.{frame}
use Rattle.frames.specs.Reader.{found, refused_read, read_frame}
use Rattle.writers.specs.Writer.{wrote, written}
use Rattle.trace.specs.declared.Record.TheVariants.{Answer, Pulse, Trip}
use Rattle.trace.specs.Case13.{wanted}
use Rattle.model.specs.Machine.{Call}
use Rattle.calls.specs.Making.{zero_box, fresh_box, make_of}
use Rattle.demands.specs.FreshBox.{sent, commanded, ticks, loosest, outcomes, only, trace, copied_out}

-- a case: its number in document 01, and what it says
pub record Case : Type 1 where
  pub number : ℕ
  pub statement : Type 0

abbrev pub case : ℕ → Type 0 → Case
case number statement = record { number = number; statement = statement }

-- ---- the commands of the cases

-- channels 1 to 8 have Channel_Number 0 to 7
abbrev pub single_of : ℕ → ℕ → ℕ → Command
single_of channel width current = single (record { channel = channel - 1; width = width; current = current })

-- channels 1 and 3, with a Main_Time; all eight, with a Group_Time and a Main_Time
abbrev pub init_of_two : ℕ → Command
init_of_two main = init (record { factor = 0; stim = 5; lf = 0; group = 3; main = main })

abbrev pub init_of_eight : ℕ → ℕ → Command
init_of_eight group main = init (record { factor = 0; stim = 255; lf = 0; group = group; main = main })

abbrev pub set_to : ℕ → ℕ → ℕ → Setting
set_to mode width current = record { mode = mode; width = width; current = current }

abbrev pub update_of : Setting → Setting → Command
update_of v w = update 2 (v ∷ w ∷ replicate 6 no_setting)

-- an Update of eight channels with a doublet
abbrev pub doublet : Command
doublet = update 8 (set_to 1 200 20 ∷ replicate 7 (set_to 0 200 20))

-- the Init of case 5 and the Update of case 6, as document 01 writes them
abbrev pub init5 : List ℕ
init5 = 0x88 ∷ 0x01 ∷ 0x20 ∷ 0x00 ∷ 0x30 ∷ 0x12 ∷ []

abbrev pub update6 : List ℕ
update6 = 0xBB ∷ 0x01 ∷ 0x48 ∷ 0x28 ∷ 0x22 ∷ 0x2C ∷ 0x1E ∷ []

-- Init of 5 at clock 0, Update of 6 at clock 5, and on to a later clock
abbrev pub up_to_clock : ℕ → List Call
up_to_clock clock = sent init5 ++ ticks 5 ++ sent update6 ++ ticks (clock - 5)

-- ---- what the cases say of commands and frames

-- an output of twelve bytes
abbrev pub blank : List ℕ
blank = replicate 12 0

-- these bytes read as the command, for a list of two channels, and a writer writes them for it
abbrev pub BothWays : Command → List ℕ → Type 0
BothWays c s =
    (read_frame s 2 ≡ found c)
    × (wrote c blank ≡ record { answer = 0; used = length s })
    × (written c blank ≡ s ++ drop (length s) blank)

-- a command of good values, and one that is refused with 4, read and written
abbrev pub IsGood : Command → Type 0
IsGood c = BothWays c (frame c)

abbrev pub NotGood : Command → Type 0
NotGood c = (read_frame (frame c) 2 ≡ refused_read 4) × (wrote c blank ≡ record { answer = 4; used = 0 }) × (written c blank ≡ blank)

-- ---- the list

unfoldable pub cases : List Case
cases =
    -- Single, channel 3, 200 µs, 120 mA: E2 21 48 78, reply C1
    case 1
    (BothWays (single_of 3 200 120) (0xE2 ∷ 0x21 ∷ 0x48 ∷ 0x78 ∷ [])
    × (outcomes (sent (0xE2 ∷ 0x21 ∷ 0x48 ∷ 0x78 ∷ []))
    ≡ replicate 3 (only 1) ++ record { answer = 0; reply = 0xC1; records = Answer 0 3 0 ∷ Pulse 0 3 200 120 ∷ [] } ∷ []))
    -- Single, channel 6, 221, 55: F9 51 5D 37. The check is 25
    ∷ case 2 (BothWays (single_of 6 221 55) (0xF9 ∷ 0x51 ∷ 0x5D ∷ 0x37 ∷ []) × (check_of (single_of 6 221 55) ≡ 25))
    -- E2 2D 48 78 reads as case 1
    ∷ case 3 (read_frame (0xE2 ∷ 0x2D ∷ 0x48 ∷ 0x78 ∷ []) 2 ≡ found (single_of 3 200 120))
    -- E3 21 48 78: 3, reply C0
    ∷ case 4
    ((read_frame (0xE3 ∷ 0x21 ∷ 0x48 ∷ 0x78 ∷ []) 2 ≡ refused_read 3)
    × (outcomes (sent (0xE3 ∷ 0x21 ∷ 0x48 ∷ 0x78 ∷ []))
    ≡ replicate 3 (only 1) ++ record { answer = 3; reply = 0xC0; records = Answer 0 3 3 ∷ [] } ∷ []))
    -- Init, N 0, channels 1 and 3, Lf 0, Group 3, Main 18: 88 01 20 00 30 12
    ∷ case 5 (BothWays (init_of_two 18) init5)
    -- Update, 1: Mode 0, 200, 40; 3: Mode 1, 300, 30: BB 01 48 28 22 2C 1E
    ∷ case 6 (BothWays (update_of (set_to 0 200 40) (set_to 1 300 30)) update6)
    -- Stop: C0
    ∷ case 7 (BothWays stop (0xC0 ∷ []))
    -- Main_Time 2045 good, 2046 answer 4
    ∷ case 8 (IsGood (init_of_two 2045) × NotGood (init_of_two 2046))
    -- Width 9 answer 4, 10 good, 500 good, 501 answer 4: in a Single, and in an Update
    ∷ case 9
    ((NotGood (single_of 1 9 1) × IsGood (single_of 1 10 1) × IsGood (single_of 1 500 1) × NotGood (single_of 1 501 1))
    × (NotGood (update_of (set_to 0 9 1) no_setting) × IsGood (update_of (set_to 0 10 1) no_setting)
    × IsGood (update_of (set_to 0 500 1) no_setting) × NotGood (update_of (set_to 0 501 1) no_setting)))
    -- Eight channels: t2 60 allowed, 55 answer 5
    ∷ case 10
    ((trace (outcomes (commanded (init_of_eight 9 100 ∷ []))) ≡ Answer 0 0 0 ∷ [])
    × (trace (outcomes (commanded (init_of_eight 8 100 ∷ []))) ≡ Answer 0 0 5 ∷ []))
    -- Eight channels, t2 60, a doublet: t1 135 allowed, 130 answer 5
    ∷ case 11
    ((trace (outcomes (commanded (init_of_eight 9 25 ∷ doublet ∷ []))) ≡ Answer 0 0 0 ∷ Answer 0 1 0 ∷ [])
    × (trace (outcomes (commanded (init_of_eight 9 24 ∷ doublet ∷ []))) ≡ Answer 0 0 0 ∷ Answer 0 1 5 ∷ []))
    -- Limits at their loosest, watchdog 250; Init of 5 at clock 0, Update of 6 at clock 5: pulses at 100, 200 (channel 1), 115, 145, 215,
    -- 245 (channel 3), then a trip at 255 and none after, however many ticks follow
    ∷ case 12
    ((n : ℕ) → trace (outcomes (up_to_clock 255 ++ ticks n))
    ≡ Answer 0 0 0 ∷ Answer 5 1 0
    ∷ Pulse 100 1 200 40 ∷ Pulse 115 3 300 30 ∷ Pulse 145 3 300 30
    ∷ Pulse 200 1 200 40 ∷ Pulse 215 3 300 30 ∷ Pulse 245 3 300 30
    ∷ Trip 255 2 ∷ [])
    -- Same, capacity 32, after clock 145 the readout is 27 bytes, whole: 02 64 ..
    ∷ case 13
    (copied_out 32 (up_to_clock 145) ≡ record { report = record { answer = 0; used = 27 }; output = wanted ++ replicate 3 0xBB })
    -- Update in idle: 6 on the first byte, then 2 on each low byte
    ∷ case 14 (outcomes (sent update6) ≡ record { answer = 6; reply = 0x40; records = Answer 0 1 6 ∷ [] } ∷ replicate 6 (only 2))
    -- Single channel 1 twice in one clock: 0, then 8
    ∷ case 15
    (trace (outcomes (commanded (single_of 1 200 20 ∷ single_of 1 200 20 ∷ []))) ≡ Answer 0 3 0 ∷ Pulse 0 1 200 20 ∷ Answer 0 3 8 ∷ [])
    -- Capacity 15 refused, 16 taken
    ∷ case 16
    ((make_of loosest 15 ≡ record { answer = 13; made = zero_box }) × (make_of loosest 16 ≡ record { answer = 0; made = fresh_box loosest 16 }))
    ∷ []

-- ---- the claim

abbrev pub AllHold : List Case → Type 0
AllHold [] = Unit
AllHold (c ∷ cs) = c.statement × AllHold cs

abbrev pub Claim : Type 0
Claim = AllHold cases
