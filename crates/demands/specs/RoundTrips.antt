-- Demand 2 on frames: a written good command reads back the same, a read frame written again differs only in don't-care bits.
use Rattle.std.specs.Prelude.{ℕ, ◌≤◌, ◌<◌, true, ◌≡◌, List, ◌++◌, length, take, drop}
use Rattle.commands.specs.Ranges.{good_count}
use Rattle.commands.specs.Commands.{Command, Command.init, Command.update, Command.stop, Command.single, good}
use Rattle.commands.specs.Bytes.{AreBytes}
use Rattle.frames.specs.Layout.{ident_in, command_in}
use Rattle.frames.specs.Bytes.{frame_size}
use Rattle.frames.specs.Reader.{read_frame, found}
use Rattle.writers.specs.Writer.{written}
use Rattle.demands.specs.DontCare.{cleared}

-- a command as the code's types hold it: Channel_Stim and Channel_Lf are bytes, entries are eight
abbrev pub Held : Command → Type 0
Held (init v) = (v.stim < 256) × (v.lf < 256)
Held (update count entries) = length entries ≡ 8
Held stop = Unit
Held (single v) = Unit

-- a reader told of so many listed channels: an Update's own, any for the others
abbrev pub Told : ℕ → Command → Type 0
Told count (init v) = good_count count ≡ true
Told count (update own entries) = count ≡ own
Told count stop = good_count count ≡ true
Told count (single v) = good_count count ≡ true

-- what a writer wrote for a good command, followed by any bytes, reads back as that command and that many bytes
abbrev pub ReadsBack : Type 0
ReadsBack =
    (c : Command) → Held c → good c ≡ true → (count : ℕ) → Told count c → (out rest : List ℕ) → frame_size c ≤ length out
    → read_frame (written c out ++ rest) count ≡ found c

-- what was read is a good command, and written again it gives the used bytes with exactly the don't-care bits clear
pub record WritesBack (s : List ℕ) (count : ℕ) : Type 0 where
  pub same : read_frame s count ≡ found (command_in s count)
  pub accepted : good (command_in s count) ≡ true
  pub bytes : (out : List ℕ) → let used : ℕ = (read_frame s count).used in used ≤ length out
      → written (command_in s count) out ≡ cleared (ident_in s) 0 (take used s) ++ drop used out

abbrev pub EachWritesBack : Type 0
EachWritesBack = (s : List ℕ) (count : ℕ) → AreBytes s → (read_frame s count).answer ≡ 0 → WritesBack s count

-- bytes after a frame do not matter: unless the slice was too short, more bytes change nothing
abbrev pub RestUnused : Type 0
RestUnused =
    (s rest : List ℕ) (count : ℕ) → ((read_frame s count).answer ≡ 1 → ⊥) → read_frame (s ++ rest) count ≡ read_frame s count
