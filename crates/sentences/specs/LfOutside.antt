-- Document 01, "The four frames": "A low frequency bit outside Channel_Stim is kept and has no effect."
use Rattle.std.specs.Prelude.{ℕ, true, ◌≡◌, List, [], ◌∷◌, ◌++◌, length, get_or, drop}
use Rattle.bits.specs.High.{high}
use Rattle.commands.specs.declared.Init.{Init}
use Rattle.commands.specs.Commands.{Command.init, check_of, good}
use Rattle.frames.specs.Layout.{check_in}
use Rattle.frames.specs.Bytes.{frame}
use Rattle.model.specs.declared.Profile.{Profile}
use Rattle.model.specs.declared.Run.{Run}
use Rattle.model.specs.declared.Core.{Core}
use Rattle.model.specs.Channels.{in_set}
use Rattle.model.specs.State.{State}
use Rattle.model.specs.Effects.{with_run}
use Rattle.model.specs.Arrival.{Arrival.whole, Result, arrive, command_of, judged}
use Rattle.model.specs.Machine.{Call, Call.byte, step, run}
use Rattle.model.specs.Good.{all_low}
use Rattle.demands.specs.RoundTrips.{Held}
use Rattle.demands.specs.FreshBox.{ticks}

-- ---- kept

-- the byte that finishes an accepted Init leaves the list as the Init has it, Channel_Lf whole
abbrev pub ListKept : Type 0
ListKept =
    (p : Profile) (s : State) (n : ℕ) (bytes : List ℕ) (v : Init)
    → arrive s.core s.partial n ≡ whole bytes → command_of bytes ≡ init v → (step p s (byte n)).answer ≡ 0
    → (step p s (byte n)).state.core.run.list ≡ v

-- ---- no effect

-- an Init with another Channel_Lf, which differs in bits outside Channel_Stim alone
abbrev pub with_lf : Init → ℕ → Init
with_lf v lf = record { factor = v.factor; stim = v.stim; lf = lf; group = v.group; main = v.main }

abbrev pub SameInside : Init → ℕ → Type 0
SameInside v lf = (i : ℕ) → in_set v.stim i ≡ true → in_set lf i ≡ in_set v.lf i

-- two states whose lists differ so, and which differ in nothing else
abbrev pub run_with_lf : Run → ℕ → Run
run_with_lf r lf =
    record { list = with_lf r.list lf; settings = r.settings; waits = r.waits; waiting = r.waiting; position = r.position; cycle = r.cycle; watch = r.watch }

abbrev pub state_with_lf : State → ℕ → State
state_with_lf s lf = record { clock = s.clock; partial = s.partial; core = with_run s.core (run_with_lf s.core.run lf) }

pub data LfApart : State → State → Type 0 where
  lf_apart : (s : State) (lf : ℕ) → SameInside s.core.run.list lf → LfApart s (state_with_lf s lf)

-- six bytes that are the frame of this Init, with its right check
pub record InitFrame (bytes : List ℕ) (v : Init) : Type 0 where
  pub six : length bytes ≡ 6
  pub first_is_high : high (get_or bytes 0 0) ≡ true
  pub others_low : all_low (drop 1 bytes) ≡ true
  pub reads_as_init : command_of bytes ≡ init v
  pub right_check : check_in bytes ≡ check_of (init v)

-- bytes, with so many ticks before each
abbrev pub spaced : List ℕ → List ℕ → List Call
spaced [] gaps = []
spaced (b ∷ bytes) gaps = ticks (get_or gaps 0 0) ++ byte b ∷ spaced bytes (drop 1 gaps)

-- the same calls, but for the frames of such Inits, of which each box gets its own; ticks may stand between their bytes
pub data SameCalls : List Call → List Call → Type 0 where
  no_calls : SameCalls [] []
  same_call : (c : Call) {cs ds : List Call} → SameCalls cs ds → SameCalls (c ∷ cs) (c ∷ ds)
  own_frames : {v : Init} {lf : ℕ} {one other : List ℕ} → SameInside v lf → InitFrame one v → InitFrame other (with_lf v lf)
      → (gaps : List ℕ) {cs ds : List Call} → SameCalls cs ds → SameCalls (spaced one gaps ++ cs) (spaced other gaps ++ ds)

-- an Init with its right check
abbrev pub judged_init : Profile → ℕ → Core → Init → Result
judged_init p clock m v = judged p clock m (check_of (init v)) (init v)

pub record NoEffect : Type 0 where
  -- two such Inits are judged alike, and leave states that differ only so
  pub judged_alike : (p : Profile) (clock : ℕ) (m : Core) (v : Init) (lf : ℕ) → SameInside v lf
      → ((judged_init p clock m v).answer ≡ (judged_init p clock m (with_lf v lf)).answer)
      × LfApart (judged_init p clock m v).state (judged_init p clock m (with_lf v lf)).state
  -- two such states give back the same to the same calls ..
  pub states_alike : (p : Profile) (s t : State) → LfApart s t → (cs : List Call) → run p s cs ≡ run p t cs
  -- .. and where each gets its own frames
  pub frames_alike : (p : Profile) (s t : State) → LfApart s t → (cs ds : List Call) → SameCalls cs ds → run p s cs ≡ run p t ds
  -- what is written for a good Init is such a frame
  pub frames_there : (v : Init) → Held (init v) → good (init v) ≡ true → InitFrame (frame (init v)) v
