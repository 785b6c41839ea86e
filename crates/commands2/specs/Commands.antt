-- The commands of ScienceMode2 that are carried (source 000, sections 3 and 4): their numbers, their data bytes and their good values.
use Rattle.std.specs.Prelude.{ℕ, ◌+◌, ◌*◌, ◌/◌, ◌%◌, Bool, true, false, cond, ◌&&◌, ◌||◌, List, [], ◌∷◌, eqb, leb, length, get_or}
use Rattle.commands2.specs.declared.ChannelList.{ChannelList}
use Rattle.commands2.specs.declared.Command.{Command}
use Rattle.commands2.specs.declared.Command.TheVariants.{Init, InitAck, UnknownCommand, Watchdog, GetStimulationMode, GetStimulationModeAck, InitChannelListMode, InitChannelListModeAck, Other}
use Rattle.commands2.specs.Results.{no_error, good_result, byte_of, signed_of}

-- section 3; another command's number is its own
abbrev pub number_of : Command → ℕ
number_of (Init version) = 1
number_of (InitAck result) = 2
number_of (UnknownCommand echo) = 3
number_of Watchdog = 4
number_of GetStimulationMode = 10
number_of (GetStimulationModeAck result mode) = 11
number_of (InitChannelListMode list) = 30
number_of (InitChannelListModeAck result) = 31
number_of (Other number) = number

-- section 4, byte 7 and on: the mode byte is there exactly if the result is 0; the main interval has its high byte first
abbrev pub data_of : Command → List ℕ
data_of (Init version) = version ∷ []
data_of (InitAck result) = byte_of result ∷ []
data_of (UnknownCommand echo) = echo ∷ []
data_of Watchdog = []
data_of GetStimulationMode = []
data_of (GetStimulationModeAck result mode) = byte_of result ∷ cond (no_error result) (mode ∷ []) []
data_of (InitChannelListMode list) =
    list.factor ∷ list.active ∷ list.lf ∷ list.inter ∷ list.main / 256 ∷ list.main % 256 ∷ list.execution ∷ []
data_of (InitChannelListModeAck result) = byte_of result ∷ []
data_of (Other number) = []

-- ---- good values

-- section 4.3: low frequency factor 0 to 7, main stimulation interval 0 to 2048, channel execution 0 or 1; the other ranges are a whole byte's
abbrev pub good_list : ChannelList → Bool
good_list list = leb list.factor 7 && leb list.main 2048 && leb list.execution 1

-- section 4.2: mode 0 to 2; 0 where there is no mode byte
abbrev pub good_mode : Bool → ℕ → Bool
good_mode there mode = cond there (leb mode 2) (eqb mode 0)

-- another command is not written
abbrev pub good : Command → Bool
good (Init version) = true
good (InitAck result) = good_result result
good (UnknownCommand echo) = true
good Watchdog = true
good GetStimulationMode = true
good (GetStimulationModeAck result mode) = good_result result && good_mode (no_error result) mode
good (InitChannelListMode list) = good_list list
good (InitChannelListModeAck result) = good_result result
good (Other number) = false

-- ---- reading: the command of a number, with its values from the data bytes, 0 where one is missing

abbrev pub list_in : List ℕ → ChannelList
list_in d =
    record {
      factor = get_or d 0 0;
      active = get_or d 1 0;
      lf = get_or d 2 0;
      inter = get_or d 3 0;
      main = get_or d 4 0 * 256 + get_or d 5 0;
      execution = get_or d 6 0;
    }

unfoldable pub command_of : ℕ → List ℕ → Command
command_of number d =
    cond (eqb number 1) (Init (get_or d 0 0))
    (cond (eqb number 2) (InitAck (signed_of (get_or d 0 0)))
    (cond (eqb number 3) (UnknownCommand (get_or d 0 0))
    (cond (eqb number 4) Watchdog
    (cond (eqb number 10) GetStimulationMode
    (cond (eqb number 11) (GetStimulationModeAck (signed_of (get_or d 0 0)) (get_or d 1 0))
    (cond (eqb number 30) (InitChannelListMode (list_in d))
    (cond (eqb number 31) (InitChannelListModeAck (signed_of (get_or d 0 0)))
    (Other number))))))))

abbrev pub is_other : Command → Bool
is_other (Init version) = false
is_other (InitAck result) = false
is_other (UnknownCommand echo) = false
is_other Watchdog = false
is_other GetStimulationMode = false
is_other (GetStimulationModeAck result mode) = false
is_other (InitChannelListMode list) = false
is_other (InitChannelListModeAck result) = false
is_other (Other number) = true

-- a carried command has as many data bytes as it asks for, and good values; of another nothing is asked
unfoldable pub right : Command → ℕ → Bool
right c size = is_other c || (good c && eqb (length (data_of c)) size)
