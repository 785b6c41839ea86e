-- Document 01, "Promises and idle programs": programs that demand 2 excludes, each by what it does under one profile and one capacity.
use Rattle.std.specs.Prelude.{ℕ, ◌≤◌, ◌<◌, ◌≡◌, List, [], ◌∷◌, map, length, get_or}
use Rattle.model.specs.declared.Profile.{Profile}
use Rattle.model.specs.Machine.{Call}
use Rattle.calls.specs.Making.{make_answer}
use Rattle.demands.specs.History.{Request, Request.act, acts}
use Rattle.demands.specs.Demand2.{tail_of}
use Rattle.demands.specs.Program.{Program, Meets}

-- it refuses everything: it never answers 0
abbrev pub RefusesAll : Program → Profile → ℕ → Type 0
RefusesAll x p capacity = (rs : List Request) (c : Call) → (x.says p capacity rs c).answer ≡ 0 → ⊥

-- it repeats one answer
abbrev pub RepeatsOne : Program → Profile → ℕ → Type 0
RepeatsOne x p capacity = (answer : ℕ) × ((rs : List Request) (c : Call) → (x.says p capacity rs c).answer ≡ answer)

-- it does nothing: no pulse comes out, and no record is ever there to read out
abbrev pub NeverPulses : Program → Profile → ℕ → Type 0
NeverPulses x p capacity = (rs : List Request) (c : Call) → (x.says p capacity rs c).pulses ≡ []

abbrev pub NeverRecords : Program → Profile → ℕ → Type 0
NeverRecords x p capacity = (rs : List Request) (out : List ℕ) → (x.reads p capacity rs out).report.used ≡ 0

abbrev pub DoesNothing : Program → Profile → ℕ → Type 0
DoesNothing x p capacity = NeverPulses x p capacity × NeverRecords x p capacity

-- a profile that allows some pulse at all: on one channel the least that there is, 1 mA for 10 µs, and the charge of both
pub record AllowsPulse (p : Profile) : Type 0 where
  pub channel : ℕ
  pub eight : channel < 8
  pub current : 1 ≤ get_or p.currents channel 0
  pub width : 10 ≤ get_or p.widths channel 0
  pub charge : 10 ≤ p.charge

-- it handles its first call and feigns the rest: what it says to a later byte or tick follows, at most, from the first one, from how many
-- came since, and from the later one itself
abbrev pub FeignsTheRest : Program → Profile → ℕ → Type 0
FeignsTheRest x p capacity =
    (d c : Call) (cs es : List Call) → length cs ≡ length es
    → x.says p capacity (map act (d ∷ cs)) c ≡ x.says p capacity (map act (d ∷ es)) c

-- its ring claims a made-up number of bytes: a readout that is answered 0 reports another number than the tail has
pub record ClaimsBytes (x : Program) (p : Profile) (capacity : ℕ) : Type 0 where
  pub behind : List Request
  pub out : List ℕ
  pub done : (x.reads p capacity behind out).report.answer ≡ 0
  pub made_up : (x.reads p capacity behind out).report.used ≡ length (tail_of p capacity (acts behind)) → ⊥

-- none of these meets demand 2; nor does one that never pulses where a pulse is allowed, nor one that never records
pub record Excluded (x : Program) (p : Profile) (capacity : ℕ) : Type 0 where
  pub refusing : RefusesAll x p capacity → ⊥
  pub repeating : RepeatsOne x p capacity → ⊥
  pub doing_nothing : DoesNothing x p capacity → ⊥
  pub never_pulsing : AllowsPulse p → NeverPulses x p capacity → ⊥
  pub never_recording : NeverRecords x p capacity → ⊥
  pub feigning : FeignsTheRest x p capacity → ⊥
  pub claiming : ClaimsBytes x p capacity → ⊥

abbrev pub IdleExcluded : Type 0
IdleExcluded = (x : Program) → Meets x → (p : Profile) (capacity : ℕ) → make_answer p capacity ≡ 0 → Excluded x p capacity
