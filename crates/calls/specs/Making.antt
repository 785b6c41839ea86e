-- Making a box (document 01, "Numbers the box answers"): 11, then a capacity of 16 to 4,096 bytes, else 13.
use Rattle.std.specs.Prelude.{ℕ, cond, not, [], ◌∷◌, eqb, replicate, Result, Ok, Err}
use Rattle.commands.specs.Answers.{◌when◌, first_of}
use Rattle.commands.specs.declared.refusals.Refusal.{Refusal}
use Rattle.commands.specs.Refusals.{number}
use Rattle.trace.specs.Ring.{empty_ring, good_capacity}
use Rattle.model.specs.declared.Profile.{Profile}
use Rattle.model.specs.Profiles.{good_profile}
use Rattle.model.specs.State.{fresh}
use Rattle.record.specs.declared.Box.{Box}
use Rattle.record.specs.Box.{box_of}
use Rattle.calls.specs.declared.Made.{Made}

-- a fresh box: its state is the machine's, its ring empty
abbrev pub fresh_box : Profile → ℕ → Box
fresh_box p capacity = box_of p (empty_ring capacity) fresh

-- a record of zeros: a fresh state is zero throughout
abbrev pub zero_profile : Profile
zero_profile = record { currents = replicate 8 0; widths = replicate 8 0; charge = 0; shortest = 0; watchdog = 0 }

abbrev pub zero_box : Box
zero_box = fresh_box zero_profile 0

abbrev pub make_answer : Profile → ℕ → ℕ
make_answer p capacity = first_of (11 when not (good_profile p) ∷ 13 when not (good_capacity capacity) ∷ [])

-- a refusal gives an all-zero record
unfoldable pub make_of : Profile → ℕ → Made
make_of p capacity =
    let a : ℕ = make_answer p capacity in record { answer = a; made = cond (eqb a 0) (fresh_box p capacity) zero_box }

-- a box or its refusal, as numbers
abbrev pub reported : Result Box Refusal → Made
reported (Ok b) = record { answer = 0; made = b }
reported (Err x) = record { answer = number x; made = zero_box }
