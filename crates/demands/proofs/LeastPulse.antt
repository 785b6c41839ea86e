-- The least pulse: a Single of 1 mA for 10 µs, on a channel that allows it, pulses. Assumes nothing.
use Prim.Native.Nat.{ℕ, ◌+◌, ◌*◌, ◌^◌, ◌≤◌, ◌<◌}
use mathlib.Core.Bool.{Bool, true, false}
use mathlib.Core.Path.{◌≡◌, refl, ap, ap₂, ◌∙◌}
use mathlib.Core.List.{List, [], ◌∷◌, ◌++◌}
use native.Mathlib.Omega.{arith}
use native.Mathlib.Nat.{mod-lt}
use lib.Dec.{ltb, eqb}
use lib.ListN.{get_or, get_or-replicate, set}
use lib.Seq.{get_or-set_same, get_or-set_other}
use borrow.Author.Tests.{le-ltb, le-leb, lt-leb, eq-eqb, eqb-true, eqb-false}
use Rattle.bits.specs.Fields.{field}
use Rattle.commands.specs.declared.Setting.{Setting}
use Rattle.commands.specs.declared.Single.{Single}
use Rattle.commands.specs.Commands.{Command.single, no_setting, check_of, good_single}
use Rattle.frames.specs.Layout.{check_in}
use Rattle.frames.specs.Bytes.{head}
use Rattle.trace.specs.declared.Record.TheVariants.{Answer, Pulse}
use Rattle.model.specs.declared.Profile.{Profile}
use Rattle.model.specs.Below.{some_below}
use Rattle.model.specs.Channels.{silence}
use Rattle.model.specs.Slots.{felt}
use Rattle.model.specs.Profiles.{over_at, over_limits}
use Rattle.model.specs.State.{State, fresh}
use Rattle.model.specs.Judgement.{asked, breaks_timing, in_hold, over_limit, refusals, judge}
use Rattle.model.specs.Effects.{accept, carry}
use Rattle.model.specs.Arrival.{Result, lengthened, opened, followed, arrive, decided, command_of, judged, taken, byte_step}
use Rattle.model.specs.Machine.{Call, Call.byte, outcome, step, after}
use Rattle.model.proofs.Tests.{either_way, not_both}
use Rattle.model.proofs.Below.{some_below_lem}
use Rattle.outcome.specs.Claims.{pulses_in}
use Rattle.demands.specs.Demand2.{documented}
use Rattle.demands.specs.Idle.{AllowsPulse}
use Rattle.demands.proofs.ReadsBack.{single_there, single_check}

-- ---- four bytes of a Single, sent to a fresh box

-- with the first of them in its partial frame
abbrev holding : List ℕ → State
holding bytes = record { clock = 0; partial = record { bytes = bytes; size = 4 }; core = fresh.core }

module _ (p : Profile) where
  opens : (b : ℕ) → 128 ≤ b → field b 5 2 ≡ 3 → (step p fresh (byte b)).state ≡ holding (b ∷ [])
  unfolding step byte_step arrive opened lengthened taken
  opens b h e = rw (le-leb 128 b h, e)

  follows : (bytes : List ℕ) (b : ℕ) → b < 128
      → step p (holding bytes) (byte b) ≡ taken p (holding bytes) (lengthened (bytes ++ b ∷ []) 4)
  unfolding step byte_step arrive followed
  follows bytes b h = rw (lt-leb 128 b h)

  four : (b0 b1 b2 b3 : ℕ) → 128 ≤ b0 → field b0 5 2 ≡ 3 → b1 < 128 → b2 < 128 → b3 < 128
      → step p (after p fresh (byte b0 ∷ byte b1 ∷ byte b2 ∷ [])) (byte b3)
      ≡ judged p 0 fresh.core (check_in (b0 ∷ b1 ∷ b2 ∷ b3 ∷ [])) (command_of (b0 ∷ b1 ∷ b2 ∷ b3 ∷ []))
  unfolding after lengthened taken
  four b0 b1 b2 b3 h e h1 h2 h3 =
      ap (λ (s : State). step p (step p (step p s (byte b1)).state (byte b2)).state (byte b3)) (opens b0 h e)
      ∙ ap (λ (r : Result). step p (step p r.state (byte b2)).state (byte b3)) (follows (b0 ∷ []) b1 h1)
      ∙ ap (λ (r : Result). step p r.state (byte b3)) (follows (b0 ∷ b1 ∷ []) b2 h2)
      ∙ follows (b0 ∷ b1 ∷ b2 ∷ []) b3 h3

-- ---- no limit forbids it

under : (p : Profile) (i : ℕ) (x : Setting) → x.current ≤ get_or p.currents i 0 → x.width ≤ get_or p.widths i 0
    → x.current * x.width ≤ p.charge → over_at p i x ≡ false
unfolding over_at
under p i x c w h = rw (le-ltb _ _ c, le-ltb _ _ w, le-ltb _ _ h)

-- a fresh box has no hold
no_hold : (v : Single) → in_hold fresh.core (single v) ≡ false
unfolding in_hold
no_hold v = either_way (ltb v.channel 4) (λ e. rw e) (λ e. rw e)

module _ (p : Profile) (a : AllowsPulse p) where
  abbrev least : Single
  least = record { channel = a.channel; width = 10; current = 1 }

  all_under : over_limit p fresh.core (single least) ≡ false
  unfolding over_limit over_limits asked
  all_under =
      either_way (some_below 8 over_at_lem)
      (λ t. let (i, l, o) = some_below_lem 8 over_at_lem t in not_both o (not_over i l))
      (λ e. e)
    where
      x : Setting
      x = record { mode = 0; width = 10; current = 1 }

      over_at_lem : ℕ → Bool
      over_at_lem i = over_at p i (get_or (set silence a.channel x) i no_setting)

      not_over : (i : ℕ) → i < 8 → over_at_lem i ≡ false
      not_over i l =
          either_way (eqb i a.channel)
          (λ e.
          rw (eqb-true i a.channel e, get_or-set_same silence a.channel x no_setting a.eight)
          (under p a.channel x a.current a.width a.charge))
          (λ e.
          rw (get_or-set_other silence a.channel i x no_setting (eqb-false i a.channel e), get_or-replicate {A = Setting} 8 i no_setting no_setting l)
          (under p i no_setting (omega arith) (omega arith) (omega arith)))

  -- ---- and so it comes out

  is_good : good_single least ≡ true
  is_good = rw (le-leb a.channel 7 (omega (arith, a.eight)))

  pulsed : (judged p 0 fresh.core (check_of (single least)) (single least)).records ≡ Answer 0 3 0 ∷ Pulse 0 (a.channel + 1) 10 1 ∷ []
  unfolding judged judge refusals breaks_timing decided carry accept felt
  pulsed = rw (eq-eqb (check_of (single least)) _ refl, is_good, no_hold least, all_under)

  -- its first three bytes; the fourth is its current
  abbrev pub opening : List Call
  opening = byte (head 3 (check_of (single least))) ∷ byte (a.channel * 2 ^ 4 + field 10 7 2) ∷ byte (field 10 0 7) ∷ []

  pub least_pulses : (documented (outcome (step p (after p fresh opening) (byte 1)))).pulses ≡ Pulse 0 (a.channel + 1) 10 1 ∷ []
  unfolding pulses_in
  least_pulses =
      let k = check_of (single least) in
      let hk = mod-lt (a.channel + 10 + 1) {m = 32} (omega arith) in
      ap (λ (r : Result). pulses_in r.records)
      (four p (head 3 k) (a.channel * 2 ^ 4 + field 10 7 2) (field 10 0 7) 1 (omega arith) (omega arith) (omega (arith, a.eight)) (omega arith) (omega arith)
      ∙ ap₂ (judged p 0 fresh.core) (single_check least k [] hk is_good) (single_there least k [] hk is_good 1))
      ∙ ap pulses_in pulsed
