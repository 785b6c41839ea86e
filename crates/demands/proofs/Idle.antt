-- Idle programs do not meet demand 2. Assumes nothing.
use Prim.Native.Nat.{ℕ, ◌≤◌}
use mathlib.Core.Path.{◌≡◌, refl, sym, ap, ◌∙◌}
use mathlib.Core.List.{List, [], ◌∷◌, map}
use native.Mathlib.Omega.{arith}
use lib.Dec.{ltb}
use lib.ListN.{length, replicate}
use Rattle.model.specs.declared.Profile.{Profile}
use Rattle.model.specs.State.{fresh}
use Rattle.model.specs.Machine.{Call, Call.byte, Call.tick, step, after}
use Rattle.model.proofs.Tests.{either_way}
use Rattle.calls.specs.Making.{make_answer, make_of}
use Rattle.demands.specs.History.{Request, Request.act, acts, Spoken}
use Rattle.demands.specs.Copied.{Copied, copied}
use Rattle.demands.specs.Demand2.{tail_of}
use Rattle.demands.specs.Program.{Program, Meets}
use Rattle.demands.specs.Idle.{RefusesAll, RepeatsOne, NeverPulses, NeverRecords, DoesNothing, AllowsPulse, FeignsTheRest, ClaimsBytes, IdleExcluded}
use Rattle.demands.proofs.Demand2.{was_made, fresh_grown}
use Rattle.demands.proofs.Program.{meets_says, meets_reads}
use Rattle.demands.proofs.FreshCalls.{ticks_0, strays_2, then_strays_2, then_goes_on_1, stop_files}
use Rattle.demands.proofs.LeastPulse.{opening, least_pulses}

-- a readout that is answered 0 reports the tail's bytes
copied_used : (tail out : List ℕ) → (copied tail out).report.answer ≡ 0 → (copied tail out).report.used ≡ length tail
copied_used tail out =
    either_way (ltb (length out) (length tail)) (λ e. rw e (λ z. absurd (omega arith))) (λ e. rw e (λ z. refl))

module _ (x : Program) (m : Meets x) (p : Profile) (capacity : ℕ) (made : make_answer p capacity ≡ 0) where
  answers : (rs : List Request) (c : Call) → (x.says p capacity rs c).answer ≡ (step p (after p fresh (acts rs)) c).answer
  answers rs c = ap (λ (o : Spoken). o.answer) (meets_says m p capacity made rs c)

  refusing : RefusesAll x p capacity → ⊥
  unfolding after
  refusing r = r [] tick (answers [] tick ∙ ticks_0 p)

  repeating : RepeatsOne x p capacity → ⊥
  unfolding after
  repeating r =
      omega (arith, r.1 [] tick, answers [] tick, ticks_0 p, r.1 [] (byte 0), answers [] (byte 0), strays_2 p)

  never_pulsing : AllowsPulse p → NeverPulses x p capacity → ⊥
  never_pulsing a r =
      let rs : List Request = map act (opening p a) in
      let one = ap (λ (o : Spoken). o.pulses) (meets_says m p capacity made rs (byte 1)) ∙ least_pulses p a in
      omega (arith, ap length (sym (r rs (byte 1)) ∙ one))

  never_recording : NeverRecords x p capacity → ⊥
  unfolding make_of
  never_recording r =
      let rs : List Request = act (byte 0xC0) ∷ [] in
      let out : List ℕ = replicate 7 0 in
      let least : 16 ≤ capacity = (fresh_grown p capacity (was_made p capacity made) []).ring.least in
      let e = meets_reads m p capacity made rs out ∙ ap (λ (tail : List ℕ). copied tail out) (stop_files p capacity least) in
      omega (arith, r rs out, ap (λ (o : Copied). o.report.used) e)

  doing_nothing : DoesNothing x p capacity → ⊥
  doing_nothing r = never_recording r.1

  feigning : FeignsTheRest x p capacity → ⊥
  feigning r =
      let strays = answers (act tick ∷ act tick ∷ []) (byte 0) ∙ then_strays_2 p in
      let goes_on_lem = answers (act tick ∷ act (byte 0x80) ∷ []) (byte 0) ∙ then_goes_on_1 p in
      omega (arith, strays, goes_on_lem, ap (λ (o : Spoken). o.answer) (r tick (byte 0) (tick ∷ []) (byte 0x80 ∷ []) refl))

  claiming : ClaimsBytes x p capacity → ⊥
  claiming r =
      let e = meets_reads m p capacity made r.behind r.out in
      let used = copied_used (tail_of p capacity (acts r.behind)) r.out (ap (λ (o : Copied). o.report.answer) (sym e) ∙ r.done) in
      r.made_up (ap (λ (o : Copied). o.report.used) e ∙ used)

pub excluded : IdleExcluded
excluded x m p capacity made =
    record {
      refusing = refusing x m p capacity made;
      repeating = repeating x m p capacity made;
      doing_nothing = doing_nothing x m p capacity made;
      never_pulsing = never_pulsing x m p capacity made;
      never_recording = never_recording x m p capacity made;
      feigning = feigning x m p capacity made;
      claiming = claiming x m p capacity made;
    }
