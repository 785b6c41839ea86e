-- Ticks behind calls that left the box tripped add no record. Assumes nothing.
use Prim.Native.Nat.{ℕ}
use mathlib.Core.Bool.{true}
use mathlib.Core.Path.{◌≡◌, refl, sym}
use mathlib.Core.List.{List, [], ◌∷◌, ◌++◌, append-nil, append_assoc}
use Rattle.trace.specs.declared.Record.{Record}
use Rattle.model.specs.declared.Profile.{Profile}
use Rattle.model.specs.State.{State, is_tripped}
use Rattle.model.specs.Machine.{Call, Outcome, step, run, after}
use Rattle.model.specs.Claims.{Silent}
use Rattle.model.proofs.Theorems.{silent_once_tripped}
use Rattle.demands.specs.FreshBox.{ticks, trace}

-- calls that follow others add their records
trace_behind : (p : Profile) (s : State) (cs ds : List Call) → trace (run p s (cs ++ ds)) ≡ trace (run p s cs) ++ trace (run p (after p s cs) ds)
unfolding run after
trace_behind p s [] ds = refl
trace_behind p s (c ∷ cs) ds = rw (trace_behind p (step p s c).state cs ds) (sym (append_assoc (step p s c).records _ _))

-- silent ones none
silent_trace : (os : List Outcome) → Silent os → trace os ≡ []
silent_trace [] h = refl
silent_trace (o ∷ os) h = rw (h.0, silent_trace os h.1)

pub ticks_behind : (p : Profile) (s : State) (cs : List Call) {xs : List Record} → trace (run p s cs) ≡ xs → is_tripped (after p s cs).core ≡ true
    → (n : ℕ) → trace (run p s (cs ++ ticks n)) ≡ xs
ticks_behind p s cs {xs} e t n =
    rw (trace_behind p s cs (ticks n), e, silent_trace _ (silent_once_tripped p (after p s cs) t n).silent) (append-nil xs)
