-- No record and no pulse of a step is lost by value. Assumes nothing.
use Prim.Native.Nat.{ℕ, ◌+◌, ◌≤◌, ◌<◌}
use mathlib.Core.Bool.{true, false}
use mathlib.Core.Path.{◌≡◌, refl}
use mathlib.Core.List.{List, [], ◌∷◌, ◌++◌}
use native.Mathlib.Omega.{arith}
use lib.Dec.{ltb, eqb}
use lib.ListN.{length}
use borrow.Author.Tests.{ltb-true, ltb-false, le-leb, lt-leb, ne_eqb}
use Rattle.commands.specs.Ranges.{within}
use Rattle.trace.specs.declared.Record.{Record}
use Rattle.model.specs.declared.Run.{Run}
use Rattle.model.specs.Claims.{pulse_at}
use Rattle.model.proofs.Tests.{either_way}
use Rattle.model.proofs.Few.{Behind, Behind.nothing, Behind.a_pulse, Behind.a_trip, Releases, Releases.bare, Releases.behind, Releases.due}
use Rattle.said.specs.Said.{pulse_of, records_of}
use Rattle.outcome.specs.Claims.{row, pulses_in, in_place}

-- two records at most come back whole
pub row_back : (xs : List Record) → length xs ≤ 2 → row (records_of xs) ≡ xs
row_back [] h = refl
row_back (x ∷ []) h = refl
row_back (x ∷ y ∷ []) h = refl
row_back (x ∷ y ∷ z ∷ xs) h = absurd (omega arith)

-- the ring's channels: A's are 1 to 4, B's 5 to 8, and none is 0
pub in_a : (i : ℕ) → i < 4 → (within 1 (i + 1) 4 ≡ true) × (within 5 (i + 1) 8 ≡ false)
in_a i h = (rw (le-leb 1 (i + 1) (omega arith), le-leb (i + 1) 4 (omega arith)), rw (lt-leb 5 (i + 1) (omega arith)))

pub in_b : (i : ℕ) → 4 ≤ i → i < 8 → (within 1 (i + 1) 4 ≡ false) × (within 5 (i + 1) 8 ≡ true)
in_b i h l =
    (rw (le-leb 1 (i + 1) (omega arith), lt-leb (i + 1) 4 (omega arith)), rw (le-leb 5 (i + 1) (omega arith), le-leb (i + 1) 8 (omega arith)))

pub not_none : (i : ℕ) → eqb (i + 1) 0 ≡ false
not_none i = ne_eqb (i + 1) 0 (omega arith)

-- the two places hold the pulses of the records
abbrev Placed : List Record → Type 0
Placed xs = in_place (pulse_of 1 4 xs) ++ in_place (pulse_of 5 8 xs) ≡ pulses_in xs

behind_placed : {xs : List Record} → Behind xs → Placed xs
unfolding pulse_of pulses_in
behind_placed nothing = refl
behind_placed (a_trip clock cause) = refl
behind_placed (a_pulse clock i width current h) =
    either_way (ltb i 4)
    (λ e. let t = in_a i (ltb-true i 4 e) in rw (t.0, t.1, not_none i))
    (λ e. let t = in_b i (ltb-false i 4 e) h in rw (t.0, t.1, not_none i))

due_placed : (clock : ℕ) (r : Run) (i j : ℕ) → (i < 8 → i < 4) → (j < 8 → 4 ≤ j) → Placed (pulse_at clock r i ++ pulse_at clock r j)
unfolding pulse_of pulses_in
due_placed clock r i j f g =
    either_way (ltb i 8)
    (λ e.
    let a = in_a i (f (ltb-true i 8 e)) in
    either_way (ltb j 8)
    (λ d. let b = in_b j (g (ltb-true j 8 d)) (ltb-true j 8 d) in rw (e, d, a.0, a.1, b.1, not_none i, not_none j))
    (λ d. rw (e, d, a.0, a.1, not_none i)))
    (λ e.
    either_way (ltb j 8)
    (λ d. let b = in_b j (g (ltb-true j 8 d)) (ltb-true j 8 d) in rw (e, d, b.0, b.1, not_none j))
    (λ d. rw (e, d)))

pub placed : {xs : List Record} → Releases xs → Placed xs
unfolding pulse_of pulses_in
placed (bare b) = behind_placed b
placed (behind clock k answer b) = behind_placed b
placed (due clock r i j f g) = due_placed clock r i j f g
