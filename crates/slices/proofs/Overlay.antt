-- The laws of bytes put to the start of an output. Assumes nothing.
use mathlib.Core.Path.{◌≡◌, refl, sym, ap, ◌∙◌}
use mathlib.Core.Bool.{Bool, true, false}
use mathlib.Core.Logic.{⊎_elim}
use mathlib.Core.List.{List, [], ◌∷◌, ◌++◌, append-nil}
use Prim.Native.Nat.{ℕ, suc, ◌+◌, ◌≤◌, ◌<◌, min}
use Rattle.std.proofs.lemmas.Bool.{cases_lt}
use native.Mathlib.Numerals.{add-one}
use native.Mathlib.Omega.{arith}
use borrow.Author.Tests.{ltb-true, ltb-false}
use lib.Dec.{ltb}
use lib.ListN.{length, take, drop, set, length-set, take-append-drop, drop_of_length-le}
use lib.Seq.{take_all, take-nil, drop-nil, drop-cons, take-suc-set, drop-set-lt, set_out, append_snoc}
use Rattle.slices.specs.Overlay.{overlay}

pub overlay_fits : (bytes out : List ℕ) → length bytes ≤ length out → overlay bytes out ≡ bytes ++ drop (length bytes) out
unfolding overlay
overlay_fits bytes out h = rw (take_all (length out) bytes h)

-- ---- an output of which a part is put: out as it stands up to place to, and bytes from there on
abbrev pub from : ℕ → List ℕ → List ℕ → List ℕ
from to bytes out = take to out ++ overlay bytes (drop to out)

-- no byte left, or no room
pub from_end : (to : ℕ) (out : List ℕ) → from to [] out ≡ out
unfolding overlay
from_end to out = rw take-nil (take-append-drop to out)

from_full : (to : ℕ) (bytes out : List ℕ) → length out ≤ to → from to bytes out ≡ out
unfolding overlay
from_full to bytes out h = rw (drop_of_length-le out h, drop-nil, take_all to out h) (append-nil out)

-- a byte more
pub from_on : (to v : ℕ) (bytes out : List ℕ) → from (to + 1) bytes (set out to v) ≡ from to (v ∷ bytes) out
unfolding overlay
from_on to v bytes out = by (ltb to (length out)) refl
  where
    within : to < length out → from (to + 1) bytes (set out to v) ≡ from to (v ∷ bytes) out
    within h =
        rw (add-one to, take-suc-set out to v h, drop-set-lt (suc to) out to v (omega arith), drop-cons out to 0 h)
        (append_snoc (take to out) v (overlay bytes (drop (suc to) out)))

    past : length out ≤ to → from (to + 1) bytes (set out to v) ≡ from to (v ∷ bytes) out
    past h = from_full (to + 1) bytes (set out to v) (omega (arith, length-set out to v)) ∙ set_out out to v h ∙ sym (from_full to (v ∷ bytes) out h)

    by : (t : Bool) → ltb to (length out) ≡ t → from (to + 1) bytes (set out to v) ≡ from to (v ∷ bytes) out
    by true e = within (ltb-true to (length out) e)
    by false e = past (ltb-false to (length out) e)

-- as many were put as there are bytes or room
pub from_past : (to : ℕ) (bytes out : List ℕ) → min (length bytes) (length out) ≤ to → from to (drop to bytes) out ≡ out
from_past to bytes out h = ⊎_elim none full (cases_lt (length bytes) (length out))
  where
    none : length bytes < length out → from to (drop to bytes) out ≡ out
    none l = ap (λ (b : List ℕ). from to b out) (drop_of_length-le bytes (omega arith)) ∙ from_end to out

    full : length out ≤ length bytes → from to (drop to bytes) out ≡ out
    full l = from_full to (drop to bytes) out (omega arith)
