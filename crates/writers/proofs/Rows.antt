-- Laws of the rows of an Update that are stored: their bytes, a turn of the loop over them, and the byte before them. Assumes nothing.
use Prim.Native.Nat.{ℕ, suc, ◌+◌, ◌*◌, ◌≤◌, ◌<◌}
use mathlib.Core.Path.{◌≡◌, refl, ap, ◌∙◌}
use mathlib.Core.List.{List, [], ◌∷◌}
use native.Mathlib.Omega.{arith}
use native.Mathlib.Numerals.{add-one}
use lib.ListN.{length, get_or, set, take, drop, drop_of_length-le}
use lib.Seq.{sets, set_comm, length-take-le, drop-cons}
use Rattle.std.specs.Prelude.{EachIndex}
use Rattle.std.proofs.lemmas.List.{get_or-take}
use Rattle.commands.specs.declared.Setting.{Setting}
use mathlib.Core.Bool.{true}
use Rattle.commands.specs.Commands.{Command.update, no_setting, good_setting, good_entries}
use Rattle.commands.proofs.Fits.{listed_good}
use Rattle.checks.specs.Reduced.{reduced, settings_variables}
use Rattle.frames.specs.Bytes.{entry_bytes, settings_bytes, frame}

-- three bytes a setting
pub length_settings : (vs : List Setting) → length (settings_bytes vs) ≡ 3 * length vs
unfolding settings_bytes
length_settings [] = refl
length_settings (v ∷ vs) = omega (arith, length_settings vs)

pub length_update : (count : ℕ) (entries : List Setting) → count ≤ length entries → length (frame (update count entries)) ≡ 1 + 3 * count
length_update count entries h = omega (arith, length_settings (take count entries), length-take-le count entries h)

-- the entry of a turn takes one setting off those that are left
pub write_turn : (listed : List Setting) (i : ℕ) (out : List ℕ) → i < length listed
    → let v : Setting = get_or listed i no_setting in
    sets (sets out (1 + 3 * i) (entry_bytes 5 v.mode v.width v.current)) (1 + 3 * (i + 1)) (settings_bytes (drop (i + 1) listed))
    ≡ sets out (1 + 3 * i) (settings_bytes (drop i listed))
unfolding settings_bytes
write_turn listed i out h =
    let p : 1 + 3 * (i + 1) ≡ suc (suc (suc (1 + 3 * i))) = omega arith in
    rw (drop-cons listed i no_setting h, p, add-one i)

pub write_end : (listed : List Setting) (i at : ℕ) (out : List ℕ) → length listed ≤ i → sets out at (settings_bytes (drop i listed)) ≡ out
unfolding settings_bytes
write_end listed i at out h = rw (drop_of_length-le listed h)

-- and its variables off those that are left to be summed
pub sum_turn : (listed : List Setting) (i remainder : ℕ) → i < length listed
    → let v : Setting = get_or listed i no_setting in
    reduced 32 (reduced 32 remainder (v.mode ∷ v.width ∷ v.current ∷ [])) (settings_variables (drop (i + 1) listed))
    ≡ reduced 32 remainder (settings_variables (drop i listed))
unfolding reduced settings_variables
sum_turn listed i remainder h = rw (drop-cons listed i no_setting h, add-one i)

pub sum_end : (listed : List Setting) (i remainder : ℕ) → length listed ≤ i → reduced 32 remainder (settings_variables (drop i listed)) ≡ remainder
unfolding reduced settings_variables
sum_end listed i remainder h = rw (drop_of_length-le listed h)

-- the listed entries of a good Update are good
pub listed_good_each : (entries : List Setting) (count : ℕ) → good_entries entries count ≡ true → count ≤ length entries
    → EachIndex (take count entries) (λ i. good_setting (get_or (take count entries) i no_setting) ≡ true)
listed_good_each entries count e h i k =
    let n : i < count = omega (arith, length-take-le count entries h) in
    rw get_or-take (listed_good entries count i e n)

-- a byte that stands before others and is stored after them
pub set_after : (out bs : List ℕ) (i j b : ℕ) → i < j → set (sets out j bs) i b ≡ sets (set out i b) j bs
set_after out [] i j b h = refl
set_after out (x ∷ bs) i j b h =
    set_after (set out j x) bs i (suc j) b (omega arith) ∙ ap (λ (l : List ℕ). sets l (suc j) bs) (set_comm out j i x b (λ e. omega arith))
