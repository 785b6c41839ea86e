-- Commands there and back: a good command written is read again as it was, and a right one that is read is written again byte for byte.
-- Assumes nothing.
use Prim.Native.Nat.{ℕ, zero, suc, ◌+◌, ◌*◌, ◌/◌, ◌%◌, ◌<◌}
use mathlib.Core.Path.{◌≡◌, refl, sym, ap, ap₂}
use mathlib.Core.Logic.{⊎_elim}
use mathlib.Core.Bool.{Bool, true, false, cond, and-eq-true_iff}
use mathlib.Core.List.{List, [], ◌∷◌}
use native.Mathlib.Nat.{div-add-mod', add-zero, add-suc, zero-add, suc-add}
use native.Mathlib.Omega.{arith}
use lib.Dec.{eqb}
use lib.ListN.{length, get_or}
use lib.Seq.{ext_get_or}
use borrow.Author.Tests.{eqb-true, eq-eqb}
use Rattle.commands2.specs.declared.ChannelList.{ChannelList}
use Rattle.commands2.specs.declared.Command.{Command}
use Rattle.commands2.specs.declared.Command.TheVariants.{Init, InitAck, UnknownCommand, Watchdog, GetStimulationMode, GetStimulationModeAck, InitChannelListMode, InitChannelListModeAck, Other}
use Rattle.commands2.specs.Results.{no_error, good_result, signed_of, byte_of}
use Rattle.commands2.specs.Commands.{number_of, data_of, good_mode, good, list_in, command_of, is_other, right}
use Rattle.commands2.proofs.Bytes.{signed_byte, byte_signed}
use Rattle.commands2.proofs.EachCommand.{carried_or_other, each_read}

-- ---- writing, then reading

-- THEOREM. Another command is not good.
good_not_other : (c : Command) → good c ≡ true → is_other c ≡ false
good_not_other c g = ⊎_elim (λ e. e) (λ o. let h : good (Other o.0) ≡ true = rw o.1 at g in cc) (carried_or_other c)

mode_back : (there : Bool) (mode : ℕ) → good_mode there mode ≡ true → get_or (cond there (mode ∷ []) []) 0 0 ≡ mode
mode_back true mode g = refl
mode_back false mode g = sym (eqb-true mode 0 g)

list_back : (list : ChannelList) → list_in (data_of (InitChannelListMode list)) ≡ list
list_back list = rw (div-add-mod' list.main 256)

-- THEOREM. A good command is read from its own number and data bytes.
pub reads_data : (c : Command) → good c ≡ true → command_of (number_of c) (data_of c) ≡ c
unfolding command_of
reads_data (Init version) g = refl
reads_data (InitAck result) g = ap InitAck (signed_byte result g)
reads_data (UnknownCommand echo) g = refl
reads_data Watchdog g = refl
reads_data GetStimulationMode g = refl
reads_data (GetStimulationModeAck result mode) g =
    let both = (and-eq-true_iff (good_result result) (good_mode (no_error result) mode)).0 g in
    ap₂ GetStimulationModeAck (signed_byte result both.0) (mode_back (no_error result) mode both.1)
reads_data (InitChannelListMode list) g = ap InitChannelListMode (list_back list)
reads_data (InitChannelListModeAck result) g = ap InitChannelListModeAck (signed_byte result g)
reads_data (Other number) g = cc

-- THEOREM. A good command's data bytes are as many as it asks for.
pub right_data : (c : Command) → good c ≡ true → right c (length (data_of c)) ≡ true
unfolding right
right_data c g = rw (good_not_other c g, g, eq-eqb (length (data_of c)) (length (data_of c)) refl)

-- ---- reading, then writing

-- THEOREM. The command of a number has that number.
pub number_of_lem : (number : ℕ) (d : List ℕ) → number_of (command_of number d) ≡ number
number_of_lem number d = each_read number d (λ c. number_of c ≡ number) sym sym sym sym sym sym sym sym refl

-- bytes that stand in d from a place on
data Stand (d : List ℕ) : ℕ → List ℕ → Type 0 where
  none : {k : ℕ} → Stand d k []
  next : {k b : ℕ} {l : List ℕ} → b ≡ get_or d k 0 → Stand d (suc k) l → Stand d k (b ∷ l)

module _ (d : List ℕ) where
  stand_at : {k : ℕ} {l : List ℕ} → Stand d k l → (i : ℕ) → i < length l → get_or l i 0 ≡ get_or d (k + i) 0
  stand_at none i h = absurd (omega arith)
  stand_at (next e s) zero h = rw add-zero e
  stand_at (next e s) (suc i) h = rw add-suc (rw suc-add at (stand_at s i (omega arith)))

  either : {k : ℕ} {a b : List ℕ} (t : Bool) → Stand d k a → Stand d k b → Stand d k (cond t a b)
  either true p q = p
  either false p q = q

  module _ (number : ℕ) (byte : (i : ℕ) → get_or d i 0 < 256) where
    data_stand : Stand d 0 (data_of (command_of number d))
    data_stand =
        let back : byte_of (signed_of (get_or d 0 0)) ≡ get_or d 0 0 = byte_signed (get_or d 0 0) (byte 0) in
        let main = get_or d 4 0 * 256 + get_or d 5 0 in
        let high : main / 256 ≡ get_or d 4 0 = omega (arith, byte 5) in
        let low : main % 256 ≡ get_or d 5 0 = omega (arith, byte 5) in
        each_read
        number
        d
        (λ c. Stand d 0 (data_of c))
        (λ e. next refl none)
        (λ e. next back none)
        (λ e. next refl none)
        (λ e. none)
        (λ e. none)
        (λ e. next back (either (no_error (signed_of (get_or d 0 0))) (next refl none) none))
        (λ e. next refl (next refl (next refl (next refl (next high (next low (next refl none)))))))
        (λ e. next back none)
        none

right_parts : (c : Command) (size : ℕ) → is_other c ≡ false → right c size ≡ true → (good c ≡ true) × (length (data_of c) ≡ size)
unfolding right
right_parts c size o r =
    let both = (and-eq-true_iff (good c) (eqb (length (data_of c)) size)).0 (rw o at r) in
    (both.0, eqb-true (length (data_of c)) size both.1)

-- THEOREM. A carried command that is read right from bytes is good, and its data bytes are those.
pub writes_data : (number : ℕ) (d : List ℕ) → ((i : ℕ) → get_or d i 0 < 256) → is_other (command_of number d) ≡ false → right (command_of number d) (length d) ≡ true → (good (command_of number d) ≡ true) × (data_of (command_of number d) ≡ d)
writes_data number d byte o r =
    let parts = right_parts (command_of number d) (length d) o r in
    (parts.0, ext_get_or 0 _ d parts.1 (λ i h. rw zero-add at (stand_at d (data_stand d number byte) i h)))
