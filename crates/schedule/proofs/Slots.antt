-- Document 01, "The machine", slots: laws of one turn of the loop over a module. Assumes nothing.
use Prim.Native.Nat.{ℕ, suc, ◌+◌, ◌*◌, ◌-◌, ◌≤◌, ◌<◌}
use mathlib.Core.Bool.{Bool, true, false, cond, ◌&&◌}
use mathlib.Core.Path.{◌≡◌, refl}
use native.Mathlib.Omega.{arith}
use native.Mathlib.Numerals.{add-one}
use native.Mathlib.Nat.{sub-zero}
use lib.Dec.{ltb}
use lib.ListN.{get_or}
use Rattle.std.proofs.Common.{Some, None}
use borrow.Author.Tests.{lt-ltb, le-ltb, ltb-true}
use Rattle.commands.specs.declared.Setting.{Setting}
use Rattle.commands.specs.Commands.{no_setting}
use Rattle.model.specs.declared.Module.{Module}
use Rattle.model.specs.declared.Module.TheVariants.{A, B}
use Rattle.model.specs.declared.Run.{Run}
use Rattle.model.specs.Channels.{in_set, many}
use Rattle.model.specs.Timing.{t2}
use Rattle.model.specs.Modules.{first, offset}
use Rattle.model.specs.Slots.{slot, in_turn, felt, hits, due, first_due, if_any}
use Rattle.model.proofs.Tests.{either_way}
use Rattle.model.proofs.Turns.{many_turn}

-- no module begins later
pub module_le : (m : Module) → (first m ≤ 4) × (offset m ≤ 6)
module_le A = omega arith
module_le B = omega arith

-- a channel's slot begins behind those of the listed channels below it in its module
abbrev pub begin : Module → ℕ → ℕ → ℕ
begin m stim i = 15 * many stim (first m) (i - first m) + offset m

slot_is : (m : Module) (stim i : ℕ) → first m ≤ i → i < first m + 4 → slot stim i ≡ begin m stim i
unfolding slot
slot_is A stim i l h = rw (lt-ltb i 4 h, sub-zero) (omega arith)
slot_is B stim i l h = rw (le-ltb i 4 l)

pub begin_first : (m : Module) (stim : ℕ) → begin m stim (first m) ≡ offset m
unfolding many
begin_first A stim = refl
begin_first B stim = refl

-- a slot is kept for every listed channel
pub begin_next : (m : Module) (stim i : ℕ) (listed : Bool) → first m ≤ i → listed ≡ in_set stim i
    → begin m stim (i + 1) ≡ begin m stim i + 15 * cond listed 1 0
begin_next m stim i listed l e =
    let n : i + 1 - first m ≡ i - first m + 1 = omega arith in
    let j : first m + (i - first m) ≡ i = omega arith in
    rw (n, many_turn (i - first m) stim (first m) listed (rw j e)) (omega arith)

-- the lowest due channel is this one or the lowest of those after it
pub due_turn : (r : Run) (m : Module) (i from : ℕ) → first m ≤ i → i < first m + 4 → from ≡ begin m r.list.stim i
    → let x : Setting = get_or r.settings i no_setting in
    first_due r i (first m + 4 - i)
    ≡ cond
    (in_set r.list.stim i && in_turn r.list r.cycle i && felt x.width x.current && hits r.position from (t2 r.list.group) x.mode)
    i
    (first_due r (i + 1) (first m + 4 - (i + 1)))
unfolding first_due due
due_turn r m i from l h e =
    let left : first m + 4 - i ≡ suc (first m + 4 - (i + 1)) = omega arith in
    rw (left, add-one, e, slot_is m r.list.stim i l h)

-- no channel is left
pub due_end : (r : Run) (i : ℕ) → first_due r i 0 ≡ 8
unfolding first_due
due_end r i = refl

-- a channel that is due, and none, told by type
pub is_any : (n i : ℕ) → Some i ≡ if_any n → (ltb n 8 ≡ true) × (n < 8) × (i ≡ n)
is_any n i e =
    either_way (ltb n 8) (λ t. let s : Some i ≡ Some n = rw t at e in (t, ltb-true n 8 t, cc)) (λ t. let s : Some i ≡ None = rw t at e in absurd cc)

pub is_none : (n : ℕ) → None ≡ if_any n → ltb n 8 ≡ false
is_none n e = either_way (ltb n 8) (λ t. let s : None ≡ Some n = rw t at e in absurd cc) (λ t. t)
