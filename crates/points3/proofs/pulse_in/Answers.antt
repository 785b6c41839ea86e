-- `points3::pulse_in` meets its contract. Assumes nothing.
use Prim.Native.Nat.{ℕ, ◌-◌}
use mathlib.Core.Path.{◌≡◌, ap, ◌∙◌}
use mathlib.Core.List.{List}
use native.Mathlib.Omega.{arith}
use lib.ListN.{length, take, drop, length-drop}
use lib.Seq.{take_all}
use mir.Syntax.{w32}
use mir.Val.{to_z, of_z}
use Rattle.points3.specs.Pulses.{points_read}
use Rattle.points3.proofs.GoodPulse.{told, wrong_size, wrong_bit}
use borrow.Author.Rules.{rules}
use Rattle.points3.proofs.pulse_in.Goals as goal
use Rattle.points3.proofs.pulse_in.Goals.{then-d-number-via-then-d-number, then-d-number-via-else-d-number+then-first-ne0}

behind : (d : List ℕ) → take (length d - 1) (drop 1 d) ≡ drop 1 d
behind d = take_all (length d - 1) (drop 1 d) (rw length-drop (omega arith))

pub returns-then-d-number : goal.returns-then-d-number
returns-then-d-number c =
    let d = c.args.d.now in
    let first = c.byte_at-first.ensures in
    elim c.then-d-number.branch [
      | then-d-number-via-then-d-number w ↦ wrong_size d _ first w.if-d-number.true
      | then-d-number-via-else-d-number+then-first-ne0 w ↦ wrong_bit d _ first w.if-first-ne0.true
    ]

pub returns-in_err-read : goal.returns-in_err-read
returns-in_err-read c =
    let d = c.args.d.now in
    c.from_residual.ensures
    ∙ told d _ c.byte_at-first.ensures c.if-d-number.false c.if-first-ne0.false _ (c.in_err-read.ensures ∙ ap (points_read _) (behind d))

pub returns : goal.returns
returns c =
    let d = c.args.d.now in
    let read = c.in_ok-read.read in
    let z : to_z w32 (of_z w32 read.charge) ≡ read.charge = search rules in
    rw z (told d _ c.byte_at-first.ensures c.if-d-number.false c.if-first-ne0.false _ (c.in_ok-read.ensures ∙ ap (points_read _) (behind d)))
