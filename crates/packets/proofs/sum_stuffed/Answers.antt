-- `packets::sum_stuffed`: a turn takes what the first byte left becomes, and behind the last none is left. Assumes nothing.
use mathlib.Core.Path.{◌≡◌, refl, sym, ap, ap₂, ◌∙◌}
use Prim.Native.Nat.{ℕ, ◌+◌}
use native.Mathlib.Omega.{arith}
use borrow.Author.Rules.{rules}
use lib.ListN.{length, drop, get_or}
use Rattle.crc.specs.Crc.{crc, byte_step}
use Rattle.stuffing.specs.Stuffing.{stuffed, stuffed_byte}
use Rattle.stuffing.proofs.Laws.{stuffed_special, stuffed_plain, size_le, turn_length, end, stuffed_nil, stuffed_cons}
use Rattle.packets.proofs.Checksum.{step_special, step_plain, check_turn, check_end}
use Rattle.packets.proofs.sum_stuffed.Goals as goal
use Rattle.packets.proofs.sum_stuffed.Goals.{then-is_special, else-is_special}

pub loop-byte-init : goal.loop-byte-init
loop-byte-init g c = let m = g.R.Remainder in (ap (λ (n : ℕ). crc m.top m.polynomial n (stuffed c.args.bytes.now)) c.start-check.ensures, omega arith, omega arith)

pub loop-byte-preserved : goal.loop-byte-preserved
loop-byte-preserved g c =
    let m = g.R.Remainder in
    let k = m.top in
    let p = m.polynomial in
    let l = c.loop-byte in
    let s = c.args.bytes.now in
    let special = c.is_special in
    let j = c.if-is_special in
    let b = get_or s l.byte-index 0 in
    let stepped : (byte_step k p (m.number j.check) j.b ≡ crc k p (m.number l.check) (stuffed_byte b)) × (j.size + 1 ≡ l.size + length (stuffed_byte b)) =
    elim j.branch [
      | then-is_special w ↦ let e = sym special.ensures ∙ w.if-is_special.true in (
        ap₂ (byte_step k p) (ap m.number w.check-is ∙ w.after-check.ensures) w.b-is ∙ step_special k p (m.number l.check) b e,
        omega (arith, w.size-is, ap length (stuffed_special b e)),
      )
      | else-is_special w ↦ let e = sym special.ensures ∙ w.if-is_special.false in
          (ap₂ (byte_step k p) (ap m.number w.check-is) w.b-is ∙ step_plain k p (m.number l.check) b e, omega (arith, w.size-is, ap length (stuffed_plain b e)))
    ] in
    let n = turn_length stuffed_byte stuffed stuffed_nil stuffed_cons s l.byte-index (search rules) in (
      ap (λ (n : ℕ). crc k p n (stuffed (drop (l.byte-index + 1) s))) (c.after-check-in-loop-byte.ensures ∙ stepped.0)
          ∙ sym (check_turn k p (m.number l.check) s l.byte-index (search rules)) ∙ l.invariant.0,
      omega (arith, stepped.1, size_le b _ refl, l.invariant.1),
      omega (arith, stepped.1, n, l.invariant.2),
    )

pub returns-clause-check : goal.returns-clause-check
returns-clause-check g c =
    let m = g.R.Remainder in
    let l = c.loop-byte in
    sym (check_end m.top m.polynomial (m.number l.check) c.args.bytes.now l.byte-index (search rules)) ∙ l.invariant.0

pub returns-clause-size : goal.returns-clause-size
returns-clause-size g c =
    let l = c.loop-byte in
    omega (arith, ap length (end stuffed_byte stuffed stuffed_nil stuffed_cons c.args.bytes.now l.byte-index (search rules)), l.invariant.2)
