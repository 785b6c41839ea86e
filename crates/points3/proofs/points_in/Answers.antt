-- `points3::points_in` meets its contract: one more point is read, tested and weighed. Assumes nothing.
use Prim.Native.Nat.{ℕ, ◌+◌}
use mathlib.Core.Path.{◌≡◌, refl, ap, ap₂, ◌∙◌}
use mathlib.Core.Bool.{true}
use mathlib.Core.List.{List}
use native.Mathlib.Omega.{arith}
use native.Mathlib.Numerals.{add-one}
use lib.IntN.{ℤ, ◌+ℤ◌}
use lib.ListN.{set}
use mir.Syntax.{w32}
use mir.Val.{to_z, of_z}
use mir.Facts.{to_z-of_z}
use borrow.Author.Rules.{rules}
use Rattle.std.specs.Prelude.{Some}
use Rattle.charge.specs.declared.Point.{Point}
use Rattle.commands3.specs.Points.{points_in}
use Rattle.points3.specs.Pulses.{points_right, parts_of, points_read}
use Rattle.points3.proofs.OneMore.{one_more, parts_fit, bit_stops, point, bad_stops, one_right, one_part, all_read}
use Rattle.points3.proofs.points_in.Goals as goal
use Rattle.points3.proofs.points_in.Goals.{In_ok-charge}

pub loop-i-init : goal.loop-i-init
unfolding points_in points_right parts_of
loop-i-init c = (refl, refl, refl)

pub returns-then-w-ne0 : goal.returns-then-w-ne0
returns-then-w-ne0 c = bit_stops c.args.d.now c.loop-i.i _ c.word_at-w.ensures c.args.number c.loop-i-test.true c.if-w-ne0.true

pub returns-in_err-charge : goal.returns-in_err-charge
returns-in_err-charge c =
    c.from_residual.ensures ∙ bad_stops c.args.d.now c.loop-i.i _ c.word_at-w.ensures _ c.point_of-p.ensures c.args.number c.loop-i-test.true c.in_err-charge.ensures

module _ (c : In_ok-charge) where
  abbrev d : List ℕ
  d = c.args.d.now

  abbrev i : ℕ
  i = c.loop-i.i

  told : to_z w32 (of_z w32 c.in_ok-charge.field-0) ≡ c.in_ok-charge.field-0
  told = search rules

  right : points_right (i + 1) d ≡ true
  right = one_right d i _ c.word_at-w.ensures _ c.point_of-p.ensures c.if-w-ne0.false _ c.in_ok-charge.ensures c.loop-i.invariant.1

  sum : to_z w32 c.loop-i.charge-bits +ℤ to_z w32 (of_z w32 c.in_ok-charge.field-0) ≡ parts_of (i + 1) d
  sum =
      ap₂ (λ (x y : ℤ). x +ℤ y) c.loop-i.invariant.2 told
      ∙ one_part d i _ c.word_at-w.ensures _ c.point_of-p.ensures c.if-w-ne0.false _ c.in_ok-charge.ensures

pub overflow_add-charge : goal.overflow_add-charge
overflow_add-charge c = rw (sum c) (parts_fit (i c + 1) (d c) (omega arith) (right c))

pub loop-i-preserved : goal.loop-i-preserved
loop-i-preserved c =
    let p = point (d c) (i c) _ c.word_at-w.ensures _ c.point_of-p.ensures in (
      rw (add-one (i c)) (ap₂ (λ (l : List Point) (q : Point). set l (i c) q) c.loop-i.invariant.0 p ∙ one_more 16 (i c) (d c) (omega arith)),
      right c,
      rw (sum c) (to_z-of_z {w = w32} (parts_fit (i c + 1) (d c) (omega arith) (right c))),
    )

pub returns : goal.returns
returns c =
    let l = c.loop-i in
    let e : l.i ≡ c.args.number = omega arith in
    ap₂ (λ (p : List Point) (z : ℤ). Some (record { points = p; charge = z })) l.invariant.0 l.invariant.2
    ∙ all_read l.i c.args.d.now l.invariant.1
    ∙ ap (λ (n : ℕ). points_read n c.args.d.now) e
