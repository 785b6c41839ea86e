-- `encode3::contents::put_points` meets its contract. Assumes nothing.
use mathlib.Core.Path.{sym, ap, ◌∙◌}
use mathlib.Core.List.{List, ◌++◌, append-nil, append_assoc}
use Prim.Native.Nat.{ℕ}
use native.Mathlib.Omega.{arith}
use lib.ListN.{length, take, length-append, length-take}
use Rattle.charge.specs.Charge.{of_paper}
use Rattle.charge.proofs.Points.{no_point, all_at}
use Rattle.commands3.specs.Points.{point_bytes, bytes_of}
use Rattle.commands3.proofs.Points.{length_bytes}
use Rattle.encode3.proofs.Bytes.{bytes_end}
use Rattle.encode3.proofs.contents.put_points.Goals as goal

pub loop-p-init : goal.loop-p-init
unfolding bytes_of
loop-p-init c = sym (append-nil c.args.bytes.now.items)

pub point_bytes-requires : goal.point_bytes-requires
point_bytes-requires c =
    all_at of_paper c.args.points.now c.loop-p.p-index no_point (omega arith) c.requires.2

pub put-requires : goal.put-requires
unfolding point_bytes
put-requires c =
    let front = c.args.bytes.now.items in
    let points = take c.loop-p.p-index c.args.points.now in
    omega (arith, ap length c.loop-p.invariant, length-append front (bytes_of points), length_bytes points, length-take c.loop-p.p-index c.args.points.now, ap length c.point_bytes.ensures)

pub loop-p-preserved : goal.loop-p-preserved
loop-p-preserved c =
    let front = c.args.bytes.now.items in
    let i = c.loop-p.p-index in
    let points = c.args.points.now in
    rw (c.put.ensures, c.loop-p.invariant, c.point_bytes.ensures) (append_assoc front (bytes_of (take i points)) _ ∙ ap (λ (l : List ℕ). front ++ l) (sym (bytes_end points i no_point (omega arith))))
