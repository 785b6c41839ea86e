-- `packets::read_covered` meets its contract. Assumes nothing.
use mathlib.Core.Path.{◌≡◌, sym, ap, ◌∙◌}
use mathlib.Core.Bool.{false, ◌&&◌}
use Prim.Native.Nat.{ℕ}
use native.Mathlib.Omega.{arith}
use lib.ListN.{length}
use Rattle.stuffing.specs.Stuffing.{stuffed, pairs_good}
use Rattle.stuffing.proofs.Laws.{none_stuffed}
use Rattle.stuffing.proofs.Buffer.{front_stuffed}
use Rattle.packets.specs.Reader.{plain, put}
use Rattle.packets.proofs.Telling.{counted_ok, too_many, not_made, pairs_4, left_by_4, told_alike, put_alike}
use Rattle.packets.proofs.read_covered.Goals as goal
use Rattle.packets.proofs.read_covered.Goals.{in_default-via-in-Ok+else-n, in_default-via-in_default}

pub whole_as_slice-unstuff : goal.whole_as_slice-unstuff
whole_as_slice-unstuff g c = let few = g.met.P.Protocol.few in omega (arith, few)

pub returns-then-not-any_special : goal.returns-then-not-any_special
returns-then-not-any_special g c =
    let m = g.P.Protocol.generation in
    let b = c.args.covered.now in
    let out = c.args.out.now in
    let same = none_stuffed b (sym c.any_special.ensures ∙ c.if-not-any_special.true) in
    let r = c.read_plain.ensures in
    record { told = told_alike m c.read_plain.result (stuffed b) b (length out) same r.told; put = r.put ∙ put_alike m (stuffed b) b out same }

pub shared_whole_as_front-read_plain : goal.shared_whole_as_front-read_plain
shared_whole_as_front-read_plain g c = let few = g.met.P.Protocol.few in (c.if-n.true, omega (arith, few))

pub returns-in-Ok : goal.returns-in-Ok
returns-in-Ok g c =
    let m = g.P.Protocol.generation in
    let b = c.args.covered.now in
    let out = c.args.out.now in
    let k = counted_ok b c.in-Ok.n (sym c.in-Ok.is ∙ c.unstuff.ensures.counted) in
    let same = front_stuffed b g.row.MOST c.in-Ok.n k.1 k.0 c.if-n.true _ c.unstuff.ensures.put in
    let r = c.read_plain-in-Ok.ensures in
    record { told = told_alike m c.read_plain-in-Ok.result _ b (length out) same r.told; put = r.put ∙ put_alike m _ b out same }

pub returns-in_default : goal.returns-in_default
returns-in_default g c =
    let m = g.P.Protocol.generation in
    let b = c.args.covered.now in
    let out = c.args.out.now in
    let bad : (pairs_good false b && m.size_good (length (plain b))) ≡ false =
    elim c.in_default.branch [
      | in_default-via-in-Ok+else-n w ↦ too_many m b g.row.MOST c.requires w.in-Ok.n (sym w.in-Ok.is ∙ c.unstuff.ensures.counted) w.if-n.false
      | in_default-via-in_default w ↦ not_made m b g.row.MOST c.requires w.in_default.field-0 (sym w.in_default.is ∙ c.unstuff.ensures.counted)
    ] in
    let e = pairs_4 m b (length out) bad in
    record { told = e; put = left_by_4 b out ∙ sym (ap (λ (n : ℕ). put n b out) e) }
