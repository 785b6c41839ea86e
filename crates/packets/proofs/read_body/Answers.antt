-- `packets::read_body` meets its contract. Assumes nothing.
use mathlib.Core.Path.{◌≡◌, sym, ap, subst, ◌∙◌}
use mathlib.Core.List.{List}
use Prim.Native.Nat.{ℕ, ◌-◌}
use native.Mathlib.Omega.{arith}
use lib.ListN.{length, drop, take, length-drop}
use lib.Seq.{take_all}
use Rattle.packets.specs.Reader.{covered, put}
use Rattle.packets.specs.Reported.{Tells}
use Rattle.packets.proofs.Tests.{by_covered}
use Rattle.packets.proofs.Telling.{check_3, length_4, left_by_3, left_by_4, told_alike, put_alike, few_plain, short_meaning}
use Rattle.packets.proofs.read_body.Goals as goal

pub returns-then-not-check_right : goal.returns-then-not-check_right
returns-then-not-check_right g c =
    let m = g.P.Protocol.generation in
    let b = c.args.body.now in
    let out = c.args.out.now in
    let e = check_3 m b (length out) (sym c.check_right.ensures ∙ c.if-not-check_right.true) in
    record { told = e; put = left_by_3 (covered m b) out ∙ sym (ap (λ (n : ℕ). put n (covered m b) out) e); short = tt }

pub returns-then-not-length_right : goal.returns-then-not-length_right
returns-then-not-length_right g c =
    let m = g.P.Protocol.generation in
    let b = c.args.body.now in
    let out = c.args.out.now in
    let e = length_4 m b (length out) (sym c.check_right.ensures ∙ c.if-not-check_right.false) (sym c.length_right.ensures ∙ c.if-not-length_right.true) in
    record { told = e; put = left_by_4 (covered m b) out ∙ sym (ap (λ (n : ℕ). put n (covered m b) out) e); short = tt }

-- what stands behind the header
behind : (b : List ℕ) (n h : ℕ) → n ≡ h → take (length b - n) (drop n b) ≡ drop h b
behind b n h e = rw e (take_all (length b - h) (drop h b) (rw length-drop (omega arith)))

pub slice_bounds-read_covered-start : goal.slice_bounds-read_covered-start
slice_bounds-read_covered-start g c =
    let k = g.met.P.Protocol.behind c.args.body.now (sym c.check_right.ensures ∙ c.if-not-check_right.false) (sym c.length_right.ensures ∙ c.if-not-length_right.false) in
    omega (arith, k, c.header.ensures)

pub read_covered-requires : goal.read_covered-requires
read_covered-requires g c size =
    let m = g.P.Protocol.generation in
    let b = c.args.body.now in
    let e = behind b c.header.result m.header c.header.ensures in
    rw e (omega (arith, few_plain m g.met.P.Protocol.lawful b (sym c.length_right.ensures ∙ c.if-not-length_right.false) (rw e at size), g.met.P.Protocol.most))

pub returns : goal.returns
returns g c =
    let m = g.P.Protocol.generation in
    let b = c.args.body.now in
    let out = c.args.out.now in
    let r = c.read_covered in
    let e = behind b c.header.result m.header c.header.ensures in
    let f = by_covered m b out (sym c.check_right.ensures ∙ c.if-not-check_right.false) (sym c.length_right.ensures ∙ c.if-not-length_right.false) in
    let t = subst (λ (n : ℕ). Tells m r.result n (covered m b)) f (told_alike m r.result _ (covered m b) (length out) e r.ensures.told) in
    record {
      told = t;
      put = r.ensures.put ∙ put_alike m _ (covered m b) out e ∙ ap (λ (n : ℕ). put n (covered m b) out) f;
      short = short_meaning m g.met.P.Protocol.lawful b (length out) r.result t;
    }
