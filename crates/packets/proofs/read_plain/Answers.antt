-- `packets::read_plain` meets its contract. Assumes nothing.
use mathlib.Core.Path.{◌≡◌, sym, ap, ◌∙◌}
use mathlib.Core.List.{List}
use Prim.Native.Nat.{ℕ, ◌-◌}
use native.Mathlib.Omega.{arith}
use lib.ListN.{length, take, drop, length-drop}
use lib.Seq.{take_all}
use Rattle.stuffing.specs.Stuffing.{stuffed}
use Rattle.packets.specs.Reader.{put}
use Rattle.packets.proofs.Telling.{told_good, told_none, content_4, left_by_4, left_by_16, tells_all, puts_all, tells_16}
use Rattle.packets.proofs.read_plain.Goals as goal

behind : (p : List ℕ) → take (length p - 2) (drop 2 p) ≡ drop 2 p
behind p = take_all (length p - 2) (drop 2 p) (rw length-drop (omega arith))

pub slice_bounds-copy-start : goal.slice_bounds-copy-start
slice_bounds-copy-start g c =
    let m = g.P.Protocol.generation in
    let k = told_good m c.args.plain.now c.in-Some.meaning (sym c.told.ensures ∙ c.in-Some.is) in
    let two = g.met.P.Protocol.two (length c.args.plain.now) k.size in omega (arith, two)

pub returns-in_default : goal.returns-in_default
returns-in_default g c =
    let m = g.P.Protocol.generation in
    let p = c.args.plain.now in
    let out = c.args.out.now in
    let e = content_4 m p (length out) (told_none m p (sym c.told.ensures ∙ c.in_default.is)) in
    record { told = e; put = left_by_4 (stuffed p) out ∙ sym (ap (λ (n : ℕ). put n (stuffed p) out) e) }

pub returns-then-out-meaning : goal.returns-then-out-meaning
returns-then-out-meaning g c =
    let m = g.P.Protocol.generation in
    let p = c.args.plain.now in
    let out = c.args.out.now in
    let k = told_good m p c.in-Some.meaning (sym c.told.ensures ∙ c.in-Some.is) in
    let e = tells_16 m p out c.in-Some.meaning k c.if-out-meaning.true in
    record { told = e; put = left_by_16 (stuffed p) out ∙ sym (ap (λ (n : ℕ). put n (stuffed p) out) e) }

pub returns : goal.returns
returns g c =
    let m = g.P.Protocol.generation in
    let p = c.args.plain.now in
    let out = c.args.out.now in
    let k = told_good m p c.in-Some.meaning (sym c.told.ensures ∙ c.in-Some.is) in
    record {
      told = tells_all m p out c.in-Some.meaning k c.if-out-meaning.false;
      put = c.copy.ensures ∙ puts_all m p out c.in-Some.meaning k _ (behind p) c.if-out-meaning.false;
    }
