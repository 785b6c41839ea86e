-- `framing::put_packet` meets its contract. Assumes nothing.
use mathlib.Core.Path.{◌≡◌, sym, ap₂, ◌∙◌}
use mathlib.Core.List.{List}
use Prim.Native.Nat.{ℕ, ◌+◌, ◌<◌, ◌≤◌}
use native.Mathlib.Omega.{arith}
use lib.ListN.{length, set, length-set}
use lib.Seq.{sets}
use Rattle.stuffing.specs.Stuffing.{start_byte, stop_byte, pairs, stuffed}
use Rattle.stuffing.proofs.Laws.{length_pairs}
use Rattle.framing.specs.Packet.{packet_of}
use Rattle.framing.proofs.Writing.{length_packet, packet_put}
use Rattle.framing.proofs.put_packet.Goals as goal

-- the stop's place
abbrev stop : List ℕ → List ℕ → ℕ
stop h d = 1 + length (pairs h) + length (stuffed d)

-- an output that has room for the packet has the stop's place
room : (h d out : List ℕ) → length (packet_of h d) ≤ length out → stop h d < length out
room h d out r = omega (arith, length_packet h d, length_pairs h)

pub bounds-out-0 : goal.bounds-out-0
bounds-out-0 c = omega (arith, room c.args.header.now c.args.content.now c.args.out.now c.requires)

pub put_pairs-a-requires : goal.put_pairs-a-requires
put_pairs-a-requires c = rw length-set (omega (arith, room c.args.header.now c.args.content.now c.args.out.now c.requires))

pub put_stuffed-b-requires : goal.put_stuffed-b-requires
put_stuffed-b-requires c =
    let p = c.put_pairs-a in
    omega (arith, room c.args.header.now c.args.content.now c.args.out.now c.requires, p.ensures.0, p.auto.out, length-set c.args.out.now 0 start_byte)

pub bounds-out-b : goal.bounds-out-b
bounds-out-b c =
    let p = c.put_pairs-a in
    let q = c.put_stuffed-b in
    omega (
      arith,
      room c.args.header.now c.args.content.now c.args.out.now c.requires,
      p.ensures.0,
      q.ensures.0,
      p.auto.out,
      q.auto.out,
      length-set c.args.out.now 0 start_byte,
    )

pub overflow_add-result : goal.overflow_add-result
overflow_add-result c =
    let p = c.put_pairs-a in
    let q = c.put_stuffed-b in
    record { fits = omega (arith, room c.args.header.now c.args.content.now c.args.out.now c.requires, p.ensures.0, q.ensures.0) }

pub returns : goal.returns
returns c =
    let p = c.put_pairs-a in
    let q = c.put_stuffed-b in
    let a = c.args in
    let h = a.header.now in
    let d = a.content.now in
    let e : q.result ≡ stop h d = omega (arith, p.ensures.0, q.ensures.0) in (
      omega (arith, e, length_packet h d, length_pairs h),
      ap₂ (λ (x : List ℕ) (n : ℕ). set x n stop_byte)
          (q.ensures.1 ∙ ap₂ (λ (x : List ℕ) (n : ℕ). sets x n (stuffed d)) p.ensures.1 p.ensures.0) e
          ∙ sym (packet_put h d a.out.now),
    )
