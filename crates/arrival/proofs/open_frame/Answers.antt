use mathlib.Core.Path.{sym, ◌∙◌}
use mathlib.Core.List.{[], ◌∷◌}
use native.Mathlib.Omega.{arith}
use Rattle.arrival.proofs.Wholes.{stop_whole}
use Rattle.arrival.proofs.Growing.{used_by}
use Rattle.arrival.proofs.Arrivals.{kept_as, ready, opens_update, opens_init, opens_stop, opens_single}
use Rattle.arrival.proofs.open_frame.Goals as goal

pub returns-in-Update : goal.returns-in-Update
returns-in-Update c = c.open_update.ensures ∙ rw (opens_update c.args.b.now.core c.args.n (sym c.in-Update.ensures))

pub returns-in-Init : goal.returns-in-Init
returns-in-Init c =
    let a = c.args in
    let opens = opens_init a.b.now.core a.n (sym c.in-Init.ensures) in
    rw opens (c.keep.ensures ∙ rw c.first.ensures (kept_as a.b.now (record { bytes = a.n ∷ []; size = 6 })))

pub finish-requires : goal.finish-requires
finish-requires c =
    let whole = stop_whole c.args.n c.requires (sym c.in-Stop.ensures) in
    ready c.first-in-Stop.result (record { bytes = c.args.n ∷ []; size = 1 }) c.first-in-Stop.ensures (omega arith) whole

pub returns-in-Stop : goal.returns-in-Stop
returns-in-Stop c =
    let a = c.args in
    let byte = used_by c.first-in-Stop.result (record { bytes = a.n ∷ []; size = 1 }) c.first-in-Stop.ensures in
    let opens = opens_stop a.b.now.core a.n (sym c.in-Stop.ensures) in
    c.finish.ensures ∙ rw (byte, opens)

pub returns-in-Single : goal.returns-in-Single
returns-in-Single c =
    let a = c.args in
    let opens = opens_single a.b.now.core a.n (sym c.in-Single.ensures) in
    rw opens (c.keep-in-Single.ensures ∙ rw c.first-in-Single.ensures (kept_as a.b.now (record { bytes = a.n ∷ []; size = 4 })))
