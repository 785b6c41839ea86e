-- `packets::read` meets its contract. Assumes nothing.
use mathlib.Core.Path.{refl, sym, ap, ◌∙◌}
use native.Mathlib.Omega.{arith}
use lib.ListN.{length}
use Rattle.framing.specs.Scan.{first_found, body_at}
use Rattle.framing.proofs.Resync.{scan_within}
use Rattle.commands.specs.Refusals.{number}
use Rattle.packets.specs.Reader.{covered, body_answer, refused}
use Rattle.packets.proofs.Tests.{unfinished, finished}
use Rattle.packets.proofs.Telling.{none_found, found_is, answered_ok, answered_err}
use Rattle.packets.proofs.read.Goals as goal

pub returns-in_default : goal.returns-in_default
returns-in_default g c =
    let s = c.args.s.now in
    let w = unfinished g.P.Protocol.generation s c.args.out.now (first_found s) refl (none_found (first_found s) (sym c.in_default.is ∙ c.find.ensures)) in
    record { read = w.0; put = w.1; short = tt }

pub slice_bounds-read_body-count : goal.slice_bounds-read_body-count
slice_bounds-read_body-count g c =
    let k = found_is c.in-Some.found (first_found c.args.s.now) (sym c.in-Some.is ∙ c.find.ensures) in
    let w = rw (← k.0) at (scan_within c.args.s.now 0 0 0 (omega arith)) in w.0

pub slice_bounds-read_body-start : goal.slice_bounds-read_body-start
slice_bounds-read_body-start g c =
    let k = found_is c.in-Some.found (first_found c.args.s.now) (sym c.in-Some.is ∙ c.find.ensures) in
    let w = rw (← k.0) at (scan_within c.args.s.now 0 0 0 (omega arith)) in omega (arith, w.0)

pub slice_bounds-read_body-end : goal.slice_bounds-read_body-end
slice_bounds-read_body-end g c =
    let k = found_is c.in-Some.found (first_found c.args.s.now) (sym c.in-Some.is ∙ c.find.ensures) in
    let w = rw (← k.0) at (scan_within c.args.s.now 0 0 0 (omega arith)) in omega (arith, w.1)

pub returns-in-Ok : goal.returns-in-Ok
unfolding body_at
returns-in-Ok g c =
    let m = g.P.Protocol.generation in
    let s = c.args.s.now in
    let out = c.args.out.now in
    let found = c.in-Some.found in
    let k = found_is found (first_found s) (sym c.in-Some.is ∙ c.find.ensures) in
    let f = finished m s out found k.0 k.1 in
    let b = body_at s found in
    record {
      read = answered_ok m (body_answer m b (length out)) (covered m b) found.used c.in-Ok.meaning c.in-Ok.ensures.told ∙ f.0;
      put = c.read_body.ensures.put ∙ f.1;
      short = c.in-Ok.ensures.short;
    }

pub returns-in-Err : goal.returns-in-Err
unfolding body_at
returns-in-Err g c =
    let m = g.P.Protocol.generation in
    let s = c.args.s.now in
    let out = c.args.out.now in
    let found = c.in-Some.found in
    let k = found_is found (first_found s) (sym c.in-Some.is ∙ c.find.ensures) in
    let f = finished m s out found k.0 k.1 in
    let b = body_at s found in
    let r = c.in-Err.refusal in
    record {
      read = ap (refused m (number r)) c.used_up-used.ensures ∙ answered_err m (body_answer m b (length out)) (covered m b) found.used r c.in-Err.ensures.told ∙ f.0;
      put = c.read_body.ensures.put ∙ f.1;
      short = tt;
    }
