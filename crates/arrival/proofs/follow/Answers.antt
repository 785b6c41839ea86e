use mathlib.Core.Path.{◌≡◌, ◌∙◌}
use lib.ListN.{length}
use borrow.Author.Rules.{rules}
use Rattle.record.specs.Box.{state_of}
use Rattle.arrival.specs.Arriving.{grown}
use Rattle.arrival.proofs.Growing.{used_by}
use Rattle.arrival.proofs.Arrivals.{kept_as, ready, longer, found, none_found, strays, followed_by}
use Rattle.arrival.proofs.follow.Goals as goal

pub returns-in-None : goal.returns-in-None
unfolding state_of
returns-in-None c =
    let b = c.args.b.now in
    let sized : length b.partial.bytes ≡ 25 = search rules in
    c.refuse.ensures ∙ rw c.number.ensures (strays b sized c.requires.0 c.args.n (none_found b.partial c.in-None.ensures))

pub grow-longer-requires : goal.grow-longer-requires
grow-longer-requires c =
    let b = c.args.b.now in
    let own = found b.partial c.in-Some.ensures in
    let sized : length c.in-Some.frame.bytes ≡ 25 = search rules in
    rw own.1 at (followed_by b (rw own.1 sized) c.requires.0 c.args.n own.0).room

pub finish-requires : goal.finish-requires
finish-requires c =
    let b = c.args.b.now in
    let own = found b.partial c.in-Some.ensures in
    let sized : length c.in-Some.frame.bytes ≡ 25 = search rules in
    let f = followed_by b (rw own.1 sized) c.requires.0 c.args.n own.0 in
    let grows : c.grow-longer.result ≡ grown b.partial c.args.n = rw own.1 c.grow-longer.ensures in
    ready c.grow-longer.result (longer b c.args.n) (grows ∙ f.grows) f.fits
    (f.finishes c.requires.1 (rw (c.from.ensures, grows) at c.if-longer-from.true)).1

pub returns-then-longer-from : goal.returns-then-longer-from
unfolding state_of
returns-then-longer-from c =
    let b = c.args.b.now in
    let own = found b.partial c.in-Some.ensures in
    let sized : length c.in-Some.frame.bytes ≡ 25 = search rules in
    let f = followed_by b (rw own.1 sized) c.requires.0 c.args.n own.0 in
    let grows : c.grow-longer.result ≡ grown b.partial c.args.n = rw own.1 c.grow-longer.ensures in
    let bytes = used_by c.grow-longer.result (longer b c.args.n) (grows ∙ f.grows) in
    c.finish.ensures ∙ rw (bytes, (f.finishes c.requires.1 (rw (c.from.ensures, grows) at c.if-longer-from.true)).0)

pub returns-else-longer-from : goal.returns-else-longer-from
unfolding state_of
returns-else-longer-from c =
    let b = c.args.b.now in
    let own = found b.partial c.in-Some.ensures in
    let sized : length c.in-Some.frame.bytes ≡ 25 = search rules in
    let f = followed_by b (rw own.1 sized) c.requires.0 c.args.n own.0 in
    let grows : c.grow-longer.result ≡ grown b.partial c.args.n = rw own.1 c.grow-longer.ensures in
    c.keep.ensures
    ∙ rw (grows ∙ f.grows, f.goes_on_lem (rw (c.from.ensures, grows) at c.if-longer-from.false)) (kept_as b (longer b c.args.n))
