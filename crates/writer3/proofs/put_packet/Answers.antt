-- `writer3::put_packet` meets its contract. Assumes nothing.
use mathlib.Core.Path.{◌≡◌, sym, ap, subst, ◌∙◌}
use mathlib.Core.List.{List}
use Prim.Native.Nat.{ℕ, ◌≤◌}
use lib.ListN.{length}
use Rattle.framing.specs.Packet.{size_written, some_size, written_to}
use Rattle.packets.specs.Writer.{framed}
use Rattle.packets.proofs.Written.{not_good, none_written, some_written, some_small}
use Rattle.commands3.specs.Contents.{content_of, writable}
use Rattle.packets3.specs.Rehamove3.{header_of}
use Rattle.writer3.proofs.Content.{packet_small, not_made, good, whole, short}
use Rattle.writer3.proofs.put_packet.Goals as goal

pub returns-in_default : goal.returns-in_default
unfolding framed
returns-in_default c =
    let a = c.args in
    let content = content_of a.packet a.m in
    let w = not_good (writable a.packet a.m) (header_of content) content a.out.now (not_made a.packet a.m c.in_default.ensures) in record { told = w.0; put = w.1 }

-- what was written of a content is what is written of what the message makes
same_size : (l content out : List ℕ) → l ≡ content → some_size (size_written out (header_of l) l) ≡ some_size (size_written out (header_of content) content)
same_size l content out e = ap (λ (x : List ℕ). some_size (size_written out (header_of x) x)) e

same_put : (l content out : List ℕ) → l ≡ content → written_to out (header_of l) l ≡ written_to out (header_of content) content
same_put l content out e = ap (λ (x : List ℕ). written_to out (header_of x) x) e

pub overflow_cast-result : goal.overflow_cast-result
overflow_cast-result c =
    let a = c.args in
    let out = a.out.now in
    let content = content_of a.packet a.m in
    let made = whole a.packet a.m c.in-Some.content.items c.in-Some.ensures in
    let s = sym c.in-Some-write_content.is ∙ c.write_content.ensures.size ∙ same_size _ content out (c.as_slice.ensures.value ∙ made) in
    record { fits = some_small (header_of content) content out c.in-Some-write_content.used s (packet_small content (subst (λ (l : List ℕ). length l ≤ 67) made (short a.packet a.m c.in-Some.content.items c.in-Some.ensures))) }

pub returns-in-Some-write_content : goal.returns-in-Some-write_content
unfolding framed
returns-in-Some-write_content c =
    let a = c.args in
    let out = a.out.now in
    let content = content_of a.packet a.m in
    let e = c.as_slice.ensures.value ∙ whole a.packet a.m c.in-Some.content.items c.in-Some.ensures in
    let s = sym c.in-Some-write_content.is ∙ c.write_content.ensures.size ∙ same_size _ content out e in
    let w = some_written (writable a.packet a.m) (header_of content) content out (good a.packet a.m c.in-Some.content.items c.in-Some.ensures) c.in-Some-write_content.used s in
    record { told = w.0; put = c.write_content.ensures.put ∙ same_put _ content out e ∙ w.1 }

pub returns-in-None : goal.returns-in-None
unfolding framed
returns-in-None c =
    let a = c.args in
    let out = a.out.now in
    let content = content_of a.packet a.m in
    let e = c.as_slice.ensures.value ∙ whole a.packet a.m c.in-Some.content.items c.in-Some.ensures in
    let s = sym c.in-None.is ∙ c.write_content.ensures.size ∙ same_size _ content out e in
    let w = none_written (writable a.packet a.m) (header_of content) content out (good a.packet a.m c.in-Some.content.items c.in-Some.ensures) s in
    record { told = w.0; put = c.write_content.ensures.put ∙ same_put _ content out e ∙ w.1 }
