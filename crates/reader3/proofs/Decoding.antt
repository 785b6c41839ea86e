-- What is reported of a packet as it was decoded is what is said of the reader. Assumes nothing.
use mathlib.Core.Bool.{Bool, true, false, cond, ◌&&◌}
use mathlib.Core.Path.{◌≡◌, refl, sym}
use mathlib.Core.List.{List}
use Prim.Native.Nat.{ℕ, ◌-◌, ◌≤◌}
use lib.Dec.{eqb}
use lib.ListN.{length, length-drop}
use borrow.Author.Tests.{leb-true}
use Rattle.std.specs.Prelude.{None, Some, pos}
use Rattle.std.proofs.lemmas.Option.{none-some}
use Rattle.charge.specs.Charge.{charge_of, net_of}
use Rattle.commands3.specs.Contents.{size_good, content_right, no_message}
use Rattle.packets.specs.Reported.{meant, told}
use Rattle.decode3.specs.Decoded.{taken, decoded}
use Rattle.framing.specs.Scan.{first_found, body_at}
use Rattle.packets.specs.Reader.{Reading, covered, body_answer, refused, found, answered, reading, data_put}
use Rattle.decode3.specs.declared.Decoded.{Decoded}
use Rattle.commands3.specs.declared.Message.{Message}
use Rattle.packets3.specs.Rehamove3.{rehamove3}
use Rattle.reader3.specs.Reader.{as_read, read_packet}
use Rattle.reader3.specs.Decoding.{decoding, as_decoded}

pub same_read : (s : List ℕ) (room : ℕ) → as_decoded (reading decoding s room) ≡ read_packet s room
unfolding reading answered
same_read s room =
    by (covered rehamove3 (body_at s (first_found s))) (body_answer rehamove3 (body_at s (first_found s)) room) (first_found s).used
    (eqb (first_found s).used 0) (eqb (body_answer rehamove3 (body_at s (first_found s)) room) 0)
  where
    by : (c : List ℕ) (a used : ℕ) (t u : Bool)
        → as_decoded (cond {A = Reading Decoded} t (refused decoding 1 0) (cond {A = Reading Decoded} u (found decoding c used) (refused decoding a (cond {A = ℕ} (eqb a 16) 0 used))))
        ≡ as_read (cond {A = Reading Message} t (refused rehamove3 1 0) (cond {A = Reading Message} u (found rehamove3 c used) (refused rehamove3 a (cond {A = ℕ} (eqb a 16) 0 used))))
    by c a used true u = refl
    by c a used false true = refl
    by c a used false false = refl

pub same_put : (s out : List ℕ) → data_put decoding s out ≡ data_put rehamove3 s out
unfolding data_put
same_put s out = refl

-- ---- a content, by what is decoded of it
module _ (p : List ℕ) where
  pub told_none : None ≡ decoded p → None ≡ told decoding p
  unfolding decoded
  told_none = by (size_good (length p) && content_right p)
    where
      by : (t : Bool) → None ≡ cond t (Some (taken p)) None → None ≡ cond t (Some (meant decoding p)) None
      by true e = absurd (none-some (taken p) e)
      by false e = refl

  module _ (d : Decoded) (e : Some d ≡ decoded p) where
    pub told_two : 2 ≤ length p
    unfolding decoded
    told_two = by (size_good (length p)) (content_right p) refl e
      where
        by : (t u : Bool) → size_good (length p) ≡ t → Some d ≡ cond (t && u) (Some (taken p)) None → 2 ≤ length p
        by true u q f = leb-true 2 (length p) q
        by false u q f = absurd (none-some d (sym f))

    pub told_some : Some (record { packet = d.packet; command = d; size = length p - 2 }) ≡ told decoding p
    unfolding decoded
    told_some = by (size_good (length p) && content_right p) e
      where
        by : (t : Bool) → Some d ≡ cond t (Some (taken p)) None
            → Some (record { packet = d.packet; command = d; size = length p - 2 }) ≡ cond t (Some (meant decoding p)) None
        by true f = let same : d ≡ taken p = cc in rw (same, length-drop 2 p)
        by false f = absurd (none-some d (sym f))

pub nothing_charged : charge_of no_message.pulse ≡ pos 0
unfolding net_of
nothing_charged = refl
