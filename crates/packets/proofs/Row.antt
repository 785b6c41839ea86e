-- A reader that goes along a row reads each whole packet behind bytes that do not end in a stuffing byte as if it stood alone. Assumes nothing.
use Prim.Native.Nat.{ℕ, zero, suc, ◌+◌, ◌≤◌}
use mathlib.Core.Path.{◌≡◌, refl, sym, ap, ap₂, ◌∙◌}
use mathlib.Core.List.{List, [], ◌∷◌, ◌++◌, map, map-append}
use native.Mathlib.Omega.{arith}
use lib.ListN.{length, drop, length-drop}
use lib.Seq.{drop-append-le, drop-append-add, drop-append_seam}
use Rattle.stuffing.specs.Stuffing.{stuffing_byte}
use Rattle.framing.specs.declared.Found.{Found}
use Rattle.framing.specs.Scan.{last_of}
use Rattle.framing.proofs.Resync.{packet_alone}
use Rattle.packets.specs.Generation.{Generation}
use Rattle.packets.specs.Reader.{Reading, covered, answered, body_answer}
use Rattle.packets.specs.Writer.{framed}
use Rattle.packets.specs.Laws.{Lawful}
use Rattle.packets.specs.Line.{Open, Garbage, Alone}
use Rattle.packets.specs.Row.{moved, readings, Resynchronises}
use Rattle.packets.proofs.Readings.{body_in, finished, same_read}
use Rattle.packets.proofs.Behind.{long_alone, found_there, body_there, found_still, body_still}
use Rattle.packets.proofs.Room.{has_room, answered_moved}
use Rattle.packets.proofs.Along.{zero_or, used_in, used_most, first, along_none, readings_some}

-- a packet of a content is one
pub framed_alone : {C : Type 0} (g : Generation C) (b : ℕ) (content : List ℕ) → Alone (framed g (b ∷ content))
unfolding framed
framed_alone g b content = packet_alone (g.header_of (b ∷ content)) b content

-- what is left of such bytes is so too
open_drop : (n : ℕ) (front : List ℕ) (prev : ℕ) → (last_of prev front ≡ stuffing_byte → ⊥) → Open (drop n front)
unfolding last_of
open_drop zero [] prev h e = omega arith
open_drop (suc n) [] prev h e = omega arith
open_drop zero (b ∷ front) prev h e = h e
open_drop (suc n) (b ∷ front) prev h e = open_drop n front b h e

-- places counted from further back
moved_moved : {C : Type 0} (m n : ℕ) (r : Reading C) → moved m (moved n r) ≡ moved (m + n) r
moved_moved m n r =
    ap (λ (u : ℕ). record { answer = r.answer; used = u; packet = r.packet; command = r.command; size = r.size }) (omega arith)

map_moved : {C : Type 0} (m n : ℕ) (rs : List (Reading C)) → map (moved m) (map (moved n) rs) ≡ map (moved (m + n)) rs
map_moved m n [] = refl
map_moved {C} m n (r ∷ rs) = ap₂ (λ (x : Reading C) (xs : List (Reading C)). x ∷ xs) (moved_moved m n r) (map_moved m n rs)

module _ {C : Type 0} (g : Generation C) (laws : Lawful g) (p rest : List ℕ) (alone : Alone p) where
  -- the packet at place n, and what is read behind it
  abbrev from : ℕ → List (Reading C)
  from n = moved n (first g p) ∷ map (moved (n + length p)) (readings g rest)

  from_moved : (m n : ℕ) → map (moved m) (from n) ≡ from (m + n)
  from_moved m n =
      ap₂ (λ (x : Reading C) (xs : List (Reading C)). x ∷ xs) (moved_moved m n (first g p))
      (map_moved m (n + length p) (readings g rest) ∙ ap (λ (k : ℕ). map (moved k) (readings g rest)) (omega arith))

  -- no packet is finished before it
  resync_none : (front : List ℕ) → Open front → used_in front ≡ 0 → readings g (front ++ (p ++ rest)) ≡ readings g front ++ from (length front)
  resync_none front o e =
      let long = long_alone p alone in
      let s = front ++ (p ++ rest) in
      let n = length front in
      let room = g.longest in
      let body = body_in p in
      let garbage : Garbage front = record { unfinished = e; ends = o } in
      let used : used_in s ≡ n + length p = ap (λ (f : Found). f.used) (found_there front p rest garbage alone) in
      let own : used_in p ≡ length p = ap (λ (f : Found). f.used) alone in
      let read : first g s ≡ moved n (first g p) =
      finished g s room (λ z. omega arith)
      ∙ ap₂ (λ (b : List ℕ) (u : ℕ). answered g (body_answer g b room) (covered g b) u) (body_there front p rest garbage alone) used
      ∙ answered_moved g (body_answer g body room) (covered g body) n (length p) (has_room g laws body)
      ∙ ap (λ (u : ℕ). moved n (answered g (body_answer g body room) (covered g body) u)) (sym own)
      ∙ ap (moved n) (sym (finished g p room (λ z. omega arith))) in
      let left : drop (n + length p) s ≡ rest = drop-append-add front (p ++ rest) (length p) ∙ drop-append_seam p rest in
      readings_some g laws s (λ z. omega arith)
      ∙ rw (used, read, left, along_none g laws front n e)

  resync : (n : ℕ) (front : List ℕ) → length front ≤ n → Open front → readings g (front ++ (p ++ rest)) ≡ readings g front ++ from (length front)
  resync zero front h o = resync_none front o (omega (arith, used_most front))
  resync (suc n) front h o =
      zero_or (used_in front) (resync_none front o)
      (λ some.
      let u = used_in front in
      let s = front ++ (p ++ rest) in
      let used : used_in s ≡ u = ap (λ (f : Found). f.used) (found_still front (p ++ rest) some) in
      let read = same_read g s front used (body_still front (p ++ rest) some) g.longest in
      let left : drop u s ≡ drop u front ++ (p ++ rest) = drop-append-le u front (p ++ rest) (used_most front) in
      let size : u + length (drop u front) ≡ length front = omega (arith, length-drop u front, used_most front) in
      readings_some g laws s (λ z. some (sym used ∙ z))
      ∙ rw (used, read, left, resync n (drop u front) (omega arith) (open_drop u front 0 o))
      (ap (λ (x : List (Reading C)). first g front ∷ x)
      (map-append (moved u) (readings g (drop u front)) (from (length (drop u front)))
      ∙ ap (λ (x : List (Reading C)). map (moved u) (readings g (drop u front)) ++ x) (from_moved u (length (drop u front)) ∙ ap from size))
      ∙ ap (λ (x : List (Reading C)). x ++ from (length front)) (sym (readings_some g laws front some))))

pub resynchronises : {C : Type 0} (g : Generation C) → Lawful g → Resynchronises g
resynchronises g laws front p rest o alone = resync g laws p rest alone (length front) front (omega arith) o
