-- What is written of a command, and how long it is. Assumes nothing.
use mathlib.Core.Path.{◌≡◌, refl, ap, ap₂, ◌∙◌}
use mathlib.Core.List.{List, [], ◌∷◌, ◌++◌}
use Prim.Native.Nat.{ℕ, suc, ◌+◌, ◌≤◌, ◌<◌}
use native.Mathlib.Omega.{arith}
use lib.ListN.{length, take, get_or, replicate, length-append, length-take}
use Rattle.stuffing.specs.Stuffing.{stuffed}
use Rattle.stuffing.proofs.Laws.{length_stuffed_le}
use Rattle.slices.proofs.Front.{front}
use Rattle.framing.specs.Packet.{packet_of}
use Rattle.framing.proofs.Writing.{length_packet}
use Rattle.commands2.specs.declared.Command.{Command}
use Rattle.commands2.specs.declared.Data.{Data}
use Rattle.commands2.specs.ByValue.{by_value, data_by_value}
use Rattle.commands2.specs.Commands.{number_of, data_of}
use Rattle.commands2.proofs.DataBytes.{length_data_le}
use Rattle.packets2.specs.Rehastim2.{header_of}
use Rattle.writer2.specs.Writer.{content_of}

pub length_fits : (content : List ℕ) → length content ≤ 62 → length (stuffed content) < 256
length_fits content h = omega (arith, length_stuffed_le content)

-- seven bytes by their places
pub by_places : (d : List ℕ) → length d ≡ 7 → get_or d 0 0 ∷ get_or d 1 0 ∷ get_or d 2 0 ∷ get_or d 3 0 ∷ get_or d 4 0 ∷ get_or d 5 0 ∷ get_or d 6 0 ∷ [] ≡ d
by_places (a ∷ b ∷ c ∷ d ∷ e ∷ f ∷ g ∷ []) h = refl
by_places [] h = absurd (omega arith)
by_places (a ∷ []) h = absurd (omega arith)
by_places (a ∷ b ∷ []) h = absurd (omega arith)
by_places (a ∷ b ∷ c ∷ []) h = absurd (omega arith)
by_places (a ∷ b ∷ c ∷ d ∷ []) h = absurd (omega arith)
by_places (a ∷ b ∷ c ∷ d ∷ e ∷ []) h = absurd (omega arith)
by_places (a ∷ b ∷ c ∷ d ∷ e ∷ f ∷ []) h = absurd (omega arith)
by_places (a ∷ b ∷ c ∷ d ∷ e ∷ f ∷ g ∷ x ∷ l) h = absurd (omega arith)

module _ (r : Data) (c : Command) (e : r ≡ data_by_value c) where
  pub data_size : r.size ≡ length (data_of c)
  unfolding by_value
  data_size = ap (λ (d : Data). d.size) e

  pub data_bytes : r.bytes ≡ take 7 (data_of c ++ replicate 7 0)
  unfolding by_value
  data_bytes = ap (λ (d : Data). d.bytes) e

-- a command's content is the front of its nine bytes by value
content_front : (packet : ℕ) (c : Command) → take (length (data_of c) + 2) (packet ∷ number_of c ∷ take 7 (data_of c ++ replicate 7 0)) ≡ content_of packet c
content_front packet c =
    let n : length (data_of c) + 2 ≡ suc (suc (length (data_of c))) = omega arith in
    rw n (ap (λ (l : List ℕ). packet ∷ number_of c ∷ l) (front (data_of c) (replicate 7 0) 7 (length_data_le c)))

-- nine bytes by value that hold it
module _ (packet number : ℕ) (c : Command) (m : number ≡ number_of c) (r : Data) (e : r ≡ data_by_value c) (nine : List ℕ) (f : nine ≡ packet ∷ number ∷ r.bytes) where
  pub content_is : take (r.size + 2) nine ≡ content_of packet c
  content_is =
      ap₂ (λ (n : ℕ) (l : List ℕ). take (n + 2) l) (data_size r c e) (f ∙ ap₂ (λ (n : ℕ) (l : List ℕ). packet ∷ n ∷ l) m (data_bytes r c e))
      ∙ content_front packet c

  pub content_within : r.size + 2 ≤ length nine
  content_within =
      let k : length r.bytes ≡ 7 = ap length (data_bytes r c e) ∙ simp (length-take, length-append) (omega arith) in
      omega (arith, ap length f, k, data_size r c e, length_data_le c)

-- at most 1 + 4 + 18 + 1 bytes
pub packet_small : (packet : ℕ) (c : Command) → length (packet_of (header_of (content_of packet c)) (content_of packet c)) < 256
unfolding header_of
packet_small packet c =
    omega (arith, length_packet (header_of (content_of packet c)) (content_of packet c), length_stuffed_le (content_of packet c), length_data_le c)
