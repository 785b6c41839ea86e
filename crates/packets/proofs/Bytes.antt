-- A packet's content, and so its data, is of bytes where it stands among bytes. Assumes nothing.
use Prim.Native.Nat.{ℕ, zero, suc, ◌+◌, ◌-◌, ◌<◌}
use mathlib.Core.Bool.{Bool, true, false, cond}
use mathlib.Core.List.{List, [], ◌∷◌, ◌++◌}
use lib.Bits.{bit_xor, xor_lt}
use lib.Dec.{eqb, lit<}
use lib.ListN.{take, drop}
use lib.Seq.{get_or-drop}
use Rattle.commands.specs.Bytes.{AreBytes}
use Rattle.stuffing.specs.Stuffing.{stuffing_byte, stuffing_key, opens_pair, plain_of, unstuffed}
use Rattle.framing.specs.declared.Found.{Found}
use Rattle.framing.specs.Scan.{body_at}
use Rattle.packets.specs.Generation.{Generation}
use Rattle.packets.specs.Reader.{plain, data_in, covered}

take_bytes : (n : ℕ) (l : List ℕ) → AreBytes l → AreBytes (take n l)
take_bytes zero l h i = lit< tt
take_bytes (suc n) [] h i = h i
take_bytes (suc n) (b ∷ l) h zero = h 0
take_bytes (suc n) (b ∷ l) h (suc i) = take_bytes n l (λ j. h (suc j)) i

drop_bytes : (n : ℕ) (l : List ℕ) → AreBytes l → AreBytes (drop n l)
drop_bytes n l h i = rw (get_or-drop n l i 0) (h (n + i))

cons_bytes : (b : ℕ) (l : List ℕ) → b < 256 → AreBytes l → AreBytes (b ∷ l)
cons_bytes b l h k zero = h
cons_bytes b l h k (suc i) = k i

unstuffed_bytes : (after : Bool) (l : List ℕ) → AreBytes l → AreBytes (unstuffed after l)
unfolding unstuffed plain_of opens_pair
unstuffed_bytes after [] h = h
unstuffed_bytes true (b ∷ l) h =
    cons_bytes (bit_xor b stuffing_key) (unstuffed false l) (xor_lt 8 b stuffing_key (h 0) (lit< tt)) (unstuffed_bytes false l (λ i. h (suc i)))
unstuffed_bytes false (b ∷ l) h = by (eqb b stuffing_byte) (λ after. unstuffed_bytes after l (λ i. h (suc i)))
  where
    by : (t : Bool) → ((after : Bool) → AreBytes (unstuffed after l)) → AreBytes (cond t [] (b ∷ []) ++ unstuffed t l)
    by true k = k true
    by false k = cons_bytes b (unstuffed false l) (h 0) (k false)

-- wherever the header ends
module _ {C : Type 0} (g : Generation C) (s : List ℕ) (f : Found) (h : AreBytes s) where
  pub content_bytes : AreBytes (plain (covered g (body_at s f)))
  unfolding body_at
  content_bytes =
      let body : AreBytes (body_at s f) = take_bytes (f.used - 1 - f.body) (drop f.body s) (drop_bytes f.body s h) in
      unstuffed_bytes false (covered g (body_at s f)) (drop_bytes g.header (body_at s f) body)

  pub data_bytes : AreBytes (data_in (covered g (body_at s f)))
  data_bytes = drop_bytes 2 (plain (covered g (body_at s f))) content_bytes
