-- Laws of the six bytes of an Init. Assumes nothing.
use Prim.Native.Nat.{ℕ, ◌+◌, ◌-◌, ◌*◌, ◌/◌, ◌%◌, ◌^◌, ◌≤◌, ◌<◌}
use mathlib.Core.Path.{◌≡◌, refl, sym, ◌∙◌}
use mathlib.Core.List.{List, [], ◌∷◌, ◌++◌}
use native.Mathlib.Omega.{arith}
use native.Mathlib.Nat.{add_assoc, mod-eq_of_lt}
use lib.ListN.{get_or}
use lib.Pow.{mod-pow-add, recompose}
use Rattle.bits.specs.Fields.{field}
use Rattle.commands.specs.declared.Init.{Init}
use Rattle.frames.specs.Layout.{ident_in, septets, init_word, init_of}
use Rattle.frames.specs.Bytes.{init_number, init_bytes}
use Rattle.commands.proofs.Fits.{InitFits}
use Rattle.demands.proofs.Accepted.{Lows}

-- ---- what is written, read

-- three bytes with the bits of x read as its 21 lowest
three_word : (x a b c : ℕ) → a % 2 ^ 7 ≡ field x 14 7 → b % 2 ^ 7 ≡ field x 7 7 → c % 2 ^ 7 ≡ x % 2 ^ 7 → septets a b c ≡ x % 2 ^ 21
three_word x a b c ea eb ec =
    rw (ea, eb, ec, mod-pow-add x 7 14, mod-pow-add x 7 7) (add_assoc (field x 14 7 * 2 ^ 14) (field x 7 7 * 2 ^ 7) (x % 2 ^ 7))

-- the six bytes of a number read as its 42 lowest bits
pub six_word : (w : ℕ) (rest : List ℕ) → init_word (init_bytes w ++ rest) ≡ w % 2 ^ 42
unfolding init_word
six_word w rest =
    let hi = three_word (w / 2 ^ 21) (field w 35 8) (field w 28 7) (field w 21 7) (omega arith) (omega arith) (omega arith) in
    let lo = three_word w (field w 14 7) (field w 7 7) (field w 0 7) (omega arith) (omega arith) (omega arith) in
    rw (hi, lo) (sym (mod-pow-add w 21 21))

-- a number whose bits are those of an Init with such a Check
pub record NumberOf (w k : ℕ) (v : Init) : Type 0 where
  pub high_bit : 2 ^ 42 ≤ w
  pub ident_bits : w < 2 ^ 42 + 2 ^ 40
  pub check_bits : field (w % 2 ^ 42) 37 3 ≡ k
  pub init_bits : init_of (w % 2 ^ 42) ≡ v

module _ (k : ℕ) (v : Init) (hk : k < 2 ^ 3) (fits : InitFits v) (stim : v.stim < 256) (lf : v.lf < 256) where
  number_init : init_of (init_number k v % 2 ^ 42) ≡ v
  number_init =
      let w = init_number k v % 2 ^ 42 in
      let e1 : field w 34 3 ≡ v.factor = omega arith in
      let e2 : field w 26 8 ≡ v.stim = omega arith in
      let e3 : field w 18 8 ≡ v.lf = omega arith in
      let e4 : field w 11 5 ≡ v.group = omega arith in
      let e5 : field w 0 11 ≡ v.main = omega arith in
      rw (e1, e2, e3, e4, e5)

  pub number_of_lem : NumberOf (init_number k v) k v
  number_of_lem = record { high_bit = omega arith; ident_bits = omega arith; check_bits = omega arith; init_bits = number_init }

-- ---- what is read, written

-- the fields of a word, put together again, are that word without bits 17 and 16
field_sum : (w w37 w34 w26 w18 w16 k f s l g m : ℕ) → w ≡ k * 2 ^ 37 + w37 → w37 ≡ f * 2 ^ 34 + w34 → w34 ≡ s * 2 ^ 26 + w26
    → w26 ≡ l * 2 ^ 18 + w18 → w16 ≡ g * 2 ^ 11 + m
    → 2 ^ 42 + k * 2 ^ 37 + f * 2 ^ 34 + s * 2 ^ 26 + l * 2 ^ 18 + g * 2 ^ 11 + m + w18 ≡ 2 ^ 42 + w + w16
field_sum w w37 w34 w26 w18 w16 k f s l g m e1 e2 e3 e4 e5 = omega arith

number_again : (w : ℕ) → w < 2 ^ 40 → init_number (field w 37 3) (init_of w) + w % 2 ^ 18 ≡ 2 ^ 42 + w + w % 2 ^ 16
number_again w h =
    field_sum w (w % 2 ^ 37) (w % 2 ^ 34) (w % 2 ^ 26) (w % 2 ^ 18) (w % 2 ^ 16)
    (field w 37 3) (field w 34 3) (field w 26 8) (field w 18 8) (field w 11 5) (field w 0 11)
    (sym (recompose 3 37 h)) (mod-pow-add w 3 34) (mod-pow-add w 8 26) (mod-pow-add w 8 18) (omega (arith, mod-pow-add w 5 11))

module _ (b0 b1 b2 b3 b4 b5 : ℕ) (h0 : b0 < 256)
    (h1 : b1 < 128) (h2 : b2 < 128) (h3 : b3 < 128) (h4 : b4 < 128) (h5 : b5 < 128) where
  -- six bytes that stand side by side in a number
  six_bytes : init_bytes (b0 * 2 ^ 35 + b1 * 2 ^ 28 + b2 * 2 ^ 21 + b3 * 2 ^ 14 + b4 * 2 ^ 7 + b5) ≡ b0 ∷ b1 ∷ b2 ∷ b3 ∷ b4 ∷ b5 ∷ []
  six_bytes =
      let w = b0 * 2 ^ 35 + b1 * 2 ^ 28 + b2 * 2 ^ 21 + b3 * 2 ^ 14 + b4 * 2 ^ 7 + b5 in
      let e0 : field w 35 8 ≡ b0 = omega arith in
      let e1 : field w 28 7 ≡ b1 = omega arith in
      let e2 : field w 21 7 ≡ b2 = omega arith in
      let e3 : field w 14 7 ≡ b3 = omega arith in
      let e4 : field w 7 7 ≡ b4 = omega arith in
      let e5 : field w 0 7 ≡ b5 = omega arith in
      rw (e0, e1, e2, e3, e4, e5)

-- the low bits of a number of which three bytes are known
module _ (x b3 b4 b5 : ℕ) (h4 : b4 < 128) (h5 : b5 < 128) where
  low_18 : (x * 2 ^ 21 + b3 * 2 ^ 14 + b4 * 2 ^ 7 + b5) % 2 ^ 18 ≡ b3 % 2 ^ 4 * 2 ^ 14 + b4 * 2 ^ 7 + b5
  low_18 = omega arith

  low_16 : (x * 2 ^ 21 + b3 * 2 ^ 14 + b4 * 2 ^ 7 + b5) % 2 ^ 16 ≡ b3 % 2 ^ 2 * 2 ^ 14 + b4 * 2 ^ 7 + b5
  low_16 = omega arith

-- the bytes of what is put together from a word of six bytes
settled : (n w b0 b1 b2 b3 b4 b5 : ℕ)
    → n + (b3 % 2 ^ 4 * 2 ^ 14 + b4 * 2 ^ 7 + b5) ≡ 2 ^ 42 + w + (b3 % 2 ^ 2 * 2 ^ 14 + b4 * 2 ^ 7 + b5)
    → w + 2 ^ 42 ≡ b0 * 2 ^ 35 + b1 * 2 ^ 28 + b2 * 2 ^ 21 + b3 * 2 ^ 14 + b4 * 2 ^ 7 + b5
    → n ≡ b0 * 2 ^ 35 + b1 * 2 ^ 28 + b2 * 2 ^ 21 + (b3 / 2 ^ 4 * 2 ^ 4 + b3 % 2 ^ 2) * 2 ^ 14 + b4 * 2 ^ 7 + b5
settled n w b0 b1 b2 b3 b4 b5 e d = omega arith

-- where the first has bit 7 set and Ident 0, and the others are low
module _ (b0 b1 b2 b3 b4 b5 : ℕ) (up : 128 ≤ b0) (top : b0 < 160)
    (h1 : b1 < 128) (h2 : b2 < 128) (h3 : b3 < 128) (h4 : b4 < 128) (h5 : b5 < 128) where
  word_is : septets b0 b1 b2 * 2 ^ 21 + septets b3 b4 b5 ≡ ((b0 - 128) * 2 ^ 14 + b1 * 2 ^ 7 + b2) * 2 ^ 21 + b3 * 2 ^ 14 + b4 * 2 ^ 7 + b5
  word_is =
      let e0 : b0 % 2 ^ 7 ≡ b0 - 128 = omega arith in
      rw (e0, mod-eq_of_lt h1, mod-eq_of_lt h2, mod-eq_of_lt h3, mod-eq_of_lt h4, mod-eq_of_lt h5) (omega arith)

  word_again : (w : ℕ) → w ≡ ((b0 - 128) * 2 ^ 14 + b1 * 2 ^ 7 + b2) * 2 ^ 21 + b3 * 2 ^ 14 + b4 * 2 ^ 7 + b5
      → init_bytes (init_number (field w 37 3) (init_of w)) ≡ b0 ∷ b1 ∷ b2 ∷ (b3 / 2 ^ 4 * 2 ^ 4 + b3 % 2 ^ 2) ∷ b4 ∷ b5 ∷ []
  word_again w e =
      let x = (b0 - 128) * 2 ^ 14 + b1 * 2 ^ 7 + b2 in
      let l : w < 2 ^ 40 = omega arith in
      let d : w + 2 ^ 42 ≡ b0 * 2 ^ 35 + b1 * 2 ^ 28 + b2 * 2 ^ 21 + b3 * 2 ^ 14 + b4 * 2 ^ 7 + b5 = omega arith in
      let c : b3 / 2 ^ 4 * 2 ^ 4 + b3 % 2 ^ 2 < 128 = omega arith in
      let h0 : b0 < 256 = omega arith in
      let m18 : w % 2 ^ 18 ≡ b3 % 2 ^ 4 * 2 ^ 14 + b4 * 2 ^ 7 + b5 = rw e (low_18 x b3 b4 b5 h4 h5) in
      let m16 : w % 2 ^ 16 ≡ b3 % 2 ^ 2 * 2 ^ 14 + b4 * 2 ^ 7 + b5 = rw e (low_16 x b3 b4 b5 h4 h5) in
      let n = settled _ w b0 b1 b2 b3 b4 b5 (rw (m18, m16) at (number_again w l)) d in
      rw n (six_bytes b0 b1 b2 _ b4 b5 h0 h1 h2 c h4 h5)

  septets_again : (w : ℕ) → septets b0 b1 b2 * 2 ^ 21 + septets b3 b4 b5 ≡ w
      → init_bytes (init_number (field w 37 3) (init_of w)) ≡ b0 ∷ b1 ∷ b2 ∷ (b3 / 2 ^ 4 * 2 ^ 4 + b3 % 2 ^ 2) ∷ b4 ∷ b5 ∷ []
  septets_again w e = word_again w (sym e ∙ word_is)

init_top : (b : ℕ) → 128 ≤ b → b < 256 → field b 5 2 ≡ 0 → b < 160
init_top b h l i = omega arith

-- of an Init's six bytes, only bits 3 and 2 of the fourth are lost
pub init_again : (s : List ℕ) → 128 ≤ get_or s 0 0 → get_or s 0 0 < 256 → ident_in s ≡ 0
    → Lows (get_or s 1 0 ∷ get_or s 2 0 ∷ get_or s 3 0 ∷ get_or s 4 0 ∷ get_or s 5 0 ∷ [])
    → init_bytes (init_number (field (init_word s) 37 3) (init_of (init_word s)))
    ≡ get_or s 0 0 ∷ get_or s 1 0 ∷ get_or s 2 0 ∷ (get_or s 3 0 / 2 ^ 4 * 2 ^ 4 + get_or s 3 0 % 2 ^ 2) ∷ get_or s 4 0 ∷ get_or s 5 0 ∷ []
unfolding init_word
init_again s up most i l =
    septets_again (get_or s 0 0) (get_or s 1 0) (get_or s 2 0) (get_or s 3 0) (get_or s 4 0) (get_or s 5 0) up (init_top _ up most i)
    l.0 l.1.0 l.1.1.0 l.1.1.1.0 l.1.1.1.1.0 (init_word s) refl
