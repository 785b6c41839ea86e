-- Laws of the three bytes that Update and Single share, over where the first variable stands. Assumes nothing.
use Prim.Native.Nat.{ℕ, ◌+◌, ◌-◌, ◌*◌, ◌/◌, ◌%◌, ◌^◌, ◌≤◌, ◌<◌}
use mathlib.Core.Path.{◌≡◌, sym, ap, ◌∙◌}
use mathlib.Core.List.{List, [], ◌∷◌, ◌++◌}
use native.Mathlib.Omega.{arith}
use native.Mathlib.Nat.{add-zero, mul_assoc, mod-eq_of_lt, mod-lt, lt_of_lt_of_le}
use lib.Arith.{digits_lt}
use lib.ListN.{get_or, drop}
use lib.Pow as P
use lib.Pow.{pow_pos, pow_mono, pow-add}
use lib.Seq.{get_or-drop}
use Rattle.bits.specs.Fields.{field}
use Rattle.frames.specs.Layout.{entry_in}
use Rattle.frames.specs.Bytes.{entry_bytes}
use Rattle.commands.proofs.Fits.{EntryFits}
use Rattle.demands.proofs.Accepted.{Lows}

-- ---- what is written, read

-- the first byte: its variable, its two bits of Width, and that it is low
module _ (low lead width : ℕ) (more : 2 ≤ low) where
  two_fit : field width 7 2 < 2 ^ low
  two_fit = lt_of_lt_of_le (mod-lt (width / 2 ^ 7) (pow_pos 2)) (pow_mono more)

  first_lead : lead < 2 ^ (7 - low) → field (lead * 2 ^ low + field width 7 2) low (7 - low) ≡ lead
  first_lead h = rw (P.high lead low two_fit) (mod-eq_of_lt h)

  first_width : field (lead * 2 ^ low + field width 7 2) 0 2 ≡ field width 7 2
  first_width =
      let e : low - 2 + 2 ≡ low = omega arith in
      let p : lead * 2 ^ low ≡ lead * 2 ^ (low - 2) * 2 ^ 2 = rw (rw e at (pow-add 2 (low - 2) 2)) (sym (mul_assoc lead (2 ^ (low - 2)) (2 ^ 2))) in
      omega arith

  first_low : low ≤ 7 → lead < 2 ^ (7 - low) → lead * 2 ^ low + field width 7 2 < 128
  first_low most h =
      let e : 7 - low + low ≡ 7 = omega arith in
      rw (← pow-add 2 (7 - low) low, e) at (digits_lt h two_fit)

-- what stands at a place, from what s goes on with there
at_place : (s : List ℕ) (at i : ℕ) (l : List ℕ) → drop at s ≡ l → get_or s (at + i) 0 ≡ get_or l i 0
at_place s at i l e = sym (get_or-drop at s i 0) ∙ ap (λ (x : List ℕ). get_or x i 0) e

module _ (low lead width current : ℕ) (more : 2 ≤ low) (fits : EntryFits low lead width current) where
  -- an entry's bytes read as that entry
  pub entry_there : (s : List ℕ) (at : ℕ) (rest : List ℕ) → drop at s ≡ entry_bytes low lead width current ++ rest
      → entry_in low s at ≡ record { lead = lead; width = width; current = current }
  unfolding entry_in
  entry_there s at rest e =
      let e0 = simp add-zero at (at_place s at 0 _ e) in
      let w : field width 7 2 * 2 ^ 7 + field width 0 7 % 2 ^ 7 ≡ width = omega arith in
      let c : current % 2 ^ 7 ≡ current = mod-eq_of_lt fits.current_fits in
      rw (e0, at_place s at 1 _ e, at_place s at 2 _ e, first_lead low lead width more fits.lead_fits, first_width low lead width more, w, c)

  -- and are low
  pub entry_lows : low ≤ 7 → Lows (entry_bytes low lead width current)
  entry_lows most = (first_low low lead width more most fits.lead_fits, (omega arith, (fits.current_fits, tt)))

-- ---- what is read, written

-- of three low bytes, only the bits of the first between its variable and its two bits of Width are lost
module _ (low b0 b1 b2 : ℕ) (h0 : b0 < 128) (h1 : b1 < 128) (h2 : b2 < 128) where
  pub entry_again : low ≤ 7
      → entry_bytes low (field b0 low (7 - low)) (field b0 0 2 * 2 ^ 7 + b1 % 2 ^ 7) (b2 % 2 ^ 7)
      ≡ (b0 / 2 ^ low * 2 ^ low + b0 % 2 ^ 2) ∷ b1 ∷ b2 ∷ []
  entry_again most =
      let e : 7 - low + low ≡ 7 = omega arith in
      let l : b0 < 2 ^ (7 - low + low) = rw e h0 in
      let w7 : field (field b0 0 2 * 2 ^ 7 + b1 % 2 ^ 7) 7 2 ≡ b0 % 2 ^ 2 = omega arith in
      let w0 : field (field b0 0 2 * 2 ^ 7 + b1 % 2 ^ 7) 0 7 ≡ b1 = omega arith in
      let c : b2 % 2 ^ 7 ≡ b2 = omega arith in
      rw (P.shr_mod (7 - low) low l, w7, w0, c)
