-- What was read, written again, is the bytes that were read, with their don't-care bits clear. Assumes nothing.
use Prim.Native.Nat.{ℕ, zero, suc, ◌+◌, ◌-◌, ◌*◌, ◌/◌, ◌%◌, ◌^◌, ◌≤◌, ◌<◌}
use mathlib.Core.Path.{◌≡◌, refl, sym, ap, ap₂, ◌∙◌}
use mathlib.Core.List.{List, [], ◌∷◌, ◌++◌}
use native.Mathlib.Omega.{arith}
use native.Mathlib.Numerals.{add-one, add-two, add-three}
use lib.ListN.{length, get_or, take, drop}
use lib.Seq.{slice, slice-cons, slice_empty}
use borrow.Author.Tests.{eq-eqb, ne_eqb}
use Rattle.bits.specs.Fields.{field}
use Rattle.commands.specs.Commands.{Command, Command.init, check_of}
use Rattle.commands.specs.Bytes.{AreBytes}
use Rattle.frames.specs.Layout.{ident_in, size_for, init_word, init_of, entry_in, settings_in, command_in}
use Rattle.frames.specs.Bytes.{frame_size, head, init_number, init_bytes, settings_bytes, frame}
use Rattle.demands.specs.DontCare.{clear, cleared}
use Rattle.demands.specs.RoundTrips.{EachWritesBack}
use Rattle.writers.proofs.Outcomes.{written_frame}
use Rattle.demands.proofs.Accepted.{Lows, Accepted, accepted, reads_found, none_lows}
use Rattle.frames.proofs.Idents.{init_here, update_here, stop_here, single_here, check_3, check_5, for_each_ident}
use Rattle.demands.proofs.ThreeBytes.{entry_again}
use Rattle.demands.proofs.SixBytes.{init_again}
use Rattle.frames.proofs.Rows.{listed_in}

-- ---- don't-care bits: what is left is what stands above them and what stands below them

clear_2 : (q r : ℕ) → r < 2 ^ 3 → clear (2 ∷ []) (q * 2 ^ 4 + r) ≡ q * 2 ^ 4 + r % 2 ^ 2
clear_2 q r h =
    let e : field (q * 2 ^ 4 + r) 2 1 ≡ r / 2 ^ 2 = omega arith in
    rw e (omega arith)

clear_32 : (b : ℕ) → clear (3 ∷ 2 ∷ []) b ≡ b / 2 ^ 4 * 2 ^ 4 + b % 2 ^ 2
clear_32 b =
    let e : b - field b 3 1 * 2 ^ 3 ≡ b / 2 ^ 4 * 2 ^ 4 + b % 2 ^ 3 = omega arith in
    let m : b % 2 ^ 3 % 2 ^ 2 ≡ b % 2 ^ 2 = omega arith in
    rw e (clear_2 (b / 2 ^ 4) (b % 2 ^ 3) (omega arith) ∙ ap (λ (x : ℕ). b / 2 ^ 4 * 2 ^ 4 + x) m)

clear_432 : (b : ℕ) → clear (4 ∷ 3 ∷ 2 ∷ []) b ≡ b / 2 ^ 5 * 2 ^ 5 + b % 2 ^ 2
clear_432 b =
    let e : b - field b 4 1 * 2 ^ 4 ≡ b / 2 ^ 5 * 2 ^ 5 + b % 2 ^ 4 = omega arith in
    rw e (clear_32 (b / 2 ^ 5 * 2 ^ 5 + b % 2 ^ 4) ∙ omega arith)

-- ---- the bytes that were read

-- the first byte of all but Init
head_again : (b k c : ℕ) → 128 ≤ b → b < 256 → field b 5 2 ≡ k → c ≡ field b 0 5 → head k c ≡ b
head_again b k c h l i e = omega arith

next_three : (s : List ℕ) (at end : ℕ) → at + 3 ≤ end → end ≤ length s
    → slice at end s ≡ get_or s at 0 ∷ get_or s (at + 1) 0 ∷ get_or s (at + 2) 0 ∷ slice (at + 3) end s
next_three s at end h l =
    rw (
      add-one at,
      add-two at,
      add-three at,
      slice-cons at end s 0 (omega arith) l,
      slice-cons (suc at) end s 0 (omega arith) l,
      slice-cons (suc (suc at)) end s 0 (omega arith) l,
    )

first_six : (s : List ℕ) → 6 ≤ length s
    → take 6 s ≡ get_or s 0 0 ∷ get_or s 1 0 ∷ get_or s 2 0 ∷ get_or s 3 0 ∷ get_or s 4 0 ∷ get_or s 5 0 ∷ []
first_six s h = rw (next_three s 0 6 (omega arith) h, next_three s 3 6 (omega arith) h, slice_empty 6 s)

first_four : (s : List ℕ) → 4 ≤ length s → take 4 s ≡ get_or s 0 0 ∷ get_or s 1 0 ∷ get_or s 2 0 ∷ get_or s 3 0 ∷ []
first_four s h = rw (slice-cons 0 4 s 0 (omega arith) h, next_three s 1 4 (omega arith) h, slice_empty 4 s)

-- three bytes of an Update
three_cleared : (at b0 b1 b2 : ℕ) (r : List ℕ) → at % 3 ≡ 1
    → cleared 1 at (b0 ∷ b1 ∷ b2 ∷ r) ≡ clear (4 ∷ 3 ∷ 2 ∷ []) b0 ∷ b1 ∷ b2 ∷ cleared 1 (at + 3) r
unfolding cleared
three_cleared at b0 b1 b2 r e =
    let n1 = ne_eqb (suc at % 3) 1 (omega arith) in
    let n2 = ne_eqb (suc (suc at) % 3) 1 (omega arith) in
    rw (eq-eqb _ _ e, n1, n2, add-three at)

-- the settings that were read, written
settings_again : (s : List ℕ) (at count end : ℕ) → at % 3 ≡ 1 → at + 3 * count ≡ end → end ≤ length s → Lows (slice at end s)
    → settings_bytes (settings_in s at count) ≡ cleared 1 at (slice at end s)
unfolding settings_in settings_bytes entry_in cleared
settings_again s at zero end m e h low =
    let z : end ≡ at = omega arith in
    rw (z, slice_empty at s)
settings_again s at (suc count) end m e h low =
    let b0 = get_or s at 0 in
    let b1 = get_or s (at + 1) 0 in
    let b2 = get_or s (at + 2) 0 in
    let three = next_three s at end (omega arith) h in
    let l = rw three at low in
    let on = settings_again s (at + 3) count end (omega arith) (omega arith) h l.1.1.1 in
    rw (three, three_cleared at b0 b1 b2 (slice (at + 3) end s) m, clear_432 b0)
    (ap₂ (λ (x y : List ℕ). x ++ y) (entry_again 5 b0 b1 b2 l.0 l.1.0 l.1.1.0 (omega arith)) on)

-- ---- by Ident

module _ (s : List ℕ) (count : ℕ) (bytes : AreBytes s) (a : Accepted s count) where
  abbrev Again : Type 0
  Again = frame (command_in s count) ≡ cleared (ident_in s) 0 (take (frame_size (command_in s count)) s)

  -- the bytes of a frame are there, and the later ones are low
  bytes_of : (n : ℕ) → size_for (ident_in s) count ≡ n → (n ≤ length s) × Lows (slice 1 n s)
  bytes_of n e = (rw e at a.shaped.whole, none_lows (slice 1 n s) (rw e at a.shaped.rest_low))

  -- the first byte of all but Init
  first_of : (k : ℕ) (c : Command) → ident_in s ≡ suc k → command_in s count ≡ c → head (suc k) (check_of c) ≡ get_or s 0 0
  first_of k c i e =
      head_again (get_or s 0 0) (suc k) (check_of c) a.shaped.first_is_high (bytes 0) i
      (ap check_of (sym e) ∙ sym a.right_check ∙ check_5 s (omega arith))

  init_written : ident_in s ≡ 0 → Again
  unfolding init_word cleared
  init_written i =
      let there = bytes_of 6 (rw i) in
      let six = first_six s there.0 in
      let l = rw six at there.1 in
      let c = init_here s count i in
      let v = init_of (init_word s) in
      let k : check_of (init v) ≡ field (init_word s) 37 3 = ap check_of (sym c) ∙ sym a.right_check ∙ check_3 s i in
      let again = init_again s a.shaped.first_is_high (bytes 0) i l in
      rw (c, i, six, clear_32 (get_or s 3 0)) (ap (λ (x : ℕ). init_bytes (init_number x v)) k ∙ again)

  update_written : ident_in s ≡ 1 → Again
  unfolding cleared
  update_written i =
      let n = 1 + 3 * count in
      let there = bytes_of n (rw i) in
      let c = update_here s count i in
      let again = settings_again s 1 count n refl refl there.0 there.1 in
      rw (c, i, slice-cons 0 n s 0 (omega arith) there.0, listed_in s count)
      (ap₂ (λ (x : ℕ) (l : List ℕ). x ∷ l) (first_of 0 _ i c) again)

  stop_written : ident_in s ≡ 2 → Again
  unfolding cleared
  stop_written i =
      let c = stop_here s count i in
      rw (c, i, slice-cons 0 1 s 0 (omega arith) (bytes_of 1 (rw i)).0, slice_empty 1 s)
      (ap (λ (x : ℕ). x ∷ []) (first_of 1 _ i c))

  single_written : ident_in s ≡ 3 → Again
  unfolding entry_in cleared
  single_written i =
      let there = bytes_of 4 (rw i) in
      let four = first_four s there.0 in
      let l = rw four at there.1 in
      let c = single_here s count i in
      let again = entry_again 4 (get_or s 1 0) (get_or s 2 0) (get_or s 3 0) l.0 l.1.0 l.1.1.0 (omega arith) in
      rw (c, i, four, clear_32 (get_or s 1 0)) (ap₂ (λ (x : ℕ) (l : List ℕ). x ∷ l) (first_of 2 _ i c) again)

  written_again : Again
  written_again = for_each_ident s init_written update_written stop_written single_written

pub each_writes_back : EachWritesBack
each_writes_back s count bytes e =
    let a = accepted s count e in
    let c = command_in s count in
    let same = reads_found s count a in
    record {
      same = same;
      accepted = a.good_values;
      bytes = λ out. rw same λ room. written_frame c out a.good_values room ∙ ap (λ (l : List ℕ). l ++ drop (frame_size c) out) (written_again s count bytes a);
    }
