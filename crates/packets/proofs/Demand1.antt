-- Demand 1 on packets of any generation. Assumes nothing.
use Prim.Native.Nat.{ℕ, ◌≤◌}
use mathlib.Core.Bool.{Bool, true, false, cond, not, ◌||◌}
use mathlib.Core.Path.{◌≡◌, refl, ap}
use mathlib.Core.List.{List, [], ◌∷◌}
use native.Mathlib.Omega.{arith}
use lib.Dec.{eqb}
use lib.ListN.{length, drop, length-append, length-drop}
use lib.Seq.{drop-append_seam}
use borrow.Author.Tests.{eqb-true, eqb-false, not-true}
use Rattle.commands.specs.Answers.{is_one_of}
use Rattle.commands.proofs.Tests.{first_passes}
use Rattle.framing.specs.Scan.{first_found}
use Rattle.packets.specs.Generation.{Generation}
use Rattle.packets.specs.Reader.{Reading, data_in, covered, refused, found, body_tests, body_answer, reading, data_put}
use Rattle.packets.specs.Writer.{write_answer, wrote_of}
use Rattle.packets.specs.Demand1.{ReaderKeeps, WriterKeeps}
use Rattle.packets.proofs.Readings.{body_in, put_over, read_ways}
use Rattle.packets.proofs.Writings.{room_written, used_written, bytes_written, none_used, none_written}

length_over : (d out : List ℕ) → length d ≤ length out → length (put_over d out) ≡ length out
length_over d out fits = omega (arith, length-append d (drop (length d) out), length-drop (length d) out)

-- ---- the reader

sixteen_unused : (one sixteen : Bool) (used : ℕ) → one ≡ false → one || (sixteen || false) ≡ true → cond sixteen 0 used ≡ 0
sixteen_unused one true used e f = refl
sixteen_unused one false used e f = absurd (let z : ◌≡◌ {A = ℕ} 0 1 = cc in omega arith)

module _ {C : Type 0} (g : Generation C) where
  -- what a reading r leaves of the output out
  record Kept (out : List ℕ) (r : Reading C) (o : List ℕ) : Type 0 where
    size : length o ≡ length out
    past : drop r.size o ≡ drop r.size out
    leaves : (r.answer ≡ 0 → ⊥) → o ≡ out
    zeros : (r.answer ≡ 0 → ⊥) → r ≡ refused g r.answer r.used
    unused : is_one_of (1 ∷ 16 ∷ []) r.answer ≡ true → r.used ≡ 0

  refusal_keeps : (out : List ℕ) (a used : ℕ) → (is_one_of (1 ∷ 16 ∷ []) a ≡ true → used ≡ 0) → Kept out (refused g a used) out
  refusal_keeps out a used unused = record { size = refl; past = refl; leaves = λ _. refl; zeros = λ _. refl; unused = unused }

  found_keeps : (out c : List ℕ) (used : ℕ) → length (data_in c) ≤ length out → Kept out (found g c used) (put_over (data_in c) out)
  found_keeps out c used fits =
      record {
        size = length_over (data_in c) out fits;
        past = drop-append_seam (data_in c) (drop (length (data_in c)) out);
        leaves = λ n. absurd (n refl);
        zeros = λ n. absurd (n refl);
        unused = λ e. absurd (let z : ◌≡◌ {A = ℕ} 0 1 = cc in omega arith);
      }

  -- no test of a body answers 1
  body_not_1 : (body : List ℕ) (room : ℕ) → eqb (body_answer g body room) 1 ≡ false
  body_not_1 body room = not-true (eqb (body_answer g body room) 1) (first_passes (λ a. not (eqb a 1)) (body_tests g body room) refl refl)

  pub reader_keeps : (s out : List ℕ) → ReaderKeeps g s out
  reader_keeps s out =
      let body = body_in s in
      let a = body_answer g body (length out) in
      let k : Kept out (reading g s (length out)) (data_put g s out) =
      read_ways g (Kept out) s out
      (λ _. refusal_keeps out 1 0 (λ _. refl))
      (λ some p. found_keeps out (covered g body) (first_found s).used p.fits)
      (λ some n. refusal_keeps out a _ (sixteen_unused (eqb a 1) (eqb a 16) (first_found s).used (body_not_1 body (length out)))) in
      record { size = k.size; past = k.past; leaves = k.leaves; zeros = k.zeros; unused = k.unused }

-- ---- the writer

pub writer_keeps : (good : Bool) (p out : List ℕ) → WriterKeeps good p out
unfolding wrote_of
writer_keeps good p out = by (eqb (write_answer good p out) 0) refl
  where
    by : (t : Bool) → eqb (write_answer good p out) 0 ≡ t → WriterKeeps good p out
    by true e =
        let done = eqb-true (write_answer good p out) 0 e in
        record {
          size = rw (bytes_written good p out done) (length_over p out (room_written good p out done));
          past = rw (bytes_written good p out done, used_written good p out done) (drop-append_seam p (drop (length p) out));
          leaves = λ n. absurd (n done);
          unused = λ n. absurd (n done);
        }
    by false e =
        let refused = eqb-false (write_answer good p out) 0 e in
        let same = none_written good p out refused in
        record { size = ap length same; past = ap (drop (wrote_of good p out).used) same; leaves = λ n. same; unused = λ n. none_used good p out refused }
