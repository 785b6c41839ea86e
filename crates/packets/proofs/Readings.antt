-- The ways that a reading goes. Assumes nothing.
use Prim.Native.Nat.{ℕ, ◌≤◌}
use mathlib.Core.Bool.{Bool, true, false, cond, not}
use mathlib.Core.Path.{◌≡◌, refl, sym, ap, ◌∙◌}
use mathlib.Core.List.{List, ◌++◌}
use native.Mathlib.Omega.{arith}
use lib.Dec.{eqb, ltb}
use lib.ListN.{length, drop}
use borrow.Author.Tests.{eqb-true, eqb-false, ltb-false, not-false, le-ltb, ne_eqb}
use Rattle.commands.proofs.Tests.{passed}
use Rattle.stuffing.specs.Stuffing.{pairs_good}
use Rattle.framing.specs.Scan.{first_found, body_at}
use Rattle.packets.specs.Generation.{Generation}
use Rattle.packets.specs.Reader.{Reading, plain, data_in, covered, body_answer, refused, found, answered, reading, put, data_put}

-- the body of the first finished packet, and what is put to the output where its data is
abbrev pub body_in : List ℕ → List ℕ
body_in s = body_at s (first_found s)

abbrev pub put_over : List ℕ → List ℕ → List ℕ
put_over d out = d ++ drop (length d) out

module _ {C : Type 0} (g : Generation C) where
  -- a body that no test refuses
  pub record Passed (body : List ℕ) (room : ℕ) : Type 0 where
    pub check : g.check_right body ≡ true
    pub long : g.length_right body ≡ true
    pub pairs : pairs_good false (covered g body) ≡ true
    pub size : g.size_good (length (plain (covered g body))) ≡ true
    pub values : g.right (plain (covered g body)) ≡ true
    pub fits : length (data_in (covered g body)) ≤ room

  pub passes : (body : List ℕ) (room : ℕ) → body_answer g body room ≡ 0 → Passed body room
  passes body room e =
      let c = covered g body in
      let a = passed (not (g.check_right body)) 3 _ (omega arith) e in
      let b = passed (not (g.length_right body)) 4 _ (omega arith) a.1 in
      let d = passed (not (pairs_good false c)) 4 _ (omega arith) b.1 in
      let f = passed (not (g.size_good (length (plain c)))) 4 _ (omega arith) d.1 in
      let h = passed (not (g.right (plain c))) 4 _ (omega arith) f.1 in
      let k = passed (ltb room (length (data_in c))) 16 0 (omega arith) h.1 in
      record {
        check = not-false _ a.0;
        long = not-false _ b.0;
        pairs = not-false _ d.0;
        size = not-false _ f.0;
        values = not-false _ h.0;
        fits = ltb-false _ _ k.0;
      }

  passing : (body : List ℕ) (room : ℕ) → Passed body room → body_answer g body room ≡ 0
  passing body room p = rw (p.check, p.long, p.pairs, p.size, p.values, le-ltb room (length (data_in (covered g body))) p.fits)

  -- where a packet was finished and its body is answered a
  abbrev pub refused_as : ℕ → ℕ → Reading C
  refused_as a used = refused g a (cond (eqb a 16) 0 used)

  -- ---- by what is found

  pub unfinished : (s : List ℕ) (room : ℕ) → (first_found s).used ≡ 0 → reading g s room ≡ refused g 1 0
  unfolding reading
  unfinished s room e = rw e

  pub finished : (s : List ℕ) (room : ℕ) → ((first_found s).used ≡ 0 → ⊥)
      → reading g s room ≡ answered g (body_answer g (body_in s) room) (covered g (body_in s)) (first_found s).used
  unfolding reading
  finished s room n = rw (ne_eqb (first_found s).used 0 n)

  answered_is : (a : ℕ) (c : List ℕ) (used : ℕ) → (answered g a c used).answer ≡ a
  unfolding answered
  answered_is a c used = by (eqb a 0) refl
    where
      by : (t : Bool) → eqb a 0 ≡ t → (cond t (found g c used) (refused_as a used)).answer ≡ a
      by true e = sym (eqb-true a 0 e)
      by false e = refl

  -- what is answered 0 is finished and passes
  pub taken : (s : List ℕ) (room : ℕ) → (reading g s room).answer ≡ 0 → ((first_found s).used ≡ 0 → ⊥) × Passed (body_in s) room
  taken s room e =
      let some : (first_found s).used ≡ 0 → ⊥ = λ z. omega (arith, ap (λ (r : Reading C). r.answer) (unfinished s room z)) in
      let a = body_answer g (body_in s) room in
      let same = ap (λ (r : Reading C). r.answer) (finished s room some) ∙ answered_is a (covered g (body_in s)) (first_found s).used in
      (some, passes (body_in s) room (sym same ∙ e))

  -- a packet that passes is read, and its data put to the output
  module _ (s out : List ℕ) (some : (first_found s).used ≡ 0 → ⊥) (passed : Passed (body_in s) (length out)) where
    pub read_found : reading g s (length out) ≡ found g (covered g (body_in s)) (first_found s).used
    unfolding answered
    read_found = finished s (length out) some ∙ rw (passing (body_in s) (length out) passed)

    pub put_found : data_put g s out ≡ put_over (data_in (covered g (body_in s))) out
    unfolding data_put put
    put_found = rw (ne_eqb (first_found s).used 0 some, passing (body_in s) (length out) passed)

  -- where the same body is found before the same place, the same is read
  module _ (s t : List ℕ) (place : (first_found s).used ≡ (first_found t).used) (body : body_in s ≡ body_in t) where
    pub same_read : (room : ℕ) → reading g s room ≡ reading g t room
    unfolding reading
    same_read room = rw (body, place)

    pub same_put : (out : List ℕ) → data_put g s out ≡ data_put g t out
    unfolding data_put
    same_put out = rw (body, place)

  -- ---- the ways

  module _ (P : Reading C → List ℕ → Type 0) where
    answer_ways : (a : ℕ) (c : List ℕ) (used : ℕ) (out : List ℕ)
        → (a ≡ 0 → P (found g c used) (put_over (data_in c) out)) → ((a ≡ 0 → ⊥) → P (refused_as a used) out) → P (answered g a c used) (put a c out)
    unfolding answered put
    answer_ways a c used out takes refuses = by (eqb a 0) refl
      where
        by : (t : Bool) → eqb a 0 ≡ t → P (cond t (found g c used) (refused_as a used)) (cond t (put_over (data_in c) out) out)
        by true e = takes (eqb-true a 0 e)
        by false e = refuses (eqb-false a 0 e)

    pub read_ways : (s out : List ℕ) → let used = (first_found s).used in let body = body_in s in let a = body_answer g body (length out) in
        (used ≡ 0 → P (refused g 1 0) out)
        → ((used ≡ 0 → ⊥) → Passed body (length out) → P (found g (covered g body) used) (put_over (data_in (covered g body)) out))
        → ((used ≡ 0 → ⊥) → (a ≡ 0 → ⊥) → P (refused_as a used) out)
        → P (reading g s (length out)) (data_put g s out)
    unfolding reading data_put
    read_ways s out none takes refuses = by (eqb (first_found s).used 0) refl
      where
        by : let used = (first_found s).used in let body = body_in s in let a = body_answer g body (length out) in
            (t : Bool) → eqb used 0 ≡ t → P (cond t (refused g 1 0) (answered g a (covered g body) used)) (cond t out (put a (covered g body) out))
        by true e = none (eqb-true (first_found s).used 0 e)
        by false e =
            let some = eqb-false (first_found s).used 0 e in
            let body = body_in s in
            answer_ways (body_answer g body (length out)) (covered g body) (first_found s).used out
            (λ z. takes some (passes body (length out) z)) (refuses some)
