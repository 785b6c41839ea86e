-- What the reader's code tells, test by test. Assumes nothing.
use mathlib.Core.Path.{◌≡◌, refl, sym, ap, subst, ◌∙◌}
use mathlib.Core.Bool.{Bool, true, false, cond, ◌&&◌, true≢false}
use mathlib.Core.List.{List}
use Prim.Native.Nat.{ℕ, ◌≤◌, ◌<◌, ◌+◌}
use native.Mathlib.Omega.{arith}
use lib.Dec.{eqb}
use lib.ListN.{length, drop, length-drop}
use borrow.Author.Tests.{le-ltb, lt-ltb, ne_eqb, eq-eqb, eqb-true}
use Rattle.std.specs.Prelude.{None, Some, Result, Ok, Err, IfOk}
use Rattle.std.proofs.lemmas.Option.{none-some}
use Rattle.slices.specs.Overlay.{overlay}
use Rattle.slices.proofs.Overlay.{overlay_fits}
use Rattle.stuffing.specs.Stuffing.{stuffed, pairs_good}
use Rattle.stuffing.proofs.RoundTrip.{unstuffed_stuffed, stuffed_good}
use Rattle.framing.specs.declared.Found.{Found}
use Rattle.framing.specs.Scan.{finished}
use Rattle.commands.specs.Refusals.{number}
use Rattle.packets.specs.Generation.{Generation}
use Rattle.packets.specs.Laws.{Lawful}
use Rattle.packets.proofs.Readings.{passes}
use Rattle.packets.specs.Reader.{plain, covered, covered_answer, body_answer, refused, answered, put}
use Rattle.commands.specs.declared.refusals.Refusal.{Refusal}
use Rattle.packets.specs.declared.Meaning.{Meaning}
use Rattle.packets.specs.Reported.{meant, told, Tells}

-- a refusal leaves the output
pub left_by_3 : (c out : List ℕ) → out ≡ put 3 c out
unfolding put
left_by_3 c out = refl

pub left_by_4 : (c out : List ℕ) → out ≡ put 4 c out
unfolding put
left_by_4 c out = refl

pub left_by_16 : (c out : List ℕ) → out ≡ put 16 c out
unfolding put
left_by_16 c out = refl

-- what unstuffing says of covered bytes
abbrev counted : List ℕ → Result ℕ ℕ
counted c = cond (pairs_good false c) (Ok (length (plain c))) (Err (length (plain c)))

pub counted_ok : (c : List ℕ) (n : ℕ) → Ok n ≡ counted c → (pairs_good false c ≡ true) × (n ≡ length (plain c))
counted_ok c n = by (pairs_good false c)
  where
    by : (t : Bool) → ◌≡◌ {A = Result ℕ ℕ} (Ok n) (cond t (Ok (length (plain c))) (Err (length (plain c)))) → (t ≡ true) × (n ≡ length (plain c))
    by true e = (refl, cc)
    by false e = absurd (let z : ◌≡◌ {A = ℕ} 0 1 = cc in omega arith)

pub counted_err : (c : List ℕ) (n : ℕ) → Err n ≡ counted c → pairs_good false c ≡ false
counted_err c n = by (pairs_good false c)
  where
    by : (t : Bool) → ◌≡◌ {A = Result ℕ ℕ} (Err n) (cond t (Ok (length (plain c))) (Err (length (plain c)))) → t ≡ false
    by true e = absurd (let z : ◌≡◌ {A = ℕ} 0 1 = cc in omega arith)
    by false e = refl

module _ {C : Type 0} (g : Generation C) where
  -- a content, by what is told of it
  pub record Good (p : List ℕ) (meaning : Meaning C) : Type 0 where
    pub size : g.size_good (length p) ≡ true
    pub values : g.right p ≡ true
    pub same : meaning ≡ meant g p

  pub told_good : (p : List ℕ) (meaning : Meaning C) → told g p ≡ Some meaning → Good p meaning
  told_good p meaning = by (g.size_good (length p)) (g.right p) refl refl
    where
      by : (t u : Bool) → g.size_good (length p) ≡ t → g.right p ≡ u → cond (t && u) (Some (meant g p)) None ≡ Some meaning → Good p meaning
      by true true e f h = record { size = e; values = f; same = cc }
      by true false e f h = absurd (none-some meaning h)
      by false u e f h = absurd (none-some meaning h)

  pub told_none : (p : List ℕ) → told g p ≡ None → (g.size_good (length p) && g.right p) ≡ false
  told_none p = by (g.size_good (length p) && g.right p)
    where
      by : (t : Bool) → cond t (Some (meant g p)) None ≡ None → t ≡ false
      by true h = absurd (none-some (meant g p) (sym h))
      by false h = refl

  -- what the tests answer
  pub pairs_4 : (c : List ℕ) (room : ℕ) → (pairs_good false c && g.size_good (length (plain c))) ≡ false → covered_answer g c room ≡ 4
  pairs_4 c room = by (pairs_good false c) (g.size_good (length (plain c))) refl refl
    where
      by : (t u : Bool) → pairs_good false c ≡ t → g.size_good (length (plain c)) ≡ u → (t && u) ≡ false → covered_answer g c room ≡ 4
      by true true p q f = absurd (true≢false f)
      by true false p q f = rw (p, q)
      by false u p q f = rw p

  module _ (p : List ℕ) (room : ℕ) where
    pub content_4 : (g.size_good (length p) && g.right p) ≡ false → covered_answer g (stuffed p) room ≡ 4
    content_4 = by (g.size_good (length p)) (g.right p) refl refl
      where
        by : (t u : Bool) → g.size_good (length p) ≡ t → g.right p ≡ u → (t && u) ≡ false → covered_answer g (stuffed p) room ≡ 4
        by true true e f h = absurd (true≢false h)
        by true false e f h = rw (stuffed_good p, unstuffed_stuffed p, e, f)
        by false u e f h = rw (stuffed_good p, unstuffed_stuffed p, e)

    module _ (meaning : Meaning C) (good : Good p meaning) where
      pub room_16 : room < length (drop 2 p) → covered_answer g (stuffed p) room ≡ 16
      room_16 h = rw (stuffed_good p, unstuffed_stuffed p, good.size, good.values, lt-ltb room (length (drop 2 p)) h)

      pub room_0 : length (drop 2 p) ≤ room → covered_answer g (stuffed p) room ≡ 0
      room_0 h = rw (stuffed_good p, unstuffed_stuffed p, good.size, good.values, le-ltb room (length (drop 2 p)) h)

  -- the data goes out where it has room
  module _ (p out : List ℕ) (meaning : Meaning C) (good : Good p meaning) where
    size : meaning.size ≡ length (drop 2 p)
    size = ap (λ (m : Meaning C). m.size) good.same

    pub tells_all : meaning.size ≤ length out → Tells g (Ok meaning) (covered_answer g (stuffed p) (length out)) (stuffed p)
    tells_all h = (room_0 p (length out) meaning good (omega (arith, size)), rw (unstuffed_stuffed p) good.same)

    pub puts_all : (l : List ℕ) → l ≡ drop 2 p → meaning.size ≤ length out → overlay l out ≡ put (covered_answer g (stuffed p) (length out)) (stuffed p) out
    unfolding put
    puts_all l d h = rw (room_0 p (length out) meaning good (omega (arith, size)), unstuffed_stuffed p, d) (overlay_fits (drop 2 p) out (omega (arith, size)))

    pub tells_16 : length out < meaning.size → covered_answer g (stuffed p) (length out) ≡ 16
    tells_16 h = room_16 p (length out) meaning good (omega (arith, size))

  module _ (b : List ℕ) (room : ℕ) where
    pub check_3 : g.check_right b ≡ false → body_answer g b room ≡ 3
    check_3 e = rw e

    pub length_4 : g.check_right b ≡ true → g.length_right b ≡ false → body_answer g b room ≡ 4
    length_4 e f = rw (e, f)

  -- ---- unstuffed bytes, by how they were counted
  module _ (c : List ℕ) (most : ℕ) (room : g.size_good (length (plain c)) ≡ true → length (plain c) ≤ most) where
    by_count : (n : ℕ) → n ≡ length (plain c) → most < n → (t u : Bool) → (u ≡ true → length (plain c) ≤ most) → (t && u) ≡ false
    by_count n e h false u f = refl
    by_count n e h true true f = absurd (omega (arith, f refl))
    by_count n e h true false f = refl

    pub too_many : (n : ℕ) → Ok n ≡ counted c → most < n → (pairs_good false c && g.size_good (length (plain c))) ≡ false
    too_many n e h = by_count n (counted_ok c n e).1 h (pairs_good false c) (g.size_good (length (plain c))) room

    pub not_made : (n : ℕ) → Err n ≡ counted c → (pairs_good false c && g.size_good (length (plain c))) ≡ false
    not_made n e = rw (counted_err c n e)

  -- the same bytes are told alike
  pub told_alike : (r : Result (Meaning C) Refusal) (l c : List ℕ) (room : ℕ) → l ≡ c → Tells g r (covered_answer g l room) l → Tells g r (covered_answer g c room) c
  told_alike r l c room e t = subst (λ (x : List ℕ). Tells g r (covered_answer g x room) x) e t

  pub put_alike : (l c out : List ℕ) → l ≡ c → put (covered_answer g l (length out)) l out ≡ put (covered_answer g c (length out)) c out
  put_alike l c out e = ap (λ (x : List ℕ). put (covered_answer g x (length out)) x out) e

  -- ---- a body: what its covered bytes may be, and what is handed back
  pub few_plain : Lawful g → (body : List ℕ) → g.length_right body ≡ true → g.size_good (length (plain (covered g body))) ≡ true
      → length (plain (covered g body)) ≤ g.longest + 2
  few_plain laws body long size = omega (arith, laws.short_data body long size, length-drop 2 (plain (covered g body)))

  pub short_meaning : Lawful g → (body : List ℕ) (room : ℕ) (r : Result (Meaning C) Refusal) → Tells g r (body_answer g body room) (covered g body)
      → IfOk r (λ m. m.size ≤ g.longest)
  short_meaning laws body room (Ok m) t =
      let p = passes g body room t.0 in omega (arith, ap (λ (x : Meaning C). x.size) t.1, laws.short_data body p.long p.size)
  short_meaning laws body room (Err r) t = tt

  module _ (a : ℕ) (c : List ℕ) (used : ℕ) where
    pub answered_ok : (m : Meaning C) → Tells g (Ok m) a c
        → record { answer = 0; used = used; packet = m.packet; command = m.command; size = m.size } ≡ answered g a c used
    unfolding answered
    answered_ok m t = rw (t.0, t.1)

    pub answered_err : (r : Refusal) → Tells g (Err r) a c → refused g (number r) (cond (eqb (number r) 16) 0 used) ≡ answered g a c used
    unfolding answered
    answered_err r t = rw (t, ne_eqb (number r) 0 (Rattle.commands.proofs.Numbers.refused r))

-- ---- the first packet found
pub none_found : (f : Found) → None ≡ finished f → f.used ≡ 0
none_found f = by (eqb f.used 0) refl
  where
    by : (t : Bool) → eqb f.used 0 ≡ t → None ≡ cond t None (Some f) → f.used ≡ 0
    by true p e = eqb-true f.used 0 p
    by false p e = absurd (none-some f e)

pub found_is : (x f : Found) → Some x ≡ finished f → (x ≡ f) × (x.used ≡ 0 → ⊥)
found_is x f = by (eqb f.used 0) refl
  where
    by : (t : Bool) → eqb f.used 0 ≡ t → Some x ≡ cond t None (Some f) → (x ≡ f) × (x.used ≡ 0 → ⊥)
    by true p e = absurd (none-some x (sym e))
    by false p e =
        let same : x ≡ f = cc in
        (same, λ (z : x.used ≡ 0). true≢false (sym (eq-eqb f.used 0 (sym (ap (λ (y : Found). y.used) same) ∙ z)) ∙ p))
