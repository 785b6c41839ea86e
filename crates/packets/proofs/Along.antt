-- A reading along a row, and those behind it. Assumes nothing.
use Prim.Native.Nat.{ℕ, zero, suc, ◌≤◌}
use mathlib.Core.Path.{◌≡◌, refl, sym, ap, ◌∙◌}
use mathlib.Core.List.{List, [], ◌∷◌, map}
use native.Mathlib.Omega.{arith}
use lib.ListN.{length, drop, length-drop}
use borrow.Author.Tests.{ne_eqb}
use Rattle.framing.specs.Scan.{first_found}
use Rattle.framing.proofs.Resync.{scan_within}
use Rattle.packets.specs.Generation.{Generation}
use Rattle.packets.specs.Reader.{Reading, covered, body_answer, reading}
use Rattle.packets.specs.Laws.{Lawful}
use Rattle.packets.specs.Row.{moved, along, readings}
use Rattle.packets.proofs.Readings.{body_in, unfinished, finished}
use Rattle.packets.proofs.Room.{has_room, answered_used}

pub zero_or : {P : Type 0} (n : ℕ) → (n ≡ 0 → P) → ((n ≡ 0 → ⊥) → P) → P
zero_or zero none some = none refl
zero_or (suc n) none some = some (λ e. omega arith)

abbrev pub used_in : List ℕ → ℕ
used_in s = (first_found s).used

pub used_most : (s : List ℕ) → used_in s ≤ length s
used_most s = omega (arith, (scan_within s 0 0 0 (omega arith)).1)

-- with room for any data
abbrev pub first : {C : Type 0} → Generation C → List ℕ → Reading C
first g s = reading g s g.longest

module _ {C : Type 0} (g : Generation C) (laws : Lawful g) where
  module _ (s : List ℕ) where
    pub along_none : (n : ℕ) → used_in s ≡ 0 → along g n s ≡ []
    unfolding along
    along_none zero e = refl
    along_none (suc n) e = rw (unfinished g s g.longest e)

    along_some : (n : ℕ) → (used_in s ≡ 0 → ⊥) → along g (suc n) s ≡ first g s ∷ map (moved (used_in s)) (along g n (drop (used_in s) s))
    unfolding along
    along_some n h =
        let body = body_in s in
        let used : (first g s).used ≡ used_in s =
        ap (λ (r : Reading C). r.used) (finished g s g.longest h)
        ∙ answered_used g (body_answer g body g.longest) (covered g body) (used_in s) (has_room g laws body) in
        rw (used, ne_eqb (used_in s) 0 h)

  -- as many turns as there are bytes are enough
  turns : (n m : ℕ) (s : List ℕ) → length s ≤ n → length s ≤ m → along g n s ≡ along g m s
  turns zero m s h k = let e : used_in s ≡ 0 = omega (arith, used_most s) in along_none s 0 e ∙ sym (along_none s m e)
  turns (suc n) zero s h k = let e : used_in s ≡ 0 = omega (arith, used_most s) in along_none s (suc n) e ∙ sym (along_none s 0 e)
  turns (suc n) (suc m) s h k =
      zero_or (used_in s)
      (λ e. along_none s (suc n) e ∙ sym (along_none s (suc m) e))
      (λ e.
      let l = length-drop (used_in s) s in
      along_some s n e
      ∙ ap (λ (x : List (Reading C)). first g s ∷ map (moved (used_in s)) x) (turns n m (drop (used_in s) s) (omega arith) (omega arith))
      ∙ sym (along_some s m e))

  pub readings_some : (s : List ℕ) → (used_in s ≡ 0 → ⊥) → readings g s ≡ first g s ∷ map (moved (used_in s)) (readings g (drop (used_in s) s))
  readings_some s h =
      let l = length-drop (used_in s) s in
      turns (length s) (suc (length s)) s (omega arith) (omega arith)
      ∙ along_some s (length s) h
      ∙ ap (λ (x : List (Reading C)). first g s ∷ map (moved (used_in s)) x)
      (turns (length s) (length (drop (used_in s) s)) (drop (used_in s) s) (omega arith) (omega arith))
