-- A command by value from the first nine bytes is the one of all of them. Assumes nothing.
use mathlib.Core.Path.{◌≡◌, refl, sym, ◌∙◌}
use mathlib.Core.List.{List, [], ◌∷◌}
use Prim.Native.Nat.{ℕ, zero, suc, ◌+◌, ◌<◌}
use native.Mathlib.Omega.{arith}
use lib.ListN.{drop, get_or}
use lib.Seq.{get_or-drop}
use Rattle.commands2.specs.Commands.{command_of}
use Rattle.commands2.proofs.DataBytes.{command_by_bytes}

-- those behind packet number and command
abbrev pub seven : List ℕ → List ℕ
seven p = get_or p 2 0 ∷ get_or p 3 0 ∷ get_or p 4 0 ∷ get_or p 5 0 ∷ get_or p 6 0 ∷ get_or p 7 0 ∷ get_or p 8 0 ∷ []

seven_at : (p : List ℕ) (i : ℕ) → i < 7 → get_or (seven p) i 0 ≡ get_or p (2 + i) 0
seven_at p zero l = refl
seven_at p (suc zero) l = refl
seven_at p (suc (suc zero)) l = refl
seven_at p (suc (suc (suc zero))) l = refl
seven_at p (suc (suc (suc (suc zero)))) l = refl
seven_at p (suc (suc (suc (suc (suc zero))))) l = refl
seven_at p (suc (suc (suc (suc (suc (suc zero)))))) l = refl
seven_at p (suc (suc (suc (suc (suc (suc (suc i))))))) l = absurd (omega arith)

pub by_seven : (p : List ℕ) → command_of (get_or p 1 0) (seven p) ≡ command_of (get_or p 1 0) (drop 2 p)
by_seven p = command_by_bytes (get_or p 1 0) (seven p) (drop 2 p) (λ i h. seven_at p i h ∙ sym (get_or-drop 2 p i 0))
