-- Reducing as one goes is reducing at the end, by any modulus and over any list, and so for the Check of any command. Assumes nothing.
use Prim.Native.Nat.{ℕ, ◌+◌, ◌%◌}
use mathlib.Core.Path.{◌≡◌, refl, sym, ap, ◌∙◌}
use mathlib.Core.List.{List, [], ◌∷◌}
use native.Mathlib.Omega.{arith}
use native.Mathlib.Nat.{add-zero, zero-add, zero-mod, mod-add-mod, mod-mod_of_dvd, dvd-mul_right}
use Rattle.std.specs.List.{fold}
use Rattle.commands.specs.declared.Init.{Init}
use Rattle.commands.specs.declared.Setting.{Setting}
use Rattle.commands.specs.Commands.{Command, Command.init, Command.update, Command.stop, Command.single, sum_all, check_of}
use Rattle.checks.specs.Reduced.{reduced, total, modulus_of, settings_variables, variables_of}

-- on from the remainder of any sum
onward : (m s : ℕ) (xs : List ℕ) → reduced m (s % m) xs ≡ (s + total xs) % m
unfolding reduced total
onward m s [] = ap (λ (n : ℕ). n % m) (sym (add-zero s))
onward m s (x ∷ xs) =
    let e : s + x + total xs ≡ s + (x + total xs) = omega arith in
    rw (mod-add-mod s m x) (onward m (s + x) xs ∙ ap (λ (n : ℕ). n % m) e)

pub as_one_goes : (m : ℕ) (xs : List ℕ) → reduced m 0 xs ≡ total xs % m
as_one_goes m xs = simp (zero-mod, zero-add) at (onward m 0 xs)

-- by computation, the Update of source 003's examples: 1275, of which 27 is left
abbrev example : List ℕ
example = 0 ∷ 100 ∷ 52 ∷ 2 ∷ 200 ∷ 55 ∷ 1 ∷ 300 ∷ 72 ∷ 1 ∷ 400 ∷ 92 ∷ []

computed : (reduced 32 0 example ≡ 27) × (total example ≡ 1275)
unfolding reduced total
computed = (refl, refl)

-- ---- the Check of a command

-- one variable after the other
pub one_by_one : (remainder : ℕ) (xs : List ℕ) → fold (λ r x. (r + x) % 32) remainder xs ≡ reduced 32 remainder xs
unfolding reduced
one_by_one remainder [] = refl
one_by_one remainder (x ∷ xs) = one_by_one ((remainder + x) % 32) xs

entries_reduced : (remainder : ℕ) (vs : List Setting)
    → fold (λ r v. reduced 32 r (v.mode ∷ v.width ∷ v.current ∷ [])) remainder vs ≡ reduced 32 remainder (settings_variables vs)
unfolding reduced settings_variables
entries_reduced remainder [] = refl
entries_reduced remainder (v ∷ vs) = entries_reduced (reduced 32 remainder (v.mode ∷ v.width ∷ v.current ∷ [])) vs

total_settings : (vs : List Setting) → total (settings_variables vs) ≡ sum_all vs
unfolding total settings_variables sum_all
total_settings [] = refl
total_settings (v ∷ vs) = omega (arith, total_settings vs)

total_variables : (c : Command) → total (variables_of c) % modulus_of c ≡ check_of c
unfolding total
total_variables (init v) = ap (λ (n : ℕ). n % 8) (omega arith)
total_variables (update count entries) = ap (λ (n : ℕ). n % 32) (total_settings entries)
total_variables stop = refl
total_variables (single v) = ap (λ (n : ℕ). n % 32) (omega arith)

pub check_as_one_goes : (c : Command) → reduced (modulus_of c) 0 (variables_of c) ≡ check_of c
check_as_one_goes c = as_one_goes (modulus_of c) (variables_of c) ∙ total_variables c

-- the remainder by 32 holds that by 8
pub init_as_one_goes : (v : Init) → reduced 32 0 (variables_of (init v)) % 8 ≡ check_of (init v)
init_as_one_goes v =
    ap (λ (n : ℕ). n % 8) (as_one_goes 32 (variables_of (init v)))
    ∙ mod-mod_of_dvd 8 (total (variables_of (init v))) (dvd-mul_right 8 4)
    ∙ total_variables (init v)

-- entry by entry
pub entries_as_one_goes : (vs : List Setting) → fold (λ r v. reduced 32 r (v.mode ∷ v.width ∷ v.current ∷ [])) 0 vs ≡ sum_all vs % 32
entries_as_one_goes vs = entries_reduced 0 vs ∙ check_as_one_goes (update 0 vs)
