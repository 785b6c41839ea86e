-- Laws of a choice by state. Assumes nothing.
use Prim.Native.Nat.{ℕ, zero, suc}
use mathlib.Core.Bool.{true, false}
use mathlib.Core.Path.{◌≡◌, refl, sym}
use native.Mathlib.Omega.{arith}
use lib.Dec.{leb}
use borrow.Author.Tests.{le-leb}
use Rattle.model.specs.State.{by_state}

-- idle and tripped alike: not running
pub not_running : {A : Type 0} (k : ℕ) (still running : A) → (k ≡ 1 → ⊥) → by_state k still running still ≡ still
not_running zero still running n = refl
not_running (suc zero) still running n = absurd (n refl)
not_running (suc (suc k)) still running n = refl

-- a state from 2 on is that of a tripped box
pub tripped_is : (k : ℕ) → leb 2 k ≡ by_state k false false true
tripped_is zero = refl
tripped_is (suc zero) = refl
tripped_is (suc (suc k)) = le-leb 2 (suc (suc k)) (omega arith)

-- tripped: not running
pub tripped_rests : (k : ℕ) → by_state k false false true ≡ true → by_state k false true false ≡ false
tripped_rests zero e = refl
tripped_rests (suc zero) e = sym e
tripped_rests (suc (suc k)) e = refl
