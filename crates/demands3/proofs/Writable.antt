-- What may be written: by its parts, and what is answered where one is lacking. Assumes nothing.
use Prim.Native.Nat.{ℕ, ◌≤◌}
use mathlib.Core.Bool.{Bool, true, false}
use mathlib.Core.Path.{◌≡◌, refl, ap}
use mathlib.Core.List.{List}
use native.Mathlib.Omega.{arith}
use lib.Dec.{leb}
use lib.IntN.{ℤ, pos, negsuc}
use borrow.Author.Tests.{eqb-true, leb-true, le-leb}
use Rattle.commands.proofs.Tests.{both}
use Rattle.packets.specs.Writer.{wrote_of}
use Rattle.packets.proofs.Writings.{good_written}
use Rattle.charge.specs.Charge.{charge_of, is_zero}
use Rattle.commands3.specs.declared.Message.{Message}
use Rattle.commands3.specs.Commands.{in_range, good}
use Rattle.commands3.specs.Contents.{writable}
use Rattle.packets3.specs.Writer.{packet_bytes, wrote}

pub record Writable (packet : ℕ) (m : Message) : Type 0 where
  pub number : packet ≤ 63
  pub values : in_range m ≡ true
  pub charge : charge_of m.pulse ≡ pos 0

is_zero_lem : (z : ℤ) → is_zero z ≡ true → z ≡ pos 0
unfolding is_zero
is_zero_lem (pos n) e = ap pos (eqb-true n 0 e)
is_zero_lem (negsuc n) e = absurd (let z : ◌≡◌ {A = ℕ} 0 1 = cc in omega arith)

module _ (packet : ℕ) (m : Message) where
  pub parts_writable : Writable packet m → writable packet m ≡ true
  unfolding is_zero
  parts_writable w = rw (le-leb packet 63 w.number, w.values, w.charge)

  writable_parts : writable packet m ≡ true → Writable packet m
  writable_parts e =
      let a = both (leb packet 63) (good m) e in
      let b = both (in_range m) (is_zero (charge_of m.pulse)) a.1 in
      record { number = leb-true packet 63 a.0; values = b.0; charge = is_zero_lem (charge_of m.pulse) b.1 }

  module _ (out : List ℕ) where
    pub written_parts : (wrote packet m out).answer ≡ 0 → Writable packet m
    unfolding wrote_of
    written_parts done = writable_parts (good_written (writable packet m) (packet_bytes packet m) out done)

    pub lacking_refused : (Writable packet m → ⊥) → (wrote packet m out).answer ≡ 4
    unfolding wrote_of
    lacking_refused n = by (writable packet m) refl
      where
        by : (t : Bool) → writable packet m ≡ t → (wrote_of t (packet_bytes packet m) out).answer ≡ 4
        by true e = absurd (n (writable_parts e))
        by false e = refl
