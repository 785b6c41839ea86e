-- `writer2::content_of` meets its contract. Assumes nothing.
use mathlib.Core.Path.{ap}
use mathlib.Core.List.{List, ◌∷◌}
use Prim.Native.Nat.{ℕ}
use native.Mathlib.Omega.{arith}
use Rattle.writer2.proofs.Written.{by_places}
use Rattle.writer2.proofs.content_of.Goals as goal

pub returns : goal.returns
returns c = ap (λ (l : List ℕ). c.args.packet ∷ c.args.number ∷ l) (by_places c.args.d (omega (arith, c.well_formed)))
