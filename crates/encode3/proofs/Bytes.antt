-- The bytes of points, and of numbers, the high one first. Assumes nothing.
use Prim.Native.Nat.{ℕ, ◌+◌, ◌/◌, ◌%◌, ◌<◌}
use mathlib.Core.Path.{◌≡◌, refl, sym, ap, ◌∙◌}
use mathlib.Core.Bool.{true}
use mathlib.Core.List.{List, [], ◌∷◌, ◌++◌, append_assoc, append-nil}
use native.Mathlib.Omega.{arith}
use native.Mathlib.Numerals.{add-one}
use lib.ListN.{length, get_or, take}
use lib.Seq.{take-suc}
use mir.Syntax.{w16, w32}
use Rattle.std.specs.Int.{to_be_bytes}
use Rattle.charge.specs.declared.Point.{Point}
use Rattle.charge.specs.Charge.{of_paper}
use Rattle.charge.proofs.Points.{paper_duration, paper_code}
use Rattle.commands3.specs.Points.{word_of, point_bytes, bytes_of}
use Rattle.commands3.specs.Contents.{two}

pub two_bytes : (n : ℕ) → n < 65536 → to_be_bytes w16 n ≡ two n
two_bytes n h = let e : n / 256 % 256 ≡ n / 256 = omega arith in rw e

pub four_bytes : (p : Point) → of_paper p ≡ true → to_be_bytes w32 (word_of p) ≡ point_bytes p
unfolding point_bytes
four_bytes p h =
    let e : word_of p / 16777216 % 256 ≡ word_of p / 16777216 = omega (arith, paper_duration p h, paper_code p h) in rw e

bytes_append : (l m : List Point) → bytes_of (l ++ m) ≡ bytes_of l ++ bytes_of m
unfolding bytes_of
bytes_append [] m = refl
bytes_append (p ∷ l) m = ap (λ (r : List ℕ). point_bytes p ++ r) (bytes_append l m) ∙ sym (append_assoc (point_bytes p) (bytes_of l) (bytes_of m))

pub bytes_end : (l : List Point) (i : ℕ) (d : Point) → i < length l → bytes_of (take (i + 1) l) ≡ bytes_of (take i l) ++ point_bytes (get_or l i d)
unfolding bytes_of
bytes_end l i d h = rw (add-one i, take-suc l i d h, bytes_append, append-nil)
