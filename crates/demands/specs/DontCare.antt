-- The don't-care bits (document 01, "The four frames").
use Rattle.std.specs.Prelude.{ℕ, suc, ◌-◌, ◌*◌, ◌%◌, ◌^◌, cond, List, [], ◌∷◌, eqb}
use Rattle.bits.specs.Fields.{field}
use Rattle.frames.specs.Layout.{by_ident}

-- of the byte at a place, from 0 on. Init: bits 3 and 2 of byte 4. Update: bits 4,3,2 of the first of three bytes. Single: bits 3,2 of the second byte
abbrev pub dont_care : ℕ → ℕ → List ℕ
dont_care ident place =
    by_ident ident (cond (eqb place 3) (3 ∷ 2 ∷ []) [])
    (cond (eqb (place % 3) 1) (4 ∷ 3 ∷ 2 ∷ []) [])
    []
    (cond (eqb place 1) (3 ∷ 2 ∷ []) [])

-- a byte with these bits clear
abbrev pub clear : List ℕ → ℕ → ℕ
clear [] b = b
clear (bit ∷ bits) b = clear bits (b - field b bit 1 * 2 ^ bit)

-- a frame's bytes, from a place on, with their don't-care bits clear
unfoldable pub cleared : ℕ → ℕ → List ℕ → List ℕ
cleared ident place [] = []
cleared ident place (b ∷ s) = clear (dont_care ident place) b ∷ cleared ident (suc place) s
