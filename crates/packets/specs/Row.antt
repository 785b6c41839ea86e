-- A reader that goes along a row of bytes, each time behind the bytes that it used, until no packet is finished in what is left.
use Rattle.std.specs.Prelude.{ℕ, zero, suc, ◌+◌, cond, ◌≡◌, List, [], ◌∷◌, ◌++◌, map, eqb, length, drop}
use Rattle.packets.specs.Generation.{Generation}
use Rattle.packets.specs.Reader.{Reading, reading}
use Rattle.packets.specs.Line.{Open, Alone}

-- the bytes used counted from so many bytes before
abbrev pub moved : {C : Type 0} → ℕ → Reading C → Reading C
moved n r = record { answer = r.answer; used = n + r.used; packet = r.packet; command = r.command; size = r.size }

module _ {C : Type 0} (g : Generation C) where
  -- room for any data
  unfoldable pub along : ℕ → List ℕ → List (Reading C)
  along zero s = []
  along (suc n) s =
      let r : Reading C = reading g s g.longest in cond (eqb r.used 0) [] (r ∷ map (moved r.used) (along n (drop r.used s)))

  -- each reading uses a byte at least; places count from the row's first byte
  abbrev pub readings : List ℕ → List (Reading C)
  readings s = along (length s) s

  -- behind any bytes that do not end in a stuffing byte, a whole packet is read as if it stood alone; and so on behind it
  abbrev pub Resynchronises : Type 0
  Resynchronises =
      (front p rest : List ℕ) → Open front → Alone p
      → readings (front ++ (p ++ rest))
      ≡ readings front ++ (moved (length front) (reading g p g.longest) ∷ map (moved (length front + length p)) (readings rest))
