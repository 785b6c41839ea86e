-- Laws of the settings of an Update, three bytes each: what is written, read. Assumes nothing.
use Prim.Native.Nat.{ℕ, ◌+◌}
use mathlib.Core.Path.{◌≡◌, refl, sym, ap, ap₂, ◌∙◌}
use mathlib.Core.List.{List, [], ◌∷◌, ◌++◌}
use native.Mathlib.Omega.{arith}
use lib.ListN.{length, drop}
use lib.Seq.{drop-drop}
use Rattle.commands.specs.declared.Setting.{Setting}
use Rattle.commands.proofs.Fits.{AllFit}
use Rattle.frames.specs.declared.Entry.{Entry}
use Rattle.frames.specs.Layout.{settings_in}
use Rattle.frames.specs.Bytes.{settings_bytes}
use Rattle.demands.proofs.Accepted.{Lows}
use Rattle.demands.proofs.ThreeBytes.{entry_there, entry_lows}

-- the bytes of settings that have room are low
pub settings_lows : (vs : List Setting) → AllFit vs → Lows (settings_bytes vs)
unfolding settings_bytes
settings_lows [] fits = tt
settings_lows (v ∷ vs) fits =
    let l = entry_lows 5 _ _ _ (omega arith) fits.0 (omega arith) in
    (l.0, (l.1.0, (l.1.1.0, settings_lows vs fits.1)))

-- and read as those settings
pub settings_there : (s : List ℕ) (vs : List Setting) (at : ℕ) (rest : List ℕ) → AllFit vs → drop at s ≡ settings_bytes vs ++ rest
    → settings_in s at (length vs) ≡ vs
unfolding settings_in settings_bytes
settings_there s [] at rest fits e = refl
settings_there s (v ∷ vs) at rest fits e =
    let there = entry_there 5 _ _ _ (omega arith) fits.0 s at (settings_bytes vs ++ rest) e in
    let on : drop (at + 3) s ≡ settings_bytes vs ++ rest = sym (drop-drop 3 at s) ∙ ap (drop 3) e in
    ap₂ (λ (x : Entry) (xs : List Setting). record { mode = x.lead; width = x.width; current = x.current } ∷ xs)
    there (settings_there s vs (at + 3) rest fits.1 on)
