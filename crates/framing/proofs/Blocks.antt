-- A scan passes over a block in which no byte is special: nothing opens or closes in it, and its last byte is no stuffing byte. Assumes nothing.
use mathlib.Core.Path.{◌≡◌, refl, sym, ap, ◌∙◌}
use mathlib.Core.Bool.{Bool, true, false, not, cond, ◌||◌, false≢true}
use mathlib.Core.List.{List, [], ◌∷◌, ◌++◌}
use Prim.Native.Nat.{ℕ, suc, ◌+◌, ◌-◌, ◌≤◌, ◌<◌}
use native.Mathlib.Numerals.{add-one}
use native.Mathlib.Omega.{arith}
use lib.Dec.{eqb, leb}
use lib.ListN.{length, take, drop, get_or, length-drop, take-append-drop}
use lib.Seq.{drop-cons, drop-drop, length-take-le}
use borrow.Author.Tests.{leb-true, not-true}
use Rattle.stuffing.specs.Stuffing.{start_byte, stop_byte, stuffing_byte, special, any_special}
use Rattle.commands.proofs.Tests.{both}
use Rattle.framing.specs.Scan.{opens, closes, opened, scan}
use Rattle.framing.specs.Blocks.{quiet}

neither : (a b : Bool) → (a || b) ≡ false → (a ≡ false) × (b ≡ false)
neither true b e = absurd (false≢true (sym e))
neither false b e = (refl, e)

-- of the byte before, only whether it is a stuffing byte matters
calm : (p q body at : ℕ) (l : List ℕ) → eqb p stuffing_byte ≡ false → eqb q stuffing_byte ≡ false → scan p body at l ≡ scan q body at l
unfolding scan closes opened opens
calm p q body at [] e f = refl
calm p q body at (b ∷ l) e f = rw (e, f)

-- a byte that neither opens nor closes
passed : (prev body at b : ℕ) (l : List ℕ) → eqb b start_byte ≡ false → eqb b stop_byte ≡ false → scan prev body at (b ∷ l) ≡ scan b body (at + 1) l
unfolding scan closes opened opens
passed prev body at b l e f = by (eqb prev stuffing_byte) refl
  where
    by : (t : Bool) → eqb prev stuffing_byte ≡ t → scan prev body at (b ∷ l) ≡ scan b body (at + 1) l
    by true p = rw p
    by false p = rw (p, e, f)

pub scan_unmarked : (prev body : ℕ) (s : List ℕ) (at : ℕ) → at < length s → (eqb (get_or s at 0) start_byte || eqb (get_or s at 0) stop_byte) ≡ false
    → scan prev body at (drop at s) ≡ scan (get_or s at 0) body (at + 1) (drop (at + 1) s)
scan_unmarked prev body s at h e =
    let b = get_or s at 0 in
    let f = neither (eqb b start_byte) (eqb b stop_byte) e in
    ap (scan prev body at) (drop-cons s at 0 h) ∙ passed prev body at b (drop (suc at) s) f.0 f.1
    ∙ ap (λ (n : ℕ). scan b body (at + 1) (drop n s)) (sym (add-one at))

none_of : (b : ℕ) → special b ≡ false → (eqb b start_byte ≡ false) × (eqb b stop_byte ≡ false) × (eqb b stuffing_byte ≡ false)
unfolding special
none_of b e =
    let f = neither (eqb b start_byte) (eqb b stop_byte || eqb b stuffing_byte) e in
    let g = neither (eqb b stop_byte) (eqb b stuffing_byte) f.1 in
    (f.0, g.0, g.1)

run : (prev body at b : ℕ) (xs rest : List ℕ) → any_special (b ∷ xs) ≡ false → scan prev body at (b ∷ xs ++ rest) ≡ scan 0 body (at + suc (length xs)) rest
unfolding any_special
run prev body at b [] rest e =
    let f = none_of b (neither (special b) false e).0 in
    passed prev body at b rest f.0 f.1 ∙ calm b 0 body (at + 1) rest f.2 refl
run prev body at b (x ∷ xs) rest e =
    let n = neither (special b) (special x || any_special xs) e in
    let f = none_of b n.0 in
    passed prev body at b (x ∷ xs ++ rest) f.0 f.1 ∙ run b body (at + 1) x xs rest n.1 ∙ ap (λ (k : ℕ). scan 0 body k rest) (omega arith)

over : (prev body at : ℕ) (xs rest : List ℕ) → 0 < length xs → any_special xs ≡ false → scan prev body at (xs ++ rest) ≡ scan 0 body (at + length xs) rest
over prev body at [] rest h e = absurd (omega arith)
over prev body at (b ∷ xs) rest h e = run prev body at b xs rest e

parts : (s : List ℕ) (at : ℕ) → quiet s at ≡ true → (leb 16 (length s - at) ≡ true) × (any_special (take 16 (drop at s)) ≡ false)
unfolding quiet
parts s at e =
    let t = both (leb 16 (length s - at)) (not (any_special (take 16 (drop at s)))) e in
    (t.0, not-true (any_special (take 16 (drop at s))) t.1)

within : (s : List ℕ) (at : ℕ) → quiet s at ≡ true → at + 16 ≤ length s
within s at e = omega (arith, leb-true 16 (length s - at) (parts s at e).0)

-- where a block ends
pub further : (n at end : ℕ) → end ≡ cond (leb 16 (n - at)) (at + 16) n → at < n → (at < end) × (end ≤ n)
further n at end e h = by (leb 16 (n - at)) refl e
  where
    by : (t : Bool) → leb 16 (n - at) ≡ t → end ≡ cond t (at + 16) n → (at < end) × (end ≤ n)
    by true p q = (omega arith, omega (arith, leb-true 16 (n - at) p))
    by false p q = (omega arith, omega arith)

ends : (s : List ℕ) (at end : ℕ) → end ≡ cond (leb 16 (length s - at)) (at + 16) (length s) → quiet s at ≡ true → end ≡ at + 16
ends s at end e q = e ∙ ap (λ (t : Bool). cond t (at + 16) (length s)) (parts s at q).0

quiet_on : (prev body : ℕ) (s : List ℕ) (at : ℕ) → quiet s at ≡ true → scan prev body at (drop at s) ≡ scan 0 body (at + 16) (drop (at + 16) s)
quiet_on prev body s at e =
    let l = drop at s in
    let n : length (take 16 l) ≡ 16 = length-take-le 16 l (omega (arith, within s at e, length-drop at s)) in
    ap (scan prev body at) (sym (take-append-drop 16 l)) ∙ over prev body at (take 16 l) (drop 16 l) (omega arith) (parts s at e).1
    ∙ ap (λ (k : ℕ). scan 0 body (at + k) (drop 16 l)) n ∙ ap (scan 0 body (at + 16)) (drop-drop 16 at s)

pub quiet_turn : (prev body : ℕ) (s : List ℕ) (at end : ℕ) → end ≡ cond (leb 16 (length s - at)) (at + 16) (length s) → quiet s at ≡ true
    → scan prev body at (drop at s) ≡ scan 0 body end (drop end s)
quiet_turn prev body s at end e q = quiet_on prev body s at q ∙ ap (λ (n : ℕ). scan 0 body n (drop n s)) (sym (ends s at end e q))
