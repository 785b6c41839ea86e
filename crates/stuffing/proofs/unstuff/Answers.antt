-- `stuffing::unstuff` meets its contract. The loop's invariant: what is known of the bytes passed and the bytes left make what holds of all, and
-- what those left stand for, put from here on, makes what is wanted. Assumes nothing.
use mathlib.Core.Path.{◌≡◌, refl, sym, ap, ap₂, ◌∙◌}
use mathlib.Core.Bool.{Bool, true, false, not, cond, ◌&&◌, and_assoc}
use mathlib.Core.List.{List, ◌∷◌}
use Prim.Native.Nat.{ℕ, ◌<◌, ◌≤◌, ◌+◌}
use native.Mathlib.Nat.{zero-add}
use native.Mathlib.Omega.{arith}
use borrow.Author.Rules.{rules}
use lib.ListN.{length, drop, length-set}
use Rattle.stuffing.specs.Stuffing.{pairs_good, unstuffed}
use Rattle.stuffing.proofs.Laws.{good_on, good_end, size_on, unstuffed_none, unstuffed_one, unstuffed_end}
use Rattle.slices.proofs.Overlay.{from, from_on, from_end}
use Rattle.stuffing.proofs.unstuff.Goals as goal
use Rattle.stuffing.proofs.unstuff.Goals.{then-not-opens, else-not-opens}

pub loop-b-init : goal.loop-b-init
loop-b-init c = (search rules, refl, refl, zero-add _, refl)

pub loop-b-preserved : goal.loop-b-preserved
loop-b-preserved c =
    let l = c.loop-b in
    let s = c.args.s.now in
    let o = c.opens_pair-opens in
    let h : l.b-index < length s = search rules in
    let r = drop (l.b-index + 1) s in
    let g : ((l.good && not c.is_wrong.result) && pairs_good o.result r) ≡ pairs_good false s =
    and_assoc l.good (not c.is_wrong.result) (pairs_good o.result r)
    ∙ ap (λ (t : Bool). l.good && t)
    (ap₂ (λ (t u : Bool). not t && pairs_good u r) c.is_wrong.ensures o.ensures ∙ sym (good_on l.after s l.b-index h)) ∙ l.invariant.2 in
    let n = size_on l.after s l.b-index o.result h o.ensures in
    elim c.if-not-opens.branch [
      | then-not-opens w ↦
          let e : o.result ≡ false = w.if-not-opens.true in
          let one : cond {A = ℕ} o.result 0 1 ≡ 1 = ap (λ (t : Bool). cond {A = ℕ} t 0 1) e in
          rw (w.out-is ∙ w.put.ensures, w.size-is, w.after-is) (
            omega arith,
            length-set l.out l.size w.plain-p.result ∙ l.invariant.1,
            g,
            omega arith,
            from_on l.size w.plain-p.result (unstuffed o.result r) l.out
                ∙ ap (λ (x : List ℕ). from l.size x l.out)
                (ap₂ (λ (n : ℕ) (t : Bool). n ∷ unstuffed t r) w.plain-p.ensures e ∙ sym (unstuffed_one l.after s l.b-index h (sym o.ensures ∙ e))) ∙ l.invariant.4,
          )
      | else-not-opens w ↦
          let e : o.result ≡ true = w.if-not-opens.false in
          let none : cond {A = ℕ} o.result 0 1 ≡ 0 = ap (λ (t : Bool). cond {A = ℕ} t 0 1) e in
          rw (w.out-is, w.size-is, w.after-is) (
            omega arith,
            l.invariant.1,
            g,
            omega arith,
            ap (λ (x : List ℕ). from l.size x l.out) (ap (λ (t : Bool). unstuffed t r) e ∙ sym (unstuffed_none l.after s l.b-index h (sym o.ensures ∙ e))) ∙ l.invariant.4,
          )
    ]

-- behind the last byte: whether the bytes are as the writer makes them, and how many they stand for
module _ (good after : Bool) (size i : ℕ) (s : List ℕ) (h : length s ≤ i) (g : (good && pairs_good after (drop i s)) ≡ pairs_good false s)
    (n : size + length (unstuffed after (drop i s)) ≡ length (unstuffed false s)) where
  at_end : (good && not after) ≡ pairs_good false s
  at_end = ap (λ (t : Bool). good && t) (sym (good_end after s i h)) ∙ g

  counted : size ≡ length (unstuffed false s)
  counted = omega (arith, ap length (unstuffed_end after s i h))

pub returns-then-good-after-clause-counted : goal.returns-then-good-after-clause-counted
returns-then-good-after-clause-counted c =
    let l = c.loop-b in
    let s = c.args.s.now in
    let h : length s ≤ l.b-index = search rules in
    let e = at_end l.good l.after l.size l.b-index s h l.invariant.2 l.invariant.3 in
    let n = counted l.good l.after l.size l.b-index s h l.invariant.2 l.invariant.3 in
    rw (sym e ∙ c.if-good-after.true, n)

pub returns-else-good-after-clause-counted : goal.returns-else-good-after-clause-counted
returns-else-good-after-clause-counted c =
    let l = c.loop-b in
    let s = c.args.s.now in
    let h : length s ≤ l.b-index = search rules in
    let e = at_end l.good l.after l.size l.b-index s h l.invariant.2 l.invariant.3 in
    let n = counted l.good l.after l.size l.b-index s h l.invariant.2 l.invariant.3 in
    rw (sym e ∙ c.if-good-after.false, n)

pub returns-then-good-after-clause-put : goal.returns-then-good-after-clause-put
returns-then-good-after-clause-put c =
    let l = c.loop-b in
    let s = c.args.s.now in
    let e = unstuffed_end l.after s l.b-index (search rules) in
    sym (from_end l.size l.out) ∙ ap (λ (x : List ℕ). from l.size x l.out) (sym e) ∙ l.invariant.4

pub returns-else-good-after-clause-put : goal.returns-else-good-after-clause-put
returns-else-good-after-clause-put c =
    let l = c.loop-b in
    let s = c.args.s.now in
    let e = unstuffed_end l.after s l.b-index (search rules) in
    sym (from_end l.size l.out) ∙ ap (λ (x : List ℕ). from l.size x l.out) (sym e) ∙ l.invariant.4
