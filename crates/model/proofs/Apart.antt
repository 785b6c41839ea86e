-- The slots of a module's listed channels are 15 apart and lie within t2, so at most one channel of a module is due. Assumes nothing.
use Prim.Native.Nat.{ℕ, zero, suc, ◌+◌, ◌-◌, ◌*◌, ◌≤◌, ◌<◌}
use mathlib.Core.Bool.{true}
use mathlib.Core.Path.{◌≡◌}
use mathlib.Core.List.{[], ◌∷◌}
use native.Mathlib.Omega.{arith}
use native.Mathlib.Nat.{mul-le-mul_right, add-mul}
use lib.Dec.{leb, ltb, eqb}
use lib.ListN.{get_or}
use borrow.Author.Tests.{leb-true, leb-false, ltb-true, ltb-false, eqb-true, eqb-false}
use Rattle.commands.specs.declared.Setting.{Setting}
use Rattle.commands.specs.Commands.{no_setting}
use Rattle.model.specs.declared.Run.{Run}
use Rattle.model.specs.Channels.{in_set, many}
use Rattle.model.specs.Timing.{t2}
use Rattle.model.specs.Slots.{slot, in_turn, felt, hits, due}
use Rattle.model.proofs.Tests.{each, either_way}
use Rattle.model.proofs.Below.{some_below_lem}

-- a channel in the set is counted beyond it
many_more : (set first i : ℕ) → in_set set (first + i) ≡ true → (n : ℕ) → i < n → many set first i + 1 ≤ many set first n
unfolding many
many_more set first i h zero l = absurd (omega arith)
many_more set first i h (suc n) l =
    either_way (eqb i n)
    (λ e. rw (← eqb-true i n e, h) (omega arith))
    (λ e.
    let d : i ≡ n → ⊥ = eqb-false i n e in
    omega (arith, many_more set first i h n (omega arith)))

-- a later slot does not meet an earlier one, whatever the groups, which are t apart
apart : (a b p q t : ℕ) → a < b → 15 * b + 15 ≤ t → 15 * a + p * t ≡ 15 * b + q * t → ⊥
apart a b p q t l h e =
    either_way (leb p q) (λ k. omega (arith, mul-le-mul_right t (leb-true p q k)))
    (λ k.
    let m : (q + 1) * t ≤ p * t = mul-le-mul_right t (omega (arith, leb-false p q k)) in
    omega (arith, add-mul q 1 t))

-- a channel that is due is listed, and the position is at its slot in one of its groups
record AtSlot (r : Run) (i : ℕ) : Type 0 where
  listed : in_set r.list.stim i ≡ true
  group : ℕ
  at : r.position ≡ slot r.list.stim i + group * t2 r.list.group

at_slot : (r : Run) (i : ℕ) → due r i ≡ true → AtSlot r i
unfolding due hits
at_slot r i e =
    let x : Setting = get_or r.settings i no_setting in
    let from : ℕ = slot r.list.stim i in
    let t : ℕ = t2 r.list.group in
    let f =
    each (in_set r.list.stim i)
    (in_turn r.list r.cycle i ∷ felt x.width x.current ∷ hits r.position from t x.mode ∷ []) e in
    let (p, l, h) = some_below_lem (x.mode + 1) (λ p. eqb r.position (from + p * t)) (f 3) in
    record { listed = f 0; group = p; at = eqb-true r.position (from + p * t) h }

-- of the four channels from `first` on, whose slots begin at `start`
module _ (r : Run) (first start : ℕ)
    (slots : (i : ℕ) → first ≤ i → i < first + 4 → slot r.list.stim i ≡ 15 * many r.list.stim first (i - first) + start)
    (room : 15 * many r.list.stim first 4 ≤ t2 r.list.group) where
  -- a listed channel of the module is counted beyond it
  more : (i n : ℕ) → first ≤ i → i < first + n → in_set r.list.stim i ≡ true
      → many r.list.stim first (i - first) + 1 ≤ many r.list.stim first n
  more i n f l h =
      let e : i ≡ first + (i - first) = omega arith in
      many_more r.list.stim first (i - first) (rw e at h) n (omega arith)

  -- where one is due, no later one is
  not_later : (i j : ℕ) → first ≤ i → i < j → j < first + 4 → due r i ≡ true → due r j ≡ true → ⊥
  not_later i j f l h d e =
      let a = at_slot r i d in
      let b = at_slot r j e in
      apart (many r.list.stim first (i - first)) (many r.list.stim first (j - first)) a.group b.group (t2 r.list.group)
      (omega (arith, more i (j - first) f (omega arith) a.listed))
      (omega (arith, more j 4 (omega arith) h b.listed))
      (omega (arith, slots i f (omega arith), slots j (omega arith) h, a.at, b.at))

  -- at most one is due
  pub one_due : (i j : ℕ) → first ≤ i → i < first + 4 → first ≤ j → j < first + 4 → due r i ≡ true → due r j ≡ true → i ≡ j
  one_due i j f l g m d e =
      either_way (ltb i j) (λ t. absurd (not_later i j f (ltb-true i j t) m d e))
      (λ t.
      either_way (ltb j i) (λ u. absurd (not_later j i g (ltb-true j i u) l e d)) (λ u. omega (arith, ltb-false i j t, ltb-false j i u)))
