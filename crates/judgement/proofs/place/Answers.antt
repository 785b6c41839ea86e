use Rattle.std.proofs.Common.{◌≡◌, ◌<◌, true, false, refl, sym, ◌∙◌, arith}
use native.Mathlib.Nat.{zero-add}
use Rattle.model.specs.Channels.{in_set, many}
use Rattle.model.proofs.Turns.{many_turn}
use Rattle.judgement.proofs.Placing.{place_listed, place_rest, place_end}
use Rattle.judgement.proofs.place.Goals as goal
use Rattle.judgement.proofs.place.Goals.{then-listed, else-listed}

pub loop-i-init : goal.loop-i-init
unfolding many
loop-i-init c = (refl, omega arith, refl)

pub loop-i-preserved : goal.loop-i-preserved
loop-i-preserved c =
    let l = c.loop-i in
    let a = c.args in
    let turn = many_turn l.i a.stim 0 c.listed.result (rw zero-add c.listed.ensures) in
    let h : l.i < 8 = omega arith in
    elim c.if-listed.branch [
      | then-listed w ↦
          let n = rw w.if-listed.true at turn in
          let yes : in_set a.stim l.i ≡ true = sym c.listed.ensures ∙ w.if-listed.true in
          (omega arith, omega arith, w.settings-is ∙ place_listed a.stim a.entries l.settings l.i h l.invariant.2 l.next l.invariant.0 yes)
      | else-listed w ↦
          let n = rw w.if-listed.false at turn in
          let no : in_set a.stim l.i ≡ false = sym c.listed.ensures ∙ w.if-listed.false in
          (omega arith, omega arith, w.settings-is ∙ place_rest a.stim a.entries l.settings l.i h l.invariant.2 no)
    ]

pub returns : goal.returns
returns c =
    let l = c.loop-i in
    let a = c.args in
    let e : l.i ≡ 8 = omega arith in
    place_end a.stim a.entries l.settings (rw e at l.invariant.2)
