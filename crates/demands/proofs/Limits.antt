-- What is over a limit of a profile is over one of each profile that is nowhere looser, and how such a profile judges. Assumes nothing.
use Prim.Native.Nat.{ℕ, ◌≤◌, ◌<◌}
use mathlib.Core.Bool.{Bool, true, false, ◌||◌, or-true, false≢true}
use mathlib.Core.Path.{◌≡◌, refl, ◌∙◌}
use mathlib.Core.List.{List, [], ◌∷◌, ◌++◌}
use native.Mathlib.Omega.{arith}
use native.Mathlib.Nat.{le_refl}
use lib.Dec.{ltb}
use lib.ListN.{get_or}
use borrow.Author.Tests.{ltb-true, lt-ltb}
use Rattle.commands.specs.declared.Setting.{Setting}
use Rattle.commands.specs.Answers.{Test, ◌when◌, first_of}
use Rattle.commands.specs.Commands.{Command, Command.init, Command.update, Command.stop, Command.single, no_setting}
use Rattle.model.specs.declared.Profile.{Profile}
use Rattle.model.specs.declared.Core.{Core}
use Rattle.model.specs.Profiles.{NowhereLooser, over_at, over_limits}
use Rattle.model.specs.Judgement.{over_limit, refusals, judge}
use Rattle.model.proofs.Tests.{either_way}
use Rattle.model.proofs.Below.{some_below_lem, found_below}

-- what is over a number, and what is larger, is over a smaller number
still_over : {a b x y : ℕ} → b ≤ a → x ≤ y → ltb a x ≡ true → ltb b y ≡ true
still_over {a} {b} {x} {y} h k e = lt-ltb b y (omega (arith, ltb-true a x e))

-- one of two tests holds where one of two others does, each of which implies one of them
still_one : {a b c d : Bool} → (a ≡ true → c ≡ true) → (b ≡ true → d ≡ true) → a || b ≡ true → c || d ≡ true
still_one {a = true} f g e = rw (f refl)
still_one {a = false} {c = c} f g e = rw (g e) (or-true c)

-- a last test in the place of one that implies it leaves the answer, or gives its own
last_test : {P : Type 0} (a : ℕ) (ts : List Test) (b c : Bool) → (b ≡ true → c ≡ true)
    → (first_of (ts ++ a when b ∷ []) ≡ first_of (ts ++ a when c ∷ []) → P) → (first_of (ts ++ a when c ∷ []) ≡ a → P) → P
last_test a [] b true f same own = own refl
last_test a [] true false f same own = absurd (false≢true (f refl))
last_test a [] false false f same own = same refl
last_test a (t ∷ ts) b c f same own =
    either_way t.holds (λ e. same (rw e)) (λ e. last_test a ts b c f (λ h. same (rw e h)) (λ h. own (rw e h)))

module _ (p q : Profile) (l : NowhereLooser q p) where
  -- a setting at its channel that is over a limit of p is over one of q
  over_at_lem : (i : ℕ) → i < 8 → (x : Setting) → over_at p i x ≡ true → over_at q i x ≡ true
  unfolding over_at
  over_at_lem i h x =
      still_one (still_one (still_over (l.currents i h) (le_refl _)) (still_over (l.widths i h) (le_refl _)))
      (still_over l.charge (le_refl _))

  -- so are settings
  over_limits_lem : (settings : List Setting) → over_limits p settings ≡ true → over_limits q settings ≡ true
  unfolding over_limits
  over_limits_lem settings e =
      let (i, h, o) = some_below_lem 8 (λ i. over_at p i (get_or settings i no_setting)) e in
      found_below 8 (λ i. over_at q i (get_or settings i no_setting)) i h (over_at_lem i h (get_or settings i no_setting) o)

  -- so is a command
  over_limit_lem : (m : Core) (c : Command) → over_limit p m c ≡ true → over_limit q m c ≡ true
  unfolding over_limit
  over_limit_lem m (init v) e = still_over (le_refl _) l.shortest e
  over_limit_lem m (update count entries) e = over_limits_lem _ e
  over_limit_lem m stop e = e
  over_limit_lem m (single v) e = over_limits_lem _ e

  module _ (m : Core) (k : ℕ) (c : Command) where
    -- q gives p's answer, or 9
    pub same_or_9 : {P : Type 0} → (judge p m k c ≡ judge q m k c → P) → (judge q m k c ≡ 9 → P) → P
    unfolding judge
    same_or_9 = last_test 9 (refusals m k c) (over_limit p m c) (over_limit q m c) (over_limit_lem m c)

    -- what q accepts, p accepts
    pub accepts_too : judge q m k c ≡ 0 → judge p m k c ≡ 0
    accepts_too e = same_or_9 (λ h. h ∙ e) (λ h. absurd (omega arith))
