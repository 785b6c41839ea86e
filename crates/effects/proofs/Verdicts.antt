-- The judgement of a command of each kind, and what it comes to. Assumes nothing.
use Prim.Native.Nat.{ℕ}
use mathlib.Core.Bool.{not}
use mathlib.Core.Path.{◌≡◌, refl, ◌∙◌}
use mathlib.Core.List.{List, [], ◌∷◌}
use lib.Dec.{ltb}
use lib.ListN.{set}
use borrow.Author.Tests.{ne_eqb}
use Rattle.commands.specs.declared.Init.{Init}
use Rattle.commands.specs.declared.Setting.{Setting}
use Rattle.commands.specs.declared.Single.{Single}
use Rattle.commands.specs.Answers.{◌when◌, first_of}
use Rattle.commands.specs.declared.refusals.Refusal.{Refusal}
use Rattle.commands.specs.Refusals.{number}
use Rattle.commands.proofs.Numbers.{refused}
use Rattle.commands.specs.Commands.{Command, Command.init, Command.update, Command.stop, Command.single, ident_of}
use Rattle.model.specs.declared.Profile.{Profile}
use Rattle.model.specs.declared.Core.{Core}
use Rattle.model.specs.Channels.{silence, placed}
use Rattle.model.specs.Timing.{t1, init_timing, update_timing}
use Rattle.model.specs.Profiles.{over_limits}
use Rattle.model.specs.State.{is_running, still}
use Rattle.model.specs.Judgement.{asked, breaks_timing, hold_of, in_hold, over_limit}
use Rattle.model.specs.Effects.{Done, with_run, started, waited, accept, carry}
use Rattle.model.specs.Arrival.{decided}
use Rattle.decided.specs.declared.Decided.{Decided}
use Rattle.decided.specs.ByValue.{drop_frame, by_value}
use Rattle.effects.specs.Deciding.{late_tests, late}

-- a core without a record beside it
abbrev bare : Core → Done
bare n = record { core = n; records = [] }

module _ (p : Profile) (clock : ℕ) (m : Core) where
  -- ---- what is carried out, and what is not

  module _ (c : Command) {r : Decided} where
    pub carried_out : 0 ≡ first_of (late_tests p m c) → r ≡ by_value (decided clock (ident_of c) 0 (accept clock m c)) → r ≡ by_value (late p clock m c)
    unfolding late carry
    carried_out z e = e ∙ rw (← z)

    pub not_carried : (x : Refusal) → number x ≡ first_of (late_tests p m c) → r ≡ by_value (drop_frame clock m (ident_of c) (number x))
        → r ≡ by_value (late p clock m c)
    unfolding late carry
    not_carried x f e = e ∙ rw (← f, ne_eqb (number x) 0 (refused x))

  -- ---- the tests of each kind, and what it does

  module _ (v : Init) {a : ℕ} (judged : a ≡ first_of (5 when not (init_timing v) ∷ 9 when ltb (t1 v.main) p.shortest ∷ [])) where
    pub init_tests : a ≡ first_of (late_tests p m (init v))
    unfolding late_tests breaks_timing in_hold over_limit
    init_tests = judged

  pub init_done : (v : Init) {n : Core} {r : Decided} → 0 ≡ first_of (late_tests p m (init v))
      → n ≡ record { holda = 15; holdb = 15; state = 1; run = started v } → r ≡ by_value (decided clock 0 0 (bare n))
      → r ≡ by_value (late p clock m (init v))
  unfolding accept
  init_done v f e t = carried_out (init v) f (t ∙ rw e)

  module _ (entries : List Setting) {settings : List Setting} (asks : settings ≡ placed m.run.list.stim entries) where
    pub update_tests : {a : ℕ}
        → a ≡ first_of (6 when not (is_running m) ∷ 5 when not (update_timing m.run.list settings) ∷ 9 when over_limits p settings ∷ [])
        → a ≡ first_of (late_tests p m (update 0 entries))
    unfolding late_tests breaks_timing in_hold over_limit asked
    update_tests judged = rw asks at judged

    pub update_done : {n : Core} {r : Decided} → 0 ≡ first_of (late_tests p m (update 0 entries)) → n ≡ with_run m (waited m.run settings)
        → r ≡ by_value (decided clock 1 0 (bare n)) → r ≡ by_value (late p clock m (update 0 entries))
    unfolding accept asked
    update_done f e t = carried_out (update 0 entries) f (t ∙ rw (e, asks))

  pub single_tests : (v : Single) {a : ℕ}
      → a ≡ first_of (7 when is_running m ∷ 8 when ltb 0 (hold_of m v.channel) ∷ 9 when over_limits p (set silence v.channel (record { mode = 0; width = v.width; current = v.current })) ∷ [])
      → a ≡ first_of (late_tests p m (single v))
  unfolding late_tests breaks_timing in_hold over_limit asked
  single_tests v e = e

  -- a Stop is accepted in any state
  pub stop_done : {n : Core} {r : Decided} → n ≡ record { holda = 15; holdb = 15; state = 0; run = still }
      → r ≡ by_value (decided clock 2 0 (bare n)) → r ≡ by_value (late p clock m stop)
  unfolding late_tests breaks_timing in_hold over_limit accept
  stop_done e t = carried_out stop refl (t ∙ rw e)
