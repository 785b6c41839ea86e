-- Two fresh boxes that get the same bytes and ticks, the second's profile nowhere looser: each pulse of the second is one of the
-- first, and in its stretches all that they give back is equal. Assumes nothing.
use mathlib.Core.Bool.{Bool, true, false, not}
use mathlib.Core.Path.{◌≡◌, refl, sym, ap, ◌∙◌}
use mathlib.Core.List.Memᴰ
use mathlib.Core.List.{List, [], ◌∷◌, ◌++◌, map, Memᴰ}
use borrow.Author.Tests.{not-true}
use Rattle.trace.specs.declared.Record.{Record}
use Rattle.model.specs.declared.Profile.{Profile}
use Rattle.model.specs.Profiles.{NowhereLooser}
use Rattle.model.specs.State.{State, is_tripped, fresh}
use Rattle.model.specs.Arrival.{Result}
use Rattle.model.specs.Machine.{Call, outcome, step, after, run}
use Rattle.model.proofs.Tests.{not_both}
use Rattle.outcome.specs.Claims.{pulses_in}
use Rattle.demands.specs.Demand2.{documented}
use Rattle.demands.specs.Stretch.{goes_on, in_stretch}
use Rattle.demands.specs.Demand3.{Beside, Along, Along.ended, Along.more}
use Rattle.demands.proofs.Parted.{Apart, Apart.apart, Related, Related.joined, Related.parted, Met, Met.same, Met.fell, met}

-- ---- a stretch

goes_on_lem : (was is : Bool) → goes_on was is (not was) ≡ not is
goes_on_lem false true = refl
goes_on_lem true false = refl
goes_on_lem false false = refl
goes_on_lem true true = refl

-- a call is in one exactly if the box is not tripped behind it
pub in_stretch_lem : (p : Profile) (s : State) (cs : List Call) → in_stretch p s (not (is_tripped s.core)) cs ≡ not (is_tripped (after p s cs).core)
unfolding in_stretch after
in_stretch_lem p s [] = refl
in_stretch_lem p s (c ∷ cs) =
    let t = (step p s c).state in
    ap (λ (on : Bool). in_stretch p t on cs) (goes_on_lem (is_tripped s.core) (is_tripped t.core)) ∙ in_stretch_lem p t cs

after_one : (p : Profile) (s : State) (cs : List Call) (c : Call) → after p s (cs ++ c ∷ []) ≡ (step p (after p s cs) c).state
unfolding after
after_one p s [] c = refl
after_one p s (d ∷ cs) c = after_one p (step p s d).state cs c

-- ---- a call

-- after a call the two are related again
next : {x y : Result} → Met x y → Related x.state y.state
next same = joined
next (fell a e) = parted a

-- each pulse that the second released, the first released
pulses : {x y : Result} → Met x y → (u : Record) → Memᴰ u (pulses_in y.records) → Memᴰ u (pulses_in x.records)
pulses same u h = h
pulses (fell a e) u h = absurd (Memᴰ.not-nil (rw e at h))

-- the second of two that are apart is tripped
apart_tripped : {s t : State} → Apart s t → is_tripped t.core ≡ true
apart_tripped (apart h) = refl

-- where the second is not tripped after a call, the call gave the two the same
equal : {x y : Result} → Met x y → is_tripped y.state.core ≡ false → x ≡ y
equal same h = refl
equal (fell a e) h = not_both (apart_tripped a) h

module _ (p q : Profile) (l : NowhereLooser q p) where
  -- any calls keep the two related
  related : {s t : State} → Related s t → (cs : List Call) → Related (after p s cs) (after q t cs)
  unfolding after
  related r [] = r
  related {s = s} {t = t} r (c ∷ cs) = related {s = (step p s c).state} {t = (step q t c).state} (next (met p q l r c)) cs

  pub beside : (cs : List Call) (c : Call)
      → Beside q cs c (documented (outcome (step p (after p fresh cs) c))) (documented (outcome (step q (after q fresh cs) c)))
  beside cs c =
      let m = met p q l (related joined cs) c in
      record {
        pulses = pulses m;
        equal = λ e.
            let up = rw (after_one q fresh cs c) at (in_stretch_lem q fresh (cs ++ c ∷ [])) in
            ap (λ (r : Result). documented (outcome r)) (equal m (not-true _ (sym up ∙ e)));
      }

  -- call by call
  pub along : (before cs : List Call)
      → Along q before cs (map documented (run p (after p fresh before) cs)) (map documented (run q (after q fresh before) cs))
  unfolding run
  along before [] = ended
  along before (c ∷ cs) =
      more (beside before c) (rw (after_one p fresh before c, after_one q fresh before c) at (along (before ++ c ∷ []) cs))
