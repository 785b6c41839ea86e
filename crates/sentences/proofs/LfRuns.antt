-- Calls to two boxes whose lists differ in low frequency bits outside Channel_Stim, each with its own Init frames. Assumes nothing.
use Prim.Native.Nat.{ℕ, zero, suc, ◌+◌, ◌<◌}
use mathlib.Core.Bool.{true, false, not}
use mathlib.Core.Path.{◌≡◌, refl, sym, ap, ◌∙◌}
use mathlib.Core.List.{List, [], ◌∷◌, ◌++◌, append_assoc}
use native.Mathlib.Omega.{arith}
use lib.Dec.{eqb}
use lib.ListN.{length, get_or, drop, length-append}
use borrow.Author.Tests.{eq-eqb, ne_eqb, not-true}
use Rattle.bits.specs.High.{high}
use Rattle.commands.specs.declared.Init.{Init}
use Rattle.commands.specs.Commands.{Command.init, ident_of, check_of}
use Rattle.commands.proofs.Tests.{both}
use Rattle.frames.specs.Layout.{ident_in, check_in}
use Rattle.frames.proofs.Idents.{update_here, stop_here, single_here, for_each_ident}
use Rattle.model.specs.declared.Profile.{Profile}
use Rattle.model.specs.declared.Core.{Core}
use Rattle.model.specs.State.{Partial, no_frame, State}
use Rattle.model.specs.Judgement.{judge}
use Rattle.model.specs.Effects.{Done}
use Rattle.model.specs.Arrival.{Arrival, Arrival.stray, Arrival.alone, Arrival.growing, Arrival.whole, lengthened, opened, followed, arrive, decided, command_of, judged, taken, byte_step}
use Rattle.model.specs.Ticks.{last_clock, tick_step}
use Rattle.model.specs.Machine.{Call, Call.byte, Call.tick, Outcome, outcome, step, run}
use Rattle.model.specs.Good.{all_low}
use Rattle.model.proofs.Tests.{either_way}
use Rattle.model.proofs.Cases.{quiet}
use Rattle.demands.specs.FreshBox.{ticks}
use Rattle.sentences.specs.LfOutside.{with_lf, SameInside, InitFrame, spaced, SameCalls, SameCalls.no_calls, SameCalls.same_call, SameCalls.own_frames}
use Rattle.sentences.proofs.LfSteps.{core_with_lf, Alike, Alike.alike, judge_alike, carry_alike, init_judged, init_alike, timed_alike}

-- a state, by its parts
abbrev pub at : ℕ → Partial → Core → State
at clock q m = record { clock = clock; partial = q; core = m }

-- two such boxes, with these partial frames, give back the same to these calls
abbrev pub Alikes : Profile → Partial → Partial → List Call → List Call → Type 0
Alikes p q r cs ds =
    (clock : ℕ) (m : Core) (lf : ℕ) → SameInside m.run.list lf → run p (at clock q m) cs ≡ run p (at clock r (core_with_lf m lf)) ds

-- the same is given back first, and then
then_same : {o : Outcome} {os ps : List Outcome} → os ≡ ps → o ∷ os ≡ o ∷ ps
then_same {o} e = ap (λ (l : List Outcome). o ∷ l) e

-- ---- a call and the rest, where the rest is alike

-- a tick, whatever frames are open
tick_on : (p : Profile) (q r : Partial) (cs ds : List Call) → Alikes p q r cs ds → Alikes p q r (tick ∷ cs) (tick ∷ ds)
unfolding run step tick_step
tick_on p q r cs ds k clock m lf h =
    either_way (eqb clock last_clock) (λ e. rw e (then_same (k clock m lf h))) (λ e. rw e (on (timed_alike p (clock + 1) m lf h)))
  where
    on : {d e : Done} → Alike d e
        → record { answer = 0; reply = 0; records = d.records } ∷ run p (at (clock + 1) q d.core) cs
        ≡ record { answer = 0; reply = 0; records = e.records } ∷ run p (at (clock + 1) r e.core) ds
    on (alike d lf h) = then_same (k (clock + 1) d.core lf h)

-- so many ticks
ticks_on : (p : Profile) (q r : Partial) (n : ℕ) (ys zs cs ds : List Call) → Alikes p q r (ys ++ cs) (zs ++ ds)
    → Alikes p q r ((ticks n ++ ys) ++ cs) ((ticks n ++ zs) ++ ds)
ticks_on p q r zero ys zs cs ds k = k
ticks_on p q r (suc n) ys zs cs ds k = tick_on p q r _ _ (ticks_on p q r n ys zs cs ds k)

module _ (p : Profile) (cs ds : List Call) where
  -- a command that was decided
  decided_on : Alikes p no_frame no_frame cs ds → (clock k answer : ℕ) {d e : Done} → Alike d e
      → outcome (decided clock k answer d) ∷ run p (decided clock k answer d).state cs
      ≡ outcome (decided clock k answer e) ∷ run p (decided clock k answer e).state ds
  unfolding decided
  decided_on k clock i answer (alike d lf h) = then_same (k clock d.core lf h)

  -- a byte, the same frame being open
  taken_on : ((q : Partial) → Alikes p q q cs ds) → (q : Partial) (clock : ℕ) (m : Core) (lf : ℕ) → SameInside m.run.list lf → (x : Arrival)
      → outcome (taken p (at clock q m) x) ∷ run p (taken p (at clock q m) x).state cs
      ≡ outcome (taken p (at clock q (core_with_lf m lf)) x) ∷ run p (taken p (at clock q (core_with_lf m lf)) x).state ds
  unfolding taken judged
  taken_on k q clock m lf h stray = then_same (k q clock m lf h)
  taken_on k q clock m lf h alone = decided_on (k no_frame) clock 1 _ (alike (quiet m) lf h)
  taken_on k q clock m lf h (growing f) = then_same (k f clock m lf h)
  taken_on k q clock m lf h (whole bytes) =
      let c = command_of bytes in
      rw (judge_alike m lf h p (check_in bytes) c) (decided_on (k no_frame) clock (ident_of c) _ (carry_alike m lf h clock c (judge p m (check_in bytes) c)))

  byte_on : ((q : Partial) → Alikes p q q cs ds) → (n : ℕ) (q : Partial) → Alikes p q q (byte n ∷ cs) (byte n ∷ ds)
  unfolding run step byte_step arrive opened
  byte_on k n q clock m lf h = taken_on k q clock m lf h (arrive m q n)

-- ---- each box's own frame

-- the bytes of an Init so far
abbrev begun : List ℕ → Partial
begun bytes = record { bytes = bytes; size = 6 }

-- what was sent of a frame, and what is to come, which is low
record Progress (done rest bytes : List ℕ) : Type 0 where
  parts : done ++ rest ≡ bytes
  low : all_low rest ≡ true

-- with one byte more
one_more : {done : List ℕ} {b : ℕ} {rest bytes : List ℕ} → Progress done (b ∷ rest) bytes → Progress (done ++ b ∷ []) rest bytes
one_more {done} {b} {rest} s =
    record { parts = append_assoc done (b ∷ []) rest ∙ s.parts; low = (both (not (high b)) (all_low rest) s.low).1 }

-- the next byte is low, and where more are to come the frame is not whole
first_low : {done : List ℕ} {b : ℕ} {rest bytes : List ℕ} → Progress done (b ∷ rest) bytes → high b ≡ false
first_low {b = b} {rest = rest} s = not-true (high b) (both (not (high b)) (all_low rest) s.low).0

not_whole : {done : List ℕ} {b : ℕ} {rest bytes : List ℕ} → Progress done (b ∷ rest) bytes → length bytes ≡ 6 → eqb (length done) 6 ≡ false
not_whole {done} {b} {rest} s e = ne_eqb (length done) 6 (λ z. omega (arith, ap length s.parts, length-append done (b ∷ rest)))

module _ (p : Profile) (cs ds : List Call) (v : Init) (other : ℕ) (inside : SameInside v other) (one two : List ℕ)
    (f : InitFrame one v) (g : InitFrame two (with_lf v other)) (k : Alikes p no_frame no_frame cs ds) where
  -- the last bytes: the frames are whole, and the Inits are judged alike
  last_on : (clock : ℕ) (m : Core) (lf : ℕ) → SameInside m.run.list lf
      → outcome (judged p clock m (check_in one) (command_of one)) ∷ run p (judged p clock m (check_in one) (command_of one)).state cs
      ≡ outcome (judged p clock (core_with_lf m lf) (check_in two) (command_of two))
      ∷ run p (judged p clock (core_with_lf m lf) (check_in two) (command_of two)).state ds
  unfolding judged
  last_on clock m lf h =
      rw (f.reads_as_init, f.right_check, g.reads_as_init, g.right_check, init_judged m lf h p v other)
      (decided_on p cs ds k clock 0 _ (init_alike m lf h clock v other inside (judge p m (check_of (init v)) (init v))))

  -- what is to come of the two
  low_on : (gaps done gone rest other-rest : List ℕ) → Progress done rest one → Progress gone other-rest two → 0 < length rest
      → length rest ≡ length other-rest → Alikes p (begun done) (begun gone) (spaced rest gaps ++ cs) (spaced other-rest gaps ++ ds)
  unfolding run step byte_step arrive followed lengthened taken
  low_on gaps done gone [] es s t some same = absurd (omega arith)
  low_on gaps done gone (b ∷ bs) [] s t some same = absurd (omega arith)
  low_on gaps done gone (b ∷ []) (e ∷ []) s t some same =
      ticks_on p (begun done) (begun gone) (get_or gaps 0 0) (byte b ∷ []) (byte e ∷ []) cs ds
      (λ clock m lf h.
      rw (first_low s, first_low t, s.parts, t.parts, eq-eqb (length one) 6 f.six, eq-eqb (length two) 6 g.six) (last_on clock m lf h))
  low_on gaps done gone (b ∷ []) (e ∷ e2 ∷ es) s t some same = absurd (omega arith)
  low_on gaps done gone (b ∷ b2 ∷ bs) (e ∷ []) s t some same = absurd (omega arith)
  low_on gaps done gone (b ∷ b2 ∷ bs) (e ∷ e2 ∷ es) s t some same =
      ticks_on p (begun done) (begun gone) (get_or gaps 0 0) _ _ cs ds
      (λ clock m lf h.
      rw (first_low s, first_low t, not_whole (one_more s) f.six, not_whole (one_more t) g.six)
      (then_same (low_on (drop 1 gaps) (done ++ b ∷ []) (gone ++ e ∷ []) (b2 ∷ bs) (e2 ∷ es) (one_more s) (one_more t) (omega arith) (omega arith) clock m lf h)))

-- an Init's frame has Ident 0
init_ident : {bytes : List ℕ} {v : Init} → InitFrame bytes v → ident_in bytes ≡ 0
init_ident {bytes} f =
    for_each_ident bytes (λ e. e) (λ e. absurd (omega (arith, ap ident_of (sym (update_here bytes _ e) ∙ f.reads_as_init))))
    (λ e. absurd (omega (arith, ap ident_of (sym (stop_here bytes _ e) ∙ f.reads_as_init))))
    (λ e. absurd (omega (arith, ap ident_of (sym (single_here bytes _ e) ∙ f.reads_as_init))))

-- all of the two, whatever frame was open
frames_on : (p : Profile) (cs ds : List Call) (v : Init) (other : ℕ) → SameInside v other → (one two : List ℕ)
    → InitFrame one v → InitFrame two (with_lf v other) → Alikes p no_frame no_frame cs ds
    → (gaps : List ℕ) (q : Partial) → Alikes p q q (spaced one gaps ++ cs) (spaced two gaps ++ ds)
unfolding run step byte_step arrive opened lengthened taken
frames_on p cs ds v other inside [] es f g k gaps q = absurd (omega (arith, f.six))
frames_on p cs ds v other inside (b ∷ bs) [] f g k gaps q = absurd (omega (arith, g.six))
frames_on p cs ds v other inside (b ∷ bs) (e ∷ es) f g k gaps q =
    ticks_on p q q (get_or gaps 0 0) _ _ cs ds
    (λ clock m lf h.
    rw (f.first_is_high, g.first_is_high, init_ident f, init_ident g)
    (then_same
    (low_on p cs ds v other inside (b ∷ bs) (e ∷ es) f g k (drop 1 gaps) (b ∷ []) (e ∷ []) bs es
    (record { parts = refl; low = f.others_low }) (record { parts = refl; low = g.others_low })
    (omega (arith, f.six)) (omega (arith, f.six, g.six)) clock m lf h)))

-- ---- the same calls, but for such frames

pub same_calls_on : (p : Profile) {cs ds : List Call} → SameCalls cs ds → (q : Partial) → Alikes p q q cs ds
unfolding run
same_calls_on p no_calls q = λ clock m lf h. refl
same_calls_on p (same_call (byte n) {cs} {ds} c) q = byte_on p cs ds (λ r. same_calls_on p c r) n q
same_calls_on p (same_call tick {cs} {ds} c) q = tick_on p q q cs ds (same_calls_on p c q)
same_calls_on p (own_frames {v} {lf} {one} {other} inside f g gaps {cs} {ds} c) q =
    frames_on p cs ds v lf inside one other f g (same_calls_on p c no_frame) gaps q
