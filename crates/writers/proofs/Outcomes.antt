-- Laws of a writer's ways out. Assumes nothing.
use Prim.Native.Nat.{ℕ, ◌≤◌, ◌<◌}
use mathlib.Core.Bool.{true, false}
use mathlib.Core.Path.{◌≡◌, sym, ◌∙◌}
use mathlib.Core.List.{List, ◌++◌}
use native.Mathlib.Omega.{arith}
use native.Mathlib.Nat.{zero-add}
use lib.ListN.{length, drop}
use lib.Seq.{sets, sets-eq}
use borrow.Author.Tests.{lt-ltb, le-ltb}
use Rattle.commands.specs.Commands.{Command, good}
use Rattle.frames.specs.Bytes.{frame_size, frame}
use Rattle.writers.specs.Writer.{wrote, written}

module _ (c : Command) (out : List ℕ) where
  pub wrote_bad : good c ≡ false → wrote c out ≡ record { answer = 4; used = 0 }
  unfolding wrote
  wrote_bad e = simp e

  pub written_bad : good c ≡ false → written c out ≡ out
  unfolding written
  written_bad e = simp e

  module _ (e : good c ≡ true) where
    pub wrote_short : length out < frame_size c → wrote c out ≡ record { answer = 16; used = 0 }
    unfolding wrote
    wrote_short h = simp (e, lt-ltb _ _ h)

    pub written_short : length out < frame_size c → written c out ≡ out
    unfolding written
    written_short h = simp (e, lt-ltb _ _ h)

    module _ (h : frame_size c ≤ length out) where
      pub wrote_done : wrote c out ≡ record { answer = 0; used = frame_size c }
      unfolding wrote
      wrote_done = simp (e, le-ltb _ _ h)

      -- a good command's frame stands at the front of an output that has room for it
      pub written_frame : written c out ≡ frame c ++ drop (frame_size c) out
      unfolding written
      written_frame = simp (e, le-ltb _ _ h)

      pub written_done : length (frame c) ≡ frame_size c → written c out ≡ sets out 0 (frame c)
      written_done n =
          let laid : sets out 0 (frame c) ≡ frame c ++ drop (frame_size c) out = simp (zero-add, n) at (sets-eq (frame c) out 0 (omega arith)) in
          written_frame ∙ sym laid

pub ruleset outcomes = (wrote_bad, written_bad, wrote_short, written_short, wrote_done, written_done)
