-- What is known of the bytes of a frame, whole or not. Assumes nothing.
use Prim.Native.Nat.{ℕ, ◌<◌}
use mathlib.Core.Bool.{Bool, true, false, cond}
use mathlib.Core.Path.{◌≡◌, refl}
use mathlib.Core.List.{List, [], ◌∷◌, ◌++◌}
use native.Mathlib.Omega.{arith}
use lib.Dec.{eqb}
use lib.ListN.{length, get_or}
use Rattle.commands.specs.Answers.{first_of}
use Rattle.commands.specs.Commands.{Command, Command.init, Command.update, Command.stop, Command.single}
use Rattle.frames.specs.Layout.{ident_in, init_word, init_of, entry_in, entries_in, single_in, command_in, check_in}
use Rattle.frames.specs.Reader.{shape_tests, value_tests, found, refused_read, read_frame}

-- a Channel_Number that is read has three bits
pub channel_fits : (s : List ℕ) (count : ℕ) → (read_frame s count).fields.single.channel < 8
unfolding read_frame command_in entry_in
channel_fits s count = of (eqb a 0) (eqb (ident_in s) 0) (eqb (ident_in s) 1) (eqb (ident_in s) 2) where
  a : ℕ
  a = first_of (shape_tests s count ++ value_tests (check_in s) (command_in s count))

  -- by Ident, whatever the answer
  command : Bool → Bool → Bool → Command
  command i u p = cond i (init (init_of (init_word s))) (cond u (update count (entries_in s count)) (cond p stop (single (single_in s))))

  of : (done i u p : Bool) → (cond done (found (command i u p)) (refused_read a)).fields.single.channel < 8
  of false i u p = omega arith
  of true true u p = omega arith
  of true false true p = omega arith
  of true false false true = omega arith
  of true false false false = omega arith
