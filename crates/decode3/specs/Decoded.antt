-- What is read of a content of the RehaMove3, by value.
use Rattle.std.specs.Prelude.{ℕ, cond, ◌&&◌, List, length, Option, Some, None}
use Rattle.charge.specs.Charge.{charge_of}
use Rattle.commands3.specs.Contents.{packet_in, message_in, size_good, content_right}
use Rattle.decode3.specs.declared.Decoded.{Decoded}

abbrev pub taken : List ℕ → Decoded
taken content = record { packet = packet_in content; message = message_in content; charge = charge_of (message_in content).pulse }

unfoldable pub decoded : List ℕ → Option Decoded
decoded content = cond (size_good (length content) && content_right content) (Some (taken content)) None
