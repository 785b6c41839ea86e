-- What the reader's code hands back, as the reading that is spoken of.
use Rattle.std.specs.Prelude.{ℕ, ◌≡◌, ◌&&◌, cond, List, length, drop, Option, None, Some, Result, Ok, Err}
use Rattle.commands.specs.declared.refusals.Refusal.{Refusal}
use Rattle.commands.specs.Refusals.{number}
use Rattle.packets.specs.declared.Meaning.{Meaning}
use Rattle.packets.specs.declared.Packet.{Packet}
use Rattle.packets.specs.declared.Refused.{Refused}
use Rattle.packets.specs.Generation.{Generation}
use Rattle.packets.specs.Reader.{Reading, plain, refused}

module _ {C : Type 0} (g : Generation C) where
  -- what a content means
  abbrev pub meant : List ℕ → Meaning C
  meant content = record { packet = g.packet_in content; command = g.command_in content; size = length (drop 2 content) }

  -- the same where it is good
  abbrev pub told : List ℕ → Option (Meaning C)
  told content = cond (g.size_good (length content) && g.right content) (Some (meant content)) None

  -- the covered bytes c are read where the tests answer 0, and else refused with that answer
  abbrev pub Tells : Result (Meaning C) Refusal → ℕ → List ℕ → Type 0
  Tells (Ok meaning) answer c = (answer ≡ 0) × (meaning ≡ meant (plain c))
  Tells (Err refusal) answer c = answer ≡ number refusal

  abbrev pub reported : Result (Packet C) Refused → Reading C
  reported (Ok p) = record { answer = 0; used = p.used; packet = p.meaning.packet; command = p.meaning.command; size = p.meaning.size }
  reported (Err r) = refused g (number r.refusal) r.used
