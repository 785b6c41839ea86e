-- The content that a message of the RehaMove3 makes.
use Rattle.std.specs.Prelude.{ℕ, cond, List, Option, Some, None}
use Rattle.commands3.specs.declared.Message.{Message}
use Rattle.commands3.specs.Contents.{content_of, writable}

-- none where it may not be written
unfoldable pub encoded : ℕ → Message → Option (List ℕ)
encoded packet m = cond (writable packet m) (Some (content_of packet m)) None
