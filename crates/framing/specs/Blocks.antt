-- Blocks of sixteen bytes that a scan may pass over at once.
use Rattle.std.specs.Prelude.{ℕ, ◌-◌, List, Bool, not, ◌&&◌, leb, length, take, drop}
use Rattle.stuffing.specs.Stuffing.{any_special}

-- is a whole block left at this place, and none of its bytes special?
unfoldable pub quiet : List ℕ → ℕ → Bool
quiet s at = leb 16 (length s - at) && not (any_special (take 16 (drop at s)))
