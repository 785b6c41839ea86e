-- Document 01: the reply to a decided command is one byte.
use Rattle.std.specs.Prelude.{ℕ, ◌+◌, ◌*◌, ◌%◌, ◌^◌, Bool, cond, ◌||◌, eqb}
use Rattle.commands.specs.Ranges.{within}

-- the answers that are given to a command: 0, 3 to 10
abbrev pub is_decision : ℕ → Bool
is_decision answer = eqb answer 0 || within 3 answer 10

-- Ident in bits 7,6; bit 0 is 1 for answer 0, else 0; the rest clear. No command decided: reply 0
abbrev pub reply : ℕ → ℕ → ℕ
reply ident answer = cond (is_decision answer) (ident % 2 ^ 2 * 2 ^ 6 + cond (eqb answer 0) 1 0) 0
