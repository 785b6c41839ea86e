-- What is read of any bytes has at most sixteen points. Assumes nothing.
use Prim.Native.Nat.{ℕ, ◌%◌, ◌≤◌}
use mathlib.Core.List.{List}
use native.Mathlib.Omega.{arith}
use lib.ListN.{length, drop}
use Rattle.packets.specs.Reader.{plain, covered, reading}
use Rattle.packets.proofs.Readings.{body_in, read_ways}
use Rattle.commands3.specs.Contents.{head_in}
use Rattle.commands3.proofs.EachCommand as each-command
use Rattle.packets3.specs.Rehamove3.{rehamove3}

pub few_points : (s out : List ℕ) → (reading rehamove3 s (length out)).command.pulse.number ≤ 16
few_points s out =
    let content = plain (covered rehamove3 (body_in s)) in
    read_ways
    rehamove3
    (λ r _. r.command.pulse.number ≤ 16)
    s
    out
    (λ _. omega arith)
    (λ _ _. each-command.few_points (head_in content % 1024) (drop 2 content))
    (λ _ _. omega arith)
