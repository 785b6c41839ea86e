-- `decode3::decode` meets its contract. Assumes nothing.
use Prim.Native.Nat.{ℕ, ◌+◌, ◌*◌, ◌/◌, ◌%◌, ◌≤◌}
use mathlib.Core.Path.{◌≡◌, ap, ap₂, ◌∙◌}
use mathlib.Core.List.{List}
use native.Mathlib.Omega.{arith}
use lib.ListN.{length, get_or}
use Rattle.commands3.specs.Contents.{head_in}
use Rattle.decode3.specs.Parts.{data_decoded}
use Rattle.decode3.proofs.Data.{too_short, long_enough, head_of}
use Rattle.decode3.proofs.decode.Goals as goal

pub returns-in_err-head : goal.returns-in_err-head
returns-in_err-head c = c.from_residual.ensures ∙ too_short c.args.content.now c.in_err-head.ensures.cases

pub returns : goal.returns
returns c =
    let s = c.args.content.now in
    let split = c.in_ok-head.ensures.cases in
    let long : 2 ≤ length s = omega (arith, split.2) in
    let h : c.from_be_bytes-h.result ≡ head_in s =
    c.from_be_bytes-h.ensures ∙ ap (λ (l : List ℕ). get_or l 0 0 * 256 + get_or l 1 0) split.0 ∙ head_of s long in
    c.data_in.ensures ∙ ap₂ (λ (n : ℕ) (d : List ℕ). data_decoded (n / 1024) (n % 1024) d) h split.1 ∙ long_enough s long
