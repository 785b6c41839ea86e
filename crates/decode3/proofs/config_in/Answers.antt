-- `decode3::config_in` meets its contract. Assumes nothing.
use mathlib.Core.Path.{◌≡◌, sym, ap, ◌∙◌}
use lib.IntN.{ℤ}
use mir.Syntax.{w32}
use mir.Val.{to_z, of_z}
use Rattle.std.specs.Prelude.{option_map}
use Rattle.decode3.proofs.Data.{told_of, config_decoded}
use borrow.Author.Rules.{rules}
use Rattle.decode3.proofs.config_in.Goals as goal

pub returns-in_err-read : goal.returns-in_err-read
returns-in_err-read c =
    let p = c.args.packet in
    let d = c.args.d.now in
    c.from_residual.ensures ∙ ap (option_map (told_of p d)) c.in_err-read.ensures ∙ config_decoded p d (rw (sym c.requires) (search rules))

pub returns : goal.returns
returns c =
    let p = c.args.packet in
    let d = c.args.d.now in
    let read = c.in_ok-read.read in
    let z : to_z w32 (of_z w32 read.charge) ≡ read.charge = search rules in
    rw (z, c.requires) (ap (option_map (told_of p d)) c.in_ok-read.ensures ∙ config_decoded p d (rw (sym c.requires) (search rules)))
