use mathlib.Core.Path.{◌∙◌}
use Prim.Native.Nat.{◌≤◌}
use native.Mathlib.Omega.{arith}
use lib.ListN.{length, take}
use Rattle.std.proofs.lemmas.List.{length-take-le}
use Rattle.commands.specs.Ranges.{good_count}
use Rattle.commands.specs.Commands.{good_entries}
use Rattle.commands.proofs.Tests.{both}
use Rattle.commands.proofs.Fits.{update_count, check_listed}
use Rattle.frames.specs.Bytes.{settings_bytes}
use Rattle.writers.proofs.Rows.{listed_good_each, set_after}
use Rattle.writers.proofs.storing.put_update.Goals as goal

pub put_settings-check-requires : goal.put_settings-check-requires
put_settings-check-requires c =
    let a = c.args in
    let h : a.count ≤ 8 = update_count a.count a.entries c.requires.0 in
    let l : a.count ≤ length a.entries = omega (arith, c.well_formed, h) in
    (listed_good_each a.entries a.count (both (good_count a.count) (good_entries a.entries a.count) c.requires.0).1 l, rw length-take-le c.requires.1)

pub returns : goal.returns
returns c =
    let a = c.args in
    let h : a.count ≤ 8 = update_count a.count a.entries c.requires.0 in
    let l : a.count ≤ length a.entries = omega (arith, c.well_formed, h) in
    let check = check_listed a.count a.entries (both (good_count a.count) (good_entries a.entries a.count) c.requires.0).1 l in
    rw (c.put_settings-check.ensures.bytes, c.head_of.ensures, c.put_settings-check.ensures.check ∙ check) (set_after a.out.now (settings_bytes (take a.count a.entries)) 0 1 _ (omega arith))
