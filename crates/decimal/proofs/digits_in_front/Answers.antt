-- `decimal::digits_in_front` meets its contract. Assumes nothing.
use Rattle.std.proofs.Common.{rules, not, tests}
use Rattle.std.specs.Char.{is_ascii_digit}
use Rattle.std.proofs.lemmas.Iterator.{YieldsList-from_slice}
use Rattle.std.proofs.lemmas.Iterator.Search.{position_from_yields_List}
use Rattle.decimal.proofs.Front.{front_is}
use Rattle.decimal.proofs.digits_in_front.Goals as goal

pub returns : goal.returns
returns c =
    let s = c.args.s.now in
    let e = position_from_yields_List (λ b. not (is_ascii_digit b)) _ _ c.position-size.result c.position-size.ensures.ran (YieldsList-from_slice s cc) (λ x b q k. search (rules, tests)) in
    front_is s c.position-size.result c.unwrap_or.result e c.unwrap_or.ensures
