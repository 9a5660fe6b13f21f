use Rattle.std.proofs.Common.{◌≡◌, ◌<◌, ◌∙◌, ap, arith, rules, tests, true, false, length}
use Rattle.std.specs.Option.{unwrap_or}
use Rattle.std.proofs.lemmas.Iterator.{first_from_Range, serves_from_Range}
use Rattle.check_bi.specs.Code.Windows.{taken_at}
use Rattle.check_bi.proofs.ScanWindows.{none_yet, next_found, next_from}
use Rattle.check_bi.proofs.windows.next_row.Goals as goal

pub find-requires : goal.find-requires
find-requires c =
    let e = c.saturating_sub-end.ensures in
    record { can = tt; finite = tt; callable = serves_from_Range (λ x q k. search (rules, tests)) (λ x low high y same. let below : x < c.saturating_sub-end.result = high in let most = c.requires.0 in (omega arith, omega arith)) }

pub returns : goal.returns
returns c =
    let t = taken_at c.args.ps.now c.args.last in
    let n = length c.args.ps.now in
    let first = first_from_Range _ _ _ _ (λ k. t k ≡ true) (λ k. t k ≡ false) c.find.ensures.ran (λ x q k. grind (arith, tests)) (λ x q k. (search (rules, tests), grind (arith, tests))) in
    let found = next_found t n c.args.i c.args.i c.saturating_sub-end.result _ (none_yet t n c.args.i) c.saturating_sub-end.ensures first in
    next_from t n c.args.i _ c.saturating_sub-end.result _ found c.saturating_sub-end.ensures (c.unwrap_or.ensures ∙ ap (unwrap_or c.find.result) c.max.ensures)
