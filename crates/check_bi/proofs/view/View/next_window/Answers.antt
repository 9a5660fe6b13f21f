use Rattle.std.proofs.Common.{◌≡◌, ◌<◌, arith, rules, tests, true, false}
use Rattle.std.proofs.lemmas.Iterator.{first_from_Range, serves_from_Range}
use Rattle.check_bi.specs.Code.View.{rows_in, places}
use Rattle.check_bi.specs.Code.Windows.{taken_at}
use Rattle.check_bi.proofs.ScanWindows.{store-none, next_found}
use Rattle.check_bi.proofs.view.View.next_window.Goals as goal

pub find-requires : goal.find-requires
find-requires c =
    let n = c.len.ensures in
    let e = c.saturating_sub-end.ensures in
    record { can = tt; finite = tt; callable = serves_from_Range (λ x q k. search (rules, tests)) (λ x low high y same. let below : x < c.saturating_sub-end.result = high in (c.requires.0, omega arith)) }

pub returns : goal.returns
returns c =
    let v = c.args.self in
    let t = taken_at (rows_in v) c.args.last in
    let n = c.len.ensures in
    let e = c.saturating_sub-end.ensures in
    let passed = store-none v.prices.now v.tail_prices.now c.args.last (places v) c.args.i _ (omega (arith, v.even)) c.next_row-from.ensures.before in
    let first = first_from_Range _ _ _ _ (λ k. t k ≡ true) (λ k. t k ≡ false) c.find.ensures.ran (λ x q k. grind (arith, tests)) (λ x q k. (search (rules, tests), grind (arith, tests))) in
    next_found t (places v) c.args.i c.next_row-from.result c.saturating_sub-end.result _ passed (omega arith) first
