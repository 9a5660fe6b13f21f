use Rattle.std.proofs.Common.{arith, ◌≡◌, subst, length, Option, None}
use Rattle.machine.specs.declared.Mark.{Mark}
use Rattle.check_bi.specs.Code.Scan.{last_mark}
use Rattle.check_bi.specs.Code.View.{times_in, rows_in, places}
use Rattle.check_bi.specs.Code.Windows.{taken_at, FirstWindow, NextIn}
use Rattle.check_bi.proofs.ScanViews.{view-times, view-rows}
use Rattle.check_bi.proofs.ScanWindows.{clear_until, store-none, begun, small_here, taken_on, all_seen}
use borrow.Author.Rules.{rules}
use Rattle.check_bi.proofs.view.View.scan.Goals as goal

pub loop-at-init : goal.loop-at-init
loop-at-init c =
    let v = c.args.self in
    let none = clear_until v.prices.now c.args.clear (length v.prices.now) c.args.lo _ c.requires.fact_2 c.look_from-from.ensures in
    begun (times_in v) (rows_in v) c.args.lo (places v) (view-times v) (view-rows v) c.requires.fact_1.0 c.requires.fact_1.1 _ (store-none v.prices.now v.tail_prices.now None (places v) c.args.lo _ (omega (arith, v.even)) none)

pub take-requires : goal.take-requires
take-requires c =
    let v = c.args.self in
    let last : c.map.result ≡ last_mark c.loop-at.seen = search rules in
    let here = subst (λ (m : Option Mark). FirstWindow (taken_at (rows_in v) m) (places v) c.loop-at.from c.in-Some.at) last c.in-Some.ensures in
    small_here (times_in v) (rows_in v) c.args.lo (places v) (view-times v) (view-rows v) c.requires.fact_1.0 c.requires.fact_1.1 _ _ _ _ c.loop-at.invariant here c.fractal.ensures

pub loop-at-preserved : goal.loop-at-preserved
loop-at-preserved c =
    let v = c.args.self in
    let last : c.map.result ≡ last_mark c.loop-at.seen = search rules in
    let here = subst (λ (m : Option Mark). FirstWindow (taken_at (rows_in v) m) (places v) c.loop-at.from c.in-Some.at) last c.in-Some.ensures in
    taken_on (times_in v) (rows_in v) c.args.lo (places v) (view-times v) (view-rows v) c.requires.fact_1.0 c.requires.fact_1.1 _ _ _ _ _ c.loop-at.invariant here c.fractal.ensures c.take.ensures

pub returns-clause-value : goal.returns-clause-value
returns-clause-value c =
    let v = c.args.self in
    let last : c.map.result ≡ last_mark c.loop-at.seen = search rules in
    let left = subst (λ (m : Option Mark). NextIn (taken_at (rows_in v) m) (places v) c.loop-at.from None) last c.in_default.ensures in
    (all_seen (times_in v) (rows_in v) c.args.lo (places v) (view-times v) (view-rows v) c.requires.fact_1.0 c.requires.fact_1.1 _ _ c.loop-at.invariant left).0
