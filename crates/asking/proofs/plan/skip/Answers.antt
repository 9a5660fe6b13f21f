use Rattle.std.proofs.Common.{arith, ◌≡◌, ◌+◌, ◌∙◌, ap, sym, ℤ, drop, refl}
use borrow.Author.Rules.{rules}
use mir.Syntax.{w64}
use mir.Val.{to_z, of_z}
use mir.ValLaws.{to_z-of_z}
use Rattle.stores.specs.Code.StoreRows.{place_of}
use Rattle.check_bi.specs.declared.check_fx.Candle.{Candle}
use Rattle.check_bi.specs.Code.View.{times_in, places}
use Rattle.check_bi.specs.Code.View.{candle_from}
use Rattle.check_bi.proofs.ScanViews.{view-times}
use Rattle.asking.proofs.PlanLaws.{skip_turn, skip_here, skip_end}
use Rattle.asking.proofs.plan.skip.Goals as goal

pub returns-then-t-candle : goal.returns-then-t-candle
unfolding candle_from
returns-then-t-candle c =
    let v = times_in c.args.view in
    let t = to_z-of_z w64 c.args.t c.ranges.t in
    let x = to_z-of_z w64 c.candle.result.time (record { sfits = search rules }) ∙ ap (λ (k : Candle). k.time) c.candle.ensures in
    let so_far = ap (λ (s : ℤ). c.loop-i.i + place_of s (drop c.loop-i.i v)) (sym t) ∙ c.loop-i.invariant ∙ ap (λ (s : ℤ). c.args.lo + place_of s (drop c.args.lo v)) t in
    (skip_here v c.args.t c.loop-i.i (places c.args.view) _ (view-times c.args.view) so_far _ _ (omega arith) x t c.if-t-candle.true, omega arith)

pub loop-i-preserved : goal.loop-i-preserved
unfolding candle_from
loop-i-preserved c =
    let v = times_in c.args.view in
    let x = to_z-of_z w64 c.candle.result.time (record { sfits = search rules }) ∙ ap (λ (k : Candle). k.time) c.candle.ensures in
    skip_turn v (to_z w64 (of_z w64 c.args.t)) c.loop-i.i (places c.args.view) _ (view-times c.args.view) c.loop-i.invariant _ _ (omega arith) x refl c.if-t-candle.false

pub returns : goal.returns
returns c =
    let v = times_in c.args.view in
    let t = to_z-of_z w64 c.args.t c.ranges.t in
    let e : c.loop-i.i ≡ c.len-end.result = omega (arith, c.requires) in
    (sym e ∙ skip_end v (to_z w64 (of_z w64 c.args.t)) c.loop-i.i (places c.args.view) _ (view-times c.args.view) c.loop-i.invariant (omega arith) ∙ ap (λ (s : ℤ). c.args.lo + place_of s (drop c.args.lo v)) t, omega arith)
