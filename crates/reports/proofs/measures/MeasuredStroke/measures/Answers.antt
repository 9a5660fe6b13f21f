use mathlib.Core.Path.{ap, ◌∙◌}
use mathlib.Core.List.{foldl}
use lib.Ieee.{Float}
use Rattle.arith.specs.Rounding.{round_to}
use Rattle.arith.specs.declared.sums.SlopeSums.{SlopeSums}
use Rattle.arith.specs.Code.Accumulators.{slope_start, slope_end, fit_end, snr_end}
use Rattle.machine.specs.Soundness.{inner}
use Rattle.reports.specs.declared.measures.InnerSums.{InnerSums}
use Rattle.reports.specs.Measures.{power_volume, power_snr, get_raw_bars, closes_of, measures_of}
use Rattle.reports.specs.Code.ElementPrices.{elements_in, prices_named, inner_more, slope_with}
use Rattle.reports.proofs.MeasureLaws.{closes_named, snr_read, slope_read, acceleration_read, put_together}
use Rattle.reports.proofs.measures.MeasuredStroke.measures.Goals as goal

pub returns : goal.returns
unfolding measures_of power_volume power_snr
returns c = λ raw b k.
    let m = c.args.self in
    let a = m.inner in
    let rs = get_raw_bars raw b in
    let ps = prices_named a in
    let closes = closes_named a.raw.columns.times.now a.raw.columns.prices.now (elements_in a.counts.now a.elements.now) (closes_of rs) k.columns.closes in
    let first = c.add_to-sums.ensures.value ∙ ap (λ (z : InnerSums). foldl inner_more z ps) c.new.ensures in
    let second = c.add_to-slopes.ensures.value ∙ ap (λ (z : SlopeSums). foldl slope_with z ps) (c.new-2.ensures ∙ ap (λ (z : InnerSums). slope_start z.mean) first) in
    let snr = snr_read ps rs _ (c.snr-snr.ensures ∙ ap (λ (z : InnerSums). snr_end z.snr) first) k.columns.opens in
    put_together c.args.power c.args.ratio rs b
    (c.high.ensures b k.ends)
    (c.low.ensures b k.ends)
    (c.power_price.ensures b k.ends)
    (c.volume.ensures (inner b) k.columns.vols)
    snr
    (c.round_to_nth_digit.ensures.0 ∙ ap (λ (x : Float). round_to c.args.ratio x) snr)
    (c.change.ensures b k.ends)
    (slope_read ps rs _ c.add_to-sums.ensures.fits (c.slope.ensures ∙ ap slope_end second) closes)
    (acceleration_read ps rs _ (c.acceleration.ensures ∙ ap (λ (z : InnerSums). fit_end z.fit) first) closes)
    k.bars
