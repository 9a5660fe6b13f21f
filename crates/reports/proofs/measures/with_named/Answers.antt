use mathlib.Core.Bool.{true}
use mathlib.Core.Path.{ap, sym, subst, ◌∙◌}
use lib.Dec.{T}
use lib.IntN.{ℤ, pos}
use lib.ListN.{get_or}
use mir.Syntax.{w64}
use mir.ValLaws.{to_z-of_z}
use borrow.Author.Rules.{rules}
use Rattle.arith.proofs.SumLaws.{fold_turn, fold_end}
use Rattle.sound.specs.Code.SoundStand.{is_time}
use Rattle.reports.specs.Code.ElementPrices.{open_close, taken}
use Rattle.reports.proofs.MeasureLaws.{every-at, taken_turn}
use Rattle.reports.proofs.measures.with_named.Goals as goal

pub open_and_close-open-requires : goal.open_and_close-open-requires
open_and_close-open-requires g c =
    let a = c.args in
    let i = c.loop-time.time-index in
    subst (λ (t : ℤ). T (is_time a.raw.columns.times.now t)) (sym (to_z-of_z w64 (get_or a.times.now i (pos 0)) (record { sfits = search rules }))) (every-at (is_time a.raw.columns.times.now) a.times.now i (pos 0) c.loop-time-test.true c.requires)

pub loop-time-preserved : goal.loop-time-preserved
loop-time-preserved g c =
    let a = c.args in
    let l = c.loop-time in
    let t = get_or a.times.now l.time-index (pos 0) in
    let e = c.open_and_close-open.ensures ∙ ap (open_close a.raw) (to_z-of_z w64 t (record { sfits = search rules })) in
    let f = taken g.S.PriceSums.taking a.raw in
    fold_turn f a.times.now l.time-index (pos 0) (l.sums, true) (c.with-sums.result, true) _ c.loop-time-test.true (taken_turn g.S.PriceSums.taking a.raw l.sums c.with-sums.result t c.open_and_close-open.result c.with-sums.ensures e (search rules)) l.invariant

pub returns : goal.returns
returns g c =
    let a = c.args in
    let l = c.loop-time in
    fold_end (taken g.S.PriceSums.taking a.raw) a.times.now l.time-index _ _ c.loop-time-test.false l.invariant
