use native.Mathlib.Omega.{arith}
use mathlib.Core.Path.{ap}
use lib.ListN.{length}
use Rattle.stores.specs.Stores.{RawStore}
use Rattle.stores.specs.Columns.{raw_of}
use Rattle.reports.specs.Code.ElementPrices.{elements_in, named_bar}
use Rattle.reports.proofs.InnerRawLaws.{same_none, list_few, list_room, list_all}
use Rattle.reports.proofs.asked_raw_bars.list_rows.Goals as goal

pub returns-then-rows-m : goal.returns-then-rows-m
returns-then-rows-m c =
    let s = c.args.inner in
    let h = c.if-rows-m.true in
    let e = c.seen.ensures in
    let times = ap (λ (r : RawStore). length r.times) e in
    let ids = ap (λ (r : RawStore). length r.ids) e in
    let prices = ap (λ (r : RawStore). length r.prices) e in
    record { listed = list_few (named_bar s.raw) (elements_in s.counts.now s.elements.now) (raw_of c.args.out.now) _ c.count_elements-m.ensures (omega (arith, times, ids, prices, c.rows.ensures, h)); same = same_none _ }

pub put_rows-requires : goal.put_rows-requires
put_rows-requires c =
    let s = c.args.inner in
    let h = c.if-rows-m.false in
    let e = c.seen.ensures in
    let times = ap (λ (r : RawStore). length r.times) e in
    let ids = ap (λ (r : RawStore). length r.ids) e in
    let prices = ap (λ (r : RawStore). length r.prices) e in
    list_room (named_bar s.raw) (elements_in s.counts.now s.elements.now) (raw_of c.args.out.now) _ c.count_elements-m.ensures (omega (arith, times, ids, prices, c.rows.ensures, h))

pub returns : goal.returns
returns c =
    let s = c.args.inner in
    let h = c.if-rows-m.false in
    let l = elements_in s.counts.now s.elements.now in
    let e = c.seen.ensures in
    let times = ap (λ (r : RawStore). length r.times) e in
    let ids = ap (λ (r : RawStore). length r.ids) e in
    let prices = ap (λ (r : RawStore). length r.prices) e in
    let room = list_room (named_bar s.raw) l (raw_of c.args.out.now) _ c.count_elements-m.ensures (omega (arith, times, ids, prices, c.rows.ensures, h)) in
    record { listed = list_all (named_bar s.raw) l (raw_of c.args.out.now) _ c.count_elements-m.ensures _ c.put_rows.ensures.put room; same = c.put_rows.ensures.same }
