use native.Mathlib.Omega.{arith}
use lib.Seq.{take-length}
use mir.Syntax.{w64}
use mir.ValLaws.{to_z-of_z}
use Rattle.reports.proofs.MeasureLaws.{named-place}
use borrow.Author.Rules.{rules}
use Rattle.reports.proofs.inner_bars.RawBars.place.Goals as goal

pub find_time-requires : goal.find_time-requires
find_time-requires c = let r = c.args.self in record { fact_1 = search rules; fact_2 = rw (take-length r.columns.times.now) r.rise }

pub returns : goal.returns
returns c =
    let r = c.args.self in
    let e = rw (take-length r.columns.times.now, to_z-of_z w64 c.args.time c.ranges.time) at c.find_time.ensures in
    record { value = e; inside = omega (arith, e, named-place r.columns.times.now c.args.time r.rise c.requires) }
