use native.Mathlib.Omega.{arith}
use mathlib.Core.Path.{ap, ◌∙◌}
use Rattle.stores.specs.Columns.{raw_in}
use lib.IntN.{ℤ}
use mir.Syntax.{w64}
use mir.ValLaws.{to_z-of_z}
use Rattle.stores.specs.Code.StoreRows.{bar_at, place_of}
use Rattle.reports.proofs.inner_bars.RawBars.bar.Goals as goal

pub bar-requires : goal.bar-requires
bar-requires c =
    let r = c.args.self in
    let i = c.place.ensures.inside in
    record { times = omega (arith, i); ids = omega (arith, i, r.ids); prices = omega (arith, i, r.prices) }

pub returns : goal.returns
returns c = c.bar.ensures ∙ ap (bar_at (raw_in c.args.self.columns)) (c.place.ensures.value ∙ ap (λ (t : ℤ). place_of t c.args.self.columns.times.now) (to_z-of_z w64 c.args.time c.ranges.time))
