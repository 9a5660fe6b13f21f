use Prim.Native.Nat.{ℕ}
use mathlib.Core.Path.{ap, ◌∙◌}
use mathlib.Core.List.{[]}
use lib.Ieee.{nan}
use lib.IntN.{ℤ}
use lib.ListN.{get_or}
use mir.Syntax.{w64}
use mir.ValLaws.{to_z-of_z}
use Rattle.stores.specs.Code.StoreRows.{place_of}
use Rattle.reports.proofs.inner_bars.RawBars.open_and_close.Goals as goal

pub returns : goal.returns
returns c =
    let k = c.args.self.columns in
    ap (λ (i : ℕ). (get_or (get_or k.prices.now i []) 0 nan, get_or (get_or k.prices.now i []) 1 nan)) (c.place.ensures.value ∙ ap (λ (t : ℤ). place_of t k.times.now) (to_z-of_z w64 c.args.time c.ranges.time))
