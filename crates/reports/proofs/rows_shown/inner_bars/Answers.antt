use native.Mathlib.Omega.{arith}
use mathlib.Core.Path.{ap, sym, subst, ◌∙◌}
use mathlib.Core.List.{List}
use lib.Dec.{T}
use lib.IntN.{ℤ}
use Rattle.sound.specs.Code.SoundStand.{named_rows}
use Rattle.stores.specs.Columns.{raw_in}
use Rattle.stores.specs.Stores.{RawStore}
use Rattle.strokes.specs.Lent.{stores_of}
use Rattle.named.specs.Code.NamedRows.{inner_rows}
use Rattle.reports.specs.declared.inner_bars.RawBars.{RawBars}
use Rattle.reports.proofs.rows_shown.inner_bars.Goals as goal

pub first_bars-raw-requires : goal.first_bars-raw-requires
unfolding stores_of
first_bars-raw-requires c = let p = c.requires in record { room = record { times = p.raw; ids = omega (arith, p.raw, p.ids); prices = omega (arith, p.raw, p.prices) }; rise = p.rises }

pub bars_between-requires : goal.bars_between-requires
unfolding stores_of
bars_between-requires c =
    let p = c.requires in
    let w = p.stands in
    let k = c.args.stores.strokes in
    record {
      rows = (omega (arith, w.four), omega (arith, w.four, w.fits), p.small, p.counts, p.elements);
      named = subst (λ (ts : List ℤ). T (named_rows ts (inner_rows c.args.rows k.counts.now) (inner_rows c.args.rows k.elements.now))) (sym (ap (λ (s : RawStore). s.times) c.first_bars-raw.ensures)) p.named;
    }

pub returns : goal.returns
unfolding stores_of
returns c =
    let b = c.bars_between.ensures in
    record { raw = ap (λ (x : RawBars). raw_in x.columns) b.same ∙ c.first_bars-raw.ensures; prices = b.prices; counts = b.counts; elements = b.elements }
