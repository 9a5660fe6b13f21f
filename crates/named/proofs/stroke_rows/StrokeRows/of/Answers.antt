use mathlib.Core.Path.{◌≡◌, refl}
use lib.ListN.{length}
use Rattle.named.proofs.StrokeAt.{rows_are}
use borrow.Author.Rules.{rules}
use Rattle.named.proofs.stroke_rows.StrokeRows.of.Goals as goal

pub returns : goal.returns
returns c = let s = c.args.stand in let b : length s.bars ≡ 65 = search rules in let f : length s.fractals ≡ 65 = search rules in (rows_are _ _ _ c.total_bars.ensures refl refl, b, f)
