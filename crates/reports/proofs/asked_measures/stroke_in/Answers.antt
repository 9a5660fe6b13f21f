use native.Mathlib.Omega.{arith}
use Rattle.strokes.specs.Columns.{stores_in}
use Rattle.strokes.specs.Lent.{stores_of}
use Rattle.named.specs.Code.NamedRows.{end_row}
use Rattle.reports.proofs.RowEnds.{shows}
use Rattle.reports.proofs.asked_measures.stroke_in.Goals as goal

pub end_at-requires : goal.end_at-requires
unfolding stores_of
end_at-requires c = let p = c.requires in let w = p.stands in omega (arith, p.fractals, w.fits, w.four)

pub end_row-requires : goal.end_row-requires
unfolding stores_of
end_row-requires c = let p = c.requires in let w = p.stands in omega (arith, p.small, w.fits, w.fewer)

pub end_at-requires-2 : goal.end_at-requires-2
unfolding stores_of end_row
end_at-requires-2 c = let p = c.requires in let w = p.stands in omega (arith, p.fractals, c.end_row.ensures, w.fits, w.one, w.fewer)

pub returns : goal.returns
unfolding stores_of
returns c = λ raw b k. shows raw b c.args.rows c.args.n (stores_in c.args.stores) _ _ _ _ c.end_at.ensures c.end_at-2.ensures c.end_row.ensures c.inner_bars.ensures k
