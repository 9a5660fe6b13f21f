use mathlib.Core.Path.{◌∙◌}
use lib.ListN.{take}
use native.Mathlib.Omega.{arith}
use Rattle.strokes.proofs.StoredStrokes.{total_sum}
use Rattle.strokes.proofs.strokes_store.total_bars.Goals as goal

pub sum_of-requires : goal.sum_of-requires
sum_of-requires c = let e = total_sum (take c.args.n c.args.counts) in let p = c.requires.fact_2 in omega arith

pub returns : goal.returns
returns c = c.sum_of.ensures ∙ total_sum (take c.args.n c.args.counts)
