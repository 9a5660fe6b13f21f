use mathlib.Core.Path.{sym, ◌∙◌}
use Rattle.reports.proofs.StrokeColumns.{cut_lengths, cut_small}
use Rattle.reports.proofs.rows_shown.bars_between.Goals as goal

pub invariant_of-result : goal.invariant_of-result
invariant_of-result c =
    let a = c.args in
    let p = c.requires.rows in
    record {
      even = cut_lengths a.first a.last a.bars.counts.now a.bars.elements.now (p.3 ∙ sym p.4);
      few = cut_small a.first a.last a.bars.counts.now 65536 (rw p.3 p.2);
      named = c.requires.named;
    }
