use borrow.Author.Rules.{rules}
use mathlib.Core.Path.{◌≡◌, sym, ◌∙◌}
use lib.ListN.{get_or}
use lib.IntN.{pos}
use lib.Ieee.{nan}
use Rattle.check_bi.specs.Code.Scan.{top_of, mark_if}
use Rattle.strokes.proofs.StoredStrokes.{row_top}
use Rattle.strokes.proofs.fractal_rows.row_mark.Goals as goal

pub returns : goal.returns
returns c =
    let p = c.args.p in
    let x : c.candle.result ≡ record { time = pos 0; high = get_or p 2 nan; low = get_or p 3 nan } = search rules in
    let y : c.candle-2.result ≡ record { time = pos 0; high = get_or p 8 nan; low = get_or p 9 nan } = search rules in
    let z : c.candle-3.result ≡ record { time = pos 0; high = get_or p 14 nan; low = get_or p 15 nan } = search rules in
    c.fractal_mark.ensures ∙ (λ i. mark_if (top_of (x i) (y i) (z i))) ∙ sym (row_top p _ _ _)
