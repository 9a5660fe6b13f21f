use lib.Ieee.{of_bits, neg, div, inf, nan, Float}
use lib.ListN.{get_or}
use mathlib.Core.Path.{◌∙◌}
use mathlib.Core.List.{List}
use mathlib.Core.Bool.{true}
use Rattle.arith.specs.Order.{max_of}
use Rattle.named.specs.Folds.{greatest}
use Rattle.std.proofs.Common.{rules}
use Rattle.std.proofs.lemmas.Iterator.{YieldsList-from_slice}
use Rattle.std.proofs.lemmas.Iterator.Consumers.{fold_from_yields_List}
use Rattle.reports.proofs.ListLaws.{fold_read}
use Rattle.reports.proofs.finished.greatest_high.Goals as goal

pub returns : goal.returns
unfolding of_bits neg div greatest
returns c =
    let rows = c.args.rows.now in
    let with_row : Float → List Float → Float = λ x p. max_of x (get_or p 2 nan) in
    fold_from_yields_List _ with_row _ _ c.fold.ensures.ran (YieldsList-from_slice rows cc) (λ a x b q k. search rules) ∙ fold_read max_of (λ p. get_or p 2 nan) (inf true) rows
