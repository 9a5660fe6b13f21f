use Rattle.std.proofs.Common.{rules, tests, Some}
use Rattle.std.proofs.lemmas.Iterator.{YieldsList-from_slice}
use Rattle.std.proofs.lemmas.Iterator.Search.{any_from_yields_List}
use Rattle.bars.proofs.GapPairs.{gap_up, gap_down, gap_none, any_some}
use Rattle.bars.specs.Gaps.{row_high, row_low, covers_up, covers_down, up_gap, down_gap}
use mathlib.Core.Path.{◌∙◌, ap}
use Rattle.bars.proofs.gaps.gap_of.Goals as goal

pub returns-then-high-b_low : goal.returns-then-high-b_low
unfolding row_high row_low covers_up up_gap
returns-then-high-b_low c = gap_up c.args.places c.args.a c.args.b c.args.from_b.now _ _ c.if-high-b_low.true (any_from_yields_List (covers_up c.args.a) _ _ _ c.any-covered.ensures.ran (YieldsList-from_slice c.args.from_b.now cc) (λ x b q k. search (rules, tests)) ∙ any_some _ _) (ap Some c.gap_by.ensures)

pub returns-then-b_high-low : goal.returns-then-b_high-low
unfolding row_high row_low covers_down down_gap
returns-then-b_high-low c = gap_down c.args.places c.args.a c.args.b c.args.from_b.now _ _ c.if-high-b_low.false c.if-b_high-low.true (any_from_yields_List (covers_down c.args.a) _ _ _ c.any-covered-then-b_high-low.ensures.ran (YieldsList-from_slice c.args.from_b.now cc) (λ x b q k. search (rules, tests)) ∙ any_some _ _) (ap Some c.gap_by-then-b_high-low.ensures)

pub returns : goal.returns
unfolding row_high row_low
returns c = gap_none c.args.places c.args.a c.args.b c.args.from_b.now c.if-high-b_low.false c.if-b_high-low.false
