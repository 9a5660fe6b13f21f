use mathlib.Core.Path.{refl, sym, ◌∙◌}
use mathlib.Core.Logic.{inl, inr}
use lib.Seq.{length-take-le}
use Rattle.strokes.specs.Lent.{stores_of}
use Rattle.reports.proofs.ListFacts.{not-zero, none-extends, empty-extends, last-asked, prices_long, extends-is}
use Rattle.reports.proofs.finished.last_extends.Goals as goal

pub returns-then-k-eq0 : goal.returns-then-k-eq0
unfolding stores_of
returns-then-k-eq0 c = let k = c.kept-k.ensures in elim c.then-k-eq0.either [ inl e ↦ none-extends _ _ k.1 k.2 c.requires (sym k.0 ∙ e) | inr e ↦ empty-extends _ _ k.1 k.2 c.requires e.1 ]

pub last_stroke-b-requires : goal.last_stroke-b-requires
unfolding stores_of
last_stroke-b-requires c = let k = c.kept-k.ensures in
    let asked = last-asked _ _ k.1 k.2 c.requires (not-zero _ _ k.0 c.if-k-eq0.false) in record { fact_1 = asked.0; fact_2 = asked.1 }

pub slice_bounds-rows_reach-end : goal.slice_bounds-rows_reach-end
unfolding stores_of
slice_bounds-rows_reach-end c = let k = c.kept-k.ensures in sym (length-take-le _ _ (prices_long _ _ k.1 k.2 c.requires))

pub returns : goal.returns
unfolding stores_of
returns c = let k = c.kept-k.ensures in extends-is _ _ k.1 k.2 c.requires (not-zero _ _ k.0 c.if-k-eq0.false) (not-zero _ _ refl c.if-n-eq0.false) _ c.last_stroke-b.ensures _ c.rows_reach.ensures
