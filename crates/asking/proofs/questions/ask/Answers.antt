use mathlib.Core.Bool.{Bool, true, false}
use mathlib.Core.Path.{◌≡◌, sym, ◌∙◌, subst}
use lib.ListN.{length}
use Rattle.std.specs.Prelude.{Ok, Err}
use Rattle.std.proofs.lemmas.Result.{err_from_is_err_and}
use Rattle.strokes.specs.Lent.{stores_of}
use Rattle.strokes.specs.Columns.{stores_in}
use Rattle.sound.proofs.SoundFacts.{facts}
use Rattle.asking.specs.Code.AskSteps.{TriedOf}
use Rattle.asking.proofs.AskedMeans.{early_asks, asked-early, can_try, asked-late, asked-last}
use Rattle.asking.proofs.questions.ask.Goals as goal

pub ask_early-requires : goal.ask_early-requires
unfolding stores_of
ask_early-requires c =
    let a = c.args in
    let s = a.stand in
    let m = stores_in a.stores in
    let g = c.well_formed.0 in
    let lb : length s.bars ≡ 65 = g.1.1.1.1.1.1.1.1.0.1.0.1 in
    let lf : length s.fractals ≡ 65 = g.1.1.1.1.1.1.1.1.1.0.1.0.1 in
    let h = facts s m lb lf c.requires.sound in
    early_asks s m h

pub returns-in_err-later : goal.returns-in_err-later
unfolding stores_of
returns-in_err-later c =
    let a = c.args in
    let s = a.stand in
    let m = stores_in a.stores in
    let g = c.well_formed.0 in
    let lb : length s.bars ≡ 65 = g.1.1.1.1.1.1.1.1.0.1.0.1 in
    let lf : length s.fractals ≡ 65 = g.1.1.1.1.1.1.1.1.1.0.1.0.1 in
    let h = facts s m lb lf c.requires.sound in
    let p = err_from_is_err_and c.from_residual.result c.from_residual.ensures.1 in
    rw (p.1, p.2) (asked-early s m h lb lf a.b _ c.in_err-later.ensures)

-- ---- a later bar

pub try_later-requires : goal.try_later-requires
unfolding stores_of
try_later-requires c =
    let a = c.args in
    let s = a.stand in
    let m = stores_in a.stores in
    let g = c.well_formed.0 in
    let lb : length s.bars ≡ 65 = g.1.1.1.1.1.1.1.1.0.1.0.1 in
    let lf : length s.fractals ≡ 65 = g.1.1.1.1.1.1.1.1.1.0.1.0.1 in
    let h = facts s m lb lf c.requires.sound in
    record { bar = can_try s m h lb lf a.b true (sym c.if-later.true ∙ c.in_ok-later.ensures.later); clear = c.requires.clear }

pub returns-in_err-plan : goal.returns-in_err-plan
unfolding stores_of
returns-in_err-plan c =
    let a = c.args in
    let s = a.stand in
    let m = stores_in a.stores in
    let g = c.well_formed.0 in
    let lb : length s.bars ≡ 65 = g.1.1.1.1.1.1.1.1.0.1.0.1 in
    let lf : length s.fractals ≡ 65 = g.1.1.1.1.1.1.1.1.1.0.1.0.1 in
    let h = facts s m lb lf c.requires.sound in
    let p = err_from_is_err_and c.from_residual-in_err-plan.result c.from_residual-in_err-plan.ensures.1 in
    rw (p.1, p.2) (asked-late s m h lb lf a.b _ c.in_ok-later.ensures _ (subst (λ (x : Bool). TriedOf x s m a.b (Err c.in_err-plan.field-0.0)) (sym c.if-later.true) c.in_err-plan.ensures))

pub returns-then-later : goal.returns-then-later
unfolding stores_of
returns-then-later c =
    let a = c.args in
    let s = a.stand in
    let m = stores_in a.stores in
    let g = c.well_formed.0 in
    let lb : length s.bars ≡ 65 = g.1.1.1.1.1.1.1.1.0.1.0.1 in
    let lf : length s.fractals ≡ 65 = g.1.1.1.1.1.1.1.1.1.0.1.0.1 in
    let h = facts s m lb lf c.requires.sound in
    asked-last s m h lb lf a.b _ c.in_ok-later.ensures _ (subst (λ (x : Bool). TriedOf x s m a.b (Ok c.in_ok-plan.plan)) (sym c.if-later.true) c.in_ok-plan.ensures)

-- ---- a bar with the last time

pub try_again-requires : goal.try_again-requires
unfolding stores_of
try_again-requires c =
    let a = c.args in
    let s = a.stand in
    let m = stores_in a.stores in
    let g = c.well_formed.0 in
    let lb : length s.bars ≡ 65 = g.1.1.1.1.1.1.1.1.0.1.0.1 in
    let lf : length s.fractals ≡ 65 = g.1.1.1.1.1.1.1.1.1.0.1.0.1 in
    let h = facts s m lb lf c.requires.sound in
    record { bar = can_try s m h lb lf a.b false (sym c.if-later.false ∙ c.in_ok-later.ensures.later); clear = c.requires.clear }

pub returns-in_err-plan-2 : goal.returns-in_err-plan-2
unfolding stores_of
returns-in_err-plan-2 c =
    let a = c.args in
    let s = a.stand in
    let m = stores_in a.stores in
    let g = c.well_formed.0 in
    let lb : length s.bars ≡ 65 = g.1.1.1.1.1.1.1.1.0.1.0.1 in
    let lf : length s.fractals ≡ 65 = g.1.1.1.1.1.1.1.1.1.0.1.0.1 in
    let h = facts s m lb lf c.requires.sound in
    let p = err_from_is_err_and c.from_residual-in_err-plan-2.result c.from_residual-in_err-plan-2.ensures.1 in
    rw (p.1, p.2) (asked-late s m h lb lf a.b _ c.in_ok-later.ensures _ (subst (λ (x : Bool). TriedOf x s m a.b (Err c.in_err-plan-2.field-0.0)) (sym c.if-later.false) c.in_err-plan-2.ensures))

pub returns : goal.returns
unfolding stores_of
returns c =
    let a = c.args in
    let s = a.stand in
    let m = stores_in a.stores in
    let g = c.well_formed.0 in
    let lb : length s.bars ≡ 65 = g.1.1.1.1.1.1.1.1.0.1.0.1 in
    let lf : length s.fractals ≡ 65 = g.1.1.1.1.1.1.1.1.1.0.1.0.1 in
    let h = facts s m lb lf c.requires.sound in
    asked-last s m h lb lf a.b _ c.in_ok-later.ensures _ (subst (λ (x : Bool). TriedOf x s m a.b (Ok c.in_ok-plan-2.plan)) (sym c.if-later.false) c.in_ok-plan-2.ensures)
