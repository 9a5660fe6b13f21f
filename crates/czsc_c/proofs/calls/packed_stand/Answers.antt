use borrow.Author.Rules.{rules}
use mathlib.Core.Path.{ap, sym, ◌∙◌}
use Rattle.strokes.specs.declared.Stand.{Stand}
use Rattle.strokes.specs.Columns.{stores_in}
use Rattle.strokes.proofs.PackedRows.{there}
use Rattle.question4.specs.Question4.{question4}
use Rattle.question4.proofs.Question4Passed.{ask_handed, ask_passed}
use Rattle.czsc_c.proofs.HandedLaws.{no_stand_lem, not_sound, no_place, none-failed}
use Rattle.czsc_c.proofs.calls.packed_stand.Goals as goal

pub returns-then-not-there-clause-failed : goal.returns-then-not-there-clause-failed
returns-then-not-there-clause-failed c = let a = c.args in no_stand_lem a.rows.now.numbers.now a.rows.now.counts.now a.events.now (stores_in a.stores) (sym c.there.ensures ∙ c.if-not-there.true)

pub unpack-stand-requires : goal.unpack-stand-requires
unpack-stand-requires c = there _ _ (sym c.there.ensures ∙ c.if-not-there.false)

pub returns-in_err-ask-clause-failed : goal.returns-in_err-ask-clause-failed
returns-in_err-ask-clause-failed c =
    let a = c.args in
    let m = stores_in a.stores in
    let h = ask_handed _ _ c.from_residual.result c.from_residual.ensures.1 c.in_err-ask.ensures in
    rw h.1 (not_sound a.rows.now.numbers.now a.rows.now.counts.now a.events.now m (sym c.there.ensures ∙ c.if-not-there.false) (ap (λ (s : Stand). question4 s m) (sym c.unpack-stand.ensures) ∙ h.0))

pub returns-then-is_empty-clause-failed : goal.returns-then-is_empty-clause-failed
returns-then-is_empty-clause-failed c =
    let a = c.args in
    let m = stores_in a.stores in
    let t = c.if-is_empty.true in
    let n = c.is_empty.ensures in
    no_place a.rows.now.numbers.now a.rows.now.counts.now a.events.now m (sym c.there.ensures ∙ c.if-not-there.false) (ap (λ (s : Stand). question4 s m) (sym c.unpack-stand.ensures) ∙ ask_passed _ _ c.in_ok-ask.ensures) (search rules)

pub returns-clause-failed : goal.returns-clause-failed
returns-clause-failed c =
    let a = c.args in
    let m = stores_in a.stores in
    let t = c.if-is_empty.false in
    let n = c.is_empty.ensures in
    none-failed a.rows.now.numbers.now a.rows.now.counts.now a.events.now m (sym c.there.ensures ∙ c.if-not-there.false) (ap (λ (s : Stand). question4 s m) (sym c.unpack-stand.ensures) ∙ ask_passed _ _ c.in_ok-ask.ensures) (search rules)
