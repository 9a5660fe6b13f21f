use mathlib.Core.Path.{refl}
use Rattle.strokes.specs.Lent.{stores_of}
use Rattle.question4.proofs.Question4Passed.{ask_handed, ask_passed}
use Rattle.zones.proofs.NamedRunLaws.{refused_4, refused_13, passed_13, run-here}
use Rattle.zones.proofs.kept_run.Run.ask.Goals as goal

pub returns-in_err-ask-clause-failed : goal.returns-in_err-ask-clause-failed
returns-in_err-ask-clause-failed c =
    let a = c.args in
    let x = c.run_exists-exists.ensures in
    let h = ask_handed _ _ c.from_residual.result c.from_residual.ensures.1 c.in_err-ask.ensures in
    rw h.1 (refused_4 a.stand _ x.1 x.2 a.first a.count h.0)

pub returns-then-not-exists-clause-failed : goal.returns-then-not-exists-clause-failed
returns-then-not-exists-clause-failed c =
    let a = c.args in
    let x = c.run_exists-exists.ensures in
    refused_13 a.stand _ x.1 x.2 a.first a.count (ask_passed _ _ c.in_ok-ask.ensures) _ x.0 c.if-not-exists.true

pub returns-clause-failed : goal.returns-clause-failed
returns-clause-failed c =
    let a = c.args in
    let x = c.run_exists-exists.ensures in
    passed_13 a.stand _ x.1 x.2 a.first a.count (ask_passed _ _ c.in_ok-ask.ensures) _ x.0 c.if-not-exists.false

pub invariant_of-result : goal.invariant_of-result
unfolding stores_of
invariant_of-result c =
    let a = c.args in
    let x = c.run_exists-exists.ensures in
    record { stands = run-here a.stand _ x.1 x.2 a.first a.count 0 (passed_13 a.stand _ x.1 x.2 a.first a.count (ask_passed _ _ c.in_ok-ask.ensures) _ x.0 c.if-not-exists.false) refl }
