use borrow.Author.Rules.{rules}
use mathlib.Core.Path.{refl, ap, ◌∙◌}
use Rattle.sound.proofs.SoundScans.{every-turn, every-end}
use Rattle.sound.proofs.soundness.all_pass.Goals as goal

pub loop-row-init : goal.loop-row-init
loop-row-init g c = λ p h. refl

pub loop-row-preserved : goal.loop-row-preserved
loop-row-preserved g c = λ p h.
    let l = c.loop-row in
    every-turn p c.args.rows.now l.row-index c.row-item.result l.ok _ _ _ c.loop-row-test.true (h _ _ c.passes-ok.ensures ∙ ap p c.row-item.is) refl (l.invariant p h)

pub returns : goal.returns
returns g c = λ p h. every-end p c.args.rows.now c.loop-row.row-index _ _ (search rules) (c.loop-row.invariant p h)
