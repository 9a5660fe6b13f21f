use mathlib.Core.Path.{refl, ◌∙◌}
use native.Mathlib.Omega.{arith}
use lib.ListN.{length-set}
use Rattle.zones.specs.Code.StrokesRead.{items_from, read_run}
use Rattle.zones.proofs.RunReads.{reads_more}
use Rattle.zones.proofs.kept_run.Run.strokes.Goals as goal

pub loop-j-init : goal.loop-j-init
unfolding read_run items_from
loop-j-init c = (refl, refl)

pub loop-j-preserved : goal.loop-j-preserved
loop-j-preserved c =
    let r = c.args.self in
    let l = c.loop-j in
    let p = r.stands.places in
    let t = c.loop-j-test.true in
    let n = l.invariant.0 in
    (length-set l.strokes l.j c.summary_at.result ∙ n, reads_more r.stand _ r.first l.strokes _ l.j _ (omega arith) c.summary_at.ensures refl l.invariant.1)
