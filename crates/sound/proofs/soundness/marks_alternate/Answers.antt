use borrow.Author.Rules.{rules}
use mathlib.Core.Path.{refl}
use Rattle.sound.proofs.SoundScans.{alternating-few, alternating-start, alternating-turn, alternating-end, unlike}
use Rattle.sound.proofs.soundness.marks_alternate.Goals as goal

pub returns-in_default : goal.returns-in_default
returns-in_default c = alternating-few c.args.fp.now (search rules)

pub loop-p-init : goal.loop-p-init
loop-p-init c = alternating-start c.args.fp.now _ _ _ c.is_top_row-top.ensures c.in-Some.ensures.cases.0

pub loop-p-preserved : goal.loop-p-preserved
loop-p-preserved c =
    let l = c.loop-p in
    alternating-turn c.in-Some.rest.now l.p-index l.top _ l.ok _ _ _ c.loop-p-test.true c.is_top_row-next.ensures (unlike l.top c.is_top_row-next.result) refl l.invariant

pub returns : goal.returns
returns c = let l = c.loop-p in alternating-end c.in-Some.rest.now l.p-index l.top l.ok _ (search rules) l.invariant
