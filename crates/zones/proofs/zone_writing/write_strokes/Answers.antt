use Rattle.zones.proofs.ZoneWalks.{listed-none, listed-turn}
use Rattle.zones.proofs.Rows.{same_start, same_then}
use Rattle.zones.proofs.zone_writing.write_strokes.Goals as goal

pub loop-j-init : goal.loop-j-init
loop-j-init c = (listed-none _, same_start c.args.to.now)

pub loop-j-preserved : goal.loop-j-preserved
loop-j-preserved c =
    let a = c.args in
    let l = c.loop-j in
    let p = c.write_stroke.ensures in
    (listed-turn a.run.now l.j a.to.now l.to c.write_stroke.new.to _ c.requires c.loop-j-test.true l.invariant.0 p.times p.prices p.codes, same_then a.to.now l.to c.write_stroke.new.to l.invariant.1 p.same)
