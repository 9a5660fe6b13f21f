use native.Mathlib.Omega.{arith}
use mathlib.Core.Path.{◌∙◌, ap}
use lib.Dec.{leb}
use lib.ListN.{drop}
use Rattle.strokes.specs.StateRead.{total}
use Prim.Native.Nat.{◌+◌}
use Rattle.sound.proofs.SoundNames.{total-turn, total_stop, total-end}
use Rattle.sound.proofs.soundness.total_fits.Goals as goal

pub returns-in_default : goal.returns-in_default
returns-in_default c = let l = c.loop-n in let k = c.in_default.ensures in total_stop c.args.bars.now l.n-index c.loop-n-test.true l.left _ (omega (arith, k)) l.invariant

pub loop-n-preserved : goal.loop-n-preserved
loop-n-preserved c =
    let l = c.loop-n in
    let k = c.in-Some.ensures in
    ap (leb (total (drop (l.n-index + 1) c.args.bars.now))) k.1 ∙ total-turn c.args.bars.now l.n-index c.loop-n-test.true l.left _ k.0 l.invariant

pub returns : goal.returns
returns c = let l = c.loop-n in total-end c.args.bars.now l.n-index l.left _ c.loop-n-test.false l.invariant
