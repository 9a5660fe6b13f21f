use mathlib.Core.Path.{refl}
use borrow.Author.Rules.{rules}
use Rattle.sound.proofs.SoundScans.{held_none, held_one, held_more}
use Rattle.sound.proofs.soundness.ends_held.Goals as goal

pub returns-then-n-eq0 : goal.returns-then-n-eq0
returns-then-n-eq0 c = held_none _ c.if-n-eq0.true

pub returns-then-n-eq1 : goal.returns-then-n-eq1
returns-then-n-eq1 c = held_one c.args.fp.now _ c.if-n-eq1.true c.is_real.ensures

pub returns : goal.returns
returns c = held_more c.args.fp.now _ _ _ (search rules) c.is_real-2.ensures c.is_real-3.ensures refl
