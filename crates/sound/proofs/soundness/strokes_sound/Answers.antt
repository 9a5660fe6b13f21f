use borrow.Author.Tests.{lt-leb, le-leb}
use borrow.Author.Rules.{rules}
use Rattle.sound.proofs.soundness.strokes_sound.Goals as goal

pub returns-then-stand-n : goal.returns-then-stand-n
returns-then-stand-n c = (rw (lt-leb c.args.stand.strokes c.args.stand.most c.if-stand-n.true), search rules, search rules)

pub returns : goal.returns
returns c = let e = c.strokes_pass.ensures in (rw (le-leb c.args.stand.strokes c.args.stand.most c.if-stand-n.false) e.0, e.1, e.2)
