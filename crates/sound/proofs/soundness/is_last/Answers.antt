use lib.IntN.{pos}
use lib.ListN.{get_or}
use Prim.Native.Nat.{◌-◌}
use borrow.Author.Rules.{rules}
use Rattle.sound.proofs.SoundNames.{last_none, last_some, same_bits}
use Rattle.sound.proofs.soundness.is_last.Goals as goal

pub returns-then-n-eq0 : goal.returns-then-n-eq0
returns-then-n-eq0 c = let a = c.args in last_none a.t a.row.now a.count _ c.min-n.ensures c.if-n-eq0.true

pub returns : goal.returns
returns c =
    let a = c.args in
    last_some a.t a.row.now a.count _ _ c.min-n.ensures c.if-n-eq0.false
    (same_bits a.t (get_or a.row.now (c.min-n.result - 1) (pos 0)) c.ranges.t (record { sfits = search rules }))
