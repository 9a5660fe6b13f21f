use Rattle.stores.proofs.TailMerging.{last-merged, last-own, beyond-set}
use Rattle.stores.specs.Stores.{RawStore, raw_bars}
use Rattle.stores.specs.Columns.{raw_of}
use lib.ListN.{take, length}
use mathlib.Core.Path.{◌∙◌, ap}
use Prim.Native.Nat.{◌+◌, ◌-◌}
use native.Mathlib.Omega.{arith}
use borrow.Author.Rules.{rules}
use Rattle.stores.proofs.lent_columns.RawColumnsMut.include_last.Goals as goal

pub returns-in-Some-clause-tail : goal.returns-in-Some-clause-tail
returns-in-Some-clause-tail c =
    let a = c.args in
    let s = raw_of a.self.now in
    let w = c.put_bar.ensures.store in
    let is = rw (c.bar-k2.ensures, c.seen.ensures) at c.in-Some.ensures in
    (ap (λ (t : RawStore). take a.m (raw_bars t)) w ∙ last-merged s (length s.times) c.requires.2 a.m _ _ c.requires.0 c.requires.1 _ is, omega arith, omega arith, beyond-set s _ (a.m - 1) a.m _ (search rules) w)

pub returns-in-None-clause-tail : goal.returns-in-None-clause-tail
returns-in-None-clause-tail c =
    let a = c.args in
    let s = raw_of a.self.now in
    let w = c.put_bar-in-None.ensures.store in
    let is = rw (c.bar-k2.ensures, c.seen.ensures) at c.in-None.ensures in
    (ap (λ (t : RawStore). take (a.m + 1) (raw_bars t)) w ∙ last-own s (length s.times) c.requires.2 a.m _ _ c.requires.0 c.requires.1 is, omega arith, omega arith, beyond-set s _ a.m (a.m + 1) _ (omega arith) w)
