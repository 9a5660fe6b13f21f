use lib.ListN.{length}
use mathlib.Core.Path.{ap}
use native.Mathlib.Omega.{arith}
use Rattle.bars.specs.declared.Bar.{Bar}
use Rattle.stores.specs.Columns.{raw_of}
use Rattle.stores.proofs.TailMerging.{takes_first, takes_alone, takes_behind, takes_within}
use Rattle.stores.proofs.lent_columns.RawColumnsMut.merge_bar.Goals as goal

pub returns-in-0-default-clause-tail : goal.returns-in-0-default-clause-tail
returns-in-0-default-clause-tail c =
    let a = c.args in
    let s = raw_of a.self.now in
    takes_first s _ (length s.times) a.m a.b c.requires.1 c.requires.0 a.k c.in-0-default.is-0 c.put_bar.ensures.store

pub returns-in-1-None-clause-tail : goal.returns-in-1-None-clause-tail
returns-in-1-None-clause-tail c =
    let a = c.args in
    let s = raw_of a.self.now in
    takes_alone s _ (length s.times) a.m a.b c.requires.1 c.requires.0 a.k c.in-1-None.is-1 c.in-1-None.is-0 c.put_bar-in-1-None.ensures.store

pub returns-in-1-Some-clause-tail : goal.returns-in-1-Some-clause-tail
returns-in-1-Some-clause-tail c =
    let a = c.args in
    let s = raw_of a.self.now in
    takes_behind s _ (length s.times) a.m a.b c.requires.1 c.requires.0 a.k c.in-1-Some.before _ c.in-1-Some.is-1 c.in-1-Some.is-0 c.include_last.ensures.tail

pub returns-in_default-clause-tail : goal.returns-in_default-clause-tail
returns-in_default-clause-tail c =
    let a = c.args in
    let s = raw_of a.self.now in
    takes_within s _ (length s.times) a.m a.b c.requires.1 c.requires.0 a.k _ _ (omega (arith, c.in_default.is-0)) (rw c.seen.ensures at (ap (λ (x : Bar). x.high) c.bar-before.ensures)) c.include_last-in_default.ensures.tail
