use lib.IntN.{ℤ, pos}
use lib.ListN.{get_or, length, take}
use mathlib.Core.List.{[]}
use Prim.Native.Nat.{◌-◌}
use borrow.Author.Rules.{rules}
use mathlib.Core.Path.{◌∙◌, ap}
use mir.Syntax.{w64}
use mir.ValLaws.{to_z-of_z}
use Rattle.bars.specs.Lists.{last}
use Rattle.machine.specs.Soundness.{ends_on}
use Rattle.sound.proofs.SoundNames.{newest-none, newest-empty, newest-at}
use Rattle.sound.proofs.soundness.newest_named.Goals as goal

pub returns-then-n-eq0 : goal.returns-then-n-eq0
returns-then-n-eq0 c = let a = c.args in newest-none a.ts.now a.cs.now a.es.now c.if-n-eq0.true

pub returns-then-m-eq0 : goal.returns-then-m-eq0
returns-then-m-eq0 c = let a = c.args in newest-empty a.ts.now a.cs.now a.es.now c.if-n-eq0.false c.if-m-eq0.true

pub returns : goal.returns
returns c =
    let a = c.args in
    let m = length a.cs.now - 1 in
    newest-at a.ts.now a.cs.now a.es.now _ c.if-n-eq0.false c.if-m-eq0.false (search rules)
    (c.is_last.ensures
    ∙ ap (λ (t : ℤ). ends_on t (last (take (get_or a.cs.now m 0) (get_or a.es.now m [])))) (to_z-of_z w64 (get_or a.ts.now (length a.ts.now - 1) (pos 0)) (record { sfits = search rules })))
