use borrow.Author.Rules.{rules}
use mathlib.Core.Path.{ap, ◌∙◌}
use mathlib.Core.List.{[], ◌∷◌}
use lib.ListN.{set}
use mir.Syntax.{w64}
use mir.ValLaws.{to_z-of_z}
use Rattle.zones.specs.FakeRows.{fake_times, fake_prices, fake_code}
use Rattle.zones.proofs.FakeReads.{writing-none, writing-turn}
use Rattle.zones.proofs.RowCodes.{code_is}
use Rattle.zones.proofs.Rows.{same_start, same_then}
use Rattle.zones.proofs.fake_writing.write_fakes.Goals as goal

pub loop-j-init : goal.loop-j-init
loop-j-init c = (writing-none _ _ _ _, same_start c.args.to.now)

pub loop-j-preserved : goal.loop-j-preserved
unfolding fake_times fake_prices fake_code
loop-j-preserved c =
    let a = c.args in
    let l = c.loop-j in
    let k = c.fake_at-k.result in
    let p = c.put.ensures in
    let t = to_z-of_z w64 k.sdt (record { sfits = search rules }) in
    let u = to_z-of_z w64 k.edt (record { sfits = search rules }) in
    (writing-turn _ _ a.p l.j a.n a.to.now l.to c.put.new.self k c.requires.fact_2 c.loop-j-test.true l.invariant.0 c.fake_at-k.ensures (p.times ∙ (λ x. set l.to.times.now l.j (t x ∷ u x ∷ []))) p.prices (p.kinds ∙ ap (set l.to.kinds.now l.j) (code_is k.direction)), same_then a.to.now l.to c.put.new.self l.invariant.1 p.same)
