use borrow.Author.Rules.{rules}
use lib.ListN.{take, get_or}
use lib.IntN.{pos}
use mir.Syntax.{w64}
use mir.ValLaws.{to_z-of_z}
use Rattle.stores.specs.Stores.{raw_bars}
use Rattle.stores.specs.Columns.{raw_in}
use Rattle.asking.proofs.MergedTails.{run-first, run_can, run-turn, run_end}
use Rattle.asking.proofs.merged_tail.Tail.merge_elements.Goals as goal

pub loop-t-init : goal.loop-t-init
loop-t-init g c = let a = c.args in run-first (raw_in a.bars) a.self.now (take a.kept (raw_bars (raw_in a.raw))) a.elements.now c.requires.tail

pub merge_named-requires : goal.merge_named-requires
merge_named-requires g c =
    let a = c.args in
    let l = c.loop-t in
    let u = raw_in a.bars in
    let raw = take a.kept (raw_bars (raw_in a.raw)) in
    (search rules, (c.requires.named, run_can u a.self.now raw a.elements.now c.requires.tail l.t-index l.self l.invariant c.loop-t-test.true))

pub loop-t-preserved : goal.loop-t-preserved
loop-t-preserved g c =
    let a = c.args in
    let l = c.loop-t in
    let u = raw_in a.bars in
    let raw = take a.kept (raw_bars (raw_in a.raw)) in
    let t = get_or a.elements.now l.t-index (pos 0) in
    let back = to_z-of_z w64 t (record { sfits = search rules }) in
    run-turn u a.self.now raw a.elements.now c.requires.tail l.t-index l.self l.invariant c.merge_named.new.self _ c.loop-t-test.true back c.merge_named.ensures

pub returns : goal.returns
returns g c =
    let a = c.args in
    let l = c.loop-t in
    let u = raw_in a.bars in
    let raw = take a.kept (raw_bars (raw_in a.raw)) in
    run_end u a.self.now raw a.elements.now c.requires.tail l.t-index l.self l.invariant c.loop-t-test.false
