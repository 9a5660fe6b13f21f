use lib.IntN.{ℤ, pos}
use lib.ListN.{get_or}
use native.Mathlib.Omega.{arith}
use mathlib.Core.Bool.{true}
use mathlib.Core.Path.{◌∙◌, ap}
use mir.Syntax.{w64}
use mir.Val.{to_z, of_z}
use mir.ValLaws.{to_z-of_z}
use borrow.Author.Rules.{rules}
use Rattle.stores.proofs.Searching.{place-le}
use Rattle.sound.specs.Code.SoundStand.{is_time, at_place}
use Rattle.stores.specs.Code.StoreRows.{place_of}
use Rattle.sound.proofs.SoundScans.{every_on, every_stop, every-end}
use Rattle.sound.proofs.SoundNames.{named_at}
use Rattle.sound.proofs.raw_times.RawTimes.each_named.Goals as goal

pub returns-then-not-is_at : goal.returns-then-not-is_at
returns-then-not-is_at c =
    let a = c.args in
    let l = c.loop-t in
    let t = get_or a.elements.now l.t-index (pos 0) in
    let back = to_z-of_z w64 t (record { sfits = search rules }) in
    let x = named_at a.self.times.now t c.seek-p.result _ c.args.self.rise (c.seek-p.ensures ∙ ap (λ (u : ℤ). place_of u a.self.times.now) back) (c.is_at.ensures ∙ ap (at_place a.self.times.now c.seek-p.result) back) in
    every_stop (is_time a.self.times.now) a.elements.now l.t-index (pos 0) _ _ c.loop-t-test.true x l.invariant c.if-not-is_at.true

pub overflow_add-next : goal.overflow_add-next
overflow_add-next c =
    let h = c.args.self.few in
    omega (arith, h, c.seek-p.ensures, place-le (to_z w64 (of_z w64 (get_or c.args.elements.now c.loop-t.t-index (pos 0)))) c.args.self.times.now)

pub loop-t-preserved : goal.loop-t-preserved
loop-t-preserved c =
    let a = c.args in
    let l = c.loop-t in
    let t = get_or a.elements.now l.t-index (pos 0) in
    let back = to_z-of_z w64 t (record { sfits = search rules }) in
    let x = named_at a.self.times.now t c.seek-p.result _ c.args.self.rise (c.seek-p.ensures ∙ ap (λ (u : ℤ). place_of u a.self.times.now) back) (c.is_at.ensures ∙ ap (at_place a.self.times.now c.seek-p.result) back) in
    every_on (is_time a.self.times.now) a.elements.now l.t-index (pos 0) _ _ c.loop-t-test.true x l.invariant c.if-not-is_at.false

pub returns : goal.returns
returns c = let l = c.loop-t in every-end (is_time c.args.self.times.now) c.args.elements.now l.t-index true _ c.loop-t-test.false l.invariant
