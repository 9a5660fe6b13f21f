use mathlib.Core.Path.{refl, ◌∙◌}
use Prim.Native.Nat.{◌+◌}
use lib.ListN.{length, get_or}
use native.Mathlib.Omega.{arith}
use borrow.Author.Rules.{rules}
use Rattle.strokes.proofs.StoredUnfinished.{room_of}
use Rattle.sound.proofs.SoundStrokes.{room_at, room_next, strokes-end, strokes-few, strokes_stop, strokes-turn, fractals_room, part_sized, stroke_cut}
use Rattle.sound.proofs.soundness.strokes_pass.Goals as goal

pub returns-then-b-f : goal.returns-then-b-f
returns-then-b-f c =
    let l = c.loop-k in
    let a = c.args in
    let s = a.strokes in
    (strokes-few a.raw.times.now a.bars a.fractals a.n l.k l.a s.times.now s.prices.now s.counts.now s.elements.now a.marks.stamps.now a.marks.prices.now l.invariant.1 l.invariant.2 (search rules) (search rules) _ (search rules) l.invariant.3, l.invariant.1, l.invariant.2)

pub part-own-requires-clause-room : goal.part-own-requires-clause-room
part-own-requires-clause-room c =
    let l = c.loop-k in
    let a = c.args in
    room_of _ _ _ c.requires.sizes.0 (room_at a.bars a.n l.k l.a (length a.strokes.times.now) l.invariant.1 c.requires.few.0 c.loop-k-test.true l.invariant.0)

pub part-marked-requires-clause-room : goal.part-marked-requires-clause-room
part-marked-requires-clause-room c =
    let l = c.loop-k in
    let a = c.args in
    let r = room_at a.bars a.n l.k l.a (length a.strokes.times.now) l.invariant.1 c.requires.few.0 c.loop-k-test.true l.invariant.0 in
    let f = c.if-b-f.false in
    fractals_room c.requires.sizes.1 (omega arith)

pub stroke_pass-requires : goal.stroke_pass-requires
stroke_pass-requires c =
    let l = c.loop-k in
    part_sized l.a (l.a + get_or c.args.bars l.k 0) c.requires.sizes.0 c.part-own.ensures

pub returns-in_default : goal.returns-in_default
returns-in_default c =
    let l = c.loop-k in
    let a = c.args in
    let s = a.strokes in
    let asked = c.in_default.ensures ∙ stroke_cut a.raw.times.now _ _ l.a (l.a + get_or a.bars l.k 0) (l.a + get_or a.fractals l.k 0) c.part-own.ensures c.part-marked.ensures in
    (strokes_stop a.raw.times.now a.bars a.fractals a.n l.k l.a s.times.now s.prices.now s.counts.now s.elements.now a.marks.stamps.now a.marks.prices.now l.invariant.1 l.invariant.2 (search rules) (search rules) _ _ (search rules) asked l.invariant.3 refl, l.invariant.1, l.invariant.2)

pub loop-k-preserved : goal.loop-k-preserved
loop-k-preserved c =
    let l = c.loop-k in
    let a = c.args in
    let s = a.strokes in
    let asked = c.in-Some.ensures ∙ stroke_cut a.raw.times.now _ _ l.a (l.a + get_or a.bars l.k 0) (l.a + get_or a.fractals l.k 0) c.part-own.ensures c.part-marked.ensures in
    (room_next a.bars a.n l.k l.a (length s.times.now) l.invariant.1 (search rules) (search rules) l.invariant.0, l.invariant.1, l.invariant.2, strokes-turn a.raw.times.now a.bars a.fractals a.n l.k l.a s.times.now s.prices.now s.counts.now s.elements.now a.marks.stamps.now a.marks.prices.now l.invariant.1 l.invariant.2 (search rules) (search rules) _ _ (search rules) asked l.invariant.3 refl)

pub returns : goal.returns
returns c =
    let l = c.loop-k in
    let a = c.args in
    let s = a.strokes in
    (strokes-end a.raw.times.now a.bars a.fractals a.n l.k l.a s.times.now s.prices.now s.counts.now s.elements.now a.marks.stamps.now a.marks.prices.now _ (search rules) l.invariant.3, l.invariant.1, l.invariant.2)
