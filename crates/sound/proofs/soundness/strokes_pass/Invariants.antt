use Prim.Native.Nat.{◌+◌, ◌≤◌}
use mathlib.Core.Path.{◌≡◌}
use lib.ListN.{length, take, drop}
use Rattle.strokes.specs.StateRead.{total}
use Rattle.sound.specs.Code.SoundStand.{strokes_columns}
use Rattle.sound.proofs.soundness.strokes_pass.Given as goal

abbrev pub invariant-loop-k : goal.invariant-loop-k
invariant-loop-k l =
    (l.a + total (drop l.k (take l.n l.bars)) ≤ length l.strokes.times.now)
    × (length l.bars ≡ 65)
    × (length l.fractals ≡ 65)
    × (strokes_columns l.raw.times.now (drop l.k (take l.n l.bars)) (drop l.k (take l.n l.fractals)) (drop l.a l.strokes.times.now) (drop l.a l.strokes.prices.now) (drop l.a l.strokes.counts.now) (drop l.a l.strokes.elements.now) (drop l.a l.marks.stamps.now) (drop l.a l.marks.prices.now)
    ≡ strokes_columns l.raw.times.now (take l.n l.bars) (take l.n l.fractals) l.strokes.times.now l.strokes.prices.now l.strokes.counts.now l.strokes.elements.now l.marks.stamps.now l.marks.prices.now)
