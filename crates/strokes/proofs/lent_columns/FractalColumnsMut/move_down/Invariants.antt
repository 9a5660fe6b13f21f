use Rattle.strokes.proofs.MovedFractals.{LeftToMove}
use Rattle.strokes.specs.Code.StrokeSteps.{moved_down}
use Rattle.strokes.specs.Columns.{SameFractals}
use lib.ListN.{take, drop}
use Rattle.strokes.proofs.lent_columns.FractalColumnsMut.move_down.Given as goal

abbrev pub invariant-loop-k : goal.invariant-loop-k
invariant-loop-k l =
    LeftToMove (drop l.k (take l.n l.bars)) (drop l.k (take l.n l.fractals)) l.to l.first l.self.stamps.now (moved_down (drop 1 (take l.n l.bars)) (drop 1 (take l.n l.fractals)) 0 l.first l.initial.self.stamps.now)
    × LeftToMove (drop l.k (take l.n l.bars)) (drop l.k (take l.n l.fractals)) l.to l.first l.self.prices.now (moved_down (drop 1 (take l.n l.bars)) (drop 1 (take l.n l.fractals)) 0 l.first l.initial.self.prices.now)
    × SameFractals l.initial.self l.self
