use Rattle.stores.specs.Stores.{raw_bars}
use Rattle.stores.specs.Columns.{raw_in}
use Rattle.strokes.specs.Columns.{written_in, SameColumns}
use Rattle.from_fresh.specs.Code.ClearWindows.{Clear}
use Rattle.batch.proofs.BatchLoop.{Going}
use Rattle.batch.proofs.batch.feed_from.Given as goal

abbrev pub invariant-loop-fed : goal.invariant-loop-fed
invariant-loop-fed l =
    Going l.fn.stand (written_in l.fn.raw l.fn.unfinished l.fn.strokes l.fn.fractals) (raw_bars (raw_in l.bars)) l.fed l.events l.kept (written_in l.raw l.unfinished l.strokes l.fractals)
    × Clear l.kept (written_in l.raw l.unfinished l.strokes l.fractals) l.clear
    × SameColumns l.fn.raw l.fn.unfinished l.fn.strokes l.fn.fractals l.raw l.unfinished l.strokes l.fractals
