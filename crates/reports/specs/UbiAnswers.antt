-- What get_ubi answers of a stand and its lent stores. Definitions only.
use Rattle.std.specs.Prelude.{Bool, true, false, length, Result, Ok, Err}
use Rattle.std.proofs.Math.Option.{Option, none, some}
use Rattle.bars.specs.declared.Bar.{Bar}
use Rattle.bars.specs.declared.refusals.Question.{Question}
use Rattle.bars.specs.declared.refusals.Question.TheVariants.{Sound, Summary}
use Rattle.machine.specs.declared.Mark.{Mark}
use Rattle.machine.specs.Stand.{State}
use Rattle.strokes.specs.declared.Stand.{Stand}
use Rattle.strokes.specs.StateRead.{state_of}
use Rattle.strokes.specs.Lent.{Stores}
use Rattle.question4.specs.Question4.{question4}
use Rattle.reports.specs.declared.fractal_walk.FractalBars.{FractalBars}
use Rattle.reports.specs.declared.ubi.UbiSummary.{UbiSummary}
use Rattle.reports.specs.Unfinished.{Ubi, get_ubi}

unfoldable pub three_bars : Mark → Bar → Bar → Bar → FractalBars
three_bars m a b c = record { mark = m; left = a; mid = b; right = c }

-- the summary, where question 15 says yes; its lists by their lengths
unfoldable pub ubi_given : Option Ubi → Result UbiSummary Question
unfolding three_bars
ubi_given none = Err Summary
ubi_given (some u) =
    Ok
    (record {
      direction = u.direction;
      high = u.high;
      low = u.low;
      highBar = u.high_bar;
      lowBar = u.low_bar;
      bars = length u.bars;
      raw = length u.raw;
      fractals = length u.fractals;
      first = three_bars u.first.mark u.first.left.bar u.first.mid.bar u.first.right.bar;
    })

-- by question 4
unfoldable pub ubi_by : Bool → State → Result UbiSummary Question
unfolding ubi_given get_ubi
ubi_by true s = ubi_given (get_ubi s.raw s.unfinished s.strokes)
ubi_by false s = Err Sound

unfoldable pub ubi_answer : Stand → Stores → Result UbiSummary Question
unfolding ubi_by question4 state_of
ubi_answer s m = ubi_by (question4 s m) (state_of s m)
