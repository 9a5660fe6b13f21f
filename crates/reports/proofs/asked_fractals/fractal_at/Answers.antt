use mathlib.Core.Path.{refl, ap, sym, ◌∙◌}
use mathlib.Core.List.{List}
use Rattle.machine.specs.Fractals.{Fractal}
use Rattle.named.specs.ReportQuestions.{nth}
use Rattle.reports.specs.Code.FractalWalk.{plain, left}
use Rattle.std.proofs.lemmas.Iterator.Consumers.{nth_from_yields_List, YieldsList-from_first}
use Rattle.reports.proofs.UnfinishedAt.{nth_got}
use Rattle.reports.proofs.asked_fractals.fractal_at.Goals as goal

pub returns : goal.returns
returns c =
    ap (λ (l : List Fractal). nth l c.args.place) (sym c.new.ensures.left)
    ∙ nth_got _ _ _ (nth_from_yields_List _ _ _ c.nth.ensures.ran (YieldsList-from_first plain left _ refl))
