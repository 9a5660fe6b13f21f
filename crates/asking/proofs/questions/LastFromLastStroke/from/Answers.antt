use borrow.Author.Rules.{rules}
use mir.Syntax.{w64}
use mir.ValLaws.{to_z-of_z}
use Rattle.asking.specs.Code.AskSteps.{last_from}
use Rattle.asking.proofs.questions.LastFromLastStroke.from.Goals as goal

pub returns : goal.returns
unfolding last_from
returns c =
    let k = c.args.k in
    let time = to_z-of_z w64 k.time (record { sfits = search rules }) in
    λ i. record { mark = c.from.ensures i; high = k.high; low = k.low; bars = k.bars; time = time i }
