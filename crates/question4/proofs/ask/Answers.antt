use Rattle.std.proofs.Common.{Bool, Ok, Err, cond, ap, sym, ◌∙◌}
use Rattle.bars.specs.declared.refusals.Question.TheVariants.{Sound}
use Rattle.question4.proofs.ask.Goals as goal

pub returns-then-is_sound : goal.returns-then-is_sound
returns-then-is_sound c = ap (λ (t : Bool). cond t (Ok tt) (Err Sound)) (sym c.if-is_sound.true ∙ c.is_sound.ensures)

pub returns-else-is_sound : goal.returns-else-is_sound
returns-else-is_sound c = ap (λ (t : Bool). cond t (Ok tt) (Err Sound)) (sym c.if-is_sound.false ∙ c.is_sound.ensures)
