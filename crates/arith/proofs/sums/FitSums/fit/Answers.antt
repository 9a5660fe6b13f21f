use Rattle.std.proofs.Common.{sym, ap, ◌∙◌}
use lib.Ieee.{Float, round, of_bits, lt}
use Rattle.arith.specs.Order.{abs_of}
use Rattle.arith.specs.Sums.{tiny, det_of, det_a_of, fit_if, fit_of}
use Rattle.arith.proofs.sums.FitSums.fit.Goals as goal

pub returns-then-abs : goal.returns-then-abs
unfolding of_bits round tiny fit_of fit_if det_of
returns-then-abs c = rw (sym (ap (λ (z : Float). lt z tiny) (c.abs.ensures ∙ ap abs_of c.det_with-det.ensures)) ∙ c.if-abs.true)

pub returns : goal.returns
unfolding of_bits round tiny fit_of fit_if det_of det_a_of
returns c = rw (sym (ap (λ (z : Float). lt z tiny) (c.abs.ensures ∙ ap abs_of c.det_with-det.ensures)) ∙ c.if-abs.false) (rw (c.det_with.ensures, c.det_with-det.ensures))
