use mathlib.Core.Path.{◌∙◌}
use Rattle.lines.proofs.NanBits.{nan-made, nan_pattern, no_nan_pattern}
use Rattle.lines.proofs.floats.float_of.Goals as goal

pub returns-then-bits-gt9218868437227405312 : goal.returns-then-bits-gt9218868437227405312
returns-then-bits-gt9218868437227405312 c = nan-made ∙ nan_pattern c.args.bits c.if-bits-gt9218868437227405312.true

pub float_from_bits-result : goal.float_from_bits-result
float_from_bits-result c = no_nan_pattern c.args.bits c.if-bits-gt9218868437227405312.false
