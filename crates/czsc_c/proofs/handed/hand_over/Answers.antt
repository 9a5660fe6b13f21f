use mathlib.Core.Path.{refl}
use Rattle.czsc_c.proofs.HandedLaws.{handed_yes, handed_no}
use Rattle.czsc_c.proofs.handed.hand_over.Goals as goal

pub returns-in-Ok-clause-handed : goal.returns-in-Ok-clause-handed
returns-in-Ok-clause-handed c = handed_yes _ _ _ _ _ _ _ c.args.r c.in-Ok.e c.in-Ok.is c.pack.ensures.0 c.pack.ensures.1 refl

pub returns-in-Err-clause-handed : goal.returns-in-Err-clause-handed
returns-in-Err-clause-handed c = handed_no _ _ _ _ c.args.r c.in-Err.q c.in-Err.is
