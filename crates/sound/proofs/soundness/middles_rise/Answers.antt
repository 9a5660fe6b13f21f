use Rattle.std.proofs.Common.{rules, tests}
use lib.Signed.{lt_z}
use lib.ListN.{get_or}
use lib.IntN.{ℤ, pos}
use mathlib.Core.List.{List}
use Rattle.std.proofs.lemmas.List.Sorted.{answers_always}
use Rattle.sound.proofs.SoundScans.{middle-neighbours}
use Rattle.sound.proofs.soundness.middles_rise.Goals as goal

pub returns : goal.returns
returns c =
    middle-neighbours c.args.fs.now _
    (c.is_sorted_by.ensures.cases (λ (a b : List ℤ). lt_z (get_or a 1 (pos 0)) (get_or b 1 (pos 0))) (answers_always _ _ _ (λ f a r f' k. search (rules, tests))))
