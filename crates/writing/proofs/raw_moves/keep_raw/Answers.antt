use Rattle.writing.proofs.StepLaws.{raw-sized, raw-fits, none_dropped, some_dropped}
use mir.ValLaws.{to_z-of_z}
use mir.Syntax.{w64}
use lib.IntN.{pos}
use lib.ListN.{length, get_or}
use Rattle.strokes.specs.Code.BarSteps.{with_raw}
use Prim.Native.Nat.{◌<◌}
use native.Mathlib.Omega.{arith}
use borrow.Author.Rules.{rules}
use Rattle.writing.proofs.raw_moves.keep_raw.Goals as goal

pub put_raw-n-requires : goal.put_raw-n-requires
put_raw-n-requires c = let p = c.requires in
    record { fact_1 = p.sized; fact_2 = p.fits; fact_3 = p.puts; fact_4 = p.replaces }

pub returns-then-stand-eq0-clause-has : goal.returns-then-stand-eq0-clause-has
returns-then-stand-eq0-clause-has c = let a = c.args in none_dropped a.stand _ _ _ c.put_raw-n.ensures.has a.stand.strokes _ c.if-stand-eq0.true

pub bounds-strokes-0 : goal.bounds-strokes-0
bounds-strokes-0 c = let a = c.args in let e = c.if-stand-eq0.false in let q : 0 < length a.strokes.times.now = c.requires.shows (omega arith) in search rules

pub drop_raw-requires : goal.drop_raw-requires
unfolding with_raw
drop_raw-requires c = let a = c.args in
    let h = c.put_raw-n.ensures.has in
    record { fact_1 = raw-sized a.stand (with_raw a.stand c.put_raw-n.result) _ _ h; fact_2 = raw-fits a.stand (with_raw a.stand c.put_raw-n.result) _ _ h }

pub returns-clause-has : goal.returns-clause-has
unfolding with_raw
returns-clause-has c = let a = c.args in let b = c.put_raw-n in some_dropped a.stand (with_raw a.stand b.result) _ _ b.ensures.has _ _ a.stand.strokes (get_or a.strokes.times.now 0 (pos 0)) _ c.if-stand-eq0.false (to_z-of_z w64 _ (search rules)) c.drop_raw.ensures.has
