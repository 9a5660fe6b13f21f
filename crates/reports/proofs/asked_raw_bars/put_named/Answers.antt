use Prim.Native.Nat.{ℕ, ◌+◌}
use native.Mathlib.Omega.{arith}
use mathlib.Core.Path.{◌≡◌, ap, sym, subst, ◌∙◌}
use mathlib.Core.List.{foldl}
use lib.Dec.{T}
use lib.IntN.{ℤ, pos}
use lib.ListN.{length, get_or}
use mir.Syntax.{w64}
use mir.ValLaws.{to_z-of_z}
use borrow.Author.Rules.{rules}
use Rattle.arith.proofs.SumLaws.{fold_turn, fold_end}
use Rattle.sound.specs.Code.SoundStand.{is_time}
use Rattle.stores.specs.Columns.{raw_of}
use Rattle.reports.specs.Code.ElementPrices.{named_bar}
use Rattle.reports.specs.Code.InnerRawSteps.{filling, put_one}
use Rattle.reports.proofs.MeasureLaws.{every-at}
use Rattle.reports.proofs.InnerRawLaws.{same_none, same_next, room_same, put_next}
use Rattle.reports.proofs.asked_raw_bars.put_named.Goals as goal

pub loop-j-init : goal.loop-j-init
loop-j-init c = (same_none _, omega arith, let a = c.args in let e : a.at + 0 ≡ a.at = omega arith in ap (λ (k : ℕ). foldl (put_one (named_bar a.raw)) (filling (raw_of a.out.now) k) a.times.now) e)

pub bar-requires : goal.bar-requires
bar-requires c =
    let a = c.args in
    let j = c.loop-j.j in
    subst (λ (t : ℤ). T (is_time a.raw.columns.times.now t)) (sym (to_z-of_z w64 (get_or a.times.now j (pos 0)) (record { sfits = search rules }))) (every-at (is_time a.raw.columns.times.now) a.times.now j (pos 0) c.loop-j-test.true c.requires.named)

pub put_bar-requires : goal.put_bar-requires
put_bar-requires c = let t = c.loop-j-test.true in room_same _ _ _ _ c.loop-j.invariant.0 c.requires.room (omega (arith, t))

pub loop-j-preserved : goal.loop-j-preserved
loop-j-preserved c =
    let a = c.args in
    let l = c.loop-j in
    let p = c.put_bar.ensures in
    let t = get_or a.times.now l.j (pos 0) in
    let e = c.bar.ensures ∙ ap (λ (x : ℤ). named_bar a.raw x) (to_z-of_z w64 t (record { sfits = search rules })) in (
      same_next _ _ _ l.invariant.0 p.same,
      omega (arith, c.loop-j-test.true),
      fold_turn (put_one (named_bar a.raw)) a.times.now l.j (pos 0) (filling (raw_of l.out) (a.at + l.j)) _ _ c.loop-j-test.true (put_next (named_bar a.raw) (raw_of l.out) _ a.at l.j t _ p.store e) l.invariant.2,
    )

pub returns : goal.returns
returns c =
    let a = c.args in
    let l = c.loop-j in
    let q : a.at + length a.times.now ≡ a.at + l.j = omega (arith, c.loop-j-test.false, l.invariant.1) in
    record { put = ap (filling (raw_of l.out)) q ∙ fold_end (put_one (named_bar a.raw)) a.times.now l.j _ _ c.loop-j-test.false l.invariant.2; same = l.invariant.0 }
