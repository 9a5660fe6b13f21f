use native.Mathlib.Omega.{arith}
use mathlib.Core.Path.{refl, ap, sym, subst, ◌∙◌}
use mathlib.Core.List.{List, [], foldl}
use lib.Dec.{T}
use lib.IntN.{ℤ}
use lib.ListN.{length, take, get_or}
use Rattle.bars.specs.Lists.{every}
use Rattle.sound.specs.Code.SoundStand.{is_time}
use Rattle.stores.specs.Columns.{raw_of}
use Rattle.reports.specs.Code.ElementPrices.{elements_in, named_bar}
use Rattle.reports.specs.Code.InnerRawSteps.{Filling, filling, put_one}
use Rattle.reports.proofs.MeasureLaws.{row_named, row-turn, row-end}
use Rattle.reports.proofs.InnerRawLaws.{same_none, same_next, room_same, next_place, rows_next, row_within, rows_put}
use Rattle.reports.proofs.asked_raw_bars.put_rows.Goals as goal

pub loop-i-init : goal.loop-i-init
loop-i-init c = (same_none _, omega arith, refl)

pub put_named-k-requires : goal.put_named-k-requires
put_named-k-requires c =
    let s = c.args.inner in
    let ts = s.raw.columns.times.now in
    let l = c.loop-i in
    let h = c.loop-i-test.true in
    let e = c.elements_at.ensures.value in
    record {
      named = subst (λ (x : List ℤ). T (every (is_time ts) x)) (sym e) (row_named s.counts.now s.elements.now l.i s.even h ts s.named);
      room = room_same _ _ _ _ l.invariant.0 c.requires (omega (arith, ap (λ (x : List ℤ). length x) e, row_within s.counts.now s.elements.now l.i s.even h l.k _ l.invariant.1));
    }

pub loop-i-preserved : goal.loop-i-preserved
loop-i-preserved c =
    let s = c.args.inner in
    let l = c.loop-i in
    let h = c.loop-i-test.true in
    let p = c.put_named-k.ensures in
    let w = filling (raw_of l.out) l.k in
    let e = p.put ∙ ap (λ (x : List ℤ). foldl (put_one (named_bar s.raw)) w x) c.elements_at.ensures.value in (
      same_next _ _ _ l.invariant.0 p.same,
      rows_next s.counts.now s.elements.now l.i s.even h l.k _ _ (ap (λ (x : Filling). x.next) e ∙ next_place (named_bar s.raw) w (take (get_or s.counts.now l.i 0) (get_or s.elements.now l.i []))) l.invariant.1,
      row-turn s.counts.now s.elements.now l.i s.even h (put_one (named_bar s.raw)) w _ _ e l.invariant.2,
    )

pub returns : goal.returns
returns c =
    let s = c.args.inner in
    let l = c.loop-i in
    record { put = rows_put (named_bar s.raw) (raw_of c.args.out.now) (filling (raw_of l.out) l.k) (elements_in s.counts.now s.elements.now) c.requires (row-end (put_one (named_bar s.raw)) s.counts.now s.elements.now l.i _ _ s.even c.loop-i-test.false l.invariant.2); same = l.invariant.0 }
