-- Where every accepted bar is later than the one before, the newest raw bar is the last element of the last unfinished bar: no tail is lost.
-- Assumes nothing.
use Prim.Native.Nat.{ℕ}
use mathlib.Core.Path.{◌≡◌, sym, subst}
use mathlib.Core.Bool.{Bool, true, false, cond}
use mathlib.Core.List.{List, [], ◌∷◌}
use mathlib.Core.Option.{Option, none, some}
use lib.IntN.{ℤ}
use lib.Signed.{lt_z}
use lib.Dec.{T}
use Rattle.bars.specs.Lists.{init, last}
use Rattle.bars.specs.declared.Bar.{Bar}
use Rattle.bars.specs.Bars.{Merged}
use Rattle.machine.specs.Fractals.{Fractal}
use Rattle.machine.specs.Strokes.{Stroke}
use Rattle.machine.specs.Stand.{State}
use Rattle.machine.specs.Feed.{merged_with, is_later}
use Rattle.machine.specs.ByTime.{from, check_bi_by_time}
use Rattle.bars.specs.Merging.{merge_all, merge_in}
use Rattle.machine.proofs.MachineByTime.{feed_if, feed, run, AllLater, start, NotEarlier, Asks}
use Rattle.machine.proofs.Facts.{Begins}
use Rattle.machine.specs.Soundness.{newest_last}
use Rattle.arith.proofs.FloatOrder.{contra}
use Rattle.machine.proofs.MadeStroke.{check_outcome}
use Rattle.machine.proofs.StrokesChain.{Chain, chain_took, last_snoc}
use Rattle.machine.proofs.ChainKept.{Inv, inv_made, chain_begins}
use Rattle.machine.proofs.StrokesMeet.{Fine, merged_inv, feed_fine, start_fine, start_none}
use Rattle.machine.proofs.NewestLast.{between, MayLose, NoneLost, from-none, reached_newest}
use Rattle.bars.proofs.Times as times

abbrev time : Merged → ℤ
time k = k.bar.time

-- bars that begin with a fractal have its middle bar
begins-some : (f : Fractal) (l : List Merged) → Begins f l → from (time f.mid) l ≡ [] → ⊥
begins-some f [] h e = h
begins-some f (a ∷ []) h e = h
begins-some f (a ∷ k ∷ []) h e = h
begins-some f (a ∷ k ∷ c ∷ l) h e =
    let t = time f.mid in
    let q : T (lt_z t t) = subst (λ z. T (lt_z (time z) t)) h.1 (from-none t (a ∷ k ∷ c ∷ l) e).1.0 in
    contra (lt_z t t) q (times.le_not_lt t t (times.le_refl t))

chain_safe : (n : ℤ) (minimum : ℕ) (l : List Merged) (bs : List Stroke) → Inv n bs l → MayLose minimum l bs → ⊥
chain_safe n minimum l [] i x = x
chain_safe n minimum l (b ∷ bs) i x =
    let f = chain_begins b bs l i.chain in
    let m = between minimum l b bs in
    let j = inv_made n (b ∷ bs) l f.0 (check_bi_by_time minimum l) f.1 i (check_outcome minimum l) in
    let c = chain_took (init m.kept) x.stroke m.left (subst (λ z. Chain z m.left) (last_snoc m.kept x.stroke x.last') j.chain) in
    begins-some x.stroke.end m.left c.1.ends x.nothing

merged_safe : (minimum : ℕ) (t : Bool) (s : State) (b : Bar) → T t → Inv b.time s.strokes (merge_in s.unfinished b) → MayLose minimum (merged_with t s b) s.strokes → ⊥
unfolding merged_with merge_all
merged_safe minimum true s b h i x = chain_safe b.time minimum (merge_in s.unfinished b) s.strokes i x
merged_safe minimum false s b h i x = h

later_safe : (ok : State → Bar → Bool) (minimum most : ℕ) (previous : Option Bar) (s : State) (bs : List Bar) → Fine s → last s.raw ≡ previous → AllLater ok minimum most previous s bs → NoneLost ok minimum most s bs
unfolding feed
later_safe ok minimum most previous s [] f e h = tt
later_safe ok minimum most previous s (b ∷ bs) f e h =
    let r = feed_fine minimum most (ok s b) previous s b f e h.0 in (
      (λ k x.
          let q = subst (λ o. T (is_later o b)) (sym e) (h.0 k) in
          merged_safe minimum (is_later (last s.raw) b) s b q (merged_inv (last s.raw) s.strokes s.unfinished b f q) x),
      later_safe ok minimum most (cond (ok s b) (some b) previous) (feed_if minimum most (ok s b) s b).state bs r.0 r.1 h.1,
    )

pub asks_later : (ok : State → Bar → Bool) → Asks ok → NotEarlier ok
asks_later ok h s b k = (h s b k).1

-- every list of feed calls in which no tail is lost
pub newest_unless_lost : (ok : State → Bar → Bool) → Asks ok → (minimum most : ℕ) (bs : List Bar) → NoneLost ok minimum most start.state bs → T (newest_last (run ok minimum most start bs).state)
newest_unless_lost ok h minimum most bs safe = reached_newest ok (asks_later ok h) minimum most bs safe

-- every list of feed calls whose accepted bars are each later than the one before
pub newest-later : (ok : State → Bar → Bool) → Asks ok → (minimum most : ℕ) (bs : List Bar) → AllLater ok minimum most none start.state bs → T (newest_last (run ok minimum most start bs).state)
newest-later ok h minimum most bs a = newest_unless_lost ok h minimum most bs (later_safe ok minimum most none start.state bs start_fine start_none a)
