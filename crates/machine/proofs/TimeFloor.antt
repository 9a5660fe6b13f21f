-- No bar is earlier than the oldest stroke's first merged bar, nor than the first merged bars by which raw bars were dropped before.
-- Assumes nothing.
use Prim.Native.Nat.{◌≤◌}
use native.Mathlib.Omega.{arith}
use mathlib.Core.Path.{sym, subst}
use mathlib.Core.Bool.{Bool, true, false, not}
use mathlib.Core.List.{List, [], ◌∷◌, ◌++◌}
use mathlib.Core.Logic.{◌⊎◌, inl, inr}
use lib.ListN.{length}
use lib.IntN.{ℤ}
use lib.Signed.{lt_z, le_z}
use lib.Dec.{T}
use Rattle.bars.specs.Lists.{All, skip_while, fold_left, init}
use Rattle.bars.specs.declared.Bar.{Bar}
use Rattle.bars.specs.Bars.{Merged, own}
use Rattle.machine.specs.Fractals.{Fractal, check_fxs}
use Rattle.machine.specs.Strokes.{Stroke, Found}
use Rattle.machine.specs.ByTime.{from, stroke_of, cut_at}
use Rattle.machine.proofs.MachineByTime.{joined}
use Rattle.bars.specs.Merging.{united, merge_in}
use Rattle.machine.specs.Feed.{shed_if}
use Rattle.arith.proofs.FloatOrder.{decide}
use Rattle.machine.proofs.Lists.{All-map, All-append, All-left, All-right}
use Rattle.machine.proofs.Places.{from_skip, from_stop}
use Rattle.machine.proofs.FractalWindows.{window_left}
use Rattle.machine.proofs.MadeStroke.{MadeFrom}
use Rattle.machine.proofs.MergingKeepsOrder.{Before, Ordered, ordered_rising, ordered_from, All-from, merge_all_lem, united-stamps, pick}
use Rattle.machine.proofs.ChainKept.{cut_all}
use Rattle.machine.proofs.StrokesBefore.{Two, Inv, two-merged}
use Rattle.machine.proofs.EventsKeep.{Keeps, stroke_made, rest_made, joined-all, All-shed}
use Rattle.machine.proofs.StrokeBuilt.{Built, built_keeps}
use Rattle.machine.proofs.StrokesBeforeKept as steps
use Rattle.bars.proofs.Times as times

abbrev time : Merged → ℤ
time k = k.bar.time

-- no bar is earlier than u
abbrev pub AtLeast : ℤ → List Merged → Type 0
AtLeast u l = All (λ k. T (le_z u (time k))) l

-- no element
abbrev pub Elements : ℤ → Merged → Type 0
Elements u k = All (λ t. T (le_z u t)) k.elements

-- where there is one bar alone, no element of it is earlier
abbrev pub Single : ℤ → List Merged → Type 0
Single u [] = Unit {0}
Single u (x ∷ []) = Elements u x
Single u (x ∷ y ∷ l) = Unit {0}

pub two_single : (u : ℤ) (l : List Merged) → Two l → Single u l
two_single u [] t = absurd t
two_single u (x ∷ []) t = absurd t
two_single u (x ∷ y ∷ l) t = tt

-- the times that y names are after those that x names
pub before-elements : (u : ℤ) (x y : Merged) → T (le_z u (time x)) → Before x y → Elements u y
before-elements u x y h b = All-map y.elements (λ t s. times.le_trans u (time x) t h (times.lt-le (time x) t s.0)) b.1

rising-least : (u : ℤ) (x : Merged) (l : List Merged) → T (le_z u (time x)) → Ordered (x ∷ l) → AtLeast u (x ∷ l)
rising-least u x l h o = (h, All-map l (λ k s. times.le_trans u (time x) (time k) h (times.lt-le (time x) (time k) s)) (ordered_rising (x ∷ l) o).0)

-- ---- from a time on

single_next : (u : ℤ) (x y : Merged) (l : List Merged) → T (le_z u (time x)) → Before x y → Single u (y ∷ l)
single_next u x y [] h b = before-elements u x y h b
single_next u x y (z ∷ l) h b = tt

single_from_if : (u t : ℤ) (x y : Merged) (l : List Merged) → T (lt_z (time x) t) ⊎ T (not (lt_z (time x) t)) → Single u (from t (y ∷ l)) → Single u (from t (x ∷ y ∷ l))
single_from_if u t x y l (inl h) r = subst (Single u) (sym (from_skip t x (y ∷ l) h)) r
single_from_if u t x y l (inr h) r = subst (Single u) (sym (from_stop t x (y ∷ l) (times.not-lt-le (time x) t h))) tt

single_one : (u t : ℤ) (x : Merged) → T (lt_z (time x) t) ⊎ T (not (lt_z (time x) t)) → Elements u x → Single u (from t (x ∷ []))
unfolding from skip_while
single_one u t x (inl h) e = subst (Single u) (sym (from_skip t x [] h)) tt
single_one u t x (inr h) e = subst (Single u) (sym (from_stop t x [] (times.not-lt-le (time x) t h))) e

single_from : (u t : ℤ) (l : List Merged) → Ordered l → AtLeast u l → Single u l → Single u (from t l)
unfolding from skip_while
single_from u t [] o a s = tt
single_from u t (x ∷ []) o a s = single_one u t x (decide (lt_z (time x) t)) s
single_from u t (x ∷ y ∷ l) o a s = single_from_if u t x y l (decide (lt_z (time x) t)) (single_from u t (y ∷ l) o.2 a.1 (single_next u x y l a.0 o.1.0))

single_cut : (u : ℤ) (l : List Merged) (fs : List Fractal) → Ordered l → AtLeast u l → Single u l → Single u (cut_at l fs)
unfolding cut_at
single_cut u l [] o a s = s
single_cut u l (f ∷ fs) o a s = single_from u _ l o a s

-- ---- a stroke's bars

stroke-least : (u : ℤ) (b : Stroke) → Built b → T (le_z u (time b.start.left)) → AtLeast u b.bars
stroke-least u b w h = subst (AtLeast u) (sym w.first) (rising-least u b.start.left w.rest h (subst Ordered w.first w.ordered))

back-two : (l q : List Merged) → 4 ≤ length l → Two (init (init l) ++ q)
unfolding init
back-two [] q h = absurd (omega arith)
back-two (a ∷ []) q h = absurd (omega arith)
back-two (a ∷ b ∷ []) q h = absurd (omega arith)
back-two (a ∷ b ∷ c ∷ []) q h = absurd (omega arith)
back-two (a ∷ b ∷ c ∷ d ∷ l) q h = tt

pub joined-two : (b : Stroke) (l : List Merged) → Built b → Two (joined b l)
unfolding joined
joined-two b l w = back-two b.bars (from b.end.mid.bar.time l) w.four

-- ---- u is a floor: no bar and no stroke begins earlier

abbrev pub Starts : ℤ → Stroke → Type 0
Starts u b = T (le_z u (time b.start.left))

pub record Floor (u : ℤ) (l : List Merged) (bs : List Stroke) : Type 0 where
  pub bars : AtLeast u l
  pub strokes : All (Starts u) bs
  pub single : Single u l

made-starts : (u : ℤ) (l : List Merged) (f : Found) (m : MadeFrom l f) → Ordered l → AtLeast u l → Starts u (stroke_made l f m)
unfolding stroke_of
made-starts u l f m o a = window_left (λ k. T (le_z u (time k))) m.start l a (steps.F l o m.start m.end m.others m.all m.first).windows.0

pub floor_keeps : (n u : ℤ) → Keeps (λ l bs. (Inv n bs l × All Built bs) × Floor u l bs)
floor_keeps n u =
    record {
      cuts = λ l r. (
        (built_keeps n).cuts l r.0,
        record { bars = cut_all (λ k. T (le_z u (time k))) l (check_fxs l) r.1.bars; strokes = tt; single = single_cut u l (check_fxs l) r.0.0.ordered r.1.bars r.1.single },
      );
      makes = λ l bs f m r. (
        (built_keeps n).makes l bs f m r.0,
        record {
          bars = All-from (λ k. T (le_z u (time k))) m.end.left.bar.time l r.1.bars;
          strokes = All-append (Starts u) bs (stroke_made l f m ∷ []) r.1.strokes (made-starts u l f m r.0.0.ordered r.1.bars, tt);
          single = single_from u m.end.left.bar.time l r.0.0.ordered r.1.bars r.1.single;
        },
      );
      takes = λ l bs s r.
          let w = (All-right Built bs (s ∷ []) r.0.1).0 in
          let h = (All-right (Starts u) bs (s ∷ []) r.1.strokes).0 in (
            (built_keeps n).takes l bs s r.0,
            record {
              bars = joined-all (λ k. T (le_z u (time k))) s l (stroke-least u s w h) r.1.bars;
              strokes = All-left (Starts u) bs (s ∷ []) r.1.strokes;
              single = two_single u (joined s l) (joined-two s l w);
            },
          );
    }

-- ---- each stroke's first bar is a floor for what follows it

abbrev pub Floors : List Merged → List Stroke → Type 0
Floors l [] = Unit {0}
Floors l (b ∷ bs) = AtLeast (time b.start.left) l × All (Starts (time b.start.left)) bs × Floors l bs

floors_put : (bs : List Stroke) (s : Stroke) (l m : List Merged) → Floors l bs → ((t : ℤ) → AtLeast t l → AtLeast t m × Starts t s) → AtLeast (time s.start.left) m → Floors m (bs ++ s ∷ [])
floors_put [] s l m d f a = (a, tt, tt)
floors_put (b ∷ bs) s l m d f a =
    let r = f (time b.start.left) d.0 in
    (r.0, All-append (Starts (time b.start.left)) bs (s ∷ []) d.1 (r.1, tt), floors_put bs s l m d.2 f a)

floors_took : (bs : List Stroke) (s : Stroke) (l m : List Merged) → Floors l (bs ++ s ∷ []) → ((t : ℤ) → AtLeast t l → Starts t s → AtLeast t m) → Floors m bs
floors_took [] s l m d f = tt
floors_took (b ∷ bs) s l m d f =
    (f (time b.start.left) d.0 (All-right (Starts (time b.start.left)) bs (s ∷ []) d.1).0, All-left (Starts (time b.start.left)) bs (s ∷ []) d.1, floors_took bs s l m d.2 f)

pub floors_change : (bs : List Stroke) (l m : List Merged) (n : ℤ) → All (λ b. T (le_z (time b.start.left) n)) bs → ((t : ℤ) → T (le_z t n) → AtLeast t l → AtLeast t m) → Floors l bs → Floors m bs
floors_change [] l m n e f d = tt
floors_change (b ∷ bs) l m n e f d = (f (time b.start.left) e.0 d.0, d.1, floors_change bs l m n e.1 f d.2)

made-least : (l : List Merged) (f : Found) (m : MadeFrom l f) → Ordered l → AtLeast (time m.start.left) (rest_made l f m)
made-least l f m o =
    let e = steps.rest-is l o m.start m.end m.others m.all m.first in
    subst (AtLeast (time m.start.left)) (sym e)
    (rising-least (time m.start.left) m.end.left (m.end.mid ∷ m.end.right ∷ (steps.c0 l o m.start m.end m.others m.all m.first).after) (steps.order l o m.start m.end m.others m.all m.first) (subst Ordered e (ordered_from m.end.left.bar.time l o)))

pub floors_keeps : (n : ℤ) → Keeps (λ l bs. (Inv n bs l × All Built bs) × Floors l bs)
unfolding stroke_of
floors_keeps n =
    record {
      cuts = λ l r. ((built_keeps n).cuts l r.0, tt);
      makes = λ l bs f m r. (
        (built_keeps n).makes l bs f m r.0,
        floors_put bs (stroke_made l f m) l (rest_made l f m) r.1
            (λ t a. (All-from (λ k. T (le_z t (time k))) m.end.left.bar.time l a, made-starts t l f m r.0.0.ordered a)) (made-least l f m r.0.0.ordered),
      );
      takes = λ l bs s r. (
        (built_keeps n).takes l bs s r.0,
        floors_took bs s l (joined s l) r.1 (λ t a h. joined-all (λ k. T (le_z t (time k))) s l (stroke-least t s (All-right Built bs (s ∷ []) r.0.1).0 h) a),
      );
    }

pub floors_shed : (t : Bool) (l : List Merged) (bs : List Stroke) → Floors l bs → Floors l (shed_if t bs)
unfolding shed_if
floors_shed true l [] d = tt
floors_shed true l (b ∷ bs) d = d.2
floors_shed false l bs d = d

pub floor_shed : (t : Bool) (u : ℤ) (l : List Merged) (bs : List Stroke) → Floor u l bs → Floor u l (shed_if t bs)
floor_shed t u l bs f = record { bars = f.bars; strokes = All-shed (Starts u) t bs f.strokes; single = f.single }

-- ---- a bar is merged in

pub least-merged : (u : ℤ) (l : List Merged) (b : Bar) → T (le_z u b.time) → AtLeast u l → AtLeast u (merge_in l b)
unfolding own united
least-merged u l b h a = merge_all_lem (λ k. T (le_z u (time k))) l b a h (λ k p c x y. pick (λ v. T (le_z u v)) c (time k) b.time p h)

pub least_fold : (u : ℤ) (l : List Merged) (ys : List Bar) → All (λ y. T (le_z u y.time)) ys → AtLeast u l → AtLeast u (fold_left merge_in l ys)
unfolding fold_left
least_fold u l [] h a = a
least_fold u l (y ∷ ys) h a = least_fold u (merge_in l y) ys h.1 (least-merged u l y h.0 a)

-- what holds of all elements, and of those that are merged in, holds of all elements afterwards
pub elements-merged : (Q : ℤ → Type 0) (l : List Merged) (b : Bar) → Q b.time → All (λ k. All Q k.elements) l → All (λ k. All Q k.elements) (merge_in l b)
unfolding own united
elements-merged Q l b q a = merge_all_lem (λ k. All Q k.elements) l b a (q, tt) (λ k p c x y. (united-stamps Q k b b.time x y q p q).1)

pub elements_fold : (Q : ℤ → Type 0) (l : List Merged) (ys : List Bar) → All (λ y. Q y.time) ys → All (λ k. All Q k.elements) l → All (λ k. All Q k.elements) (fold_left merge_in l ys)
unfolding fold_left
elements_fold Q l [] h a = a
elements_fold Q l (y ∷ ys) h a = elements_fold Q (merge_in l y) ys h.1 (elements-merged Q l y h.0 a)

abbrev Some : List Merged → Type 0
Some [] = ⊥
Some (x ∷ l) = Unit {0}

two-some : (l : List Merged) → Two l → Some l
two-some [] t = absurd t
two-some (x ∷ l) t = tt

some-merged : (l : List Merged) (b : Bar) → Some l → Two (merge_in l b)
some-merged [] b s = absurd s
some-merged (h ∷ r) b s = two-merged h r b

fold_some-two : (l : List Merged) (ys : List Bar) (b : Bar) → Some l → Two (fold_left merge_in l (ys ++ b ∷ []))
unfolding fold_left
fold_some-two l [] b s = some-merged l b s
fold_some-two l (y ∷ ys) b s = fold_some-two (merge_in l y) ys b (two-some (merge_in l y) (some-merged l y s))

all_single : (u : ℤ) (l : List Merged) → All (Elements u) l → Single u l
all_single u [] a = tt
all_single u (x ∷ []) a = a.0
all_single u (x ∷ y ∷ l) a = tt

pub single_merged : (u : ℤ) (l : List Merged) (b : Bar) → T (le_z u b.time) → Single u (merge_in l b)
unfolding merge_in own
single_merged u [] b h = (h, tt)
single_merged u (x ∷ l) b h = two_single u (merge_in (x ∷ l) b) (two-merged x l b)

pub single_fold : (u : ℤ) (l : List Merged) (ys : List Bar) (b : Bar) → All (λ y. T (le_z u y.time)) (ys ++ b ∷ []) → Single u (fold_left merge_in l (ys ++ b ∷ []))
single_fold u [] ys b h = all_single u (fold_left merge_in [] (ys ++ b ∷ [])) (elements_fold (λ t. T (le_z u t)) [] (ys ++ b ∷ []) h tt)
single_fold u (x ∷ l) ys b h = two_single u (fold_left merge_in (x ∷ l) (ys ++ b ∷ [])) (fold_some-two (x ∷ l) ys b tt)

-- the elements of the last bar are not earlier than a floor
pub last-elements : (u : ℤ) (p : List Merged) (k : Merged) → Ordered (p ++ k ∷ []) → AtLeast u (p ++ k ∷ []) → Single u (p ++ k ∷ []) → Elements u k
last-elements u [] k o a s = s
last-elements u (x ∷ p) k o a s = before-elements u x k a.0 (All-right (Before x) p (k ∷ []) o.1).0
