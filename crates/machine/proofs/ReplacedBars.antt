-- A bar with the last time: the last unfinished bar's elements go through merging again. All is in order afterwards, and every stroke that is ever made is good.
-- Assumes nothing.
use Prim.Native.Nat.{ℕ}
use mathlib.Core.Path.{◌≡◌, refl, ap, sym, ◌∙◌, subst}
use mathlib.Core.Bool.{Bool, true, false, not, ◌&&◌, cond}
use mathlib.Core.List.{List, [], ◌∷◌, ◌++◌}
use mathlib.Core.Option.{Option, none, some}
use lib.ListN.{length}
use lib.IntN.{ℤ}
use lib.Signed.{lt_z, le_z}
use lib.Dec.{T, ltb}
use lib.Ieee.Fits.{and_l, and_r}
use Rattle.bars.specs.Lists.{All, keep_if, skip_while, fold_left, init, last}
use Rattle.bars.specs.declared.Bar.{Bar}
use Rattle.bars.specs.Bars.{Merged, own}
use Rattle.machine.specs.Strokes.{Stroke}
use Rattle.machine.specs.Stand.{State, fresh}
use Rattle.machine.specs.Feed.{Step, Moved, shed_if, raw_with, merged_with, is_later}
use Rattle.bars.specs.Merging.{merge_all, merge_in, at_times, again}
use Rattle.machine.proofs.MachineByTime.{move, drop_early, finish, step_with, step, feed_if, feed, plus, run, start, NotEarlier}
use Rattle.machine.proofs.Facts.{Good}
use Rattle.bars.specs.Questions.{question9}
use Rattle.machine.proofs.Lists.{All-map, All-append, All-left, All-right, All_keep, All-init}
use Rattle.machine.proofs.MergingKeepsOrder.{stamps, Upto, RisingT, Ordered, Below, ordered_left, merge_ordered, upto_merged, merge_all_lem, united-stamps, pick}
use Rattle.machine.proofs.StrokesChain.{last_snoc}
use Rattle.machine.proofs.StrokesMeet.{last-append, last_skip}
use Rattle.machine.proofs.StrokesBefore.{AfterAll, Follows, ordered_follows, back, Side, Two, Sides, Inv, side_merged, two-merged, inv_merged}
use Rattle.machine.proofs.StrokesBeforeKept.{move_inv, shed_inv}
use Rattle.bars.proofs.Times as times

-- ---- raw bars in order

abbrev pub RisingBars : List Bar → Type 0
RisingBars [] = Unit {0}
RisingBars (x ∷ l) = All (λ y. T (lt_z x.time y.time)) l × RisingBars l

pub bars-append : (p q : List Bar) → RisingBars p → RisingBars q → All (λ y. All (λ x. T (lt_z x.time y.time)) p) q → RisingBars (p ++ q)
bars-append [] q a b h = b
bars-append (x ∷ p) q a b h =
    (All-append (λ y. T (lt_z x.time y.time)) p q a.0 (All-map q (λ y k. k.0) h), bars-append p q a.1 b (All-map q (λ y k. k.1) h))

pub bars-left : (p q : List Bar) → RisingBars (p ++ q) → RisingBars p
bars-left [] q a = tt
bars-left (x ∷ p) q a = (All-left (λ y. T (lt_z x.time y.time)) p q a.0, bars-left p q a.1)

pub bars-last : (p : List Bar) (r : Bar) → RisingBars (p ++ r ∷ []) → All (λ x. T (lt_z x.time r.time)) p
bars-last [] r a = tt
bars-last (x ∷ p) r a = ((All-right (λ y. T (lt_z x.time y.time)) p (r ∷ []) a.0).0, bars-last p r a.1)

bars_keep_if : (t : Bool) (x : Bar) (l : List Bar) → All (λ y. T (lt_z x.time y.time)) l → RisingBars l → RisingBars (cond t (x ∷ l) l)
bars_keep_if true x l h a = (h, a)
bars_keep_if false x l h a = a

bars_keep : (p : Bar → Bool) (l : List Bar) → RisingBars l → RisingBars (keep_if p l)
unfolding keep_if
bars_keep p [] a = tt
bars_keep p (x ∷ l) a = bars_keep_if (p x) x (keep_if p l) (All_keep (λ y. T (lt_z x.time y.time)) p l a.0) (bars_keep p l a.1)

bars_skip_if : (t : Bool) (k l : List Bar) → RisingBars k → RisingBars l → RisingBars (cond t k l)
bars_skip_if true k l a b = a
bars_skip_if false k l a b = b

pub bars_skip : (p : Bar → Bool) (l : List Bar) → RisingBars l → RisingBars (skip_while p l)
unfolding skip_while
bars_skip p [] a = tt
bars_skip p (x ∷ l) a = bars_skip_if (p x) (skip_while p l) (x ∷ l) (bars_skip p l a.1) a

-- ---- the raw bars of some times

keep_pass_if : (c : Bool) (t : ℤ) (x : Bar) (l : List Bar) → (T c → x.time ≡ t) → All (λ y. y.time ≡ t) l → All (λ y. y.time ≡ t) (cond c (x ∷ l) l)
keep_pass_if true t x l h a = (h tt, a)
keep_pass_if false t x l h a = a

pub at-time : (t : ℤ) (raw : List Bar) → All (λ y. y.time ≡ t) (keep_if (λ b. le_z b.time t && le_z t b.time) raw)
unfolding keep_if
at-time t [] = tt
at-time t (x ∷ raw) =
    keep_pass_if (le_z x.time t && le_z t x.time) t x (keep_if (λ b. le_z b.time t && le_z t b.time) raw)
    (λ h. times.le_antisym x.time t (and_l (le_z x.time t) (le_z t x.time) h) (and_r (le_z x.time t) (le_z t x.time) h)) (at-time t raw)

-- what holds of the times holds of the bars' times
pub at_all : (Q : ℤ → Type 0) (raw : List Bar) (ts : List ℤ) → All Q ts → All (λ y. Q y.time) (at_times raw ts)
unfolding at_times
at_all Q raw [] a = tt
at_all Q raw (t ∷ ts) a =
    All-append (λ y. Q y.time) (keep_if (λ b. le_z b.time t && le_z t b.time) raw) (at_times raw ts)
    (All-map (keep_if (λ b. le_z b.time t && le_z t b.time) raw) (λ y e. subst Q (sym e) a.0) (at-time t raw)) (at_all Q raw ts a.1)

at-rising : (raw : List Bar) (ts : List ℤ) → RisingBars raw → RisingT ts → RisingBars (at_times raw ts)
unfolding at_times
at-rising raw [] a r = tt
at-rising raw (t ∷ ts) a r =
    bars-append (keep_if (λ b. le_z b.time t && le_z t b.time) raw) (at_times raw ts) (bars_keep (λ b. le_z b.time t && le_z t b.time) raw a) (at-rising raw ts a r.1)
    (at_all (λ v. All (λ x. T (lt_z x.time v)) (keep_if (λ b. le_z b.time t && le_z t b.time) raw)) raw ts
    (All-map ts (λ v h. All-map (keep_if (λ b. le_z b.time t && le_z t b.time) raw) (λ x e. subst (λ z. T (lt_z z v)) (sym e) h) (at-time t raw)) r.0))

rising-init : (l : List ℤ) → RisingT l → RisingT (init l)
unfolding init
rising-init [] r = tt
rising-init (t ∷ []) r = tt
rising-init (t ∷ u ∷ l) r = (All-init (λ v. T (lt_z t v)) (u ∷ l) r.0, rising-init (u ∷ l) r.1)

-- of times that rise and are at most n, all but the last are before n
init-before : (n : ℤ) (l : List ℤ) → RisingT l → All (λ v. T (le_z v n)) l → All (λ v. T (lt_z v n)) (init l)
unfolding init
init-before n [] r a = tt
init-before n (t ∷ []) r a = tt
init-before n (t ∷ u ∷ l) r a = (times.lt-le_trans t u n r.0.0 a.1.0, init-before n (u ∷ l) r.1 a.1)

-- ---- several bars merged in

fold_ordered : (l : List Merged) (ys : List Bar) → Ordered l → RisingBars ys → All (λ y. Below l y.time) ys → Ordered (fold_left merge_in l ys)
unfolding fold_left
fold_ordered l [] o r a = o
fold_ordered l (y ∷ ys) o r a =
    fold_ordered (merge_in l y) ys (merge_ordered l y o a.0) r.1
    (All-map ys (λ z h. All-map (merge_in l y) (λ k u. All-map (stamps k) (λ v q. times.le_lt_trans v y.time z.time q h) u) (upto_merged l y a.0)) r.0)

upto_one : (n : ℤ) (l : List Merged) (b : Bar) → T (le_z b.time n) → All (Upto n) l → All (Upto n) (merge_in l b)
unfolding own
upto_one n l b e a =
    merge_all_lem (Upto n) l b a (e, (e, tt))
    (λ k p c h lo. united-stamps (λ v. T (le_z v n)) k b (cond c k.bar.time b.time) h lo (pick (λ v. T (le_z v n)) c k.bar.time b.time p.0 e) p.1 e)

fold_upto : (n : ℤ) (l : List Merged) (ys : List Bar) → All (λ y. T (le_z y.time n)) ys → All (Upto n) l → All (Upto n) (fold_left merge_in l ys)
unfolding fold_left
fold_upto n l [] h a = a
fold_upto n l (y ∷ ys) h a = fold_upto n (merge_in l y) ys h.1 (upto_one n l y h.0 a)

fold_side : (s : Stroke) (l : List Merged) (ys : List Bar) → Side s l → All (λ y. AfterAll (back s) y.time) ys → Side s (fold_left merge_in l ys)
unfolding fold_left
fold_side s l [] d a = d
fold_side s l (y ∷ ys) d a = fold_side s (merge_in l y) ys (side_merged s l y a.0 d) a.1

fold_two : (s : Stroke) (l : List Merged) (ys : List Bar) (b : Bar) → Side s l → All (λ y. AfterAll (back s) y.time) ys → Two (fold_left merge_in l (ys ++ b ∷ []))
unfolding fold_left
fold_two s [] [] b d a = absurd d
fold_two s (h ∷ r) [] b d a = two-merged h r b
fold_two s l (y ∷ ys) b d a = fold_two s (merge_in l y) ys b (side_merged s l y a.0 d) a.1

sides_change : (bs : List Stroke) (l m : List Merged) → Sides bs l → ((s : Stroke) → Side s l → Two l → Side s m × Two m) → Sides bs m
sides_change [] l m d f = tt
sides_change (b ∷ []) l m d f = let r = f b d.1 d.2 in (d.0, r.0, r.1)
sides_change (b ∷ b' ∷ bs) l m d f = (d.0, d.1, sides_change (b' ∷ bs) l m d.2 f)

-- a bar after another comes last
side_snoc : (s : Stroke) (p : List Merged) (k : Merged) → Side s (p ++ k ∷ []) → Two (p ++ k ∷ []) → Side s p × Follows (back s) k
side_snoc s [] k d t = absurd t
side_snoc s (h ∷ r) k d t = ((d.0, All-left (Follows (back s)) r (k ∷ []) d.1), (All-right (Follows (back s)) r (k ∷ []) d.1).0)

-- the bars p and the last bar k, whose elements go through merging again with b, which has the newest time
module _ (p : List Merged) (k : Merged) (raw : List Bar) (b : Bar) (o : Ordered (p ++ k ∷ [])) (u : All (Upto b.time) (p ++ k ∷ [])) (rise : RisingBars raw) where
  abbrev ys : List Bar
  ys = at_times raw (init k.elements)

  elements-rise : RisingT k.elements
  elements-rise = last-rise p o
    where
      last-rise : (q : List Merged) → Ordered (q ++ k ∷ []) → RisingT k.elements
      last-rise [] o = o.0
      last-rise (x ∷ q) o = last-rise q o.2

  k_upto : Upto b.time k
  k_upto = (All-right (Upto b.time) p (k ∷ []) u).0

  -- what holds of every time that k names, and goes on to later times, holds of the bars' times
  times-all : (Q : ℤ → Type 0) → All Q (stamps k) → ((v w : ℤ) → T (le_z v w) → Q v → Q w) → All (λ y. Q y.time) (ys ++ b ∷ [])
  times-all Q a up =
      All-append (λ y. Q y.time) ys (b ∷ []) (at_all Q raw (init k.elements) (All-init Q k.elements a.1)) (up k.bar.time b.time k_upto.0 a.0, tt)

  ys_rise : RisingBars (ys ++ b ∷ [])
  ys_rise =
      bars-append ys (b ∷ []) (at-rising raw (init k.elements) rise (rising-init k.elements elements-rise)) (tt, tt)
      (at_all (λ v. T (lt_z v b.time)) raw (init k.elements) (init-before b.time k.elements elements-rise k_upto.1), tt)

  after-up : (q : List Merged) (v w : ℤ) → T (le_z v w) → AfterAll q v → AfterAll q w
  after-up q v w h a = All-map q (λ x f. All-map (stamps x) (λ t g. times.lt-le_trans t v w g h) f) a

  again_ordered : Ordered (fold_left merge_in p (ys ++ b ∷ []))
  again_ordered = fold_ordered p (ys ++ b ∷ []) (ordered_left p (k ∷ []) o) ys_rise (times-all (AfterAll p) (ordered_follows p (k ∷ []) o).0 (after-up p))

  again_upto : All (Upto b.time) (fold_left merge_in p (ys ++ b ∷ []))
  again_upto =
      fold_upto b.time p (ys ++ b ∷ [])
      (All-append (λ y. T (le_z y.time b.time)) ys (b ∷ []) (at_all (λ v. T (le_z v b.time)) raw (init k.elements) (All-init (λ v. T (le_z v b.time)) k.elements k_upto.1)) (times.le_refl b.time, tt))
      (All-left (Upto b.time) p (k ∷ []) u)

  again_side : (s : Stroke) → Side s (p ++ k ∷ []) → Two (p ++ k ∷ []) → Side s (fold_left merge_in p (ys ++ b ∷ [])) × Two (fold_left merge_in p (ys ++ b ∷ []))
  again_side s d t =
      let r = side_snoc s p k d t in
      let a = times-all (AfterAll (back s)) r.1 (after-up (back s)) in
      (fold_side s p (ys ++ b ∷ []) r.0 a, fold_two s p ys b r.0 (All-left (λ y. AfterAll (back s) y.time) ys (b ∷ []) a))

  again_inv : (bs : List Stroke) → Inv b.time bs (p ++ k ∷ []) → Inv b.time bs (fold_left merge_in p (ys ++ b ∷ []))
  again_inv bs i = record { ordered = again_ordered; upto = again_upto; early = i.early; sides = sides_change bs (p ++ k ∷ []) (fold_left merge_in p (ys ++ b ∷ [])) i.sides again_side }

pub last_some : (x : Merged) (r : List Merged) → (k : Merged) × (last (x ∷ r) ≡ some k)
unfolding last
last_some x [] = (x, refl)
last_some x (y ∷ r) = last_some y r

same_inv : (bs : List Stroke) (l : List Merged) (raw : List Bar) (b : Bar) → Inv b.time bs l → RisingBars raw → Inv b.time bs (fold_left merge_in (init l) (again raw (last l) b))
unfolding again last init fold_left
same_inv bs [] raw b i rise =
    record {
      ordered = merge_ordered [] b tt tt;
      upto = upto_one b.time [] b (times.le_refl b.time) tt;
      early = i.early;
      sides = sides_change bs [] (merge_in [] b) i.sides (λ s d t. absurd t);
    }
same_inv bs (x ∷ r) raw b i rise =
    let k = last_some x r in
    let e = last_snoc (x ∷ r) k.0 k.1 in
    let j = subst (Inv b.time bs) e i in
    subst (λ z. Inv b.time bs (fold_left merge_in (init (x ∷ r)) (again raw z b))) (sym k.1)
    (again_inv (init (x ∷ r)) k.0 raw b j.ordered j.upto rise bs j)

-- ---- every list of calls

abbrev pub Stands : Option Bar → List Bar → List Stroke → List Merged → Type 0
Stands none raw bs l = (bs ≡ []) × (l ≡ []) × (raw ≡ [])
Stands (some r) raw bs l = Inv r.time bs l × RisingBars raw

abbrev pub Fine : State → Type 0
Fine s = Stands (last s.raw) s.raw s.strokes s.unfinished

-- what a feed leaves before the strokes are looked at
pub record Fed (b : Bar) (bs : List Stroke) (l : List Merged) (raw : List Bar) : Type 0 where
  pub inv : Inv b.time bs l
  pub old : List Bar
  pub is : raw ≡ old ++ b ∷ []
  pub rise : RisingBars raw

-- all raw bars are at most the newest
pub raw-before : (raw : List Bar) (r b : Bar) → last raw ≡ some r → RisingBars raw → T (lt_z r.time b.time) → All (λ x. T (lt_z x.time b.time)) raw
raw-before raw r b e a h =
    let q = last_snoc raw r e in
    subst (All (λ x. T (lt_z x.time b.time))) (sym q)
    (All-append (λ x. T (lt_z x.time b.time)) (init raw) (r ∷ []) (All-map (init raw) (λ x k. times.lt_trans x.time r.time b.time k h) (bars-last (init raw) r (subst RisingBars q a))) (h, tt))

fed-later : (o : Option Bar) (s : State) (b : Bar) → last s.raw ≡ o → Stands o s.raw s.strokes s.unfinished → T (is_later o b) → Fed b s.strokes (merge_in s.unfinished b) (s.raw ++ b ∷ [])
unfolding is_later
fed-later none s b e f h =
    record {
      inv = subst (λ z. Inv b.time z (merge_in s.unfinished b)) (sym f.0) (subst (λ z. Inv b.time [] (merge_in z b)) (sym f.1)
          (record { ordered = merge_ordered [] b tt tt; upto = upto_one b.time [] b (times.le_refl b.time) tt; early = tt; sides = tt }));
      old = s.raw;
      is = refl;
      rise = subst (λ z. RisingBars (z ++ b ∷ [])) (sym f.2) (tt, tt);
    }
fed-later (some r) s b e f h =
    record {
      inv = inv_merged r.time s.strokes s.unfinished b f.0 (All-map s.unfinished (λ k u. All-map (stamps k) (λ v w. times.le_lt_trans v r.time b.time w h) u) f.0.upto) (times.lt-le r.time b.time h);
      old = s.raw;
      is = refl;
      rise = bars-append s.raw (b ∷ []) f.1 (tt, tt) (raw-before s.raw r b e f.1 h, tt);
    }

fed-same : (o : Option Bar) (s : State) (b : Bar) → last s.raw ≡ o → Stands o s.raw s.strokes s.unfinished → T (not (is_later o b)) → T (question9 o b)
    → Fed b s.strokes (fold_left merge_in (init s.unfinished) (again s.raw (last s.unfinished) b)) (init s.raw ++ b ∷ [])
unfolding is_later question9
fed-same none s b e f h k = absurd h
fed-same (some r) s b e f h k =
    let t : r.time ≡ b.time = times.le_antisym r.time b.time k (times.not-lt-le r.time b.time h) in
    let a = subst RisingBars (last_snoc s.raw r e) f.1 in
    record {
      inv = same_inv s.strokes s.unfinished s.raw b (subst (λ z. Inv z s.strokes s.unfinished) t f.0) f.1;
      old = init s.raw;
      is = refl;
      rise = bars-append (init s.raw) (b ∷ []) (bars-left (init s.raw) (r ∷ []) a) (tt, tt) (subst (λ z. All (λ x. T (lt_z x.time z)) (init s.raw)) t (bars-last (init s.raw) r a), tt);
    }

pub fed : (t : Bool) (s : State) (b : Bar) → Fine s → (T t → T (is_later (last s.raw) b)) → (T (not t) → T (not (is_later (last s.raw) b))) → T (question9 (last s.raw) b)
    → Fed b s.strokes (merged_with t s b) (raw_with t s b)
unfolding merged_with merge_all raw_with
fed true s b f h k e = fed-later (last s.raw) s b refl f (h tt)
fed false s b f h k e = fed-same (last s.raw) s b refl f (k tt) e

-- dropping raw bars leaves the newest
pub last-raw : (bs : List Stroke) (old : List Bar) (b : Bar) → All (λ s. T (le_z s.start.left.bar.time b.time)) bs → last (drop_early bs (old ++ b ∷ [])) ≡ some b
unfolding drop_early
last-raw [] old b a = last-append old b
last-raw (x ∷ bs) old b a = last_skip (λ r. lt_z r.time x.start.left.bar.time) old b (times.le_not_lt b.time x.start.left.bar.time a.0)

drop-rising : (bs : List Stroke) (raw : List Bar) → RisingBars raw → RisingBars (drop_early bs raw)
unfolding drop_early
drop-rising [] raw a = a
drop-rising (x ∷ bs) raw a = bars_skip (λ r. lt_z r.time x.start.left.bar.time) raw a

pub finish_fine : (most : ℕ) (raw old : List Bar) (b : Bar) (m : Moved) → raw ≡ old ++ b ∷ [] → RisingBars raw → Inv b.time m.kept m.left → Fine (finish most raw m).state
unfolding finish
finish_fine most raw old b m e a i =
    let t = ltb most (length m.kept) in
    let bs = shed_if t m.kept in
    let j = shed_inv t b.time m.kept m.left i in
    let q : last (drop_early bs raw) ≡ some b = ap (λ z. last (drop_early bs z)) e ∙ last-raw bs old b j.early in
    subst (λ o. Stands o (drop_early bs raw) bs m.left) (sym q) (j, drop-rising bs raw a)

pub step_fine : (minimum most : ℕ) (t : Bool) (s : State) (b : Bar) → Fed b s.strokes (merged_with t s b) (raw_with t s b) → Fine (step_with minimum most t s b).state
unfolding step_with
step_fine minimum most t s b f =
    finish_fine most (raw_with t s b) f.old b (move minimum (merged_with t s b) s.strokes) f.is f.rise (move_inv b.time minimum (merged_with t s b) s.strokes f.inv)

pub feed_fine : (minimum most : ℕ) (t : Bool) (s : State) (b : Bar) → Fine s → (T t → T (question9 (last s.raw) b)) → Fine (feed_if minimum most t s b).state
unfolding feed_if step
feed_fine minimum most true s b f h = let l = is_later (last s.raw) b in step_fine minimum most l s b (fed l s b f (λ x. x) (λ x. x) (h tt))
feed_fine minimum most false s b f h = f

pub run_fine : (ok : State → Bar → Bool) → NotEarlier ok → (minimum most : ℕ) (s : Step) (bs : List Bar) → Fine s.state → Fine (run ok minimum most s bs).state
unfolding run feed
run_fine ok h minimum most s [] f = f
run_fine ok h minimum most s (b ∷ bs) f = run_fine ok h minimum most (record { state = (feed ok minimum most s.state b).state; events = plus s.events (feed ok minimum most s.state b).events }) bs (feed_fine minimum most (ok s.state b) s.state b f (h s.state b))

sides_good : (bs : List Stroke) (l : List Merged) → Sides bs l → All Good bs
sides_good [] l d = tt
sides_good (b ∷ []) l d = (d.0.good, tt)
sides_good (b ∷ b' ∷ bs) l d = (d.0.good, sides_good (b' ∷ bs) l d.2)

fine_good : (o : Option Bar) (raw : List Bar) (bs : List Stroke) (l : List Merged) → Stands o raw bs l → All Good bs
fine_good none raw bs l h = subst (All Good) (sym h.0) tt
fine_good (some r) raw bs l h = sides_good bs l h.0.sides

pub start_fine : Fine start.state
unfolding start fresh last
start_fine = (refl, refl, refl)

-- every stroke that is kept after a list of calls, refused ones included, from a fresh analyzer
pub kept_good : (ok : State → Bar → Bool) → NotEarlier ok → (minimum most : ℕ) (bs : List Bar) → All Good (run ok minimum most start bs).state.strokes
kept_good ok h minimum most bs =
    let s = run ok minimum most start bs in
    fine_good (last s.state.raw) s.state.raw s.state.strokes s.state.unfinished (run_fine ok h minimum most start bs start_fine)
