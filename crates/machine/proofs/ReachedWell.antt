-- What every reached state keeps for the clauses of soundness, bars that repeat the last time included: raw bars, merged bars, strokes and named elements.
-- Assumes nothing.
use Prim.Native.Nat.{ℕ, suc, ◌≤◌}
use native.Mathlib.Omega.{arith}
use mathlib.Core.Path.{◌≡◌, refl, ap, sym, ◌∙◌, subst}
use mathlib.Core.Bool.{Bool, true, false, not, ◌&&◌}
use mathlib.Core.List.{List, [], ◌∷◌, ◌++◌}
use mathlib.Core.Option.{Option, none, some}
use lib.ListN.{length, length-append}
use lib.IntN.{ℤ}
use lib.Signed.{lt_z, le_z}
use lib.Dec.{T, ltb, nltb→le}
use lib.Ieee.Fits.{and_l}
use Rattle.bars.specs.Lists.{All, fold_left, init, last}
use Rattle.bars.specs.declared.Bar.{Bar}
use Rattle.bars.specs.Bars.{Merged}
use Rattle.machine.specs.Strokes.{Stroke}
use Rattle.machine.specs.Feed.{add_found, Moved, add_made, shed_if, raw_with, merged_with, is_later}
use Rattle.machine.specs.Stand.{State, fresh}
use Rattle.bars.specs.Merging.{merge_all, merge_in, at_times, again}
use Rattle.machine.specs.ByTime.{check_bi_by_time, cut_by_time}
use Rattle.machine.proofs.MachineByTime.{break_if, break_last, move_some, move, drop_early, finish, step_with, step, feed_if, start}
use Rattle.machine.specs.Break.{breaks}
use Rattle.bars.specs.Questions.{question9, is_bar, question5, first_time, last_time}
use Rattle.machine.specs.Soundness.{names}
use Rattle.machine.proofs.Lists.{All-map, All-append, All-left, All-init, All_skip}
use Rattle.machine.proofs.StrokesChain.{last_snoc}
use Rattle.machine.proofs.StrokesBefore.{Two, Sides, Inv}
use Rattle.machine.proofs.StrokesBeforeKept.{shed_inv}
use Rattle.machine.proofs.ReplacedBars.{Stands, Fine, Fed, fed, at_all, last-raw, last_some, step_fine}
use Rattle.machine.proofs.MergedRanges.{IsMerged, merge_passes, fold_passes}
use Rattle.machine.proofs.EventsKeep.{move_keeps, Bars, bars_keeps, InFractals, Held, held_keeps, All-shed}
use Rattle.machine.proofs.StrokeBuilt.{Built, built_keeps}
use Rattle.machine.proofs.TimeFloor.{Elements, two_single, Floor, floor_keeps, Floors, floors_keeps, floors_change, floors_shed, floor_shed, least-merged, least_fold, elements-merged, elements_fold, single_merged, single_fold, last-elements}
use Rattle.machine.proofs.ElementsNamed.{names_more, names-last, names_swap, names-drop, at_keep, at_names}
use Rattle.bars.proofs.Times as times

-- ---- the invariant

-- elements that are not earlier than u name raw bars
abbrev pub Called : ℤ → List Bar → Merged → Type 0
Called u raw k = All (λ t. T (le_z u t) → T (names raw t)) k.elements

-- of raw bars, unfinished bars and strokes; u is a floor
pub record Kept (u : ℤ) (raw : List Bar) (l : List Merged) (bs : List Stroke) : Type 0 where
  pub low : Floor u l bs
  pub floors : Floors l bs
  pub named : Bars (Called u raw) l bs
  pub merged : Bars IsMerged l bs
  pub fractals : All (InFractals IsMerged) bs
  pub built : All Built bs
  pub raws : All (λ r. T (is_bar r)) raw

pub record Well (most : ℕ) (s : State) : Type 0 where
  pub floor : ℤ
  pub reach : (b : Bar) → T (is_bar b) → T (question9 (last s.raw) b) → T (le_z floor b.time)
  pub kept : Kept floor s.raw s.unfinished s.strokes
  pub few : length s.strokes ≤ most

-- ---- a bar comes

called_more : (u : ℤ) (raw q : List Bar) → ((t : ℤ) → T (names raw t) → T (names q t)) → (k : Merged) → Called u raw k → Called u q k
called_more u raw q f k a = All-map k.elements (λ t g h. f t (g h)) a

bars-map : (P Q : Merged → Type 0) (l : List Merged) (bs : List Stroke) → ((k : Merged) → P k → Q k) → Bars P l bs → Bars Q l bs
bars-map P Q l bs f b = (All-map l f b.0, All-map bs (λ s a. All-map s.bars f a) b.1)

later-kept : (u : ℤ) (s : State) (b : Bar) → Kept u s.raw s.unfinished s.strokes → T (is_bar b) → T (le_z u b.time) → All (λ x. T (le_z x.start.left.bar.time b.time)) s.strokes
    → Kept u (s.raw ++ b ∷ []) (merge_in s.unfinished b) s.strokes
later-kept u s b k ok h early =
    let l = s.unfinished in
    let raw = s.raw ++ b ∷ [] in
    let c = bars-map (Called u s.raw) (Called u raw) l s.strokes (called_more u s.raw raw (names_more s.raw (b ∷ []))) k.named in
    record {
      low = record { bars = least-merged u l b h k.low.bars; strokes = k.low.strokes; single = single_merged u l b h };
      floors = floors_change s.strokes l (merge_in l b) b.time early (λ t e a. least-merged t l b e a) k.floors;
      named = (elements-merged (λ t. T (le_z u t) → T (names raw t)) l b (λ e. names-last s.raw b) c.0, c.1);
      merged = (merge_passes l b k.merged.0 ok, k.merged.1);
      fractals = k.fractals;
      built = k.built;
      raws = All-append (λ r. T (is_bar r)) s.raw (b ∷ []) k.raws (ok, tt);
    }

sides_two-left : (b : Stroke) (bs : List Stroke) (l : List Merged) → Sides (b ∷ bs) l → Two l
sides_two-left b [] l d = d.2
sides_two-left b (b' ∷ bs) l d = sides_two-left b' bs l d.2

floors_again : (bs : List Stroke) (p : List Merged) (k : Merged) (ys : List Bar) (b : Bar) → Inv b.time bs (p ++ k ∷ []) → ((t : ℤ) → Elements t k → T (le_z t b.time) → All (λ y. T (le_z t y.time)) ys)
    → Floors (p ++ k ∷ []) bs → Floors (fold_left merge_in p ys) bs
floors_again [] p k ys b i f d = tt
floors_again (x ∷ bs) p k ys b i f d =
    floors_change (x ∷ bs) (p ++ k ∷ []) (fold_left merge_in p ys) b.time i.early
    (λ t e a. least_fold t p ys (f t (last-elements t p k i.ordered a (two_single t (p ++ k ∷ []) (sides_two-left x bs (p ++ k ∷ []) i.sides))) e) (All-left (λ z. T (le_z t z.bar.time)) p (k ∷ []) a)) d

-- the last bar k is taken off, and its elements and b go through merging again; raw' names what raw did
again_kept : (u : ℤ) (raw raw' : List Bar) (p : List Merged) (k : Merged) (bs : List Stroke) (b : Bar) → Kept u raw (p ++ k ∷ []) bs → Inv b.time bs (p ++ k ∷ []) → T (is_bar b) → T (le_z u b.time)
    → ((t : ℤ) → T (names raw t) → T (names raw' t)) → T (names raw' b.time) → All (λ r. T (is_bar r)) raw' → Kept u raw' (fold_left merge_in p (at_times raw (init k.elements) ++ b ∷ [])) bs
again_kept u raw raw' p k bs b w i ok h f n rs =
    let ys = at_times raw (init k.elements) in
    let least : (t : ℤ) → Elements t k → T (le_z t b.time) → All (λ y. T (le_z t y.time)) (ys ++ b ∷ []) = λ t e g.
    All-append (λ y. T (le_z t y.time)) ys (b ∷ []) (at_all (λ v. T (le_z t v)) raw (init k.elements) (All-init (λ v. T (le_z t v)) k.elements e)) (g, tt) in
    let zs = least u (last-elements u p k i.ordered w.low.bars w.low.single) h in
    let c = bars-map (Called u raw) (Called u raw') (p ++ k ∷ []) bs (called_more u raw raw' f) w.named in
    record {
      low = record { bars = least_fold u p (ys ++ b ∷ []) zs (All-left (λ z. T (le_z u z.bar.time)) p (k ∷ []) w.low.bars); strokes = w.low.strokes; single = single_fold u p ys b zs };
      floors = floors_again bs p k (ys ++ b ∷ []) b i least w.floors;
      named = (
        elements_fold (λ t. T (le_z u t) → T (names raw' t)) p (ys ++ b ∷ [])
            (All-append (λ y. T (le_z u y.time) → T (names raw' y.time)) ys (b ∷ []) (All-map ys (λ y g e. f y.time g) (at_names raw (init k.elements))) ((λ e. n), tt))
            (All-left (Called u raw') p (k ∷ []) c.0),
        c.1,
      );
      merged = (
        fold_passes p (ys ++ b ∷ []) (All-left IsMerged p (k ∷ []) w.merged.0)
            (All-append (λ y. T (is_bar y)) ys (b ∷ []) (at_keep (λ y. T (is_bar y)) raw (init k.elements) w.raws) (ok, tt)),
        w.merged.1,
      );
      fractals = w.fractals;
      built = w.built;
      raws = rs;
    }

-- nothing unfinished
none_kept : (u : ℤ) (raw raw' : List Bar) (bs : List Stroke) (b : Bar) → Kept u raw [] bs → Inv b.time bs [] → T (is_bar b) → T (le_z u b.time) → ((t : ℤ) → T (names raw t) → T (names raw' t)) → T (names raw' b.time)
    → All (λ r. T (is_bar r)) raw' → Kept u raw' (merge_in [] b) bs
none_kept u raw raw' bs b w i ok h f n rs =
    let c = bars-map (Called u raw) (Called u raw') [] bs (called_more u raw raw' f) w.named in
    record {
      low = record { bars = least-merged u [] b h tt; strokes = w.low.strokes; single = single_merged u [] b h };
      floors = floors_change bs [] (merge_in [] b) b.time i.early (λ t e a. least-merged t [] b e tt) w.floors;
      named = (elements-merged (λ t. T (le_z u t) → T (names raw' t)) [] b (λ e. n) tt, c.1);
      merged = (merge_passes [] b tt ok, w.merged.1);
      fractals = w.fractals;
      built = w.built;
      raws = rs;
    }

same_kept : (u : ℤ) (raw raw' : List Bar) (l : List Merged) (bs : List Stroke) (b : Bar) → Kept u raw l bs → Inv b.time bs l → T (is_bar b) → T (le_z u b.time)
    → ((t : ℤ) → T (names raw t) → T (names raw' t)) → T (names raw' b.time) → All (λ r. T (is_bar r)) raw' → Kept u raw' (fold_left merge_in (init l) (again raw (last l) b)) bs
unfolding again last init fold_left
same_kept u raw raw' [] bs b w i ok h f n rs = none_kept u raw raw' bs b w i ok h f n rs
same_kept u raw raw' (x ∷ r) bs b w i ok h f n rs =
    let k = last_some x r in
    let e = last_snoc (x ∷ r) k.0 k.1 in
    subst (λ z. Kept u raw' (fold_left merge_in (init (x ∷ r)) (again raw z b)) bs) (sym k.1)
    (again_kept u raw raw' (init (x ∷ r)) k.0 bs b (subst (λ z. Kept u raw z bs) e w) (subst (Inv b.time bs) e i) ok h f n rs)

replaced_kept : (u : ℤ) (o : Option Bar) (s : State) (b : Bar) → last s.raw ≡ o → Stands o s.raw s.strokes s.unfinished → Kept u s.raw s.unfinished s.strokes → T (is_bar b) → T (le_z u b.time)
    → T (not (is_later o b)) → T (question9 o b) → Kept u (init s.raw ++ b ∷ []) (fold_left merge_in (init s.unfinished) (again s.raw (last s.unfinished) b)) s.strokes
unfolding is_later question9
replaced_kept u none s b e f w ok h n k = absurd n
replaced_kept u (some r) s b e f w ok h n k =
    let t : r.time ≡ b.time = times.le_antisym r.time b.time k (times.not-lt-le r.time b.time n) in
    let q = last_snoc s.raw r e in
    same_kept u s.raw (init s.raw ++ b ∷ []) s.unfinished s.strokes b w (subst (λ z. Inv z s.strokes s.unfinished) t f.0) ok h
    (λ v g. names_swap (init s.raw) r b v t (subst (λ z. T (names z v)) q g)) (names-last (init s.raw) b)
    (All-append (λ x. T (is_bar x)) (init s.raw) (b ∷ []) (All-init (λ x. T (is_bar x)) s.raw w.raws) (ok, tt))

pub fed-kept : (u : ℤ) (t : Bool) (s : State) (b : Bar) → Fine s → Fed b s.strokes (merged_with t s b) (raw_with t s b) → Kept u s.raw s.unfinished s.strokes → T (is_bar b) → T (le_z u b.time)
    → (T (not t) → T (not (is_later (last s.raw) b))) → T (question9 (last s.raw) b) → Kept u (raw_with t s b) (merged_with t s b) s.strokes
unfolding raw_with merged_with merge_all
fed-kept u true s b f d w ok h n k = later-kept u s b w ok h d.inv.early
fed-kept u false s b f d w ok h n k = replaced_kept u (last s.raw) s b refl f w ok h (n tt) k

-- ---- the strokes are looked at

move-kept : (n u : ℤ) (minimum : ℕ) (raw : List Bar) (l : List Merged) (bs : List Stroke) → Inv n bs l → Kept u raw l bs → Kept u raw (move minimum l bs).left (move minimum l bs).kept
move-kept n u minimum raw l bs i w =
    record {
      low = (move_keeps _ (floor_keeps n u) minimum l bs ((i, w.built), w.low)).1;
      floors = (move_keeps _ (floors_keeps n) minimum l bs ((i, w.built), w.floors)).1;
      named = move_keeps (Bars (Called u raw)) (bars_keeps (Called u raw)) minimum l bs w.named;
      merged = (move_keeps (Held IsMerged) (held_keeps IsMerged) minimum l bs (w.merged, w.fractals)).0;
      fractals = (move_keeps (Held IsMerged) (held_keeps IsMerged) minimum l bs (w.merged, w.fractals)).1;
      built = (move_keeps _ (built_keeps n) minimum l bs (i, w.built)).1;
      raws = w.raws;
    }

shed-kept : (t : Bool) (u : ℤ) (raw : List Bar) (l : List Merged) (bs : List Stroke) → Kept u raw l bs → Kept u raw l (shed_if t bs)
shed-kept t u raw l bs w =
    record {
      low = floor_shed t u l bs w.low;
      floors = floors_shed t l bs w.floors;
      named = (w.named.0, All-shed (λ b. All (Called u raw) b.bars) t bs w.named.1);
      merged = (w.merged.0, All-shed (λ b. All IsMerged b.bars) t bs w.merged.1);
      fractals = All-shed (InFractals IsMerged) t bs w.fractals;
      built = All-shed Built t bs w.built;
      raws = w.raws;
    }

-- ---- raw bars are dropped

new_floor : ℤ → List Stroke → ℤ
new_floor u [] = u
new_floor u (b ∷ bs) = b.start.left.bar.time

drop-kept : (n u : ℤ) (raw : List Bar) (l : List Merged) (bs : List Stroke) → Inv n bs l → Kept u raw l bs → Kept (new_floor u bs) (drop_early bs raw) l bs
unfolding new_floor drop_early
drop-kept n u raw l [] i w = w
drop-kept n u raw l (b ∷ bs) i w =
    let v = b.start.left.bar.time in
    record {
      low = record { bars = w.floors.0; strokes = (times.le_refl v, w.floors.1); single = two_single v l (sides_two-left b bs l i.sides) };
      floors = w.floors;
      named = bars-map (Called u raw) (Called v (drop_early (b ∷ bs) raw)) l (b ∷ bs)
          (λ k a. All-map k.elements (λ t g h. names-drop b bs t raw h (g (times.le_trans u v t w.low.strokes.0 h))) a) w.named;
      merged = w.merged;
      fractals = w.fractals;
      built = w.built;
      raws = All_skip (λ r. T (is_bar r)) (λ r. lt_z r.time v) raw w.raws;
    }

floor_upto : (n u : ℤ) (bs : List Stroke) (l : List Merged) → Inv n bs l → T (le_z u n) → T (le_z (new_floor u bs) n)
unfolding new_floor
floor_upto n u [] l i h = h
floor_upto n u (b ∷ bs) l i h = i.early.0

-- ---- no more strokes than the most

init-shorter : {A : Type 0} (l : List A) → length (init l) ≤ length l
unfolding init
init-shorter [] = omega arith
init-shorter (x ∷ []) = omega arith
init-shorter (x ∷ y ∷ l) = omega (arith, init-shorter (y ∷ l))

add-length : (bs : List Stroke) (o : Option Stroke) (l : List Merged) → length (add_made bs (record { stroke = o; rest = l })).kept ≤ suc (length bs)
unfolding add_made add_found
add-length bs none l = omega arith
add-length bs (some b) l = omega (arith, length-append bs (b ∷ []))

break_length : (t : Bool) (m : Moved) (b : Stroke) → length (break_if t m b).kept ≤ length m.kept
unfolding break_if
break_length true m b = init-shorter m.kept
break_length false m b = omega arith

break_last-length : (m : Moved) (o : Option Stroke) → length (break_last m o).kept ≤ length m.kept
unfolding break_last
break_last-length m none = omega arith
break_last-length m (some b) = break_length (breaks b (last m.left)) m b

move_some_length : (minimum : ℕ) (l : List Merged) (bs : List Stroke) → length (move_some minimum l bs).kept ≤ suc (length bs)
unfolding move_some
move_some_length minimum l [] = let f = check_bi_by_time minimum (cut_by_time l) in add-length [] f.stroke f.rest
move_some_length minimum l (b ∷ bs) =
    let f = check_bi_by_time minimum l in
    let m = add_made (b ∷ bs) f in
    omega (arith, add-length (b ∷ bs) f.stroke f.rest, break_last-length m (last m.kept))

move-length : (minimum : ℕ) (l : List Merged) (bs : List Stroke) → length (move minimum l bs).kept ≤ suc (length bs)
unfolding move
move-length minimum [] bs = omega arith
move-length minimum (x ∷ []) bs = omega arith
move-length minimum (x ∷ y ∷ []) bs = omega arith
move-length minimum (x ∷ y ∷ z ∷ l) bs = move_some_length minimum (x ∷ y ∷ z ∷ l) bs

shed-length : (t : Bool) (most : ℕ) (bs : List Stroke) → length bs ≤ suc most → (T (not t) → length bs ≤ most) → length (shed_if t bs) ≤ most
unfolding shed_if
shed-length true most [] h k = omega arith
shed-length true most (b ∷ bs) h k = omega arith
shed-length false most bs h k = k tt

-- ---- a step

question9-after : (s : State) (b c : Bar) → last s.raw ≡ some b → T (question9 (last s.raw) c) → T (le_z b.time c.time)
unfolding question9
question9-after s b c e h = subst (λ o. T (question9 o c)) e h

finish_well : (most : ℕ) (u : ℤ) (raw old : List Bar) (b : Bar) (m : Moved) → raw ≡ old ++ b ∷ [] → Inv b.time m.kept m.left → Kept u raw m.left m.kept → T (le_z u b.time)
    → length m.kept ≤ suc most → Well most (finish most raw m).state
unfolding finish
finish_well most u raw old b m e i w h c =
    let t = ltb most (length m.kept) in
    let bs = shed_if t m.kept in
    let j = shed_inv t b.time m.kept m.left i in
    let q : last (drop_early bs raw) ≡ some b = ap (λ z. last (drop_early bs z)) e ∙ last-raw bs old b j.early in
    record {
      floor = new_floor u bs;
      reach = λ x ok n. times.le_trans (new_floor u bs) b.time x.time (floor_upto b.time u bs m.left j h)
          (question9-after (record { raw = drop_early bs raw; unfinished = m.left; strokes = bs }) b x q n);
      kept = drop-kept b.time u raw m.left bs j (shed-kept t u raw m.left m.kept w);
      few = shed-length t most m.kept c (λ n. nltb→le most (length m.kept) n);
    }

step_well : (minimum most : ℕ) (t : Bool) (s : State) (b : Bar) → Fine s → Fed b s.strokes (merged_with t s b) (raw_with t s b) → (w : Well most s) → T (is_bar b) → T (le_z w.floor b.time)
    → (T (not t) → T (not (is_later (last s.raw) b))) → T (question9 (last s.raw) b) → Well most (step_with minimum most t s b).state
unfolding step_with
step_well minimum most t s b f d w ok h n k =
    let m = move minimum (merged_with t s b) s.strokes in
    let i = move_keeps _ (built_keeps b.time) minimum (merged_with t s b) s.strokes (d.inv, w.kept.built) in
    finish_well most w.floor (raw_with t s b) d.old b m d.is i.0
    (move-kept b.time w.floor minimum (raw_with t s b) (merged_with t s b) s.strokes d.inv (fed-kept w.floor t s b f d w.kept ok h n k))
    h (omega (arith, move-length minimum (merged_with t s b) s.strokes, w.few))

pub feed_well : (minimum most : ℕ) (t : Bool) (s : State) (b : Bar) → Fine s → Well most s → (T t → T (is_bar b) × T (question9 (last s.raw) b)) → Fine (feed_if minimum most t s b).state × Well most (feed_if minimum most t s b).state
unfolding feed_if step
feed_well minimum most true s b f w h =
    let l = is_later (last s.raw) b in
    let d = fed l s b f (λ x. x) (λ x. x) (h tt).1 in
    (step_fine minimum most l s b d, step_well minimum most l s b f d w (h tt).0 (w.reach b (h tt).0 (h tt).1) (λ x. x) (h tt).1)
feed_well minimum most false s b f w h = (f, w)

pub start_well : (most : ℕ) → Well most start.state
unfolding start fresh is_bar question5
start_well most =
    record {
      floor = first_time;
      reach = λ b ok n. and_l (le_z first_time b.time) (le_z b.time last_time) (and_l (question5 b) _ (and_l (question5 b && _) _ ok));
      kept = record { low = record { bars = tt; strokes = tt; single = tt }; floors = tt; named = (tt, tt); merged = (tt, tt); fractals = tt; built = tt; raws = tt };
      few = omega arith;
    }
