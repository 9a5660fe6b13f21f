-- The clauses of soundness but the one on the newest raw bar, each for every state that ReachedWell speaks of.
-- Assumes nothing.
use Prim.Native.Nat.{ℕ}
use mathlib.Core.Path.{sym, subst}
use mathlib.Core.Bool.{Bool, ◌&&◌}
use mathlib.Core.List.{List, [], ◌∷◌, map}
use mathlib.Core.Option.{Option, none, some}
use lib.ListN.{length, drop}
use lib.IntN.{ℤ}
use lib.Signed.{lt_z, le_z}
use lib.Dec.{T, le→leb}
use lib.Ieee.Fits.{and_i}
use Rattle.bars.specs.Lists.{All, init, last, every}
use Rattle.bars.specs.declared.Bar.{Bar}
use Rattle.bars.specs.Bars.{Merged}
use Rattle.machine.specs.Fractals.{Fractal, time_of}
use Rattle.machine.specs.Strokes.{Stroke}
use Rattle.machine.specs.Stand.{State}
use Rattle.machine.specs.Rising.{Rising}
use Rattle.machine.proofs.Facts.{RisingFx}
use Rattle.bars.specs.Questions.{is_bar}
use Rattle.machine.specs.Soundness.{rises, few_strokes, raw_pass, is_merged, fractal_merged, stroke_merged, merged_pass, bar_times, merged_times, fractal_times, stroke_rises, times_rise, is_stroke, strokes_pass, names, is_named, asked, inner, elements_kept, lists_sound}
use Rattle.machine.proofs.Lists.{All-map, All-zip, All-init}
use Rattle.machine.proofs.MergingKeepsOrder.{Ordered, ordered_rising}
use Rattle.machine.proofs.ReplacedBars.{RisingBars, Stands, Fine}
use Rattle.machine.proofs.MergedRanges.{IsMerged}
use Rattle.machine.proofs.EventsKeep.{Three, InFractals}
use Rattle.machine.proofs.StrokeBuilt.{Built, built_stroke}
use Rattle.machine.proofs.TimeFloor.{AtLeast, Elements, Single, before-elements, Starts}
use Rattle.machine.proofs.ReachedWell.{Called, Well}

pub every_of : {A : Type 0} (p : A → Bool) (l : List A) → All (λ a. T (p a)) l → T (every p l)
unfolding every
every_of p [] h = tt
every_of p (a ∷ l) h = and_i (p a) (every p l) h.0 (every_of p l h.1)

-- ---- times

times_of_lem : {A : Type 0} (f : A → ℤ) (t : ℤ) (l : List A) → All (λ a. T (lt_z t (f a))) l → T (every (λ u. lt_z t u) (map f l))
unfolding every
times_of_lem f t [] h = tt
times_of_lem f t (a ∷ l) h = and_i (lt_z t (f a)) (every (λ u. lt_z t u) (map f l)) h.0 (times_of_lem f t l h.1)

raw-rises : (l : List Bar) → RisingBars l → T (rises (bar_times l))
unfolding rises bar_times
raw-rises [] r = tt
raw-rises (b ∷ l) r = and_i (every (λ u. lt_z b.time u) (bar_times l)) (rises (bar_times l)) (times_of_lem (λ x. x.time) b.time l r.0) (raw-rises l r.1)

merged-rises : (l : List Merged) → Rising l → T (rises (merged_times l))
unfolding rises merged_times
merged-rises [] r = tt
merged-rises (k ∷ l) r = and_i (every (λ u. lt_z k.bar.time u) (merged_times l)) (rises (merged_times l)) (times_of_lem (λ x. x.bar.time) k.bar.time l r.0) (merged-rises l r.1)

fractal-rises : (l : List Fractal) → RisingFx l → T (rises (fractal_times l))
unfolding rises fractal_times
fractal-rises [] r = tt
fractal-rises (f ∷ l) r = and_i (every (λ u. lt_z (time_of f) u) (fractal_times l)) (rises (fractal_times l)) (times_of_lem time_of (time_of f) l r.0) (fractal-rises l r.1)

stroke-rises : (b : Stroke) → Built b → T (stroke_rises b)
unfolding stroke_rises
stroke-rises b w = and_i (rises (merged_times b.bars)) (rises (fractal_times b.fractals)) (merged-rises b.bars (ordered_rising b.bars w.ordered)) (fractal-rises b.fractals w.rising)

raws_rise : (o : Option Bar) (s : State) → Stands o s.raw s.strokes s.unfinished → T (rises (bar_times s.raw))
unfolding rises bar_times
raws_rise none s f = subst (λ z. T (rises (bar_times z))) (sym f.2) tt
raws_rise (some r) s f = raw-rises s.raw f.1

unfinished_ordered : (o : Option Bar) (s : State) → Stands o s.raw s.strokes s.unfinished → Ordered s.unfinished
unfinished_ordered none s f = subst Ordered (sym f.1) tt
unfinished_ordered (some r) s f = f.0.ordered

-- ---- elements

pub called : (u : ℤ) (raw : List Bar) (k : Merged) → Called u raw k → Elements u k → T (is_named raw k)
unfolding is_named
called u raw k c e = every_of (names raw) k.elements (All-zip k.elements (λ t g h. g h) c e)

asked-named : (u : ℤ) (raw : List Bar) (l : List Merged) → Ordered l → AtLeast u l → Single u l → All (Called u raw) l → All (λ k. T (is_named raw k)) (asked l)
unfolding asked
asked-named u raw [] o a s c = tt
asked-named u raw (k ∷ []) o a s c = (called u raw k c.0 s, tt)
asked-named u raw (k ∷ k' ∷ l) o a s c = All-zip (k' ∷ l) (λ x b d. called u raw x d (before-elements u k x a.0 b)) o.1 c.1

inner_of : (u : ℤ) (raw : List Bar) (x : Merged) (l : List Merged) → T (le_z u x.bar.time) → Ordered (x ∷ l) → All (Called u raw) (x ∷ l) → All (λ k. T (is_named raw k)) (init (drop 1 (x ∷ l)))
inner_of u raw x l h o c = All-init (λ k. T (is_named raw k)) l (All-zip l (λ k b d. called u raw k d (before-elements u x k h b)) o.1 c.1)

inner-named : (u : ℤ) (raw : List Bar) (b : Stroke) → Built b → Starts u b → All (Called u raw) b.bars → T (every (is_named raw) (inner b))
unfolding inner
inner-named u raw b w h c =
    every_of (is_named raw) (init (drop 1 b.bars))
    (subst (λ z. All (λ k. T (is_named raw k)) (init (drop 1 z))) (sym w.first) (inner_of u raw b.start.left w.rest h (subst Ordered w.first w.ordered) (subst (All (Called u raw)) w.first c)))

inners_named : (u : ℤ) (raw : List Bar) (bs : List Stroke) → All Built bs → All (Starts u) bs → All (λ b. All (Called u raw) b.bars) bs → All (λ b. T (every (is_named raw) (inner b))) bs
inners_named u raw [] w h c = tt
inners_named u raw (b ∷ bs) w h c = (inner-named u raw b w.0 h.0 c.0, inners_named u raw bs w.1 h.1 c.1)

-- ---- the bars of fractals

fractal-merged : (f : Fractal) → Three IsMerged f → T (fractal_merged f)
unfolding fractal_merged
fractal-merged f t = search and_i

stroke-merged : (b : Stroke) → All IsMerged b.bars → InFractals IsMerged b → T (stroke_merged b)
unfolding stroke_merged
stroke-merged b a h =
    and_i (every is_merged b.bars) _ (every_of is_merged b.bars a)
    (and_i (every fractal_merged b.fractals) _ (every_of fractal_merged b.fractals (All-map b.fractals fractal-merged h.0))
    (and_i (fractal_merged b.start) (fractal_merged b.end) (fractal-merged b.start h.1) (fractal-merged b.end h.2)))

-- ---- each clause, of a state that is well

module _ (most : ℕ) (s : State) (f : Fine s) (w : Well most s) where
  well_few : T (few_strokes most s)
  unfolding few_strokes
  well_few = le→leb (length s.strokes) most w.few

  well_raw : T (raw_pass s)
  unfolding raw_pass
  well_raw = every_of is_bar s.raw w.kept.raws

  well_merged : T (merged_pass s)
  unfolding merged_pass
  well_merged =
      and_i (every is_merged s.unfinished) _ (every_of is_merged s.unfinished w.kept.merged.0)
      (every_of stroke_merged s.strokes (All-zip s.strokes stroke-merged w.kept.merged.1 w.kept.fractals))

  well_times : T (times_rise s)
  unfolding times_rise
  well_times =
      and_i (rises (bar_times s.raw) && rises (merged_times s.unfinished)) (every stroke_rises s.strokes)
      (and_i (rises (bar_times s.raw)) (rises (merged_times s.unfinished)) (raws_rise (last s.raw) s f) (merged-rises s.unfinished (ordered_rising s.unfinished (unfinished_ordered (last s.raw) s f))))
      (every_of stroke_rises s.strokes (All-map s.strokes stroke-rises w.kept.built))

  well_strokes : T (strokes_pass s)
  unfolding strokes_pass
  well_strokes = every_of is_stroke s.strokes (All-map s.strokes built_stroke w.kept.built)

  well_elements : T (elements_kept s)
  unfolding elements_kept
  well_elements =
      and_i (every (is_named s.raw) (asked s.unfinished)) _
      (every_of (is_named s.raw) (asked s.unfinished)
      (asked-named w.floor s.raw s.unfinished (unfinished_ordered (last s.raw) s f) w.kept.low.bars w.kept.low.single w.kept.named.0))
      (every_of (λ b. every (is_named s.raw) (inner b)) s.strokes (inners_named w.floor s.raw s.strokes w.kept.built w.kept.low.strokes w.kept.named.1))

  pub well_lists : T (lists_sound most s)
  unfolding lists_sound
  well_lists =
      and_i ((few_strokes most s && raw_pass s) && (merged_pass s && times_rise s)) (strokes_pass s && elements_kept s)
      (and_i (few_strokes most s && raw_pass s) (merged_pass s && times_rise s) (and_i (few_strokes most s) (raw_pass s) well_few well_raw) (and_i (merged_pass s) (times_rise s) well_merged well_times))
      (and_i (strokes_pass s) (elements_kept s) well_strokes well_elements)
