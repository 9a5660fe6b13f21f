-- The unfinished summary in the states reached from fresh: the claims of specs/ReachedUbi. Assumes nothing.
use mathlib.Core.Path.{◌≡◌, refl, ap, ◌∙◌, sym, subst}
use mathlib.Core.Bool.{Bool, not, ◌&&◌}
use mathlib.Core.List.{List, [], ◌∷◌, ◌++◌, map-append}
use mathlib.Core.Option.{Option, none, some}
use mathlib.Core.Logic.{◌⊎◌, inl, inr}
use lib.IntN.{ℤ}
use lib.Signed.{lt_z, le_z}
use lib.Dec.{T}
use lib.Ieee.Bits.{is_true}
use lib.Ieee.Fits.{and_i, and_l, and_r}
use Rattle.bars.specs.declared.Bar.{Bar}
use Rattle.bars.specs.Bars.{Merged}
use Rattle.bars.specs.Lists.{All, keep_if, every, some_of, join, last}
use Rattle.bars.specs.Merging.{at_times}
use Rattle.machine.specs.Fractals.{check_fxs}
use Rattle.machine.specs.Strokes.{Stroke}
use Rattle.machine.specs.Stand.{Settings, State, fresh}
use Rattle.machine.specs.Soundness.{same_time, bar_times, names, is_named}
use Rattle.machine.specs.Calls.{calls}
use Rattle.reports.specs.Measures.{elements_of}
use Rattle.reports.specs.Unfinished.{non_empty, question15}
use Rattle.reports.specs.ReachedUbi.{ReachedUbi}
use Rattle.arith.proofs.FloatOrder.{decide, contra, or-e}
use Rattle.machine.proofs.Lists.{All-map, keep_yes, keep_no, keep_none}
use Rattle.machine.proofs.ReplacedBars.{RisingBars, Stands}
use Rattle.machine.proofs.ReachedSound.{calls_reached}
use Rattle.machine.proofs.ReachedRaw.{reached_raw}
use Rattle.reports.proofs.UnfinishedGiven.{raw-behind}
use Rattle.bars.proofs.Times as times

-- ---- question 15

asked_if : (raw : List Bar) (l : List Merged) (bs : List Stroke) → (T (non_empty bs) → T (non_empty (at_times raw (elements_of l)))) → question15 raw l bs ≡ non_empty bs && non_empty (check_fxs l)
unfolding question15 non_empty
asked_if raw l [] f = refl
asked_if raw l (b ∷ bs) f = ap (λ (t : Bool). t && non_empty (check_fxs l)) (is_true (non_empty (at_times raw (elements_of l))) (f tt))

raw-kept : (raw : List Bar) (bs : List Stroke) → (raw ≡ [] → bs ≡ []) → T (non_empty bs) → T (non_empty raw)
unfolding non_empty
raw-kept [] bs f h = subst (λ (z : List Stroke). T (non_empty z)) (f refl) h
raw-kept (r ∷ raw) bs f h = tt

-- with a stroke kept, a raw bar is
calls-raw : (c : Settings) (bs : List Bar) → T (non_empty (calls c bs).state.strokes) → T (non_empty (calls c bs).state.raw)
unfolding fresh
calls-raw c bs = raw-kept (calls c bs).state.raw (calls c bs).state.strokes (λ e. ap (λ (s : State). s.strokes) (reached_raw.none-held c bs e))

-- ---- a raw bar for each element

abbrev has_time : ℤ → Bar → Bool
has_time t b = le_z b.time t && le_z t b.time

not-later : (t : ℤ) (r y : Bar) → T (has_time t r) → T (lt_z r.time y.time) → T (not (has_time t y))
not-later t r y h g =
    elim (decide (has_time t y)) [
      | inl n ↦ contra (le_z y.time t) (and_l (le_z y.time t) (le_z t y.time) n)
          (times.lt_not_le y.time t (times.le_lt_trans t r.time y.time (and_r (le_z r.time t) (le_z t r.time) h) g))
      | inr n ↦ n
    ]

one_if : (t : ℤ) (r : Bar) (raw : List Bar) → T (has_time t r) ⊎ T (not (has_time t r)) → T (has_time t r) ⊎ T (names raw t) → All (λ y. T (lt_z r.time y.time)) raw
    → (T (names raw t) → bar_times (keep_if (has_time t) raw) ≡ t ∷ []) → bar_times (keep_if (has_time t) (r ∷ raw)) ≡ t ∷ []
unfolding bar_times
one_if t r raw (inl h) n a f =
    ap bar_times (keep_yes (has_time t) r raw h ∙ ap (λ (z : List Bar). r ∷ z) (keep_none (has_time t) raw (All-map raw (λ y g. not-later t r y h g) a)))
    ∙ ap (λ (z : ℤ). z ∷ []) (times.le_antisym r.time t (and_l (le_z r.time t) (le_z t r.time) h) (and_r (le_z r.time t) (le_z t r.time) h))
one_if t r raw (inr h) (inl n) a f = contra (has_time t r) n h
one_if t r raw (inr h) (inr n) a f = ap bar_times (keep_no (has_time t) r raw h) ∙ f n

-- of raw bars whose times rise, a time names one
one_at : (t : ℤ) (raw : List Bar) → RisingBars raw → T (names raw t) → bar_times (keep_if (has_time t) raw) ≡ t ∷ []
unfolding names some_of same_time
one_at t [] a n = absurd n
one_at t (r ∷ raw) a n = one_if t r raw (decide (has_time t r)) (or-e (has_time t r) (names raw t) n) a.0 (one_at t raw a.1)

each_at : (raw : List Bar) (ts : List ℤ) → RisingBars raw → T (every (names raw) ts) → bar_times (at_times raw ts) ≡ ts
unfolding bar_times at_times every
each_at raw [] a n = refl
each_at raw (t ∷ ts) a n =
    let p : bar_times (keep_if (has_time t) raw) ≡ t ∷ [] = one_at t raw a (and_l (names raw t) (every (names raw) ts) n) in
    let q = each_at raw ts a (and_r (names raw t) (every (names raw) ts) n) in
    map-append (λ (b : Bar). b.time) (keep_if (has_time t) raw) (at_times raw ts) ∙ (λ i. p i ++ q i)

every_append : {A : Type 0} (p : A → Bool) (l r : List A) → T (every p l) → T (every p r) → T (every p (l ++ r))
unfolding every
every_append p [] r h k = k
every_append p (a ∷ l) r h k = and_i (p a) (every p (l ++ r)) (and_l (p a) (every p l) h) (every_append p l r (and_r (p a) (every p l) h) k)

all_named : (raw : List Bar) (l : List Merged) → T (every (is_named raw) l) → T (every (names raw) (elements_of l))
unfolding every is_named elements_of join
all_named raw [] h = tt
all_named raw (k ∷ l) h =
    every_append (names raw) k.elements (elements_of l) (and_l (is_named raw k) (every (is_named raw) l) h) (all_named raw l (and_r (is_named raw k) (every (is_named raw) l) h))

raws_rise : (o : Option Bar) (raw : List Bar) (bs : List Stroke) (l : List Merged) → Stands o raw bs l → RisingBars raw
raws_rise none raw bs l f = subst RisingBars (sym f.2) tt
raws_rise (some r) raw bs l f = f.1

-- ---- the claims

pub reached_ubi : ReachedUbi
reached_ubi c bs =
    let s = (calls c bs).state in
    record {
      asked = λ h. asked_if s.raw s.unfinished s.strokes (λ b. raw-behind c s h (calls-raw c bs b));
      over-all = λ n. each_at s.raw (elements_of s.unfinished) (raws_rise (last s.raw) s.raw s.strokes s.unfinished (calls_reached c bs).fine)
          (all_named s.raw s.unfinished (reached_raw.named c bs n));
    }
