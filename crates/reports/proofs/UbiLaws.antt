-- Laws of the unfinished summary: the highest and the lowest bar in one pass, the first fractal by its place, and the answer. Assumes nothing.
use Prim.Native.Nat.{ℕ, ◌+◌, ◌≤◌, ◌<◌}
use native.Mathlib.Omega.{arith}
use mathlib.Core.Path.{◌≡◌, refl, ap, sym, ◌∙◌}
use mathlib.Core.Bool.{Bool, true, false, ◌&&◌}
use mathlib.Core.List.{List, [], ◌∷◌, ◌++◌, map, foldl, append-nil}
use mathlib.Core.Option.{Option, none, some}
use lib.ListN.{length, take, get_or, length-map}
use lib.Seq.{length-take-le, get_or-take}
use lib.IntN.{ℤ}
use lib.Signed.{le_z}
use lib.Ieee.{lt, le}
use Rattle.bars.specs.declared.Bar.{Bar}
use Rattle.bars.specs.Bars.{Merged, merged_of}
use Rattle.bars.specs.Lists.{keep_if, last, join}
use Rattle.bars.specs.Merging.{at_times}
use Rattle.stores.specs.Stores.{MergedStore, raw_part, merged_bars, zip_with}
use Rattle.stores.specs.Code.StoreRows.{SizedMerged, bar_at, new_bar_at}
use Rattle.stores.proofs.Columns.{merged-at}
use Rattle.machine.specs.declared.Direction.{Direction}
use Rattle.machine.specs.Fractals.{Fractal, check_fxs}
use Rattle.machine.specs.Strokes.{Stroke, direction_of, turned}
use Rattle.std.specs.Prelude as Std
use Rattle.std.specs.Prelude.{Some, None, is_some, unwrap_or}
use Rattle.std.proofs.Common.{true≢false}
use Rattle.strokes.specs.StateRead.{bare_bar, bare_fractal}
use Rattle.strokes.specs.Code.StrokeSteps.{plain_bar}
use Rattle.reports.specs.Code.FractalWalk.{plain}
use Rattle.sound.proofs.SoundReads.{rows_of, merged-take, merged-elements}
use Rattle.reports.specs.declared.ubi.Extremes.{Extremes}
use Rattle.reports.specs.declared.fractal_walk.FractalBars.{FractalBars}
use Rattle.reports.specs.Measures.{elements_of}
use Rattle.reports.specs.Unfinished.{one_of, highest, lowest, ubi_with, ubi_from, get_ubi}
use Rattle.std.proofs.Common.{Ok, Err}
use Rattle.bars.specs.declared.refusals.Question.TheVariants.{Summary}
use Rattle.reports.specs.UbiAnswers.{three_bars, ubi_given}
use Rattle.reports.specs.Code.UbiSteps.{see, seen_next, see_at}

-- ---- one bar more

pub one_left : (t : Bool) (a b : Bar) → t ≡ true → a ≡ one_of t a b
unfolding one_of
one_left t a b e = ap (λ (x : Bool). one_of x a b) (sym e)

pub one_right : (t : Bool) (a b : Bar) → t ≡ false → b ≡ one_of t a b
unfolding one_of
one_right t a b e = ap (λ (x : Bool). one_of x a b) (sym e)

pub see-more : (o : Std.Option Extremes) (e : Extremes) (b h l : Bar) → o ≡ Some e → h ≡ one_of (lt b.high e.high.high) e.high b → l ≡ one_of (le e.low.low b.low) e.low b
    → record { high = h; low = l } ≡ see o b
unfolding see
see-more o e b h l q p w = (λ i. record { high = p i; low = w i }) ∙ ap (λ (x : Std.Option Extremes). see x b) (sym q)

pub see-first : (o : Std.Option Extremes) (b : Bar) → o ≡ None → record { high = b; low = b } ≡ see o b
unfolding see
see-first o b q = ap (λ (x : Std.Option Extremes). see x b) (sym q)

pub named_none : (raw : List Bar) (o : Std.Option Extremes) (t : ℤ) → at_times raw (t ∷ []) ≡ [] → o ≡ see_at raw o t
unfolding see_at
named_none raw o t q = sym (ap (foldl seen_next o) q)

pub named-one : (raw : List Bar) (o : Std.Option Extremes) (r : Extremes) (t : ℤ) (b : Bar) → at_times raw (t ∷ []) ≡ b ∷ [] → r ≡ see o b → Some r ≡ see_at raw o t
unfolding see_at
named-one raw o r t b q p = ap Some p ∙ sym (ap (foldl seen_next o) q)

-- ---- all of them

fold_append : (o : Std.Option Extremes) (l r : List Bar) → foldl seen_next o (l ++ r) ≡ foldl seen_next (foldl seen_next o l) r
fold_append o [] r = refl
fold_append o (b ∷ l) r = fold_append (seen_next o b) l r

-- time by time, or bar by bar
pub see-times : (raw : List Bar) (o : Std.Option Extremes) (ts : List ℤ) → foldl (see_at raw) o ts ≡ foldl seen_next o (at_times raw ts)
unfolding see_at at_times
see-times raw o [] = refl
see-times raw o (t ∷ ts) =
    see-times raw (see_at raw o t) ts
    ∙ ap (λ (x : Std.Option Extremes). foldl seen_next x (at_times raw ts)) (ap (foldl seen_next o) (append-nil (keep_if (λ b. le_z b.time t && le_z t b.time) raw)))
    ∙ sym (fold_append o (keep_if (λ b. le_z b.time t && le_z t b.time) raw) (at_times raw ts))

abbrev both : Bar → Bar → Std.Option Extremes
both h w = Some (record { high = h; low = w })

see_both : (h w : Bar) (rs : List Bar) → foldl seen_next (both h w) rs ≡ both (highest h rs) (lowest w rs)
unfolding see highest lowest
see_both h w [] = refl
see_both h w (r ∷ rs) = see_both (one_of (lt r.high h.high) h r) (one_of (le w.low r.low) w r) rs

see-all : (r : Bar) (rs : List Bar) → foldl seen_next None (r ∷ rs) ≡ both (highest r rs) (lowest r rs)
unfolding see
see-all r rs = see_both r r rs

-- none was seen, or one at least
some_none : {A X : Type 0} (a : A) → ◌≡◌ {A = Std.Option A} (Some a) None → X
some_none a h = absurd (true≢false (ap is_some h))

pub none_seen_lem : (rs : List Bar) → None ≡ foldl seen_next None rs → rs ≡ []
none_seen_lem [] q = refl
none_seen_lem (r ∷ rs) q = some_none _ (sym (see-all r rs) ∙ sym q)

pub record Seen (rs : List Bar) (e : Extremes) : Type 0 where
  pub first : Bar
  pub others : List Bar
  pub are : rs ≡ first ∷ others
  pub high : e.high ≡ highest first others
  pub low : e.low ≡ lowest first others

pub some-seen : (rs : List Bar) (e : Extremes) → Some e ≡ foldl seen_next None rs → Seen rs e
some-seen [] e q = some_none e q
some-seen (r ∷ rs) e q =
    let w : ◌≡◌ {A = Std.Option Extremes} (Some e) (both (highest r rs) (lowest r rs)) = q ∙ see-all r rs in
    let of : Std.Option Extremes → Extremes = λ o. unwrap_or o e in
    record { first = r; others = rs; are = refl; high = ap (λ o. (of o).high) w; low = ap (λ o. (of o).low) w }

-- ---- the first fractal

-- t is the first fractal of the bars l, and there are n
pub record FirstIs (l : List Merged) (t : FractalBars) (n : ℕ) : Type 0 where
  pub first : Fractal
  pub others : List Fractal
  pub are : check_fxs l ≡ first ∷ others
  pub bars : t ≡ three_bars first.mark first.left.bar first.mid.bar first.right.bar
  pub count : n ≡ length (first ∷ others)

first_in : (l : List Merged) (fs : List Fractal) (t : FractalBars) (w : List Fractal) → check_fxs l ≡ fs → map bare_fractal fs ≡ plain t ∷ w → FirstIs l t (1 + length w)
unfolding bare_fractal bare_bar plain_bar three_bars
first_in l [] t w e q = let n = ap length q in let y : ⊥ = omega arith in absurd y
first_in l (f ∷ fs) t w e q =
    let n : length (map bare_fractal (f ∷ fs)) ≡ length (plain t ∷ w) = ap length q in
    let k = length-map (f ∷ fs) bare_fractal in
    record {
      first = f;
      others = fs;
      are = e;
      bars = sym (ap (λ (x : List Fractal). let y = get_or x 0 f in three_bars y.mark y.left.bar y.mid.bar y.right.bar) q);
      count = omega arith;
    }

pub first-is : (l : List Merged) (t : FractalBars) (w : List Fractal) → map bare_fractal (check_fxs l) ≡ plain t ∷ w → FirstIs l t (1 + length w)
first-is l t w q = first_in l (check_fxs l) t w refl q

pub no_fractals : (fs : List Fractal) → map bare_fractal fs ≡ [] → fs ≡ []
no_fractals [] q = refl
no_fractals (f ∷ fs) q = let n = ap length q in let y : ⊥ = omega arith in absurd y

-- ---- what is read of the store of the unfinished bars, which has n of them

module _ (u : MergedStore) (k n : ℕ) (h : SizedMerged u k) (few : n ≤ k) where
  same : {A B : Type 0} (a : List A) (b : List B) → length a ≡ k → length b ≡ k → length (take n a) ≡ length (take n b)
  same a b x y = length-take-le n a (rw x few) ∙ sym (length-take-le n b (rw y few))

  -- the elements of its bars stand in their columns
  pub elements_read : elements_of (take n (merged_bars u)) ≡ join (zip_with take (take n u.counts) (take n u.elements))
  unfolding elements_of
  elements_read =
      ap join
      (ap (map (λ k. k.elements)) (merged-take n u)
      ∙ merged-elements (rows_of (take n u.times) (take n u.ids) (take n u.prices) (take n u.counts) (take n u.elements) (same u.ids u.times h.raw.ids h.raw.times)
      (same u.prices u.times h.raw.prices h.raw.times) (same u.counts u.times h.counts h.raw.times) (same u.elements u.times h.elements h.raw.times)))

  -- its bar at a place, as a raw bar
  pub bar_in_lem : (i : ℕ) (a : Merged) → i < n → get_or (take n (merged_bars u)) i a ≡ a → bar_at (raw_part u) i ≡ a.bar
  unfolding merged_of new_bar_at
  bar_in_lem i a g e =
      let c = h.counts in
      let d = h.elements in
      let t = h.raw.times in
      let j = h.raw.ids in
      let p = h.raw.prices in
      ap (λ (x : Merged). x.bar)
      (sym (merged-at u i a (record { raw = record { times = omega arith; ids = omega arith; prices = omega arith }; counts = omega arith; elements = omega arith }))
      ∙ sym (get_or-take n (merged_bars u) i a g) ∙ e)

-- ---- the answer

pub refused-last : (raw : List Bar) (l : List Merged) (bs : List Stroke) → length bs ≡ 0 → Err Summary ≡ ubi_given (get_ubi raw l bs)
unfolding get_ubi ubi_from ubi_given last
refused-last raw l [] h = refl
refused-last raw l (b ∷ bs) h = let w : ⊥ = omega arith in absurd w

from_no_bar : (raw : List Bar) (l : List Merged) (o : Option Stroke) (fs : List Fractal) → Err Summary ≡ ubi_given (ubi_from raw l o [] fs)
unfolding ubi_from ubi_given
from_no_bar raw l none fs = refl
from_no_bar raw l (some b) fs = refl

pub refused-bars : (raw : List Bar) (l : List Merged) (bs : List Stroke) → at_times raw (elements_of l) ≡ [] → Err Summary ≡ ubi_given (get_ubi raw l bs)
unfolding get_ubi
refused-bars raw l bs e = from_no_bar raw l (last bs) (check_fxs l) ∙ ap (λ (rs : List Bar). ubi_given (ubi_from raw l (last bs) rs (check_fxs l))) (sym e)

from_no_fractal : (raw : List Bar) (l : List Merged) (o : Option Stroke) (rs : List Bar) → Err Summary ≡ ubi_given (ubi_from raw l o rs [])
unfolding ubi_from ubi_given
from_no_fractal raw l none rs = refl
from_no_fractal raw l (some b) [] = refl
from_no_fractal raw l (some b) (r ∷ rs) = refl

pub refused-fractals : (raw : List Bar) (l : List Merged) (bs : List Stroke) → check_fxs l ≡ [] → Err Summary ≡ ubi_given (get_ubi raw l bs)
unfolding get_ubi
refused-fractals raw l bs e =
    from_no_fractal raw l (last bs) (at_times raw (elements_of l)) ∙ ap (λ (fs : List Fractal). ubi_given (ubi_from raw l (last bs) (at_times raw (elements_of l)) fs)) (sym e)

-- of the last stroke b, the bars that were seen and the first fractal
pub given_is : (raw : List Bar) (l : List Merged) (bs : List Stroke) (b : Stroke) (e : Extremes) (d : Direction) (n k c : ℕ) (t : FractalBars)
    → last bs ≡ some b
    → d ≡ turned (direction_of b.start.mark)
    → Seen (at_times raw (elements_of l)) e
    → FirstIs l t c
    → k ≡ length l
    → n ≡ length raw
    → Ok (record { direction = d; high = e.high.high; low = e.low.low; highBar = e.high; lowBar = e.low; bars = k; raw = n; fractals = c; first = t }) ≡ ubi_given (get_ubi raw l bs)
unfolding get_ubi ubi_from ubi_given ubi_with
given_is raw l bs b e d n k c t eb ed v w ek en =
    (λ i. Ok (record { direction = ed i; high = (v.high i).high; low = (v.low i).low; highBar = v.high i; lowBar = v.low i; bars = ek i; raw = en i; fractals = w.count i; first = w.bars i }))
    ∙ (λ i. ubi_given (ubi_from raw l (sym eb i) (sym v.are i) (sym w.are i)))
