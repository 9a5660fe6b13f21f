-- What the plain machine's make and move leave, by the places of the plan. Assumes nothing.
use Prim.Native.Nat.{ℕ, ◌+◌, ◌-◌, ◌<◌, ◌≤◌}
use native.Mathlib.Omega.{arith}
use mathlib.Core.Path.{◌≡◌, refl, ap, sym, ◌∙◌, subst}
use mathlib.Core.Bool.{Bool, true, false, ◌&&◌}
use mathlib.Core.List.{List, [], ◌∷◌, ◌++◌, map, map-append}
use mathlib.Core.Option.{Option, none, some}
use lib.ListN.{length, drop, length-drop}
use lib.Seq.{length-take-le}
use lib.Dec.{T, leb, leb→le}
use lib.Ieee.Fits.{and_l, and_r}
use Rattle.bars.specs.Bars.{Merged}
use Rattle.bars.specs.Lists.{every, some_of, last, init}
use Rattle.machine.specs.Strokes.{Stroke, Found, stroke_at, check_bi, cut}
use Rattle.machine.specs.Break.{breaks, joined, high_of, low_of}
use Rattle.machine.specs.Feed.{Moved, add_found, add_made, make_after, make_if, make, break_if, break_last, move_after, move_if, move, shed_if, shed_count}
use Rattle.machine.specs.Soundness.{alternates, same_fractal, is_stroke}
use Rattle.machine.proofs.Places.{fits}
use Rattle.machine.proofs.FewerFractals.{nothing_found, end-stands, order}
use Rattle.check_bi.specs.Code.Scan.{candle_of}
use Rattle.check_bi.proofs.ScanPlaces.{MadeAs, Means}
use Rattle.strokes.specs.StateRead.{bare_stroke, stroke_with}
use Rattle.strokes.specs.Code.StrokeSteps.{made_stroke}
use Rattle.strokes.proofs.StoredStrokes.{found-is, made-cut, place_of}
use Rattle.asking.specs.declared.plan.Plan.{Plan}
use Rattle.asking.specs.Code.FeedPlan.{start_in, end_in, bars_made}
use Rattle.check_bi.specs.declared.scan.FoundBi.{FoundBi}
use Rattle.std.specs.declared.option.Option as code
use Rattle.std.specs.Prelude.{Some, None, is_some}
use Rattle.asking.specs.Code.Asked.{last_of, time_or0}
use Rattle.asking.proofs.PlanMeans.{LastIs, KeptLast, Planned, plan_means, add_unbroken, moved_as}
use Rattle.writing.specs.Code.WriteSteps.{add_if}
use Rattle.writing.specs.Code.Written.{plan_with}

-- ---- every stroke has at least two bars

abbrev pub Full : List Stroke → Type 0
Full [] = Unit {0}
Full (b ∷ bs) = (2 ≤ length b.bars) × Full bs

stroke_full : (b : Stroke) → T (is_stroke b) → 2 ≤ length b.bars
unfolding is_stroke
stroke_full b h =
    let x = leb 4 (length b.bars) in
    let y = alternates none b.fractals in
    let u = some_of (same_fractal b.start) b.fractals in
    let v = some_of (same_fractal b.end) b.fractals in
    let e = leb→le 4 (length b.bars) (and_l x y (and_l (x && y) (u && v) h)) in
    omega arith

pub full_sound : (bs : List Stroke) → T (every is_stroke bs) → Full bs
unfolding every
full_sound [] h = tt
full_sound (b ∷ bs) h = (stroke_full b (and_l (is_stroke b) (every is_stroke bs) h), full_sound bs (and_r (is_stroke b) (every is_stroke bs) h))

full_more : (bs : List Stroke) (b : Stroke) → Full bs → 2 ≤ length b.bars → Full (bs ++ b ∷ [])
full_more [] b h k = (k, tt)
full_more (a ∷ bs) b h k = (h.0, full_more bs b h.1 k)

pub full_init : (bs : List Stroke) → Full bs → Full (init bs)
unfolding init
full_init [] h = tt
full_init (a ∷ []) h = tt
full_init (a ∷ b ∷ bs) h = (h.0, full_init (b ∷ bs) h.1)

pub full_shed : (t : Bool) (bs : List Stroke) → Full bs → Full (shed_if t bs)
unfolding shed_if
full_shed true [] h = tt
full_shed true (b ∷ bs) h = h.1
full_shed false bs h = h

pub full_last : (bs : List Stroke) (b : Stroke) → Full bs → last bs ≡ some b → 2 ≤ length b.bars
unfolding last
full_last [] b h e = let y : ◌≡◌ {A = ℕ} 0 1 = ap (λ (o : Option Stroke). elim o [ none ↦ 0 | some x ↦ 1 ]) e in absurd (omega arith)
full_last (a ∷ []) b h e = let y : length a.bars ≡ length b.bars = ap (λ (o : Option Stroke). elim o [ none ↦ 0 | some x ↦ length x.bars ]) e in omega (arith, h.0)
full_last (a ∷ c ∷ bs) b h e = full_last (c ∷ bs) b h.1 e

-- ---- a stroke that breaks

pub record Breaks (m r : Moved) : Type 0 where
  pub stroke : Stroke
  pub is_last : last m.kept ≡ some stroke
  pub is : r ≡ record { left = joined stroke m.left; kept = init m.kept; made = m.made; broken = 1 }

break_if_lem : (t : Bool) (m : Moved) (b : Stroke) → last m.kept ≡ some b → m.broken ≡ 0 → (break_if t m b).broken ≡ 1 → Breaks m (break_if t m b)
unfolding break_if
break_if_lem true m b q h e = record { stroke = b; is_last = q; is = refl }
break_if_lem false m b q h e = absurd (omega arith)

break_last_lem : (m : Moved) (o : Option Stroke) → last m.kept ≡ o → m.broken ≡ 0 → (break_last m o).broken ≡ 1 → Breaks m (break_last m o)
unfolding break_last
break_last_lem m none q h e = absurd (omega arith)
break_last_lem m (some b) q h e = break_if_lem (breaks b (last m.left)) m b q h e

after_unbroken : (minimum : ℕ) (l : List Merged) (bs : List Stroke) → (make_after minimum l bs).broken ≡ 0
unfolding make_after add_made
after_unbroken minimum l [] = add_unbroken (check_bi minimum (cut l)).stroke [] (check_bi minimum (cut l)).rest
after_unbroken minimum l (b ∷ bs) = add_unbroken (check_bi minimum l).stroke (b ∷ bs) (check_bi minimum l).rest

move_by : (t : Bool) (minimum : ℕ) (l : List Merged) (bs : List Stroke) → (move_if t minimum l bs).broken ≡ 1 → Breaks (make_if t minimum l bs) (move_if t minimum l bs)
unfolding move_if make_if move_after
move_by false minimum l bs e = absurd (omega arith)
move_by true minimum l [] e = absurd (omega (arith, after_unbroken minimum l []))
move_by true minimum l (b ∷ bs) e =
    let m = make_after minimum l (b ∷ bs) in
    break_last_lem m (last m.kept) refl (after_unbroken minimum l (b ∷ bs)) e

pub move-breaks : (minimum : ℕ) (l : List Merged) (bs : List Stroke) → (move minimum l bs).broken ≡ 1 → Breaks (make minimum l bs) (move minimum l bs)
unfolding move make
move-breaks minimum l bs e = move_by (leb 3 (length l)) minimum l bs e

make_by : (t : Bool) (minimum : ℕ) (l : List Merged) (bs : List Stroke) → (make_if t minimum l bs).broken ≡ 0
unfolding make_if
make_by true minimum l bs = after_unbroken minimum l bs
make_by false minimum l bs = refl

pub make_unbroken : (minimum : ℕ) (l : List Merged) (bs : List Stroke) → (make minimum l bs).broken ≡ 0
unfolding make
make_unbroken minimum l bs = make_by (leb 3 (length l)) minimum l bs

-- ---- the plan is one of these strokes

record Ends (bs : List Stroke) : Type 0 where
  stroke : Stroke
  is : last bs ≡ some stroke

some-last : (a : Stroke) (bs : List Stroke) → Ends (a ∷ bs)
unfolding last
some-last a [] = record { stroke = a; is = refl }
some-last a (b ∷ bs) = let r = some-last b bs in record { stroke = r.stroke; is = r.is }

record Before (l : List Merged) : Type 0 where
  bar : Merged
  is : last (init l) ≡ some bar

some-before : (l : List Merged) → 2 ≤ length l → Before l
unfolding last init
some-before [] h = absurd (omega arith)
some-before (a ∷ []) h = absurd (omega arith)
some-before (a ∷ b ∷ []) h = record { bar = a; is = refl }
some-before (a ∷ b ∷ c ∷ l) h = let r = some-before (b ∷ c ∷ l) (omega arith) in record { bar = r.bar; is = r.is }

time_read : (o : Option Merged) (k : Merged) → o ≡ some k → time_or0 o ≡ k.bar.time
unfolding time_or0
time_read o k e = ap time_or0 e

last_read_lem : (b : Stroke) → 2 ≤ length b.bars
    → LastIs b (record { mark = b.start.mark; high = high_of b; low = low_of b; bars = length b.bars; time = time_or0 (last (init b.bars)) })
last_read_lem b h =
    let w = some-before b.bars h in
    record { mark-is = refl; high_is = refl; low-is = refl; bars_are = refl; before = w.bar; before-is = w.is; time-is = time_read (last (init b.bars)) w.bar w.is }

pub record HasPlan (minimum : ℕ) (l : List Merged) (bs : List Stroke) (p : Plan) : Type 0 where
  pub stroke : Stroke
  pub planned : Planned minimum l bs stroke p

plan_read : (minimum : ℕ) (l : List Merged) (bs : List Stroke) → Full bs → HasPlan minimum l bs (plan_with minimum l bs)
unfolding plan_with last_of last
plan_read minimum l [] h =
    let b = stroke_with [] [] in
    record { stroke = b; planned = plan_means minimum l (map candle_of l) refl b [] (last_of (last [])) tt }
plan_read minimum l (a ∷ bs) h =
    let w = some-last a bs in
    let b = w.stroke in
    let r = subst (λ (o : Option Stroke). KeptLast (a ∷ bs) b (last_of o)) (sym w.is) (w.is, last_read_lem b (full_last (a ∷ bs) b h w.is)) in
    record { stroke = b; planned = plan_means minimum l (map candle_of l) refl b (a ∷ bs) (last_of (last (a ∷ bs))) r }

pub has_plan : (minimum : ℕ) (l : List Merged) (bs : List Stroke) (p : Plan) → Full bs → p ≡ plan_with minimum l bs → HasPlan minimum l bs p
has_plan minimum l bs p h e = subst (HasPlan minimum l bs) (sym e) (plan_read minimum l bs h)

-- ---- what make leaves

-- the stroke found, whose places are counted from the cut on
pub record MakesAs (minimum : ℕ) (l : List Merged) (bs : List Stroke) (cut : ℕ) (f : code.Option FoundBi) : Type 0 where
  pub left : (make minimum l bs).left ≡ drop (cut + end_in f) l
  pub kept : map bare_stroke (make minimum l bs).kept ≡ add_if (is_some f) (map bare_stroke bs) (made_stroke l (cut + start_in f) (bars_made f))
  pub made : (make minimum l bs).made ≡ shed_count (is_some f)
  pub full : Full bs → Full (make minimum l bs).kept
  pub inside : is_some f ≡ true → cut + start_in f + bars_made f ≤ length l

module _ (minimum : ℕ) (l : List Merged) (bs : List Stroke) (cut : ℕ) where
  abbrev k : List Merged
  k = drop cut l

  abbrev o : Found
  o = check_bi minimum k

  makes_none : make minimum l bs ≡ add_found o.stroke bs (drop (cut + 0) l) → o ≡ nothing_found k → MakesAs minimum l bs cut None
  unfolding add_found add_if shed_count end_in start_in bars_made
  makes_none h q =
      let rest = drop (cut + 0) l in
      let e : make minimum l bs ≡ record { left = rest; kept = bs; made = 0; broken = 0 } = h ∙ ap (λ (x : Found). add_found x.stroke bs rest) q in
      record {
        left = ap (λ (m : Moved). m.left) e;
        kept = ap (λ (m : Moved). map bare_stroke m.kept) e;
        made = ap (λ (m : Moved). m.made) e;
        full = λ g. subst (λ (m : Moved). Full m.kept) (sym e) g;
        inside = λ u. let y : ◌≡◌ {A = ℕ} 0 1 = cc in absurd (omega arith);
      }

  module _ (f : FoundBi) (m : MadeAs minimum k o f) where
    abbrev w : Stroke
    w = stroke_at k (m.from.start ∷ m.from.others) m.from.start m.from.end

    bars-many : length w.bars ≡ m.from.end.place + 3 - m.from.start.place
    unfolding stroke_at
    bars-many =
        let s = m.from.start.place in
        let e = m.from.end.place in
        let x = m.from.end.fractal in
        let q = end-stands minimum k o m.from in
        let i = fits k e x.left x.mid x.right q.after q.is in
        length-take-le (e + 3 - s) (drop s k) (omega (arith, length-drop s k))

    within : m.from.end.place + 2 < length k
    within =
        let x = m.from.end.fractal in
        let q = end-stands minimum k o m.from in
        fits k m.from.end.place x.left x.mid x.right q.after q.is

    makes_one : make minimum l bs ≡ add_found o.stroke bs (drop (cut + f.end.place) l) → MakesAs minimum l bs cut (Some f)
    unfolding add_found add_if shed_count end_in start_in bars_made
    makes_one h =
        let rest = drop (cut + f.end.place) l in
        let e : make minimum l bs ≡ record { left = rest; kept = bs ++ w ∷ []; made = 1; broken = 0 } =
        h ∙ ap (λ (x : Found). add_found x.stroke bs rest) m.from.found in
        let first = cut + f.start.place in
        let i = order minimum k o m.from in
        let a = place_of f.start m.from.start m.start in
        let read : bare_stroke w ≡ made_stroke l first f.bars =
        sym (found-is minimum k f m) ∙ made-cut l cut f.start.place f.bars in
        record {
          left = ap (λ (z : Moved). z.left) e;
          kept =
              ap (λ (z : Moved). map bare_stroke z.kept) e
              ∙ map-append bare_stroke bs (w ∷ [])
              ∙ ap (λ (x : Stroke). map bare_stroke bs ++ x ∷ []) read;
          made = ap (λ (z : Moved). z.made) e;
          full = λ g. subst (λ (z : Moved). Full z.kept) (sym e) (full_more bs w g (omega (arith, bars-many, within)));
          inside = λ u. omega (arith, bars-many, within, m.bars, length-drop cut l);
        }

  pub makes_as : (f : code.Option FoundBi) → make minimum l bs ≡ add_found o.stroke bs (drop (cut + end_in f) l) → Means minimum k o f → MakesAs minimum l bs cut f
  unfolding end_in
  makes_as None h q = makes_none h q
  makes_as (Some f) h q = makes_one f q h

-- what move makes, by whether the last stroke breaks
pub moved_broken : (o : code.Option ℕ) (m : Moved) (w : Stroke) (l : List Merged) → is_some o ≡ true → (moved_as o m w l).broken ≡ 1
unfolding moved_as
moved_broken (Some j) m w l h = refl
moved_broken None m w l h = let y : ◌≡◌ {A = ℕ} 0 1 = cc in absurd (omega arith)

pub moved_stays : (o : code.Option ℕ) (m : Moved) (w : Stroke) (l : List Merged) → is_some o ≡ false → moved_as o m w l ≡ m
unfolding moved_as
moved_stays None m w l h = refl
moved_stays (Some j) m w l h = let y : ◌≡◌ {A = ℕ} 0 1 = cc in absurd (omega arith)
