-- The plan is what make and move do to the strokes and to the unfinished bars, whatever their times; and so questions 11 and 12, asked of it, are those of a feed.
-- Assumes nothing.
use Prim.Native.Nat.{ℕ, zero, suc, ◌+◌, ◌-◌, ◌≤◌, ◌<◌}
use native.Mathlib.Omega.{arith}
use native.Mathlib.Nat.{zero-add}
use mathlib.Core.Path.{◌≡◌, refl, ap, sym, ◌∙◌, subst}
use mathlib.Core.Bool.{Bool, true, false, ◌&&◌}
use mathlib.Core.List.{List, [], ◌∷◌, ◌++◌, map}
use mathlib.Core.Option.{Option, none, some}
use lib.ListN.{length, take, drop, get_or, length-drop, length-map, length-append, get_or-map}
use lib.Seq.{get_or-drop, drop-drop}
use lib.IntN.{ℤ, pos}
use lib.Dec.{leb, ltb}
use lib.Ieee.{Float, lt}
use borrow.Author.Tests.{le-leb, lt-leb, leb-true, ltb-true, ltb-false}
use Rattle.std.specs.declared.option.Option as code
use Rattle.std.specs.Prelude.{Some, None}
use Rattle.arith.specs.Order.{max_of, min_of}
use Rattle.bars.specs.declared.Bar.{Bar}
use Rattle.bars.specs.Bars.{Merged}
use Rattle.bars.specs.Lists.{last, init}
use Rattle.stores.specs.Code.StoreRows.{place_of}
use Rattle.stores.proofs.Searching.{place_skip}
use Rattle.stores.proofs.AgainBound.{init-length}
use Rattle.machine.specs.declared.Mark.{Mark}
use Rattle.machine.specs.declared.Mark.TheVariants.{D, G}
use Rattle.check_bi.specs.declared.check_fx.Candle.{Candle}
use Rattle.check_bi.specs.declared.check_fx.Fx.{Fx}
use Rattle.check_bi.specs.declared.scan.FoundBi.{FoundBi}
use Rattle.asking.specs.declared.plan.Last.{Last}
use Rattle.asking.specs.declared.plan.Plan.{Plan}
use Rattle.machine.specs.Fractals.{Placed, placed_fxs, placed_after}
use Rattle.machine.specs.Strokes.{Stroke, Found, direction_of, stroke_at, found_in, check_bi, cut}
use Rattle.machine.specs.ByTime.{from}
use Rattle.machine.specs.Break.{high_of, low_of, past_in, broken_by, breaks, from_bar, joined}
use Rattle.machine.specs.Stand.{Settings, State}
use Rattle.machine.specs.Feed.{Moved, add_found, add_made, make_after, make_if, make, break_if, break_last, move_after, move_if, move}
use Rattle.machine.specs.Soundness.{bars_of}
use Rattle.machine.specs.FeedQuestions.{merged, joined_fits, moved_fits, question11, question12, or_else}
use Rattle.check_bi.specs.Code.Scan.{candle_of, fx_at, fx_placed, scan_of, cut_place, found_on, found_from}
use Rattle.check_bi.specs.Code.View.{candle_from}
use Rattle.asking.specs.Code.FeedPlan.{cut_of, end_in, bars_made, breaks_if, breaks_of, last_with, kept_of, broken_if, join_of, broken_of, times_of, last_candle, plan_first, plan_later, plan_if, plan_of, refused_of}
use Rattle.machine.proofs.Places.{fits}
use Rattle.machine.proofs.FewerFractals.{nothing_found, end-stands, order}
use Rattle.check_bi.proofs.ScanPlaces.{MadeAs, Means, cut_means, found_means, place_is}
use Rattle.strokes.proofs.StoredRaw.{init-take, last-take}
use Rattle.strokes.proofs.BareStates.{map-drop}
use Rattle.machine.proofs.StrokesMeet.{last-append}

abbrev time : Merged → ℤ
time k = k.bar.time

-- ---- the last stroke, and what is read of it

pub record LastIs (b : Stroke) (z : Last) : Type 0 where
  pub mark-is : z.mark ≡ b.start.mark
  pub high_is : z.high ≡ high_of b
  pub low-is : z.low ≡ low_of b
  pub bars_are : z.bars ≡ length b.bars
  -- its last but one bar
  pub before : Merged
  pub before-is : last (init b.bars) ≡ some before
  pub time-is : z.time ≡ time before

-- b is the last of the strokes, if there is one, and z what is read of it
abbrev pub KeptLast : List Stroke → Stroke → code.Option Last → Type 0
KeptLast [] b None = Unit {0}
KeptLast [] b (Some z) = ⊥
KeptLast (a ∷ bs) b None = ⊥
KeptLast (a ∷ bs) b (Some z) = (last (a ∷ bs) ≡ some b) × LastIs b z

-- the last stroke once one is found, if it is
unfoldable pub last_stroke : Option Stroke → Stroke → Stroke
last_stroke none b = b
last_stroke (some s) b = s

-- what move makes of m: where the stroke w breaks, its bars without the last two come back before those of the bars l that stand from place j on
unfoldable pub moved_as : code.Option ℕ → Moved → Stroke → List Merged → Moved
unfolding init
moved_as (Some j) m w l = record { left = init (init w.bars) ++ drop j l; kept = init m.kept; made = m.made; broken = 1 }
moved_as None m w l = m

-- ---- what a plan says of the unfinished bars l and the strokes bs, of which b is the last

pub record Planned (minimum : ℕ) (l : List Merged) (bs : List Stroke) (b : Stroke) (p : Plan) : Type 0 where
  pub finds : Means minimum (drop p.cut l) (check_bi minimum (drop p.cut l)) p.found
  pub makes : make minimum l bs ≡ add_found (check_bi minimum (drop p.cut l)).stroke bs (drop (p.cut + end_in p.found) l)
  pub moves : move minimum l bs ≡ moved_as p.broken (make minimum l bs) (last_stroke (check_bi minimum (drop p.cut l)).stroke b) l
  -- question 11's number and question 12's
  pub leaves : length (move minimum l bs).left ≡ p.left
  pub counts : bars_of (make minimum l bs).kept ≡ bars_of bs + bars_made p.found
  pub fewer : p.broken ≡ None → p.left ≤ length l

-- ---- lists

last-at : {A : Type 0} (z : A) (k : List A) → 0 < length k → last k ≡ some (get_or k (length k - 1) z)
unfolding last
last-at z [] h = absurd (omega arith)
last-at z (a ∷ []) h = refl
last-at z (a ∷ b ∷ k) h =
    let e : length (a ∷ b ∷ k) - 1 ≡ suc (length (b ∷ k) - 1) = omega arith in
    last-at z (b ∷ k) (omega arith) ∙ sym (ap (λ (n : ℕ). some (get_or (a ∷ b ∷ k) n z)) e)

last-drop : {A : Type 0} (z : A) (l : List A) (i : ℕ) → i < length l → last (drop i l) ≡ some (get_or l (length l - 1) z)
last-drop z l i h =
    let e : i + (length (drop i l) - 1) ≡ length l - 1 = omega (arith, length-drop i l) in
    last-at z (drop i l) (omega (arith, length-drop i l)) ∙ ap some (get_or-drop i l (length (drop i l) - 1) z) ∙ ap (λ (n : ℕ). some (get_or l n z)) e

get_d_in : {A : Type 0} (l : List A) (n : ℕ) (d e : A) → n < length l → get_or l n d ≡ get_or l n e
get_d_in [] n d e h = absurd (omega arith)
get_d_in (x ∷ l) zero d e h = refl
get_d_in (x ∷ l) (suc n) d e h = get_d_in l n d e (omega arith)

bars_snoc : (bs : List Stroke) (s : Stroke) → bars_of (bs ++ s ∷ []) ≡ bars_of bs + length s.bars
unfolding bars_of
bars_snoc [] s = omega arith
bars_snoc (b ∷ bs) s = omega (arith, bars_snoc bs s)

-- the bar in the middle of the last three
before_last : (s e : ℕ) (k : List Merged) (a b c : Merged) (r : List Merged) → s < e → drop e k ≡ a ∷ b ∷ c ∷ r → last (init (take (e + 3 - s) (drop s k))) ≡ some b
before_last s e k a b c r h q =
    let n = e + 3 - s in
    let i : e + 2 < length k = fits k e a b c r q in
    let m : n ≤ length (drop s k) = omega (arith, length-drop s k) in
    let j : s + (n - 1 - 1) ≡ e + 1 = omega arith in
    ap last (init-take n (drop s k) (omega arith) m) ∙ last-take (n - 1) (drop s k) b (omega arith) (omega arith)
    ∙ ap some (get_or-drop s k (n - 1 - 1) b ∙ ap (λ (x : ℕ). get_or k x b) j ∙ sym (get_or-drop e k 1 b) ∙ ap (λ (x : List Merged). get_or x 1 b) q)

-- ---- the break

breaks_by : (m : Mark) (b : Stroke) (z : Last) (k : Merged) → z.high ≡ high_of b → z.low ≡ low_of b → past_in (direction_of m) b k ≡ breaks_if m z (candle_of k)
unfolding past_in direction_of breaks_if candle_of
breaks_by D b z k h g = ap (λ (x : Float). lt x k.bar.high) (sym h)
breaks_by G b z k h g = ap (λ (x : Float). lt k.bar.low x) (sym g)

pub breaks-is : (b : Stroke) (z : Last) (k : Merged) → LastIs b z → broken_by b k ≡ breaks_of z (candle_of k)
unfolding broken_by breaks_of
breaks-is b z k h = breaks_by b.start.mark b z k h.high_is h.low-is ∙ ap (λ (m : Mark). breaks_if m z (candle_of k)) (sym h.mark-is)

-- the bars from place i on that come back
from-time : (t : ℤ) (i : ℕ) (l : List Merged) → from t (drop i l) ≡ drop (i + place_of t (drop i (map time l))) l
unfolding from
from-time t i l =
    place_skip time t (drop i l) ∙ ap (λ (x : List ℤ). drop (place_of t x) (drop i l)) (map-drop time i l) ∙ drop-drop (place_of t (drop i (map time l))) i l

pub joins_at : (b : Stroke) (z : Last) (i : ℕ) (l : List Merged) → LastIs b z → joined b (drop i l) ≡ init (init b.bars) ++ drop (i + place_of z.time (drop i (map time l))) l
unfolding joined from_bar
joins_at b z i l h =
    ap (λ (o : Option Merged). init (init b.bars) ++ from_bar o (drop i l)) h.before-is
    ∙ ap (λ (x : List Merged). init (init b.bars) ++ x) (from-time (time h.before) i l)
    ∙ ap (λ (t : ℤ). init (init b.bars) ++ drop (i + place_of t (drop i (map time l))) l) (sym h.time-is)

-- ---- what is found

-- the stroke that is made, and what is read of it
module _ (minimum : ℕ) (k : List Merged) (o : Found) (f : FoundBi) (m : MadeAs minimum k o f) where
  abbrev s : Placed
  s = m.from.start

  abbrev e : Placed
  e = m.from.end

  abbrev w : Stroke
  w = stroke_at k (s ∷ m.from.others) s e

  stroke-is : o.stroke ≡ some w
  stroke-is = ap (λ (x : Found). x.stroke) m.from.found

  made-rest : o.rest ≡ drop f.end.place k
  made-rest =
      ap (λ (x : Found). x.rest) m.from.found ∙ ap (λ (i : ℕ). drop i k) (sym (ap (λ (x : Fx). x.place) m.end ∙ place_is e))

  made_in : f.end.place + 2 < length k
  made_in =
      let q = end-stands minimum k o m.from in
      let i = fits k e.place e.fractal.left e.fractal.mid e.fractal.right q.after q.is in
      let j : f.end.place ≡ e.place = ap (λ (x : Fx). x.place) m.end ∙ place_is e in
      omega arith

  made-last : (z : Last) → LastIs w (last_with (Some f) z)
  unfolding stroke_at high_of low_of last_with fx_placed fx_at candle_of
  made-last z =
      let q = end-stands minimum k o m.from in
      record {
        mark-is = ap (λ (x : Fx). x.mark) m.start;
        high_is = λ i. max_of (m.start i).high (m.end i).high;
        low-is = λ i. min_of (m.start i).low (m.end i).low;
        bars_are = m.bars;
        before = e.fractal.mid;
        before-is =
            before_last s.place e.place k e.fractal.left e.fractal.mid e.fractal.right q.after (order minimum k o m.from) q.is;
        time-is = ap (λ (x : Fx). x.time) m.end;
      }

module _ (minimum : ℕ) (k : List Merged) (o : Found) where
  rest-is : (f : code.Option FoundBi) → Means minimum k o f → o.rest ≡ drop (end_in f) k
  unfolding end_in
  rest-is None h = ap (λ (x : Found). x.rest) h
  rest-is (Some f) h = made-rest minimum k o f h

  rest_in : (f : code.Option FoundBi) → Means minimum k o f → 0 < length k → end_in f < length k
  unfolding end_in
  rest_in None h g = g
  rest_in (Some f) h g = omega (arith, made_in minimum k o f h)

  bars_are : (f : code.Option FoundBi) → Means minimum k o f → (bs : List Stroke) (r : List Merged) → bars_of (add_found o.stroke bs r).kept ≡ bars_of bs + bars_made f
  unfolding add_found bars_made
  bars_are None h bs r =
      ap (λ (x : Found). bars_of (add_found x.stroke bs r).kept) h ∙ (let u : bars_of bs ≡ bars_of bs + 0 = omega arith in u)
  bars_are (Some f) h bs r =
      ap (λ (x : Option Stroke). bars_of (add_found x bs r).kept) (stroke-is minimum k o f h) ∙ bars_snoc bs (w minimum k o f h)
      ∙ ap (λ (n : ℕ). bars_of bs + n) (sym h.bars)

  last-is : (f : code.Option FoundBi) → Means minimum k o f → (b : Stroke) (z : Last) → LastIs b z → LastIs (last_stroke o.stroke b) (last_with f z)
  unfolding last_stroke last_with
  last-is None h b z g = subst (λ (x : Option Stroke). LastIs (last_stroke x b) z) (sym (ap (λ (x : Found). x.stroke) h)) g
  last-is (Some f) h b z g =
      subst (λ (x : Option Stroke). LastIs (last_stroke x b) (last_with (Some f) z)) (sym (stroke-is minimum k o f h)) (made-last minimum k o f h z)

-- ---- making

add_left : (o : Option Stroke) (bs : List Stroke) (r : List Merged) → (add_found o bs r).left ≡ r
unfolding add_found
add_left none bs r = refl
add_left (some s) bs r = refl

add-last : (o : Option Stroke) (bs : List Stroke) (r : List Merged) (b : Stroke) → last bs ≡ some b → last (add_found o bs r).kept ≡ some (last_stroke o b)
unfolding add_found last_stroke
add-last none bs r b h = h
add-last (some s) bs r b h = last-append bs s

-- a plan whose cut and found stroke are these, on l
module _ (minimum : ℕ) (l : List Merged) (bs : List Stroke) (b : Stroke) (cut : ℕ) (f : code.Option FoundBi) (means : Means minimum (drop cut l) (check_bi minimum (drop cut l)) f)
    (made : make minimum l bs ≡ add_made bs (check_bi minimum (drop cut l))) (total : ℕ) (long : total ≡ length l) where
  abbrev found : Found
  found = check_bi minimum (drop cut l)

  abbrev rest : ℕ
  rest = cut + end_in f

  make-is : make minimum l bs ≡ add_found found.stroke bs (drop rest l)
  unfolding add_made
  make-is =
      made ∙ ap (add_found found.stroke bs) (rest-is minimum (drop cut l) found f means ∙ drop-drop (end_in f) cut l)

  counts_are : bars_of (make minimum l bs).kept ≡ bars_of bs + bars_made f
  counts_are =
      ap (λ (m : Moved). bars_of m.kept) make-is ∙ bars_are minimum (drop cut l) found f means bs (drop rest l)

  made-left : (make minimum l bs).left ≡ drop rest l
  made-left = ap (λ (m : Moved). m.left) make-is ∙ add_left found.stroke bs (drop rest l)

  -- no stroke breaks
  kept_planned : move minimum l bs ≡ make minimum l bs → Planned minimum l bs b (kept_of cut f total)
  unfolding kept_of moved_as
  kept_planned e =
      let n : length (move minimum l bs).left ≡ length l - rest = ap (λ (m : Moved). length m.left) e ∙ ap length made-left ∙ length-drop rest l in
      record {
        finds = means;
        makes = make-is;
        moves = e;
        leaves = n ∙ ap (λ (x : ℕ). x - rest) (sym long);
        counts = counts_are;
        fewer = λ q. omega arith;
      }

few-found : (minimum : ℕ) (l : List Merged) → length l < 3 → check_bi minimum l ≡ nothing_found l
unfolding check_bi found_in placed_fxs placed_after
few-found minimum [] h = refl
few-found minimum (a ∷ []) h = refl
few-found minimum (a ∷ b ∷ []) h = refl
few-found minimum (a ∷ b ∷ c ∷ l) h = absurd (omega arith)

module _ (minimum : ℕ) (l : List Merged) (v : List Candle) (same : v ≡ map candle_of l) (b : Stroke) where
  long : length v ≡ length l
  long = ap length same ∙ length-map l candle_of

  few_planned : (bs : List Stroke) → length l < 3 → Planned minimum l bs b (kept_of 0 None (length v))
  unfolding make make_if move move_if add_made add_found
  few_planned bs h =
      let t = lt-leb 3 (length l) h in
      let q = few-found minimum l h in
      let m : make minimum l bs ≡ record { left = l; kept = bs; made = 0; broken = 0 } = ap (λ (x : Bool). make_if x minimum l bs) t in
      let n : move minimum l bs ≡ record { left = l; kept = bs; made = 0; broken = 0 } = ap (λ (x : Bool). move_if x minimum l bs) t in
      kept_planned minimum l bs b 0 None q (m ∙ ap (add_made bs) (sym q)) (length v) long (n ∙ sym m)

  found_at : (lo : ℕ) → Means minimum (drop lo l) (check_bi minimum (drop lo l)) (found_from minimum lo v)
  unfolding found_from
  found_at lo =
      subst (λ (x : List Candle). Means minimum (drop lo l) (check_bi minimum (drop lo l)) (found_on minimum (scan_of x))) (map-drop candle_of lo l ∙ ap (drop lo) (sym same))
      (found_means minimum (drop lo l))

  cut-at : cut l ≡ drop (cut_of v) l
  unfolding cut_of
  cut-at = cut_means l ∙ ap (λ (x : List Candle). drop (cut_place (scan_of x)) l) (sym same)

  first_planned : 3 ≤ length l → Planned minimum l [] b (kept_of (cut_of v) (found_from minimum (cut_of v) v) (length v))
  unfolding make make_if make_after move move_if move_after
  first_planned h =
      let t = le-leb 3 (length l) h in
      let m : make minimum l [] ≡ make_after minimum l [] = ap (λ (x : Bool). make_if x minimum l []) t in
      let n : move minimum l [] ≡ make_after minimum l [] = ap (λ (x : Bool). move_if x minimum l []) t in
      kept_planned minimum l [] b (cut_of v) (found_from minimum (cut_of v) v) (found_at (cut_of v))
      (m ∙ ap (λ (x : List Merged). add_made [] (check_bi minimum x)) cut-at) (length v) long (n ∙ sym m)

  times-map : (k : List Merged) → times_of (map candle_of k) ≡ map time k
  unfolding times_of candle_of
  times-map [] = refl
  times-map (x ∷ k) = ap (time x ∷◌) (times-map k)

  times_are : times_of v ≡ map time l
  times_are = ap times_of same ∙ times-map l

  newest : (k : Merged) → 0 < length l → last_candle v (length v) ≡ candle_of (get_or l (length l - 1) k)
  unfolding last_candle
  newest k h =
      get_d_in v (length v - 1) (candle_from (pos 0) []) (candle_of k) (omega (arith, long))
      ∙ (λ i. get_or (same i) (long i - 1) (candle_of k)) ∙ get_or-map candle_of l (length l - 1) k

  module _ (z : Last) (a : Stroke) (bs : List Stroke) (h : 3 ≤ length l) (kept : last (a ∷ bs) ≡ some b) (reads : LastIs b z) where
    abbrev f : code.Option FoundBi
    f = found_from minimum 0 v

    abbrev found0 : Found
    found0 = check_bi minimum l

    abbrev c : Last
    c = last_with f z

    abbrev x : Bool
    x = breaks_of c (last_candle v (length v))

    abbrev w0 : Stroke
    w0 = last_stroke found0.stroke b

    abbrev j : ℕ
    j = join_of f c (times_of v)

    reads0 : LastIs w0 c
    reads0 = last-is minimum l found0 f (found_at 0) b z reads

    later-make : make minimum l (a ∷ bs) ≡ add_made (a ∷ bs) found0
    unfolding make make_if make_after
    later-make = ap (λ (y : Bool). make_if y minimum l (a ∷ bs)) (le-leb 3 (length l) h)

    later-move : move minimum l (a ∷ bs) ≡ break_last (make minimum l (a ∷ bs)) (last (make minimum l (a ∷ bs)).kept)
    unfolding move move_if move_after make_after
    later-move =
        ap (λ (y : Bool). move_if y minimum l (a ∷ bs)) (le-leb 3 (length l) h) ∙ ap (λ (m : Moved). break_last m (last m.kept)) (sym later-make)

    made-is : make minimum l (a ∷ bs) ≡ add_found found0.stroke (a ∷ bs) (drop (0 + end_in f) l)
    made-is = make-is minimum l (a ∷ bs) b 0 f (found_at 0) later-make (length v) long

    kept-is : last (make minimum l (a ∷ bs)).kept ≡ some w0
    kept-is = ap (λ (m : Moved). last m.kept) made-is ∙ add-last found0.stroke (a ∷ bs) (drop (0 + end_in f) l) b kept

    left_is : (make minimum l (a ∷ bs)).left ≡ drop (end_in f) l
    left_is =
        ap (λ (m : Moved). m.left) made-is ∙ add_left found0.stroke (a ∷ bs) (drop (0 + end_in f) l) ∙ ap (λ (i : ℕ). drop i l) (zero-add (end_in f))

    tests : breaks w0 (last (make minimum l (a ∷ bs)).left) ≡ x
    unfolding breaks
    tests =
        let k = reads.before in
        ap (λ (y : List Merged). breaks w0 (last y)) left_is
        ∙ ap (breaks w0) (last-drop k l (end_in f) (rest_in minimum l found0 f (found_at 0) (omega arith)))
        ∙ breaks-is w0 c (get_or l (length l - 1) k) reads0 ∙ ap (breaks_of c) (sym (newest k (omega arith)))

    moved_is : move minimum l (a ∷ bs) ≡ break_if x (make minimum l (a ∷ bs)) w0
    unfolding break_last
    moved_is =
        later-move ∙ ap (break_last (make minimum l (a ∷ bs))) kept-is ∙ ap (λ (y : Bool). break_if y (make minimum l (a ∷ bs)) w0) tests

    joined_is : joined w0 (make minimum l (a ∷ bs)).left ≡ init (init w0.bars) ++ drop j l
    unfolding join_of
    joined_is =
        ap (joined w0) left_is ∙ joins_at w0 c (end_in f) l reads0
        ∙ ap (λ (y : List ℤ). init (init w0.bars) ++ drop (end_in f + place_of c.time (drop (end_in f) y)) l) (sym times_are)

    later_by : (y : Bool) → move minimum l (a ∷ bs) ≡ break_if y (make minimum l (a ∷ bs)) w0 → Planned minimum l (a ∷ bs) b (broken_if y f c j (length v))
    unfolding broken_if break_if moved_as
    later_by false e = kept_planned minimum l (a ∷ bs) b 0 f (found_at 0) later-make (length v) long e
    later_by true e =
        let M = make minimum l (a ∷ bs) in
        let g : move minimum l (a ∷ bs) ≡ record { left = init (init w0.bars) ++ drop j l; kept = init M.kept; made = M.made; broken = 1 } =
        e ∙ ap (λ (k : List Merged). record { left = k; kept = init M.kept; made = M.made; broken = 1 }) joined_is in
        record {
          finds = found_at 0;
          makes = made-is;
          moves = g;
          leaves =
              ap (λ (m : Moved). length m.left) g
              ∙ omega
              (arith, length-append (init (init w0.bars)) (drop j l), init-length (init w0.bars), init-length w0.bars, length-drop j l, reads0.bars_are, long);
          counts = counts_are minimum l (a ∷ bs) b 0 f (found_at 0) later-make (length v) long;
          fewer = λ q. let y : ◌≡◌ {A = ℕ} 0 1 = cc in absurd (omega arith);
        }

    later_planned : Planned minimum l (a ∷ bs) b (broken_of f c (last_candle v (length v)) (times_of v) (length v))
    unfolding broken_of
    later_planned = later_by x moved_is

  plan_by : (few : Bool) (bs : List Stroke) (z : code.Option Last) → ltb (length v) 3 ≡ few → KeptLast bs b z → Planned minimum l bs b (plan_if few minimum z v (length v))
  unfolding plan_if plan_first plan_later
  plan_by true bs z e h = few_planned bs (omega (arith, ltb-true (length v) 3 e, long))
  plan_by false [] None e h = first_planned (omega (arith, ltb-false (length v) 3 e, long))
  plan_by false [] (Some z) e h = absurd h
  plan_by false (a ∷ bs) None e h = absurd h
  plan_by false (a ∷ bs) (Some z) e h = later_planned z a bs (omega (arith, ltb-false (length v) 3 e, long)) h.0 h.1

  -- the plan is what make and move do
  pub plan_means : (bs : List Stroke) (z : code.Option Last) → KeptLast bs b z → Planned minimum l bs b (plan_of minimum z v)
  unfolding plan_of
  plan_means bs z h = plan_by (ltb (length v) 3) bs z refl h

-- ---- questions 11 and 12

pub add_unbroken : (o : Option Stroke) (bs : List Stroke) (r : List Merged) → (add_found o bs r).broken ≡ 0
unfolding add_found
add_unbroken none bs r = refl
add_unbroken (some s) bs r = refl

module _ (minimum : ℕ) (l : List Merged) (bs : List Stroke) (b : Stroke) (p : Plan) (h : Planned minimum l bs b p) (room : ℕ) where
  abbrev M : Moved
  M = move minimum l bs

  unbroken : (make minimum l bs).broken ≡ 0
  unbroken = ap (λ (m : Moved). m.broken) h.makes ∙ add_unbroken (check_bi minimum (drop p.cut l)).stroke bs (drop (p.cut + end_in p.found) l)

  fits_by : (t : code.Option ℕ) → p.broken ≡ t → (leb (length l) room && moved_fits room M) ≡ (leb (length l) room && leb p.left room)
  unfolding moved_fits joined_fits moved_as
  fits_by (Some j) e =
      let w = last_stroke (check_bi minimum (drop p.cut l)).stroke b in
      let n : M.broken ≡ 1 = ap (λ (m : Moved). m.broken) h.moves ∙ ap (λ (y : code.Option ℕ). (moved_as y (make minimum l bs) w l).broken) e in
      ap (λ (y : ℕ). leb (length l) room && joined_fits y room M.left) n ∙ ap (λ (y : ℕ). leb (length l) room && leb y room) h.leaves
  fits_by None e =
      let w = last_stroke (check_bi minimum (drop p.cut l)).stroke b in
      let n : M.broken ≡ 0 = ap (λ (m : Moved). m.broken) h.moves ∙ ap (λ (y : code.Option ℕ). (moved_as y (make minimum l bs) w l).broken) e ∙ unbroken in
      ap (λ (y : ℕ). leb (length l) room && joined_fits y room M.left) n ∙ both_fit (leb (length l) room) refl
    where
      both_fit : (t : Bool) → leb (length l) room ≡ t → (t && true) ≡ (t && leb p.left room)
      both_fit true q = sym (le-leb p.left room (omega (arith, leb-true (length l) room q, h.fewer e)))
      both_fit false q = refl

  -- refused asks questions 11 and 12 in this order
  pub refused_means : (places : ℕ)
      → refused_of p (length l) room (bars_of bs) places ≡ or_else (leb (length l) room && moved_fits room M) 11 (or_else (leb (bars_of (make minimum l bs).kept) places) 12 0)
  unfolding refused_of
  refused_means places =
      sym (λ i. or_else (fits_by p.broken refl i) 11 (or_else (leb (h.counts i) places) 12 0))

-- of a feed: s is the state before it and a the bar, and l the unfinished bars after merging
pub questions_asked : (c : Settings) (s : State) (a : Bar) (b : Stroke) (p : Plan) → Planned c.minimum (merged s a) s.strokes b p
    → refused_of p (length (merged s a)) c.unfinished_room (bars_of s.strokes) c.stroke_room ≡ or_else (question11 c s a) 11 (or_else (question12 c s a) 12 0)
unfolding question11 question12
questions_asked c s a b p h = refused_means c.minimum (merged s a) s.strokes b p h c.unfinished_room c.stroke_room
