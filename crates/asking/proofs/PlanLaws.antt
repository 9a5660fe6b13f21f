-- The plan, of what the code has computed.
-- Assumes nothing.
use Prim.Native.Nat.{ℕ, suc, ◌+◌, ◌-◌, ◌≤◌, ◌<◌}
use native.Mathlib.Omega.{arith}
use native.Mathlib.Numerals.{add-one}
use mathlib.Core.Path.{◌≡◌, refl, ap, sym, ◌∙◌, subst}
use mathlib.Core.Bool.{Bool, true, false, not, ◌&&◌}
use mathlib.Core.List.{List, [], ◌∷◌}
use mathlib.Core.Logic.{◌⊎◌, inl, inr}
use lib.ListN.{length, drop, get_or, drop_of_length-le}
use lib.Seq.{drop-cons}
use lib.IntN.{ℤ, pos}
use lib.Signed.{le_z, lt_z}
use lib.Dec.{T, leb, ltb}
use lib.Ieee.{Float}
use borrow.Author.Tests.{le-leb, lt-leb, lt-ltb, le-ltb}
use Rattle.std.specs.Prelude.{Option, Some, None}
use Rattle.bars.proofs.Times.{le_not_lt, not-lt-le}
use Rattle.stores.specs.Stores.{zip_with}
use Rattle.stores.specs.Code.StoreRows.{next_if, place_of}
use Rattle.check_bi.specs.declared.check_fx.Candle.{Candle}
use Rattle.check_bi.specs.declared.scan.Scan.{Scan}
use Rattle.check_bi.specs.declared.scan.FoundBi.{FoundBi}
use Rattle.check_bi.specs.declared.view.View.{View}
use Rattle.asking.specs.declared.plan.Last.{Last}
use Rattle.asking.specs.declared.plan.Plan.{Plan}
use Rattle.check_bi.specs.Code.Scan.{scan_of, cut_place, ScanFits, found_of, found_on, found_from, FoundFits}
use Rattle.check_bi.specs.Code.View.{candle_from, candles, times_in, rows_in, bars_in, places}
use Rattle.machine.specs.FeedQuestions.{or_else}
use Rattle.asking.specs.Code.FeedPlan.{cut_of, end_in, bars_made, breaks_of, last_with, kept_of, broken_if, join_of, broken_of, times_of, last_candle, plan_first, plan_later, plan_if, plan_of, Long, InView, refused_of}
use Rattle.check_bi.proofs.ScanViews.{view-times, view-rows, candle_in, length-candles}
use Rattle.check_bi.proofs.ScanFound.{found_fits}

-- ---- the first place not before a time

not_by : (b : Bool) → T (not b) → b ≡ false
not_by true h = absurd h
not_by false h = refl

late : (x t : ℤ) → le_z t x ≡ true → lt_z x t ≡ false
late x t h = not_by (lt_z x t) (le_not_lt x t (subst (λ (b : Bool). T b) (sym h) tt))

early : (x t : ℤ) → le_z t x ≡ false → lt_z x t ≡ true
early x t h = by (lt_z x t) refl
  where
    by : (b : Bool) → lt_z x t ≡ b → lt_z x t ≡ true
    by true e = e
    by false e = absurd (subst (λ (b : Bool). T b) h (not-lt-le x t (subst (λ (b : Bool). T (not b)) (sym e) tt)))

module _ (v : List ℤ) (t : ℤ) (i k r : ℕ) (long : length v ≡ k) (so_far : i + place_of t (drop i v) ≡ r) where
  skip_by : (b : Bool) → i < k → lt_z (get_or v i (pos 0)) t ≡ b → place_of t (drop i v) ≡ next_if b (place_of t (drop (i + 1) v))
  unfolding place_of
  skip_by b h f =
      let j : i < length v = omega arith in
      ap (place_of t) (drop-cons v i (pos 0) j) ∙ ap (λ (x : Bool). next_if x (place_of t (drop (suc i) v))) f
      ∙ ap (λ (n : ℕ). next_if b (place_of t (drop n v))) (sym (add-one i))

  pub skip_turn : (x s : ℤ) → i < k → x ≡ get_or v i (pos 0) → s ≡ t → le_z s x ≡ false → i + 1 + place_of t (drop (i + 1) v) ≡ r
  unfolding next_if
  skip_turn x s h e g q =
      let f = (λ j. lt_z (sym e j) (sym g j)) ∙ early x s q in
      let p : place_of t (drop i v) ≡ suc (place_of t (drop (i + 1) v)) = skip_by true h f in
      omega arith

  pub skip_here : (x s : ℤ) → i < k → x ≡ get_or v i (pos 0) → s ≡ t → le_z s x ≡ true → i ≡ r
  unfolding next_if
  skip_here x s h e g q =
      let f = (λ j. lt_z (sym e j) (sym g j)) ∙ late x s q in
      let p : place_of t (drop i v) ≡ 0 = skip_by false h f in
      omega arith

  pub skip_end : k ≤ i → i ≡ r
  unfolding place_of
  skip_end h =
      let j : length v ≤ i = omega arith in
      let p : place_of t (drop i v) ≡ 0 = ap (place_of t) (drop_of_length-le v {i = i} j) in
      omega arith

-- ---- what is found

-- what was found lies in the view
pub found_in_view : (o : Option FoundBi) (total : ℕ) → FoundFits o total → (end_in o ≤ total) × (bars_made o ≤ total)
unfolding end_in bars_made
found_in_view None total h = (omega arith, omega arith)
found_in_view (Some f) total h = (h.rest_in, h.bars_in)

-- from place 0 on nothing is left out
pub all_in : (o : Option FoundBi) (total : ℕ) → FoundFits o (total - 0) → FoundFits o total
all_in o total h = let e : total - 0 ≡ total = omega arith in subst (FoundFits o) e h

pub kept_in : (cut n : ℕ) (o : Option FoundBi) (total : ℕ) → cut + end_in o ≤ total → bars_made o ≤ total → InView (record { cut = cut; found = o; broken = None; left = n }) total
kept_in cut n o total h k = record { rest_in = h; join_in = tt; bars_in = k }

-- ---- no stroke was kept before

-- what was found from the cut on, and from place 0 on
pub cut_fits : (s : Scan) (f : Option FoundBi) (total : ℕ) → ScanFits (Some s) (total - 0) → FoundFits f (total - s.cut.place) → (s.cut.place + end_in f ≤ total) × (bars_made f ≤ total)
cut_fits s f total h k =
    let c = h.small.cut_in in
    let q = found_in_view f (total - s.cut.place) k in
    let a = q.0 in
    let b = q.1 in
    (omega arith, omega arith)

pub whole_fits : (minimum : ℕ) (s : Scan) (f : Option FoundBi) (total : ℕ) → ScanFits (Some s) (total - 0) → f ≡ found_of minimum s → (0 + end_in f ≤ total) × (bars_made f ≤ total)
unfolding found_on
whole_fits minimum s f total h e =
    let q = found_in_view f total (all_in f total (subst (λ (x : Option FoundBi). FoundFits x (total - 0)) (sym e) (found_fits minimum (total - 0) (Some s) h))) in
    let a = q.0 in
    (omega arith, q.1)

pub first_none : (minimum : ℕ) (v : List Candle) (o : Option Scan) (r : Plan) (n total : ℕ) → n ≡ total → o ≡ scan_of v → o ≡ None → r ≡ kept_of 0 None n → r ≡ plan_first minimum v total
unfolding plan_first cut_of cut_place found_from found_on
first_none minimum v o r n total g e z h =
    let q : None ≡ scan_of v = sym z ∙ e in
    h ∙ ap (kept_of 0 None) g ∙ ap (λ (s : Option Scan). kept_of 0 (found_on minimum s) total) q ∙ (λ i. kept_of (cut_place (q i)) (found_from minimum (cut_place (q i)) v) total)

pub first_cut : (minimum cut : ℕ) (v : List Candle) (o : Option Scan) (s : Scan) (f : Option FoundBi) (r : Plan) (n total : ℕ) → n ≡ total → o ≡ scan_of v → o ≡ Some s → cut ≡ s.cut.place → f ≡ found_from minimum cut v
    → r ≡ kept_of cut f n → r ≡ plan_first minimum v total
unfolding plan_first cut_of cut_place
first_cut minimum cut v o s f r n total w e z c g h =
    let q : cut ≡ cut_place (scan_of v) = c ∙ ap cut_place (sym z ∙ e) in
    h ∙ ap (kept_of cut f) w ∙ ap (λ (x : Option FoundBi). kept_of cut x total) g ∙ ap (λ (x : ℕ). kept_of x (found_from minimum x v) total) q

-- nothing is cut off
pub first_whole : (minimum cut : ℕ) (v : List Candle) (o : Option Scan) (s : Scan) (f : Option FoundBi) (r : Plan) (n total : ℕ) → n ≡ total → o ≡ scan_of v → o ≡ Some s → cut ≡ s.cut.place → cut ≡ 0 → f ≡ found_of minimum s
    → r ≡ kept_of 0 f n → r ≡ plan_first minimum v total
unfolding found_from found_on
first_whole minimum cut v o s f r n total w e x c z g h =
    first_cut minimum 0 v o s f r n total w e x (sym z ∙ c) (g ∙ ap (found_on minimum) (sym x ∙ e)) h

-- ---- a stroke was kept before

pub broken_in : (o : Option FoundBi) (j n total : ℕ) → FoundFits o total → j ≤ total → InView (record { cut = 0; found = o; broken = Some j; left = n }) total
broken_in o j n total h k = let q = found_in_view o total h in let a = q.0 in record { rest_in = omega arith; join_in = k; bars_in = q.1 }

-- the last stroke has two bars or more
pub last_long : (o : Option FoundBi) (b w : Last) (total : ℕ) → FoundFits o total → total < 4294967296 → Long b → w ≡ last_with o b → Long w
unfolding last_with
last_long None b w total h l k e = subst Long (sym e) k
last_long (Some f) b w total h l k e =
    let m = h.bars_in in
    subst Long (sym e) (record { two = h.enough; few = omega arith })

module _ (v : View) where
  pub view-long : length (bars_in v) ≡ places v
  view-long = omega (arith, length-candles (times_in v) (rows_in v) 0 (view-times v ∙ sym (view-rows v)), view-times v)

  times-zip : (ts : List ℤ) (ps : List (List Float)) → length ts ≡ length ps → times_of (candles ts ps) ≡ ts
  unfolding times_of candles zip_with candle_from
  times-zip [] ps h = refl
  times-zip (t ∷ ts) [] h = absurd (omega arith)
  times-zip (t ∷ ts) (p ∷ ps) h = ap (t ∷◌) (times-zip ts ps (omega arith))

  times_are : times_of (bars_in v) ≡ times_in v
  times_are = times-zip (times_in v) (rows_in v) (view-times v ∙ sym (view-rows v))

  newest : (n : ℕ) → n ≡ places v → 0 < places v → candle_from (get_or (times_in v) (n - 1) (pos 0)) (get_or (rows_in v) (n - 1) []) ≡ last_candle (bars_in v) (places v)
  unfolding last_candle
  newest n g h =
      let e : 0 + (places v - 1) ≡ places v - 1 = omega arith in
      ap (λ (i : ℕ). candle_from (get_or (times_in v) (i - 1) (pos 0)) (get_or (rows_in v) (i - 1) [])) g
      ∙ ap (λ (i : ℕ). candle_from (get_or (times_in v) i (pos 0)) (get_or (rows_in v) i [])) (sym e)
      ∙ sym (candle_in (times_in v) (rows_in v) 0 (places v - 1) (view-times v ∙ sym (view-rows v)) (omega (arith, view-times v)))

  module _ (minimum : ℕ) (b w : Last) (o : Option FoundBi) (k : Candle) (t : Bool) (n : ℕ) (size : n ≡ places v) (more : 0 < places v) (found : o ≡ found_from minimum 0 (bars_in v)) (last : w ≡ last_with o b)
      (at : k ≡ candle_from (get_or (times_in v) (n - 1) (pos 0)) (get_or (rows_in v) (n - 1) [])) (test : t ≡ breaks_of w k) where
    later_as : broken_if t o w (end_in o + place_of w.time (drop (end_in o) (times_in v))) (places v) ≡ plan_later minimum b (bars_in v) (places v)
    unfolding plan_later broken_of join_of
    later_as =
        (λ i. broken_if (test i) o w (end_in o + place_of w.time (drop (end_in o) (sym times_are i))) (places v))
        ∙ (λ i. broken_of o (last i) ((at ∙ newest n size more) i) (times_of (bars_in v)) (places v))
        ∙ ap (λ (x : Option FoundBi). broken_of x (last_with x b) (last_candle (bars_in v) (places v)) (times_of (bars_in v)) (places v)) found

    pub later_broken : (e j : ℕ) (x : ℤ) → t ≡ true → e ≡ end_in o → x ≡ w.time → j ≡ e + place_of x (drop e (times_in v))
        → record { cut = 0; found = o; broken = Some j; left = w.bars - 2 + (n - j) } ≡ plan_later minimum b (bars_in v) (places v)
    unfolding broken_if
    later_broken e j x y z u p =
        let q = p ∙ ap (λ (y : ℤ). e + place_of y (drop e (times_in v))) u in
        ap (broken_if true o w j) size ∙ ap (λ (x : ℕ). broken_if true o w x (places v)) (q ∙ ap (λ (x : ℕ). x + place_of w.time (drop x (times_in v))) z)
        ∙ ap (λ (x : Bool). broken_if x o w (end_in o + place_of w.time (drop (end_in o) (times_in v))) (places v)) (sym y) ∙ later_as

    pub later_kept : (r : Plan) → t ≡ false → r ≡ kept_of 0 o n → r ≡ plan_later minimum b (bars_in v) (places v)
    unfolding broken_if
    later_kept r y h =
        h ∙ ap (kept_of 0 o) size ∙ ap (λ (x : Bool). broken_if x o w (end_in o + place_of w.time (drop (end_in o) (times_in v))) (places v)) (sym y) ∙ later_as

  -- ---- the plan

  module _ (minimum : ℕ) (r : Plan) where
    by_length : (o : Option Last) (few : Bool) → ltb (places v) 3 ≡ few → plan_if few minimum o (bars_in v) (places v) ≡ plan_of minimum o (bars_in v)
    unfolding plan_of
    by_length o few e =
        ap (λ (x : Bool). plan_if x minimum o (bars_in v) (places v)) (sym e) ∙ ap (λ (x : ℕ). plan_if (ltb x 3) minimum o (bars_in v) x) (sym view-long)

    pub plan_few : (o : Option Last) (n : ℕ) → n ≡ places v → places v < 3 → r ≡ kept_of 0 None n → r ≡ plan_of minimum o (bars_in v)
    unfolding plan_if
    plan_few o n g h e = e ∙ ap (kept_of 0 None) g ∙ by_length o true (lt-ltb (places v) 3 h)

    pub plan_none : (o : Option Last) → 3 ≤ places v → o ≡ None → r ≡ plan_first minimum (bars_in v) (places v) → r ≡ plan_of minimum o (bars_in v)
    unfolding plan_if
    plan_none o h n e = e ∙ ap (λ (x : Option Last). plan_if false minimum x (bars_in v) (places v)) (sym n) ∙ by_length o false (le-ltb (places v) 3 h)

    pub plan_some : (o : Option Last) (b : Last) → 3 ≤ places v → o ≡ Some b → r ≡ plan_later minimum b (bars_in v) (places v) → r ≡ plan_of minimum o (bars_in v)
    unfolding plan_if
    plan_some o b h n e = e ∙ ap (λ (x : Option Last). plan_if false minimum x (bars_in v) (places v)) (sym n) ∙ by_length o false (le-ltb (places v) 3 h)

-- ---- questions 11 and 12

module _ (p : Plan) (total room used places : ℕ) where
  refused_by_lem : (a b c : Bool) → leb total room ≡ a → leb p.left room ≡ b → leb (used + bars_made p.found) places ≡ c → or_else (a && b) 11 (or_else c 12 0) ≡ refused_of p total room used places
  unfolding refused_of
  refused_by_lem a b c e f g = sym (λ i. or_else (e i && f i) 11 (or_else (g i) 12 0))

  pub refused_full : (room < total) ⊎ ((total ≤ room) × (room < p.left)) → 11 ≡ refused_of p total room used places
  unfolding or_else
  refused_full (inl h) = refused_by_lem false (leb p.left room) (leb (used + bars_made p.found) places) (lt-leb total room h) refl refl
  refused_full (inr h) = refused_by_lem true false (leb (used + bars_made p.found) places) (le-leb total room h.0) (lt-leb p.left room h.1) refl

  pub refused_strokes : total ≤ room → p.left ≤ room → places < used + bars_made p.found → 12 ≡ refused_of p total room used places
  unfolding or_else
  refused_strokes h k g = refused_by_lem true true false (le-leb total room h) (le-leb p.left room k) (lt-leb (used + bars_made p.found) places g)

  pub refused_none : total ≤ room → p.left ≤ room → used + bars_made p.found ≤ places → 0 ≡ refused_of p total room used places
  unfolding or_else
  refused_none h k g = refused_by_lem true true true (le-leb total room h) (le-leb p.left room k) (le-leb (used + bars_made p.found) places g)
