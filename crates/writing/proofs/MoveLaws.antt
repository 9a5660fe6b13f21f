-- The stroke that is found is put on, and the unfinished bars are left behind it, or joined with a broken stroke's: what is read then is what the plain
-- machine's move leaves, but for the elements of fractals' bars. Assumes nothing.
use Prim.Native.Nat.{ℕ, zero, suc, ◌+◌, ◌-◌, ◌≤◌}
use native.Mathlib.Omega.{arith}
use mathlib.Core.Path.{◌≡◌, refl, ap, sym, ◌∙◌, subst}
use mathlib.Core.Bool.{Bool, true, false}
use mathlib.Core.List.{List, [], ◌∷◌, map}
use mathlib.Core.Option
use mathlib.Core.Option.{Option, none, some}
use lib.ListN.{length, take, drop, get_or, length-map, length-append}
use lib.Seq.{length-take-le}
use lib.Dec.{T, leb→le, ltb}
use Rattle.bars.specs.Bars.{Merged}
use Rattle.bars.specs.Lists.{last, init}
use Rattle.stores.specs.Stores.{MergedStore, raw_store, merged_bars}
use Rattle.stores.specs.Code.StoreRows.{SizedMerged}
use Rattle.stores.proofs.Columns.{merged-length}
use Rattle.machine.specs.Fractals.{Fractal}
use Rattle.machine.specs.Strokes.{Stroke, check_bi}
use Rattle.machine.specs.Break.{joined}
use Rattle.machine.specs.Feed.{Moved, make, move, shed_if, shed_count}
use Rattle.machine.specs.FeedQuestions.{joined_fits, moved_fits}
use mir.Val.{bool_byte}
use Rattle.machine.proofs.StrokesMeet.{last-append}
use Rattle.check_bi.specs.Code.Scan.{candle_of}
use Rattle.strokes.specs.declared.Stand.{Stand}
use Rattle.strokes.specs.declared.Rooms.{Rooms}
use Rattle.strokes.specs.StateRead.{stroke_with, strokes_with, stored_fractals, settings_of, state_of, bar_counts, fractal_counts, total, elements_sized, bare_stroke, bare_state}
use Rattle.strokes.specs.Lent.{FractalStore}
use Rattle.strokes.specs.Code.ElementCounts.{StaySized}
use Rattle.strokes.specs.Code.BarSteps.{HasUnfinished, kept_unfinished, with_unfinished, without_last, stored_stroke}
use Rattle.strokes.specs.Code.StrokeSteps.{Kept, ShedWhere, kept_strokes, made_stroke, last_place, last_bars}
use Rattle.strokes.proofs.StoredStates.{kept-unfinished, joined_stored}
use Rattle.strokes.proofs.StoredStrokes.{length-take-most, strokes-more, strokes-length, taken_off, shed-kept, take-before}
use Rattle.strokes.proofs.StoredCounts.{stay_fewer}
use Rattle.strokes.proofs.BareStates.{last-map, init-map, stored_bare}
use Rattle.asking.specs.declared.plan.Plan.{Plan}
use Rattle.asking.specs.Code.FeedPlan.{start_in, bars_made}
use Rattle.std.specs.Prelude.{is_some}
use Rattle.asking.specs.Code.Asked.{last_of}
use Rattle.asking.proofs.PlanMeans.{last_stroke}
use Rattle.writing.specs.declared.Wrote.{Wrote}
use Rattle.writing.specs.Code.WriteSteps.{CanMake, MadeWhere, CanBreak, CanLeave, add_if, left_stand, left_bars, rest_of}
use Rattle.writing.specs.Code.Written.{CanMove, HasLeft, HasMoved, made_of, moved_of, plan_with, over_of}
use Rattle.writing.proofs.PlanInView.{rest_in-view}
use Rattle.writing.proofs.StepLaws.{left-fits, left-rooms, last_sum}
use Rattle.writing.proofs.MachineMoves.{Full, full_sound, full_last, full_init, Breaks, move-breaks, make_unbroken, HasPlan, has_plan, MakesAs, makes_as, moved_broken, moved_stays}
use Rattle.sound.proofs.SoundFacts.{bars_are, counts-alike}

-- one where a test holds, as a feed counts the strokes that it makes, breaks and sheds
pub counted : (t : Bool) → bool_byte t ≡ shed_count t
unfolding shed_count
counted true = refl
counted false = refl

-- ---- the last stroke's rows

not_none : (b : Stroke) (o : Option Stroke) → o ≡ some b → o ≡ none → ⊥
not_none b o e q =
    let y : ◌≡◌ {A = ℕ} 0 1 = ap (λ (x : Option Stroke). elim x [ none ↦ 0 | some z ↦ 1 ]) (sym q ∙ e) in
    let w : ⊥ = omega arith in w

some-kept : (n : ℕ) (ns ms : List ℕ) (ks : List Merged) (fs : List Fractal) (b : Stroke) → last (strokes_with (take n ns) (take n ms) ks fs) ≡ some b → 1 ≤ n
unfolding strokes_with last
some-kept zero ns ms ks fs b e = absurd (not_none b none e refl)
some-kept (suc n) ns ms ks fs b e = omega arith

pub record LastRows (s : Stand) (k : MergedStore) (b : Stroke) : Type 0 where
  pub some_one : 1 ≤ s.strokes
  pub sum : total (bar_counts s) ≡ last_place s + last_bars s
  pub bars : b.bars ≡ take (last_bars s) (drop (last_place s) (merged_bars k))

some_inj : (a b : Stroke) → some a ≡ some b → b.bars ≡ a.bars
some_inj a b e = sym (ap (λ (x : Option Stroke). elim x [ none ↦ [] | some z ↦ z.bars ]) e)

last-rows : (s : Stand) (k : MergedStore) (f : FractalStore) (b : Stroke) → s.strokes ≤ length s.bars → s.strokes ≤ length s.fractals → last (kept_strokes s k f) ≡ some b
    → LastRows s k b
unfolding kept_strokes bar_counts fractal_counts last_place last_bars stroke_with
last-rows s k f b lb lf e =
    let one = some-kept s.strokes s.bars s.fractals (merged_bars k) (stored_fractals f) b e in
    let n = s.strokes - 1 in
    let ns = take n s.bars in
    let ms = take n s.fractals in
    let x = get_or s.bars n 0 in
    let y = get_or s.fractals n 0 in
    let K = merged_bars k in
    let F = stored_fractals f in
    let a = stroke_with (take y (drop (total ns) F)) (take x (drop (total ns) K)) in
    let q : length ns ≡ length ms = length-take-le n s.bars (omega arith) ∙ sym (length-take-le n s.fractals (omega arith)) in
    let g : last (kept_strokes s k f) ≡ some a =
    ap last ((λ i. strokes_with (take-before s.bars s.strokes one lb i) (take-before s.fractals s.strokes one lf i) K F) ∙ strokes-more ns ms x y K F q)
    ∙ last-append (strokes_with ns ms K F) a in
    record { some_one = one; sum = last_sum s one; bars = some_inj a b (sym g ∙ e) }

-- ---- the strokes of a stand are bare, and as many as it counts

pub bare_kept : (s : Stand) (k : MergedStore) (f : FractalStore) → map bare_stroke (kept_strokes s k f) ≡ kept_strokes s k f
unfolding bare_state state_of kept_strokes
bare_kept s k f = ap (λ x. x.strokes) (stored_bare s (record { raw = raw_store [] [] []; unfinished = k; strokes = k; fractals = f }))

pub strokes-many : (s : Stand) (k : MergedStore) (f : FractalStore) → length s.bars ≡ 65 → length s.fractals ≡ 65 → s.strokes ≤ 65 → length (kept_strokes s k f) ≡ s.strokes
unfolding kept_strokes bar_counts
strokes-many s k f lb lf few =
    strokes-length (bar_counts s) (fractal_counts s) (merged_bars k) (stored_fractals f) (counts-alike s lb lf) ∙ length-take-le s.strokes s.bars (omega arith)

-- ---- a step on the unfinished store leaves the strokes

module _ (s r : Stand) (k : MergedStore) (f : FractalStore) (w : MergedStore) (l : List Merged) (h : HasUnfinished s r w l) where
  same_kept : Kept s k f → Kept (with_unfinished s (length l)) k f
  unfolding with_unfinished bar_counts fractal_counts
  same_kept g = record { strokes = g.strokes; merged = g.merged; fractals = g.fractals; fits = g.fits; fewer = g.fewer }

  pub after_kept : Kept s k f → Kept r k f
  after_kept g = subst (λ (x : Stand). Kept x k f) (sym h.stand) (same_kept g)

  pub after-strokes : kept_strokes r k f ≡ kept_strokes s k f
  unfolding with_unfinished kept_strokes bar_counts fractal_counts
  after-strokes = ap (λ (x : Stand). strokes_with (take x.strokes x.bars) (take x.strokes x.fractals) (merged_bars k) (stored_fractals f)) h.stand

  pub after-counts : bar_counts r ≡ bar_counts s
  unfolding with_unfinished bar_counts
  after-counts = ap (λ (x : Stand). take x.strokes x.bars) h.stand

  pub after-settings : settings_of r ≡ settings_of s
  unfolding with_unfinished settings_of
  after-settings = ap settings_of h.stand

  pub after-raw-count : r.raw ≡ s.raw
  unfolding with_unfinished
  after-raw-count = ap (λ (x : Stand). x.raw) h.stand

  pub after-strokes-count : r.strokes ≡ s.strokes
  unfolding with_unfinished
  after-strokes-count = ap (λ (x : Stand). x.strokes) h.stand

init-few : (l : List Stroke) → length (init l) ≤ length l
unfolding init
init-few [] = omega arith
init-few (a ∷ []) = omega arith
init-few (a ∷ b ∷ l) = omega (arith, init-few (b ∷ l))

-- ---- the plan of a stand

module _ (s : Stand) (u k : MergedStore) (f : FractalStore) (p : Plan) (h : CanMove s u k f p) where
  abbrev l : List Merged
  l = kept_unfinished s u

  abbrev bs : List Stroke
  bs = kept_strokes s k f

  abbrev M0 : Moved
  M0 = make s.minimum l bs

  abbrev M : Moved
  M = move s.minimum l bs

  long : length l ≡ s.unfinished
  long = kept-unfinished s u h.unfinished h.fits

  plan : HasPlan s.minimum l bs p
  plan = has_plan s.minimum l bs p (full_sound bs h.strokes) h.plan

  makes : MakesAs s.minimum l bs p.cut p.found
  makes = makes_as s.minimum l bs p.cut p.found plan.planned.makes plan.planned.finds

  pub full : Full M0.kept
  full = makes.full (full_sound bs h.strokes)

  rest_in : rest_of p ≤ s.unfinished
  unfolding plan_with
  rest_in =
      let a = rest_in-view s.minimum (last_of (last bs)) (map candle_of l) in
      let b : rest_of p ≤ length (map candle_of l) = subst (λ (x : Plan). rest_of x ≤ length (map candle_of l)) (sym h.plan) a in
      omega (arith, length-map l candle_of, long)

  pub can_make : length s.bars ≡ 65 → length s.fractals ≡ 65 → CanMake s u k f p
  unfolding made_of kept_strokes
  can_make lb lf =
      let few = h.few in
      let most = h.most in
      let room = h.room in
      let kept = h.kept in
      let fit = kept.fits in
      let sum = bars_are (bar_counts s) (fractal_counts s) (merged_bars k) (stored_fractals f) (counts-alike s lb lf) (rw (merged-length k s.rooms.strokes kept.merged) fit) in
      record {
        kept = kept;
        makes = λ t. record { strokes = omega arith; merged = h.unfinished; unfinished = h.fits; inside = omega (arith, makes.inside t, long); fits = omega (arith, sum, plan.planned.counts, room); few = omega (arith, makes.inside t, long, h.fits, h.small) };
      }

  -- where the last stroke breaks
  pub breaks_so : is_some p.broken ≡ true → Breaks M0 M
  breaks_so t =
      let w = last_stroke (check_bi s.minimum (drop p.cut l)).stroke plan.stroke in
      move-breaks s.minimum l bs (ap (λ (m : Moved). m.broken) plan.planned.moves ∙ moved_broken p.broken M0 w l t)

  pub stays_so : is_some p.broken ≡ false → M ≡ M0
  stays_so t =
      let w = last_stroke (check_bi s.minimum (drop p.cut l)).stroke plan.stroke in
      plan.planned.moves ∙ moved_stays p.broken M0 w l t

  room_by : (m : Moved) → m.broken ≡ 1 → T (moved_fits s.rooms.unfinished m) → length m.left ≤ s.rooms.unfinished
  unfolding moved_fits joined_fits
  room_by m e t = leb→le (length m.left) s.rooms.unfinished (subst (λ (n : ℕ). T (joined_fits n s.rooms.unfinished m.left)) e t)

  pub joined-room : (b : Breaks M0 M) → length (joined b.stroke M0.left) ≤ s.rooms.unfinished
  unfolding moved_of
  joined-room b =
      let g = room_by M (ap (λ (m : Moved). m.broken) b.is) h.joins in
      subst (λ (x : List Merged). length x ≤ s.rooms.unfinished) (ap (λ (m : Moved). m.left) b.is) g

  -- once a stroke was made, or none
  module _ (v : Stand) (k' : MergedStore) (f' : FractalStore) (g : MadeWhere (is_some p.found) s u k f (p.cut + start_in p.found) (bars_made p.found) v k' f')
      (lb : length v.bars ≡ 65) (lf : length v.fractals ≡ 65) where
    kept_bare : kept_strokes v k' f' ≡ map bare_stroke M0.kept
    kept_bare =
        g.strokes
        ∙ ap (λ (x : List Stroke). add_if (is_some p.found) x (made_stroke l (p.cut + start_in p.found) (bars_made p.found))) (sym (bare_kept s k f))
        ∙ sym makes.kept

    same_list : kept_unfinished v u ≡ l
    same_list = ap (λ (n : ℕ). take n (merged_bars u)) g.rest.unfinished

    rows : (b : Breaks M0 M) → LastRows v k' b.stroke
    unfolding bare_stroke
    rows b =
        let few = g.kept.strokes in
        let e : last (kept_strokes v k' f') ≡ some (bare_stroke b.stroke) = ap last kept_bare ∙ last-map bare_stroke M0.kept ∙ ap (Option.map bare_stroke) b.is_last in
        let r = last-rows v k' f' (bare_stroke b.stroke) (omega arith) (omega arith) e in
        record { some_one = r.some_one; sum = r.sum; bars = r.bars }

    joins_as : (b : Breaks M0 M) → joined (stored_stroke k' (last_place v) (last_bars v)) (drop (rest_of p) (kept_unfinished v u)) ≡ joined b.stroke M0.left
    unfolding rest_of
    joins_as b =
        joined_stored b.stroke k' (last_place v) (last_bars v) (drop (rest_of p) (kept_unfinished v u)) (rows b).bars
        ∙ ap (joined b.stroke) (ap (drop (rest_of p)) same_list ∙ sym makes.left)

    breaks-at : (is_some p.broken) ≡ true → CanBreak v k' (drop (rest_of p) (kept_unfinished v u))
    breaks-at t =
        let b = breaks_so t in
        let r = rows b in
        let w = b.stroke in
        let two : 2 ≤ length w.bars = full_last M0.kept w full b.is_last in
        let most = length-take-most (last_bars v) (drop (last_place v) (merged_bars k')) in
        let same = ap length r.bars in
        let fit = g.kept.fits in
        let sum = r.sum in
        let rm : v.rooms.unfinished ≡ s.rooms.unfinished = ap (λ (x : Rooms). x.unfinished) g.rest.rooms in
        let all = ap length (joins_as b) in
        let room = joined-room b in
        record { kept = r.some_one; most = g.kept.strokes; two = omega arith; within = omega arith; room = omega arith }

    pub can_leave : CanLeave v u k' p
    can_leave =
        let rm : v.rooms.unfinished ≡ s.rooms.unfinished = ap (λ (x : Rooms). x.unfinished) g.rest.rooms in
        let un = g.rest.unfinished in
        let fit = h.fits in
        let inside = rest_in in
        record {
          unfinished = subst (λ (n : ℕ). SizedMerged u n) (sym rm) h.unfinished;
          strokes = g.kept.merged;
          fits = omega arith;
          inside = omega arith;
          breaks = breaks-at;
        }

    -- what is left, of a stand x that has these strokes
    left-from : (x r : Stand) (u' : MergedStore) (L : List Merged) → HasUnfinished x r u' L → L ≡ M.left → Kept x k' f' → kept_strokes x k' f' ≡ map bare_stroke M.kept
        → settings_of x ≡ settings_of s → x.rooms ≡ s.rooms → x.raw ≡ s.raw → total (bar_counts x) ≤ total (bar_counts v)
        → (T (elements_sized (total (bar_counts v)) k') → StaySized v.unfinished u r.unfinished u') → HasLeft s u k f r u' k' f'
    unfolding moved_of
    left-from x r u' L q e hk hs set rm rw' few stay =
        let fit = left-fits x r u' k' L q in
        let un : x.rooms.unfinished ≡ s.rooms.unfinished = ap (λ (z : Rooms). z.unfinished) rm in
        let fewer : total (bar_counts r) ≤ total (bar_counts v) = omega (arith, ap total (after-counts x r k' f' u' L q)) in
        record {
          unfinished = q.bars ∙ e;
          fits = omega arith;
          sized = subst (λ (n : ℕ). SizedMerged u' n) un q.sized;
          strokes = after-strokes x r k' f' u' L q ∙ hs;
          kept = after_kept x r k' f' u' L q hk;
          settings = after-settings x r k' f' u' L q ∙ set;
          rooms = left-rooms x r u' k' L q ∙ rm;
          raw = after-raw-count x r k' f' u' L q ∙ rw';
          elements =
              λ eu ek.
              let ev = g.elements eu ek in
              (stay ev (subst (λ (n : ℕ). T (elements_sized n u)) (sym g.rest.unfinished) eu), stay_fewer k' (total (bar_counts r)) (total (bar_counts v)) fewer ev);
        }

    off_settings : settings_of (without_last v) ≡ settings_of v
    unfolding without_last settings_of
    off_settings = refl

    off_rooms : (without_last v).rooms ≡ v.rooms
    unfolding without_last
    off_rooms = refl

    off_raw : (without_last v).raw ≡ v.raw
    unfolding without_last
    off_raw = refl

    off_fewer : 1 ≤ v.strokes → total (bar_counts (without_last v)) ≤ total (bar_counts v)
    unfolding without_last bar_counts last_place
    off_fewer one = omega (arith, last_sum v one)

    left-broken : (r : Stand) (u' : MergedStore) → (is_some p.broken) ≡ true
        → HasUnfinished (without_last v) r u' (joined (stored_stroke k' (last_place v) (last_bars v)) (drop (rest_of p) (kept_unfinished v u)))
        → (T (elements_sized (total (bar_counts v)) k') → StaySized v.unfinished u r.unfinished u') → HasLeft s u k f r u' k' f'
    left-broken r u' t q stay =
        let b = breaks_so t in
        let one = (rows b).some_one in
        let few = g.kept.strokes in
        let off = taken_off v k' f' g.kept one (omega arith) (omega arith) in
        left-from (without_last v) r u' (joined (stored_stroke k' (last_place v) (last_bars v)) (drop (rest_of p) (kept_unfinished v u))) q
        (joins_as b ∙ sym (ap (λ (m : Moved). m.left) b.is))
        off.kept
        (off.strokes ∙ ap init kept_bare ∙ init-map bare_stroke M0.kept ∙ ap (λ (m : Moved). map bare_stroke m.kept) (sym b.is))
        (off_settings ∙ g.rest.settings) (off_rooms ∙ g.rest.rooms) (off_raw ∙ g.rest.raw) (off_fewer one) stay

    left-kept : (r : Stand) (u' : MergedStore) → (is_some p.broken) ≡ false → HasUnfinished v r u' (drop (rest_of p) (kept_unfinished v u))
        → (T (elements_sized (total (bar_counts v)) k') → StaySized v.unfinished u r.unfinished u') → HasLeft s u k f r u' k' f'
    unfolding rest_of
    left-kept r u' t q stay =
        let e = stays_so t in
        left-from v r u' (drop (rest_of p) (kept_unfinished v u)) q
        (ap (drop (rest_of p)) same_list ∙ sym makes.left ∙ sym (ap (λ (m : Moved). m.left) e))
        g.kept (kept_bare ∙ ap (λ (m : Moved). map bare_stroke m.kept) (sym e)) g.rest.settings g.rest.rooms g.rest.raw (omega arith) stay

    left_by : (t : Bool) → (is_some p.broken) ≡ t → (r : Stand) (u' : MergedStore)
        → HasUnfinished (left_stand t v) r u' (left_bars t v k' (drop (rest_of p) (kept_unfinished v u)))
        → (T (elements_sized (total (bar_counts v)) k') → StaySized v.unfinished u r.unfinished u') → HasLeft s u k f r u' k' f'
    unfolding left_stand left_bars
    left_by true t r u' q stay = left-broken r u' t q stay
    left_by false t r u' q stay = left-kept r u' t q stay

    -- n unfinished bars are left
    pub has_left : (n : ℕ) (r : Stand) (u' : MergedStore) → r ≡ with_unfinished (left_stand (is_some p.broken) v) n
        → HasUnfinished (left_stand (is_some p.broken) v) (with_unfinished (left_stand (is_some p.broken) v) n) u' (left_bars (is_some p.broken) v k' (drop (rest_of p) (kept_unfinished v u)))
        → (T (elements_sized (total (bar_counts v)) k') → StaySized v.unfinished u n u') → HasLeft s u k f r u' k' f'
    unfolding with_unfinished
    has_left n r u' e q stay =
        let x = with_unfinished (left_stand (is_some p.broken) v) n in
        subst (λ (y : Stand). HasLeft s u k f y u' k' f') (sym e) (left_by (is_some p.broken) refl x u' q stay)

  -- ---- what is kept then

  full_by : (t : Bool) → (is_some p.broken) ≡ t → Full M.kept
  full_by true t = subst (λ (m : Moved). Full m.kept) (sym (breaks_so t).is) (full_init M0.kept full)
  full_by false t = subst (λ (m : Moved). Full m.kept) (sym (stays_so t)) full

  pub full_moved : Full (moved_of s u k f).kept
  unfolding moved_of
  full_moved = full_by (is_some p.broken) refl

  more_by : (t : Bool) (l : List Stroke) (b : Stroke) → length (add_if t l b) ≤ length l + 1
  unfolding add_if
  more_by true l b = omega (arith, length-append l (b ∷ []))
  more_by false l b = omega arith

  made-few : length M0.kept ≤ length bs + 1
  made-few =
      let a = more_by (is_some p.found) (map bare_stroke bs) (made_stroke l (p.cut + start_in p.found) (bars_made p.found)) in
      omega (arith, ap length makes.kept, length-map M0.kept bare_stroke, length-map bs bare_stroke)

  few_by : (t : Bool) → (is_some p.broken) ≡ t → length M.kept ≤ length bs + 1
  few_by true t = let few = made-few in omega (arith, ap (λ (m : Moved). length m.kept) (breaks_so t).is, init-few M0.kept)
  few_by false t = let few = made-few in omega (arith, ap (λ (m : Moved). length m.kept) (stays_so t))

  pub few_moved : length (moved_of s u k f).kept ≤ length bs + 1
  unfolding moved_of
  few_moved = few_by (is_some p.broken) refl

  -- ---- the numbers, and the oldest stroke

  made_by : (t : Bool) → (is_some p.broken) ≡ t → M.made ≡ shed_count (is_some p.found)
  made_by true t = ap (λ (m : Moved). m.made) (breaks_so t).is ∙ makes.made
  made_by false t = ap (λ (m : Moved). m.made) (stays_so t) ∙ makes.made

  broken_by_lem : (t : Bool) → (is_some p.broken) ≡ t → M.broken ≡ shed_count t
  unfolding shed_count
  broken_by_lem true t = ap (λ (m : Moved). m.broken) (breaks_so t).is
  broken_by_lem false t = ap (λ (m : Moved). m.broken) (stays_so t) ∙ make_unbroken s.minimum l bs

  module _ (v : Stand) (u' k' : MergedStore) (f' : FractalStore) (g : HasLeft s u k f v u' k' f') (lb : length v.bars ≡ 65) (lf : length v.fractals ≡ 65) where
    over-is : ltb v.most v.strokes ≡ over_of s (moved_of s u k f)
    unfolding over_of settings_of
    over-is =
        let a : v.most ≡ s.most = ap (λ x. x.most) g.settings in
        let b : v.strokes ≡ length (moved_of s u k f).kept =
        sym (strokes-many v k' f' lb lf g.kept.strokes) ∙ ap length g.strokes ∙ length-map (moved_of s u k f).kept bare_stroke in
        λ i. ltb (a i) (b i)

    made_of_lem : (moved_of s u k f).made ≡ shed_count (is_some p.found)
    unfolding moved_of
    made_of_lem = made_by (is_some p.broken) refl

    broken_of_lem : (moved_of s u k f).broken ≡ shed_count (is_some p.broken)
    unfolding moved_of
    broken_of_lem = broken_by_lem (is_some p.broken) refl

    pub has_moved : (r : Wrote) (k'' : MergedStore) (f'' : FractalStore) (over : Bool) → over ≡ ltb v.most v.strokes → ShedWhere (ltb v.most v.strokes) v k' f' r.stand k'' f''
        → r.made ≡ shed_count (is_some p.found) → r.broken ≡ shed_count (is_some p.broken) → r.shed ≡ shed_count over → HasMoved s u k f r u' k'' f''
    has_moved r k'' f'' over e w m b d =
        let o = over-is in
        let un = w.rest.unfinished in
        let fit = g.fits in
        record {
          unfinished = ap (λ (n : ℕ). take n (merged_bars u')) un ∙ g.unfinished;
          fits = omega arith;
          sized = g.sized;
          strokes = shed-kept (ltb v.most v.strokes) v r.stand k' f' k'' f'' (moved_of s u k f).kept w g.strokes ∙ ap (λ (t : Bool). map bare_stroke (shed_if t (moved_of s u k f).kept)) o;
          kept = w.kept;
          settings = w.rest.settings ∙ g.settings;
          rooms = w.rest.rooms ∙ g.rooms;
          raw = w.rest.raw ∙ g.raw;
          made = m ∙ sym made_of_lem;
          broken = b ∙ sym broken_of_lem;
          shed = d ∙ ap shed_count (e ∙ o);
          elements = λ eu ek. let z = g.elements eu ek in (subst (λ (n : ℕ). T (elements_sized n u')) (sym un) z.0, w.elements z.1);
        }

-- the unfinished store keeps its length
pub left-sized : (t : Bool) (v r : Stand) (w : MergedStore) (L : List Merged) (x : Rooms) → HasUnfinished (left_stand t v) r w L → v.rooms ≡ x → SizedMerged w x.unfinished
unfolding left_stand without_last
left-sized true v r w L x h e = subst (λ (z : Rooms). SizedMerged w z.unfinished) e h.sized
left-sized false v r w L x h e = subst (λ (z : Rooms). SizedMerged w z.unfinished) e h.sized
