-- The writing steps of a feed, one after the other, are the plain machine's step. Assumes nothing.
use Prim.Native.Nat.{ℕ, zero, suc, ◌+◌, ◌<◌, ◌≤◌}
use native.Mathlib.Omega.{arith}
use mathlib.Core.Path.{◌≡◌, refl, ap, sym, ◌∙◌, subst}
use mathlib.Core.Bool.{Bool, true, false, ◌&&◌, cond}
use mathlib.Core.List.{List, [], ◌∷◌, map}
use lib.ListN.{length, take, get_or, length-map, length-drop}
use lib.IntN.{ℤ, pos}
use lib.Signed.{lt_z}
use lib.Dec.{T, leb, ltb, eqb, leb→le, ltb→lt}
use lib.Ieee.Fits.{and_i, and_l, and_r}
use borrow.Author.Tests.{le-leb, eq-eqb, ltb-false}
use Rattle.bars.specs.declared.Bar.{Bar}
use Rattle.bars.specs.Bars.{Merged}
use Rattle.bars.specs.Lists.{every, last, skip_while}
use Rattle.bars.specs.Questions.{first_failed}
use Rattle.stores.specs.Stores.{RawStore, MergedStore, raw_part, raw_bars, merged_bars}
use Rattle.stores.specs.Code.StoreRows.{SizedRaw, SizedMerged}
use Rattle.stores.proofs.Columns.{merged-bars, raw-times}
use Rattle.machine.specs.Fractals.{Fractal}
use Rattle.machine.specs.Strokes.{Stroke}
use Rattle.machine.specs.Stand.{Settings, State}
use Rattle.machine.specs.Feed.{Moved, is_later, raw_with, merged_with, make, move, shed_if, shed_count, drop_before, drop_early, finish_if, finish, step_with, step}
use Rattle.machine.specs.FeedQuestions.{fewer_if, merged, moved_fits, question10, question11, question12, or_else, first_of, failed_after4}
use Rattle.machine.specs.Soundness.{bars_of, is_stroke, strokes_pass}
use Rattle.strokes.specs.declared.Stand.{Stand}
use Rattle.strokes.specs.declared.Rooms.{Rooms}
use Rattle.strokes.specs.StateRead.{stroke_with, strokes_with, stored_fractals, settings_of, state_of, bar_counts, fractal_counts, total, raw_sized, merged_sized, fractal_sized, stores_sized, counts_sized, elements_sized, sized, bare_stroke, bare_state}
use Rattle.strokes.specs.Lent.{FractalStore, Stores, stores_of}
use Rattle.strokes.specs.Code.ElementCounts.{StaySized}
use Rattle.strokes.specs.Code.BarSteps.{HasRaw, HasUnfinished, kept_raw, kept_unfinished, raw_only, with_raw}
use Rattle.strokes.specs.Code.StrokeSteps.{SizedFractals, Kept, kept_strokes}
use Rattle.strokes.proofs.StoredRaw.{raw_with-only}
use Rattle.strokes.proofs.StoredStates.{state-raw}
use Rattle.strokes.proofs.StoredStrokes.{kept-state}
use Rattle.sound.proofs.SoundFacts.{Facts, facts}
use Rattle.arith.proofs.Tests.{holds}
use Rattle.asking.specs.declared.plan.Plan.{Plan}
use Rattle.asking.specs.Code.Asked.{plan_for}
use Rattle.writing.specs.declared.Wrote.{Wrote}
use Rattle.writing.specs.Code.WriteSteps.{CanPut, CanKeep, bars_only, merged_from, drop_earlier}
use Rattle.writing.specs.Code.Written.{CanMove, HasMoved, CanWrite, IsWritten, made_of, moved_of, plan_with, over_of}
use Rattle.writing.proofs.StepLaws.{left-fits, left-rooms, raw-rooms, raw-fits}
use Rattle.writing.proofs.MachineMoves.{Full, full_shed}
use Rattle.writing.proofs.MoveLaws.{strokes-many, after_kept, after-strokes, after-counts, after-settings, after-raw-count, after-strokes-count, full_moved, few_moved}

-- ---- the questions that have passed

passes-all : (n : ℕ) (x y z : Bool) → first_of n (or_else x 10 (or_else y 11 (or_else z 12 0))) ≡ 0 → T x × T y × T z
unfolding first_of or_else
passes-all zero true true true e = (tt, tt, tt)
passes-all zero true true false e = absurd (omega arith)
passes-all zero true false z e = absurd (omega arith)
passes-all zero false y z e = absurd (omega arith)
passes-all (suc n) x y z e = absurd (omega arith)

questions : (c : Settings) (t : State) (b : Bar) → failed_after4 c t b ≡ 0 → T (question10 c t b) × T (question11 c t b) × T (question12 c t b)
unfolding failed_after4
questions c t b e = passes-all (first_failed (last t.raw) b) (question10 c t b) (question11 c t b) (question12 c t b) e

not-later : (raw : List Bar) (b : Bar) → is_later (last raw) b ≡ false → 1 ≤ length raw
unfolding is_later last
not-later [] b e = let y : ◌≡◌ {A = ℕ} 0 1 = ap (λ (t : Bool). cond t 0 1) e in absurd (omega arith)
not-later (a ∷ raw) b e = omega arith

fewer-held : (t : Bool) (n m : ℕ) → T (fewer_if t n m) → t ≡ true → n < m
unfolding fewer_if
fewer-held true n m h e = ltb→lt n m h
fewer-held false n m h e = let y : ◌≡◌ {A = ℕ} 1 0 = ap (λ (t : Bool). cond t 0 1) e in absurd (omega arith)

from-state : (t : Bool) (s : Stand) (m : Stores) (b : Bar) → merged_from t s m.raw m.unfinished b ≡ merged_with t (state_of s m) b
unfolding merged_from merged_with bars_only state_of
from-state true s m b = refl
from-state false s m b = refl

-- ---- raw bars earlier than the first kept stroke's first bar

unfoldable head_bars : List Stroke → List Merged
head_bars [] = []
head_bars (b ∷ bs) = b.bars

first-bars : (ns ms : List ℕ) (ks : List Merged) (fs : List Fractal) (b : Stroke) (r : List Stroke) → strokes_with ns ms ks fs ≡ b ∷ r → b.bars ≡ take (get_or ns 0 0) ks
unfolding strokes_with stroke_with head_bars
first-bars [] ms ks fs b r e = let y : 0 ≡ length (b ∷ r) = ap length e in absurd (omega arith)
first-bars (n ∷ ns) [] ks fs b r e = let y : 0 ≡ length (b ∷ r) = ap length e in absurd (omega arith)
first-bars (n ∷ ns) (m ∷ ms) ks fs b r e = sym (ap head_bars e)

front_time : (ks : List Merged) (ts : List ℤ) (n : ℕ) (raw : List Bar) → map (λ k. k.bar.time) ks ≡ ts → 1 ≤ length (take n ks)
    → drop_before (take n ks) raw ≡ skip_while (λ r. lt_z r.time (get_or ts 0 (pos 0))) raw
unfolding drop_before
front_time ks ts zero raw e h = absurd (omega arith)
front_time [] ts (suc n) raw e h = absurd (omega arith)
front_time (k ∷ ks) ts (suc n) raw e h = ap (λ (t : ℤ). skip_while (λ r. lt_z r.time t) raw) (ap (λ (x : List ℤ). get_or x 0 (pos 0)) e)

early_by_lem : (n : ℕ) (t : ℤ) (bs : List Stroke) (raw : List Bar) → n ≡ length bs
    → ((b : Stroke) (r : List Stroke) → bs ≡ b ∷ r → drop_before b.bars raw ≡ skip_while (λ x. lt_z x.time t) raw) → drop_earlier n t raw ≡ drop_early bs raw
unfolding drop_earlier drop_early
early_by_lem zero t [] raw e f = refl
early_by_lem zero t (b ∷ bs) raw e f = absurd (omega arith)
early_by_lem (suc n) t [] raw e f = absurd (omega arith)
early_by_lem (suc n) t (b ∷ bs) raw e f = sym (f b bs refl)

map-times : (l : List Merged) → map (λ k. k.bar.time) l ≡ map (λ b. b.time) (map (λ k. k.bar) l)
map-times [] = refl
map-times (k ∷ l) = ap (λ (x : List ℤ). k.bar.time ∷ x) (map-times l)

module _ (s : Stand) (k : MergedStore) (f : FractalStore) (bs : List Stroke) (h : Kept s k f) (lb : length s.bars ≡ 65) (lf : length s.fractals ≡ 65)
    (e : kept_strokes s k f ≡ map bare_stroke bs) where
  counted : s.strokes ≡ length bs
  counted = sym (strokes-many s k f lb lf h.strokes) ∙ ap length e ∙ length-map bs bare_stroke

  first-is : (b : Stroke) (r : List Stroke) → bs ≡ b ∷ r → b.bars ≡ take (get_or (bar_counts s) 0 0) (merged_bars k)
  unfolding kept_strokes bare_stroke
  first-is b r q = first-bars (bar_counts s) (fractal_counts s) (merged_bars k) (stored_fractals f) (bare_stroke b) (map bare_stroke r) (e ∙ ap (map bare_stroke) q)

  early-is : Full bs → (raw : List Bar) → drop_earlier s.strokes (get_or k.times 0 (pos 0)) raw ≡ drop_early bs raw
  early-is full raw =
      let room = s.rooms.strokes in
      let times : map (λ k. k.bar.time) (merged_bars k) ≡ k.times =
      map-times (merged_bars k) ∙ ap (map (λ b. b.time)) (merged-bars k room h.merged) ∙ raw-times (raw_part k) room h.merged.raw in
      early_by_lem s.strokes (get_or k.times 0 (pos 0)) bs raw counted
      (λ b r q.
      let two : 2 ≤ length b.bars = (subst Full q full).0 in
      let a = first-is b r q in
      ap (λ (x : List Merged). drop_before x raw) a ∙ front_time (merged_bars k) k.times (get_or (bar_counts s) 0 0) raw times (omega (arith, ap length a)))

-- ---- sizes as tests

is_le : (a b : ℕ) → a ≤ b → T (leb a b)
is_le a b h = holds (le-leb a b h)

is_eq : (a b : ℕ) → a ≡ b → T (eqb a b)
is_eq a b h = holds (eq-eqb a b h)

raw_test : (n : ℕ) (m : RawStore) → SizedRaw m n → T (raw_sized n m)
unfolding raw_sized
raw_test n m h =
    let t = eqb (length m.times) n in
    let i = eqb (length m.ids) n in
    let p = eqb (length m.prices) n in
    and_i t (i && p) (is_eq (length m.times) n h.times) (and_i i p (is_eq (length m.ids) n h.ids) (is_eq (length m.prices) n h.prices))

merged_test : (n : ℕ) (m : MergedStore) → SizedMerged m n → T (merged_sized n m)
unfolding merged_sized
merged_test n m h =
    let t = eqb (length m.times) n in
    let i = eqb (length m.ids) n in
    let p = eqb (length m.prices) n in
    let c = eqb (length m.counts) n in
    let e = eqb (length m.elements) n in
    and_i (t && (i && p)) (c && e)
    (and_i t (i && p) (is_eq (length m.times) n h.raw.times) (and_i i p (is_eq (length m.ids) n h.raw.ids) (is_eq (length m.prices) n h.raw.prices)))
    (and_i c e (is_eq (length m.counts) n h.counts) (is_eq (length m.elements) n h.elements))

fractal_test : (n : ℕ) (m : FractalStore) → SizedFractals m n → T (fractal_sized n m)
unfolding fractal_sized
fractal_test n m h =
    and_i (eqb (length m.stamps) n) (eqb (length m.prices) n) (is_eq (length m.stamps) n h.stamps) (is_eq (length m.prices) n h.prices)

record Sized (r : Stand) (x : RawStore) (u k : MergedStore) (f : FractalStore) : Type 0 where
  raw : SizedRaw x r.rooms.raw
  unfinished : SizedMerged u r.rooms.unfinished
  strokes : SizedMerged k r.rooms.strokes
  fractals : SizedFractals f r.rooms.strokes
  few-raw : r.raw ≤ r.rooms.raw
  few-unfinished : r.unfinished ≤ r.rooms.unfinished
  few-strokes : r.strokes ≤ 64
  few-bars : total (bar_counts r) ≤ r.rooms.strokes
  unfinished-elements : T (elements_sized r.unfinished u)
  strokes-elements : T (elements_sized (total (bar_counts r)) k)

all-sized : (r : Stand) (x : RawStore) (u k : MergedStore) (f : FractalStore) → Sized r x u k f → T (sized r (stores_of x u k f))
unfolding sized stores_sized counts_sized stores_of
all-sized r x u k f h =
    let o = r.rooms in
    let r1 = raw_sized o.raw x in
    let r2 = merged_sized o.unfinished u in
    let r3 = merged_sized o.strokes k in
    let r4 = fractal_sized o.strokes f in
    let c1 = leb r.raw o.raw in
    let c2 = leb r.unfinished o.unfinished in
    let c3 = leb r.strokes 64 in
    let c4 = leb (total (bar_counts r)) o.strokes in
    let e1 = elements_sized r.unfinished u in
    let e2 = elements_sized (total (bar_counts r)) k in
    and_i ((r1 && r2) && (r3 && r4)) (((c1 && c2) && (c3 && c4)) && (e1 && e2))
    (and_i (r1 && r2) (r3 && r4) (and_i r1 r2 (raw_test o.raw x h.raw) (merged_test o.unfinished u h.unfinished)) (and_i r3 r4 (merged_test o.strokes k h.strokes) (fractal_test o.strokes f h.fractals)))
    (and_i ((c1 && c2) && (c3 && c4)) (e1 && e2)
    (and_i (c1 && c2) (c3 && c4) (and_i c1 c2 (is_le r.raw o.raw h.few-raw) (is_le r.unfinished o.unfinished h.few-unfinished))
    (and_i c3 c4 (is_le r.strokes 64 h.few-strokes) (is_le (total (bar_counts r)) o.strokes h.few-bars)))
    (and_i e1 e2 h.unfinished-elements h.strokes-elements))

shed-few : (most : ℕ) (bs : List Stroke) (t : Bool) → ltb most (length bs) ≡ t → length bs ≤ most + 1 → length (shed_if t bs) ≤ most
unfolding shed_if
shed-few most bs true e h = omega (arith, length-drop 1 bs)
shed-few most bs false e h = ltb-false most (length bs) e

-- what a step on the raw store leaves as it was
record RawKeeps (s r : Stand) : Type 0 where
  settings : settings_of r ≡ settings_of s
  unfinished : r.unfinished ≡ s.unfinished
  strokes : r.strokes ≡ s.strokes
  bars : bar_counts r ≡ bar_counts s

kept-counts : (s r : Stand) (m : RawStore) (l : List Bar) → HasRaw s r m l → RawKeeps s r
unfolding with_raw settings_of bar_counts
kept-counts s r m l h =
    record {
      settings = ap settings_of h.stand;
      unfinished = ap (λ (x : Stand). x.unfinished) h.stand;
      strokes = ap (λ (x : Stand). x.strokes) h.stand;
      bars = ap (λ (x : Stand). take x.strokes x.bars) h.stand;
    }

-- ---- one step after the other

module _ (s : Stand) (m : Stores) (b : Bar) (later : Bool) (p : Plan) (h : CanWrite s m b later p) (lb : length s.bars ≡ 65) (lf : length s.fractals ≡ 65) where
  abbrev S : State
  S = state_of s m

  abbrev L : List Merged
  L = merged S b

  abbrev MV : Moved
  MV = move s.minimum L S.strokes

  abbrev MK : Moved
  MK = make s.minimum L S.strokes

  pub F : Facts s m
  F = facts s m lb lf h.sound

  asked : T (question10 (settings_of s) S b) × T (question11 (settings_of s) S b) × T (question12 (settings_of s) S b)
  asked = questions (settings_of s) S b h.passes

  merged-is : merged_from later s m.raw m.unfinished b ≡ L
  unfolding merged
  merged-is = from-state later s m b ∙ ap (λ (t : Bool). merged_with t S b) h.later-is

  ten : later ≡ true → length S.raw < s.rooms.raw
  unfolding question10 settings_of
  ten e = fewer-held (is_later (last S.raw) b) (length S.raw) s.rooms.raw asked.0 (sym h.later-is ∙ e)

  eleven : T (leb (length L) s.rooms.unfinished) × T (moved_fits s.rooms.unfinished MV)
  unfolding question11 settings_of
  eleven =
      let x = leb (length L) s.rooms.unfinished in
      let y = moved_fits s.rooms.unfinished MV in
      (and_l x y asked.1, and_r x y asked.1)

  twelve : bars_of MK.kept ≤ s.rooms.strokes
  unfolding question12 settings_of
  twelve = leb→le (bars_of MK.kept) s.rooms.strokes asked.2

  some-raw : later ≡ false → 1 ≤ s.raw
  some-raw e = omega (arith, not-later S.raw b (sym h.later-is ∙ e), F.raw-length)

  pub can_put : CanPut s m.raw m.unfinished later b
  can_put =
      record {
        rising = F.rising-raw;
        merges =
            record {
              unfinished = F.unfinished;
              fits = F.few-unfinished;
              room = subst (λ (x : List Merged). length x ≤ s.rooms.unfinished) (sym merged-is) (leb→le (length L) s.rooms.unfinished eleven.0);
            };
        replaces = λ e. F.last_has (some-raw e);
      }

  module _ (v : Stand) (u : MergedStore) (q : HasUnfinished s v u (merged_from later s m.raw m.unfinished b))
      (stay : StaySized s.unfinished m.unfinished v.unfinished u) where
    abbrev L1 : List Merged
    L1 = merged_from later s m.raw m.unfinished b

    abbrev K : MergedStore
    K = m.strokes

    abbrev R : FractalStore
    R = m.fractals

    pub rooms1 : v.rooms ≡ s.rooms
    rooms1 = left-rooms s v u K L1 q

    list1 : kept_unfinished v u ≡ L
    list1 = q.bars ∙ merged-is

    strokes1 : kept_strokes v K R ≡ S.strokes
    strokes1 = after-strokes s v K R u L1 q ∙ sym (kept-state s m)

    minimum1 : v.minimum ≡ s.minimum
    unfolding settings_of
    minimum1 = ap (λ (x : Settings). x.minimum) (after-settings s v K R u L1 q)

    most1 : v.most ≡ s.most
    unfolding settings_of
    most1 = ap (λ (x : Settings). x.most) (after-settings s v K R u L1 q)

    moved_is : moved_of v u K R ≡ MV
    unfolding moved_of
    moved_is = λ i. move (minimum1 i) (list1 i) (strokes1 i)

    made-is : made_of v u K R ≡ MK
    unfolding made_of
    made-is = λ i. make (minimum1 i) (list1 i) (strokes1 i)

    plan-same : plan_for (settings_of s) S b ≡ plan_with s.minimum L S.strokes
    unfolding plan_for plan_with settings_of
    plan-same = refl

    all-strokes : T (every is_stroke S.strokes)
    unfolding strokes_pass
    all-strokes = F.clauses.strokes

    pub can_move : CanMove v u K R p
    can_move =
        let fit = left-fits s v u K L1 q in
        let ru = ap (λ (x : Rooms). x.unfinished) rooms1 in
        let rs = ap (λ (x : Rooms). x.strokes) rooms1 in
        let n = after-strokes-count s v K R u L1 q in
        let at = F.at_most in
        let top = F.most.to in
        let mo = most1 in
        let ro = F.room-unfinished.to in
        record {
          unfinished = subst (λ (x : Rooms). SizedMerged u x.unfinished) (sym rooms1) q.sized;
          fits = omega arith;
          kept = after_kept s v K R u L1 q F.kept;
          few = omega arith;
          most = omega arith;
          strokes = subst (λ (x : List Stroke). T (every is_stroke x)) (sym strokes1) all-strokes;
          plan = h.plan-is ∙ plan-same ∙ sym (λ i. plan_with (minimum1 i) (list1 i) (strokes1 i));
          joins = subst T (sym (λ i. moved_fits (rooms1 i).unfinished (moved_is i))) eleven.1;
          room = omega (arith, ap (λ (x : Moved). bars_of x.kept) made-is, twelve);
          small = omega arith;
        }

    module _ (w : Wrote) (u' k' : MergedStore) (f' : FractalStore) (g : HasMoved v u K R w u' k' f') where
      pub rooms2 : w.stand.rooms ≡ s.rooms
      rooms2 = g.rooms ∙ rooms1

      raw2 : w.stand.raw ≡ s.raw
      raw2 = g.raw ∙ after-raw-count s v K R u L1 q

      pub can_keep : CanKeep w.stand m.raw (length k'.times) later
      can_keep =
          let rr = ap (λ (x : Rooms). x.raw) rooms2 in
          let rs = ap (λ (x : Rooms). x.strokes) rooms2 in
          let few = F.few-raw in
          let same = raw2 in
          let long = F.raw-length in
          record {
            sized = subst (λ (x : Rooms). SizedRaw m.raw x.raw) (sym rooms2) F.raw;
            fits = omega arith;
            puts = λ e. omega (arith, ten e);
            replaces = λ e. omega (arith, some-raw e);
            shows = λ o. omega (arith, g.kept.merged.raw.times, F.room-strokes.from);
          }

      abbrev over : Bool
      over = ltb s.most (length MV.kept)

      over-is : over_of v (moved_of v u K R) ≡ over
      unfolding over_of
      over-is = λ i. ltb (most1 i) (length (moved_is i).kept)

      strokes2 : kept_strokes w.stand k' f' ≡ map bare_stroke (shed_if over MV.kept)
      strokes2 = g.strokes ∙ (λ i. map bare_stroke (shed_if (over-is i) (moved_is i).kept))

      full2 : Full (shed_if over MV.kept)
      full2 = full_shed over MV.kept (subst (λ (x : Moved). Full x.kept) moved_is (full_moved v u K R p can_move))

      few2 : length (shed_if over MV.kept) ≤ s.most
      few2 =
          let a = few_moved v u K R p can_move in
          let at = F.at_most in
          let n = F.strokes-length in
          shed-few s.most MV.kept over refl (omega (arith, ap (λ (x : Moved). length x.kept) moved_is, ap length strokes1))

      module _ (r : Stand) (x : RawStore)
          (z : HasRaw w.stand r x (drop_earlier w.stand.strokes (get_or k'.times 0 (pos 0)) (raw_with later (raw_only (kept_raw w.stand m.raw)) b)))
          (lr : length r.bars ≡ 65) (lq : length r.fractals ≡ 65) where
        lb' : length w.stand.bars ≡ 65
        unfolding with_raw
        lb' = sym (ap (λ (y : Stand). length y.bars) z.stand) ∙ lr

        lf' : length w.stand.fractals ≡ 65
        unfolding with_raw
        lf' = sym (ap (λ (y : Stand). length y.fractals) z.stand) ∙ lq

        abbrev l : List Bar
        l = drop_earlier w.stand.strokes (get_or k'.times 0 (pos 0)) (raw_with later (raw_only (kept_raw w.stand m.raw)) b)

        raws : raw_with later (raw_only (kept_raw w.stand m.raw)) b ≡ raw_with (is_later (last S.raw) b) S b
        unfolding state_of
        raws =
            ap (λ (n : ℕ). raw_with later (raw_only (take n (raw_bars m.raw))) b) raw2
            ∙ sym (raw_with-only later S b)
            ∙ ap (λ (t : Bool). raw_with t S b) h.later-is

        raw-is : l ≡ drop_early (shed_if over MV.kept) (raw_with (is_later (last S.raw) b) S b)
        raw-is =
            ap (λ (y : List Bar). drop_earlier w.stand.strokes (get_or k'.times 0 (pos 0)) y) raws
            ∙ early-is w.stand k' f' (shed_if over MV.kept) g.kept lb' lf' strokes2 full2 (raw_with (is_later (last S.raw) b) S b)

        left2 : kept_unfinished w.stand u' ≡ MV.left
        left2 = g.unfinished ∙ ap (λ (y : Moved). y.left) moved_is

        read : state_of r (stores_of x u' k' f') ≡ record { raw = l; unfinished = kept_unfinished w.stand u'; strokes = kept_strokes w.stand k' f' }
        unfolding stores_of state_of kept_strokes
        read = state-raw w.stand r (stores_of m.raw u' k' f') x l z

        step_is : bare_state (step (settings_of s) S b).state
            ≡ record { raw = drop_early (shed_if over MV.kept) (raw_with (is_later (last S.raw) b) S b); unfinished = MV.left; strokes = map bare_stroke (shed_if over MV.kept) }
        unfolding step step_with finish finish_if bare_state settings_of merged
        step_is = refl

        events_are : (step (settings_of s) S b).events ≡ record { made = MV.made; broken = MV.broken; shed = shed_count over }
        unfolding step step_with finish finish_if settings_of merged
        events_are = refl

        settings2 : settings_of r ≡ settings_of s
        settings2 = (kept-counts w.stand r x l z).settings ∙ g.settings ∙ after-settings s v K R u L1 q

        sizes2 : T (sized r (stores_of x u' k' f'))
        sizes2 =
            let rr : r.rooms ≡ w.stand.rooms = raw-rooms w.stand r x l z in
            let ru : r.rooms.unfinished ≡ v.rooms.unfinished = ap (λ (y : Rooms). y.unfinished) (rr ∙ g.rooms) in
            let rs : r.rooms.strokes ≡ w.stand.rooms.strokes = ap (λ (y : Rooms). y.strokes) rr in
            let ra : r.rooms.raw ≡ w.stand.rooms.raw = ap (λ (y : Rooms). y.raw) rr in
            let c = kept-counts w.stand r x l z in
            let eu : T (elements_sized v.unfinished u) = stay F.sizes.unfinished in
            let ek : T (elements_sized (total (bar_counts v)) K) = subst (λ (y : List ℕ). T (elements_sized (total y) K)) (sym (after-counts s v K R u L1 q)) F.sizes.strokes in
            let el = g.elements eu ek in
            let gf = g.fits in
            let kf = g.kept.fits in
            let n = counted w.stand k' f' (shed_if over MV.kept) g.kept lb' lf' strokes2 in
            let few = few2 in
            let top = F.most.to in
            all-sized r x u' k' f'
            (record {
              raw = subst (λ (y : ℕ). SizedRaw x y) (sym ra) z.sized;
              unfinished = subst (λ (y : ℕ). SizedMerged u' y) (sym ru) g.sized;
              strokes = subst (λ (y : ℕ). SizedMerged k' y) (sym rs) g.kept.merged;
              fractals = subst (λ (y : ℕ). SizedFractals f' y) (sym rs) g.kept.fractals;
              few-raw = raw-fits w.stand r x l z;
              few-unfinished = omega (arith, c.unfinished);
              few-strokes = omega (arith, c.strokes);
              few-bars = omega (arith, ap total c.bars);
              unfinished-elements = subst (λ (y : ℕ). T (elements_sized y u')) (sym c.unfinished) el.0;
              strokes-elements = subst (λ (y : List ℕ). T (elements_sized (total y) k')) (sym c.bars) el.1;
            })

        pub is-written : (y : Wrote) → y.stand ≡ r → y.made ≡ w.made → y.broken ≡ w.broken → y.shed ≡ w.shed → IsWritten s m b y (stores_of x u' k' f')
        is-written y e a c d =
            record {
              state =
                  ap (λ (t : Stand). state_of t (stores_of x u' k' f')) e
                  ∙ read
                  ∙ (λ i. record { raw = raw-is i; unfinished = left2 i; strokes = strokes2 i })
                  ∙ sym step_is;
              events =
                  (λ i. record {
                    made = (a ∙ g.made ∙ ap (λ (t : Moved). t.made) moved_is) i;
                    broken = (c ∙ g.broken ∙ ap (λ (t : Moved). t.broken) moved_is) i;
                    shed = (d ∙ g.shed ∙ ap shed_count over-is) i;
                  })
                  ∙ sym events_are;
              settings = ap settings_of e ∙ settings2;
              sizes = subst (λ (t : Stand). T (sized t (stores_of x u' k' f'))) (sym e) sizes2;
            }
