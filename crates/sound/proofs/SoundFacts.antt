-- What a step may count on once question 4 has passed: each clause of soundness, the lengths and counts of the stores, and what stands last in them.
-- Assumes nothing.
use Prim.Native.Nat.{ℕ, ◌+◌, ◌≤◌}
use native.Mathlib.Omega.{arith}
use mathlib.Core.Path.{◌≡◌, refl, ◌∙◌}
use mathlib.Core.Bool.{Bool, true, ◌&&◌}
use mathlib.Core.List.{List, [], ◌∷◌}
use lib.ListN.{length, take, drop, length-take, length-drop}
use lib.Seq.{length-take-le}
use lib.IntN.{ℤ}
use lib.Dec.{T, leb, leb→le}
use lib.Ieee.Fits.{and_l, and_r}
use Rattle.bars.specs.declared.Bar.{Bar}
use Rattle.bars.specs.Bars.{Merged}
use Rattle.bars.specs.Lists.{every, last}
use Rattle.stores.specs.Stores.{merged_bars}
use Rattle.stores.specs.Code.StoreRows.{SizedRaw, SizedMerged, rising}
use Rattle.stores.proofs.Columns.{merged-length}
use Rattle.strokes.specs.declared.Stand.{Stand}
use Rattle.machine.specs.Fractals.{Fractal}
use Rattle.machine.specs.Stand.{Settings, State}
use Rattle.machine.specs.Soundness.{is_room, rooms_pass, bars_of, fewer_fractals, counts_fit, is_setting, is_places, settings_pass, few_strokes, raw_pass, merged_pass, rises, bar_times, merged_times, stroke_rises, times_rise, strokes_pass, elements_kept, closes, newest_in, newest_last, settings_sound, lists_sound, sound_but, sound}
use Rattle.strokes.specs.StateRead.{stroke_with, strokes_with, stored_fractals, settings_of, state_of, bar_counts, fractal_counts, total, stores_sized, counts_sized, elements_sized, sized}
use Rattle.strokes.specs.Lent.{Stores}
use Rattle.strokes.specs.Code.BarSteps.{RisingRaw, LastHas}
use Rattle.strokes.specs.Code.StrokeSteps.{SizedFractals, kept_strokes, Kept, LastStands}
use Rattle.strokes.proofs.StoredStates.{kept-raw, kept-unfinished, rising-raw, last_has}
use Rattle.strokes.proofs.StoredStrokes.{kept_of_lem, last-stands, strokes-length}
use Rattle.sound.specs.Code.SoundStand.{numbers_pass}
use Rattle.sound.specs.StandSound.{IsSound, stores_sound}
use Rattle.arith.proofs.Tests.{pair, yes, holds}
use Rattle.sound.proofs.SoundFits.{Fit, fit}

both : (a b : Bool) → T (a && b) → T a × T b
both a b h = (and_l a b h, and_r a b h)

-- question 4 has passed
pub stores-sound : (s : Stand) (m : Stores) → stores_sound s m ≡ true → IsSound s m
unfolding stores_sound
stores-sound s m e =
    let k = both (sized s m) (sound (settings_of s) (state_of s m)) (holds e) in
    record { sizes = k.0; state = k.1 }

-- ---- the clauses one by one

pub record Clauses (c : Settings) (s : State) : Type 0 where
  pub rooms : T (rooms_pass c)
  pub settings : T (settings_pass c)
  pub counts : T (counts_fit c s)
  pub few : T (few_strokes c.most s)
  pub raw : T (raw_pass s)
  pub merged : T (merged_pass s)
  pub times : T (times_rise s)
  pub strokes : T (strokes_pass s)
  pub elements : T (elements_kept s)
  pub newest : T (newest_last s)

pub clauses : (c : Settings) (s : State) → T (sound c s) → Clauses c s
unfolding sound sound_but settings_sound lists_sound
clauses c s h =
    let a = few_strokes c.most s && raw_pass s in
    let b = merged_pass s && times_rise s in
    let d = strokes_pass s && elements_kept s in
    let g = rooms_pass c && settings_pass c in
    let l = (a && b) && d in
    let n = both (g && (counts_fit c s && l)) (newest_last s) h in
    let u = both g (counts_fit c s && l) n.0 in
    let v = both (counts_fit c s) l u.1 in
    let w = both (a && b) d v.1 in
    let ab = both a b w.0 in
    let set = both (rooms_pass c) (settings_pass c) u.0 in
    let fr = both (few_strokes c.most s) (raw_pass s) ab.0 in
    let mt = both (merged_pass s) (times_rise s) ab.1 in
    let se = both (strokes_pass s) (elements_kept s) w.1 in
    record {
      rooms = set.0;
      settings = set.1;
      counts = v.0;
      few = fr.0;
      raw = fr.1;
      merged = mt.0;
      times = mt.1;
      strokes = se.0;
      elements = se.1;
      newest = n.1;
    }

-- ---- the sizes one by one

pub record Sizes (s : Stand) (m : Stores) : Type 0 where
  pub stores : T (stores_sized s m)
  pub counts : T (counts_sized s)
  pub unfinished : T (elements_sized s.unfinished m.unfinished)
  pub strokes : T (elements_sized (total (bar_counts s)) m.strokes)

pub sizes : (s : Stand) (m : Stores) → T (sized s m) → Sizes s m
unfolding sized
sizes s m h =
    let e = elements_sized s.unfinished m.unfinished in
    let f = elements_sized (total (bar_counts s)) m.strokes in
    let a = both (stores_sized s m) (counts_sized s && (e && f)) h in
    let b = both (counts_sized s) (e && f) a.1 in
    let c = both e f b.1 in
    record { stores = a.0; counts = b.0; unfinished = c.0; strokes = c.1 }

-- the numbers pass
pub numbers-sound : (s : Stand) (m : Stores) → IsSound s m → T (numbers_pass s)
unfolding numbers_pass settings_sound
numbers-sound s m h =
    let z = sizes s m h.sizes in
    let c = clauses (settings_of s) (state_of s m) h.state in
    pair (counts_sized s) (settings_sound (settings_of s)) z.counts (pair (rooms_pass (settings_of s)) (settings_pass (settings_of s)) c.rooms c.settings)

-- every store has its room, and the counts fit
pub sound_fit : (s : Stand) (m : Stores) → IsSound s m → Fit s m
sound_fit s m h = fit s m (yes (stores_sized s m) (sizes s m h.sizes).stores) (yes (numbers_pass s) (numbers-sound s m h))

-- ---- as many are kept as are counted

pub bars_are : (ns ms : List ℕ) (ks : List Merged) (fs : List Fractal) → length ns ≡ length ms → total ns ≤ length ks → bars_of (strokes_with ns ms ks fs) ≡ total ns
unfolding strokes_with stroke_with bars_of total
bars_are [] ms ks fs e h = refl
bars_are (n ∷ ns) [] ks fs e h = absurd (omega arith)
bars_are (n ∷ ns) (m ∷ ms) ks fs e h =
    let a : length (take n ks) ≡ n = length-take-le n ks (omega arith) in
    let b = bars_are ns ms (drop n ks) (drop n fs) (omega arith) (omega (arith, length-drop n ks)) in
    λ j. a j + b j

pub counts-alike : (s : Stand) → length s.bars ≡ 65 → length s.fractals ≡ 65 → length (bar_counts s) ≡ length (fractal_counts s)
unfolding bar_counts fractal_counts
counts-alike s lb lf = omega (arith, length-take s.strokes s.bars, length-take s.strokes s.fractals)

-- ---- where a raw bar is kept, an unfinished one is

newest-some : (t : ℤ) (l : List Merged) → T (closes t (last l)) → 1 ≤ length l
unfolding closes last
newest-some t [] h = absurd h
newest-some t (k ∷ l) h = omega arith

-- the newest raw bar's time, on which the last of these unfinished bars ends
pub record Closed (l : List Merged) : Type 0 where
  pub time : ℤ
  pub ends : T (closes time (last l))
  pub kept : 1 ≤ length l

pub closed : (raw : List Bar) (l : List Merged) → 1 ≤ length raw → T (newest_in (last raw) l) → Closed l
unfolding last newest_in
closed [] l h k = absurd (omega arith)
closed (a ∷ []) l h k = record { time = a.time; ends = k; kept = newest-some a.time l k }
closed (a ∷ b ∷ raw) l h k = closed (b ∷ raw) l (omega arith) k

-- ---- all of it

-- a store holds 16 to 65,536 bars
pub record Room (n : ℕ) : Type 0 where
  pub from : 16 ≤ n
  pub to : n ≤ 65536

-- a setting is 1 to 64
pub record Setting (n : ℕ) : Type 0 where
  pub from : 1 ≤ n
  pub to : n ≤ 64

is-room : (n : ℕ) → T (is_room n) → Room n
unfolding is_room
is-room n h =
    let k = both (leb 16 n) (leb n 65536) h in
    record { from = leb→le 16 n k.0; to = leb→le n 65536 k.1 }

is_setting_lem : (n : ℕ) → T (is_setting n) → Setting n
unfolding is_setting
is_setting_lem n h =
    let k = both (leb 1 n) (leb n 64) h in
    record { from = leb→le 1 n k.0; to = leb→le n 64 k.1 }

pub record Facts (s : Stand) (m : Stores) : Type 0 where
  -- the lengths of the stores
  pub raw : SizedRaw m.raw s.rooms.raw
  pub unfinished : SizedMerged m.unfinished s.rooms.unfinished
  pub strokes : SizedMerged m.strokes s.rooms.strokes
  pub fractals : SizedFractals m.fractals s.rooms.strokes
  -- the counts
  pub few-raw : s.raw ≤ s.rooms.raw
  pub few-unfinished : s.unfinished ≤ s.rooms.unfinished
  pub few-strokes : s.strokes ≤ 64
  pub few-bars : total (bar_counts s) ≤ s.rooms.strokes
  pub at_most : s.strokes ≤ s.most
  -- the settings
  pub room-raw : Room s.rooms.raw
  pub room-unfinished : Room s.rooms.unfinished
  pub room-strokes : Room s.rooms.strokes
  pub minimum : Setting s.minimum
  pub most : Setting s.most
  -- the lists that are read off the stores
  pub raw-length : length (state_of s m).raw ≡ s.raw
  pub unfinished-length : length (state_of s m).unfinished ≡ s.unfinished
  pub strokes-length : length (state_of s m).strokes ≡ s.strokes
  pub bars-length : bars_of (state_of s m).strokes ≡ total (bar_counts s)
  -- what the steps on each store ask
  pub rising-raw : RisingRaw s m.raw
  pub rising-times : T (rising (take s.raw m.raw.times))
  pub kept : Kept s m.strokes m.fractals
  pub last_has : 1 ≤ s.raw → LastHas s m.unfinished
  pub last-stands : 1 ≤ s.strokes → LastStands s s.rooms.strokes
  -- the clauses and the sizes that they were read off
  pub clauses : Clauses (settings_of s) (state_of s m)
  pub sizes : Sizes s m

module _ (s : Stand) (m : Stores) (lb : length s.bars ≡ 65) (lf : length s.fractals ≡ 65) (h : IsSound s m) where
  f : Fit s m
  f = sound_fit s m h

  z : Sizes s m
  z = sizes s m h.sizes

  c : Clauses (settings_of s) (state_of s m)
  c = clauses (settings_of s) (state_of s m) h.state

  rooms_are : Room s.rooms.raw × Room s.rooms.unfinished × Room s.rooms.strokes
  unfolding rooms_pass settings_of
  rooms_are =
      let r = s.rooms in
      let a = both (is_room r.raw) (is_room r.unfinished && is_room r.strokes) c.rooms in
      let b = both (is_room r.unfinished) (is_room r.strokes) a.1 in
      (is-room r.raw a.0, is-room r.unfinished b.0, is-room r.strokes b.1)

  settings_are : Setting s.minimum × Setting s.most
  unfolding settings_pass settings_of
  settings_are =
      let p = both (is_setting s.minimum && is_setting s.most) (is_places s.power_places && is_places s.ratio_places) c.settings in
      let a = both (is_setting s.minimum) (is_setting s.most) p.0 in
      (is_setting_lem s.minimum a.0, is_setting_lem s.most a.1)

  raw-many : length (state_of s m).raw ≡ s.raw
  unfolding state_of
  raw-many = kept-raw s m.raw f.raw f.few-raw

  unfinished-many : length (state_of s m).unfinished ≡ s.unfinished
  unfolding state_of
  unfinished-many = kept-unfinished s m.unfinished f.unfinished f.few-unfinished

  strokes-many : length (state_of s m).strokes ≡ s.strokes
  unfolding state_of bar_counts
  strokes-many =
      let few = f.few-strokes in
      strokes-length (bar_counts s) (fractal_counts s) (merged_bars m.strokes) (stored_fractals m.fractals) (counts-alike s lb lf)
      ∙ length-take-le s.strokes s.bars (omega arith)

  bars-many : bars_of (state_of s m).strokes ≡ total (bar_counts s)
  unfolding state_of
  bars-many =
      bars_are (bar_counts s) (fractal_counts s) (merged_bars m.strokes) (stored_fractals m.fractals) (counts-alike s lb lf)
      (rw (merged-length m.strokes s.rooms.strokes f.strokes) f.few-bars)

  few-kept : s.strokes ≤ s.most
  unfolding few_strokes settings_of
  few-kept = let k = leb→le (length (state_of s m).strokes) s.most c.few in omega (arith, strokes-many)

  raw-rises : RisingRaw s m.raw
  unfolding times_rise state_of
  raw-rises =
      let t = state_of s m in
      let a = rises (bar_times t.raw) in
      let b = rises (merged_times t.unfinished) in
      rising-raw s m.raw f.raw f.few-raw (and_l a b (and_l (a && b) (every stroke_rises t.strokes) c.times))

  kept_here : Kept s m.strokes m.fractals
  unfolding counts_fit state_of kept_strokes settings_of
  kept_here =
      let t = state_of s m in
      let a = leb (length t.raw) s.rooms.raw && leb (length t.unfinished) s.rooms.unfinished in
      let b = leb (bars_of t.strokes) s.rooms.strokes in
      let e = every fewer_fractals t.strokes in
      kept_of_lem s m h.sizes (and_r b e (and_r a (b && e) c.counts))

  last-closed : 1 ≤ s.raw → Closed (state_of s m).unfinished
  unfolding newest_last
  last-closed one = closed (state_of s m).raw (state_of s m).unfinished (omega (arith, raw-many)) c.newest

  has_elements : 1 ≤ s.raw → LastHas s m.unfinished
  unfolding state_of
  has_elements one =
      let w = last-closed one in
      let k = w.kept in
      last_has s m.unfinished w.time f.unfinished f.few-unfinished (omega (arith, unfinished-many)) z.unfinished w.ends

  stroke-stands : 1 ≤ s.strokes → LastStands s s.rooms.strokes
  unfolding strokes_pass state_of kept_strokes
  stroke-stands one =
      let few = f.few-strokes in
      last-stands s m.strokes m.fractals kept_here one (omega arith) (omega arith) c.strokes

  pub facts : Facts s m
  facts =
      record {
        raw = f.raw;
        unfinished = f.unfinished;
        strokes = f.strokes;
        fractals = kept_here.fractals;
        few-raw = f.few-raw;
        few-unfinished = f.few-unfinished;
        few-strokes = f.few-strokes;
        few-bars = f.few-bars;
        at_most = few-kept;
        room-raw = rooms_are.0;
        room-unfinished = rooms_are.1;
        room-strokes = rooms_are.2;
        minimum = settings_are.0;
        most = settings_are.1;
        raw-length = raw-many;
        unfinished-length = unfinished-many;
        strokes-length = strokes-many;
        bars-length = bars-many;
        rising-raw = raw-rises;
        rising-times = raw-rises.rise;
        kept = kept_here;
        last_has = has_elements;
        last-stands = stroke-stands;
        clauses = c;
        sizes = z;
      }
