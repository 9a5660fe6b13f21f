-- Pseudo-random runs of bars, some with the last time, and what the Rust answered to them: the added-up answers of the feeds, and the stand and the
-- reports at the end. Where stores fill up, which the Rust has not got, a model in Python answered, and the refused feeds are told too.
-- Written by oracle/runs; each equation is computed. Floats are exact.
use Rattle.std.specs.Prelude as Std
use Rattle.std.specs.Prelude.{ℕ, zero, suc, min, ◌≡◌, refl, Bool, true, false, List, [], ◌∷◌, ◌++◌, map, length, take, ℤ, pos, negsuc, Float}
use Rattle.std.proofs.Math.Option.{Option, none, some}
use Rattle.std.specs.Float.{fin}
use Rattle.std.specs.Float.Ieee.{neg}
use Rattle.bars.specs.declared.Bar.{Bar}
use Rattle.bars.specs.Bars.{row_of}
use Rattle.bars.specs.Lists.{join}
use Rattle.bars.specs.Merging.{at_times}
use Rattle.bars.specs.declared.gaps.Gap.{Gap}
use Rattle.bars.specs.Gaps as Gaps
use Rattle.bars.specs.Gaps.{gaps_of}
use Rattle.machine.specs.declared.Mark.{Mark}
use Rattle.machine.specs.declared.Mark.TheVariants.{D, G}
use Rattle.machine.specs.declared.Direction.{Direction}
use Rattle.machine.specs.declared.Direction.TheVariants.{Up, Down}
use Rattle.reports.specs.declared.measures.Measures.{Measures}
use Rattle.reports.specs.declared.fractal_answers.Strength.{Strength}
use Rattle.reports.specs.declared.fractal_answers.Strength.TheVariants.{Strong, Medium, Weak}
use Rattle.reports.specs.declared.fractal_answers.FractalAnswers.{FractalAnswers}
use Rattle.machine.specs.Fractals.{Fractal, time_of, fx_of, check_fxs}
use Rattle.machine.specs.Strokes.{Stroke, direction_of}
use Rattle.machine.specs.Stand.{Settings, State, fresh}
use Rattle.machine.specs.Feed.{Step}
use Rattle.machine.specs.Calls.{FeedAnswer, feed, calls}
use Rattle.reports.specs.Measures.{measures_of, get_raw_bars}
use Rattle.reports.specs.FractalAnswers.{answers_of}
use Rattle.reports.specs.FractalList.{get_fx_list, get_finished_bis, last_bi_extend}
use Rattle.reports.specs.Unfinished.{Ubi, get_ubi}
use Rattle.zones.specs.declared.Summary.{Summary}
use Rattle.zones.specs.declared.FakeStroke.{FakeStroke}
use Rattle.zones.specs.FakeStrokes.{create_fake_bis}
use Rattle.zones.specs.Zones.{Zone, summary, get_zs_seq}
use Rattle.zones.specs.BisUpDown.{is_bis_up, is_bis_down}

-- ---- how values are written

-- m * 2 ^ e, and m / 2 ^ (k + 1)
unfoldable up : ℕ → ℕ → Float
up m e = fin false m (pos e)

unfoldable dn : ℕ → ℕ → Float
dn m k = fin false m (negsuc k)

-- minimum, most strokes, and the room of the stores
unfoldable settings : ℕ → ℕ → ℕ → ℕ → ℕ → Settings
settings n m r u s = record { minimum = n; most = m; raw_room = r; unfinished_room = u; stroke_room = s; power_places = 2; ratio_places = 4 }

unfoldable bar : ℤ → ℤ → Float → Float → Float → Float → Float → Float → Bar
bar t i o c h l v a = record { time = t; id = i; «open» = o; close = c; high = h; low = l; vol = v; amount = a }

-- a fractal: time, mark, high, low, fx
record Fx : Type 0 where
  time : ℤ
  mark : Mark
  high : Float
  low : Float
  fx : Float

unfoldable fx : ℤ → Mark → Float → Float → Float → Fx
fx t m h l x = record { time = t; mark = m; high = h; low = l; fx = x }

-- a stroke: direction, start, end, fractals, times of the merged bars
record Kept : Type 0 where
  direction : Direction
  start : Fx
  end : Fx
  fractals : List Fx
  bars : List ℤ

unfoldable kept : Direction → Fx → Fx → List Fx → List ℤ → Kept
kept d a z fs ts = record { direction = d; start = a; end = z; fractals = fs; bars = ts }

-- its measures, inner raw bars by time, fake strokes
record Measured : Type 0 where
  measures : Measures
  inner : List ℤ
  fakes : List FakeStroke

unfoldable measured : Float → Float → Float → Float → Float → Float → Float → Float → Float → ℕ → List ℤ → List FakeStroke → Measured
measured h l p v s ps c sl a n ts fs =
    record {
      measures =
          record {
            high = h;
            low = l;
            power_price = p;
            power_volume = v;
            snr = s;
            power_snr = ps;
            change = c;
            slope = sl;
            acceleration = a;
            length = n;
          };
      inner = ts;
      fakes = fs;
    }

unfoldable fake : Direction → ℤ → ℤ → Float → Float → Float → FakeStroke
fake d s e h l p = record { direction = d; sdt = s; edt = e; high = h; low = l; power = p }

unfoldable stroke : Direction → Float → Float → ℤ → ℤ → Summary
stroke d h l b e = record { direction = d; high = h; low = l; began = b; ended = e }

unfoldable zone : ℤ → ℤ → Direction → Direction → Float → Float → Float → Float → Float → Bool → List Summary → Zone
zone s e sd ed g d z gs ds v l =
    record { sdt = s; edt = e; sdir = sd; edir = ed; zg = g; zd = d; zz = z; gg = gs; dd = ds; valid = v; strokes = l }

unfoldable answers : Strength → Float → Bool → FractalAnswers
answers s v z = record { power_str = s; power_volume = v; has_zs = z }

-- is_bis_up and is_bis_down of a run of strokes
unfoldable neither : Bool × Bool
neither = (false, false)

unfoldable rises : Bool × Bool
rises = (true, false)

unfoldable falls : Bool × Bool
falls = (false, true)

-- ---- what is told of a run

record RunTold : Type 0 where
  -- strokes made, broken and shed, added up
  events : ℕ × ℕ × ℕ
  -- kept raw bars: times and ids
  raw : List ℤ
  ids : List ℤ
  -- unfinished bars, with the elements that name kept raw bars
  ubi : List (Bar × List ℤ)
  strokes : List Kept
  measures : List Measured
  -- get_fx_list, the number of strokes of get_finished_bis, last_bi_extend
  fxs : List Fx
  finished : ℕ
  extend : Bool
  -- the zones of all kept strokes, and those of the finished ones
  zones : List Zone
  fin_zones : List Zone
  -- from each place on: is_bis_up and is_bis_down of the runs of 0 to 7 strokes
  bis : List (List (Bool × Bool))
  -- the answers of the kept strokes' fractals, then of the unfinished ones
  answers : List FractalAnswers
  ubifx : List Fx
  -- get_ubi: direction, high, low, the times of the highest and the lowest bar, the numbers of unfinished bars, raw bars and fractals, the first one's time
  unfinished : Option (Direction × Float × Float × ℤ × ℤ × ℕ × ℕ × ℕ × ℤ)
  -- of each neighbouring pair of kept raw bars
  gaps : List (Std.Option Gap)

unfoldable fx_told : Fractal → Fx
unfolding time_of fx_of
fx_told f = record { time = time_of f; mark = f.mark; high = f.mid.bar.high; low = f.mid.bar.low; fx = fx_of f }

unfoldable stroke_told : Stroke → Kept
unfolding direction_of fx_told kept
stroke_told b =
    kept (direction_of b.start.mark) (fx_told b.start) (fx_told b.end) (map fx_told b.fractals) (map (λ k. k.bar.time) b.bars)

unfoldable measure_told : List Bar → Stroke → Measured
unfolding measures_of get_raw_bars create_fake_bis
measure_told raw b = record { measures = measures_of 2 4 raw b; inner = map (λ r. r.time) (get_raw_bars raw b); fakes = create_fake_bis 2 b.fractals }

-- the runs of n strokes and fewer, shortest first
unfoldable shorter : ℕ → List Summary → List (Bool × Bool)
unfolding is_bis_up is_bis_down
shorter zero l = (is_bis_up [], is_bis_down []) ∷ []
shorter (suc n) l = shorter n l ++ (is_bis_up (take (suc n) l), is_bis_down (take (suc n) l)) ∷ []

unfoldable runs_told : List Summary → List (List (Bool × Bool))
unfolding shorter
runs_told [] = shorter 0 [] ∷ []
runs_told (b ∷ l) = shorter (min 7 (length (b ∷ l))) (b ∷ l) ∷ runs_told l

unfoldable ubi_told : Option Ubi → Option (Direction × Float × Float × ℤ × ℤ × ℕ × ℕ × ℕ × ℤ)
unfolding time_of
ubi_told none = none
ubi_told (some u) =
    some
    (u.direction, u.high, u.low, u.high_bar.time, u.low_bar.time, length u.bars, length u.raw, length u.fractals, time_of u.first)

unfoldable told_of : Step → RunTold
unfolding at_times stroke_told measure_told fx_told get_fx_list get_finished_bis last_bi_extend summary get_zs_seq runs_told answers_of join check_fxs ubi_told get_ubi gaps_of row_of
told_of s =
    let raw = s.state.raw in
    let l = s.state.unfinished in
    let bs = s.state.strokes in
    record {
      events = (s.events.made, s.events.broken, s.events.shed);
      raw = map (λ b. b.time) raw;
      ids = map (λ b. b.id) raw;
      ubi = map (λ k. (k.bar, map (λ b. b.time) (at_times raw k.elements))) l;
      strokes = map stroke_told bs;
      measures = map (measure_told raw) bs;
      fxs = map fx_told (get_fx_list bs l);
      finished = length (get_finished_bis bs l);
      extend = last_bi_extend bs l;
      zones = get_zs_seq (map summary bs);
      fin_zones = get_zs_seq (map summary (get_finished_bis bs l));
      bis = runs_told (map summary bs);
      answers = map answers_of (join (map (λ b. b.fractals) bs) ++ check_fxs l);
      ubifx = map fx_told (check_fxs l);
      unfinished = ubi_told (get_ubi raw l bs);
      gaps = gaps_of 4 (map row_of raw);
    }

-- all calls from a fresh analyzer
unfoldable told : Settings → List Bar → RunTold
unfolding told_of calls
told c bs = told_of (calls c bs)

-- the refused feeds: the place of each among the feeds, from 0, and its number
unfoldable refused_by : FeedAnswer → ℕ → List (ℕ × ℕ) → List (ℕ × ℕ)
refused_by (FeedAnswer.Refused n) i rest = (i, n) ∷ rest
refused_by (FeedAnswer.Fed e) i rest = rest

unfoldable refused_from : Settings → ℕ → State → List Bar → List (ℕ × ℕ)
unfolding refused_by feed
refused_from c i s [] = []
refused_from c i s (b ∷ bs) = refused_by (feed c s b).answer i (refused_from c (suc i) (feed c s b).state bs)

unfoldable refused : Settings → List Bar → List (ℕ × ℕ)
unfolding refused_from fresh
refused c bs = refused_from c 0 fresh bs

-- ---- the runs

unfoldable run_01 : List Bar
unfolding bar up dn
run_01 =
    bar (pos 0) (pos 0) (up 27 1) (up 7 3) (up 7 3) (up 27 1) (dn 6820452046513111 38) (up 921 3)
    ∷ bar (pos 1) (pos 1) (up 27 1) (up 7 3) (up 57 0) (up 27 1) (dn 7395599707055063 36) (dn 821475803177943 32)
    ∷ bar (pos 2) (pos 2) (up 29 1) (up 7 3) (up 29 1) (up 7 3) (dn 7702340086582477 37) (up 4093 1)
    ∷ bar (pos 3) (pos 3) (up 57 0) (up 57 0) (up 59 0) (up 57 0) (dn 6823260611527311 35) (up 8431 0)
    ∷ bar (pos 4) (pos 4) (up 53 0) (up 53 0) (up 57 0) (up 53 0) (dn 7244234064427745 36) (up 4967 1)
    ∷ bar (pos 5) (pos 5) (up 55 0) (up 57 0) (up 57 0) (up 55 0) (up 1339 0) (up 5429 1)
    ∷ bar (pos 6) (pos 6) (up 55 0) (up 29 1) (up 29 1) (up 55 0) (dn 1424392746570875 33) (dn 1298509316709417 33)
    ∷ bar (pos 7) (pos 7) (up 7 3) (up 7 3) (up 7 3) (up 27 1) (up 1 50) (up 2509 1)
    ∷ bar (pos 7) (pos 8) (up 7 3) (up 7 3) (up 7 3) (up 7 3) (up 1051 4) (up 1495 0)
    ∷ bar (pos 8) (pos 9) (up 29 1) (up 7 3) (up 29 1) (up 7 3) (up 1 50) (dn 3930424215810867 36)
    ∷ bar (pos 9) (pos 10) (up 7 3) (up 7 3) (up 29 1) (up 7 3) (dn 6068737936835215 37) (dn 5884889971944325 35)
    ∷ bar (pos 10) (pos 11) (up 61 0) (up 61 0) (up 61 0) (up 57 0) (up 4351 0) (up 6397 0)
    ∷ bar (pos 11) (pos 12) (up 57 0) (up 57 0) (up 59 0) (up 57 0) (up 1 50) (dn 4865288100496015 35)
    ∷ bar (pos 12) (pos 13) (up 55 0) (up 55 0) (up 7 3) (up 55 0) (up 12359 0) (up 425 1)
    ∷ bar (pos 13) (pos 14) (up 61 0) (up 29 1) (up 15 2) (up 57 0) (up 401 0) (up 0 0)
    ∷ bar (pos 14) (pos 15) (up 59 0) (up 59 0) (up 59 0) (up 57 0) (up 8547 0) (dn 1316848298065193 48)
    ∷ bar (pos 15) (pos 16) (up 7 3) (up 57 0) (up 57 0) (up 7 3) (up 8961 0) (dn 5263417137745101 35)
    ∷ bar (pos 16) (pos 17) (up 57 0) (up 15 2) (up 15 2) (up 57 0) (up 6151 0) (up 8613 0)
    ∷ bar (pos 17) (pos 18) (up 57 0) (up 59 0) (up 29 1) (up 57 0) (dn 2143784478567301 35) (up 9757 1)
    ∷ bar (pos 18) (pos 19) (up 29 1) (up 29 1) (up 29 1) (up 55 0) (dn 8358483300486619 30) (up 0 0)
    ∷ bar (pos 19) (pos 20) (up 59 0) (up 59 0) (up 59 0) (up 59 0) (dn 6365144968645837 35) (up 3409 1)
    ∷ bar (pos 20) (pos 21) (up 15 2) (up 15 2) (up 15 2) (up 57 0) (dn 5145987921509089 35) (up 1 50)
    ∷ bar (pos 21) (pos 22) (up 29 1) (up 27 1) (up 29 1) (up 27 1) (dn 2564433575537541 36) (dn 3429699748574003 34)
    ∷ bar (pos 22) (pos 23) (up 55 0) (up 59 0) (up 59 0) (up 55 0) (up 1341 2) (up 1 50)
    ∷ bar (pos 23) (pos 24) (up 59 0) (up 59 0) (up 59 0) (up 57 0) (dn 2127377703496581 35) (dn 129443425560689 28)
    ∷ bar (pos 24) (pos 25) (up 61 0) (up 59 0) (up 61 0) (up 59 0) (dn 4693331353859523 37) (up 1 50)
    ∷ bar (pos 25) (pos 26) (up 59 0) (up 59 0) (up 59 0) (up 59 0) (dn 4639351517688627 35) (up 1193 4)
    ∷ bar (pos 26) (pos 27) (up 29 1) (up 61 0) (up 61 0) (up 29 1) (up 6261 1) (dn 7356524438193439 43)
    ∷ bar (pos 27) (pos 28) (up 59 0) (up 31 1) (up 31 1) (up 59 0) (dn 5371345199127593 38) (dn 2148410330143785 34)
    ∷ bar (pos 28) (pos 29) (up 59 0) (up 59 0) (up 31 1) (up 59 0) (up 5737 0) (dn 1339936337863639 38)
    ∷ bar (pos 29) (pos 30) (up 61 0) (up 61 0) (up 61 0) (up 15 2) (up 1 50) (up 1 50)
    ∷ bar (pos 30) (pos 31) (up 31 1) (up 15 2) (up 61 0) (up 59 0) (up 1427 1) (up 1201 0)
    ∷ bar (pos 31) (pos 32) (up 59 0) (up 59 0) (up 59 0) (up 59 0) (up 6971 1) (dn 636669802882007 32)
    ∷ bar (pos 32) (pos 33) (up 59 0) (up 59 0) (up 59 0) (up 29 1) (up 10467 0) (up 153 6)
    ∷ bar (pos 33) (pos 34) (up 59 0) (up 59 0) (up 59 0) (up 55 0) (up 3801 1) (up 8829 0)
    ∷ bar (pos 34) (pos 35) (up 7 3) (up 53 0) (up 7 3) (up 53 0) (up 7915 0) (dn 6162524904294973 36)
    ∷ bar (pos 35) (pos 36) (up 55 0) (up 7 3) (up 7 3) (up 55 0) (dn 6031200609862943 38) (up 0 0)
    ∷ bar (pos 36) (pos 37) (up 55 0) (up 57 0) (up 7 3) (up 55 0) (up 8091 0) (up 3131 2)
    ∷ bar (pos 37) (pos 38) (up 7 3) (up 29 1) (up 29 1) (up 7 3) (up 0 0) (dn 5838852045699809 38)
    ∷ bar (pos 38) (pos 39) (up 57 0) (up 57 0) (up 57 0) (up 57 0) (dn 8335083455993369 13) (dn 4565120051723633 37)
    ∷ []

run_01_told : told (settings 4 5 64 64 64) run_01
    ≡ record {
      events = (12, 1, 6);
      raw = map pos (15 ∷ 16 ∷ 17 ∷ 18 ∷ 19 ∷ 20 ∷ 21 ∷ 22 ∷ 23 ∷ 24 ∷ 25 ∷ 26 ∷ 27 ∷ 28 ∷ 29 ∷ 30 ∷ 31 ∷ 32 ∷ 33 ∷ 34 ∷ 35 ∷ 36 ∷ 37 ∷ 38 ∷ []);
      ids = map pos (16 ∷ 17 ∷ 18 ∷ 19 ∷ 20 ∷ 21 ∷ 22 ∷ 23 ∷ 24 ∷ 25 ∷ 26 ∷ 27 ∷ 28 ∷ 29 ∷ 30 ∷ 31 ∷ 32 ∷ 33 ∷ 34 ∷ 35 ∷ 36 ∷ 37 ∷ 38 ∷ 39 ∷ []);
      ubi =
          (bar (pos 33) (pos 31) (up 55 0) (up 59 0) (up 59 0) (up 55 0) (up 34865 0) (dn 806939486364631 32), map pos (30 ∷ 31 ∷ 32 ∷ 33 ∷ []))
          ∷ (bar (pos 34) (pos 35) (up 53 0) (up 7 3) (up 7 3) (up 53 0) (dn 463456005217321 33) (dn 7883810357578301 36), map pos (34 ∷ 35 ∷ 36 ∷ []))
          ∷ (bar (pos 37) (pos 38) (up 57 0) (up 29 1) (up 29 1) (up 57 0) (dn 8335083455993369 13) (dn 3742273037286769 36), map pos (37 ∷ 38 ∷ []))
          ∷ [];
      strokes =
          kept Down (fx (pos 16) G (up 15 2) (up 57 0) (up 15 2)) (fx (pos 18) D (up 29 1) (up 55 0) (up 55 0))
          (fx (pos 16) G (up 15 2) (up 57 0) (up 15 2) ∷ fx (pos 18) D (up 29 1) (up 55 0) (up 55 0) ∷ [])
          (map pos (15 ∷ 16 ∷ 18 ∷ 19 ∷ []))
          ∷ kept Up (fx (pos 18) D (up 29 1) (up 55 0) (up 55 0)) (fx (pos 20) G (up 15 2) (up 59 0) (up 15 2))
          (fx (pos 18) D (up 29 1) (up 55 0) (up 55 0) ∷ fx (pos 20) G (up 15 2) (up 59 0) (up 15 2) ∷ [])
          (map pos (16 ∷ 18 ∷ 20 ∷ 21 ∷ []))
          ∷ kept Down (fx (pos 20) G (up 15 2) (up 59 0) (up 15 2)) (fx (pos 21) D (up 29 1) (up 27 1) (up 27 1))
          (fx (pos 20) G (up 15 2) (up 59 0) (up 15 2) ∷ fx (pos 21) D (up 29 1) (up 27 1) (up 27 1) ∷ [])
          (map pos (18 ∷ 20 ∷ 21 ∷ 22 ∷ []))
          ∷ kept Up (fx (pos 21) D (up 29 1) (up 27 1) (up 27 1)) (fx (pos 28) G (up 31 1) (up 15 2) (up 31 1))
          (fx (pos 21) D (up 29 1) (up 27 1) (up 27 1) ∷ fx (pos 28) G (up 31 1) (up 15 2) (up 31 1) ∷ [])
          (map pos (20 ∷ 21 ∷ 23 ∷ 28 ∷ 30 ∷ []))
          ∷ kept Down (fx (pos 28) G (up 31 1) (up 15 2) (up 31 1)) (fx (pos 34) D (up 7 3) (up 53 0) (up 53 0))
          (fx (pos 28) G (up 31 1) (up 15 2) (up 31 1) ∷ fx (pos 34) D (up 7 3) (up 53 0) (up 53 0) ∷ [])
          (map pos (23 ∷ 28 ∷ 33 ∷ 34 ∷ 37 ∷ []))
          ∷ [];
      measures =
          measured (up 15 2) (up 55 0) (up 5 0) (dn 8438685737360695 30) (dn 3602879701896397 53) (dn 3602879701896397 53) (neg (dn 6002397583359397 55)) (neg (up 1 0)) (up 0 0) 4
          (map pos (16 ∷ 17 ∷ 18 ∷ []))
          (fake Down (pos 16) (pos 18) (up 15 2) (up 55 0) (up 5 0) ∷ [])
          ∷ measured (up 15 2) (up 55 0) (up 5 0) (dn 1089775775412995 27) (up 0 0) (up 0 0) (dn 6550035298047649 55) (up 1 0) (up 0 0) 4
          (map pos (18 ∷ 19 ∷ 20 ∷ []))
          (fake Up (pos 18) (pos 20) (up 15 2) (up 55 0) (up 5 0) ∷ [])
          ∷ measured (up 15 2) (up 27 1) (up 3 1) (dn 799584354870231 31) (dn 5 1) (dn 5 1) (neg (dn 3602879701896397 54)) (neg (dn 5 0)) (neg (dn 7 0)) 4
          (map pos (19 ∷ 20 ∷ 21 ∷ []))
          (fake Down (pos 20) (pos 21) (up 15 2) (up 27 1) (up 3 1) ∷ [])
          ∷ measured (up 31 1) (up 27 1) (up 1 3) (dn 4503599628040877 1) (dn 3 3) (dn 3 3) (dn 1333966209627141 52) (dn 5404319552844595 52) (neg (dn 5536893048368921 54)) 5
          (map pos (21 ∷ 22 ∷ 23 ∷ 24 ∷ 25 ∷ 26 ∷ 27 ∷ 28 ∷ 29 ∷ []))
          (fake Up (pos 21) (pos 28) (up 31 1) (up 27 1) (up 1 3) ∷ [])
          ∷ measured (up 31 1) (up 53 0) (up 9 0) (dn 4503599628068323 1) (dn 1 1) (dn 1 1) (neg (dn 163480666473549 49)) (neg (dn 6928614811339225 53)) (neg (dn 5038992590064891 55)) 5
          (map pos (24 ∷ 25 ∷ 26 ∷ 27 ∷ 28 ∷ 29 ∷ 30 ∷ 31 ∷ 32 ∷ 33 ∷ 34 ∷ 35 ∷ 36 ∷ []))
          (fake Down (pos 28) (pos 34) (up 31 1) (up 53 0) (up 9 0) ∷ [])
          ∷ [];
      fxs =
          fx (pos 18) D (up 29 1) (up 55 0) (up 55 0)
          ∷ fx (pos 20) G (up 15 2) (up 59 0) (up 15 2)
          ∷ fx (pos 21) D (up 29 1) (up 27 1) (up 27 1)
          ∷ fx (pos 28) G (up 31 1) (up 15 2) (up 31 1)
          ∷ fx (pos 34) D (up 7 3) (up 53 0) (up 53 0)
          ∷ [];
      finished = 4;
      extend = false;
      zones =
          zone (pos 16) (pos 34) Down Down (up 15 2) (up 55 0) (dn 115 0) (up 31 1) (up 53 0) true
          (stroke Down (up 15 2) (up 55 0) (pos 16) (pos 18)
          ∷ stroke Up (up 15 2) (up 55 0) (pos 18) (pos 20)
          ∷ stroke Down (up 15 2) (up 27 1) (pos 20) (pos 21)
          ∷ stroke Up (up 31 1) (up 27 1) (pos 21) (pos 28)
          ∷ stroke Down (up 31 1) (up 53 0) (pos 28) (pos 34)
          ∷ [])
          ∷ [];
      fin_zones =
          zone (pos 16) (pos 28) Down Up (up 15 2) (up 55 0) (dn 115 0) (up 31 1) (up 27 1) true
          (stroke Down (up 15 2) (up 55 0) (pos 16) (pos 18)
          ∷ stroke Up (up 15 2) (up 55 0) (pos 18) (pos 20)
          ∷ stroke Down (up 15 2) (up 27 1) (pos 20) (pos 21)
          ∷ stroke Up (up 31 1) (up 27 1) (pos 21) (pos 28)
          ∷ [])
          ∷ [];
      bis =
          (neither ∷ neither ∷ neither ∷ falls ∷ neither ∷ neither ∷ [])
          ∷ (neither ∷ neither ∷ neither ∷ neither ∷ neither ∷ [])
          ∷ (neither ∷ neither ∷ neither ∷ neither ∷ [])
          ∷ (neither ∷ neither ∷ neither ∷ [])
          ∷ (neither ∷ neither ∷ [])
          ∷ (neither ∷ [])
          ∷ [];
      answers =
          answers Weak (dn 8457929338330423 30) true
          ∷ answers Medium (dn 8637596517630877 30) false
          ∷ answers Medium (dn 2199602160044509 28) false
          ∷ answers Strong (dn 4379137738960867 29) false
          ∷ answers Strong (dn 4379137738960867 29) false
          ∷ answers Medium (dn 822622559445975 31) false
          ∷ answers Medium (dn 3822334663658045 33) false
          ∷ answers Weak (dn 2251799813988829 0) false
          ∷ answers Medium (dn 2251799814052851 0) false
          ∷ answers Medium (dn 1062432144317481 33) true
          ∷ answers Medium (dn 4167542234603809 12) false
          ∷ [];
      ubifx =
          fx (pos 34) D (up 7 3) (up 53 0) (up 53 0)
          ∷ [];
      unfinished = some (Up, (up 61 0), (up 53 0), (pos 30), (pos 34), 3, 24, 1, (pos 34));
      gaps =
          Gaps.NoGap
          ∷ Gaps.NoGap
          ∷ Gaps.NoGap
          ∷ Gaps.Up (up 29 1) (up 59 0) (dn 2478781234904721 56) true
          ∷ Gaps.NoGap
          ∷ Gaps.NoGap
          ∷ Gaps.NoGap
          ∷ Gaps.NoGap
          ∷ Gaps.NoGap
          ∷ Gaps.NoGap
          ∷ Gaps.NoGap
          ∷ Gaps.NoGap
          ∷ Gaps.NoGap
          ∷ Gaps.NoGap
          ∷ Gaps.NoGap
          ∷ Gaps.NoGap
          ∷ Gaps.NoGap
          ∷ Gaps.NoGap
          ∷ Gaps.NoGap
          ∷ Gaps.NoGap
          ∷ Gaps.NoGap
          ∷ Gaps.NoGap
          ∷ Gaps.NoGap
          ∷ [];
    }
unfolding told run_01 settings bar fx kept measured fake stroke zone answers up dn neg neither rises falls
run_01_told = refl

unfoldable run_02 : List Bar
unfolding bar up dn
run_02 =
    bar (pos 1099511624976) (negsuc 4) (up 5 2) (up 11 1) (up 23 0) (up 5 2) (up 10911 0) (up 11495 0)
    ∷ bar (pos 1099511624976) (negsuc 3) (up 11 1) (up 11 1) (up 11 1) (up 5 2) (dn 5610104149099151 36) (dn 2179172947502039 36)
    ∷ bar (pos 1099511624976) (negsuc 2) (up 5 2) (up 5 2) (up 21 0) (up 5 2) (dn 1366617965181337 25) (dn 636210500944531 31)
    ∷ bar (pos 1099511625036) (negsuc 1) (up 23 0) (up 11 1) (up 23 0) (up 11 1) (up 217 6) (up 9241 0)
    ∷ bar (pos 1099511625096) (negsuc 0) (up 21 0) (up 5 2) (up 21 0) (up 5 2) (up 6671 1) (up 11191 0)
    ∷ bar (pos 1099511625156) (pos 0) (up 11 1) (up 5 2) (up 11 1) (up 5 2) (dn 2656713461188489 16) (dn 1084566815482577 31)
    ∷ bar (pos 1099511625156) (pos 1) (up 23 0) (up 11 1) (up 23 0) (up 11 1) (up 9887 1) (up 3947 1)
    ∷ bar (pos 1099511625156) (pos 2) (up 11 1) (up 13 1) (up 13 1) (up 11 1) (dn 6599877644475433 35) (up 165 0)
    ∷ bar (pos 1099511625156) (pos 3) (up 3 3) (up 21 0) (up 3 3) (up 21 0) (up 8047 0) (dn 7123584653511885 36)
    ∷ bar (pos 1099511625156) (pos 4) (up 23 0) (up 23 0) (up 23 0) (up 5 2) (up 2525 0) (dn 6187755303521083 7)
    ∷ bar (pos 1099511625156) (pos 5) (up 11 1) (up 11 1) (up 11 1) (up 21 0) (up 2679 2) (up 0 0)
    ∷ bar (pos 1099511625156) (pos 6) (up 11 1) (up 11 1) (up 23 0) (up 11 1) (up 1 50) (up 0 0)
    ∷ bar (pos 1099511625156) (pos 7) (up 21 0) (up 21 0) (up 21 0) (up 19 0) (up 12551 0) (dn 2448804809592013 37)
    ∷ bar (pos 1099511625216) (pos 8) (up 23 0) (up 23 0) (up 25 0) (up 23 0) (dn 2332279941669847 34) (up 3155 1)
    ∷ bar (pos 1099511625216) (pos 9) (up 3 3) (up 3 3) (up 3 3) (up 21 0) (dn 8337866053774213 36) (dn 8348891406621737 37)
    ∷ bar (pos 1099511625276) (pos 10) (up 5 2) (up 5 2) (up 5 2) (up 19 0) (dn 6714370477470515 35) (up 3547 1)
    ∷ bar (pos 1099511625276) (pos 11) (up 5 2) (up 9 1) (up 5 2) (up 9 1) (dn 5760568192191693 35) (dn 5816864561923359 36)
    ∷ bar (pos 1099511625276) (pos 12) (up 5 2) (up 5 2) (up 5 2) (up 1 4) (up 6319 0) (dn 7097039694038303 42)
    ∷ bar (pos 1099511625336) (pos 13) (up 1 4) (up 1 4) (up 1 4) (up 1 4) (up 7565 1) (dn 784509019661271 32)
    ∷ bar (pos 1099511625396) (pos 14) (up 5 2) (up 5 2) (up 5 2) (up 17 0) (up 0 0) (up 189 0)
    ∷ bar (pos 1099511625456) (pos 15) (up 7 1) (up 17 0) (up 17 0) (up 7 1) (up 9935 0) (up 0 0)
    ∷ bar (pos 1099511625456) (pos 16) (up 15 0) (up 15 0) (up 15 0) (up 15 0) (up 39 6) (up 0 0)
    ∷ bar (pos 1099511625456) (pos 17) (up 9 1) (up 15 0) (up 9 1) (up 15 0) (up 10165 0) (up 303 3)
    ∷ bar (pos 1099511625516) (pos 18) (up 9 1) (up 7 1) (up 9 1) (up 7 1) (up 0 0) (up 1 50)
    ∷ bar (pos 1099511625516) (pos 19) (up 1 4) (up 9 1) (up 9 1) (up 1 4) (up 17769 0) (dn 6682635135919063 36)
    ∷ bar (pos 1099511625516) (pos 20) (up 17 0) (up 15 0) (up 17 0) (up 15 0) (up 5841 1) (dn 1518585674339451 33)
    ∷ bar (pos 1099511625516) (pos 21) (up 1 4) (up 1 4) (up 1 4) (up 15 0) (dn 5680940283029531 9) (up 1 50)
    ∷ bar (pos 1099511625576) (pos 22) (up 15 0) (up 15 0) (up 15 0) (up 7 1) (up 13507 2) (up 627 4)
    ∷ bar (pos 1099511625576) (pos 23) (up 7 1) (up 17 0) (up 17 0) (up 7 1) (up 6009 1) (dn 2944712041509683 34)
    ∷ bar (pos 1099511625636) (pos 24) (up 17 0) (up 9 1) (up 9 1) (up 17 0) (up 16745 0) (up 2345 1)
    ∷ bar (pos 1099511625636) (pos 25) (up 17 0) (up 5 2) (up 19 0) (up 1 4) (up 1805 2) (up 111 3)
    ∷ bar (pos 1099511625696) (pos 26) (up 1 4) (up 7 1) (up 1 4) (up 7 1) (up 1903 3) (dn 9005319089857495 36)
    ∷ bar (pos 1099511625743) (pos 27) (up 5 2) (up 17 0) (up 5 2) (up 17 0) (up 6549 1) (dn 6414311692666143 37)
    ∷ bar (pos 1099511625743) (pos 28) (up 1 4) (up 1 4) (up 17 0) (up 1 4) (up 2481 2) (up 6581 0)
    ∷ bar (pos 1099511625743) (pos 29) (up 13 0) (up 15 0) (up 15 0) (up 13 0) (up 327 3) (dn 4927275130096189 35)
    ∷ bar (pos 1099511625743) (pos 30) (up 15 0) (up 17 0) (up 17 0) (up 15 0) (up 11933 0) (up 4055 0)
    ∷ bar (pos 1099511625743) (pos 31) (up 3 2) (up 3 2) (up 15 0) (up 3 2) (up 7153 1) (up 0 0)
    ∷ bar (pos 1099511625743) (pos 32) (up 13 0) (up 13 0) (up 13 0) (up 13 0) (up 3021 1) (up 651 1)
    ∷ bar (pos 1099511625803) (pos 33) (up 7 1) (up 7 1) (up 17 0) (up 7 1) (up 10573 0) (up 355 4)
    ∷ bar (pos 1099511625803) (pos 34) (up 1 4) (up 1 4) (up 1 4) (up 1 4) (up 0 0) (up 1193 3)
    ∷ []

run_02_told : told (settings 2 4 64 64 64) run_02
    ≡ record {
      events = (9, 2, 3);
      raw = map pos (1099511625216 ∷ 1099511625276 ∷ 1099511625336 ∷ 1099511625396 ∷ 1099511625456 ∷ 1099511625516 ∷ 1099511625576 ∷ 1099511625636 ∷ 1099511625696 ∷ 1099511625743 ∷ 1099511625803 ∷ []);
      ids = map pos (9 ∷ 12 ∷ 13 ∷ 14 ∷ 17 ∷ 21 ∷ 23 ∷ 25 ∷ 26 ∷ 32 ∷ 34 ∷ []);
      ubi =
          (bar (pos 1099511625696) (pos 26) (up 1 4) (up 7 1) (up 1 4) (up 7 1) (up 1903 3) (dn 9005319089857495 36), map pos (1099511625696 ∷ []))
          ∷ (bar (pos 1099511625743) (pos 32) (up 13 0) (up 13 0) (up 13 0) (up 13 0) (up 3021 1) (up 651 1), map pos (1099511625743 ∷ []))
          ∷ (bar (pos 1099511625803) (pos 34) (up 1 4) (up 1 4) (up 1 4) (up 1 4) (up 0 0) (up 1193 3), map pos (1099511625803 ∷ []))
          ∷ [];
      strokes =
          kept Up (fx (pos 1099511625336) D (up 1 4) (up 1 4) (up 1 4)) (fx (pos 1099511625396) G (up 5 2) (up 17 0) (up 5 2))
          (fx (pos 1099511625336) D (up 1 4) (up 1 4) (up 1 4) ∷ fx (pos 1099511625396) G (up 5 2) (up 17 0) (up 5 2) ∷ [])
          (map pos (1099511625216 ∷ 1099511625336 ∷ 1099511625396 ∷ 1099511625456 ∷ []))
          ∷ kept Down (fx (pos 1099511625396) G (up 5 2) (up 17 0) (up 5 2)) (fx (pos 1099511625576) D (up 1 4) (up 7 1) (up 7 1))
          (fx (pos 1099511625396) G (up 5 2) (up 17 0) (up 5 2) ∷ fx (pos 1099511625576) D (up 1 4) (up 7 1) (up 7 1) ∷ [])
          (map pos (1099511625336 ∷ 1099511625396 ∷ 1099511625576 ∷ 1099511625636 ∷ []))
          ∷ kept Up (fx (pos 1099511625576) D (up 1 4) (up 7 1) (up 7 1)) (fx (pos 1099511625636) G (up 19 0) (up 1 4) (up 19 0))
          (fx (pos 1099511625576) D (up 1 4) (up 7 1) (up 7 1) ∷ fx (pos 1099511625636) G (up 19 0) (up 1 4) (up 19 0) ∷ [])
          (map pos (1099511625396 ∷ 1099511625576 ∷ 1099511625636 ∷ 1099511625696 ∷ []))
          ∷ kept Down (fx (pos 1099511625636) G (up 19 0) (up 1 4) (up 19 0)) (fx (pos 1099511625743) D (up 13 0) (up 13 0) (up 13 0))
          (fx (pos 1099511625636) G (up 19 0) (up 1 4) (up 19 0) ∷ fx (pos 1099511625743) D (up 13 0) (up 13 0) (up 13 0) ∷ [])
          (map pos (1099511625576 ∷ 1099511625636 ∷ 1099511625696 ∷ 1099511625743 ∷ 1099511625803 ∷ []))
          ∷ [];
      measures =
          measured (up 5 2) (up 1 4) (up 1 2) (up 21449 0) (up 0 0) (up 0 0) (dn 1 1) (up 0 0) (up 1 2) 4
          (map pos (1099511625276 ∷ 1099511625336 ∷ 1099511625396 ∷ []))
          (fake Up (pos 1099511625336) (pos 1099511625396) (up 5 2) (up 1 4) (up 1 2) ∷ [])
          ∷ measured (up 5 2) (up 7 1) (up 3 1) (dn 5680940305744923 9) (dn 1 0) (dn 1 0) (neg (dn 5404319552844595 53)) (neg (dn 3602879701896397 51)) (dn 3 0) 4
          (map pos (1099511625396 ∷ 1099511625456 ∷ 1099511625516 ∷ 1099511625576 ∷ []))
          (fake Down (pos 1099511625396) (pos 1099511625576) (up 5 2) (up 7 1) (up 3 1) ∷ [])
          ∷ measured (up 19 0) (up 7 1) (up 5 0) (dn 5680940313138203 9) (dn 2001599834386887 52) (dn 4002799348806897 53) (dn 402058856733501 49) (dn 3602879701896397 50) (dn 1 0) 4
          (map pos (1099511625456 ∷ 1099511625516 ∷ 1099511625576 ∷ 1099511625636 ∷ []))
          (fake Up (pos 1099511625576) (pos 1099511625636) (up 19 0) (up 7 1) (up 5 0) ∷ [])
          ∷ measured (up 19 0) (up 13 0) (up 3 1) (up 14243 1) (dn 3602879701896397 51) (dn 3602879701896397 51) (neg (dn 5688947049294411 53)) (neg (dn 7 0)) (dn 5 0) 5
          (map pos (1099511625636 ∷ 1099511625696 ∷ 1099511625743 ∷ []))
          (fake Down (pos 1099511625636) (pos 1099511625743) (up 19 0) (up 13 0) (up 3 1) ∷ [])
          ∷ [];
      fxs =
          fx (pos 1099511625396) G (up 5 2) (up 17 0) (up 5 2)
          ∷ fx (pos 1099511625576) D (up 1 4) (up 7 1) (up 7 1)
          ∷ fx (pos 1099511625636) G (up 19 0) (up 1 4) (up 19 0)
          ∷ fx (pos 1099511625743) D (up 13 0) (up 13 0) (up 13 0)
          ∷ [];
      finished = 3;
      extend = false;
      zones =
          zone (pos 1099511625336) (pos 1099511625743) Up Down (up 19 0) (up 1 4) (dn 35 0) (up 5 2) (up 13 0) true
          (stroke Up (up 5 2) (up 1 4) (pos 1099511625336) (pos 1099511625396)
          ∷ stroke Down (up 5 2) (up 7 1) (pos 1099511625396) (pos 1099511625576)
          ∷ stroke Up (up 19 0) (up 7 1) (pos 1099511625576) (pos 1099511625636)
          ∷ stroke Down (up 19 0) (up 13 0) (pos 1099511625636) (pos 1099511625743)
          ∷ [])
          ∷ [];
      fin_zones =
          zone (pos 1099511625336) (pos 1099511625636) Up Up (up 19 0) (up 1 4) (dn 35 0) (up 5 2) (up 7 1) true
          (stroke Up (up 5 2) (up 1 4) (pos 1099511625336) (pos 1099511625396)
          ∷ stroke Down (up 5 2) (up 7 1) (pos 1099511625396) (pos 1099511625576)
          ∷ stroke Up (up 19 0) (up 7 1) (pos 1099511625576) (pos 1099511625636)
          ∷ [])
          ∷ [];
      bis =
          (neither ∷ neither ∷ neither ∷ neither ∷ neither ∷ [])
          ∷ (neither ∷ neither ∷ neither ∷ falls ∷ [])
          ∷ (neither ∷ neither ∷ neither ∷ [])
          ∷ (neither ∷ neither ∷ [])
          ∷ (neither ∷ [])
          ∷ [];
      answers =
          answers Medium (dn 2821448541698785 34) false
          ∷ answers Weak (up 3923 3) false
          ∷ answers Medium (dn 5680940327708699 9) false
          ∷ answers Medium (dn 5680940322891803 9) false
          ∷ answers Medium (dn 5680940313138203 9) false
          ∷ answers Medium (dn 5680940328727579 9) true
          ∷ answers Medium (dn 5680940328727579 9) true
          ∷ answers Medium (up 31839 0) false
          ∷ answers Medium (up 10633 1) false
          ∷ [];
      ubifx =
          fx (pos 1099511625743) D (up 13 0) (up 13 0) (up 13 0)
          ∷ [];
      unfinished = some (Up, (up 1 4), (up 13 0), (pos 1099511625803), (pos 1099511625743), 3, 11, 1, (pos 1099511625743));
      gaps =
          Gaps.Down (up 5 2) (up 21 0) (dn 3602879701896397 55) false
          ∷ Gaps.NoGap
          ∷ Gaps.Up (up 1 4) (up 17 0) (dn 1 3) true
          ∷ Gaps.NoGap
          ∷ Gaps.NoGap
          ∷ Gaps.NoGap
          ∷ Gaps.NoGap
          ∷ Gaps.NoGap
          ∷ Gaps.Down (up 13 0) (up 7 1) (dn 2770614490758329 54) true
          ∷ Gaps.Up (up 13 0) (up 1 4) (dn 2078861587994221 52) false
          ∷ [];
    }
unfolding told run_02 settings bar fx kept measured fake stroke zone answers up dn neg neither rises falls
run_02_told = refl

unfoldable run_03 : List Bar
unfolding bar up dn
run_03 =
    bar (negsuc 49) (pos 0) (up 161 0) (up 5 5) (up 5 5) (up 5 5) (up 3515 1) (up 1907 2)
    ∷ bar (negsuc 48) (pos 1) (up 5 5) (up 5 5) (up 81 1) (up 5 5) (up 461 0) (up 0 0)
    ∷ bar (negsuc 48) (pos 2) (up 5 5) (up 163 0) (up 163 0) (up 5 5) (dn 5942028155266007 35) (dn 434314839905423 47)
    ∷ bar (negsuc 47) (pos 3) (up 41 2) (up 161 0) (up 41 2) (up 161 0) (up 157 2) (up 4305 0)
    ∷ bar (negsuc 46) (pos 4) (up 161 0) (up 159 0) (up 161 0) (up 159 0) (up 0 0) (up 4853 1)
    ∷ bar (negsuc 45) (pos 5) (up 5 5) (up 39 2) (up 5 5) (up 39 2) (up 13751 0) (up 10331 0)
    ∷ bar (negsuc 44) (pos 6) (up 79 1) (up 79 1) (up 79 1) (up 77 1) (up 263 2) (dn 596849099496489 33)
    ∷ bar (negsuc 43) (pos 7) (up 159 0) (up 159 0) (up 159 0) (up 79 1) (up 175 5) (dn 6460106295584743 15)
    ∷ bar (negsuc 42) (pos 8) (up 157 0) (up 157 0) (up 157 0) (up 77 1) (dn 586618487397417 32) (up 18783 0)
    ∷ bar (negsuc 42) (pos 9) (up 159 0) (up 39 2) (up 159 0) (up 39 2) (dn 6936508247603937 36) (up 1069 4)
    ∷ bar (negsuc 42) (pos 10) (up 155 0) (up 155 0) (up 79 1) (up 155 0) (dn 8435791308123013 37) (up 8131 0)
    ∷ bar (negsuc 41) (pos 11) (up 155 0) (up 155 0) (up 155 0) (up 155 0) (up 7213 1) (up 3053 0)
    ∷ bar (negsuc 40) (pos 12) (up 157 0) (up 157 0) (up 79 1) (up 157 0) (up 2519 1) (up 183 5)
    ∷ bar (negsuc 39) (pos 13) (up 157 0) (up 157 0) (up 5 5) (up 157 0) (dn 1223830658749563 34) (up 6499 1)
    ∷ bar (negsuc 39) (pos 14) (up 161 0) (up 161 0) (up 5 5) (up 157 0) (up 625 3) (up 905 1)
    ∷ bar (negsuc 38) (pos 15) (up 161 0) (up 159 0) (up 5 5) (up 157 0) (up 8971 0) (dn 2368368662072525 36)
    ∷ bar (negsuc 37) (pos 16) (up 159 0) (up 159 0) (up 161 0) (up 159 0) (up 793 3) (up 907 1)
    ∷ bar (negsuc 36) (pos 17) (up 79 1) (up 79 1) (up 79 1) (up 39 2) (up 1995 1) (up 14391 0)
    ∷ bar (negsuc 35) (pos 18) (up 5 5) (up 79 1) (up 5 5) (up 79 1) (dn 7585753814694821 25) (up 11087 0)
    ∷ bar (negsuc 34) (pos 19) (up 39 2) (up 157 0) (up 157 0) (up 39 2) (up 2537 0) (up 1 50)
    ∷ bar (negsuc 33) (pos 20) (up 157 0) (up 157 0) (up 157 0) (up 39 2) (up 0 0) (up 6903 1)
    ∷ bar (negsuc 32) (pos 21) (up 79 1) (up 39 2) (up 79 1) (up 39 2) (up 0 0) (up 14921 0)
    ∷ bar (negsuc 32) (pos 22) (up 77 1) (up 77 1) (up 79 1) (up 77 1) (up 1 50) (dn 6489727195215299 35)
    ∷ bar (negsuc 32) (pos 23) (up 153 0) (up 153 0) (up 155 0) (up 153 0) (up 11653 0) (up 15971 0)
    ∷ bar (negsuc 31) (pos 24) (up 77 1) (up 39 2) (up 39 2) (up 77 1) (dn 1826332794201047 41) (dn 4859232540206039 35)
    ∷ bar (negsuc 31) (pos 25) (up 39 2) (up 39 2) (up 157 0) (up 39 2) (up 0 0) (up 767 4)
    ∷ bar (negsuc 30) (pos 26) (up 39 2) (up 39 2) (up 39 2) (up 77 1) (up 3205 1) (up 1 50)
    ∷ bar (negsuc 30) (pos 27) (up 155 0) (up 155 0) (up 155 0) (up 19 3) (up 619 2) (up 5141 1)
    ∷ bar (negsuc 29) (pos 28) (up 77 1) (up 151 0) (up 77 1) (up 151 0) (dn 743874419973161 33) (dn 8471892398031503 36)
    ∷ bar (negsuc 29) (pos 29) (up 19 3) (up 19 3) (up 19 3) (up 19 3) (up 18947 0) (up 0 0)
    ∷ bar (negsuc 28) (pos 30) (up 75 1) (up 75 1) (up 19 3) (up 75 1) (up 17601 0) (up 8681 0)
    ∷ bar (negsuc 27) (pos 31) (up 37 2) (up 151 0) (up 151 0) (up 37 2) (up 1 50) (up 1927 3)
    ∷ bar (negsuc 26) (pos 32) (up 75 1) (up 151 0) (up 151 0) (up 75 1) (up 1611 2) (up 10527 0)
    ∷ bar (negsuc 25) (pos 33) (up 151 0) (up 151 0) (up 19 3) (up 151 0) (up 4005 2) (up 14361 0)
    ∷ bar (negsuc 24) (pos 34) (up 19 3) (up 149 0) (up 19 3) (up 149 0) (up 2627 0) (up 1877 2)
    ∷ bar (negsuc 23) (pos 35) (up 37 2) (up 75 1) (up 149 0) (up 147 0) (up 4221 0) (dn 7967929869050839 36)
    ∷ bar (negsuc 22) (pos 36) (up 147 0) (up 147 0) (up 147 0) (up 145 0) (up 0 0) (up 2677 1)
    ∷ bar (negsuc 21) (pos 37) (up 73 1) (up 149 0) (up 149 0) (up 73 1) (up 18739 0) (up 10899 0)
    ∷ bar (negsuc 20) (pos 38) (up 147 0) (up 147 0) (up 147 0) (up 147 0) (up 0 0) (up 39 0)
    ∷ bar (negsuc 19) (pos 39) (up 9 4) (up 9 4) (up 37 2) (up 9 4) (up 6835 1) (dn 6131030080912097 35)
    ∷ []

run_03_told : told (settings 6 3 64 64 64) run_03
    ≡ record {
      events = (11, 9, 0);
      raw = (negsuc 48) ∷ (negsuc 47) ∷ (negsuc 46) ∷ (negsuc 45) ∷ (negsuc 44) ∷ (negsuc 43) ∷ (negsuc 42) ∷ (negsuc 41) ∷ (negsuc 40) ∷ (negsuc 39) ∷ (negsuc 38) ∷ (negsuc 37) ∷ (negsuc 36) ∷ (negsuc 35) ∷ (negsuc 34) ∷ (negsuc 33) ∷ (negsuc 32) ∷ (negsuc 31) ∷ (negsuc 30) ∷ (negsuc 29) ∷ (negsuc 28) ∷ (negsuc 27) ∷ (negsuc 26) ∷ (negsuc 25) ∷ (negsuc 24) ∷ (negsuc 23) ∷ (negsuc 22) ∷ (negsuc 21) ∷ (negsuc 20) ∷ (negsuc 19) ∷ [];
      ids = map pos (2 ∷ 3 ∷ 4 ∷ 5 ∷ 6 ∷ 7 ∷ 10 ∷ 11 ∷ 12 ∷ 14 ∷ 15 ∷ 16 ∷ 17 ∷ 18 ∷ 19 ∷ 20 ∷ 23 ∷ 25 ∷ 27 ∷ 29 ∷ 30 ∷ 31 ∷ 32 ∷ 33 ∷ 34 ∷ 35 ∷ 36 ∷ 37 ∷ 38 ∷ 39 ∷ []);
      ubi =
          (bar (negsuc 38) (pos 12) (up 5 5) (up 157 0) (up 5 5) (up 157 0) (up 19009 0) (dn 3421975679388877 36), (negsuc 40) ∷ (negsuc 39) ∷ (negsuc 38) ∷ [])
          ∷ (bar (negsuc 37) (pos 16) (up 159 0) (up 159 0) (up 161 0) (up 159 0) (up 793 3) (up 907 1), (negsuc 37) ∷ [])
          ∷ (bar (negsuc 36) (pos 17) (up 79 1) (up 79 1) (up 79 1) (up 39 2) (up 1995 1) (up 14391 0), (negsuc 36) ∷ [])
          ∷ (bar (negsuc 35) (pos 18) (up 5 5) (up 79 1) (up 5 5) (up 79 1) (dn 7585753814694821 25) (up 11087 0), (negsuc 35) ∷ [])
          ∷ (bar (negsuc 33) (pos 19) (up 39 2) (up 157 0) (up 157 0) (up 39 2) (up 2537 0) (up 562949953428215 1), (negsuc 34) ∷ (negsuc 33) ∷ [])
          ∷ (bar (negsuc 32) (pos 23) (up 153 0) (up 153 0) (up 155 0) (up 153 0) (up 11653 0) (up 15971 0), (negsuc 32) ∷ [])
          ∷ (bar (negsuc 31) (pos 25) (up 39 2) (up 39 2) (up 157 0) (up 39 2) (up 0 0) (up 767 4), (negsuc 31) ∷ [])
          ∷ (bar (negsuc 28) (pos 27) (up 75 1) (up 19 3) (up 19 3) (up 75 1) (up 2439 4) (up 18963 0), (negsuc 30) ∷ (negsuc 29) ∷ (negsuc 28) ∷ [])
          ∷ (bar (negsuc 27) (pos 31) (up 37 2) (up 151 0) (up 151 0) (up 37 2) (up 281474976712267 2) (up 25943 0), (negsuc 27) ∷ (negsuc 26) ∷ [])
          ∷ (bar (negsuc 24) (pos 33) (up 19 3) (up 151 0) (up 19 3) (up 151 0) (up 18647 0) (up 21869 0), (negsuc 25) ∷ (negsuc 24) ∷ [])
          ∷ (bar (negsuc 23) (pos 35) (up 37 2) (up 75 1) (up 149 0) (up 147 0) (up 4221 0) (dn 7967929869050839 36), (negsuc 23) ∷ [])
          ∷ (bar (negsuc 22) (pos 36) (up 147 0) (up 147 0) (up 147 0) (up 145 0) (up 0 0) (up 2677 1), (negsuc 22) ∷ [])
          ∷ (bar (negsuc 21) (pos 37) (up 147 0) (up 149 0) (up 149 0) (up 147 0) (up 18739 0) (up 5469 1), (negsuc 21) ∷ (negsuc 20) ∷ [])
          ∷ (bar (negsuc 19) (pos 39) (up 9 4) (up 9 4) (up 37 2) (up 9 4) (up 6835 1) (dn 6131030080912097 35), (negsuc 19) ∷ [])
          ∷ [];
      strokes =
          kept Down (fx (negsuc 47) G (up 41 2) (up 161 0) (up 41 2)) (fx (negsuc 44) D (up 79 1) (up 77 1) (up 77 1))
          (fx (negsuc 47) G (up 41 2) (up 161 0) (up 41 2) ∷ fx (negsuc 44) D (up 79 1) (up 77 1) (up 77 1) ∷ [])
          ((negsuc 48) ∷ (negsuc 47) ∷ (negsuc 46) ∷ (negsuc 45) ∷ (negsuc 44) ∷ (negsuc 43) ∷ [])
          ∷ kept Up (fx (negsuc 44) D (up 79 1) (up 77 1) (up 77 1)) (fx (negsuc 37) G (up 161 0) (up 159 0) (up 161 0))
          (fx (negsuc 44) D (up 79 1) (up 77 1) (up 77 1) ∷ fx (negsuc 43) G (up 159 0) (up 79 1) (up 159 0) ∷ fx (negsuc 41) D (up 155 0) (up 155 0) (up 155 0) ∷ fx (negsuc 37) G (up 161 0) (up 159 0) (up 161 0) ∷ [])
          ((negsuc 45) ∷ (negsuc 44) ∷ (negsuc 43) ∷ (negsuc 41) ∷ (negsuc 38) ∷ (negsuc 37) ∷ (negsuc 36) ∷ [])
          ∷ [];
      measures =
          measured (up 41 2) (up 77 1) (up 5 1) (up 15431 0) (dn 6004799503160661 52) (dn 6005099743135819 52) (neg (dn 1098878309078401 53)) (neg (dn 5404319552844595 51)) (up 1 0) 6
          ((negsuc 47) ∷ (negsuc 46) ∷ (negsuc 45) ∷ (negsuc 44) ∷ [])
          (fake Down (negsuc 47) (negsuc 44) (up 41 2) (up 77 1) (up 5 1) ∷ [])
          ∷ measured (up 161 0) (up 77 1) (up 7 0) (dn 5299661851359969 35) (dn 1 0) (dn 1 0) (dn 3278620528725721 55) (dn 5790342378047781 53) (dn 3109628314136771 53) 7
          ((negsuc 44) ∷ (negsuc 43) ∷ (negsuc 42) ∷ (negsuc 41) ∷ (negsuc 40) ∷ (negsuc 39) ∷ (negsuc 38) ∷ (negsuc 37) ∷ [])
          (fake Up (negsuc 44) (negsuc 43) (up 159 0) (up 77 1) (up 5 0) ∷ fake Down (negsuc 43) (negsuc 41) (up 159 0) (up 155 0) (up 1 2) ∷ fake Up (negsuc 41) (negsuc 37) (up 161 0) (up 155 0) (up 3 1) ∷ [])
          ∷ [];
      fxs =
          fx (negsuc 44) D (up 79 1) (up 77 1) (up 77 1)
          ∷ fx (negsuc 43) G (up 159 0) (up 79 1) (up 159 0)
          ∷ fx (negsuc 41) D (up 155 0) (up 155 0) (up 155 0)
          ∷ fx (negsuc 37) G (up 161 0) (up 159 0) (up 161 0)
          ∷ fx (negsuc 36) D (up 79 1) (up 39 2) (up 39 2)
          ∷ fx (negsuc 35) G (up 5 5) (up 79 1) (up 5 5)
          ∷ fx (negsuc 32) D (up 155 0) (up 153 0) (up 153 0)
          ∷ fx (negsuc 31) G (up 157 0) (up 39 2) (up 157 0)
          ∷ fx (negsuc 27) D (up 151 0) (up 37 2) (up 37 2)
          ∷ fx (negsuc 24) G (up 19 3) (up 151 0) (up 19 3)
          ∷ fx (negsuc 22) D (up 147 0) (up 145 0) (up 145 0)
          ∷ fx (negsuc 21) G (up 149 0) (up 147 0) (up 149 0)
          ∷ [];
      finished = 2;
      extend = false;
      zones =
          zone (negsuc 47) (negsuc 37) Down Up (up 161 0) (up 77 1) (dn 315 0) (up 41 2) (up 77 1) true
          (stroke Down (up 41 2) (up 77 1) (negsuc 47) (negsuc 44)
          ∷ stroke Up (up 161 0) (up 77 1) (negsuc 44) (negsuc 37)
          ∷ [])
          ∷ [];
      fin_zones =
          zone (negsuc 47) (negsuc 37) Down Up (up 161 0) (up 77 1) (dn 315 0) (up 41 2) (up 77 1) true
          (stroke Down (up 41 2) (up 77 1) (negsuc 47) (negsuc 44)
          ∷ stroke Up (up 161 0) (up 77 1) (negsuc 44) (negsuc 37)
          ∷ [])
          ∷ [];
      bis =
          (neither ∷ neither ∷ neither ∷ [])
          ∷ (neither ∷ neither ∷ [])
          ∷ (neither ∷ [])
          ∷ [];
      answers =
          answers Strong (dn 5985183986656215 35) true
          ∷ answers Medium (up 20403 0) true
          ∷ answers Medium (up 20403 0) true
          ∷ answers Medium (dn 3557416957672161 35) false
          ∷ answers Medium (dn 4791412601420513 35) false
          ∷ answers Medium (up 29343 0) false
          ∷ answers Medium (up 29343 0) false
          ∷ answers Weak (dn 7586447317695397 25) false
          ∷ answers Medium (dn 7586191834250149 25) false
          ∷ answers Medium (up 7095 1) false
          ∷ answers Strong (up 50677 0) false
          ∷ answers Weak (up 1125899906906739 0) true
          ∷ answers Medium (up 8796093022437 7) false
          ∷ answers Medium (up 1435 4) true
          ∷ answers Strong (up 32409 0) true
          ∷ [];
      ubifx =
          fx (negsuc 37) G (up 161 0) (up 159 0) (up 161 0)
          ∷ fx (negsuc 36) D (up 79 1) (up 39 2) (up 39 2)
          ∷ fx (negsuc 35) G (up 5 5) (up 79 1) (up 5 5)
          ∷ fx (negsuc 32) D (up 155 0) (up 153 0) (up 153 0)
          ∷ fx (negsuc 31) G (up 157 0) (up 39 2) (up 157 0)
          ∷ fx (negsuc 27) D (up 151 0) (up 37 2) (up 37 2)
          ∷ fx (negsuc 24) G (up 19 3) (up 151 0) (up 19 3)
          ∷ fx (negsuc 22) D (up 147 0) (up 145 0) (up 145 0)
          ∷ fx (negsuc 21) G (up 149 0) (up 147 0) (up 149 0)
          ∷ [];
      unfinished = some (Down, (up 161 0), (up 9 4), (negsuc 37), (negsuc 19), 14, 30, 9, (negsuc 37));
      gaps =
          Gaps.NoGap
          ∷ Gaps.NoGap
          ∷ Gaps.NoGap
          ∷ Gaps.NoGap
          ∷ Gaps.NoGap
          ∷ Gaps.NoGap
          ∷ Gaps.NoGap
          ∷ Gaps.Up (up 155 0) (up 157 0) (dn 7436343704714163 58) true
          ∷ Gaps.NoGap
          ∷ Gaps.NoGap
          ∷ Gaps.NoGap
          ∷ Gaps.Down (up 79 1) (up 159 0) (dn 226981421219473 54) true
          ∷ Gaps.NoGap
          ∷ Gaps.Down (up 157 0) (up 79 1) (dn 7378697629483821 59) false
          ∷ Gaps.NoGap
          ∷ Gaps.Down (up 155 0) (up 39 2) (dn 7493989779944505 59) true
          ∷ Gaps.Up (up 155 0) (up 39 2) (dn 7493989779944505 59) true
          ∷ Gaps.Down (up 155 0) (up 39 2) (dn 7493989779944505 59) false
          ∷ Gaps.NoGap
          ∷ Gaps.NoGap
          ∷ Gaps.NoGap
          ∷ Gaps.NoGap
          ∷ Gaps.NoGap
          ∷ Gaps.NoGap
          ∷ Gaps.NoGap
          ∷ Gaps.NoGap
          ∷ Gaps.NoGap
          ∷ Gaps.NoGap
          ∷ Gaps.NoGap
          ∷ [];
    }
unfolding told run_03 settings bar fx kept measured fake stroke zone answers up dn neg neither rises falls
run_03_told = refl

unfoldable run_04 : List Bar
unfolding bar up dn
run_04 =
    bar (pos 1099511624976) (negsuc 2147483647) (up 63 1) (up 63 1) (up 63 1) (up 63 1) (dn 263269721466821 13) (up 335 2)
    ∷ bar (pos 1099511624977) (negsuc 2147483646) (up 125 0) (up 125 0) (up 127 0) (up 125 0) (up 1529 2) (up 15671 0)
    ∷ bar (pos 1099511624978) (negsuc 2147483645) (up 125 0) (up 125 0) (up 127 0) (up 125 0) (up 7133 1) (up 14373 0)
    ∷ bar (pos 1099511624979) (negsuc 2147483644) (up 63 1) (up 61 1) (up 63 1) (up 61 1) (up 5351 0) (dn 4531870132904919 35)
    ∷ bar (pos 1099511624980) (negsuc 2147483643) (up 121 0) (up 31 2) (up 31 2) (up 121 0) (up 11703 0) (up 0 0)
    ∷ bar (pos 1099511624981) (negsuc 2147483642) (up 123 0) (up 63 1) (up 63 1) (up 123 0) (up 2561 0) (dn 6983324078325105 36)
    ∷ bar (pos 1099511624982) (negsuc 2147483641) (up 123 0) (up 61 1) (up 123 0) (up 61 1) (dn 4238809739611341 37) (up 8855 0)
    ∷ bar (pos 1099511624983) (negsuc 2147483640) (up 125 0) (up 123 0) (up 125 0) (up 123 0) (up 3419 1) (dn 8504601494568305 38)
    ∷ bar (pos 1099511624984) (negsuc 2147483639) (up 125 0) (up 125 0) (up 125 0) (up 31 2) (up 16109 0) (up 0 0)
    ∷ bar (pos 1099511624984) (negsuc 2147483638) (up 127 0) (up 127 0) (up 127 0) (up 127 0) (up 3877 1) (up 9399 1)
    ∷ bar (pos 1099511624985) (negsuc 2147483637) (up 127 0) (up 127 0) (up 127 0) (up 63 1) (up 1891 1) (up 9769 1)
    ∷ bar (pos 1099511624986) (negsuc 2147483636) (up 31 2) (up 31 2) (up 31 2) (up 31 2) (up 6873 0) (dn 1244572945607557 33)
    ∷ bar (pos 1099511624986) (negsuc 2147483635) (up 61 1) (up 31 2) (up 31 2) (up 61 1) (dn 2576300741975081 35) (dn 1653505371794309 34)
    ∷ bar (pos 1099511624986) (negsuc 2147483634) (up 61 1) (up 61 1) (up 61 1) (up 61 1) (dn 2460987398427771 34) (dn 2691721631503483 34)
    ∷ bar (pos 1099511624987) (negsuc 2147483633) (up 31 2) (up 61 1) (up 31 2) (up 61 1) (up 16563 0) (dn 1303976810077225 40)
    ∷ bar (pos 1099511624988) (negsuc 2147483632) (up 123 0) (up 31 2) (up 31 2) (up 123 0) (up 61809 0) (up 1951 3)
    ∷ bar (pos 1099511624989) (negsuc 2147483631) (up 31 2) (up 31 2) (up 31 2) (up 31 2) (up 1545 3) (up 0 0)
    ∷ bar (pos 1099511624990) (negsuc 2147483630) (up 123 0) (up 123 0) (up 123 0) (up 123 0) (dn 4413649268296909 35) (dn 841204735452119 32)
    ∷ bar (pos 1099511624990) (negsuc 2147483629) (up 123 0) (up 123 0) (up 123 0) (up 15 3) (dn 1452709465953403 34) (up 0 0)
    ∷ bar (pos 1099511624991) (negsuc 2147483628) (up 61 1) (up 119 0) (up 61 1) (up 119 0) (up 1 50) (up 1 50)
    ∷ bar (pos 1099511624992) (negsuc 2147483627) (up 121 0) (up 61 1) (up 61 1) (up 121 0) (dn 701429319771095 33) (dn 4911947250810225 37)
    ∷ bar (pos 1099511624993) (negsuc 2147483626) (up 59 1) (up 59 1) (up 121 0) (up 59 1) (dn 4982783287429693 37) (up 7867 1)
    ∷ bar (pos 1099511624994) (negsuc 2147483625) (up 119 0) (up 119 0) (up 119 0) (up 117 0) (up 2051 2) (up 14425 0)
    ∷ bar (pos 1099511624995) (negsuc 2147483624) (up 29 2) (up 29 2) (up 119 0) (up 29 2) (dn 5268212382831739 36) (up 581 5)
    ∷ bar (pos 1099511624996) (negsuc 2147483623) (up 59 1) (up 59 1) (up 59 1) (up 115 0) (up 0 0) (dn 6358322423883849 34)
    ∷ bar (pos 1099511624997) (negsuc 2147483622) (up 115 0) (up 117 0) (up 117 0) (up 115 0) (up 0 0) (dn 8525339658257695 36)
    ∷ bar (pos 1099511624998) (negsuc 2147483621) (up 29 2) (up 57 1) (up 29 2) (up 57 1) (dn 3062916413443277 35) (up 69 6)
    ∷ bar (pos 1099511624999) (negsuc 2147483620) (up 113 0) (up 113 0) (up 115 0) (up 113 0) (up 16993 0) (up 8405 0)
    ∷ bar (pos 1099511625000) (negsuc 2147483619) (up 29 2) (up 57 1) (up 29 2) (up 57 1) (up 8155 1) (up 5083 0)
    ∷ bar (pos 1099511625001) (negsuc 2147483618) (up 57 1) (up 57 1) (up 57 1) (up 57 1) (dn 8191581529256755 36) (up 4317 0)
    ∷ bar (pos 1099511625002) (negsuc 2147483617) (up 7 4) (up 7 4) (up 57 1) (up 7 4) (up 0 0) (up 0 0)
    ∷ bar (pos 1099511625002) (negsuc 2147483616) (up 113 0) (up 113 0) (up 115 0) (up 7 4) (dn 3778492324695245 36) (up 539 4)
    ∷ bar (pos 1099511625003) (negsuc 2147483615) (up 7 4) (up 57 1) (up 57 1) (up 7 4) (up 0 0) (up 559 1)
    ∷ bar (pos 1099511625004) (negsuc 2147483614) (up 111 0) (up 27 2) (up 55 1) (up 27 2) (up 8715 0) (up 527 1)
    ∷ bar (pos 1099511625005) (negsuc 2147483613) (up 7 4) (up 7 4) (up 7 4) (up 55 1) (dn 6417393074002985 38) (up 4833 1)
    ∷ bar (pos 1099511625005) (negsuc 2147483612) (up 113 0) (up 113 0) (up 113 0) (up 111 0) (dn 5740910298676593 35) (dn 1508075717567447 33)
    ∷ bar (pos 1099511625006) (negsuc 2147483611) (up 7 4) (up 7 4) (up 111 0) (up 55 1) (up 605 2) (up 787 2)
    ∷ bar (pos 1099511625007) (negsuc 2147483610) (up 113 0) (up 111 0) (up 113 0) (up 111 0) (up 2687 1) (dn 2609105702181929 34)
    ∷ bar (pos 1099511625008) (negsuc 2147483609) (up 7 4) (up 111 0) (up 7 4) (up 111 0) (up 8359 1) (up 12081 0)
    ∷ bar (pos 1099511625009) (negsuc 2147483608) (up 113 0) (up 113 0) (up 113 0) (up 113 0) (up 3931 0) (up 19961 0)
    ∷ []

run_04_told : told (settings 7 5 64 64 64) run_04
    ≡ record {
      events = (6, 4, 0);
      raw = map pos (1099511624979 ∷ 1099511624980 ∷ 1099511624981 ∷ 1099511624982 ∷ 1099511624983 ∷ 1099511624984 ∷ 1099511624985 ∷ 1099511624986 ∷ 1099511624987 ∷ 1099511624988 ∷ 1099511624989 ∷ 1099511624990 ∷ 1099511624991 ∷ 1099511624992 ∷ 1099511624993 ∷ 1099511624994 ∷ 1099511624995 ∷ 1099511624996 ∷ 1099511624997 ∷ 1099511624998 ∷ 1099511624999 ∷ 1099511625000 ∷ 1099511625001 ∷ 1099511625002 ∷ 1099511625003 ∷ 1099511625004 ∷ 1099511625005 ∷ 1099511625006 ∷ 1099511625007 ∷ 1099511625008 ∷ 1099511625009 ∷ []);
      ids = (negsuc 2147483644) ∷ (negsuc 2147483643) ∷ (negsuc 2147483642) ∷ (negsuc 2147483641) ∷ (negsuc 2147483640) ∷ (negsuc 2147483638) ∷ (negsuc 2147483637) ∷ (negsuc 2147483634) ∷ (negsuc 2147483633) ∷ (negsuc 2147483632) ∷ (negsuc 2147483631) ∷ (negsuc 2147483629) ∷ (negsuc 2147483628) ∷ (negsuc 2147483627) ∷ (negsuc 2147483626) ∷ (negsuc 2147483625) ∷ (negsuc 2147483624) ∷ (negsuc 2147483623) ∷ (negsuc 2147483622) ∷ (negsuc 2147483621) ∷ (negsuc 2147483620) ∷ (negsuc 2147483619) ∷ (negsuc 2147483618) ∷ (negsuc 2147483616) ∷ (negsuc 2147483615) ∷ (negsuc 2147483614) ∷ (negsuc 2147483612) ∷ (negsuc 2147483611) ∷ (negsuc 2147483610) ∷ (negsuc 2147483609) ∷ (negsuc 2147483608) ∷ [];
      ubi =
          (bar (pos 1099511625003) (negsuc 2147483616) (up 7 4) (up 57 1) (up 57 1) (up 7 4) (dn 3778492324695245 36) (up 4871 1), map pos (1099511625002 ∷ 1099511625003 ∷ []))
          ∷ (bar (pos 1099511625004) (negsuc 2147483614) (up 111 0) (up 27 2) (up 55 1) (up 27 2) (up 8715 0) (up 527 1), map pos (1099511625004 ∷ []))
          ∷ (bar (pos 1099511625005) (negsuc 2147483612) (up 113 0) (up 113 0) (up 113 0) (up 111 0) (dn 5740910298676593 35) (dn 1508075717567447 33), map pos (1099511625005 ∷ []))
          ∷ (bar (pos 1099511625006) (negsuc 2147483611) (up 7 4) (up 7 4) (up 111 0) (up 55 1) (up 605 2) (up 787 2), map pos (1099511625006 ∷ []))
          ∷ (bar (pos 1099511625009) (negsuc 2147483610) (up 113 0) (up 113 0) (up 113 0) (up 113 0) (up 26023 0) (dn 3710060438969385 34), map pos (1099511625007 ∷ 1099511625008 ∷ 1099511625009 ∷ []))
          ∷ [];
      strokes =
          kept Up (fx (pos 1099511624980) D (up 31 2) (up 121 0) (up 121 0)) (fx (pos 1099511624985) G (up 127 0) (up 127 0) (up 127 0))
          (fx (pos 1099511624980) D (up 31 2) (up 121 0) (up 121 0) ∷ fx (pos 1099511624981) G (up 63 1) (up 123 0) (up 63 1) ∷ fx (pos 1099511624982) D (up 123 0) (up 61 1) (up 61 1) ∷ fx (pos 1099511624985) G (up 127 0) (up 127 0) (up 127 0) ∷ [])
          (map pos (1099511624979 ∷ 1099511624980 ∷ 1099511624981 ∷ 1099511624982 ∷ 1099511624983 ∷ 1099511624985 ∷ 1099511624986 ∷ []))
          ∷ kept Down (fx (pos 1099511624985) G (up 127 0) (up 127 0) (up 127 0)) (fx (pos 1099511625004) D (up 55 1) (up 27 2) (up 27 2))
          (fx (pos 1099511624985) G (up 127 0) (up 127 0) (up 127 0) ∷ fx (pos 1099511624987) D (up 61 1) (up 61 1) (up 61 1) ∷ fx (pos 1099511624989) G (up 31 2) (up 31 2) (up 31 2) ∷ fx (pos 1099511624999) D (up 115 0) (up 113 0) (up 113 0) ∷ fx (pos 1099511625000) G (up 29 2) (up 57 1) (up 29 2) ∷ fx (pos 1099511625004) D (up 55 1) (up 27 2) (up 27 2) ∷ [])
          (map pos (1099511624983 ∷ 1099511624985 ∷ 1099511624987 ∷ 1099511624989 ∷ 1099511624990 ∷ 1099511624991 ∷ 1099511624993 ∷ 1099511624995 ∷ 1099511624997 ∷ 1099511624998 ∷ 1099511624999 ∷ 1099511625000 ∷ 1099511625003 ∷ 1099511625004 ∷ 1099511625005 ∷ []))
          ∷ [];
      measures =
          measured (up 127 0) (up 121 0) (up 3 1) (dn 3302568716612403 35) (dn 6004799503160661 52) (dn 6005099743135819 52) (dn 7148113328562451 56) (dn 4889622452573681 52) (dn 7077085128725065 53) 7
          (map pos (1099511624980 ∷ 1099511624981 ∷ 1099511624982 ∷ 1099511624983 ∷ 1099511624984 ∷ 1099511624985 ∷ []))
          (fake Up (pos 1099511624980) (pos 1099511624981) (up 63 1) (up 121 0) (up 5 0) ∷ fake Down (pos 1099511624981) (pos 1099511624982) (up 63 1) (up 61 1) (up 1 2) ∷ fake Up (pos 1099511624982) (pos 1099511624985) (up 127 0) (up 61 1) (up 5 0) ∷ [])
          ∷ measured (up 127 0) (up 27 2) (up 19 0) (dn 2251799814675939 0) (dn 4753799606668857 51) (dn 594249970831537 48) (neg (dn 2694954017018505 53)) (neg (dn 7041992144615685 52)) (dn 8771372260077649 66) 15
          (map pos (1099511624984 ∷ 1099511624985 ∷ 1099511624986 ∷ 1099511624987 ∷ 1099511624988 ∷ 1099511624989 ∷ 1099511624990 ∷ 1099511624991 ∷ 1099511624992 ∷ 1099511624993 ∷ 1099511624994 ∷ 1099511624995 ∷ 1099511624996 ∷ 1099511624997 ∷ 1099511624998 ∷ 1099511624999 ∷ 1099511625000 ∷ 1099511625001 ∷ 1099511625002 ∷ 1099511625003 ∷ 1099511625004 ∷ []))
          (fake Down (pos 1099511624985) (pos 1099511624987) (up 127 0) (up 61 1) (up 5 0) ∷ fake Up (pos 1099511624987) (pos 1099511624989) (up 31 2) (up 61 1) (up 1 1) ∷ fake Down (pos 1099511624989) (pos 1099511624999) (up 31 2) (up 113 0) (up 11 0) ∷ fake Up (pos 1099511624999) (pos 1099511625000) (up 29 2) (up 113 0) (up 3 0) ∷ fake Down (pos 1099511625000) (pos 1099511625004) (up 29 2) (up 27 2) (up 1 3) ∷ [])
          ∷ [];
      fxs =
          fx (pos 1099511624981) G (up 63 1) (up 123 0) (up 63 1)
          ∷ fx (pos 1099511624982) D (up 123 0) (up 61 1) (up 61 1)
          ∷ fx (pos 1099511624985) G (up 127 0) (up 127 0) (up 127 0)
          ∷ fx (pos 1099511624987) D (up 61 1) (up 61 1) (up 61 1)
          ∷ fx (pos 1099511624989) G (up 31 2) (up 31 2) (up 31 2)
          ∷ fx (pos 1099511624999) D (up 115 0) (up 113 0) (up 113 0)
          ∷ fx (pos 1099511625000) G (up 29 2) (up 57 1) (up 29 2)
          ∷ fx (pos 1099511625004) D (up 55 1) (up 27 2) (up 27 2)
          ∷ fx (pos 1099511625005) G (up 113 0) (up 111 0) (up 113 0)
          ∷ fx (pos 1099511625006) D (up 111 0) (up 55 1) (up 55 1)
          ∷ [];
      finished = 2;
      extend = false;
      zones =
          zone (pos 1099511624980) (pos 1099511625004) Up Down (up 127 0) (up 121 0) (up 31 2) (up 127 0) (up 27 2) true
          (stroke Up (up 127 0) (up 121 0) (pos 1099511624980) (pos 1099511624985)
          ∷ stroke Down (up 127 0) (up 27 2) (pos 1099511624985) (pos 1099511625004)
          ∷ [])
          ∷ [];
      fin_zones =
          zone (pos 1099511624980) (pos 1099511625004) Up Down (up 127 0) (up 121 0) (up 31 2) (up 127 0) (up 27 2) true
          (stroke Up (up 127 0) (up 121 0) (pos 1099511624980) (pos 1099511624985)
          ∷ stroke Down (up 127 0) (up 27 2) (pos 1099511624985) (pos 1099511625004)
          ∷ [])
          ∷ [];
      bis =
          (neither ∷ neither ∷ neither ∷ [])
          ∷ (neither ∷ neither ∷ [])
          ∷ (neither ∷ [])
          ∷ [];
      answers =
          answers Medium (up 19615 0) true
          ∷ answers Medium (dn 8159668204260557 37) true
          ∷ answers Weak (dn 6822387186977997 37) true
          ∷ answers Medium (up 25247 0) false
          ∷ answers Strong (dn 3661413577790587 34) false
          ∷ answers Medium (dn 5974889121846395 34) false
          ∷ answers Medium (dn 3515612322993275 33) false
          ∷ answers Medium (dn 1180908988976333 32) true
          ∷ answers Weak (dn 481587 1) true
          ∷ answers Medium (dn 6580621072704471 36) false
          ∷ answers Medium (dn 1028630837597307 32) false
          ∷ answers Weak (dn 6506101672131953 35) false
          ∷ answers Medium (dn 7695498375478641 35) false
          ∷ [];
      ubifx =
          fx (pos 1099511625004) D (up 55 1) (up 27 2) (up 27 2)
          ∷ fx (pos 1099511625005) G (up 113 0) (up 111 0) (up 113 0)
          ∷ fx (pos 1099511625006) D (up 111 0) (up 55 1) (up 55 1)
          ∷ [];
      unfinished = some (Up, (up 115 0), (up 27 2), (pos 1099511625002), (pos 1099511625004), 5, 31, 3, (pos 1099511625004));
      gaps =
          Gaps.NoGap
          ∷ Gaps.NoGap
          ∷ Gaps.NoGap
          ∷ Gaps.NoGap
          ∷ Gaps.Up (up 125 0) (up 127 0) (dn 1152921504606847 55) true
          ∷ Gaps.NoGap
          ∷ Gaps.Down (up 61 1) (up 63 1) (dn 4726978168888073 56) false
          ∷ Gaps.NoGap
          ∷ Gaps.NoGap
          ∷ Gaps.NoGap
          ∷ Gaps.Down (up 123 0) (up 31 2) (dn 2334666046828865 57) false
          ∷ Gaps.NoGap
          ∷ Gaps.NoGap
          ∷ Gaps.NoGap
          ∷ Gaps.NoGap
          ∷ Gaps.NoGap
          ∷ Gaps.NoGap
          ∷ Gaps.NoGap
          ∷ Gaps.NoGap
          ∷ Gaps.NoGap
          ∷ Gaps.NoGap
          ∷ Gaps.NoGap
          ∷ Gaps.NoGap
          ∷ Gaps.NoGap
          ∷ Gaps.Down (up 55 1) (up 7 4) (dn 2622896422980577 56) true
          ∷ Gaps.Up (up 55 1) (up 111 0) (dn 2622896422980577 57) false
          ∷ Gaps.NoGap
          ∷ Gaps.NoGap
          ∷ Gaps.NoGap
          ∷ Gaps.Up (up 7 4) (up 113 0) (dn 5130500695500469 58) false
          ∷ [];
    }
unfolding told run_04 settings bar fx kept measured fake stroke zone answers up dn neg neither rises falls
run_04_told = refl

unfoldable run_05 : List Bar
unfolding bar up dn
run_05 =
    bar (negsuc 1099511627775) (pos 2147483607) (up 5 0) (up 1 0) (up 5 0) (up 1 0) (up 10381 0) (dn 5928748116386775 35)
    ∷ bar (negsuc 1099511627775) (pos 2147483608) (up 5 0) (up 1 1) (up 5 0) (up 1 0) (dn 6869339769457869 35) (up 1533 3)
    ∷ bar (negsuc 1099511627774) (pos 2147483609) (up 3 0) (up 1 0) (up 1 2) (up 3 0) (up 2273 2) (up 2059 3)
    ∷ bar (negsuc 1099511627773) (pos 2147483610) (up 3 0) (up 1 2) (up 3 0) (up 1 0) (up 1101 0) (up 2245 3)
    ∷ bar (negsuc 1099511627772) (pos 2147483611) (up 1 0) (up 1 0) (up 1 1) (up 1 0) (up 0 0) (up 17279 0)
    ∷ bar (negsuc 1099511627771) (pos 2147483612) (up 3 0) (up 1 1) (up 1 1) (up 1 0) (up 1 50) (up 8969 1)
    ∷ bar (negsuc 1099511627770) (pos 2147483613) (up 3 0) (up 1 0) (up 3 0) (up 3 0) (up 1 50) (up 561 3)
    ∷ bar (negsuc 1099511627770) (pos 2147483614) (up 1 0) (up 3 0) (up 1 2) (up 1 1) (up 4883 2) (up 4715 0)
    ∷ bar (negsuc 1099511627769) (pos 2147483615) (up 1 1) (up 1 2) (up 3 0) (up 1 1) (up 0 0) (up 5479 0)
    ∷ bar (negsuc 1099511627768) (pos 2147483616) (up 1 1) (up 1 0) (up 5 0) (up 3 0) (up 0 0) (dn 728659412427735 33)
    ∷ bar (negsuc 1099511627768) (pos 2147483617) (up 1 1) (up 1 1) (up 1 1) (up 1 0) (up 12017 0) (up 58611 0)
    ∷ bar (negsuc 1099511627767) (pos 2147483618) (up 1 2) (up 1 1) (up 1 2) (up 1 1) (up 751 1) (up 12257 0)
    ∷ bar (negsuc 1099511627766) (pos 2147483619) (up 1 2) (up 1 2) (up 1 2) (up 3 0) (up 1163 2) (up 10309 0)
    ∷ bar (negsuc 1099511627765) (pos 2147483620) (up 1 2) (up 1 1) (up 1 0) (up 1 0) (up 4697 0) (up 0 0)
    ∷ bar (negsuc 1099511627764) (pos 2147483621) (up 1 0) (up 1 2) (up 5 0) (up 3 0) (dn 8514773351514767 36) (up 985 0)
    ∷ bar (negsuc 1099511627763) (pos 2147483622) (up 1 2) (up 5 0) (up 5 0) (up 1 1) (up 9469 1) (dn 1856737968564229 25)
    ∷ bar (negsuc 1099511627762) (pos 2147483623) (up 1 0) (up 3 0) (up 1 2) (up 1 0) (dn 5099043795942693 42) (up 3719 0)
    ∷ bar (negsuc 1099511627761) (pos 2147483624) (up 1 2) (up 1 0) (up 5 0) (up 1 2) (up 16811 0) (up 885 2)
    ∷ bar (negsuc 1099511627761) (pos 2147483625) (up 5 0) (up 1 0) (up 1 2) (up 3 0) (up 1 50) (up 917 1)
    ∷ bar (negsuc 1099511627760) (pos 2147483626) (up 1 0) (up 3 0) (up 1 2) (up 1 0) (dn 1038829693257285 10) (up 2997 2)
    ∷ bar (negsuc 1099511627759) (pos 2147483627) (up 1 0) (up 3 0) (up 1 2) (up 1 0) (up 13 7) (up 1033 0)
    ∷ bar (negsuc 1099511627758) (pos 2147483628) (up 1 2) (up 5 0) (up 1 0) (up 1 0) (dn 680152051786711 33) (up 2243 1)
    ∷ bar (negsuc 1099511627758) (pos 2147483629) (up 1 1) (up 1 1) (up 5 0) (up 1 2) (up 13449 0) (dn 6564691210802299 35)
    ∷ bar (negsuc 1099511627757) (pos 2147483630) (up 5 0) (up 1 0) (up 3 0) (up 1 1) (dn 7291348137677947 36) (up 301 4)
    ∷ bar (negsuc 1099511627757) (pos 2147483631) (up 3 0) (up 1 1) (up 1 2) (up 1 0) (dn 5971824920378737 35) (up 429 5)
    ∷ bar (negsuc 1099511627756) (pos 2147483632) (up 5 0) (up 1 1) (up 3 0) (up 1 0) (up 4897 1) (up 1 50)
    ∷ bar (negsuc 1099511627755) (pos 2147483633) (up 5 0) (up 3 0) (up 1 1) (up 1 1) (up 19421 0) (up 8691 1)
    ∷ bar (negsuc 1099511627754) (pos 2147483634) (up 1 0) (up 1 2) (up 5 0) (up 1 1) (up 401 5) (up 503 1)
    ∷ bar (negsuc 1099511627753) (pos 2147483635) (up 1 0) (up 3 0) (up 1 2) (up 1 0) (up 1 50) (up 7423 1)
    ∷ bar (negsuc 1099511627752) (pos 2147483636) (up 1 0) (up 3 0) (up 5 0) (up 3 0) (up 1 50) (up 15671 0)
    ∷ bar (negsuc 1099511627751) (pos 2147483637) (up 3 0) (up 1 1) (up 5 0) (up 1 2) (up 7629 1) (dn 7548898252429137 7)
    ∷ bar (negsuc 1099511627750) (pos 2147483638) (up 1 2) (up 5 0) (up 3 0) (up 3 0) (up 7305 0) (up 6091 0)
    ∷ bar (negsuc 1099511627749) (pos 2147483639) (up 1 1) (up 1 1) (up 5 0) (up 1 2) (dn 4605393788259533 35) (dn 6550189339626701 35)
    ∷ bar (negsuc 1099511627748) (pos 2147483640) (up 1 1) (up 1 1) (up 3 0) (up 1 0) (dn 1384551011781687 36) (up 2897 1)
    ∷ bar (negsuc 1099511627748) (pos 2147483641) (up 5 0) (up 5 0) (up 1 0) (up 1 0) (up 0 0) (up 7577 1)
    ∷ bar (negsuc 1099511627747) (pos 2147483642) (up 3 0) (up 1 0) (up 5 0) (up 3 0) (up 1049 4) (up 731 0)
    ∷ bar (negsuc 1099511627746) (pos 2147483643) (up 1 2) (up 5 0) (up 1 1) (up 1 0) (up 15843 0) (up 10637 0)
    ∷ bar (negsuc 1099511627745) (pos 2147483644) (up 1 1) (up 1 2) (up 3 0) (up 1 1) (dn 683302496197673 33) (up 0 0)
    ∷ bar (negsuc 1099511627744) (pos 2147483645) (up 1 1) (up 1 2) (up 1 2) (up 1 0) (up 16307 0) (dn 6728493017134531 36)
    ∷ bar (negsuc 1099511627743) (pos 2147483646) (up 5 0) (up 1 0) (up 3 0) (up 1 1) (up 1215 3) (up 1093 0)
    ∷ []

run_05_told : told (settings 1 5 64 64 64) run_05
    ≡ record {
      events = (16, 0, 11);
      raw = (negsuc 1099511627753) ∷ (negsuc 1099511627752) ∷ (negsuc 1099511627751) ∷ (negsuc 1099511627750) ∷ (negsuc 1099511627749) ∷ (negsuc 1099511627748) ∷ (negsuc 1099511627747) ∷ (negsuc 1099511627746) ∷ (negsuc 1099511627745) ∷ (negsuc 1099511627744) ∷ (negsuc 1099511627743) ∷ [];
      ids = map pos (2147483635 ∷ 2147483636 ∷ 2147483637 ∷ 2147483638 ∷ 2147483639 ∷ 2147483641 ∷ 2147483642 ∷ 2147483643 ∷ 2147483644 ∷ 2147483645 ∷ 2147483646 ∷ []);
      ubi =
          (bar (negsuc 1099511627747) (pos 2147483642) (up 3 0) (up 1 0) (up 5 0) (up 3 0) (up 1049 4) (up 731 0), (negsuc 1099511627747) ∷ [])
          ∷ (bar (negsuc 1099511627746) (pos 2147483643) (up 1 2) (up 5 0) (up 1 1) (up 1 0) (up 15843 0) (up 10637 0), (negsuc 1099511627746) ∷ [])
          ∷ (bar (negsuc 1099511627744) (pos 2147483644) (up 1 2) (up 1 1) (up 1 2) (up 1 1) (dn 1130442951449641 33) (dn 6878713793279427 36), (negsuc 1099511627745) ∷ (negsuc 1099511627744) ∷ (negsuc 1099511627743) ∷ [])
          ∷ [];
      strokes =
          kept Down (fx (negsuc 1099511627751) G (up 5 0) (up 1 2) (up 5 0)) (fx (negsuc 1099511627750) D (up 3 0) (up 3 0) (up 3 0))
          (fx (negsuc 1099511627751) G (up 5 0) (up 1 2) (up 5 0) ∷ fx (negsuc 1099511627750) D (up 3 0) (up 3 0) (up 3 0) ∷ [])
          ((negsuc 1099511627753) ∷ (negsuc 1099511627751) ∷ (negsuc 1099511627750) ∷ (negsuc 1099511627749) ∷ [])
          ∷ kept Up (fx (negsuc 1099511627750) D (up 3 0) (up 3 0) (up 3 0)) (fx (negsuc 1099511627749) G (up 5 0) (up 1 2) (up 5 0))
          (fx (negsuc 1099511627750) D (up 3 0) (up 3 0) (up 3 0) ∷ fx (negsuc 1099511627749) G (up 5 0) (up 1 2) (up 5 0) ∷ [])
          ((negsuc 1099511627751) ∷ (negsuc 1099511627750) ∷ (negsuc 1099511627749) ∷ (negsuc 1099511627748) ∷ [])
          ∷ kept Down (fx (negsuc 1099511627749) G (up 5 0) (up 1 2) (up 5 0)) (fx (negsuc 1099511627748) D (up 1 0) (up 1 0) (up 1 0))
          (fx (negsuc 1099511627749) G (up 5 0) (up 1 2) (up 5 0) ∷ fx (negsuc 1099511627748) D (up 1 0) (up 1 0) (up 1 0) ∷ [])
          ((negsuc 1099511627750) ∷ (negsuc 1099511627749) ∷ (negsuc 1099511627748) ∷ (negsuc 1099511627747) ∷ [])
          ∷ kept Up (fx (negsuc 1099511627748) D (up 1 0) (up 1 0) (up 1 0)) (fx (negsuc 1099511627747) G (up 5 0) (up 3 0) (up 5 0))
          (fx (negsuc 1099511627748) D (up 1 0) (up 1 0) (up 1 0) ∷ fx (negsuc 1099511627747) G (up 5 0) (up 3 0) (up 5 0) ∷ [])
          ((negsuc 1099511627749) ∷ (negsuc 1099511627748) ∷ (negsuc 1099511627747) ∷ (negsuc 1099511627746) ∷ [])
          ∷ kept Down (fx (negsuc 1099511627747) G (up 5 0) (up 3 0) (up 5 0)) (fx (negsuc 1099511627746) D (up 1 1) (up 1 0) (up 1 0))
          (fx (negsuc 1099511627747) G (up 5 0) (up 3 0) (up 5 0) ∷ fx (negsuc 1099511627746) D (up 1 1) (up 1 0) (up 1 0) ∷ [])
          ((negsuc 1099511627748) ∷ (negsuc 1099511627747) ∷ (negsuc 1099511627746) ∷ (negsuc 1099511627745) ∷ [])
          ∷ [];
      measures =
          measured (up 5 0) (up 3 0) (up 1 1) (up 1125899906865187 0) (up 1 0) (up 1 0) (neg (dn 3602879701896397 52)) (up 1 0) (up 1 1) 4
          ((negsuc 1099511627752) ∷ (negsuc 1099511627751) ∷ (negsuc 1099511627750) ∷ [])
          (fake Down (negsuc 1099511627751) (negsuc 1099511627750) (up 5 0) (up 3 0) (up 1 1) ∷ [])
          ∷ measured (up 5 0) (up 3 0) (up 1 1) (dn 5107389565816013 35) (up 1 1) (up 1 1) (dn 6005099743135819 52) (neg (up 3 0)) (up 0 0) 4
          ((negsuc 1099511627750) ∷ (negsuc 1099511627749) ∷ [])
          (fake Up (negsuc 1099511627750) (negsuc 1099511627749) (up 5 0) (up 3 0) (up 1 1) ∷ [])
          ∷ measured (up 5 0) (up 1 0) (up 1 2) (dn 4605393788259533 35) (up 0 0) (up 0 0) (neg (dn 3602879701896397 51)) (up 3 0) (up 0 0) 4
          ((negsuc 1099511627749) ∷ (negsuc 1099511627748) ∷ [])
          (fake Down (negsuc 1099511627749) (negsuc 1099511627748) (up 5 0) (up 1 0) (up 1 2) ∷ [])
          ∷ measured (up 5 0) (up 1 0) (up 1 2) (up 1049 4) (up 1 1) (up 1 1) (up 1 2) (neg (up 1 2)) (up 0 0) 4
          ((negsuc 1099511627748) ∷ (negsuc 1099511627747) ∷ [])
          (fake Up (negsuc 1099511627748) (negsuc 1099511627747) (up 5 0) (up 1 0) (up 1 2) ∷ [])
          ∷ measured (up 5 0) (up 1 0) (up 1 2) (up 32627 0) (dn 6004799503160661 52) (dn 6005099743135819 52) (neg (dn 3602879701896397 51)) (up 1 2) (up 0 0) 4
          ((negsuc 1099511627747) ∷ (negsuc 1099511627746) ∷ [])
          (fake Down (negsuc 1099511627747) (negsuc 1099511627746) (up 5 0) (up 1 0) (up 1 2) ∷ [])
          ∷ [];
      fxs =
          fx (negsuc 1099511627750) D (up 3 0) (up 3 0) (up 3 0)
          ∷ fx (negsuc 1099511627749) G (up 5 0) (up 1 2) (up 5 0)
          ∷ fx (negsuc 1099511627748) D (up 1 0) (up 1 0) (up 1 0)
          ∷ fx (negsuc 1099511627747) G (up 5 0) (up 3 0) (up 5 0)
          ∷ fx (negsuc 1099511627746) D (up 1 1) (up 1 0) (up 1 0)
          ∷ [];
      finished = 4;
      extend = false;
      zones =
          zone (negsuc 1099511627751) (negsuc 1099511627746) Down Down (up 5 0) (up 3 0) (up 1 2) (up 5 0) (up 1 0) true
          (stroke Down (up 5 0) (up 3 0) (negsuc 1099511627751) (negsuc 1099511627750)
          ∷ stroke Up (up 5 0) (up 3 0) (negsuc 1099511627750) (negsuc 1099511627749)
          ∷ stroke Down (up 5 0) (up 1 0) (negsuc 1099511627749) (negsuc 1099511627748)
          ∷ stroke Up (up 5 0) (up 1 0) (negsuc 1099511627748) (negsuc 1099511627747)
          ∷ stroke Down (up 5 0) (up 1 0) (negsuc 1099511627747) (negsuc 1099511627746)
          ∷ [])
          ∷ [];
      fin_zones =
          zone (negsuc 1099511627751) (negsuc 1099511627747) Down Up (up 5 0) (up 3 0) (up 1 2) (up 5 0) (up 1 0) true
          (stroke Down (up 5 0) (up 3 0) (negsuc 1099511627751) (negsuc 1099511627750)
          ∷ stroke Up (up 5 0) (up 3 0) (negsuc 1099511627750) (negsuc 1099511627749)
          ∷ stroke Down (up 5 0) (up 1 0) (negsuc 1099511627749) (negsuc 1099511627748)
          ∷ stroke Up (up 5 0) (up 1 0) (negsuc 1099511627748) (negsuc 1099511627747)
          ∷ [])
          ∷ [];
      bis =
          (neither ∷ neither ∷ neither ∷ falls ∷ neither ∷ falls ∷ [])
          ∷ (neither ∷ neither ∷ neither ∷ neither ∷ neither ∷ [])
          ∷ (neither ∷ neither ∷ neither ∷ falls ∷ [])
          ∷ (neither ∷ neither ∷ neither ∷ [])
          ∷ (neither ∷ neither ∷ [])
          ∷ (neither ∷ [])
          ∷ [];
      answers =
          answers Weak (up 2251799813707811 0) false
          ∷ answers Weak (dn 4503599627728817 1) false
          ∷ answers Weak (dn 4503599627728817 1) false
          ∷ answers Strong (dn 724958133963357 32) false
          ∷ answers Weak (dn 5107389565816013 35) false
          ∷ answers Weak (dn 5758781485796557 35) false
          ∷ answers Weak (dn 5758781485796557 35) false
          ∷ answers Weak (up 32627 0) false
          ∷ answers Weak (up 32627 0) false
          ∷ answers Medium (dn 1243830088064041 33) false
          ∷ answers Weak (dn 1690970543316009 33) false
          ∷ [];
      ubifx =
          fx (negsuc 1099511627746) D (up 1 1) (up 1 0) (up 1 0)
          ∷ [];
      unfinished = some (Up, (up 5 0), (up 1 0), (negsuc 1099511627747), (negsuc 1099511627746), 3, 11, 1, (negsuc 1099511627746));
      gaps =
          Gaps.NoGap
          ∷ Gaps.NoGap
          ∷ Gaps.Down (up 3 0) (up 1 2) (dn 6004199023210345 53) true
          ∷ Gaps.Up (up 3 0) (up 1 2) (dn 6004199023210345 53) true
          ∷ Gaps.Down (up 1 0) (up 1 2) (up 3 0) true
          ∷ Gaps.Up (up 1 0) (up 3 0) (up 1 1) false
          ∷ Gaps.Down (up 1 1) (up 3 0) (dn 1 0) true
          ∷ Gaps.NoGap
          ∷ Gaps.NoGap
          ∷ Gaps.NoGap
          ∷ [];
    }
unfolding told run_05 settings bar fx kept measured fake stroke zone answers up dn neg neither rises falls
run_05_told = refl

unfoldable run_06 : List Bar
unfolding bar up dn
run_06 =
    bar (pos 0) (pos 0) (up 5 0) (up 1 1) (up 1 0) (up 1 0) (up 1 50) (dn 6820452046513111 38)
    ∷ bar (pos 1) (pos 1) (up 3 0) (up 1 2) (up 1 2) (up 1 1) (up 15137 0) (up 939 0)
    ∷ bar (pos 2) (pos 2) (up 1 1) (up 5 0) (up 3 0) (up 1 1) (up 0 0) (up 4611 1)
    ∷ bar (pos 3) (pos 3) (up 1 1) (up 1 1) (up 1 1) (up 1 1) (up 19365 0) (dn 6158087000487363 36)
    ∷ bar (pos 4) (pos 4) (up 5 0) (up 5 0) (up 3 0) (up 1 1) (dn 4672468120722473 38) (up 9297 1)
    ∷ bar (pos 5) (pos 5) (up 1 1) (up 1 0) (up 3 0) (up 1 0) (up 4967 1) (up 8815 1)
    ∷ bar (pos 6) (pos 6) (up 1 0) (up 1 2) (up 1 1) (up 1 0) (up 1 50) (up 5429 1)
    ∷ bar (pos 7) (pos 7) (up 5 0) (up 1 2) (up 5 0) (up 3 0) (dn 1424392746570875 33) (dn 1298509316709417 33)
    ∷ bar (pos 8) (pos 8) (up 3 0) (up 1 2) (up 3 0) (up 1 0) (up 2239 0) (up 2509 1)
    ∷ bar (pos 9) (pos 9) (up 1 1) (up 1 1) (up 1 2) (up 1 0) (up 1051 4) (up 1495 0)
    ∷ bar (pos 10) (pos 10) (up 3 0) (up 1 1) (up 1 2) (up 3 0) (up 239 3) (dn 3930424215810867 36)
    ∷ bar (pos 11) (pos 11) (up 1 1) (up 1 2) (up 3 0) (up 1 1) (up 2135 1) (dn 3871469776719053 36)
    ∷ bar (pos 12) (pos 12) (up 5 0) (up 5 0) (up 5 0) (up 5 0) (up 7921 1) (up 24611 1)
    ∷ bar (pos 13) (pos 13) (up 1 2) (up 3 0) (up 1 1) (up 1 1) (dn 8332647177945331 6) (up 1 50)
    ∷ bar (pos 14) (pos 14) (up 1 0) (up 1 1) (up 1 2) (up 1 1) (up 7431 1) (up 1 50)
    ∷ bar (pos 15) (pos 15) (up 3 0) (up 1 0) (up 1 2) (up 3 0) (up 1 50) (up 0 0)
    ∷ bar (pos 15) (pos 16) (up 1 1) (up 3 0) (up 5 0) (up 5 0) (up 0 0) (up 643 4)
    ∷ bar (pos 16) (pos 17) (up 1 2) (up 3 0) (up 5 0) (up 3 0) (dn 4017109712544727 37) (up 1047 0)
    ∷ bar (pos 17) (pos 18) (up 1 1) (up 3 0) (up 1 1) (up 1 1) (dn 6722932924271821 35) (up 6619 0)
    ∷ bar (pos 18) (pos 19) (up 1 2) (up 3 0) (up 1 2) (up 1 2) (up 15389 0) (up 6151 0)
    ∷ bar (pos 19) (pos 20) (up 3 0) (up 1 1) (up 5 0) (up 3 0) (up 15 6) (up 3039 0)
    ∷ bar (pos 20) (pos 21) (up 5 0) (up 5 0) (up 1 1) (up 1 0) (up 93 6) (up 9163 0)
    ∷ bar (pos 20) (pos 22) (up 5 0) (up 3 0) (up 3 0) (up 1 0) (up 3215 1) (dn 6990551992888197 38)
    ∷ bar (pos 21) (pos 23) (up 1 2) (up 1 1) (up 5 0) (up 1 2) (dn 5285858170068009 36) (up 11307 0)
    ∷ bar (pos 22) (pos 24) (up 5 0) (up 1 1) (up 5 0) (up 1 2) (up 1 50) (up 0 0)
    ∷ bar (pos 23) (pos 25) (up 1 2) (up 3 0) (up 1 2) (up 1 2) (dn 2564433575537541 36) (dn 3429699748574003 34)
    ∷ bar (pos 23) (pos 26) (up 5 0) (up 5 0) (up 5 0) (up 1 2) (dn 5110966915367971 5) (dn 3870275432213381 38)
    ∷ bar (pos 24) (pos 27) (up 5 0) (up 3 0) (up 5 0) (up 1 1) (up 8299 0) (dn 8038320603461059 38)
    ∷ bar (pos 25) (pos 28) (up 5 0) (up 1 0) (up 3 0) (up 1 1) (up 14443 0) (dn 4693331353859523 37)
    ∷ bar (pos 26) (pos 29) (up 1 1) (up 1 0) (up 1 0) (up 1 0) (up 5841 0) (dn 4639351517688627 35)
    ∷ bar (pos 27) (pos 30) (up 3 0) (up 5 0) (up 5 0) (up 5 0) (up 0 0) (dn 467528621706983 18)
    ∷ bar (pos 28) (pos 31) (up 1 0) (up 5 0) (up 1 2) (up 1 1) (dn 4281164885860657 50) (dn 5371345199127593 38)
    ∷ bar (pos 29) (pos 32) (up 1 1) (up 5 0) (up 1 2) (up 1 1) (up 8683 1) (up 5737 0)
    ∷ bar (pos 29) (pos 33) (up 3 0) (up 1 1) (up 1 1) (up 1 0) (up 15723 0) (up 1905 2)
    ∷ bar (pos 30) (pos 34) (up 3 0) (up 3 0) (up 1 0) (up 1 0) (up 1 50) (up 18519 0)
    ∷ bar (pos 30) (pos 35) (up 1 0) (up 5 0) (up 1 2) (up 1 2) (dn 3983338212897587 38) (dn 4052019206726615 35)
    ∷ bar (pos 31) (pos 36) (up 1 0) (up 1 2) (up 5 0) (up 1 2) (up 1197 2) (up 2953 0)
    ∷ bar (pos 32) (pos 37) (up 5 0) (up 1 2) (up 5 0) (up 1 1) (up 153 6) (dn 5550657678553907 35)
    ∷ bar (pos 33) (pos 38) (up 5 0) (up 5 0) (up 1 2) (up 1 1) (dn 6319871890177393 35) (up 2679 0)
    ∷ bar (pos 34) (pos 39) (up 1 2) (up 3 0) (up 5 0) (up 3 0) (up 7915 0) (dn 6162524904294973 36)
    ∷ []

run_06_told : told (settings 4 5 64 64 64) run_06
    ≡ record {
      events = (17, 0, 12);
      raw = map pos (20 ∷ 21 ∷ 22 ∷ 23 ∷ 24 ∷ 25 ∷ 26 ∷ 27 ∷ 28 ∷ 29 ∷ 30 ∷ 31 ∷ 32 ∷ 33 ∷ 34 ∷ []);
      ids = map pos (22 ∷ 23 ∷ 24 ∷ 26 ∷ 27 ∷ 28 ∷ 29 ∷ 30 ∷ 31 ∷ 33 ∷ 35 ∷ 36 ∷ 37 ∷ 38 ∷ 39 ∷ []);
      ubi =
          (bar (pos 32) (pos 35) (up 5 0) (up 1 2) (up 5 0) (up 1 2) (dn 2999694494846157 36) (dn 4902802750040965 34), map pos (30 ∷ 31 ∷ 32 ∷ []))
          ∷ (bar (pos 33) (pos 38) (up 5 0) (up 5 0) (up 1 2) (up 1 1) (dn 6319871890177393 35) (up 2679 0), map pos (33 ∷ []))
          ∷ (bar (pos 34) (pos 39) (up 1 2) (up 3 0) (up 5 0) (up 3 0) (up 7915 0) (dn 6162524904294973 36), map pos (34 ∷ []))
          ∷ [];
      strokes =
          kept Down (fx (pos 24) G (up 5 0) (up 1 2) (up 5 0)) (fx (pos 26) D (up 1 0) (up 1 0) (up 1 0))
          (fx (pos 24) G (up 5 0) (up 1 2) (up 5 0) ∷ fx (pos 26) D (up 1 0) (up 1 0) (up 1 0) ∷ [])
          (map pos (20 ∷ 24 ∷ 25 ∷ 26 ∷ 27 ∷ []))
          ∷ kept Up (fx (pos 26) D (up 1 0) (up 1 0) (up 1 0)) (fx (pos 27) G (up 5 0) (up 5 0) (up 5 0))
          (fx (pos 26) D (up 1 0) (up 1 0) (up 1 0) ∷ fx (pos 27) G (up 5 0) (up 5 0) (up 5 0) ∷ [])
          (map pos (25 ∷ 26 ∷ 27 ∷ 28 ∷ []))
          ∷ kept Down (fx (pos 27) G (up 5 0) (up 5 0) (up 5 0)) (fx (pos 29) D (up 1 1) (up 1 0) (up 1 0))
          (fx (pos 27) G (up 5 0) (up 5 0) (up 5 0) ∷ fx (pos 29) D (up 1 1) (up 1 0) (up 1 0) ∷ [])
          (map pos (26 ∷ 27 ∷ 28 ∷ 29 ∷ 30 ∷ []))
          ∷ kept Up (fx (pos 29) D (up 1 1) (up 1 0) (up 1 0)) (fx (pos 32) G (up 5 0) (up 1 2) (up 5 0))
          (fx (pos 29) D (up 1 1) (up 1 0) (up 1 0) ∷ fx (pos 32) G (up 5 0) (up 1 2) (up 5 0) ∷ [])
          (map pos (28 ∷ 29 ∷ 32 ∷ 33 ∷ []))
          ∷ kept Down (fx (pos 32) G (up 5 0) (up 1 2) (up 5 0)) (fx (pos 33) D (up 1 2) (up 1 1) (up 1 1))
          (fx (pos 32) G (up 5 0) (up 1 2) (up 5 0) ∷ fx (pos 33) D (up 1 2) (up 1 1) (up 1 1) ∷ [])
          (map pos (29 ∷ 32 ∷ 33 ∷ 34 ∷ []))
          ∷ [];
      measures =
          measured (up 5 0) (up 1 0) (up 1 2) (dn 4823035059849165 1) (dn 1 1) (dn 1 1) (neg (dn 3602879701896397 51)) (neg (dn 2573485501354569 52)) (neg (dn 6433713753386423 53)) 5
          (map pos (21 ∷ 22 ∷ 23 ∷ 24 ∷ 25 ∷ 26 ∷ []))
          (fake Down (pos 24) (pos 26) (up 5 0) (up 1 0) (up 1 2) ∷ [])
          ∷ measured (up 5 0) (up 1 0) (up 1 2) (up 5841 0) (up 1 0) (up 1 0) (up 1 2) (up 1 2) (up 0 0) 4
          (map pos (26 ∷ 27 ∷ []))
          (fake Up (pos 26) (pos 27) (up 5 0) (up 1 0) (up 1 2) ∷ [])
          ∷ measured (up 5 0) (up 1 0) (up 1 2) (dn 4322427934015993 37) (dn 2573485501354569 53) (dn 5148515094009951 54) (neg (dn 3602879701896397 51)) (neg (dn 3 0)) (neg (dn 3 0)) 5
          (map pos (27 ∷ 28 ∷ 29 ∷ []))
          (fake Down (pos 27) (pos 29) (up 5 0) (up 1 0) (up 1 2) ∷ [])
          ∷ measured (up 5 0) (up 1 0) (up 1 2) (dn 5160647160286413 36) (dn 2001599834386887 53) (dn 4002799348806897 54) (up 1 2) (dn 1 0) (neg (dn 3 1)) 4
          (map pos (29 ∷ 30 ∷ 31 ∷ 32 ∷ []))
          (fake Up (pos 29) (pos 32) (up 5 0) (up 1 0) (up 1 2) ∷ [])
          ∷ measured (up 5 0) (up 1 1) (up 3 0) (dn 977464892200059 32) (dn 1 0) (dn 1 0) (neg (dn 5404319552844595 52)) (up 0 0) (dn 1 0) 4
          (map pos (30 ∷ 31 ∷ 32 ∷ 33 ∷ []))
          (fake Down (pos 32) (pos 33) (up 5 0) (up 1 1) (up 3 0) ∷ [])
          ∷ [];
      fxs =
          fx (pos 26) D (up 1 0) (up 1 0) (up 1 0)
          ∷ fx (pos 27) G (up 5 0) (up 5 0) (up 5 0)
          ∷ fx (pos 29) D (up 1 1) (up 1 0) (up 1 0)
          ∷ fx (pos 32) G (up 5 0) (up 1 2) (up 5 0)
          ∷ fx (pos 33) D (up 1 2) (up 1 1) (up 1 1)
          ∷ [];
      finished = 4;
      extend = false;
      zones =
          zone (pos 24) (pos 33) Down Down (up 5 0) (up 1 0) (up 3 0) (up 5 0) (up 1 0) true
          (stroke Down (up 5 0) (up 1 0) (pos 24) (pos 26)
          ∷ stroke Up (up 5 0) (up 1 0) (pos 26) (pos 27)
          ∷ stroke Down (up 5 0) (up 1 0) (pos 27) (pos 29)
          ∷ stroke Up (up 5 0) (up 1 0) (pos 29) (pos 32)
          ∷ stroke Down (up 5 0) (up 1 1) (pos 32) (pos 33)
          ∷ [])
          ∷ [];
      fin_zones =
          zone (pos 24) (pos 32) Down Up (up 5 0) (up 1 0) (up 3 0) (up 5 0) (up 1 0) true
          (stroke Down (up 5 0) (up 1 0) (pos 24) (pos 26)
          ∷ stroke Up (up 5 0) (up 1 0) (pos 26) (pos 27)
          ∷ stroke Down (up 5 0) (up 1 0) (pos 27) (pos 29)
          ∷ stroke Up (up 5 0) (up 1 0) (pos 29) (pos 32)
          ∷ [])
          ∷ [];
      bis =
          (neither ∷ neither ∷ neither ∷ falls ∷ neither ∷ neither ∷ [])
          ∷ (neither ∷ neither ∷ neither ∷ rises ∷ neither ∷ [])
          ∷ (neither ∷ neither ∷ neither ∷ neither ∷ [])
          ∷ (neither ∷ neither ∷ neither ∷ [])
          ∷ (neither ∷ neither ∷ [])
          ∷ (neither ∷ [])
          ∷ [];
      answers =
          answers Medium (dn 4823035059851521 1) false
          ∷ answers Strong (up 5071 2) false
          ∷ answers Strong (up 5071 2) false
          ∷ answers Weak (dn 1606084457595385 37) false
          ∷ answers Weak (dn 1606084457595385 37) false
          ∷ answers Strong (dn 3157048520232393 36) false
          ∷ answers Medium (dn 2580454230927077 35) false
          ∷ answers Weak (dn 1112524433790075 32) false
          ∷ answers Weak (dn 1112524433790075 32) false
          ∷ answers Weak (dn 1045454224495739 32) true
          ∷ answers Weak (dn 1045454224495739 32) true
          ∷ [];
      ubifx =
          fx (pos 33) D (up 1 2) (up 1 1) (up 1 1)
          ∷ [];
      unfinished = some (Up, (up 5 0), (up 1 1), (pos 34), (pos 32), 3, 15, 1, (pos 33));
      gaps =
          Gaps.Up (up 3 0) (up 1 2) (dn 6004199023210345 53) true
          ∷ Gaps.NoGap
          ∷ Gaps.NoGap
          ∷ Gaps.NoGap
          ∷ Gaps.NoGap
          ∷ Gaps.Down (up 1 0) (up 1 1) (up 1 0) true
          ∷ Gaps.Up (up 1 0) (up 5 0) (up 1 2) false
          ∷ Gaps.Down (up 1 2) (up 5 0) (dn 1 1) false
          ∷ Gaps.NoGap
          ∷ Gaps.Up (up 1 1) (up 1 2) (up 1 0) false
          ∷ Gaps.NoGap
          ∷ Gaps.NoGap
          ∷ Gaps.NoGap
          ∷ Gaps.NoGap
          ∷ [];
    }
unfolding told run_06 settings bar fx kept measured fake stroke zone answers up dn neg neither rises falls
run_06_told = refl

unfoldable run_07 : List Bar
unfolding bar up dn
run_07 =
    bar (pos 0) (negsuc 4) (up 5 1) (up 5 3) (up 15 1) (up 5 1) (dn 3288994558372741 34) (dn 2289861729802145 6)
    ∷ bar (pos 60) (negsuc 3) (up 5 2) (up 5 3) (up 25 1) (up 25 1) (up 3549 0) (up 15185 0)
    ∷ bar (pos 120) (negsuc 2) (up 25 1) (up 25 1) (up 5 3) (up 15 1) (up 12813 0) (dn 7777413366137487 36)
    ∷ bar (pos 120) (negsuc 1) (up 25 1) (up 5 1) (up 5 3) (up 15 1) (up 29 6) (up 183 0)
    ∷ bar (pos 180) (negsuc 0) (up 5 3) (up 5 2) (up 25 1) (up 5 3) (up 6241 0) (up 4055 1)
    ∷ bar (pos 180) (pos 0) (up 5 2) (up 25 1) (up 25 1) (up 5 3) (up 503 5) (up 8929 0)
    ∷ bar (pos 240) (pos 1) (up 5 3) (up 5 3) (up 25 1) (up 15 1) (dn 7074428237413089 37) (up 0 0)
    ∷ bar (pos 240) (pos 2) (up 15 1) (up 25 1) (up 25 1) (up 25 1) (up 635 3) (up 4917 1)
    ∷ bar (pos 240) (pos 3) (up 15 1) (up 15 1) (up 15 1) (up 5 2) (up 12039 0) (up 14995 0)
    ∷ bar (pos 240) (pos 4) (up 5 2) (up 15 1) (up 25 1) (up 5 3) (dn 4666219364576149 15) (dn 3109757326773453 34)
    ∷ bar (pos 240) (pos 5) (up 15 1) (up 15 1) (up 5 2) (up 5 1) (up 961 3) (dn 5490104824433213 36)
    ∷ bar (pos 240) (pos 6) (up 15 1) (up 5 3) (up 25 1) (up 25 1) (up 13317 0) (up 1395 3)
    ∷ bar (pos 300) (pos 7) (up 15 1) (up 5 1) (up 15 1) (up 5 2) (up 9 0) (up 3735 1)
    ∷ bar (pos 300) (pos 8) (up 5 2) (up 5 3) (up 5 3) (up 5 1) (up 4041 0) (up 3929 2)
    ∷ bar (pos 300) (pos 9) (up 25 1) (up 5 2) (up 5 3) (up 15 1) (up 495 4) (dn 1454441906276669 39)
    ∷ bar (pos 360) (pos 10) (up 5 3) (up 15 1) (up 15 1) (up 5 2) (up 5255 1) (dn 977 1)
    ∷ bar (pos 420) (pos 11) (up 5 3) (up 5 2) (up 25 1) (up 25 1) (up 815 2) (up 11497 0)
    ∷ bar (pos 420) (pos 12) (up 5 3) (up 5 2) (up 15 1) (up 5 2) (dn 3363200941728727 34) (up 889 3)
    ∷ bar (pos 480) (pos 13) (up 15 1) (up 15 1) (up 5 3) (up 5 1) (up 1013 4) (dn 3753226921878487 36)
    ∷ bar (pos 540) (pos 14) (up 25 1) (up 5 2) (up 5 2) (up 5 1) (up 0 0) (up 7065 1)
    ∷ bar (pos 540) (pos 15) (up 25 1) (up 5 1) (up 5 3) (up 5 3) (up 2503 2) (up 8599 1)
    ∷ bar (pos 600) (pos 16) (up 5 2) (up 25 1) (up 25 1) (up 15 1) (up 2903 0) (up 8189 1)
    ∷ bar (pos 660) (pos 17) (up 5 3) (up 5 3) (up 25 1) (up 5 3) (up 8569 1) (up 8161 0)
    ∷ bar (pos 660) (pos 18) (up 5 3) (up 25 1) (up 5 3) (up 5 2) (up 5309 1) (up 0 0)
    ∷ bar (pos 660) (pos 19) (up 5 2) (up 15 1) (up 5 3) (up 5 1) (up 4087 2) (up 983 4)
    ∷ bar (pos 660) (pos 20) (up 5 1) (up 5 2) (up 5 2) (up 5 2) (up 1 50) (dn 2982160033162199 34)
    ∷ bar (pos 660) (pos 21) (up 5 1) (up 5 1) (up 25 1) (up 5 1) (dn 3210308695925719 34) (up 2121 1)
    ∷ bar (pos 660) (pos 22) (up 15 1) (up 5 2) (up 25 1) (up 5 2) (up 1 50) (up 1 50)
    ∷ bar (pos 660) (pos 23) (up 5 3) (up 5 1) (up 25 1) (up 15 1) (dn 66803139006467 32) (dn 4805727555619389 36)
    ∷ bar (pos 660) (pos 24) (up 15 1) (up 15 1) (up 25 1) (up 5 1) (dn 601504758146007 32) (up 7571 1)
    ∷ bar (pos 660) (pos 25) (up 5 3) (up 5 2) (up 15 1) (up 5 2) (dn 1374652730315899 34) (dn 4631326457195397 35)
    ∷ bar (pos 660) (pos 26) (up 5 1) (up 5 2) (up 25 1) (up 5 2) (up 0 0) (up 18921 0)
    ∷ bar (pos 720) (pos 27) (up 5 1) (up 15 1) (up 25 1) (up 25 1) (up 981 3) (up 5573 0)
    ∷ bar (pos 720) (pos 28) (up 15 1) (up 5 2) (up 5 2) (up 5 1) (up 7589 0) (dn 2935583346220073 35)
    ∷ bar (pos 720) (pos 29) (up 5 3) (up 15 1) (up 5 3) (up 5 1) (up 1 50) (up 3753 2)
    ∷ bar (pos 720) (pos 30) (up 5 3) (up 25 1) (up 25 1) (up 5 2) (up 17573 0) (up 18633 0)
    ∷ bar (pos 729) (pos 31) (up 25 1) (up 5 2) (up 5 3) (up 5 2) (dn 910834745254871 35) (up 0 0)
    ∷ bar (pos 729) (pos 32) (up 5 3) (up 5 3) (up 15 1) (up 5 2) (dn 5351416550874153 35) (dn 2794261742312489 36)
    ∷ bar (pos 789) (pos 33) (up 5 2) (up 25 1) (up 5 3) (up 15 1) (dn 6526562209135329 36) (dn 7792714444827525 37)
    ∷ bar (pos 849) (pos 34) (up 25 1) (up 5 3) (up 25 1) (up 5 1) (up 2227 2) (up 201 3)
    ∷ []

run_07_told : told (settings 5 2 64 64 64) run_07
    ≡ record {
      events = (1, 1, 0);
      raw = map pos (120 ∷ 180 ∷ 240 ∷ 300 ∷ 360 ∷ 420 ∷ 480 ∷ 540 ∷ 600 ∷ 660 ∷ 720 ∷ 729 ∷ 789 ∷ 849 ∷ []);
      ids = (negsuc 1) ∷ (pos 0) ∷ (pos 6) ∷ (pos 9) ∷ (pos 10) ∷ (pos 12) ∷ (pos 13) ∷ (pos 15) ∷ (pos 16) ∷ (pos 26) ∷ (pos 30) ∷ (pos 32) ∷ (pos 33) ∷ (pos 34) ∷ [];
      ubi =
          (bar (pos 480) (pos 10) (up 5 1) (up 15 1) (up 15 1) (up 5 1) (dn 4281224431444951 34) (dn 4764262223356887 36), map pos (360 ∷ 420 ∷ 480 ∷ []))
          ∷ (bar (pos 720) (pos 15) (up 5 3) (up 25 1) (up 25 1) (up 5 3) (up 3811 3) (up 35565 1), map pos (540 ∷ 600 ∷ 660 ∷ 720 ∷ []))
          ∷ (bar (pos 729) (pos 32) (up 5 3) (up 5 3) (up 15 1) (up 5 2) (dn 5351416550874153 35) (dn 2794261742312489 36), map pos (729 ∷ []))
          ∷ (bar (pos 849) (pos 33) (up 25 1) (up 15 1) (up 25 1) (up 15 1) (dn 7750868406663905 36) (dn 8234718119193477 37), map pos (789 ∷ 849 ∷ []))
          ∷ [];
      strokes = [];
      measures = [];
      fxs =
          fx (pos 720) G (up 25 1) (up 5 3) (up 25 1)
          ∷ fx (pos 729) D (up 15 1) (up 5 2) (up 5 2)
          ∷ [];
      finished = 0;
      extend = false;
      zones = [];
      fin_zones = [];
      bis =
          (neither ∷ [])
          ∷ [];
      answers =
          answers Weak (dn 2001123102561403 32) false
          ∷ answers Weak (dn 5660985080466637 34) false
          ∷ [];
      ubifx =
          fx (pos 720) G (up 25 1) (up 5 3) (up 25 1)
          ∷ fx (pos 729) D (up 15 1) (up 5 2) (up 5 2)
          ∷ [];
      unfinished = none;
      gaps =
          Gaps.NoGap
          ∷ Gaps.NoGap
          ∷ Gaps.Down (up 5 3) (up 25 1) (dn 1 1) false
          ∷ Gaps.NoGap
          ∷ Gaps.NoGap
          ∷ Gaps.NoGap
          ∷ Gaps.NoGap
          ∷ Gaps.NoGap
          ∷ Gaps.NoGap
          ∷ Gaps.NoGap
          ∷ Gaps.NoGap
          ∷ Gaps.NoGap
          ∷ Gaps.NoGap
          ∷ [];
    }
unfolding told run_07 settings bar fx kept measured fake stroke zone answers up dn neg neither rises falls
run_07_told = refl

unfoldable run_08 : List Bar
unfolding bar up dn
run_08 =
    bar (negsuc 49) (pos 0) (dn 6629 2) (dn 6623 2) (dn 6629 2) (dn 6623 2) (up 3515 1) (up 1907 2)
    ∷ bar (negsuc 49) (pos 1) (dn 3311 1) (dn 3311 1) (dn 3311 1) (dn 1653 0) (up 461 0) (up 0 0)
    ∷ bar (negsuc 49) (pos 2) (dn 6613 2) (dn 6645 2) (dn 6645 2) (dn 6613 2) (dn 5942028155266007 35) (dn 434314839905423 47)
    ∷ bar (negsuc 48) (pos 3) (dn 1669 0) (dn 1659 0) (dn 1669 0) (dn 1659 0) (up 157 2) (up 4305 0)
    ∷ bar (negsuc 47) (pos 4) (dn 3339 1) (dn 3319 1) (dn 3339 1) (dn 3319 1) (up 0 0) (up 4853 1)
    ∷ bar (negsuc 46) (pos 5) (dn 6613 2) (dn 6613 2) (dn 6637 2) (dn 6613 2) (up 4691 2) (up 3893 0)
    ∷ bar (negsuc 45) (pos 6) (dn 6581 2) (dn 6581 2) (dn 6595 2) (dn 6581 2) (up 0 0) (dn 596849099496489 33)
    ∷ bar (negsuc 44) (pos 7) (up 825 0) (up 825 0) (up 825 0) (up 409 1) (dn 3831803520357499 37) (up 115 7)
    ∷ bar (negsuc 43) (pos 8) (dn 3301 1) (dn 3301 1) (dn 3301 1) (dn 3273 1) (dn 586618487397417 32) (up 18783 0)
    ∷ bar (negsuc 42) (pos 9) (dn 1655 0) (dn 3291 1) (dn 1655 0) (dn 3291 1) (up 4603 1) (up 4931 1)
    ∷ bar (negsuc 41) (pos 10) (dn 3317 1) (dn 3299 1) (dn 3317 1) (dn 3299 1) (up 8131 0) (up 1 50)
    ∷ bar (negsuc 40) (pos 11) (dn 3305 1) (dn 1639 0) (dn 3305 1) (dn 1639 0) (up 3053 0) (up 12479 0)
    ∷ bar (negsuc 39) (pos 12) (dn 3303 1) (dn 3303 1) (dn 3303 1) (dn 3281 1) (up 183 5) (up 7709 0)
    ∷ bar (negsuc 38) (pos 13) (up 415 1) (up 415 1) (up 415 1) (dn 3299 1) (up 6499 1) (up 11847 3)
    ∷ bar (negsuc 37) (pos 14) (dn 3315 1) (up 827 0) (dn 3315 1) (up 827 0) (up 1 50) (up 10229 0)
    ∷ bar (negsuc 36) (pos 15) (dn 3337 1) (dn 3337 1) (dn 3337 1) (dn 3307 1) (dn 2368368662072525 36) (dn 6263805043498025 35)
    ∷ bar (negsuc 35) (pos 16) (dn 6631 2) (dn 6631 2) (dn 6663 2) (dn 6631 2) (up 907 1) (up 0 0)
    ∷ bar (negsuc 34) (pos 17) (dn 6687 2) (dn 6657 2) (dn 6687 2) (dn 6657 2) (dn 3899962246163333 35) (up 8343 1)
    ∷ bar (negsuc 34) (pos 18) (dn 6679 2) (dn 6679 2) (dn 6709 2) (dn 6679 2) (dn 7585753814694821 25) (up 11087 0)
    ∷ bar (negsuc 33) (pos 19) (dn 6675 2) (dn 6715 2) (dn 6715 2) (dn 6675 2) (up 2537 0) (up 1 50)
    ∷ bar (negsuc 33) (pos 20) (dn 6679 2) (dn 6729 2) (dn 6729 2) (dn 6679 2) (up 6903 1) (up 6449 0)
    ∷ bar (negsuc 33) (pos 21) (up 209 2) (dn 3329 1) (up 209 2) (dn 3329 1) (up 14921 0) (up 0 0)
    ∷ bar (negsuc 33) (pos 22) (dn 3313 1) (dn 3321 1) (dn 3321 1) (dn 3313 1) (dn 6489727195215299 35) (dn 6473910720449741 37)
    ∷ bar (negsuc 32) (pos 23) (dn 1655 0) (dn 1655 0) (dn 1655 0) (dn 1645 0) (up 7501 0) (up 2555 1)
    ∷ bar (negsuc 31) (pos 24) (dn 6577 2) (dn 6629 2) (dn 6629 2) (dn 6577 2) (up 12991 0) (up 1 50)
    ∷ bar (negsuc 30) (pos 25) (dn 3321 1) (dn 6637 2) (dn 6647 2) (dn 6637 2) (up 8651 0) (up 7139 0)
    ∷ bar (negsuc 29) (pos 26) (dn 6651 2) (dn 6671 2) (dn 6671 2) (dn 6651 2) (up 689 0) (up 619 2)
    ∷ bar (negsuc 29) (pos 27) (up 837 0) (up 837 0) (dn 3351 1) (up 837 0) (dn 6714508603618755 36) (dn 3455042440935031 30)
    ∷ bar (negsuc 29) (pos 28) (dn 3349 1) (dn 3367 1) (dn 3367 1) (dn 3349 1) (up 229 3) (up 18947 0)
    ∷ bar (negsuc 28) (pos 29) (dn 6699 2) (dn 6699 2) (dn 6735 2) (dn 6699 2) (up 0 0) (up 17601 0)
    ∷ bar (negsuc 27) (pos 30) (dn 6753 2) (dn 6753 2) (dn 6753 2) (dn 6737 2) (up 13177 0) (up 1 50)
    ∷ bar (negsuc 26) (pos 31) (dn 3393 1) (dn 3373 1) (dn 3393 1) (dn 3373 1) (up 9681 0) (up 1611 2)
    ∷ bar (negsuc 26) (pos 32) (dn 1697 0) (dn 1705 0) (dn 1705 0) (dn 1697 0) (up 14241 0) (up 10049 0)
    ∷ bar (negsuc 25) (pos 33) (up 857 0) (dn 3405 1) (up 857 0) (dn 3405 1) (up 5955 0) (up 3181 2)
    ∷ bar (negsuc 24) (pos 34) (dn 6839 2) (dn 6815 2) (dn 6839 2) (dn 6815 2) (up 1771 1) (up 1285 3)
    ∷ bar (negsuc 24) (pos 35) (up 851 0) (dn 3397 1) (up 851 0) (dn 3397 1) (up 3569 0) (up 15729 0)
    ∷ bar (negsuc 23) (pos 36) (dn 3419 1) (dn 1705 0) (dn 3419 1) (dn 1705 0) (up 0 0) (up 5205 1)
    ∷ bar (negsuc 22) (pos 37) (dn 6783 2) (dn 6811 2) (dn 6811 2) (dn 6783 2) (up 8865 1) (up 9971 0)
    ∷ bar (negsuc 21) (pos 38) (dn 6797 2) (dn 6797 2) (dn 6797 2) (dn 6795 2) (up 18003 0) (up 1513 3)
    ∷ bar (negsuc 20) (pos 39) (dn 6763 2) (dn 6751 2) (dn 6763 2) (dn 6751 2) (up 2787 2) (dn 8938863232685179 36)
    ∷ []

run_08_told : told (settings 5 2 64 64 64) run_08
    ≡ record {
      events = (12, 8, 2);
      raw = (negsuc 36) ∷ (negsuc 35) ∷ (negsuc 34) ∷ (negsuc 33) ∷ (negsuc 32) ∷ (negsuc 31) ∷ (negsuc 30) ∷ (negsuc 29) ∷ (negsuc 28) ∷ (negsuc 27) ∷ (negsuc 26) ∷ (negsuc 25) ∷ (negsuc 24) ∷ (negsuc 23) ∷ (negsuc 22) ∷ (negsuc 21) ∷ (negsuc 20) ∷ [];
      ids = map pos (15 ∷ 16 ∷ 18 ∷ 22 ∷ 23 ∷ 24 ∷ 25 ∷ 28 ∷ 29 ∷ 30 ∷ 32 ∷ 33 ∷ 35 ∷ 36 ∷ 37 ∷ 38 ∷ 39 ∷ []);
      ubi =
          (bar (negsuc 26) (pos 32) (dn 1697 0) (dn 1705 0) (dn 1705 0) (dn 1697 0) (up 14241 0) (up 10049 0), (negsuc 26) ∷ [])
          ∷ (bar (negsuc 25) (pos 33) (up 857 0) (dn 3405 1) (up 857 0) (dn 3405 1) (up 5955 0) (up 3181 2), (negsuc 25) ∷ [])
          ∷ (bar (negsuc 24) (pos 35) (up 851 0) (dn 3397 1) (up 851 0) (dn 3397 1) (up 3569 0) (up 15729 0), (negsuc 24) ∷ [])
          ∷ (bar (negsuc 23) (pos 36) (dn 3419 1) (dn 1705 0) (dn 3419 1) (dn 1705 0) (up 0 0) (up 5205 1), (negsuc 23) ∷ [])
          ∷ (bar (negsuc 22) (pos 37) (dn 6783 2) (dn 6797 2) (dn 6797 2) (dn 6783 2) (up 35733 0) (up 22075 0), (negsuc 22) ∷ (negsuc 21) ∷ [])
          ∷ (bar (negsuc 20) (pos 39) (dn 6763 2) (dn 6751 2) (dn 6763 2) (dn 6751 2) (up 2787 2) (dn 8938863232685179 36), (negsuc 20) ∷ [])
          ∷ [];
      strokes =
          kept Down (fx (negsuc 34) G (dn 6709 2) (dn 6679 2) (dn 6709 2)) (fx (negsuc 31) D (dn 1655 0) (dn 6577 2) (dn 6577 2))
          (fx (negsuc 34) G (dn 6709 2) (dn 6679 2) (dn 6709 2) ∷ fx (negsuc 31) D (dn 1655 0) (dn 6577 2) (dn 6577 2) ∷ [])
          ((negsuc 36) ∷ (negsuc 34) ∷ (negsuc 33) ∷ (negsuc 31) ∷ (negsuc 30) ∷ [])
          ∷ kept Up (fx (negsuc 31) D (dn 1655 0) (dn 6577 2) (dn 6577 2)) (fx (negsuc 25) G (up 857 0) (dn 3405 1) (up 857 0))
          (fx (negsuc 31) D (dn 1655 0) (dn 6577 2) (dn 6577 2) ∷ fx (negsuc 25) G (up 857 0) (dn 3405 1) (up 857 0) ∷ [])
          ((negsuc 33) ∷ (negsuc 31) ∷ (negsuc 30) ∷ (negsuc 29) ∷ (negsuc 28) ∷ (negsuc 27) ∷ (negsuc 26) ∷ (negsuc 25) ∷ (negsuc 24) ∷ [])
          ∷ [];
      measures =
          measured (dn 6709 2) (dn 6577 2) (dn 33 0) (dn 3796733316874993 24) (dn 827867578560753 49) (dn 6622993612011051 52) (neg (dn 5678138410188721 57)) (neg (dn 4841369599423283 50)) (dn 23 3) 5
          ((negsuc 34) ∷ (negsuc 33) ∷ (negsuc 32) ∷ (negsuc 31) ∷ [])
          (fake Down (negsuc 34) (negsuc 31) (dn 6709 2) (dn 6577 2) (dn 33 0) ∷ [])
          ∷ measured (up 857 0) (dn 6577 2) (dn 4908923593833841 46) (up 16087 2) (dn 2501999792983609 50) (dn 2501974772985679 50) (dn 6110483974416289 56) (dn 8705618922551003 50) (dn 831021359812413 52) 9
          ((negsuc 32) ∷ (negsuc 31) ∷ (negsuc 30) ∷ (negsuc 29) ∷ (negsuc 28) ∷ (negsuc 27) ∷ (negsuc 26) ∷ (negsuc 25) ∷ [])
          (fake Up (negsuc 31) (negsuc 25) (up 857 0) (dn 6577 2) (dn 4908923593833841 46) ∷ [])
          ∷ [];
      fxs =
          fx (negsuc 31) D (dn 1655 0) (dn 6577 2) (dn 6577 2)
          ∷ fx (negsuc 25) G (up 857 0) (dn 3405 1) (up 857 0)
          ∷ fx (negsuc 24) D (up 851 0) (dn 3397 1) (dn 3397 1)
          ∷ fx (negsuc 23) G (dn 3419 1) (dn 1705 0) (dn 3419 1)
          ∷ [];
      finished = 2;
      extend = false;
      zones =
          zone (negsuc 34) (negsuc 25) Down Up (dn 6709 2) (dn 6577 2) (dn 6643 2) (up 857 0) (dn 6577 2) true
          (stroke Down (dn 6709 2) (dn 6577 2) (negsuc 34) (negsuc 31)
          ∷ stroke Up (up 857 0) (dn 6577 2) (negsuc 31) (negsuc 25)
          ∷ [])
          ∷ [];
      fin_zones =
          zone (negsuc 34) (negsuc 25) Down Up (dn 6709 2) (dn 6577 2) (dn 6643 2) (up 857 0) (dn 6577 2) true
          (stroke Down (dn 6709 2) (dn 6577 2) (negsuc 34) (negsuc 31)
          ∷ stroke Up (up 857 0) (dn 6577 2) (negsuc 31) (negsuc 25)
          ∷ [])
          ∷ [];
      bis =
          (neither ∷ neither ∷ neither ∷ [])
          ∷ (neither ∷ neither ∷ [])
          ∷ (neither ∷ [])
          ∷ [];
      answers =
          answers Medium (dn 2251800040011293 0) false
          ∷ answers Medium (dn 8492418905732547 35) false
          ∷ answers Medium (dn 8492418905732547 35) false
          ∷ answers Medium (up 23765 0) false
          ∷ answers Medium (up 23765 0) false
          ∷ answers Medium (up 2381 2) false
          ∷ answers Medium (up 19651 1) false
          ∷ [];
      ubifx =
          fx (negsuc 25) G (up 857 0) (dn 3405 1) (up 857 0)
          ∷ fx (negsuc 24) D (up 851 0) (dn 3397 1) (dn 3397 1)
          ∷ fx (negsuc 23) G (dn 3419 1) (dn 1705 0) (dn 3419 1)
          ∷ [];
      unfinished = some (Down, (up 857 0), (dn 6751 2), (negsuc 25), (negsuc 20), 6, 17, 3, (negsuc 25));
      gaps =
          Gaps.NoGap
          ∷ Gaps.Up (dn 6663 2) (dn 6679 2) (dn 5534023222112865 60) true
          ∷ Gaps.Down (dn 3321 1) (dn 6679 2) (dn 6456360425798343 59) true
          ∷ Gaps.Down (dn 1655 0) (dn 3313 1) (dn 4150517416584649 61) true
          ∷ Gaps.NoGap
          ∷ Gaps.Up (dn 6629 2) (dn 6637 2) (dn 5534023222112865 61) false
          ∷ Gaps.Up (dn 6647 2) (dn 3349 1) (dn 4438747792736361 58) false
          ∷ Gaps.NoGap
          ∷ Gaps.Up (dn 6735 2) (dn 6737 2) (dn 5534023222112865 63) false
          ∷ Gaps.Up (dn 6753 2) (dn 1697 0) (dn 1498797955988901 57) true
          ∷ Gaps.NoGap
          ∷ Gaps.Down (up 851 0) (dn 3405 1) (dn 5534023222112865 63) true
          ∷ Gaps.Up (up 851 0) (dn 1705 0) (dn 4150517416584649 60) true
          ∷ Gaps.Down (dn 6811 2) (dn 1705 0) (dn 1498797955988901 59) false
          ∷ Gaps.NoGap
          ∷ Gaps.Down (dn 6763 2) (dn 6795 2) (dn 5418731071652181 59) false
          ∷ [];
    }
unfolding told run_08 settings bar fx kept measured fake stroke zone answers up dn neg neither rises falls
run_08_told = refl

unfoldable run_09 : List Bar
unfolding bar up dn
run_09 =
    bar (negsuc 49) (pos 0) (dn 1253 0) (up 629 0) (up 629 0) (up 39 4) (up 1 50) (dn 1749976865612759 34)
    ∷ bar (negsuc 48) (pos 1) (dn 1243 0) (dn 2499 1) (dn 2499 1) (dn 1243 0) (dn 6028176952886559 35) (dn 6642698124819169 36)
    ∷ bar (negsuc 48) (pos 2) (up 625 0) (up 625 0) (dn 2505 1) (up 625 0) (dn 8031880214101361 36) (up 5157 1)
    ∷ bar (negsuc 47) (pos 3) (dn 2515 1) (dn 2515 1) (dn 2515 1) (dn 2511 1) (up 0 0) (up 6031 0)
    ∷ bar (negsuc 47) (pos 4) (up 317 1) (up 317 1) (up 317 1) (dn 1265 0) (up 5167 0) (up 861 0)
    ∷ bar (negsuc 46) (pos 5) (dn 1261 0) (dn 2537 1) (dn 2537 1) (dn 1261 0) (dn 6284390649949061 37) (up 18883 0)
    ∷ bar (negsuc 45) (pos 6) (dn 5051 2) (dn 5051 2) (dn 5051 2) (dn 5039 2) (up 369 5) (dn 1261884068992123 35)
    ∷ bar (negsuc 44) (pos 7) (dn 1271 0) (dn 1271 0) (dn 1271 0) (up 79 3) (up 79 6) (up 14769 0)
    ∷ bar (negsuc 44) (pos 8) (dn 5043 2) (dn 5043 2) (dn 5095 2) (dn 5043 2) (dn 7755590809105203 36) (up 7739 1)
    ∷ bar (negsuc 44) (pos 9) (dn 5093 2) (dn 5093 2) (dn 5093 2) (dn 5069 2) (up 1107 4) (dn 6116253331829555 38)
    ∷ bar (negsuc 43) (pos 10) (up 629 0) (dn 2539 1) (dn 2539 1) (up 629 0) (up 18415 0) (up 1 50)
    ∷ bar (negsuc 42) (pos 11) (dn 2529 1) (dn 2523 1) (dn 2529 1) (dn 2517 1) (up 3879 1) (dn 2215471949503529 39)
    ∷ bar (negsuc 42) (pos 12) (dn 5009 2) (dn 5059 2) (dn 5059 2) (dn 5009 2) (up 0 0) (up 0 0)
    ∷ bar (negsuc 41) (pos 13) (dn 1267 0) (up 631 0) (dn 1267 0) (up 631 0) (up 0 0) (dn 2127952158596317 35)
    ∷ bar (negsuc 40) (pos 14) (up 319 1) (up 319 1) (up 319 1) (dn 2535 1) (dn 825203834790871 32) (up 749 0)
    ∷ bar (negsuc 39) (pos 15) (dn 2519 1) (dn 2519 1) (dn 1267 0) (dn 2519 1) (up 4959 2) (up 4165 1)
    ∷ bar (negsuc 39) (pos 16) (dn 2541 1) (up 317 1) (dn 2541 1) (dn 2531 1) (up 4313 0) (up 4255 1)
    ∷ bar (negsuc 39) (pos 17) (dn 1275 0) (dn 1275 0) (dn 1275 0) (dn 2545 1) (dn 953745763509207 33) (up 6395 0)
    ∷ bar (negsuc 39) (pos 18) (dn 5083 2) (dn 5083 2) (dn 5083 2) (dn 5027 2) (up 11965 0) (dn 5184833667318415 35)
    ∷ bar (negsuc 39) (pos 19) (dn 5075 2) (dn 5099 2) (dn 5099 2) (dn 5075 2) (up 8441 0) (dn 4675414811884913 38)
    ∷ bar (negsuc 39) (pos 20) (dn 2555 1) (dn 1267 0) (dn 2555 1) (dn 1267 0) (up 14289 0) (up 4477 2)
    ∷ bar (negsuc 38) (pos 21) (up 637 0) (dn 1273 0) (up 637 0) (dn 1273 0) (up 1071 3) (up 6939 1)
    ∷ bar (negsuc 37) (pos 22) (dn 1283 0) (dn 1283 0) (dn 1283 0) (dn 1273 0) (up 4631 0) (up 0 0)
    ∷ bar (negsuc 37) (pos 23) (dn 5135 2) (up 5 7) (dn 5135 2) (dn 5105 2) (up 4747 1) (dn 6121068120301221 6)
    ∷ bar (negsuc 36) (pos 24) (dn 1275 0) (dn 2535 1) (dn 1275 0) (dn 2535 1) (up 7839 0) (dn 4599499031545119 39)
    ∷ bar (negsuc 35) (pos 25) (dn 2543 1) (dn 2527 1) (dn 2543 1) (dn 2527 1) (up 529 3) (dn 2562333055462893 27)
    ∷ bar (negsuc 34) (pos 26) (dn 5059 2) (dn 5059 2) (dn 5105 2) (dn 5059 2) (up 3057 1) (up 0 0)
    ∷ bar (negsuc 34) (pos 27) (up 79 3) (dn 2523 1) (up 79 3) (dn 2523 1) (up 1 50) (up 0 0)
    ∷ bar (negsuc 33) (pos 28) (dn 5083 2) (dn 5073 2) (dn 5083 2) (dn 5073 2) (up 5611 0) (up 5945 1)
    ∷ bar (negsuc 32) (pos 29) (dn 5087 2) (dn 5039 2) (dn 5087 2) (dn 5039 2) (up 9659 1) (dn 1602133267966853 33)
    ∷ bar (negsuc 31) (pos 30) (up 315 1) (up 317 1) (up 317 1) (up 315 1) (up 16347 0) (up 8295 0)
    ∷ bar (negsuc 30) (pos 31) (dn 5055 2) (dn 5055 2) (dn 5055 2) (dn 4999 2) (dn 1660751153421353 34) (up 5651 0)
    ∷ bar (negsuc 29) (pos 32) (dn 4993 2) (dn 5031 2) (dn 5031 2) (dn 4993 2) (dn 6164447675254047 37) (up 563 0)
    ∷ bar (negsuc 29) (pos 33) (dn 4963 2) (dn 5009 2) (dn 5009 2) (dn 4963 2) (dn 2531879785018163 34) (up 0 0)
    ∷ bar (negsuc 28) (pos 34) (dn 5021 2) (dn 4975 2) (dn 5021 2) (dn 4975 2) (up 429 3) (up 3443 0)
    ∷ bar (negsuc 28) (pos 35) (dn 5033 2) (dn 5007 2) (dn 5033 2) (dn 5007 2) (up 9279 0) (up 1 50)
    ∷ bar (negsuc 27) (pos 36) (dn 5033 2) (dn 5013 2) (dn 5033 2) (dn 5013 2) (up 0 0) (up 8591 0)
    ∷ bar (negsuc 27) (pos 37) (dn 2525 1) (dn 2533 1) (dn 2533 1) (dn 2525 1) (dn 5294729167319859 35) (dn 1659494961386619 33)
    ∷ bar (negsuc 27) (pos 38) (dn 2521 1) (dn 2521 1) (dn 2531 1) (dn 2521 1) (up 3437 2) (up 2149 2)
    ∷ bar (negsuc 26) (pos 39) (dn 5047 2) (dn 5047 2) (dn 5089 2) (dn 5047 2) (up 16173 0) (dn 1341029492939817 33)
    ∷ []

run_09_told : told (settings 4 2 64 64 64) run_09
    ≡ record {
      events = (9, 2, 5);
      raw = (negsuc 35) ∷ (negsuc 34) ∷ (negsuc 33) ∷ (negsuc 32) ∷ (negsuc 31) ∷ (negsuc 30) ∷ (negsuc 29) ∷ (negsuc 28) ∷ (negsuc 27) ∷ (negsuc 26) ∷ [];
      ids = map pos (25 ∷ 27 ∷ 28 ∷ 29 ∷ 30 ∷ 31 ∷ 33 ∷ 35 ∷ 38 ∷ 39 ∷ []);
      ubi =
          (bar (negsuc 30) (pos 31) (dn 5055 2) (dn 5055 2) (dn 5055 2) (dn 4999 2) (dn 1660751153421353 34) (up 5651 0), (negsuc 30) ∷ [])
          ∷ (bar (negsuc 29) (pos 33) (dn 4963 2) (dn 5009 2) (dn 5009 2) (dn 4963 2) (dn 2531879785018163 34) (up 0 0), (negsuc 29) ∷ [])
          ∷ (bar (negsuc 28) (pos 35) (dn 5033 2) (dn 5007 2) (dn 5033 2) (dn 5007 2) (up 9279 0) (up 1 50), (negsuc 28) ∷ [])
          ∷ (bar (negsuc 27) (pos 38) (dn 2521 1) (dn 2521 1) (dn 2531 1) (dn 2521 1) (up 3437 2) (up 2149 2), (negsuc 27) ∷ [])
          ∷ (bar (negsuc 26) (pos 39) (dn 5047 2) (dn 5047 2) (dn 5089 2) (dn 5047 2) (up 16173 0) (dn 1341029492939817 33), (negsuc 26) ∷ [])
          ∷ [];
      strokes =
          kept Up (fx (negsuc 34) D (up 79 3) (dn 2523 1) (dn 2523 1)) (fx (negsuc 32) G (dn 5087 2) (dn 5073 2) (dn 5087 2))
          (fx (negsuc 34) D (up 79 3) (dn 2523 1) (dn 2523 1) ∷ fx (negsuc 32) G (dn 5087 2) (dn 5073 2) (dn 5087 2) ∷ [])
          ((negsuc 35) ∷ (negsuc 34) ∷ (negsuc 32) ∷ (negsuc 31) ∷ [])
          ∷ kept Down (fx (negsuc 32) G (dn 5087 2) (dn 5073 2) (dn 5087 2)) (fx (negsuc 29) D (dn 5009 2) (dn 4963 2) (dn 4963 2))
          (fx (negsuc 32) G (dn 5087 2) (dn 5073 2) (dn 5087 2) ∷ fx (negsuc 29) D (dn 5009 2) (dn 4963 2) (dn 4963 2) ∷ [])
          ((negsuc 34) ∷ (negsuc 32) ∷ (negsuc 31) ∷ (negsuc 30) ∷ (negsuc 29) ∷ (negsuc 28) ∷ [])
          ∷ [];
      measures =
          measured (dn 5087 2) (dn 2523 1) (dn 5775866522102661 49) (up 1125899906867553 0) (dn 1 1) (dn 1 1) (dn 2334666046828865 57) (neg (dn 7 3)) (neg (dn 61 3)) 4
          ((negsuc 34) ∷ (negsuc 33) ∷ (negsuc 32) ∷ [])
          (fake Up (negsuc 34) (negsuc 32) (dn 5087 2) (dn 2523 1) (dn 5775866522102661 49) ∷ [])
          ∷ measured (dn 5087 2) (dn 4963 2) (dn 31 0) (dn 1402715874829271 32) (dn 4900976065079657 52) (dn 2450408557252287 51) (neg (dn 7032821178101767 57)) (neg (dn 3152519739159347 50)) (neg (dn 5951185221882441 52)) 6
          ((negsuc 33) ∷ (negsuc 32) ∷ (negsuc 31) ∷ (negsuc 30) ∷ (negsuc 29) ∷ [])
          (fake Down (negsuc 32) (negsuc 29) (dn 5087 2) (dn 4963 2) (dn 31 0) ∷ [])
          ∷ [];
      fxs =
          fx (negsuc 32) G (dn 5087 2) (dn 5073 2) (dn 5087 2)
          ∷ fx (negsuc 29) D (dn 5009 2) (dn 4963 2) (dn 4963 2)
          ∷ [];
      finished = 2;
      extend = false;
      zones =
          zone (negsuc 34) (negsuc 29) Up Down (dn 5087 2) (dn 2523 1) (dn 10133 3) (dn 5087 2) (dn 4963 2) true
          (stroke Up (dn 5087 2) (dn 2523 1) (negsuc 34) (negsuc 32)
          ∷ stroke Down (dn 5087 2) (dn 4963 2) (negsuc 32) (negsuc 29)
          ∷ [])
          ∷ [];
      fin_zones =
          zone (negsuc 34) (negsuc 29) Up Down (dn 5087 2) (dn 2523 1) (dn 10133 3) (dn 5087 2) (dn 4963 2) true
          (stroke Up (dn 5087 2) (dn 2523 1) (negsuc 34) (negsuc 32)
          ∷ stroke Down (dn 5087 2) (dn 4963 2) (negsuc 32) (negsuc 29)
          ∷ [])
          ∷ [];
      bis =
          (neither ∷ neither ∷ neither ∷ [])
          ∷ (neither ∷ neither ∷ [])
          ∷ (neither ∷ [])
          ∷ [];
      answers =
          answers Medium (up 1125899906871785 0) false
          ∷ answers Medium (up 281474976720975 2) false
          ∷ answers Medium (up 281474976720975 2) false
          ∷ answers Weak (dn 1077638390129623 32) true
          ∷ answers Weak (dn 1127863737689047 32) true
          ∷ [];
      ubifx =
          fx (negsuc 29) D (dn 5009 2) (dn 4963 2) (dn 4963 2)
          ∷ [];
      unfinished = some (Up, (dn 5089 2), (dn 4963 2), (negsuc 26), (negsuc 29), 5, 10, 1, (negsuc 29));
      gaps =
          Gaps.NoGap
          ∷ Gaps.Up (up 79 3) (dn 5073 2) (dn 7839866231326559 60) true
          ∷ Gaps.NoGap
          ∷ Gaps.NoGap
          ∷ Gaps.NoGap
          ∷ Gaps.NoGap
          ∷ Gaps.NoGap
          ∷ Gaps.Up (dn 5033 2) (dn 2521 1) (dn 4150517416584649 60) false
          ∷ Gaps.NoGap
          ∷ [];
    }
unfolding told run_09 settings bar fx kept measured fake stroke zone answers up dn neg neither rises falls
run_09_told = refl

unfoldable run_10 : List Bar
unfolding bar up dn
run_10 =
    bar (pos 0) (pos 0) (up 203 1) (dn 1649 1) (dn 1649 1) (up 203 1) (dn 6820452046513111 38) (up 921 3)
    ∷ bar (pos 1) (pos 1) (dn 1637 1) (dn 3295 2) (dn 829 0) (dn 1637 1) (dn 7395599707055063 36) (dn 821475803177943 32)
    ∷ bar (pos 1) (pos 2) (dn 1659 1) (dn 829 0) (dn 1659 1) (dn 829 0) (dn 5324272357563433 36) (dn 730723230112809 32)
    ∷ bar (pos 2) (pos 3) (dn 841 0) (up 413 0) (dn 841 0) (up 413 0) (up 16353 0) (dn 6823260611527311 35)
    ∷ bar (pos 2) (pos 4) (dn 1685 1) (dn 1685 1) (dn 1685 1) (dn 841 0) (up 5727 0) (dn 3686589644513591 26)
    ∷ bar (pos 2) (pos 5) (up 415 0) (dn 1687 1) (dn 1687 1) (up 415 0) (up 8809 0) (up 1339 0)
    ∷ bar (pos 3) (pos 6) (dn 835 0) (dn 835 0) (dn 835 0) (dn 1645 1) (up 17629 0) (dn 1424392746570875 33)
    ∷ bar (pos 4) (pos 7) (dn 1651 1) (dn 825 0) (dn 1651 1) (dn 825 0) (dn 577459469638697 32) (up 1 50)
    ∷ bar (pos 5) (pos 8) (dn 3297 2) (dn 3259 2) (dn 3297 2) (dn 3259 2) (up 1051 4) (up 1495 0)
    ∷ bar (pos 6) (pos 9) (dn 3263 2) (dn 3229 2) (dn 3263 2) (dn 3229 2) (up 1 50) (dn 3930424215810867 36)
    ∷ bar (pos 6) (pos 10) (dn 3217 2) (dn 3217 2) (dn 3239 2) (dn 3217 2) (up 2135 1) (dn 3871469776719053 36)
    ∷ bar (pos 7) (pos 11) (dn 3221 2) (dn 3221 2) (dn 3221 2) (dn 3165 2) (up 7921 1) (up 24611 1)
    ∷ bar (pos 8) (pos 12) (up 395 0) (up 395 0) (up 25 4) (up 395 0) (up 4585 2) (up 1 50)
    ∷ bar (pos 8) (pos 13) (dn 3159 2) (dn 3159 2) (dn 3171 2) (dn 3159 2) (up 7431 1) (up 1 50)
    ∷ bar (pos 9) (pos 14) (dn 3143 2) (dn 3143 2) (dn 3157 2) (dn 3129 2) (up 0 0) (up 8077 1)
    ∷ bar (pos 10) (pos 15) (up 391 0) (up 391 0) (dn 1565 1) (up 391 0) (up 15997 0) (up 8547 0)
    ∷ bar (pos 11) (pos 16) (dn 3125 2) (dn 3121 2) (dn 3125 2) (dn 3121 2) (dn 7214511516349891 38) (dn 6722932924271821 35)
    ∷ bar (pos 12) (pos 17) (dn 1579 1) (dn 779 0) (dn 1579 1) (dn 779 0) (up 15389 0) (up 6151 0)
    ∷ bar (pos 12) (pos 18) (dn 1597 1) (dn 1579 1) (dn 1597 1) (dn 1579 1) (up 15 6) (up 3039 0)
    ∷ bar (pos 13) (pos 19) (dn 803 0) (dn 789 0) (dn 803 0) (dn 789 0) (dn 1469700184777687 33) (up 1123 3)
    ∷ bar (pos 13) (pos 20) (up 399 0) (dn 3205 2) (dn 3205 2) (dn 3179 2) (dn 4456998837233849 19) (up 3667 1)
    ∷ bar (pos 14) (pos 21) (dn 3241 2) (dn 3241 2) (dn 3241 2) (dn 3219 2) (up 4835 2) (dn 116317 1)
    ∷ bar (pos 15) (pos 22) (dn 3237 2) (dn 3237 2) (dn 3281 2) (dn 3237 2) (dn 2564433575537541 36) (dn 3429699748574003 34)
    ∷ bar (pos 15) (pos 23) (dn 3263 2) (dn 3317 2) (dn 3317 2) (dn 3263 2) (up 2325 3) (dn 3870275432213381 38)
    ∷ bar (pos 16) (pos 24) (dn 3263 2) (dn 3295 2) (dn 3295 2) (dn 3263 2) (dn 8038320603461059 38) (dn 694299674059735 33)
    ∷ bar (pos 17) (pos 25) (dn 1631 1) (dn 805 0) (dn 1631 1) (dn 805 0) (dn 4693331353859523 37) (up 1 50)
    ∷ bar (pos 18) (pos 26) (dn 3231 2) (dn 3231 2) (dn 3235 2) (dn 3231 2) (dn 4639351517688627 35) (up 1193 4)
    ∷ bar (pos 18) (pos 27) (dn 3193 2) (dn 3227 2) (dn 3227 2) (dn 3193 2) (dn 8859603562607411 36) (up 247 5)
    ∷ bar (pos 18) (pos 28) (dn 3229 2) (dn 3189 2) (dn 3229 2) (dn 3189 2) (up 991 0) (dn 5371345199127593 38)
    ∷ bar (pos 19) (pos 29) (up 199 1) (up 199 1) (up 401 0) (up 199 1) (up 8683 1) (up 5737 0)
    ∷ bar (pos 20) (pos 30) (dn 3207 2) (dn 1609 1) (dn 3229 2) (dn 3207 2) (up 1 50) (up 1 50)
    ∷ bar (pos 21) (pos 31) (dn 1609 1) (dn 3199 2) (dn 1609 1) (dn 795 0) (up 1427 1) (up 1201 0)
    ∷ bar (pos 21) (pos 32) (dn 1611 1) (dn 1611 1) (dn 1611 1) (dn 1593 1) (up 6971 1) (dn 636669802882007 32)
    ∷ bar (pos 22) (pos 33) (dn 3199 2) (dn 3199 2) (dn 3199 2) (dn 3189 2) (up 10467 0) (up 153 6)
    ∷ bar (pos 23) (pos 34) (up 25 4) (up 25 4) (up 25 4) (dn 1579 1) (up 3801 1) (up 8829 0)
    ∷ bar (pos 24) (pos 35) (dn 1601 1) (up 393 0) (dn 1601 1) (up 393 0) (up 7915 0) (dn 6162524904294973 36)
    ∷ bar (pos 25) (pos 36) (dn 3149 2) (dn 3155 2) (dn 3155 2) (dn 3149 2) (dn 6031200609862943 38) (up 0 0)
    ∷ bar (pos 25) (pos 37) (dn 3103 2) (dn 3141 2) (dn 3141 2) (dn 3103 2) (up 8581 1) (up 8091 0)
    ∷ bar (pos 25) (pos 38) (dn 3175 2) (dn 3175 2) (dn 3175 2) (dn 3121 2) (dn 1340501211962409 35) (up 0 0)
    ∷ bar (pos 26) (pos 39) (dn 3107 2) (dn 3107 2) (dn 3127 2) (dn 3107 2) (dn 4306712828963717 37) (up 965 4)
    ∷ []

run_10_told : told (settings 6 2 64 64 64) run_10
    ≡ record {
      events = (9, 7, 1);
      raw = map pos (10 ∷ 11 ∷ 12 ∷ 13 ∷ 14 ∷ 15 ∷ 16 ∷ 17 ∷ 18 ∷ 19 ∷ 20 ∷ 21 ∷ 22 ∷ 23 ∷ 24 ∷ 25 ∷ 26 ∷ []);
      ids = map pos (15 ∷ 16 ∷ 18 ∷ 20 ∷ 21 ∷ 23 ∷ 24 ∷ 25 ∷ 28 ∷ 29 ∷ 30 ∷ 32 ∷ 33 ∷ 34 ∷ 35 ∷ 38 ∷ 39 ∷ []);
      ubi =
          (bar (pos 14) (pos 21) (dn 3241 2) (dn 3241 2) (dn 3241 2) (dn 3219 2) (up 4835 2) (dn 116317 1), map pos (14 ∷ []))
          ∷ (bar (pos 15) (pos 23) (dn 3263 2) (dn 3317 2) (dn 3317 2) (dn 3263 2) (dn 4565944685444465 36) (dn 6521966250531225 36), map pos (15 ∷ 16 ∷ []))
          ∷ (bar (pos 17) (pos 25) (dn 1631 1) (dn 805 0) (dn 1631 1) (dn 805 0) (dn 4693331353859523 37) (up 1 50), map pos (17 ∷ []))
          ∷ (bar (pos 18) (pos 28) (dn 3229 2) (dn 3189 2) (dn 3229 2) (dn 3189 2) (up 991 0) (dn 5371345199127593 38), map pos (18 ∷ []))
          ∷ (bar (pos 19) (pos 29) (up 199 1) (up 199 1) (up 401 0) (up 199 1) (up 8683 1) (up 5737 0), map pos (19 ∷ []))
          ∷ (bar (pos 20) (pos 30) (dn 3207 2) (dn 1609 1) (dn 3229 2) (dn 3207 2) (up 1 50) (up 1 50), map pos (20 ∷ []))
          ∷ (bar (pos 24) (pos 32) (dn 3199 2) (up 393 0) (dn 3199 2) (up 393 0) (up 19963 1) (dn 4727123125752299 34), map pos (21 ∷ 22 ∷ 23 ∷ 24 ∷ []))
          ∷ (bar (pos 25) (pos 38) (dn 3175 2) (dn 3175 2) (dn 3175 2) (dn 3121 2) (dn 1340501211962409 35) (up 0 0), map pos (25 ∷ []))
          ∷ (bar (pos 26) (pos 39) (dn 3107 2) (dn 3107 2) (dn 3127 2) (dn 3107 2) (dn 4306712828963717 37) (up 965 4), map pos (26 ∷ []))
          ∷ [];
      strokes =
          kept Up (fx (pos 11) D (dn 3125 2) (dn 3121 2) (dn 3121 2)) (fx (pos 15) G (dn 3317 2) (dn 3263 2) (dn 3317 2))
          (fx (pos 11) D (dn 3125 2) (dn 3121 2) (dn 3121 2) ∷ fx (pos 15) G (dn 3317 2) (dn 3263 2) (dn 3317 2) ∷ [])
          (map pos (10 ∷ 11 ∷ 12 ∷ 13 ∷ 14 ∷ 15 ∷ 17 ∷ []))
          ∷ [];
      measures =
          measured (dn 3317 2) (dn 3121 2) (dn 49 0) (dn 4457068719308739 19) (dn 2753999772133037 50) (dn 5507902344274117 51) (dn 2262608452790937 54) (dn 5561141325583389 49) (neg (dn 7197717261601061 53)) 7
          (map pos (11 ∷ 12 ∷ 13 ∷ 14 ∷ 15 ∷ 16 ∷ []))
          (fake Up (pos 11) (pos 15) (dn 3317 2) (dn 3121 2) (dn 49 0) ∷ [])
          ∷ [];
      fxs =
          fx (pos 15) G (dn 3317 2) (dn 3263 2) (dn 3317 2)
          ∷ fx (pos 19) D (up 401 0) (up 199 1) (up 199 1)
          ∷ fx (pos 20) G (dn 3229 2) (dn 3207 2) (dn 3229 2)
          ∷ [];
      finished = 1;
      extend = false;
      zones =
          zone (pos 11) (pos 15) Up Up (dn 3317 2) (dn 3121 2) (dn 3219 2) (dn 3317 2) (dn 3121 2) true
          (stroke Up (dn 3317 2) (dn 3121 2) (pos 11) (pos 15)
          ∷ [])
          ∷ [];
      fin_zones =
          zone (pos 11) (pos 15) Up Up (dn 3317 2) (dn 3121 2) (dn 3219 2) (dn 3317 2) (dn 3121 2) true
          (stroke Up (dn 3317 2) (dn 3121 2) (pos 11) (pos 15)
          ∷ [])
          ∷ [];
      bis =
          (neither ∷ neither ∷ [])
          ∷ (neither ∷ [])
          ∷ [];
      answers =
          answers Strong (dn 4134180213112177 36) false
          ∷ answers Medium (dn 4785339861261353 35) false
          ∷ answers Medium (dn 4785339861261353 35) false
          ∷ answers Medium (up 1125899906860981 0) true
          ∷ answers Strong (up 281474976724979 2) false
          ∷ [];
      ubifx =
          fx (pos 15) G (dn 3317 2) (dn 3263 2) (dn 3317 2)
          ∷ fx (pos 19) D (up 401 0) (up 199 1) (up 199 1)
          ∷ fx (pos 20) G (dn 3229 2) (dn 3207 2) (dn 3229 2)
          ∷ [];
      unfinished = some (Down, (dn 3317 2), (dn 3107 2), (pos 15), (pos 26), 9, 17, 3, (pos 15));
      gaps =
          Gaps.Down (dn 3125 2) (up 391 0) (dn 1152921504606847 59) true
          ∷ Gaps.Up (dn 3125 2) (dn 1579 1) (dn 6110483974416289 58) true
          ∷ Gaps.NoGap
          ∷ Gaps.Up (dn 3205 2) (dn 3219 2) (dn 5072854620270127 59) true
          ∷ Gaps.Up (dn 3241 2) (dn 3263 2) (dn 7839866231326559 59) true
          ∷ Gaps.NoGap
          ∷ Gaps.Down (dn 1631 1) (dn 3263 2) (dn 5534023222112865 63) false
          ∷ Gaps.NoGap
          ∷ Gaps.NoGap
          ∷ Gaps.NoGap
          ∷ Gaps.NoGap
          ∷ Gaps.NoGap
          ∷ Gaps.NoGap
          ∷ Gaps.NoGap
          ∷ Gaps.NoGap
          ∷ Gaps.NoGap
          ∷ [];
    }
unfolding told run_10 settings bar fx kept measured fake stroke zone answers up dn neg neither rises falls
run_10_told = refl

unfoldable run_11 : List Bar
unfolding bar up dn
run_11 =
    bar (pos 1600000000) (negsuc 2147483647) (dn 3731 1) (dn 3731 1) (dn 1879 0) (dn 3731 1) (dn 7711335466087219 36) (up 1141 4)
    ∷ bar (pos 1600000000) (negsuc 2147483646) (dn 7493 2) (dn 7493 2) (dn 7551 2) (dn 7493 2) (up 1 50) (up 14061 0)
    ∷ bar (pos 1600000001) (negsuc 2147483645) (dn 3753 1) (dn 3771 1) (dn 3771 1) (dn 3753 1) (up 10353 0) (up 4951 0)
    ∷ bar (pos 1600000002) (negsuc 2147483644) (up 235 2) (up 235 2) (dn 3767 1) (up 235 2) (dn 1640139605367849 33) (up 3155 1)
    ∷ bar (pos 1600000003) (negsuc 2147483643) (dn 7553 2) (dn 7569 2) (dn 7569 2) (dn 7553 2) (up 4493 0) (dn 1325232603225129 33)
    ∷ bar (pos 1600000004) (negsuc 2147483642) (dn 7513 2) (dn 7549 2) (dn 7549 2) (dn 7513 2) (up 0 0) (dn 6422727074094481 33)
    ∷ bar (pos 1600000005) (negsuc 2147483641) (dn 7569 2) (dn 7569 2) (dn 7581 2) (dn 7569 2) (up 5541 1) (up 1855 2)
    ∷ bar (pos 1600000006) (negsuc 2147483640) (up 473 1) (up 473 1) (up 473 1) (dn 3769 1) (dn 610597289810985 34) (up 1333 2)
    ∷ bar (pos 1600000007) (negsuc 2147483639) (dn 1883 0) (up 939 0) (dn 1883 0) (up 939 0) (up 6871 1) (dn 2929173193430139 37)
    ∷ bar (pos 1600000008) (negsuc 2147483638) (dn 3747 1) (dn 3747 1) (dn 3747 1) (dn 3739 1) (dn 3183580942644019 36) (up 6491 1)
    ∷ bar (pos 1600000009) (negsuc 2147483637) (dn 7483 2) (dn 7483 2) (dn 7483 2) (dn 7473 2) (up 385 3) (up 2163 3)
    ∷ bar (pos 1600000010) (negsuc 2147483636) (up 931 0) (up 931 0) (dn 3743 1) (up 931 0) (up 1579 0) (up 1 50)
    ∷ bar (pos 1600000011) (negsuc 2147483635) (dn 3719 1) (dn 3721 1) (dn 3721 1) (dn 3719 1) (dn 5892766598367805 42) (up 81 0)
    ∷ bar (pos 1600000011) (negsuc 2147483634) (dn 7443 2) (dn 1867 0) (dn 1867 0) (dn 3709 1) (up 3867 0) (dn 8504781539597353 36)
    ∷ bar (pos 1600000012) (negsuc 2147483633) (dn 3699 1) (dn 3699 1) (dn 3719 1) (dn 3699 1) (up 0 0) (up 15361 0)
    ∷ bar (pos 1600000013) (negsuc 2147483632) (dn 7417 2) (dn 7417 2) (dn 7477 2) (dn 7417 2) (up 4229 1) (up 3809 1)
    ∷ bar (pos 1600000013) (negsuc 2147483631) (dn 3735 1) (up 467 1) (up 467 1) (dn 3735 1) (up 18813 0) (dn 2393616541422715 34)
    ∷ bar (pos 1600000014) (negsuc 2147483630) (dn 3757 1) (dn 1867 0) (dn 3757 1) (dn 1867 0) (up 19281 0) (up 1087 3)
    ∷ bar (pos 1600000015) (negsuc 2147483629) (dn 7521 2) (dn 7483 2) (dn 7521 2) (dn 7483 2) (up 19383 0) (up 2323 1)
    ∷ bar (pos 1600000016) (negsuc 2147483628) (dn 7543 2) (dn 7493 2) (dn 7543 2) (dn 7493 2) (dn 5154763552544801 30) (up 0 0)
    ∷ bar (pos 1600000017) (negsuc 2147483627) (dn 7531 2) (dn 7531 2) (dn 7531 2) (dn 7487 2) (dn 6204786008098079 38) (up 1967 3)
    ∷ bar (pos 1600000017) (negsuc 2147483626) (dn 7527 2) (dn 7503 2) (dn 7527 2) (dn 7503 2) (up 12195 0) (up 8525 0)
    ∷ bar (pos 1600000018) (negsuc 2147483625) (dn 1881 0) (dn 1881 0) (dn 1881 0) (dn 3757 1) (dn 2214322959852503 35) (up 14015 0)
    ∷ bar (pos 1600000019) (negsuc 2147483624) (dn 7529 2) (dn 7573 2) (dn 7573 2) (dn 7529 2) (dn 4390982148895539 36) (up 447 5)
    ∷ bar (pos 1600000020) (negsuc 2147483623) (dn 1897 0) (up 945 0) (dn 1897 0) (up 945 0) (dn 1793175646675927 34) (up 4399 2)
    ∷ bar (pos 1600000020) (negsuc 2147483622) (dn 7515 2) (dn 7515 2) (dn 7565 2) (dn 7515 2) (dn 6038680485409509 21) (up 893 1)
    ∷ bar (pos 1600000021) (negsuc 2147483621) (dn 7523 2) (dn 7525 2) (dn 7525 2) (dn 7523 2) (up 2065 2) (dn 1612647519706153 33)
    ∷ bar (pos 1600000022) (negsuc 2147483620) (dn 7543 2) (dn 7543 2) (dn 7543 2) (dn 7521 2) (dn 5253510420954205 8) (dn 7335287371102945 37)
    ∷ bar (pos 1600000023) (negsuc 2147483619) (dn 1893 0) (dn 1893 0) (dn 1893 0) (dn 1879 0) (dn 88595491772363 15) (up 19423 0)
    ∷ bar (pos 1600000024) (negsuc 2147483618) (dn 3791 1) (dn 3791 1) (dn 3791 1) (dn 1883 0) (dn 2618490377522381 35) (dn 111424442513021 45)
    ∷ bar (pos 1600000025) (negsuc 2147483617) (dn 7553 2) (dn 7553 2) (dn 7583 2) (dn 7553 2) (dn 2506048133713101 35) (dn 390595 1)
    ∷ bar (pos 1600000026) (negsuc 2147483616) (dn 3781 1) (dn 3805 1) (dn 3805 1) (dn 3781 1) (up 0 0) (up 1 50)
    ∷ bar (pos 1600000027) (negsuc 2147483615) (up 237 2) (up 237 2) (up 237 2) (dn 3789 1) (dn 6025219266607841 35) (up 16443 0)
    ∷ bar (pos 1600000028) (negsuc 2147483614) (dn 3757 1) (dn 3757 1) (dn 3787 1) (dn 3757 1) (up 5799 1) (up 279 0)
    ∷ bar (pos 1600000029) (negsuc 2147483613) (dn 1877 0) (dn 1877 0) (dn 3767 1) (dn 1877 0) (up 135 1) (dn 2691386624054395 34)
    ∷ bar (pos 1600000030) (negsuc 2147483612) (dn 7539 2) (dn 7539 2) (dn 7539 2) (dn 7519 2) (dn 3665251695181279 22) (up 2273 1)
    ∷ bar (pos 1600000031) (negsuc 2147483611) (up 939 0) (dn 3767 1) (dn 3767 1) (up 939 0) (up 0 0) (dn 8059571414446899 36)
    ∷ bar (pos 1600000032) (negsuc 2147483610) (dn 7507 2) (dn 7507 2) (dn 7507 2) (dn 7469 2) (up 2375 0) (up 10307 0)
    ∷ bar (pos 1600000033) (negsuc 2147483609) (up 933 0) (dn 1865 0) (up 933 0) (dn 1865 0) (dn 2839633019434727 45) (dn 5608156639128453 35)
    ∷ bar (pos 1600000034) (negsuc 2147483608) (dn 7487 2) (dn 7511 2) (dn 7511 2) (dn 7487 2) (up 16279 0) (up 7307 1)
    ∷ []

run_11_told : told (settings 1 5 64 64 64) run_11
    ≡ record {
      events = (10, 1, 4);
      raw = map pos (1600000016 ∷ 1600000017 ∷ 1600000018 ∷ 1600000019 ∷ 1600000020 ∷ 1600000021 ∷ 1600000022 ∷ 1600000023 ∷ 1600000024 ∷ 1600000025 ∷ 1600000026 ∷ 1600000027 ∷ 1600000028 ∷ 1600000029 ∷ 1600000030 ∷ 1600000031 ∷ 1600000032 ∷ 1600000033 ∷ 1600000034 ∷ []);
      ids = (negsuc 2147483628) ∷ (negsuc 2147483626) ∷ (negsuc 2147483625) ∷ (negsuc 2147483624) ∷ (negsuc 2147483622) ∷ (negsuc 2147483621) ∷ (negsuc 2147483620) ∷ (negsuc 2147483619) ∷ (negsuc 2147483618) ∷ (negsuc 2147483617) ∷ (negsuc 2147483616) ∷ (negsuc 2147483615) ∷ (negsuc 2147483614) ∷ (negsuc 2147483613) ∷ (negsuc 2147483612) ∷ (negsuc 2147483611) ∷ (negsuc 2147483610) ∷ (negsuc 2147483609) ∷ (negsuc 2147483608) ∷ [];
      ubi =
          (bar (pos 1600000032) (negsuc 2147483610) (dn 7507 2) (dn 7507 2) (dn 7507 2) (dn 7469 2) (up 2375 0) (up 10307 0), map pos (1600000032 ∷ []))
          ∷ (bar (pos 1600000033) (negsuc 2147483609) (up 933 0) (dn 1865 0) (up 933 0) (dn 1865 0) (dn 2839633019434727 45) (dn 5608156639128453 35), map pos (1600000033 ∷ []))
          ∷ (bar (pos 1600000034) (negsuc 2147483608) (dn 7487 2) (dn 7511 2) (dn 7511 2) (dn 7487 2) (up 16279 0) (up 7307 1), map pos (1600000034 ∷ []))
          ∷ [];
      strokes =
          kept Down (fx (pos 1600000019) G (dn 7573 2) (dn 7529 2) (dn 7573 2)) (fx (pos 1600000020) D (dn 7525 2) (dn 7515 2) (dn 7515 2))
          (fx (pos 1600000019) G (dn 7573 2) (dn 7529 2) (dn 7573 2) ∷ fx (pos 1600000020) D (dn 7525 2) (dn 7515 2) (dn 7515 2) ∷ [])
          (map pos (1600000016 ∷ 1600000019 ∷ 1600000020 ∷ 1600000022 ∷ []))
          ∷ kept Up (fx (pos 1600000020) D (dn 7525 2) (dn 7515 2) (dn 7515 2)) (fx (pos 1600000026) G (dn 3805 1) (dn 3789 1) (dn 3805 1))
          (fx (pos 1600000020) D (dn 7525 2) (dn 7515 2) (dn 7515 2) ∷ fx (pos 1600000026) G (dn 3805 1) (dn 3789 1) (dn 3805 1) ∷ [])
          (map pos (1600000019 ∷ 1600000020 ∷ 1600000023 ∷ 1600000024 ∷ 1600000025 ∷ 1600000026 ∷ 1600000028 ∷ []))
          ∷ kept Down (fx (pos 1600000026) G (dn 3805 1) (dn 3789 1) (dn 3805 1)) (fx (pos 1600000029) D (dn 3767 1) (dn 1877 0) (dn 1877 0))
          (fx (pos 1600000026) G (dn 3805 1) (dn 3789 1) (dn 3805 1) ∷ fx (pos 1600000029) D (dn 3767 1) (dn 1877 0) (dn 1877 0) ∷ [])
          (map pos (1600000025 ∷ 1600000026 ∷ 1600000028 ∷ 1600000029 ∷ 1600000030 ∷ []))
          ∷ kept Up (fx (pos 1600000029) D (dn 3767 1) (dn 1877 0) (dn 1877 0)) (fx (pos 1600000030) G (dn 7539 2) (dn 7519 2) (dn 7539 2))
          (fx (pos 1600000029) D (dn 3767 1) (dn 1877 0) (dn 1877 0) ∷ fx (pos 1600000030) G (dn 7539 2) (dn 7519 2) (dn 7539 2) ∷ [])
          (map pos (1600000028 ∷ 1600000029 ∷ 1600000030 ∷ 1600000031 ∷ []))
          ∷ kept Down (fx (pos 1600000030) G (dn 7539 2) (dn 7519 2) (dn 7539 2)) (fx (pos 1600000033) D (up 933 0) (dn 1865 0) (dn 1865 0))
          (fx (pos 1600000030) G (dn 7539 2) (dn 7519 2) (dn 7539 2) ∷ fx (pos 1600000033) D (up 933 0) (dn 1865 0) (dn 1865 0) ∷ [])
          (map pos (1600000029 ∷ 1600000030 ∷ 1600000031 ∷ 1600000032 ∷ 1600000033 ∷ 1600000034 ∷ []))
          ∷ [];
      measures =
          measured (dn 7573 2) (dn 7515 2) (dn 29 1) (dn 6038849132501323 21) (dn 1566469435607129 53) (dn 3134505340649865 54) (neg (dn 4438747792736361 58)) (neg (up 3 0)) (dn 17 1) 4
          (map pos (1600000019 ∷ 1600000020 ∷ 1600000021 ∷ []))
          (fake Down (pos 1600000019) (pos 1600000020) (dn 7573 2) (dn 7515 2) (dn 29 1) ∷ [])
          ∷ measured (dn 3805 1) (dn 7515 2) (dn 6687845446645187 48) (dn 5254939804148909 8) (dn 1553741871442821 49) (dn 1553741871442821 49) (dn 226981421219473 53) (dn 6353292331469093 51) (neg (dn 3082821173497661 53)) 7
          (map pos (1600000020 ∷ 1600000021 ∷ 1600000022 ∷ 1600000023 ∷ 1600000024 ∷ 1600000025 ∷ 1600000026 ∷ 1600000027 ∷ []))
          (fake Up (pos 1600000020) (pos 1600000026) (dn 3805 1) (dn 7515 2) (dn 6687845446645187 48) ∷ [])
          ∷ measured (dn 3805 1) (dn 1877 0) (dn 51 1) (dn 6840782016510689 35) (dn 9 2) (dn 9 2) (neg (dn 7724574080865875 58)) (neg (dn 5291729562160333 49)) (dn 5 2) 5
          (map pos (1600000026 ∷ 1600000027 ∷ 1600000028 ∷ 1600000029 ∷ []))
          (fake Down (pos 1600000026) (pos 1600000029) (dn 3805 1) (dn 1877 0) (dn 51 1) ∷ [])
          ∷ measured (dn 7539 2) (dn 1877 0) (dn 4368491638549381 49) (dn 3665253960105439 22) (up 0 0) (up 0 0) (dn 4726978168888073 59) (dn 31 2) (up 0 0) 4
          (map pos (1600000029 ∷ 1600000030 ∷ []))
          (fake Up (pos 1600000029) (pos 1600000030) (dn 7539 2) (dn 1877 0) (dn 4368491638549381 49) ∷ [])
          ∷ measured (dn 7539 2) (dn 1865 0) (dn 5561945539802563 48) (dn 1832635978317957 21) (dn 1710501781549371 48) (dn 3421046866941313 49) (neg (dn 6052837899185947 58)) (neg (dn 3715469692580659 49)) (neg (dn 21 3)) 6
          (map pos (1600000030 ∷ 1600000031 ∷ 1600000032 ∷ 1600000033 ∷ []))
          (fake Down (pos 1600000030) (pos 1600000033) (dn 7539 2) (dn 1865 0) (dn 5561945539802563 48) ∷ [])
          ∷ [];
      fxs =
          fx (pos 1600000020) D (dn 7525 2) (dn 7515 2) (dn 7515 2)
          ∷ fx (pos 1600000026) G (dn 3805 1) (dn 3789 1) (dn 3805 1)
          ∷ fx (pos 1600000029) D (dn 3767 1) (dn 1877 0) (dn 1877 0)
          ∷ fx (pos 1600000030) G (dn 7539 2) (dn 7519 2) (dn 7539 2)
          ∷ fx (pos 1600000033) D (up 933 0) (dn 1865 0) (dn 1865 0)
          ∷ [];
      finished = 4;
      extend = false;
      zones =
          zone (pos 1600000019) (pos 1600000033) Down Down (dn 7573 2) (dn 7515 2) (up 943 0) (dn 3805 1) (dn 1865 0) true
          (stroke Down (dn 7573 2) (dn 7515 2) (pos 1600000019) (pos 1600000020)
          ∷ stroke Up (dn 3805 1) (dn 7515 2) (pos 1600000020) (pos 1600000026)
          ∷ stroke Down (dn 3805 1) (dn 1877 0) (pos 1600000026) (pos 1600000029)
          ∷ stroke Up (dn 7539 2) (dn 1877 0) (pos 1600000029) (pos 1600000030)
          ∷ stroke Down (dn 7539 2) (dn 1865 0) (pos 1600000030) (pos 1600000033)
          ∷ [])
          ∷ [];
      fin_zones =
          zone (pos 1600000019) (pos 1600000030) Down Up (dn 7573 2) (dn 7515 2) (up 943 0) (dn 3805 1) (dn 1877 0) true
          (stroke Down (dn 7573 2) (dn 7515 2) (pos 1600000019) (pos 1600000020)
          ∷ stroke Up (dn 3805 1) (dn 7515 2) (pos 1600000020) (pos 1600000026)
          ∷ stroke Down (dn 3805 1) (dn 1877 0) (pos 1600000026) (pos 1600000029)
          ∷ stroke Up (dn 7539 2) (dn 1877 0) (pos 1600000029) (pos 1600000030)
          ∷ [])
          ∷ [];
      bis =
          (neither ∷ neither ∷ neither ∷ neither ∷ neither ∷ neither ∷ [])
          ∷ (neither ∷ neither ∷ neither ∷ neither ∷ neither ∷ [])
          ∷ (neither ∷ neither ∷ neither ∷ falls ∷ [])
          ∷ (neither ∷ neither ∷ neither ∷ [])
          ∷ (neither ∷ neither ∷ [])
          ∷ (neither ∷ [])
          ∷ [];
      answers =
          answers Medium (dn 3024551665575005 20) false
          ∷ answers Medium (dn 2627123792577475 7) false
          ∷ answers Medium (dn 2627469868717211 7) false
          ∷ answers Strong (dn 4664137945752535 34) false
          ∷ answers Strong (dn 4664137945752535 34) false
          ∷ answers Medium (dn 3665351251181023 22) true
          ∷ answers Medium (dn 3665351251181023 22) true
          ∷ answers Weak (dn 3665253960105439 22) true
          ∷ answers Weak (dn 3665253960105439 22) true
          ∷ answers Strong (dn 5138664792615543 37) false
          ∷ answers Strong (dn 5138664792615543 37) false
          ∷ [];
      ubifx =
          fx (pos 1600000033) D (up 933 0) (dn 1865 0) (dn 1865 0)
          ∷ [];
      unfinished = some (Up, (dn 7511 2), (dn 1865 0), (pos 1600000034), (pos 1600000033), 3, 19, 1, (pos 1600000033));
      gaps =
          Gaps.NoGap
          ∷ Gaps.NoGap
          ∷ Gaps.Up (dn 1881 0) (dn 7529 2) (dn 6456360425798343 62) true
          ∷ Gaps.NoGap
          ∷ Gaps.NoGap
          ∷ Gaps.NoGap
          ∷ Gaps.NoGap
          ∷ Gaps.NoGap
          ∷ Gaps.NoGap
          ∷ Gaps.NoGap
          ∷ Gaps.NoGap
          ∷ Gaps.Down (dn 3787 1) (dn 3789 1) (dn 1152921504606847 60) false
          ∷ Gaps.NoGap
          ∷ Gaps.NoGap
          ∷ Gaps.NoGap
          ∷ Gaps.Down (dn 7507 2) (up 939 0) (dn 6456360425798343 62) false
          ∷ Gaps.Down (up 933 0) (dn 7469 2) (dn 6456360425798343 62) true
          ∷ Gaps.Up (up 933 0) (dn 7487 2) (dn 7148113328562451 60) false
          ∷ [];
    }
unfolding told run_11 settings bar fx kept measured fake stroke zone answers up dn neg neither rises falls
run_11_told = refl

unfoldable run_12 : List Bar
unfolding bar up dn
run_12 =
    bar (pos 0) (pos 0) (dn 1015992724530135 40) (dn 8124775202753085 43) (dn 8131108389729075 43) (dn 1847 1) (dn 1206927729056809 33) (up 6267 1)
    ∷ bar (pos 60) (pos 1) (dn 8124423359032197 43) (dn 4067137491608535 42) (dn 8137793420425953 43) (dn 8121784531125535 43) (dn 5617747816496497 35) (dn 4101037496677171 35)
    ∷ bar (pos 60) (pos 2) (dn 8133043530193961 43) (dn 8143598841820611 43) (up 463 0) (dn 2032865058362491 41) (dn 1976034051101819 35) (up 439 4)
    ∷ bar (pos 60) (pos 3) (dn 8142367388797501 43) (dn 1016542480344023 40) (dn 4071535538119639 42) (dn 8128821405543301 43) (up 6573 1) (up 4587 1)
    ∷ bar (pos 101) (pos 4) (dn 8132867608333517 43) (dn 1015442968716247 40) (dn 2034228452780933 41) (dn 1847 1) (up 7571 0) (up 14339 0)
    ∷ bar (pos 161) (pos 5) (dn 4062739445097431 42) (dn 2030753996037161 41) (dn 4062915366957875 42) (dn 1015355007786025 40) (dn 2212332156611461 34) (up 8069 1)
    ∷ bar (pos 221) (pos 6) (dn 4060452460911657 42) (dn 8128821405543301 43) (dn 8130404702287299 43) (dn 2029566523479163 41) (up 1931 1) (up 4821 1)
    ∷ bar (pos 281) (pos 7) (dn 4064850507422761 42) (dn 4064762546492539 42) (dn 8133571295775293 43) (dn 2032029429525381 41) (up 1167 0) (up 1465 2)
    ∷ bar (pos 341) (pos 8) (dn 2033040980222935 41) (dn 2030666035106939 41) (dn 8135506436240179 43) (dn 8120201234381537 43) (dn 1204385108417577 34) (up 2261 2)
    ∷ bar (pos 400) (pos 9) (dn 1015355007786025 40) (dn 8132691686473073 43) (dn 4067137491608535 42) (dn 923 0) (up 1 50) (up 7267 0)
    ∷ bar (pos 460) (pos 10) (dn 8130756546008187 43) (dn 8135506436240179 43) (dn 4069336514864087 42) (dn 8129173249264189 43) (up 10849 0) (up 2077 2)
    ∷ bar (pos 520) (pos 11) (dn 8137969342286397 43) (dn 4069248553933865 42) (dn 4069248553933865 42) (dn 8137617498565509 43) (dn 6166807502085161 35) (dn 4204076167289897 38)
    ∷ bar (pos 580) (pos 12) (dn 925 0) (dn 1849 1) (dn 4069160593003643 42) (dn 8128997327403745 43) (up 7107 0) (up 9775 1)
    ∷ bar (pos 580) (pos 13) (dn 4067049530678313 42) (dn 8141487779495281 43) (dn 8142191466937057 43) (dn 8130932467868631 43) (up 17169 0) (dn 1357528381705887 42)
    ∷ bar (pos 580) (pos 14) (dn 1017554031041577 40) (dn 4071535538119639 42) (dn 8146237669727273 43) (dn 8139552639030395 43) (up 8521 1) (up 0 0)
    ∷ bar (pos 640) (pos 15) (dn 8142367388797501 43) (dn 8137265654844621 43) (dn 2036163593245819 41) (dn 1017004275227689 40) (up 5977 1) (up 0 0)
    ∷ bar (pos 700) (pos 16) (dn 4069072632073421 42) (dn 8141663701355725 43) (dn 8144478451122831 43) (dn 2034228452780933 41) (up 451 1) (up 1 50)
    ∷ bar (pos 760) (pos 17) (dn 8140080404611727 43) (up 463 0) (dn 8148348732052603 43) (dn 2034052530920489 41) (up 7519 1) (dn 6683053637532385 35)
    ∷ bar (pos 760) (pos 18) (dn 2036427476036485 41) (dn 8147996888331715 43) (dn 2037351065803817 41) (dn 4071623499049861 42) (up 1 50) (up 2199 0)
    ∷ bar (pos 820) (pos 19) (dn 8148348732052603 43) (dn 8142015545076613 43) (dn 4075845623700521 42) (dn 2035152042548265 41) (up 1211 1) (up 1 50)
    ∷ bar (pos 880) (pos 20) (dn 8141839623216169 43) (dn 4069072632073421 42) (dn 4071711459980083 42) (dn 4069072632073421 42) (dn 1859505060011049 34) (dn 621392604210135 32)
    ∷ bar (pos 940) (pos 21) (dn 2035152042548265 41) (dn 8137793420425953 43) (dn 8142367388797501 43) (dn 8135506436240179 43) (up 18135 0) (up 1 50)
    ∷ bar (pos 1000) (pos 22) (dn 8137969342286397 43) (dn 8137793420425953 43) (dn 4069072632073421 42) (dn 2034228452780933 41) (dn 1667218195046515 19) (up 11635 0)
    ∷ bar (pos 1060) (pos 23) (dn 8139200795309507 43) (dn 2032865058362491 41) (dn 8140080404611727 43) (dn 2032029429525381 41) (dn 2281683165338665 35) (up 3029 2)
    ∷ bar (pos 1060) (pos 24) (dn 4064674585562317 42) (dn 8128645483682857 43) (dn 4064674585562317 42) (dn 8124423359032197 43) (up 11193 0) (dn 2473502589530931 34)
    ∷ bar (pos 1120) (pos 25) (dn 4064850507422761 42) (dn 2032865058362491 41) (dn 8133043530193961 43) (dn 8128469561822413 43) (up 4633 0) (up 17347 0)
    ∷ bar (pos 1120) (pos 26) (dn 4064762546492539 42) (dn 8128293639961969 43) (dn 8130756546008187 43) (dn 2032029429525381 41) (up 747 4) (up 2199 3)
    ∷ bar (pos 1120) (pos 27) (dn 4065026429283205 42) (dn 8130756546008187 43) (dn 4066961569748091 42) (dn 1015992724530135 40) (up 259 5) (up 133 2)
    ∷ bar (pos 1180) (pos 28) (dn 4065026429283205 42) (dn 4067049530678313 42) (dn 4067049530678313 42) (dn 4064674585562317 42) (dn 3362101430100951 34) (up 4871 2)
    ∷ bar (pos 1209) (pos 29) (dn 2033040980222935 41) (dn 4069248553933865 42) (dn 8141487779495281 43) (dn 8130404702287299 43) (up 11325 0) (up 11267 0)
    ∷ bar (pos 1269) (pos 30) (dn 2035064081618043 41) (dn 2034140491850711 41) (dn 2035327964408709 41) (dn 1016542480344023 40) (up 13617 0) (up 0 0)
    ∷ bar (pos 1326) (pos 31) (dn 8134802748798403 43) (dn 8126358499497083 43) (dn 8137793420425953 43) (dn 4062915366957875 42) (up 1007 1) (dn 8015335312882401 37)
    ∷ bar (pos 1326) (pos 32) (dn 4062563523236987 42) (dn 8132867608333517 43) (dn 4066873608817869 42) (dn 8121608609265091 43) (up 14141 0) (up 12395 0)
    ∷ bar (pos 1386) (pos 33) (dn 4065114390213427 42) (dn 8126182577636639 43) (dn 4065114390213427 42) (dn 2030666035106939 41) (up 2969 2) (up 2221 3)
    ∷ bar (pos 1446) (pos 34) (dn 1015992724530135 40) (dn 2032865058362491 41) (dn 4067225452538757 42) (dn 8124775202753085 43) (dn 6275622731912315 35) (up 497 4)
    ∷ bar (pos 1506) (pos 35) (dn 8132867608333517 43) (dn 4071711459980083 42) (dn 4073646600444969 42) (dn 8128645483682857 43) (up 6621 1) (dn 687464319507497 32)
    ∷ bar (pos 1506) (pos 36) (dn 4071271655328973 42) (dn 8150987559959265 43) (dn 2038626499292037 41) (dn 1851 1) (dn 8028220214770401 36) (dn 7523619969045627 37)
    ∷ bar (pos 1506) (pos 37) (dn 1018741503599575 40) (dn 8155385606470369 43) (dn 8159255887400141 43) (dn 4073558639514747 42) (dn 1883315904476191 2) (up 1873 3)
    ∷ bar (pos 1566) (pos 38) (dn 2039462128129147 41) (dn 4076021545560965 42) (dn 8161894715306803 43) (dn 8148172810192159 43) (up 12519 0) (up 1 50)
    ∷ bar (pos 1566) (pos 39) (dn 2037439026734039 41) (dn 4076109506491187 42) (dn 4076109506491187 42) (dn 8145885826006385 43) (up 1 50) (up 13341 0)
    ∷ []

run_12_told : told (settings 1 5 64 64 64) run_12
    ≡ record {
      events = (11, 1, 5);
      raw = map pos (580 ∷ 640 ∷ 700 ∷ 760 ∷ 820 ∷ 880 ∷ 940 ∷ 1000 ∷ 1060 ∷ 1120 ∷ 1180 ∷ 1209 ∷ 1269 ∷ 1326 ∷ 1386 ∷ 1446 ∷ 1506 ∷ 1566 ∷ []);
      ids = map pos (14 ∷ 15 ∷ 16 ∷ 18 ∷ 19 ∷ 20 ∷ 21 ∷ 22 ∷ 24 ∷ 27 ∷ 28 ∷ 29 ∷ 30 ∷ 32 ∷ 33 ∷ 34 ∷ 37 ∷ 39 ∷ []);
      ubi =
          (bar (pos 1446) (pos 34) (dn 1015992724530135 40) (dn 2032865058362491 41) (dn 4067225452538757 42) (dn 8124775202753085 43) (dn 6275622731912315 35) (up 497 4), map pos (1446 ∷ []))
          ∷ (bar (pos 1506) (pos 37) (dn 1018741503599575 40) (dn 8155385606470369 43) (dn 8159255887400141 43) (dn 4073558639514747 42) (dn 1883315904476191 2) (up 1873 3), map pos (1506 ∷ []))
          ∷ (bar (pos 1566) (pos 39) (dn 2037439026734039 41) (dn 4076109506491187 42) (dn 4076109506491187 42) (dn 8145885826006385 43) (up 1 50) (up 13341 0), map pos (1566 ∷ []))
          ∷ [];
      strokes =
          kept Up (fx (pos 640) D (dn 8144478451122831 43) (dn 1017004275227689 40) (dn 1017004275227689 40)) (fx (pos 820) G (dn 4075845623700521 42) (dn 4071623499049861 42) (dn 4075845623700521 42))
          (fx (pos 640) D (dn 8144478451122831 43) (dn 1017004275227689 40) (dn 1017004275227689 40) ∷ fx (pos 820) G (dn 4075845623700521 42) (dn 4071623499049861 42) (dn 4075845623700521 42) ∷ [])
          (map pos (580 ∷ 640 ∷ 820 ∷ 880 ∷ []))
          ∷ kept Down (fx (pos 820) G (dn 4075845623700521 42) (dn 4071623499049861 42) (dn 4075845623700521 42)) (fx (pos 1060) D (dn 4064674585562317 42) (dn 8124423359032197 43) (dn 8124423359032197 43))
          (fx (pos 820) G (dn 4075845623700521 42) (dn 4071623499049861 42) (dn 4075845623700521 42) ∷ fx (pos 1060) D (dn 4064674585562317 42) (dn 8124423359032197 43) (dn 8124423359032197 43) ∷ [])
          (map pos (640 ∷ 820 ∷ 880 ∷ 940 ∷ 1060 ∷ 1120 ∷ []))
          ∷ kept Up (fx (pos 1060) D (dn 4064674585562317 42) (dn 8124423359032197 43) (dn 8124423359032197 43)) (fx (pos 1209) G (dn 8141487779495281 43) (dn 1016542480344023 40) (dn 8141487779495281 43))
          (fx (pos 1060) D (dn 4064674585562317 42) (dn 8124423359032197 43) (dn 8124423359032197 43) ∷ fx (pos 1209) G (dn 8141487779495281 43) (dn 1016542480344023 40) (dn 8141487779495281 43) ∷ [])
          (map pos (940 ∷ 1060 ∷ 1120 ∷ 1180 ∷ 1209 ∷ 1326 ∷ []))
          ∷ kept Down (fx (pos 1209) G (dn 8141487779495281 43) (dn 1016542480344023 40) (dn 8141487779495281 43)) (fx (pos 1326) D (dn 4065114390213427 42) (dn 8121608609265091 43) (dn 8121608609265091 43))
          (fx (pos 1209) G (dn 8141487779495281 43) (dn 1016542480344023 40) (dn 8141487779495281 43) ∷ fx (pos 1326) D (dn 4065114390213427 42) (dn 8121608609265091 43) (dn 8121608609265091 43) ∷ [])
          (map pos (1180 ∷ 1209 ∷ 1326 ∷ 1446 ∷ []))
          ∷ kept Up (fx (pos 1326) D (dn 4065114390213427 42) (dn 8121608609265091 43) (dn 8121608609265091 43)) (fx (pos 1506) G (dn 8159255887400141 43) (dn 4073558639514747 42) (dn 8159255887400141 43))
          (fx (pos 1326) D (dn 4065114390213427 42) (dn 8121608609265091 43) (dn 8121608609265091 43) ∷ fx (pos 1506) G (dn 8159255887400141 43) (dn 4073558639514747 42) (dn 8159255887400141 43) ∷ [])
          (map pos (1209 ∷ 1326 ∷ 1446 ∷ 1506 ∷ 1566 ∷ []))
          ∷ [];
      measures =
          measured (dn 4075845623700521 42) (dn 1017004275227689 40) (dn 8016407336719483 52) (up 562949953428951 1) (dn 2941126287259635 56) (dn 734987459186865 54) (dn 8762203435012037 61) (dn 4215369251218637 54) (neg (dn 5314247560295219 54)) 4
          (map pos (640 ∷ 700 ∷ 760 ∷ 820 ∷ []))
          (fake Up (pos 640) (pos 820) (dn 4075845623700521 42) (dn 1017004275227689 40) (dn 8016407336719483 52) ∷ [])
          ∷ measured (dn 4075845623700521 42) (dn 8124423359032197 43) (dn 6980579422424269 51) (dn 4503605987646661 1) (dn 4800540262141599 51) (dn 1200096710703553 49) (neg (dn 3804640965202595 59)) (neg (dn 6423419811381189 54)) (neg (dn 3294061441788631 62)) 6
          (map pos (760 ∷ 820 ∷ 880 ∷ 940 ∷ 1000 ∷ 1060 ∷ []))
          (fake Down (pos 820) (pos 1060) (dn 4075845623700521 42) (dn 8124423359032197 43) (dn 6980579422424269 51) ∷ [])
          ∷ measured (dn 8141487779495281 43) (dn 8124423359032197 43) (dn 4368491638549381 51) (dn 4888464087622615 34) (dn 8393072032825141 53) (dn 1049113533195957 50) (dn 4842270319348757 60) (dn 2413929400270541 53) (neg (dn 8235153604346605 57)) 6
          (map pos (1060 ∷ 1120 ∷ 1180 ∷ 1209 ∷ 1269 ∷ []))
          (fake Up (pos 1060) (pos 1209) (dn 8141487779495281 43) (dn 8124423359032197 43) (dn 4368491638549381 51) ∷ [])
          ∷ measured (dn 8141487779495281 43) (dn 8121608609265091 43) (dn 1272266894732165 49) (up 50959 0) (dn 4939431849373693 53) (dn 617443508912495 50) (neg (dn 5534023222112865 60)) (neg (dn 1015948744065 41)) (neg (dn 4863887597554893 55)) 4
          (map pos (1209 ∷ 1269 ∷ 1326 ∷ 1386 ∷ []))
          (fake Down (pos 1209) (pos 1326) (dn 8141487779495281 43) (dn 8121608609265091 43) (dn 1272266894732165 49) ∷ [])
          ∷ measured (dn 8159255887400141 43) (dn 8121608609265091 43) (dn 4818851601286431 50) (dn 7533263621659623 4) (dn 6564568948370403 51) (dn 6564446816855235 51) (dn 662929865148937 56) (dn 3728980491462707 52) (dn 7836263351620403 53) 5
          (map pos (1326 ∷ 1386 ∷ 1446 ∷ 1506 ∷ []))
          (fake Up (pos 1326) (pos 1506) (dn 8159255887400141 43) (dn 8121608609265091 43) (dn 4818851601286431 50) ∷ [])
          ∷ [];
      fxs =
          fx (pos 820) G (dn 4075845623700521 42) (dn 4071623499049861 42) (dn 4075845623700521 42)
          ∷ fx (pos 1060) D (dn 4064674585562317 42) (dn 8124423359032197 43) (dn 8124423359032197 43)
          ∷ fx (pos 1209) G (dn 8141487779495281 43) (dn 1016542480344023 40) (dn 8141487779495281 43)
          ∷ fx (pos 1326) D (dn 4065114390213427 42) (dn 8121608609265091 43) (dn 8121608609265091 43)
          ∷ fx (pos 1506) G (dn 8159255887400141 43) (dn 4073558639514747 42) (dn 8159255887400141 43)
          ∷ [];
      finished = 4;
      extend = false;
      zones =
          zone (pos 640) (pos 1506) Up Up (dn 8141487779495281 43) (dn 1017004275227689 40) (dn 2034690247664599 41) (dn 8159255887400141 43) (dn 8121608609265091 43) true
          (stroke Up (dn 4075845623700521 42) (dn 1017004275227689 40) (pos 640) (pos 820)
          ∷ stroke Down (dn 4075845623700521 42) (dn 8124423359032197 43) (pos 820) (pos 1060)
          ∷ stroke Up (dn 8141487779495281 43) (dn 8124423359032197 43) (pos 1060) (pos 1209)
          ∷ stroke Down (dn 8141487779495281 43) (dn 8121608609265091 43) (pos 1209) (pos 1326)
          ∷ stroke Up (dn 8159255887400141 43) (dn 8121608609265091 43) (pos 1326) (pos 1506)
          ∷ [])
          ∷ [];
      fin_zones =
          zone (pos 640) (pos 1326) Up Down (dn 8141487779495281 43) (dn 1017004275227689 40) (dn 2034690247664599 41) (dn 4075845623700521 42) (dn 8121608609265091 43) true
          (stroke Up (dn 4075845623700521 42) (dn 1017004275227689 40) (pos 640) (pos 820)
          ∷ stroke Down (dn 4075845623700521 42) (dn 8124423359032197 43) (pos 820) (pos 1060)
          ∷ stroke Up (dn 8141487779495281 43) (dn 8124423359032197 43) (pos 1060) (pos 1209)
          ∷ stroke Down (dn 8141487779495281 43) (dn 8121608609265091 43) (pos 1209) (pos 1326)
          ∷ [])
          ∷ [];
      bis =
          (neither ∷ neither ∷ neither ∷ neither ∷ neither ∷ neither ∷ [])
          ∷ (neither ∷ neither ∷ neither ∷ falls ∷ neither ∷ [])
          ∷ (neither ∷ neither ∷ neither ∷ neither ∷ [])
          ∷ (neither ∷ neither ∷ neither ∷ [])
          ∷ (neither ∷ neither ∷ [])
          ∷ (neither ∷ [])
          ∷ [];
      answers =
          answers Weak (up 17592186044921 6) true
          ∷ answers Medium (dn 4503599627648083 1) true
          ∷ answers Medium (dn 4503599627648083 1) true
          ∷ answers Medium (dn 1667253805736051 19) false
          ∷ answers Medium (dn 1667257638281331 19) false
          ∷ answers Strong (dn 4288302537548759 34) true
          ∷ answers Strong (dn 5113039337595863 34) false
          ∷ answers Medium (dn 2444374636725535 33) false
          ∷ answers Medium (dn 2444374636725535 33) false
          ∷ answers Weak (dn 5445257579973881 1) false
          ∷ answers Weak (dn 5445257579973881 1) false
          ∷ [];
      ubifx =
          fx (pos 1506) G (dn 8159255887400141 43) (dn 4073558639514747 42) (dn 8159255887400141 43)
          ∷ [];
      unfinished = some (Down, (dn 8159255887400141 43), (dn 8124775202753085 43), (pos 1506), (pos 1446), 3, 18, 1, (pos 1506));
      gaps =
          Gaps.NoGap
          ∷ Gaps.NoGap
          ∷ Gaps.NoGap
          ∷ Gaps.NoGap
          ∷ Gaps.NoGap
          ∷ Gaps.NoGap
          ∷ Gaps.NoGap
          ∷ Gaps.Down (dn 4064674585562317 42) (dn 2034228452780933 41) (dn 4150517416584649 61) true
          ∷ Gaps.NoGap
          ∷ Gaps.NoGap
          ∷ Gaps.NoGap
          ∷ Gaps.NoGap
          ∷ Gaps.NoGap
          ∷ Gaps.NoGap
          ∷ Gaps.NoGap
          ∷ Gaps.Up (dn 4067225452538757 42) (dn 4073558639514747 42) (dn 7378697629483821 61) false
          ∷ Gaps.NoGap
          ∷ [];
    }
unfolding told run_12 settings bar fx kept measured fake stroke zone answers up dn neg neither rises falls
run_12_told = refl

unfoldable run_13 : List Bar
unfolding bar up dn
run_13 =
    bar (pos 0) (pos 0) (dn 1135751531027497 42) (dn 4528932375274455 44) (dn 2275021499263877 43) (dn 4526469469228237 44) (up 1 50) (dn 6820452046513111 38)
    ∷ bar (pos 1) (pos 1) (dn 2266049484381225 43) (dn 4526469469228237 44) (dn 2268336468566999 43) (dn 565104996211753 41) (up 15137 0) (up 939 0)
    ∷ bar (pos 2) (pos 2) (dn 2261651437870121 43) (dn 1131265523586171 42) (dn 4527173156670013 44) (dn 4515210470159811 44) (up 0 0) (up 4611 1)
    ∷ bar (pos 3) (pos 3) (dn 4522599188298465 44) (dn 4510988345509151 44) (dn 1131441445446615 42) (dn 1127131359865733 42) (up 19365 0) (dn 6158087000487363 36)
    ∷ bar (pos 4) (pos 4) (dn 4511340189230039 44) (dn 9005791879857439 45) (dn 2259716297405235 43) (dn 4495859065510953 44) (dn 4672468120722473 38) (up 9297 1)
    ∷ bar (pos 5) (pos 5) (dn 8997347630556119 45) (dn 4502544096207831 44) (dn 4505007002254049 44) (dn 8995236568230789 45) (up 4967 1) (up 8815 1)
    ∷ bar (pos 6) (pos 6) (dn 4500081190161613 44) (dn 4484951910163415 44) (dn 2250568360662139 43) (dn 8957237446374851 45) (up 1 50) (up 5429 1)
    ∷ bar (pos 6) (pos 7) (dn 2244235173686149 43) (dn 1122557391494185 42) (dn 4498321971557171 44) (dn 1120446329168855 42) (up 17629 0) (dn 1424392746570875 33)
    ∷ bar (pos 7) (pos 8) (dn 2244235173686149 43) (dn 1124844375679959 42) (dn 1124844375679959 42) (dn 8969200132885053 45) (up 963 2) (up 2239 0)
    ∷ bar (pos 8) (pos 9) (dn 4500081190161613 44) (dn 4489525878534963 44) (dn 2252679422987469 43) (dn 4489174034814075 44) (dn 7762585077447393 39) (up 1051 4)
    ∷ bar (pos 9) (pos 10) (dn 4489174034814075 44) (dn 8942460010097541 45) (dn 4495859065510953 44) (dn 8933312073354445 45) (dn 5802669179614003 35) (up 239 3)
    ∷ bar (pos 10) (pos 11) (dn 2235263158803497 43) (dn 8922756761727795 45) (dn 8948793197073531 45) (dn 8916423574751805 45) (up 3981 0) (up 2135 1)
    ∷ bar (pos 11) (pos 12) (dn 8916423574751805 45) (dn 8898127701265613 45) (dn 8931201011029115 45) (dn 8882646577546527 45) (up 7341 0) (up 7921 1)
    ∷ bar (pos 12) (pos 13) (dn 8891794514289623 45) (dn 4445545413423923 44) (dn 2224180081595515 43) (dn 8885461327313633 45) (up 447 5) (dn 8332647177945331 6)
    ∷ bar (pos 13) (pos 14) (dn 8882646577546527 45) (dn 2217670972759081 43) (dn 4447304632028365 44) (dn 8867869141269217 45) (dn 2503801638396763 14) (up 1 50)
    ∷ bar (pos 14) (pos 15) (dn 2217846894619525 43) (dn 8881239202662973 45) (dn 2222244941130629 43) (dn 2217670972759081 43) (up 1 50) (up 0 0)
    ∷ bar (pos 14) (pos 16) (dn 4445193569703035 44) (dn 8916423574751805 45) (dn 8922053074286019 45) (dn 8880535515221197 45) (up 0 0) (up 643 4)
    ∷ bar (pos 15) (pos 17) (dn 4458563631096791 44) (dn 8957941133816627 45) (dn 8971311195210383 45) (dn 4454341506446131 44) (dn 4017109712544727 37) (up 1047 0)
    ∷ bar (pos 16) (pos 18) (dn 509 1) (dn 8936126823121551 45) (dn 8960052196141957 45) (dn 8926978886378455 45) (dn 6722932924271821 35) (up 6619 0)
    ∷ bar (pos 17) (pos 19) (dn 2235439080663941 43) (dn 4478266879466537 44) (dn 2241948189500375 43) (dn 8934015760796221 45) (up 15389 0) (up 6151 0)
    ∷ bar (pos 18) (pos 20) (dn 8966385383117947 45) (dn 4480377941791867 44) (dn 2244059251825705 43) (dn 8955830071491297 45) (up 15 6) (up 3039 0)
    ∷ bar (pos 19) (pos 21) (dn 509 1) (dn 8938237885446881 45) (dn 4484951910163415 44) (dn 4460674693422121 44) (up 93 6) (up 9163 0)
    ∷ bar (pos 19) (pos 22) (up 127 0) (dn 8909386700334039 45) (dn 8953015321724191 45) (dn 8902349825916273 45) (up 3215 1) (dn 6990551992888197 38)
    ∷ bar (pos 20) (pos 23) (dn 8919942011960689 45) (dn 8931201011029115 45) (dn 2235439080663941 43) (dn 8913608824984699 45) (dn 5285858170068009 36) (up 11307 0)
    ∷ bar (pos 21) (pos 24) (dn 4467359724118999 44) (dn 8962163258467287 45) (dn 4489525878534963 44) (dn 4465248661793669 44) (up 1 50) (up 0 0)
    ∷ bar (pos 22) (pos 25) (dn 2241772267639931 43) (dn 4495859065510953 44) (dn 2250568360662139 43) (dn 8960052196141957 45) (dn 2564433575537541 36) (dn 3429699748574003 34)
    ∷ bar (pos 22) (pos 26) (dn 8997347630556119 45) (dn 564093445514199 41) (dn 4520488125973135 44) (dn 1122557391494185 42) (dn 5110966915367971 5) (dn 3870275432213381 38)
    ∷ bar (pos 23) (pos 27) (dn 4518025219926917 44) (dn 1127043398935511 42) (dn 4526469469228237 44) (up 1 7) (up 8299 0) (dn 8038320603461059 38)
    ∷ bar (pos 24) (pos 28) (dn 2252679422987469 43) (dn 2250568360662139 43) (dn 4513451251555369 44) (dn 4500081190161613 44) (up 14443 0) (dn 4693331353859523 37)
    ∷ bar (pos 25) (pos 29) (dn 8993125505905459 45) (dn 2241772267639931 43) (dn 1124756414749737 42) (dn 2241772267639931 43) (up 5841 0) (dn 4639351517688627 35)
    ∷ bar (pos 26) (pos 30) (dn 8974829632419267 45) (dn 4506766220858491 44) (dn 4511340189230039 44) (dn 4480377941791867 44) (up 0 0) (dn 467528621706983 18)
    ∷ bar (pos 27) (pos 31) (dn 1127043398935511 42) (up 1 7) (dn 1127043398935511 42) (dn 8990310756138353 45) (dn 4281164885860657 50) (dn 5371345199127593 38)
    ∷ bar (pos 28) (pos 32) (dn 2250744282522583 43) (dn 4506766220858491 44) (dn 2254966407173243 43) (dn 8988903381254799 45) (up 8683 1) (up 5737 0)
    ∷ bar (pos 28) (pos 33) (dn 4504655158533161 44) (dn 8968496445443277 45) (dn 4509580970625597 44) (dn 1120358368238633 42) (up 15723 0) (up 1905 2)
    ∷ bar (pos 29) (pos 34) (dn 8960052196141957 45) (dn 4463137599468339 44) (dn 2241948189500375 43) (dn 8917830949635359 45) (up 1 50) (up 18519 0)
    ∷ bar (pos 29) (pos 35) (dn 8929089948703785 45) (dn 8946682134748201 45) (dn 8948793197073531 45) (dn 2228578128106619 43) (dn 3983338212897587 38) (dn 4052019206726615 35)
    ∷ bar (pos 30) (pos 36) (dn 8950904259398861 45) (dn 8990310756138353 45) (dn 4495859065510953 44) (dn 4469470786444329 44) (up 1197 2) (up 2953 0)
    ∷ bar (pos 31) (pos 37) (dn 8986792318929469 45) (dn 1126955438005289 42) (dn 1129066500330619 42) (dn 8973422257535713 45) (up 153 6) (dn 5550657678553907 35)
    ∷ bar (pos 32) (pos 38) (dn 4509580970625597 44) (dn 4505007002254049 44) (dn 4517673376206029 44) (dn 2248633220197253 43) (dn 6319871890177393 35) (up 2679 0)
    ∷ bar (pos 33) (pos 39) (dn 2253031266708357 43) (dn 1131441445446615 42) (dn 4531395281320673 44) (dn 9003680817532109 45) (up 7915 0) (dn 6162524904294973 36)
    ∷ []

run_13_told : told (settings 5 1 64 64 64) run_13
    ≡ record {
      events = (9, 5, 3);
      raw = map pos (22 ∷ 23 ∷ 24 ∷ 25 ∷ 26 ∷ 27 ∷ 28 ∷ 29 ∷ 30 ∷ 31 ∷ 32 ∷ 33 ∷ []);
      ids = map pos (26 ∷ 27 ∷ 28 ∷ 29 ∷ 30 ∷ 31 ∷ 33 ∷ 35 ∷ 36 ∷ 37 ∷ 38 ∷ 39 ∷ []);
      ubi =
          (bar (pos 28) (pos 31) (dn 4509580970625597 44) (dn 8990310756138353 45) (dn 4509580970625597 44) (dn 8990310756138353 45) (dn 4322427934015993 37) (dn 1195060562619269 35), map pos (27 ∷ 28 ∷ []))
          ∷ (bar (pos 29) (pos 35) (dn 8929089948703785 45) (dn 8946682134748201 45) (dn 8948793197073531 45) (dn 2228578128106619 43) (dn 3983338212897587 38) (dn 4052019206726615 35), map pos (29 ∷ []))
          ∷ (bar (pos 30) (pos 36) (dn 8950904259398861 45) (dn 8990310756138353 45) (dn 4495859065510953 44) (dn 4469470786444329 44) (up 1197 2) (up 2953 0), map pos (30 ∷ []))
          ∷ (bar (pos 31) (pos 37) (dn 8986792318929469 45) (dn 1126955438005289 42) (dn 1129066500330619 42) (dn 8973422257535713 45) (up 153 6) (dn 5550657678553907 35), map pos (31 ∷ []))
          ∷ (bar (pos 32) (pos 38) (dn 4509580970625597 44) (dn 4505007002254049 44) (dn 4517673376206029 44) (dn 2248633220197253 43) (dn 6319871890177393 35) (up 2679 0), map pos (32 ∷ []))
          ∷ (bar (pos 33) (pos 39) (dn 2253031266708357 43) (dn 1131441445446615 42) (dn 4531395281320673 44) (dn 9003680817532109 45) (up 7915 0) (dn 6162524904294973 36), map pos (33 ∷ []))
          ∷ [];
      strokes =
          kept Down (fx (pos 23) G (dn 4526469469228237 44) (up 1 7) (dn 4526469469228237 44)) (fx (pos 29) D (dn 8948793197073531 45) (dn 2228578128106619 43) (dn 2228578128106619 43))
          (fx (pos 23) G (dn 4526469469228237 44) (up 1 7) (dn 4526469469228237 44) ∷ fx (pos 26) D (dn 1124756414749737 42) (dn 4480377941791867 44) (dn 4480377941791867 44) ∷ fx (pos 28) G (dn 4509580970625597 44) (dn 8990310756138353 45) (dn 4509580970625597 44) ∷ fx (pos 29) D (dn 8948793197073531 45) (dn 2228578128106619 43) (dn 2228578128106619 43) ∷ [])
          (map pos (22 ∷ 23 ∷ 24 ∷ 26 ∷ 28 ∷ 29 ∷ 30 ∷ []))
          ∷ [];
      measures =
          measured (dn 4526469469228237 44) (dn 2228578128106619 43) (dn 8872091265919877 51) (dn 7085466127322569 36) (dn 2508584002965151 51) (dn 5017009984890733 52) (neg (dn 8819849510242379 58)) (neg (dn 8646911284551351 55)) (neg (dn 7892022204150751 57)) 7
          (map pos (23 ∷ 24 ∷ 25 ∷ 26 ∷ 27 ∷ 28 ∷ 29 ∷ []))
          (fake Down (pos 23) (pos 26) (dn 4526469469228237 44) (dn 4480377941791867 44) (dn 2949857755927675 50) ∷ fake Up (pos 26) (pos 28) (dn 4509580970625597 44) (dn 4480377941791867 44) (dn 7475975381435023 52) ∷ fake Down (pos 28) (pos 29) (dn 4509580970625597 44) (dn 2228578128106619 43) (dn 6710363444782039 51) ∷ [])
          ∷ [];
      fxs =
          fx (pos 26) D (dn 1124756414749737 42) (dn 4480377941791867 44) (dn 4480377941791867 44)
          ∷ fx (pos 28) G (dn 4509580970625597 44) (dn 8990310756138353 45) (dn 4509580970625597 44)
          ∷ fx (pos 29) D (dn 8948793197073531 45) (dn 2228578128106619 43) (dn 2228578128106619 43)
          ∷ [];
      finished = 1;
      extend = false;
      zones =
          zone (pos 23) (pos 29) Down Down (dn 4526469469228237 44) (dn 2228578128106619 43) (dn 8983625725441475 45) (dn 4526469469228237 44) (dn 2228578128106619 43) true
          (stroke Down (dn 4526469469228237 44) (dn 2228578128106619 43) (pos 23) (pos 29)
          ∷ [])
          ∷ [];
      fin_zones =
          zone (pos 23) (pos 29) Down Down (dn 4526469469228237 44) (dn 2228578128106619 43) (dn 8983625725441475 45) (dn 4526469469228237 44) (dn 2228578128106619 43) true
          (stroke Down (dn 4526469469228237 44) (dn 2228578128106619 43) (pos 23) (pos 29)
          ∷ [])
          ∷ [];
      bis =
          (neither ∷ neither ∷ [])
          ∷ (neither ∷ [])
          ∷ [];
      answers =
          answers Medium (dn 5110966916823459 5) true
          ∷ answers Weak (dn 1237256424808511 34) false
          ∷ answers Strong (dn 3959829447462345 36) false
          ∷ answers Medium (dn 3815106229456329 36) false
          ∷ answers Medium (dn 3815106229456329 36) false
          ∷ [];
      ubifx =
          fx (pos 29) D (dn 8948793197073531 45) (dn 2228578128106619 43) (dn 2228578128106619 43)
          ∷ [];
      unfinished = some (Up, (dn 4531395281320673 44), (dn 2228578128106619 43), (pos 33), (pos 29), 6, 12, 1, (pos 29));
      gaps =
          Gaps.NoGap
          ∷ Gaps.NoGap
          ∷ Gaps.Down (dn 1124756414749737 42) (dn 4500081190161613 44) (dn 7378697629483821 64) true
          ∷ Gaps.NoGap
          ∷ Gaps.NoGap
          ∷ Gaps.NoGap
          ∷ Gaps.Down (dn 8948793197073531 45) (dn 1120358368238633 42) (dn 7378697629483821 61) true
          ∷ Gaps.NoGap
          ∷ Gaps.NoGap
          ∷ Gaps.NoGap
          ∷ Gaps.NoGap
          ∷ [];
    }
unfolding told run_13 settings bar fx kept measured fake stroke zone answers up dn neg neither rises falls
run_13_told = refl

unfoldable run_14 : List Bar
unfolding bar up dn
run_14 =
    bar (pos 0) (pos 0) (dn 1674688150498181 41) (dn 1672225244451963 41) (dn 3350343871228805 42) (dn 1671389615614853 41) (dn 605015979809833 32) (up 13085 0)
    ∷ bar (pos 70) (pos 1) (dn 3343834762392371 42) (dn 3341283895415931 42) (dn 3345769902857257 42) (dn 1519 1) (dn 2333242014344151 34) (dn 3121602846575821 35)
    ∷ bar (pos 140) (pos 2) (dn 1671213693754409 41) (dn 6690308352691405 43) (dn 6692771258737623 43) (dn 6683975165715415 43) (dn 1807412154569353 37) (up 4879 1)
    ∷ bar (pos 171) (pos 3) (dn 6690660196412293 43) (dn 1671301654684631 41) (dn 1673588638870405 41) (dn 835584856644649 40) (dn 3966459335021691 35) (up 0 0)
    ∷ bar (pos 211) (pos 4) (dn 6684327009436303 43) (dn 6690484274551849 43) (dn 3345681941927035 42) (dn 6682040025250529 43) (dn 6644354264208507 38) (up 11391 0)
    ∷ bar (pos 281) (pos 5) (dn 1521 1) (dn 6699280367574057 43) (dn 3349992027507917 42) (dn 3343834762392371 42) (up 1 50) (dn 3266982090383259 25)
    ∷ bar (pos 351) (pos 6) (dn 1674512228637737 41) (dn 1676887173753733 41) (dn 838883391527977 40) (dn 837234124086313 40) (up 0 0) (dn 2967999697785979 38)
    ∷ bar (pos 421) (pos 7) (dn 6707724616875377 43) (dn 839521108272087 40) (dn 6717224397339361 43) (dn 3352630855414579 42) (up 6767 0) (up 7537 1)
    ∷ bar (pos 491) (pos 8) (dn 3358964042390569 42) (dn 6708252382456709 43) (dn 6721622443850465 43) (dn 3352454933554135 42) (up 12369 0) (dn 3919136378021099 5)
    ∷ bar (pos 491) (pos 9) (dn 6707900538735821 43) (dn 3350343871228805 42) (dn 1677810763521065 41) (dn 837234124086313 40) (up 16911 0) (up 17761 0)
    ∷ bar (pos 561) (pos 10) (dn 6699808133155389 43) (dn 1673324756079739 41) (dn 6701743273620275 43) (dn 3345681941927035 42) (up 13593 0) (up 12697 0)
    ∷ bar (pos 561) (pos 11) (dn 6692947180598067 43) (dn 836134612458537 40) (dn 1673324756079739 41) (dn 6688725055947407 43) (up 5383 1) (up 1913 3)
    ∷ bar (pos 631) (pos 12) (dn 6690132430830961 43) (dn 1673588638870405 41) (dn 6696641539667395 43) (dn 3343482918671483 42) (dn 4045301271326647 6) (up 1 50)
    ∷ bar (pos 701) (pos 13) (dn 1673324756079739 41) (dn 6690484274551849 43) (dn 3348056887043031 42) (dn 3343834762392371 42) (up 17669 0) (up 14651 0)
    ∷ bar (pos 771) (pos 14) (dn 6693123102458511 43) (dn 3343746801462149 42) (dn 1673324756079739 41) (dn 1671301654684631 41) (up 637 1) (dn 7542186597270159 36)
    ∷ bar (pos 771) (pos 15) (dn 6688725055947407 43) (dn 3343482918671483 42) (dn 1521 1) (dn 1671213693754409 41) (dn 6769797545821471 36) (dn 3360838709715927 35)
    ∷ bar (pos 841) (pos 16) (dn 1671301654684631 41) (dn 6687845446645187 43) (dn 836134612458537 40) (dn 1671301654684631 41) (up 15465 0) (up 14577 0)
    ∷ bar (pos 841) (pos 17) (dn 6686438071761633 43) (dn 1669102631429079 41) (dn 1672225244451963 41) (dn 6673243932228321 43) (up 165 0) (up 14819 0)
    ∷ bar (pos 911) (pos 18) (dn 6677290135018537 43) (dn 6672892088507433 43) (dn 3339260794020823 42) (dn 3334950708439941 42) (up 1891 0) (up 7553 0)
    ∷ bar (pos 918) (pos 19) (dn 6670781026182103 43) (dn 6677114213158093 43) (dn 6677641978739425 43) (dn 833473794319319 40) (dn 3310871848829259 35) (up 197 0)
    ∷ bar (pos 988) (pos 20) (dn 6677466056878981 43) (dn 6687845446645187 43) (dn 6690660196412293 43) (dn 6676938291297649 43) (up 57 4) (up 571 1)
    ∷ bar (pos 1058) (pos 21) (dn 6685734384319857 43) (dn 6695058242923397 43) (dn 1674688150498181 41) (dn 3341459817276375 42) (up 775 4) (dn 4300382099870365 21)
    ∷ bar (pos 1128) (pos 22) (dn 761 0) (dn 6694530477342065 43) (dn 6694706399202509 43) (dn 836684368272425 40) (dn 7096543539416269 36) (dn 3418436626336973 39)
    ∷ bar (pos 1198) (pos 23) (dn 6696993383388283 43) (dn 1674600189567959 41) (dn 6698928523853169 43) (dn 6693123102458511 43) (up 6859 0) (up 2345 0)
    ∷ bar (pos 1268) (pos 24) (dn 6697345227109171 43) (dn 837783879900201 40) (dn 6706317241991823 43) (dn 3348144847973253 42) (up 1405 1) (dn 3230660312558469 34)
    ∷ bar (pos 1338) (pos 25) (dn 3350431832159027 42) (dn 6695410086644285 43) (dn 6704206179666493 43) (dn 6694882321062953 43) (up 14785 0) (dn 7567894553517097 42)
    ∷ bar (pos 1408) (pos 26) (dn 3348056887043031 42) (dn 3352542894484357 42) (dn 6706141320131379 43) (dn 6692771258737623 43) (up 1 50) (up 4579 2)
    ∷ bar (pos 1478) (pos 27) (dn 3352191050763469 42) (dn 3354741917739909 42) (dn 6710715288502927 43) (dn 6701391429899387 43) (up 4867 0) (up 0 0)
    ∷ bar (pos 1478) (pos 28) (dn 6710011601061151 43) (dn 6704030257806049 43) (dn 3356765019135017 42) (dn 6701743273620275 43) (up 15533 0) (up 7955 1)
    ∷ bar (pos 1548) (pos 29) (dn 6701743273620275 43) (dn 6712122663386481 43) (dn 1678822314218619 41) (dn 1674424267707515 41) (up 8477 1) (dn 6077701705380659 36)
    ∷ bar (pos 1618) (pos 30) (dn 3357028901925683 42) (dn 6710011601061151 43) (dn 839521108272087 40) (dn 3354478034949243 42) (dn 3865264358715211 45) (up 0 0)
    ∷ bar (pos 1688) (pos 31) (dn 3354390074019021 42) (dn 6715113335014031 43) (dn 6716872553618473 43) (dn 6705613554550047 43) (up 0 0) (up 151 2)
    ∷ bar (pos 1758) (pos 32) (dn 1678822314218619 41) (dn 6725844568501125 43) (dn 6727427865245123 43) (dn 6714937413153587 43) (up 2167 1) (dn 4357629838056489 35)
    ∷ bar (pos 1758) (pos 33) (dn 6723733506175795 43) (dn 6731825911756227 43) (dn 841632170597417 40) (dn 3360987143785677 42) (dn 4206943143859323 35) (up 8739 1)
    ∷ bar (pos 1828) (pos 34) (dn 1682296770962391 41) (dn 6723029818734019 43) (dn 1682384731892613 41) (up 191 1) (up 0 0) (dn 2507059340813271 34)
    ∷ bar (pos 1898) (pos 35) (dn 840620619899863 40) (dn 1683308321659945 41) (dn 3367672174482555 42) (dn 6720918756408689 43) (dn 2412213406217011 34) (up 2239 3)
    ∷ bar (pos 1968) (pos 36) (dn 3367584213552333 42) (dn 3367760135412777 42) (dn 6739390551755325 43) (dn 3365737034017669 42) (up 9787 1) (up 4755 2)
    ∷ bar (pos 2038) (pos 37) (dn 6734288817802445 43) (dn 6726196412222013 43) (dn 3367584213552333 42) (dn 6725668646640681 43) (up 1993 0) (dn 5768158146986187 12)
    ∷ bar (pos 2038) (pos 38) (dn 6727779708966011 43) (dn 3361163065646121 42) (dn 6728131552686899 43) (dn 839982903155753 40) (dn 275279 1) (up 2607 0)
    ∷ bar (pos 2108) (pos 39) (dn 6721094678269133 43) (dn 1680009786776617 41) (dn 840620619899863 40) (dn 3359139964251013 42) (dn 3231622728830157 36) (up 3259 0)
    ∷ []

run_14_told : told (settings 6 2 64 64 64) run_14
    ≡ record {
      events = (12, 9, 1);
      raw = map pos (351 ∷ 421 ∷ 491 ∷ 561 ∷ 631 ∷ 701 ∷ 771 ∷ 841 ∷ 911 ∷ 918 ∷ 988 ∷ 1058 ∷ 1128 ∷ 1198 ∷ 1268 ∷ 1338 ∷ 1408 ∷ 1478 ∷ 1548 ∷ 1618 ∷ 1688 ∷ 1758 ∷ 1828 ∷ 1898 ∷ 1968 ∷ 2038 ∷ 2108 ∷ []);
      ids = map pos (6 ∷ 7 ∷ 9 ∷ 11 ∷ 12 ∷ 13 ∷ 15 ∷ 17 ∷ 18 ∷ 19 ∷ 20 ∷ 21 ∷ 22 ∷ 23 ∷ 24 ∷ 25 ∷ 26 ∷ 28 ∷ 29 ∷ 30 ∷ 31 ∷ 33 ∷ 34 ∷ 35 ∷ 36 ∷ 38 ∷ 39 ∷ []);
      ubi =
          (bar (pos 1898) (pos 35) (dn 840620619899863 40) (dn 1683308321659945 41) (dn 3367672174482555 42) (dn 6720918756408689 43) (dn 2412213406217011 34) (up 2239 3), map pos (1898 ∷ []))
          ∷ (bar (pos 1968) (pos 36) (dn 3367584213552333 42) (dn 3367760135412777 42) (dn 6739390551755325 43) (dn 3365737034017669 42) (up 9787 1) (up 4755 2), map pos (1968 ∷ []))
          ∷ (bar (pos 2038) (pos 38) (dn 6727779708966011 43) (dn 3361163065646121 42) (dn 6728131552686899 43) (dn 839982903155753 40) (dn 275279 1) (up 2607 0), map pos (2038 ∷ []))
          ∷ (bar (pos 2108) (pos 39) (dn 6721094678269133 43) (dn 1680009786776617 41) (dn 840620619899863 40) (dn 3359139964251013 42) (dn 3231622728830157 36) (up 3259 0), map pos (2108 ∷ []))
          ∷ [];
      strokes =
          kept Down (fx (pos 421) G (dn 6717224397339361 43) (dn 3352630855414579 42) (dn 6717224397339361 43)) (fx (pos 918) D (dn 6677641978739425 43) (dn 833473794319319 40) (dn 833473794319319 40))
          (fx (pos 421) G (dn 6717224397339361 43) (dn 3352630855414579 42) (dn 6717224397339361 43) ∷ fx (pos 631) D (dn 1673324756079739 41) (dn 3343482918671483 42) (dn 3343482918671483 42) ∷ fx (pos 701) G (dn 3348056887043031 42) (dn 3343834762392371 42) (dn 3348056887043031 42) ∷ fx (pos 918) D (dn 6677641978739425 43) (dn 833473794319319 40) (dn 833473794319319 40) ∷ [])
          (map pos (351 ∷ 421 ∷ 491 ∷ 631 ∷ 701 ∷ 771 ∷ 841 ∷ 911 ∷ 918 ∷ 988 ∷ []))
          ∷ kept Up (fx (pos 918) D (dn 6677641978739425 43) (dn 833473794319319 40) (dn 833473794319319 40)) (fx (pos 1968) G (dn 6739390551755325 43) (dn 3365737034017669 42) (dn 6739390551755325 43))
          (fx (pos 918) D (dn 6677641978739425 43) (dn 833473794319319 40) (dn 833473794319319 40) ∷ fx (pos 1268) G (dn 6706317241991823 43) (dn 3348144847973253 42) (dn 6706317241991823 43) ∷ fx (pos 1408) D (dn 6704206179666493 43) (dn 6692771258737623 43) (dn 6692771258737623 43) ∷ fx (pos 1758) G (dn 841632170597417 40) (dn 3360987143785677 42) (dn 841632170597417 40) ∷ fx (pos 1828) D (dn 1682384731892613 41) (up 191 1) (up 191 1) ∷ fx (pos 1968) G (dn 6739390551755325 43) (dn 3365737034017669 42) (dn 6739390551755325 43) ∷ [])
          (map pos (911 ∷ 918 ∷ 988 ∷ 1198 ∷ 1268 ∷ 1408 ∷ 1548 ∷ 1688 ∷ 1758 ∷ 1828 ∷ 1898 ∷ 1968 ∷ 2038 ∷ []))
          ∷ [];
      measures =
          measured (dn 6717224397339361 43) (dn 833473794319319 40) (dn 6327557476455547 50) (dn 1011325322683031 4) (dn 2808696541801063 51) (dn 5617790175181957 52) (neg (dn 2132904783522667 57)) (neg (dn 2323857407723153 52)) (dn 3558038666643 46) 10
          (map pos (421 ∷ 491 ∷ 561 ∷ 631 ∷ 701 ∷ 771 ∷ 841 ∷ 911 ∷ 918 ∷ []))
          (fake Down (pos 421) (pos 631) (dn 6717224397339361 43) (dn 3343482918671483 42) (dn 7746191359077253 51) ∷ fake Up (pos 631) (pos 701) (dn 3348056887043031 42) (dn 3343482918671483 42) (dn 1170935903116329 50) ∷ fake Down (pos 701) (pos 918) (dn 3348056887043031 42) (dn 833473794319319 40) (dn 7250795400066499 51) ∷ [])
          ∷ measured (dn 6739390551755325 43) (dn 833473794319319 40) (dn 572801577606185 46) (dn 2251799814327487 0) (dn 3002399751580315 51) (dn 6005099743135819 52) (dn 6168130049646631 58) (dn 3484991358709349 53) (dn 4369879302273573 59) 13
          (map pos (918 ∷ 988 ∷ 1058 ∷ 1128 ∷ 1198 ∷ 1268 ∷ 1338 ∷ 1408 ∷ 1478 ∷ 1548 ∷ 1618 ∷ 1688 ∷ 1758 ∷ 1828 ∷ 1898 ∷ 1968 ∷ []))
          (fake Up (pos 918) (pos 1268) (dn 6706317241991823 43) (dn 833473794319319 40) (dn 4931441591970693 50) ∷ fake Down (pos 1268) (pos 1408) (dn 6706317241991823 43) (dn 6692771258737623 43) (dn 1733885856537641 50) ∷ fake Up (pos 1408) (pos 1758) (dn 841632170597417 40) (dn 6692771258737623 43) (dn 2578310786669609 49) ∷ fake Down (pos 1758) (pos 1828) (dn 841632170597417 40) (up 191 1) (dn 1643813863990231 50) ∷ fake Up (pos 1828) (pos 1968) (dn 6739390551755325 43) (up 191 1) (dn 4908923593833841 51) ∷ [])
          ∷ [];
      fxs =
          fx (pos 631) D (dn 1673324756079739 41) (dn 3343482918671483 42) (dn 3343482918671483 42)
          ∷ fx (pos 701) G (dn 3348056887043031 42) (dn 3343834762392371 42) (dn 3348056887043031 42)
          ∷ fx (pos 918) D (dn 6677641978739425 43) (dn 833473794319319 40) (dn 833473794319319 40)
          ∷ fx (pos 1268) G (dn 6706317241991823 43) (dn 3348144847973253 42) (dn 6706317241991823 43)
          ∷ fx (pos 1408) D (dn 6704206179666493 43) (dn 6692771258737623 43) (dn 6692771258737623 43)
          ∷ fx (pos 1758) G (dn 841632170597417 40) (dn 3360987143785677 42) (dn 841632170597417 40)
          ∷ fx (pos 1828) D (dn 1682384731892613 41) (up 191 1) (up 191 1)
          ∷ fx (pos 1968) G (dn 6739390551755325 43) (dn 3365737034017669 42) (dn 6739390551755325 43)
          ∷ [];
      finished = 1;
      extend = false;
      zones =
          zone (pos 421) (pos 1968) Down Up (dn 6717224397339361 43) (dn 833473794319319 40) (dn 1673126843986739 41) (dn 6739390551755325 43) (dn 833473794319319 40) true
          (stroke Down (dn 6717224397339361 43) (dn 833473794319319 40) (pos 421) (pos 918)
          ∷ stroke Up (dn 6739390551755325 43) (dn 833473794319319 40) (pos 918) (pos 1968)
          ∷ [])
          ∷ [];
      fin_zones =
          zone (pos 421) (pos 918) Down Down (dn 6717224397339361 43) (dn 833473794319319 40) (dn 1673126843986739 41) (dn 6717224397339361 43) (dn 833473794319319 40) true
          (stroke Down (dn 6717224397339361 43) (dn 833473794319319 40) (pos 421) (pos 918)
          ∷ [])
          ∷ [];
      bis =
          (neither ∷ neither ∷ neither ∷ [])
          ∷ (neither ∷ neither ∷ [])
          ∷ (neither ∷ [])
          ∷ [];
      answers =
          answers Medium (up 11839 1) true
          ∷ answers Weak (dn 4045301277130935 6) false
          ∷ answers Medium (dn 8090602562542385 7) true
          ∷ answers Strong (dn 3503492542120267 35) true
          ∷ answers Strong (dn 3503492542120267 35) true
          ∷ answers Weak (dn 4503599627724449 1) true
          ∷ answers Strong (up 562949953446353 1) true
          ∷ answers Weak (dn 4210717816084631 35) false
          ∷ answers Strong (dn 282230311134167 30) true
          ∷ answers Medium (dn 3153249883599667 34) true
          ∷ answers Medium (dn 5449399529583411 34) false
          ∷ [];
      ubifx =
          fx (pos 1968) G (dn 6739390551755325 43) (dn 3365737034017669 42) (dn 6739390551755325 43)
          ∷ [];
      unfinished = some (Down, (dn 6739390551755325 43), (dn 3359139964251013 42), (pos 1968), (pos 2108), 4, 27, 1, (pos 1968));
      gaps =
          Gaps.NoGap
          ∷ Gaps.NoGap
          ∷ Gaps.Down (dn 1673324756079739 41) (dn 837234124086313 40) (dn 6456360425798343 62) true
          ∷ Gaps.NoGap
          ∷ Gaps.NoGap
          ∷ Gaps.NoGap
          ∷ Gaps.NoGap
          ∷ Gaps.NoGap
          ∷ Gaps.NoGap
          ∷ Gaps.NoGap
          ∷ Gaps.NoGap
          ∷ Gaps.NoGap
          ∷ Gaps.NoGap
          ∷ Gaps.NoGap
          ∷ Gaps.NoGap
          ∷ Gaps.NoGap
          ∷ Gaps.NoGap
          ∷ Gaps.NoGap
          ∷ Gaps.NoGap
          ∷ Gaps.NoGap
          ∷ Gaps.Up (dn 6716872553618473 43) (dn 3360987143785677 42) (dn 7378697629483821 62) false
          ∷ Gaps.NoGap
          ∷ Gaps.NoGap
          ∷ Gaps.NoGap
          ∷ Gaps.Down (dn 6728131552686899 43) (dn 3365737034017669 42) (dn 1152921504606847 60) false
          ∷ Gaps.NoGap
          ∷ [];
    }
unfolding told run_14 settings bar fx kept measured fake stroke zone answers up dn neg neither rises falls
run_14_told = refl

unfoldable run_15 : List Bar
unfolding bar up dn
run_15 =
    bar (pos 1099511624976) (pos 2147483607) (dn 4503599627370497 71) (up 1 1) (up 1 30) (up 1 30) (up 19937 0) (dn 4673428131812475 35)
    ∷ bar (pos 1099511624976) (pos 2147483608) (dn 1 19) (dn 4503599627370497 71) (up 1 30) (dn 3 0) (dn 5825227035047363 35) (up 0 0)
    ∷ bar (pos 1099511624977) (pos 2147483609) (dn 9007199254740991 22) (up 1 1) (dn 9007199254740991 22) (dn 9007199254740991 22) (up 4949 0) (up 2705 0)
    ∷ bar (pos 1099511624978) (pos 2147483610) (up 1 1) (up 1 30) (dn 3 0) (up 1 0) (up 6773 1) (up 3749 1)
    ∷ bar (pos 1099511624978) (pos 2147483611) (dn 4503599627370497 71) (dn 9007199254740991 22) (dn 3 0) (dn 1 19) (up 7989 1) (up 1 50)
    ∷ bar (pos 1099511624979) (pos 2147483612) (dn 4503599627370497 71) (dn 9007199254740991 22) (dn 9007199254740991 22) (dn 3 0) (up 6823 0) (up 16639 0)
    ∷ bar (pos 1099511624980) (pos 2147483613) (up 1 0) (dn 4503599627370497 71) (dn 9007199254740991 22) (dn 3 0) (dn 2944684553718989 35) (up 121 5)
    ∷ bar (pos 1099511624981) (pos 2147483614) (dn 9007199254740991 22) (dn 1 19) (up 1 30) (up 1 0) (up 2299 0) (dn 2894426564408115 35)
    ∷ bar (pos 1099511624982) (pos 2147483615) (dn 1 19) (dn 3 0) (up 1 1) (up 1 0) (up 2405 3) (up 2089 1)
    ∷ bar (pos 1099511624982) (pos 2147483616) (up 1 0) (up 1 0) (dn 9007199254740991 22) (up 1 0) (dn 5158736071638385 35) (dn 6584439126831923 36)
    ∷ bar (pos 1099511624983) (pos 2147483617) (up 1 0) (up 1 30) (up 1 30) (dn 9007199254740991 22) (up 10827 0) (up 17853 0)
    ∷ bar (pos 1099511624983) (pos 2147483618) (up 1 1) (up 1 30) (dn 9007199254740991 22) (dn 1 19) (up 10937 0) (up 561 0)
    ∷ bar (pos 1099511624984) (pos 2147483619) (dn 4503599627370497 71) (dn 1 19) (up 1 30) (dn 4503599627370497 71) (up 1 50) (dn 4417333264864419 37)
    ∷ bar (pos 1099511624985) (pos 2147483620) (dn 9007199254740991 22) (up 1 1) (up 1 30) (dn 9007199254740991 22) (up 3085 1) (up 6761 1)
    ∷ bar (pos 1099511624986) (pos 2147483621) (up 1 1) (dn 3 0) (dn 9007199254740991 22) (up 1 1) (dn 7148861243250803 47) (dn 6301147207156367 35)
    ∷ bar (pos 1099511624986) (pos 2147483622) (up 1 1) (dn 1 19) (up 1 1) (up 1 1) (up 0 0) (up 2245 2)
    ∷ bar (pos 1099511624987) (pos 2147483623) (up 1 30) (dn 1 19) (up 1 30) (dn 1 19) (up 14943 0) (up 1 50)
    ∷ bar (pos 1099511624988) (pos 2147483624) (dn 1 19) (dn 4503599627370497 71) (up 1 30) (dn 9007199254740991 22) (up 8581 0) (up 1 50)
    ∷ bar (pos 1099511624989) (pos 2147483625) (dn 9007199254740991 22) (dn 1 19) (dn 9007199254740991 22) (dn 3 0) (up 11955 0) (up 4081 0)
    ∷ bar (pos 1099511624989) (pos 2147483626) (dn 4503599627370497 71) (dn 1 19) (dn 9007199254740991 22) (dn 3 0) (dn 6642363460967465 35) (up 3875 0)
    ∷ bar (pos 1099511624990) (pos 2147483627) (dn 3 0) (dn 9007199254740991 22) (dn 9007199254740991 22) (dn 9007199254740991 22) (up 6421 1) (up 4375 1)
    ∷ bar (pos 1099511624991) (pos 2147483628) (dn 4503599627370497 71) (dn 3 0) (up 1 0) (dn 4503599627370497 71) (up 11873 0) (dn 1025527551927255 34)
    ∷ bar (pos 1099511624992) (pos 2147483629) (dn 1 19) (up 1 30) (up 1 30) (up 1 1) (up 75 0) (up 257 3)
    ∷ bar (pos 1099511624993) (pos 2147483630) (up 1 0) (dn 9007199254740991 22) (dn 3 0) (up 1 0) (up 0 0) (up 209 6)
    ∷ bar (pos 1099511624994) (pos 2147483631) (up 1 1) (dn 1 19) (up 1 1) (dn 3 0) (up 1 50) (up 5713 0)
    ∷ bar (pos 1099511624995) (pos 2147483632) (dn 3 0) (up 1 0) (up 1 1) (dn 1 19) (up 19689 0) (dn 7288882482852659 36)
    ∷ bar (pos 1099511624996) (pos 2147483633) (dn 9007199254740991 22) (up 1 30) (up 1 30) (up 1 0) (up 15363 0) (up 0 0)
    ∷ bar (pos 1099511624996) (pos 2147483634) (up 1 30) (up 1 0) (dn 3 0) (up 1 0) (up 8543 0) (dn 8244154677738865 36)
    ∷ bar (pos 1099511624997) (pos 2147483635) (up 1 0) (up 1 30) (up 1 30) (dn 1 19) (dn 6755432426404577 37) (up 1743 0)
    ∷ bar (pos 1099511624998) (pos 2147483636) (dn 1 19) (dn 1 19) (up 1 0) (up 1 0) (up 7915 0) (up 1495 3)
    ∷ bar (pos 1099511624999) (pos 2147483637) (dn 1 19) (dn 4503599627370497 71) (up 1 30) (dn 3 0) (up 16315 0) (up 0 0)
    ∷ bar (pos 1099511625000) (pos 2147483638) (dn 4503599627370497 71) (dn 3 0) (up 1 1) (up 1 0) (up 0 0) (up 10929 0)
    ∷ bar (pos 1099511625001) (pos 2147483639) (dn 9007199254740991 22) (dn 3 0) (up 1 0) (up 1 0) (dn 5412538402262221 37) (dn 3663352841424077 41)
    ∷ bar (pos 1099511625002) (pos 2147483640) (up 1 0) (dn 3 0) (up 1 30) (up 1 0) (up 16721 0) (dn 1266775864943575 33)
    ∷ bar (pos 1099511625002) (pos 2147483641) (dn 3 0) (up 1 30) (up 1 0) (dn 1 19) (up 0 0) (up 1 50)
    ∷ bar (pos 1099511625002) (pos 2147483642) (up 1 30) (dn 3 0) (up 1 30) (dn 4503599627370497 71) (dn 1273016026116731 51) (up 0 0)
    ∷ bar (pos 1099511625003) (pos 2147483643) (dn 1 19) (dn 9007199254740991 22) (dn 9007199254740991 22) (up 1 1) (dn 6089330415233925 36) (up 157 4)
    ∷ bar (pos 1099511625004) (pos 2147483644) (up 1 0) (dn 1 19) (up 1 30) (dn 4503599627370497 71) (up 1431 1) (up 9895 0)
    ∷ bar (pos 1099511625005) (pos 2147483645) (dn 3 0) (dn 4503599627370497 71) (up 1 30) (dn 4503599627370497 71) (up 12169 0) (up 1439 3)
    ∷ bar (pos 1099511625006) (pos 2147483646) (up 1 1) (dn 3 0) (up 1 30) (up 1 1) (up 1 50) (up 17473 0)
    ∷ []

run_15_told : told (settings 3 1 64 64 64) run_15
    ≡ record {
      events = (13, 1, 11);
      raw = map pos (1099511624997 ∷ 1099511624998 ∷ 1099511624999 ∷ 1099511625000 ∷ 1099511625001 ∷ 1099511625002 ∷ 1099511625003 ∷ 1099511625004 ∷ 1099511625005 ∷ 1099511625006 ∷ []);
      ids = map pos (2147483635 ∷ 2147483636 ∷ 2147483637 ∷ 2147483638 ∷ 2147483639 ∷ 2147483642 ∷ 2147483643 ∷ 2147483644 ∷ 2147483645 ∷ 2147483646 ∷ []);
      ubi =
          (bar (pos 1099511624999) (pos 2147483637) (dn 1 19) (dn 4503599627370497 71) (up 1 30) (dn 3 0) (up 16315 0) (up 0 0), map pos (1099511624999 ∷ []))
          ∷ (bar (pos 1099511625002) (pos 2147483638) (up 1 0) (dn 4503599627370497 71) (up 1 0) (dn 4503599627370497 71) (dn 1353154025248571 35) (dn 3233100197579981 37), map pos (1099511625000 ∷ 1099511625001 ∷ 1099511625002 ∷ []))
          ∷ (bar (pos 1099511625006) (pos 2147483643) (up 1 30) (up 1 1) (up 1 30) (up 1 1) (dn 4503599627607843 1) (up 2587 4), map pos (1099511625003 ∷ 1099511625004 ∷ 1099511625005 ∷ 1099511625006 ∷ []))
          ∷ [];
      strokes =
          kept Down (fx (pos 1099511624999) G (up 1 30) (dn 3 0) (up 1 30)) (fx (pos 1099511625002) D (up 1 0) (dn 4503599627370497 71) (dn 4503599627370497 71))
          (fx (pos 1099511624999) G (up 1 30) (dn 3 0) (up 1 30) ∷ fx (pos 1099511625002) D (up 1 0) (dn 4503599627370497 71) (dn 4503599627370497 71) ∷ [])
          (map pos (1099511624997 ∷ 1099511624999 ∷ 1099511625002 ∷ 1099511625003 ∷ []))
          ∷ [];
      measures =
          measured (up 1 30) (dn 4503599627370497 71) (up 1 30) (dn 2474312288196411 35) (dn 12884893705 63) (up 0 0) (neg (up 1 0)) (dn 4053237087653069 52) (neg (dn 1572863 21)) 4
          (map pos (1099511624999 ∷ 1099511625000 ∷ 1099511625001 ∷ 1099511625002 ∷ []))
          (fake Down (pos 1099511624999) (pos 1099511625002) (up 1 30) (dn 4503599627370497 71) (up 1 30) ∷ [])
          ∷ [];
      fxs =
          fx (pos 1099511625002) D (up 1 0) (dn 4503599627370497 71) (dn 4503599627370497 71)
          ∷ [];
      finished = 0;
      extend = false;
      zones =
          zone (pos 1099511624999) (pos 1099511625002) Down Down (up 1 30) (dn 4503599627370497 71) (dn 1125899906842625 20) (up 1 30) (dn 4503599627370497 71) true
          (stroke Down (up 1 30) (dn 4503599627370497 71) (pos 1099511624999) (pos 1099511625002)
          ∷ [])
          ∷ [];
      fin_zones = [];
      bis =
          (neither ∷ neither ∷ [])
          ∷ (neither ∷ [])
          ∷ [];
      answers =
          answers Medium (dn 5294155542918643 35) false
          ∷ answers Medium (dn 2759488747906687 34) false
          ∷ answers Medium (dn 4503599627751867 1) false
          ∷ [];
      ubifx =
          fx (pos 1099511625002) D (up 1 0) (dn 4503599627370497 71) (dn 4503599627370497 71)
          ∷ [];
      unfinished = some (Up, (up 1 30), (dn 4503599627370497 71), (pos 1099511625006), (pos 1099511625002), 3, 10, 1, (pos 1099511625002));
      gaps =
          Gaps.NoGap
          ∷ Gaps.Up (up 1 0) (dn 3 0) (dn 1 0) true
          ∷ Gaps.NoGap
          ∷ Gaps.NoGap
          ∷ Gaps.NoGap
          ∷ Gaps.NoGap
          ∷ Gaps.NoGap
          ∷ Gaps.NoGap
          ∷ Gaps.NoGap
          ∷ [];
    }
unfolding told run_15 settings bar fx kept measured fake stroke zone answers up dn neg neither rises falls
run_15_told = refl

unfoldable run_16 : List Bar
unfolding bar up dn
run_16 =
    bar (negsuc 1099511627775) (pos 0) (up 981 0) (up 973 0) (up 981 0) (up 973 0) (up 1993 1) (up 7521 1)
    ∷ bar (negsuc 1099511627746) (pos 1) (dn 3935 1) (dn 1985 0) (dn 1985 0) (dn 3935 1) (up 18279 0) (up 1 50)
    ∷ bar (negsuc 1099511627676) (pos 2) (up 983 0) (up 975 0) (up 983 0) (up 975 0) (up 3651 1) (up 1 50)
    ∷ bar (negsuc 1099511627606) (pos 3) (dn 3963 1) (dn 3963 1) (dn 3963 1) (up 495 1) (dn 2363510882262057 34) (dn 1991925430097019 34)
    ∷ bar (negsuc 1099511627606) (pos 4) (dn 2003 0) (up 505 1) (up 505 1) (dn 2003 0) (dn 6383430534210519 35) (dn 1248827368412283 33)
    ∷ bar (negsuc 1099511627536) (pos 5) (dn 3963 1) (dn 3963 1) (up 991 0) (dn 3963 1) (dn 8087835895773383 17) (up 0 0)
    ∷ bar (negsuc 1099511627466) (pos 6) (dn 2021 0) (dn 2021 0) (dn 2021 0) (dn 4019 1) (up 6515 1) (up 1 50)
    ∷ bar (negsuc 1099511627466) (pos 7) (dn 2021 0) (dn 4019 1) (dn 2021 0) (dn 4019 1) (dn 1640487325920133 33) (up 8895 0)
    ∷ bar (negsuc 1099511627466) (pos 8) (dn 2021 0) (dn 2021 0) (dn 2021 0) (dn 4019 1) (up 225 5) (dn 4159861368763187 35)
    ∷ bar (negsuc 1099511627396) (pos 9) (dn 2021 0) (dn 2021 0) (dn 2021 0) (dn 4019 1) (up 933 4) (up 4329 2)
    ∷ bar (negsuc 1099511627326) (pos 10) (dn 2013 0) (dn 4029 1) (dn 4029 1) (dn 2013 0) (up 18831 0) (up 1261 1)
    ∷ bar (negsuc 1099511627256) (pos 11) (up 7 0) (dn 2021 0) (dn 2021 0) (dn 2013 0) (up 14467 0) (up 5935 0)
    ∷ bar (negsuc 1099511627186) (pos 12) (dn 2013 0) (up 1011 0) (up 1011 0) (dn 2013 0) (dn 1027417634439545 8) (up 6621 0)
    ∷ bar (negsuc 1099511627186) (pos 13) (dn 4039 1) (dn 4039 1) (dn 4039 1) (dn 2019 0) (up 3497 1) (up 4137 2)
    ∷ bar (negsuc 1099511627116) (pos 14) (up 1011 0) (dn 2019 0) (up 1011 0) (dn 2019 0) (dn 816197374270505 32) (up 8101 1)
    ∷ bar (negsuc 1099511627046) (pos 15) (dn 2019 0) (dn 2019 0) (up 1011 0) (dn 2019 0) (up 1 50) (up 817 0)
    ∷ bar (negsuc 1099511627046) (pos 16) (up 1011 0) (up 1011 0) (up 1011 0) (dn 4037 1) (up 19611 0) (dn 3622382976588841 35)
    ∷ bar (negsuc 1099511626995) (pos 17) (up 1011 0) (dn 2021 0) (up 1011 0) (dn 2021 0) (up 507 4) (dn 718862677924905 32)
    ∷ bar (negsuc 1099511626925) (pos 18) (dn 4045 1) (dn 4041 1) (dn 4045 1) (dn 4041 1) (dn 5822309893259919 40) (dn 2701672898929623 34)
    ∷ bar (negsuc 1099511626855) (pos 19) (up 505 1) (dn 4047 1) (dn 4047 1) (up 505 1) (dn 4719796598740091 39) (dn 5328050537285139 39)
    ∷ bar (negsuc 1099511626785) (pos 20) (dn 4047 1) (dn 4047 1) (dn 4047 1) (dn 2023 0) (dn 7419342286267351 37) (up 15079 0)
    ∷ bar (negsuc 1099511626715) (pos 21) (dn 4047 1) (dn 4047 1) (dn 4047 1) (dn 2023 0) (dn 5347301628607201 37) (dn 3299261935391867 34)
    ∷ bar (negsuc 1099511626645) (pos 22) (dn 4047 1) (dn 4047 1) (dn 4047 1) (dn 2023 0) (dn 1538071769162711 33) (up 1713 1)
    ∷ bar (negsuc 1099511626575) (pos 23) (dn 2023 0) (dn 2023 0) (dn 2023 0) (dn 2023 0) (up 8719 1) (dn 6308874712315331 35)
    ∷ bar (negsuc 1099511626505) (pos 24) (dn 4047 1) (dn 2023 0) (dn 4047 1) (dn 2023 0) (up 4991 0) (dn 3485947102343293 15)
    ∷ bar (negsuc 1099511626435) (pos 25) (dn 4045 1) (dn 4045 1) (dn 4049 1) (dn 4045 1) (dn 3411847802907525 34) (dn 3094905329863885 39)
    ∷ bar (negsuc 1099511626365) (pos 26) (up 1011 0) (dn 2025 0) (dn 2025 0) (up 1011 0) (dn 2236244632866025 23) (up 8773 1)
    ∷ bar (negsuc 1099511626295) (pos 27) (dn 2025 0) (dn 2025 0) (dn 2025 0) (dn 4047 1) (dn 213704170563865 5) (up 9585 1)
    ∷ bar (negsuc 1099511626225) (pos 28) (dn 4047 1) (dn 4047 1) (dn 2025 0) (dn 4047 1) (up 13445 0) (up 15921 0)
    ∷ bar (negsuc 1099511626155) (pos 29) (up 253 2) (up 253 2) (up 253 2) (dn 4047 1) (dn 8727357052797583 36) (up 12349 0)
    ∷ bar (negsuc 1099511626085) (pos 30) (dn 2025 0) (dn 2025 0) (dn 2025 0) (dn 2023 0) (dn 647422339406889 32) (up 11649 0)
    ∷ bar (negsuc 1099511626015) (pos 31) (dn 4047 1) (dn 4047 1) (dn 2025 0) (dn 4047 1) (up 9201 0) (up 1241 0)
    ∷ bar (negsuc 1099511625945) (pos 32) (dn 4047 1) (dn 2025 0) (dn 2025 0) (dn 4047 1) (up 7951 1) (dn 4889312429562921 36)
    ∷ bar (negsuc 1099511625875) (pos 33) (dn 4049 1) (dn 4049 1) (dn 4049 1) (dn 4049 1) (up 179 2) (up 18061 0)
    ∷ bar (negsuc 1099511625805) (pos 34) (dn 4049 1) (dn 4049 1) (dn 2025 0) (dn 4049 1) (up 3913 0) (up 0 0)
    ∷ bar (negsuc 1099511625805) (pos 35) (dn 4049 1) (dn 4049 1) (dn 2025 0) (dn 4049 1) (up 7051 1) (dn 3048858813684777 34)
    ∷ bar (negsuc 1099511625735) (pos 36) (dn 4049 1) (dn 4049 1) (dn 2025 0) (dn 4049 1) (up 12301 0) (up 13403 0)
    ∷ bar (negsuc 1099511625665) (pos 37) (up 7 0) (dn 4049 1) (dn 2025 0) (dn 4049 1) (up 3751 2) (up 7685 1)
    ∷ bar (negsuc 1099511625595) (pos 38) (dn 4049 1) (dn 2025 0) (dn 2025 0) (dn 4049 1) (up 9821 0) (up 1 50)
    ∷ bar (negsuc 1099511625525) (pos 39) (dn 2025 0) (dn 2025 0) (dn 2025 0) (dn 4049 1) (dn 1256253195068375 33) (dn 5869295461088625 35)
    ∷ []

run_16_told : told (settings 1 1 64 64 64) run_16
    ≡ record {
      events = (3, 0, 2);
      raw = (negsuc 1099511627676) ∷ (negsuc 1099511627606) ∷ (negsuc 1099511627536) ∷ (negsuc 1099511627466) ∷ (negsuc 1099511627396) ∷ (negsuc 1099511627326) ∷ (negsuc 1099511627256) ∷ (negsuc 1099511627186) ∷ (negsuc 1099511627116) ∷ (negsuc 1099511627046) ∷ (negsuc 1099511626995) ∷ (negsuc 1099511626925) ∷ (negsuc 1099511626855) ∷ (negsuc 1099511626785) ∷ (negsuc 1099511626715) ∷ (negsuc 1099511626645) ∷ (negsuc 1099511626575) ∷ (negsuc 1099511626505) ∷ (negsuc 1099511626435) ∷ (negsuc 1099511626365) ∷ (negsuc 1099511626295) ∷ (negsuc 1099511626225) ∷ (negsuc 1099511626155) ∷ (negsuc 1099511626085) ∷ (negsuc 1099511626015) ∷ (negsuc 1099511625945) ∷ (negsuc 1099511625875) ∷ (negsuc 1099511625805) ∷ (negsuc 1099511625735) ∷ (negsuc 1099511625665) ∷ (negsuc 1099511625595) ∷ (negsuc 1099511625525) ∷ [];
      ids = map pos (2 ∷ 4 ∷ 5 ∷ 8 ∷ 9 ∷ 10 ∷ 11 ∷ 13 ∷ 14 ∷ 16 ∷ 17 ∷ 18 ∷ 19 ∷ 20 ∷ 21 ∷ 22 ∷ 23 ∷ 24 ∷ 25 ∷ 26 ∷ 27 ∷ 28 ∷ 29 ∷ 30 ∷ 31 ∷ 32 ∷ 33 ∷ 35 ∷ 36 ∷ 37 ∷ 38 ∷ 39 ∷ []);
      ubi =
          (bar (negsuc 1099511627606) (pos 4) (dn 2003 0) (up 505 1) (up 505 1) (dn 2003 0) (dn 6383430534210519 35) (dn 1248827368412283 33), (negsuc 1099511627606) ∷ [])
          ∷ (bar (negsuc 1099511627536) (pos 5) (dn 3963 1) (dn 3963 1) (up 991 0) (dn 3963 1) (dn 8087835895773383 17) (up 0 0), (negsuc 1099511627536) ∷ [])
          ∷ (bar (negsuc 1099511625525) (pos 8) (dn 4049 1) (dn 2025 0) (dn 2025 0) (dn 4049 1) (dn 6838807977805933 10) (dn 4503812396226589 1), (negsuc 1099511627466) ∷ (negsuc 1099511627396) ∷ (negsuc 1099511627326) ∷ (negsuc 1099511627256) ∷ (negsuc 1099511627186) ∷ (negsuc 1099511627116) ∷ (negsuc 1099511627046) ∷ (negsuc 1099511626995) ∷ (negsuc 1099511626925) ∷ (negsuc 1099511626855) ∷ (negsuc 1099511626785) ∷ (negsuc 1099511626715) ∷ (negsuc 1099511626645) ∷ (negsuc 1099511626575) ∷ (negsuc 1099511626505) ∷ (negsuc 1099511626435) ∷ (negsuc 1099511626365) ∷ (negsuc 1099511626295) ∷ (negsuc 1099511626225) ∷ (negsuc 1099511626155) ∷ (negsuc 1099511626085) ∷ (negsuc 1099511626015) ∷ (negsuc 1099511625945) ∷ (negsuc 1099511625875) ∷ (negsuc 1099511625805) ∷ (negsuc 1099511625735) ∷ (negsuc 1099511625665) ∷ (negsuc 1099511625595) ∷ (negsuc 1099511625525) ∷ [])
          ∷ [];
      strokes =
          kept Down (fx (negsuc 1099511627606) G (up 505 1) (dn 2003 0) (up 505 1)) (fx (negsuc 1099511627536) D (up 991 0) (dn 3963 1) (dn 3963 1))
          (fx (negsuc 1099511627606) G (up 505 1) (dn 2003 0) (up 505 1) ∷ fx (negsuc 1099511627536) D (up 991 0) (dn 3963 1) (dn 3963 1) ∷ [])
          ((negsuc 1099511627676) ∷ (negsuc 1099511627606) ∷ (negsuc 1099511627536) ∷ (negsuc 1099511627466) ∷ [])
          ∷ [];
      measures =
          measured (up 505 1) (dn 3963 1) (dn 77 1) (dn 8087860246628387 17) (dn 1423932235124495 49) (dn 2847851224367733 50) (neg (dn 2752600092248847 56)) (neg (dn 77 1)) (up 0 0) 4
          ((negsuc 1099511627606) ∷ (negsuc 1099511627536) ∷ [])
          (fake Down (negsuc 1099511627606) (negsuc 1099511627536) (up 505 1) (dn 3963 1) (dn 77 1) ∷ [])
          ∷ [];
      fxs =
          fx (negsuc 1099511627536) D (up 991 0) (dn 3963 1) (dn 3963 1)
          ∷ [];
      finished = 0;
      extend = false;
      zones =
          zone (negsuc 1099511627606) (negsuc 1099511627536) Down Down (up 505 1) (dn 3963 1) (dn 8003 2) (up 505 1) (dn 3963 1) true
          (stroke Down (up 505 1) (dn 3963 1) (negsuc 1099511627606) (negsuc 1099511627536)
          ∷ [])
          ∷ [];
      fin_zones = [];
      bis =
          (neither ∷ neither ∷ [])
          ∷ (neither ∷ [])
          ∷ [];
      answers =
          answers Medium (dn 8087862160803875 17) false
          ∷ answers Strong (dn 8087863662364707 17) false
          ∷ answers Strong (dn 6901994385982717 10) false
          ∷ [];
      ubifx =
          fx (negsuc 1099511627536) D (up 991 0) (dn 3963 1) (dn 3963 1)
          ∷ [];
      unfinished = some (Up, (dn 2025 0), (dn 3963 1), (negsuc 1099511625525), (negsuc 1099511627536), 3, 32, 1, (negsuc 1099511627536));
      gaps =
          Gaps.Up (up 983 0) (dn 2003 0) (dn 5418731071652181 57) false
          ∷ Gaps.Down (up 991 0) (dn 2003 0) (dn 6110483974416289 58) true
          ∷ Gaps.Up (up 991 0) (dn 4019 1) (dn 4006402228508793 57) false
          ∷ Gaps.NoGap
          ∷ Gaps.NoGap
          ∷ Gaps.NoGap
          ∷ Gaps.NoGap
          ∷ Gaps.NoGap
          ∷ Gaps.NoGap
          ∷ Gaps.NoGap
          ∷ Gaps.NoGap
          ∷ Gaps.NoGap
          ∷ Gaps.NoGap
          ∷ Gaps.NoGap
          ∷ Gaps.NoGap
          ∷ Gaps.NoGap
          ∷ Gaps.NoGap
          ∷ Gaps.NoGap
          ∷ Gaps.NoGap
          ∷ Gaps.NoGap
          ∷ Gaps.NoGap
          ∷ Gaps.NoGap
          ∷ Gaps.NoGap
          ∷ Gaps.NoGap
          ∷ Gaps.NoGap
          ∷ Gaps.NoGap
          ∷ Gaps.NoGap
          ∷ Gaps.NoGap
          ∷ Gaps.NoGap
          ∷ Gaps.NoGap
          ∷ Gaps.NoGap
          ∷ [];
    }
unfolding told run_16 settings bar fx kept measured fake stroke zone answers up dn neg neither rises falls
run_16_told = refl

unfoldable run_17 : List Bar
unfolding bar up dn
run_17 =
    bar (pos 1600000000) (negsuc 4) (up 127 0) (up 65 1) (up 65 1) (up 127 0) (dn 2151176289082409 34) (up 8823 0)
    ∷ bar (pos 1600000060) (negsuc 3) (up 65 1) (up 127 0) (up 129 0) (up 63 1) (dn 394346783300875 29) (up 2591 1)
    ∷ bar (pos 1600000120) (negsuc 2) (up 125 0) (up 123 0) (up 125 0) (up 123 0) (up 11077 0) (up 2549 0)
    ∷ bar (pos 1600000180) (negsuc 1) (up 63 1) (up 125 0) (up 63 1) (up 125 0) (dn 7347931754822369 37) (up 15745 0)
    ∷ bar (pos 1600000240) (negsuc 0) (up 31 2) (up 31 2) (up 31 2) (up 31 2) (up 0 0) (dn 1630278188657541 35)
    ∷ bar (pos 1600000300) (pos 0) (up 125 0) (up 125 0) (up 125 0) (up 31 2) (up 6763 1) (up 9891 0)
    ∷ bar (pos 1600000331) (pos 1) (up 1 7) (up 31 2) (up 1 7) (up 31 2) (up 19053 0) (up 1493 3)
    ∷ bar (pos 1600000391) (pos 2) (up 123 0) (up 123 0) (up 125 0) (up 123 0) (dn 2745734796620595 34) (up 11807 0)
    ∷ bar (pos 1600000451) (pos 3) (up 61 1) (up 61 1) (up 125 0) (up 61 1) (dn 6354561482033725 42) (up 18139 0)
    ∷ bar (pos 1600000511) (pos 4) (up 123 0) (up 63 1) (up 63 1) (up 123 0) (up 9469 1) (up 0 0)
    ∷ bar (pos 1600000565) (pos 5) (up 31 2) (up 123 0) (up 31 2) (up 123 0) (dn 6769627121519165 40) (up 6343 1)
    ∷ bar (pos 1600000625) (pos 6) (up 61 1) (up 31 2) (up 31 2) (up 61 1) (up 15441 0) (dn 812177960739307 13)
    ∷ bar (pos 1600000685) (pos 7) (up 31 2) (up 31 2) (up 31 2) (up 61 1) (dn 1590219028687749 33) (dn 8071734761829171 37)
    ∷ bar (pos 1600000702) (pos 8) (up 31 2) (up 63 1) (up 63 1) (up 31 2) (up 937 2) (dn 6912734057432351 36)
    ∷ bar (pos 1600000729) (pos 9) (up 61 1) (up 63 1) (up 63 1) (up 61 1) (dn 837631322661847 33) (dn 639115872656425 35)
    ∷ bar (pos 1600000789) (pos 10) (up 127 0) (up 125 0) (up 127 0) (up 125 0) (dn 2681636704695091 34) (up 4771 1)
    ∷ bar (pos 1600000849) (pos 11) (up 125 0) (up 125 0) (up 125 0) (up 31 2) (up 19733 0) (up 353 0)
    ∷ bar (pos 1600000909) (pos 12) (up 123 0) (up 123 0) (up 125 0) (up 123 0) (dn 1333432894346951 33) (dn 2516029294111621 34)
    ∷ bar (pos 1600000922) (pos 13) (up 31 2) (up 31 2) (up 127 0) (up 31 2) (dn 5327315255993303 36) (dn 3130658699220091 35)
    ∷ bar (pos 1600000963) (pos 14) (up 129 0) (up 129 0) (up 129 0) (up 125 0) (dn 2798318253024215 34) (up 1 50)
    ∷ bar (pos 1600001023) (pos 15) (up 127 0) (up 127 0) (up 131 0) (up 127 0) (up 2135 0) (up 5311 1)
    ∷ bar (pos 1600001083) (pos 16) (up 63 1) (up 131 0) (up 65 1) (up 63 1) (up 2817 2) (up 14741 0)
    ∷ bar (pos 1600001143) (pos 17) (up 129 0) (up 1 7) (up 129 0) (up 1 7) (up 2379 3) (up 1 50)
    ∷ bar (pos 1600001203) (pos 18) (up 31 2) (up 127 0) (up 127 0) (up 31 2) (up 117 0) (dn 6743631917859471 35)
    ∷ bar (pos 1600001263) (pos 19) (up 61 1) (up 125 0) (up 125 0) (up 61 1) (up 8653 1) (up 19909 0)
    ∷ bar (pos 1600001323) (pos 20) (up 63 1) (up 123 0) (up 63 1) (up 123 0) (up 1717 2) (up 5509 0)
    ∷ bar (pos 1600001383) (pos 21) (up 1 7) (up 1 7) (up 1 7) (up 127 0) (up 18355 0) (dn 173355 1)
    ∷ bar (pos 1600001443) (pos 22) (up 1 7) (up 129 0) (up 129 0) (up 1 7) (up 14533 0) (dn 2989895097463603 34)
    ∷ bar (pos 1600001503) (pos 23) (up 125 0) (up 1 7) (up 1 7) (up 125 0) (up 647 1) (up 1 50)
    ∷ bar (pos 1600001563) (pos 24) (up 127 0) (up 31 2) (up 127 0) (up 31 2) (up 13509 0) (up 6449 1)
    ∷ bar (pos 1600001601) (pos 25) (up 127 0) (up 127 0) (up 1 7) (up 127 0) (up 5393 0) (up 4935 2)
    ∷ bar (pos 1600001661) (pos 26) (up 63 1) (up 125 0) (up 63 1) (up 125 0) (dn 3020739834596557 34) (up 2297 0)
    ∷ bar (pos 1600001721) (pos 27) (up 127 0) (up 65 1) (up 129 0) (up 127 0) (up 0 0) (up 16471 0)
    ∷ bar (pos 1600001781) (pos 28) (up 129 0) (up 129 0) (up 129 0) (up 127 0) (dn 2996578066576179 34) (up 1777 3)
    ∷ bar (pos 1600001841) (pos 29) (up 127 0) (up 127 0) (up 131 0) (up 127 0) (up 13285 0) (dn 2560364008125235 36)
    ∷ bar (pos 1600001901) (pos 30) (up 131 0) (up 1 7) (up 131 0) (up 1 7) (up 3131 0) (up 1185 3)
    ∷ bar (pos 1600001961) (pos 31) (up 65 1) (up 65 1) (up 65 1) (up 65 1) (dn 996784918781661 23) (up 9623 0)
    ∷ bar (pos 1600002021) (pos 32) (up 129 0) (up 63 1) (up 129 0) (up 63 1) (up 1057 2) (up 12923 0)
    ∷ bar (pos 1600002081) (pos 33) (up 33 2) (up 65 1) (up 33 2) (up 65 1) (up 13047 0) (up 5885 0)
    ∷ bar (pos 1600002141) (pos 34) (up 133 0) (up 129 0) (up 133 0) (up 129 0) (dn 6178938316143633 21) (dn 1150752705253351 1)
    ∷ bar (pos 1600002201) (pos 35) (up 133 0) (up 133 0) (up 33 2) (up 1 7) (dn 7023262463814533 40) (up 10275 0)
    ∷ bar (pos 1600002261) (pos 36) (up 127 0) (up 127 0) (up 129 0) (up 127 0) (up 1455 1) (up 1 50)
    ∷ bar (pos 1600002321) (pos 37) (up 129 0) (up 129 0) (up 129 0) (up 127 0) (dn 6452055178068623 39) (up 6831 1)
    ∷ bar (pos 1600002381) (pos 38) (up 63 1) (up 127 0) (up 127 0) (up 63 1) (up 1 50) (up 16731 0)
    ∷ bar (pos 1600002441) (pos 39) (up 1 7) (up 1 7) (up 1 7) (up 1 7) (up 1447 1) (dn 1316586834058281 36)
    ∷ bar (pos 1600002501) (pos 40) (up 63 1) (up 31 2) (up 63 1) (up 31 2) (dn 1160460306082693 35) (up 4331 2)
    ∷ bar (pos 1600002561) (pos 41) (up 125 0) (up 125 0) (up 127 0) (up 125 0) (up 7965 0) (up 13 2)
    ∷ bar (pos 1600002607) (pos 42) (up 125 0) (up 125 0) (up 125 0) (up 31 2) (up 1 50) (dn 1343428318073979 33)
    ∷ bar (pos 1600002667) (pos 43) (up 127 0) (up 127 0) (up 127 0) (up 125 0) (up 2111 0) (up 1277 2)
    ∷ bar (pos 1600002727) (pos 44) (up 61 1) (up 61 1) (up 31 2) (up 61 1) (up 13695 0) (up 2389 1)
    ∷ bar (pos 1600002787) (pos 45) (up 125 0) (up 125 0) (up 125 0) (up 125 0) (up 4209 2) (dn 4798973805445775 35)
    ∷ bar (pos 1600002847) (pos 46) (up 123 0) (up 125 0) (up 125 0) (up 123 0) (up 7711 0) (up 1011 0)
    ∷ bar (pos 1600002907) (pos 47) (up 121 0) (up 121 0) (up 31 2) (up 121 0) (up 3 6) (up 13025 0)
    ∷ bar (pos 1600002967) (pos 48) (up 31 2) (up 127 0) (up 127 0) (up 31 2) (up 1649 1) (dn 7825848227730555 37)
    ∷ bar (pos 1600003027) (pos 49) (up 127 0) (up 127 0) (up 127 0) (up 31 2) (up 1 50) (dn 1962090182077317 34)
    ∷ bar (pos 1600003087) (pos 50) (up 63 1) (up 63 1) (up 63 1) (up 63 1) (up 5475 1) (up 1 50)
    ∷ bar (pos 1600003147) (pos 51) (up 63 1) (up 63 1) (up 125 0) (up 123 0) (up 1747 0) (up 7531 0)
    ∷ bar (pos 1600003207) (pos 52) (up 31 2) (up 31 2) (up 31 2) (up 31 2) (dn 5571806784714179 36) (up 1069 2)
    ∷ bar (pos 1600003267) (pos 53) (up 125 0) (up 31 2) (up 125 0) (up 31 2) (up 11323 0) (up 473 3)
    ∷ bar (pos 1600003327) (pos 54) (up 1 7) (up 127 0) (up 127 0) (up 127 0) (up 8415 1) (up 12883 0)
    ∷ []

run_17_told : told (settings 5 2 24 20 16) run_17
    ≡ record {
      events = (4, 2, 0);
      raw = map pos (1600000511 ∷ 1600000565 ∷ 1600000625 ∷ 1600000685 ∷ 1600000702 ∷ 1600000729 ∷ 1600000789 ∷ 1600000849 ∷ 1600000909 ∷ 1600000922 ∷ 1600000963 ∷ 1600001023 ∷ 1600001083 ∷ 1600001143 ∷ 1600001203 ∷ 1600001263 ∷ 1600001323 ∷ 1600001383 ∷ 1600001443 ∷ 1600001721 ∷ 1600001781 ∷ 1600001841 ∷ 1600001901 ∷ 1600001961 ∷ []);
      ids = map pos (4 ∷ 5 ∷ 6 ∷ 7 ∷ 8 ∷ 9 ∷ 10 ∷ 11 ∷ 12 ∷ 13 ∷ 14 ∷ 15 ∷ 16 ∷ 17 ∷ 18 ∷ 19 ∷ 20 ∷ 21 ∷ 22 ∷ 27 ∷ 28 ∷ 29 ∷ 30 ∷ 31 ∷ []);
      ubi =
          (bar (pos 1600001203) (pos 18) (up 31 2) (up 127 0) (up 127 0) (up 31 2) (up 117 0) (dn 6743631917859471 35), map pos (1600001203 ∷ []))
          ∷ (bar (pos 1600001263) (pos 19) (up 61 1) (up 125 0) (up 125 0) (up 61 1) (up 8653 1) (up 19909 0), map pos (1600001263 ∷ []))
          ∷ (bar (pos 1600001323) (pos 20) (up 63 1) (up 123 0) (up 63 1) (up 123 0) (up 1717 2) (up 5509 0), map pos (1600001323 ∷ []))
          ∷ (bar (pos 1600001383) (pos 21) (up 1 7) (up 1 7) (up 1 7) (up 127 0) (up 18355 0) (dn 173355 1), map pos (1600001383 ∷ []))
          ∷ (bar (pos 1600001901) (pos 22) (up 65 1) (up 131 0) (up 131 0) (up 65 1) (dn 7990138637789723 26) (dn 310873 0), map pos (1600001443 ∷ 1600001721 ∷ 1600001781 ∷ 1600001841 ∷ 1600001901 ∷ 1600001961 ∷ []))
          ∷ [];
      strokes =
          kept Up (fx (pos 1600000685) D (up 31 2) (up 61 1) (up 61 1)) (fx (pos 1600001023) G (up 131 0) (up 127 0) (up 131 0))
          (fx (pos 1600000685) D (up 31 2) (up 61 1) (up 61 1) ∷ fx (pos 1600000789) G (up 127 0) (up 125 0) (up 127 0) ∷ fx (pos 1600000909) D (up 125 0) (up 123 0) (up 123 0) ∷ fx (pos 1600001023) G (up 131 0) (up 127 0) (up 131 0) ∷ [])
          (map pos (1600000511 ∷ 1600000685 ∷ 1600000729 ∷ 1600000789 ∷ 1600000909 ∷ 1600000922 ∷ 1600000963 ∷ 1600001023 ∷ 1600001083 ∷ []))
          ∷ kept Down (fx (pos 1600001023) G (up 131 0) (up 127 0) (up 131 0)) (fx (pos 1600001263) D (up 125 0) (up 61 1) (up 61 1))
          (fx (pos 1600001023) G (up 131 0) (up 127 0) (up 131 0) ∷ fx (pos 1600001263) D (up 125 0) (up 61 1) (up 61 1) ∷ [])
          (map pos (1600000963 ∷ 1600001023 ∷ 1600001083 ∷ 1600001203 ∷ 1600001263 ∷ 1600001323 ∷ []))
          ∷ [];
      measures =
          measured (up 131 0) (up 61 1) (up 9 0) (dn 3936264510321425 32) (dn 1 0) (dn 1 0) (dn 2658925219999541 54) (dn 2347330714871895 52) (dn 8188362958855447 56) 9
          (map pos (1600000625 ∷ 1600000685 ∷ 1600000702 ∷ 1600000729 ∷ 1600000789 ∷ 1600000849 ∷ 1600000909 ∷ 1600000922 ∷ 1600000963 ∷ 1600001023 ∷ []))
          (fake Up (pos 1600000685) (pos 1600000789) (up 127 0) (up 61 1) (up 5 0) ∷ fake Down (pos 1600000789) (pos 1600000909) (up 127 0) (up 123 0) (up 1 2) ∷ fake Up (pos 1600000909) (pos 1600001023) (up 131 0) (up 123 0) (up 1 3) ∷ [])
          ∷ measured (up 131 0) (up 61 1) (up 9 0) (up 24929 1) (dn 6004799503160661 54) (dn 6006000463061293 54) (neg (dn 4950356710405649 55)) (neg (dn 3602879701896397 51)) (neg (dn 6433713753386423 52)) 6
          (map pos (1600001023 ∷ 1600001083 ∷ 1600001143 ∷ 1600001203 ∷ 1600001263 ∷ []))
          (fake Down (pos 1600001023) (pos 1600001263) (up 131 0) (up 61 1) (up 9 0) ∷ [])
          ∷ [];
      fxs =
          fx (pos 1600000789) G (up 127 0) (up 125 0) (up 127 0)
          ∷ fx (pos 1600000909) D (up 125 0) (up 123 0) (up 123 0)
          ∷ fx (pos 1600001023) G (up 131 0) (up 127 0) (up 131 0)
          ∷ fx (pos 1600001263) D (up 125 0) (up 61 1) (up 61 1)
          ∷ [];
      finished = 2;
      extend = false;
      zones =
          zone (pos 1600000685) (pos 1600001263) Up Down (up 131 0) (up 61 1) (dn 253 0) (up 131 0) (up 61 1) true
          (stroke Up (up 131 0) (up 61 1) (pos 1600000685) (pos 1600001023)
          ∷ stroke Down (up 131 0) (up 61 1) (pos 1600001023) (pos 1600001263)
          ∷ [])
          ∷ [];
      fin_zones =
          zone (pos 1600000685) (pos 1600001263) Up Down (up 131 0) (up 61 1) (dn 253 0) (up 131 0) (up 61 1) true
          (stroke Up (up 131 0) (up 61 1) (pos 1600000685) (pos 1600001023)
          ∷ stroke Down (up 131 0) (up 61 1) (pos 1600001023) (pos 1600001263)
          ∷ [])
          ∷ [];
      bis =
          (neither ∷ neither ∷ neither ∷ [])
          ∷ (neither ∷ neither ∷ [])
          ∷ (neither ∷ [])
          ∷ [];
      answers =
          answers Medium (dn 6271509871229665 34) true
          ∷ answers Weak (dn 7830566155331695 34) true
          ∷ answers Weak (dn 7358352024603063 34) true
          ∷ answers Medium (dn 3912776366990295 34) true
          ∷ answers Medium (dn 3912776366990295 34) true
          ∷ answers Weak (up 24291 0) true
          ∷ answers Weak (up 24291 0) true
          ∷ [];
      ubifx =
          fx (pos 1600001263) D (up 125 0) (up 61 1) (up 61 1)
          ∷ [];
      unfinished = some (Up, (up 131 0), (up 61 1), (pos 1600001901), (pos 1600001263), 5, 24, 1, (pos 1600001263));
      gaps =
          Gaps.NoGap
          ∷ Gaps.NoGap
          ∷ Gaps.NoGap
          ∷ Gaps.NoGap
          ∷ Gaps.NoGap
          ∷ Gaps.NoGap
          ∷ Gaps.NoGap
          ∷ Gaps.NoGap
          ∷ Gaps.NoGap
          ∷ Gaps.NoGap
          ∷ Gaps.NoGap
          ∷ Gaps.NoGap
          ∷ Gaps.NoGap
          ∷ Gaps.Down (up 127 0) (up 1 7) (dn 2277019971598523 57) true
          ∷ Gaps.NoGap
          ∷ Gaps.NoGap
          ∷ Gaps.Up (up 63 1) (up 127 0) (dn 2277019971598523 57) false
          ∷ Gaps.NoGap
          ∷ Gaps.NoGap
          ∷ Gaps.NoGap
          ∷ Gaps.NoGap
          ∷ Gaps.NoGap
          ∷ Gaps.NoGap
          ∷ [];
    }
unfolding told run_17 settings bar fx kept measured fake stroke zone answers up dn neg neither rises falls
run_17_told = refl

run_17_refused : refused (settings 5 2 24 20 16) run_17
    ≡ (28, 12) ∷ (29, 12) ∷ (30, 12) ∷ (31, 12) ∷ (37, 10) ∷ (38, 10) ∷ (39, 10) ∷ (40, 10) ∷ (41, 10) ∷ (42, 10) ∷ (43, 10) ∷ (44, 10) ∷ (45, 10) ∷ (46, 10) ∷ (47, 10) ∷ (48, 10) ∷ (49, 10) ∷ (50, 10) ∷ (51, 10) ∷ (52, 10) ∷ (53, 10) ∷ (54, 10) ∷ (55, 10) ∷ (56, 10) ∷ (57, 10) ∷ (58, 10) ∷ (59, 10) ∷ []
unfolding refused run_17 settings bar up dn
run_17_refused = refl

unfoldable run_18 : List Bar
unfolding bar up dn
run_18 =
    bar (negsuc 1099511627775) (pos 0) (dn 3211 1) (dn 3211 1) (dn 3211 1) (dn 3187 1) (dn 2910642642930893 34) (up 7559 1)
    ∷ bar (negsuc 1099511627705) (pos 1) (dn 6425 2) (dn 6425 2) (dn 6425 2) (dn 6419 2) (up 325 2) (dn 1776534881786921 34)
    ∷ bar (negsuc 1099511627635) (pos 2) (dn 6429 2) (dn 6429 2) (dn 6469 2) (dn 6429 2) (up 999 0) (up 15227 0)
    ∷ bar (negsuc 1099511627596) (pos 3) (dn 3241 1) (dn 3231 1) (dn 3241 1) (dn 3231 1) (up 1 50) (up 1 50)
    ∷ bar (negsuc 1099511627596) (pos 4) (dn 3223 1) (dn 3223 1) (dn 3251 1) (dn 3223 1) (up 0 0) (dn 8385821253419663 36)
    ∷ bar (negsuc 1099511627526) (pos 5) (up 401 1) (dn 3235 1) (dn 3235 1) (up 401 1) (up 4349 0) (up 5671 0)
    ∷ bar (negsuc 1099511627456) (pos 6) (dn 6441 2) (dn 6401 2) (dn 6441 2) (dn 6401 2) (up 1 50) (dn 1640487325920133 33)
    ∷ bar (negsuc 1099511627456) (pos 7) (up 399 1) (up 399 1) (up 399 1) (dn 1595 0) (up 225 5) (dn 4159861368763187 35)
    ∷ bar (negsuc 1099511627386) (pos 8) (dn 6397 2) (dn 6397 2) (dn 6397 2) (dn 6383 2) (up 131 7) (dn 5910977259702845 36)
    ∷ bar (negsuc 1099511627340) (pos 9) (dn 3199 1) (dn 3199 1) (dn 3205 1) (dn 3199 1) (dn 2866627115631777 50) (up 5161 0)
    ∷ bar (negsuc 1099511627270) (pos 10) (dn 3199 1) (dn 3177 1) (dn 3199 1) (dn 3177 1) (up 1407 1) (up 203 0)
    ∷ bar (negsuc 1099511627200) (pos 11) (dn 6317 2) (dn 6317 2) (dn 6373 2) (dn 6317 2) (dn 574498089688105 32) (up 1165 1)
    ∷ bar (negsuc 1099511627130) (pos 12) (dn 6369 2) (dn 6369 2) (dn 6369 2) (dn 6347 2) (up 7661 0) (dn 1878345360704115 3)
    ∷ bar (negsuc 1099511627060) (pos 13) (dn 3167 1) (dn 3167 1) (dn 3171 1) (dn 3167 1) (up 1 50) (up 817 0)
    ∷ bar (negsuc 1099511626990) (pos 14) (dn 6311 2) (dn 6311 2) (dn 6323 2) (dn 6311 2) (up 19611 0) (dn 3622382976588841 35)
    ∷ bar (negsuc 1099511626939) (pos 15) (dn 1589 0) (up 395 1) (dn 1589 0) (up 395 1) (up 507 4) (dn 718862677924905 32)
    ∷ bar (negsuc 1099511626869) (pos 16) (dn 6319 2) (dn 6319 2) (dn 6319 2) (dn 6297 2) (up 903 3) (up 0 0)
    ∷ bar (negsuc 1099511626799) (pos 17) (dn 6267 2) (dn 6267 2) (dn 6317 2) (dn 6267 2) (dn 2257127650025055 10) (dn 4719796598740091 39)
    ∷ bar (negsuc 1099511626785) (pos 18) (dn 6277 2) (dn 6293 2) (dn 6293 2) (dn 6277 2) (up 1021 1) (dn 2278006673333289 35)
    ∷ bar (negsuc 1099511626715) (pos 19) (dn 6329 2) (dn 6329 2) (dn 6329 2) (dn 6311 2) (dn 5347301628607201 37) (dn 3299261935391867 34)
    ∷ bar (negsuc 1099511626645) (pos 20) (dn 1577 0) (dn 1577 0) (dn 3181 1) (dn 1577 0) (up 1713 1) (up 803 1)
    ∷ bar (negsuc 1099511626575) (pos 21) (dn 3153 1) (dn 3153 1) (dn 3183 1) (dn 3153 1) (up 8157 0) (up 4465 0)
    ∷ bar (negsuc 1099511626505) (pos 22) (dn 6373 2) (dn 6373 2) (dn 6373 2) (dn 6363 2) (up 14421 0) (up 8343 1)
    ∷ bar (negsuc 1099511626485) (pos 23) (dn 6365 2) (dn 6365 2) (dn 6365 2) (dn 6329 2) (up 0 0) (up 5419 1)
    ∷ bar (negsuc 1099511626415) (pos 24) (dn 6323 2) (dn 6329 2) (dn 6329 2) (dn 6323 2) (dn 2236244632866025 23) (up 8773 1)
    ∷ bar (negsuc 1099511626345) (pos 25) (up 99 3) (up 785 0) (up 99 3) (up 785 0) (dn 2505300465806213 36) (up 0 0)
    ∷ bar (negsuc 1099511626275) (pos 26) (dn 3121 1) (dn 3121 1) (dn 1575 0) (dn 3121 1) (dn 8078744148456243 36) (up 11311 0)
    ∷ bar (negsuc 1099511626205) (pos 27) (dn 1557 0) (dn 1557 0) (dn 3137 1) (dn 1557 0) (up 4783 0) (up 757 4)
    ∷ bar (negsuc 1099511626135) (pos 28) (dn 3103 1) (dn 3103 1) (dn 3123 1) (dn 3103 1) (up 1 50) (up 4245 1)
    ∷ bar (negsuc 1099511626065) (pos 29) (dn 3099 1) (dn 3099 1) (dn 3099 1) (up 773 0) (dn 1367458660095099 33) (up 18415 0)
    ∷ bar (negsuc 1099511625995) (pos 30) (dn 6145 2) (dn 6173 2) (dn 6173 2) (dn 6145 2) (dn 21084367842529 38) (up 7951 1)
    ∷ bar (negsuc 1099511625925) (pos 31) (dn 6123 2) (dn 6123 2) (dn 6165 2) (dn 6123 2) (dn 3062997533437715 31) (up 179 2)
    ∷ bar (negsuc 1099511625855) (pos 32) (dn 6103 2) (dn 6103 2) (dn 6107 2) (dn 6103 2) (up 3913 0) (up 0 0)
    ∷ bar (negsuc 1099511625855) (pos 33) (dn 6081 2) (dn 3027 1) (dn 1527 0) (dn 3027 1) (up 7051 1) (dn 3048858813684777 34)
    ∷ bar (negsuc 1099511625785) (pos 34) (dn 6065 2) (dn 6045 2) (dn 6065 2) (dn 6045 2) (dn 2342312985273303 34) (up 18985 0)
    ∷ bar (negsuc 1099511625785) (pos 35) (up 377 1) (up 753 0) (up 377 1) (up 753 0) (up 2849 2) (dn 2203059494018089 34)
    ∷ bar (negsuc 1099511625715) (pos 36) (dn 1495 0) (dn 1503 0) (dn 1503 0) (dn 1495 0) (up 14489 0) (up 9821 0)
    ∷ bar (negsuc 1099511625645) (pos 37) (dn 3015 1) (dn 3015 1) (dn 3015 1) (dn 2991 1) (dn 1256253195068375 33) (dn 5869295461088625 35)
    ∷ bar (negsuc 1099511625645) (pos 38) (dn 6013 2) (dn 6013 2) (dn 6051 2) (dn 6013 2) (dn 1368429322703995 33) (up 1 50)
    ∷ bar (negsuc 1099511625575) (pos 39) (up 753 0) (dn 3001 1) (up 753 0) (dn 3001 1) (up 19193 0) (up 1957 3)
    ∷ bar (negsuc 1099511625505) (pos 40) (dn 2975 1) (dn 1501 0) (dn 1501 0) (dn 2975 1) (up 13773 0) (up 1 50)
    ∷ bar (negsuc 1099511625435) (pos 41) (dn 5953 2) (dn 5977 2) (dn 5977 2) (dn 5953 2) (up 0 0) (up 6405 1)
    ∷ bar (negsuc 1099511625365) (pos 42) (dn 2967 1) (dn 1485 0) (dn 2973 1) (dn 2967 1) (dn 709091519845599 44) (dn 8269219419683553 36)
    ∷ bar (negsuc 1099511625295) (pos 43) (dn 2967 1) (dn 2967 1) (dn 2967 1) (dn 1477 0) (up 1 50) (up 7367 0)
    ∷ bar (negsuc 1099511625225) (pos 44) (dn 5915 2) (dn 5915 2) (dn 5915 2) (dn 5863 2) (up 10309 0) (up 3789 2)
    ∷ bar (negsuc 1099511625155) (pos 45) (up 183 2) (up 183 2) (dn 1475 0) (up 183 2) (up 4893 0) (dn 6596063713516585 37)
    ∷ bar (negsuc 1099511625085) (pos 46) (dn 5817 2) (dn 5817 2) (dn 5863 2) (dn 5817 2) (up 1 50) (dn 2403183666973901 34)
    ∷ bar (negsuc 1099511625015) (pos 47) (dn 5815 2) (dn 5847 2) (dn 5847 2) (dn 5815 2) (dn 3792837515463885 35) (up 3455 2)
    ∷ bar (negsuc 1099511624945) (pos 48) (dn 5849 2) (dn 5871 2) (dn 5871 2) (dn 5849 2) (dn 386019 1) (up 1771 1)
    ∷ bar (negsuc 1099511624875) (pos 49) (dn 2925 1) (dn 2925 1) (dn 2925 1) (up 365 1) (up 0 0) (up 8041 0)
    ∷ bar (negsuc 1099511624805) (pos 50) (dn 2905 1) (dn 2923 1) (dn 2923 1) (dn 2905 1) (dn 6521082518060401 36) (dn 1401921305879511 35)
    ∷ bar (negsuc 1099511624735) (pos 51) (dn 5819 2) (dn 5819 2) (dn 5863 2) (dn 5819 2) (up 3337 0) (up 13025 0)
    ∷ bar (negsuc 1099511624665) (pos 52) (dn 1461 0) (dn 1461 0) (dn 5851 2) (dn 5837 2) (up 3257 1) (dn 5599762555045151 35)
    ∷ bar (negsuc 1099511624665) (pos 53) (dn 1477 0) (dn 1471 0) (dn 1477 0) (dn 1471 0) (dn 6580783937864335 35) (up 2657 0)
    ∷ bar (negsuc 1099511624595) (pos 54) (dn 5887 2) (dn 5865 2) (dn 5887 2) (dn 5865 2) (up 2581 2) (dn 5307963851344445 38)
    ∷ bar (negsuc 1099511624525) (pos 55) (dn 2933 1) (dn 2933 1) (dn 1467 0) (dn 2933 1) (dn 1919093436275753 34) (dn 7783922474973921 36)
    ∷ bar (negsuc 1099511624455) (pos 56) (dn 5905 2) (dn 5867 2) (dn 5905 2) (dn 5867 2) (up 11061 0) (up 13667 0)
    ∷ bar (negsuc 1099511624385) (pos 57) (dn 5897 2) (dn 5897 2) (dn 5897 2) (dn 5845 2) (up 3067 0) (up 12725 0)
    ∷ bar (negsuc 1099511624315) (pos 58) (dn 5859 2) (dn 5859 2) (dn 5859 2) (dn 5839 2) (dn 5058473667885793 35) (up 3565 2)
    ∷ bar (negsuc 1099511624245) (pos 59) (dn 1455 0) (dn 1455 0) (dn 1463 0) (dn 1455 0) (dn 3195284900324311 34) (dn 2499974706359173 34)
    ∷ []

run_18_told : told (settings 4 5 64 16 24) run_18
    ≡ record {
      events = (4, 0, 0);
      raw = (negsuc 1099511627635) ∷ (negsuc 1099511627596) ∷ (negsuc 1099511627526) ∷ (negsuc 1099511627456) ∷ (negsuc 1099511627386) ∷ (negsuc 1099511627340) ∷ (negsuc 1099511627270) ∷ (negsuc 1099511627200) ∷ (negsuc 1099511627130) ∷ (negsuc 1099511627060) ∷ (negsuc 1099511626990) ∷ (negsuc 1099511626939) ∷ (negsuc 1099511626869) ∷ (negsuc 1099511626799) ∷ (negsuc 1099511626785) ∷ (negsuc 1099511626275) ∷ (negsuc 1099511626205) ∷ (negsuc 1099511626135) ∷ (negsuc 1099511626065) ∷ (negsuc 1099511625995) ∷ (negsuc 1099511625925) ∷ (negsuc 1099511625855) ∷ (negsuc 1099511625785) ∷ (negsuc 1099511625715) ∷ (negsuc 1099511625505) ∷ (negsuc 1099511625435) ∷ (negsuc 1099511625365) ∷ (negsuc 1099511625295) ∷ (negsuc 1099511625225) ∷ (negsuc 1099511624665) ∷ (negsuc 1099511624595) ∷ (negsuc 1099511624525) ∷ (negsuc 1099511624385) ∷ [];
      ids = map pos (2 ∷ 4 ∷ 5 ∷ 7 ∷ 8 ∷ 9 ∷ 10 ∷ 11 ∷ 12 ∷ 13 ∷ 14 ∷ 15 ∷ 16 ∷ 17 ∷ 18 ∷ 26 ∷ 27 ∷ 28 ∷ 29 ∷ 30 ∷ 31 ∷ 33 ∷ 35 ∷ 36 ∷ 40 ∷ 41 ∷ 42 ∷ 43 ∷ 44 ∷ 53 ∷ 54 ∷ 55 ∷ 57 ∷ []);
      ubi =
          (bar (negsuc 1099511626990) (pos 14) (dn 6311 2) (dn 6311 2) (dn 6323 2) (dn 6311 2) (up 19611 0) (dn 3622382976588841 35), (negsuc 1099511626990) ∷ [])
          ∷ (bar (negsuc 1099511626939) (pos 15) (dn 1589 0) (up 395 1) (dn 1589 0) (up 395 1) (up 507 4) (dn 718862677924905 32), (negsuc 1099511626939) ∷ [])
          ∷ (bar (negsuc 1099511626869) (pos 16) (dn 6319 2) (dn 6319 2) (dn 6319 2) (dn 6297 2) (up 903 3) (up 0 0), (negsuc 1099511626869) ∷ [])
          ∷ (bar (negsuc 1099511626275) (pos 17) (dn 3121 1) (dn 6293 2) (dn 6293 2) (dn 3121 1) (dn 564281943647435 8) (dn 6700559924230881 36), (negsuc 1099511626799) ∷ (negsuc 1099511626785) ∷ (negsuc 1099511626275) ∷ [])
          ∷ (bar (negsuc 1099511626205) (pos 27) (dn 1557 0) (dn 1557 0) (dn 3137 1) (dn 1557 0) (up 4783 0) (up 757 4), (negsuc 1099511626205) ∷ [])
          ∷ (bar (negsuc 1099511626135) (pos 28) (dn 3103 1) (dn 3103 1) (dn 3123 1) (dn 3103 1) (up 1 50) (up 4245 1), (negsuc 1099511626135) ∷ [])
          ∷ (bar (negsuc 1099511626065) (pos 29) (dn 3099 1) (dn 3099 1) (dn 3099 1) (up 773 0) (dn 1367458660095099 33) (up 18415 0), (negsuc 1099511626065) ∷ [])
          ∷ (bar (negsuc 1099511625995) (pos 30) (dn 6145 2) (dn 6173 2) (dn 6173 2) (dn 6145 2) (dn 21084367842529 38) (up 7951 1), (negsuc 1099511625995) ∷ [])
          ∷ (bar (negsuc 1099511625925) (pos 31) (dn 6123 2) (dn 6123 2) (dn 6165 2) (dn 6123 2) (dn 3062997533437715 31) (up 179 2), (negsuc 1099511625925) ∷ [])
          ∷ (bar (negsuc 1099511625855) (pos 33) (dn 6081 2) (dn 3027 1) (dn 1527 0) (dn 3027 1) (up 7051 1) (dn 3048858813684777 34), (negsuc 1099511625855) ∷ [])
          ∷ (bar (negsuc 1099511625785) (pos 35) (up 377 1) (up 753 0) (up 377 1) (up 753 0) (up 2849 2) (dn 2203059494018089 34), (negsuc 1099511625785) ∷ [])
          ∷ (bar (negsuc 1099511625715) (pos 36) (dn 1495 0) (dn 1503 0) (dn 1503 0) (dn 1495 0) (up 14489 0) (up 9821 0), (negsuc 1099511625715) ∷ [])
          ∷ (bar (negsuc 1099511625505) (pos 40) (dn 2975 1) (dn 5977 2) (dn 5977 2) (dn 2975 1) (up 13773 0) (up 562949953427717 1), (negsuc 1099511625505) ∷ (negsuc 1099511625435) ∷ [])
          ∷ (bar (negsuc 1099511625365) (pos 42) (dn 2967 1) (dn 1485 0) (dn 2973 1) (dn 2967 1) (dn 709091519845599 44) (dn 8269219419683553 36), (negsuc 1099511625365) ∷ [])
          ∷ (bar (negsuc 1099511625295) (pos 43) (dn 2967 1) (dn 2967 1) (dn 2967 1) (dn 1477 0) (up 1 50) (up 7367 0), (negsuc 1099511625295) ∷ [])
          ∷ (bar (negsuc 1099511624385) (pos 44) (dn 5845 2) (dn 1467 0) (dn 1467 0) (dn 5845 2) (dn 376488200283095 30) (dn 831751512433623 32), (negsuc 1099511625225) ∷ (negsuc 1099511624665) ∷ (negsuc 1099511624595) ∷ (negsuc 1099511624525) ∷ (negsuc 1099511624385) ∷ [])
          ∷ [];
      strokes =
          kept Down (fx (negsuc 1099511627596) G (dn 3251 1) (dn 3223 1) (dn 3251 1)) (fx (negsuc 1099511627456) D (up 399 1) (dn 1595 0) (dn 1595 0))
          (fx (negsuc 1099511627596) G (dn 3251 1) (dn 3223 1) (dn 3251 1) ∷ fx (negsuc 1099511627456) D (up 399 1) (dn 1595 0) (dn 1595 0) ∷ [])
          ((negsuc 1099511627635) ∷ (negsuc 1099511627596) ∷ (negsuc 1099511627526) ∷ (negsuc 1099511627456) ∷ (negsuc 1099511627386) ∷ [])
          ∷ kept Up (fx (negsuc 1099511627456) D (up 399 1) (dn 1595 0) (dn 1595 0)) (fx (negsuc 1099511627340) G (dn 3205 1) (dn 3199 1) (dn 3205 1))
          (fx (negsuc 1099511627456) D (up 399 1) (dn 1595 0) (dn 1595 0) ∷ fx (negsuc 1099511627340) G (dn 3205 1) (dn 3199 1) (dn 3205 1) ∷ [])
          ((negsuc 1099511627526) ∷ (negsuc 1099511627456) ∷ (negsuc 1099511627386) ∷ (negsuc 1099511627340) ∷ (negsuc 1099511627270) ∷ [])
          ∷ kept Down (fx (negsuc 1099511627340) G (dn 3205 1) (dn 3199 1) (dn 3205 1)) (fx (negsuc 1099511626990) D (dn 6323 2) (dn 6311 2) (dn 6311 2))
          (fx (negsuc 1099511627340) G (dn 3205 1) (dn 3199 1) (dn 3205 1) ∷ fx (negsuc 1099511626990) D (dn 6323 2) (dn 6311 2) (dn 6311 2) ∷ [])
          ((negsuc 1099511627386) ∷ (negsuc 1099511627340) ∷ (negsuc 1099511627270) ∷ (negsuc 1099511627200) ∷ (negsuc 1099511626990) ∷ (negsuc 1099511626939) ∷ [])
          ∷ kept Up (fx (negsuc 1099511626990) D (dn 6323 2) (dn 6311 2) (dn 6311 2)) (fx (negsuc 1099511626939) G (dn 1589 0) (up 395 1) (dn 1589 0))
          (fx (negsuc 1099511626990) D (dn 6323 2) (dn 6311 2) (dn 6311 2) ∷ fx (negsuc 1099511626939) G (dn 1589 0) (up 395 1) (dn 1589 0) ∷ [])
          ((negsuc 1099511627200) ∷ (negsuc 1099511626990) ∷ (negsuc 1099511626939) ∷ (negsuc 1099511626869) ∷ [])
          ∷ [];
      measures =
          measured (dn 3251 1) (dn 1595 0) (dn 61 1) (up 11549 0) (dn 5170799572166125 51) (dn 2585291366092033 50) (neg (dn 5418731071652181 57)) (neg (dn 31 2)) (neg (dn 55 2)) 5
          ((negsuc 1099511627596) ∷ (negsuc 1099511627526) ∷ (negsuc 1099511627456) ∷ [])
          (fake Down (negsuc 1099511627596) (negsuc 1099511627456) (dn 3251 1) (dn 1595 0) (dn 61 1) ∷ [])
          ∷ measured (dn 3205 1) (dn 1595 0) (dn 15 1) (dn 3294311801850809 36) (up 0 0) (up 0 0) (dn 5418731071652181 59) (dn 7 2) (neg (dn 3 1)) 5
          ((negsuc 1099511627456) ∷ (negsuc 1099511627386) ∷ (negsuc 1099511627340) ∷ [])
          (fake Up (negsuc 1099511627456) (negsuc 1099511627340) (dn 3205 1) (dn 1595 0) (dn 15 1) ∷ [])
          ∷ measured (dn 3205 1) (dn 6311 2) (dn 6969320423355843 48) (dn 4503599627758367 1) (dn 8904844717755299 51) (dn 4452483771599841 50) (neg (dn 4438747792736361 57)) (neg (dn 7125337981875463 51)) (dn 4543810338329161 53) 6
          ((negsuc 1099511627340) ∷ (negsuc 1099511627270) ∷ (negsuc 1099511627200) ∷ (negsuc 1099511627130) ∷ (negsuc 1099511627060) ∷ (negsuc 1099511626990) ∷ [])
          (fake Down (negsuc 1099511627340) (negsuc 1099511626990) (dn 3205 1) (dn 6311 2) (dn 6969320423355843 48) ∷ [])
          ∷ measured (dn 1589 0) (dn 6311 2) (dn 6338816475523973 49) (up 27723 0) (dn 1 1) (dn 1 1) (dn 4092871341354307 58) (dn 9 2) (up 0 0) 4
          ((negsuc 1099511626990) ∷ (negsuc 1099511626939) ∷ [])
          (fake Up (negsuc 1099511626990) (negsuc 1099511626939) (dn 1589 0) (dn 6311 2) (dn 6338816475523973 49) ∷ [])
          ∷ [];
      fxs =
          fx (negsuc 1099511627456) D (up 399 1) (dn 1595 0) (dn 1595 0)
          ∷ fx (negsuc 1099511627340) G (dn 3205 1) (dn 3199 1) (dn 3205 1)
          ∷ fx (negsuc 1099511626990) D (dn 6323 2) (dn 6311 2) (dn 6311 2)
          ∷ fx (negsuc 1099511626939) G (dn 1589 0) (up 395 1) (dn 1589 0)
          ∷ [];
      finished = 4;
      extend = false;
      zones =
          zone (negsuc 1099511627596) (negsuc 1099511626990) Down Down (dn 3205 1) (dn 1595 0) (dn 6395 2) (dn 3251 1) (dn 6311 2) true
          (stroke Down (dn 3251 1) (dn 1595 0) (negsuc 1099511627596) (negsuc 1099511627456)
          ∷ stroke Up (dn 3205 1) (dn 1595 0) (negsuc 1099511627456) (negsuc 1099511627340)
          ∷ stroke Down (dn 3205 1) (dn 6311 2) (negsuc 1099511627340) (negsuc 1099511626990)
          ∷ [])
          ∷ zone (negsuc 1099511626990) (negsuc 1099511626939) Up Up (dn 1589 0) (dn 6311 2) (dn 12667 3) (dn 1589 0) (dn 6311 2) true
          (stroke Up (dn 1589 0) (dn 6311 2) (negsuc 1099511626990) (negsuc 1099511626939)
          ∷ [])
          ∷ [];
      fin_zones =
          zone (negsuc 1099511627596) (negsuc 1099511626990) Down Down (dn 3205 1) (dn 1595 0) (dn 6395 2) (dn 3251 1) (dn 6311 2) true
          (stroke Down (dn 3251 1) (dn 1595 0) (negsuc 1099511627596) (negsuc 1099511627456)
          ∷ stroke Up (dn 3205 1) (dn 1595 0) (negsuc 1099511627456) (negsuc 1099511627340)
          ∷ stroke Down (dn 3205 1) (dn 6311 2) (negsuc 1099511627340) (negsuc 1099511626990)
          ∷ [])
          ∷ zone (negsuc 1099511626990) (negsuc 1099511626939) Up Up (dn 1589 0) (dn 6311 2) (dn 12667 3) (dn 1589 0) (dn 6311 2) true
          (stroke Up (dn 1589 0) (dn 6311 2) (negsuc 1099511626990) (negsuc 1099511626939)
          ∷ [])
          ∷ [];
      bis =
          (neither ∷ neither ∷ neither ∷ falls ∷ neither ∷ [])
          ∷ (neither ∷ neither ∷ neither ∷ neither ∷ [])
          ∷ (neither ∷ neither ∷ neither ∷ [])
          ∷ (neither ∷ neither ∷ [])
          ∷ (neither ∷ [])
          ∷ [];
      answers =
          answers Weak (up 1337 2) true
          ∷ answers Medium (up 28317 0) false
          ∷ answers Medium (up 28317 0) false
          ∷ answers Strong (dn 2691504551922617 36) false
          ∷ answers Strong (dn 2691504551922617 36) false
          ∷ answers Weak (dn 2251799813889777 0) true
          ∷ answers Weak (dn 2251799813889777 0) true
          ∷ answers Medium (up 34947 0) false
          ∷ answers Medium (up 34947 0) false
          ∷ [];
      ubifx =
          fx (negsuc 1099511626939) G (dn 1589 0) (up 395 1) (dn 1589 0)
          ∷ [];
      unfinished = some (Down, (dn 1589 0), (dn 5845 2), (negsuc 1099511626939), (negsuc 1099511624385), 16, 33, 1, (negsuc 1099511626939));
      gaps =
          Gaps.NoGap
          ∷ Gaps.NoGap
          ∷ Gaps.Down (up 399 1) (up 401 1) (dn 5764607523034235 59) false
          ∷ Gaps.NoGap
          ∷ Gaps.Up (dn 6397 2) (dn 3199 1) (dn 7378697629483821 64) true
          ∷ Gaps.NoGap
          ∷ Gaps.NoGap
          ∷ Gaps.NoGap
          ∷ Gaps.Down (dn 3171 1) (dn 6347 2) (dn 7378697629483821 62) true
          ∷ Gaps.Down (dn 6323 2) (dn 3167 1) (dn 7839866231326559 61) true
          ∷ Gaps.NoGap
          ∷ Gaps.Down (dn 6319 2) (up 395 1) (dn 7378697629483821 64) false
          ∷ Gaps.NoGap
          ∷ Gaps.NoGap
          ∷ Gaps.NoGap
          ∷ Gaps.NoGap
          ∷ Gaps.NoGap
          ∷ Gaps.Down (dn 3099 1) (dn 3103 1) (dn 1498797955988901 59) false
          ∷ Gaps.Down (dn 6173 2) (up 773 0) (dn 4150517416584649 60) false
          ∷ Gaps.NoGap
          ∷ Gaps.Down (dn 1527 0) (dn 6123 2) (dn 5764607523034235 60) false
          ∷ Gaps.Down (up 377 1) (dn 3027 1) (dn 4150517416584649 59) false
          ∷ Gaps.Down (dn 1503 0) (up 753 0) (dn 1152921504606847 58) false
          ∷ Gaps.NoGap
          ∷ Gaps.NoGap
          ∷ Gaps.Down (dn 2973 1) (dn 5953 2) (dn 5534023222112865 61) false
          ∷ Gaps.NoGap
          ∷ Gaps.NoGap
          ∷ Gaps.NoGap
          ∷ Gaps.NoGap
          ∷ Gaps.NoGap
          ∷ Gaps.NoGap
          ∷ [];
    }
unfolding told run_18 settings bar fx kept measured fake stroke zone answers up dn neg neither rises falls
run_18_told = refl

run_18_refused : refused (settings 4 5 64 16 24) run_18
    ≡ (19, 12) ∷ (20, 12) ∷ (21, 12) ∷ (22, 12) ∷ (23, 12) ∷ (24, 12) ∷ (25, 12) ∷ (37, 12) ∷ (38, 12) ∷ (39, 12) ∷ (45, 11) ∷ (46, 11) ∷ (47, 11) ∷ (48, 11) ∷ (49, 11) ∷ (50, 11) ∷ (51, 11) ∷ (52, 11) ∷ (56, 11) ∷ (58, 11) ∷ (59, 11) ∷ []
unfolding refused run_18 settings bar up dn
run_18_refused = refl

unfoldable run_19 : List Bar
unfolding bar up dn neg
run_19 =
    bar (pos 0) (pos 2147483607) (neg (up 31 0)) (neg (up 31 0)) (neg (up 29 0)) (neg (up 31 0)) (up 1 50) (up 13839 0)
    ∷ bar (pos 1) (pos 2147483608) (neg (up 1 5)) (neg (up 1 5)) (neg (up 1 5)) (neg (up 17 1)) (up 7719 1) (up 0 0)
    ∷ bar (pos 2) (pos 2147483609) (neg (up 17 1)) (neg (up 17 1)) (neg (up 1 5)) (neg (up 17 1)) (dn 2787991090060329 34) (up 1063 2)
    ∷ bar (pos 3) (pos 2147483610) (neg (up 1 5)) (neg (up 15 1)) (neg (up 15 1)) (neg (up 1 5)) (up 0 0) (up 963 2)
    ∷ bar (pos 4) (pos 2147483611) (neg (up 13 1)) (neg (up 15 1)) (neg (up 13 1)) (neg (up 15 1)) (up 3085 1) (up 9203 1)
    ∷ bar (pos 5) (pos 2147483612) (neg (up 29 0)) (neg (up 29 0)) (neg (up 29 0)) (neg (up 29 0)) (dn 6566585119581143 35) (up 1849 0)
    ∷ bar (pos 6) (pos 2147483613) (neg (up 15 1)) (neg (up 15 1)) (neg (up 29 0)) (neg (up 15 1)) (up 6919 0) (up 941 4)
    ∷ bar (pos 7) (pos 2147483614) (neg (up 31 0)) (neg (up 31 0)) (neg (up 7 2)) (neg (up 31 0)) (dn 2179788448126481 51) (up 18079 0)
    ∷ bar (pos 8) (pos 2147483615) (neg (up 29 0)) (neg (up 31 0)) (neg (up 27 0)) (neg (up 15 1)) (up 3341 0) (dn 4265747774491853 35)
    ∷ bar (pos 9) (pos 2147483616) (neg (up 15 1)) (neg (up 15 1)) (neg (up 7 2)) (neg (up 15 1)) (up 14405 0) (up 1237 4)
    ∷ bar (pos 10) (pos 2147483617) (neg (up 29 0)) (neg (up 1 5)) (neg (up 29 0)) (neg (up 1 5)) (up 11113 0) (dn 3497590468420567 40)
    ∷ bar (pos 11) (pos 2147483618) (neg (up 15 1)) (neg (up 7 2)) (neg (up 7 2)) (neg (up 15 1)) (dn 6041791655617495 36) (dn 2352517827568599 35)
    ∷ bar (pos 12) (pos 2147483619) (neg (up 31 0)) (neg (up 33 0)) (neg (up 31 0)) (neg (up 33 0)) (up 2187 0) (up 10837 0)
    ∷ bar (pos 13) (pos 2147483620) (neg (up 31 0)) (neg (up 15 1)) (neg (up 15 1)) (neg (up 31 0)) (up 0 0) (dn 8426688726234563 36)
    ∷ bar (pos 13) (pos 2147483621) (neg (up 15 1)) (neg (up 15 1)) (neg (up 15 1)) (neg (up 15 1)) (dn 5749278956553503 35) (up 6125 1)
    ∷ bar (pos 14) (pos 2147483622) (neg (up 29 0)) (neg (up 7 2)) (neg (up 7 2)) (neg (up 29 0)) (dn 5458236854291661 35) (up 1 50)
    ∷ bar (pos 15) (pos 2147483623) (neg (up 13 1)) (neg (up 15 1)) (neg (up 13 1)) (neg (up 15 1)) (up 6285 0) (up 0 0)
    ∷ bar (pos 16) (pos 2147483624) (neg (up 7 2)) (neg (up 7 2)) (neg (up 7 2)) (neg (up 29 0)) (up 5577 1) (up 8887 0)
    ∷ bar (pos 17) (pos 2147483625) (neg (up 25 0)) (neg (up 25 0)) (neg (up 25 0)) (neg (up 27 0)) (up 0 0) (dn 1186333360872489 33)
    ∷ bar (pos 18) (pos 2147483626) (neg (up 25 0)) (neg (up 27 0)) (neg (up 25 0)) (neg (up 27 0)) (up 3495 0) (up 7905 0)
    ∷ bar (pos 18) (pos 2147483627) (neg (up 23 0)) (neg (up 23 0)) (neg (up 23 0)) (neg (up 13 1)) (dn 889480167859159 35) (dn 2602564638788813 34)
    ∷ bar (pos 19) (pos 2147483628) (neg (up 25 0)) (neg (up 25 0)) (neg (up 11 1)) (neg (up 25 0)) (up 17727 0) (dn 2985580888714117 38)
    ∷ bar (pos 20) (pos 2147483629) (neg (up 25 0)) (neg (up 25 0)) (neg (up 25 0)) (neg (up 25 0)) (dn 5328251215266447 36) (up 0 0)
    ∷ bar (pos 21) (pos 2147483630) (neg (up 13 1)) (neg (up 13 1)) (neg (up 3 3)) (neg (up 13 1)) (up 10411 0) (up 771 4)
    ∷ bar (pos 22) (pos 2147483631) (neg (up 25 0)) (neg (up 11 1)) (neg (up 11 1)) (neg (up 25 0)) (up 1 50) (up 17511 0)
    ∷ bar (pos 23) (pos 2147483632) (neg (up 27 0)) (neg (up 27 0)) (neg (up 23 0)) (neg (up 27 0)) (up 4841 2) (up 1399 0)
    ∷ bar (pos 24) (pos 2147483633) (neg (up 3 3)) (neg (up 11 1)) (neg (up 11 1)) (neg (up 13 1)) (up 11291 0) (up 4479 0)
    ∷ bar (pos 25) (pos 2147483634) (neg (up 25 0)) (neg (up 25 0)) (neg (up 25 0)) (neg (up 25 0)) (up 4311 0) (up 7691 1)
    ∷ bar (pos 26) (pos 2147483635) (neg (up 25 0)) (neg (up 3 3)) (neg (up 3 3)) (neg (up 25 0)) (up 3163 0) (up 135 7)
    ∷ bar (pos 27) (pos 2147483636) (neg (up 5 2)) (neg (up 5 2)) (neg (up 5 2)) (neg (up 11 1)) (dn 2071075149012009 34) (up 3925 0)
    ∷ bar (pos 28) (pos 2147483637) (neg (up 23 0)) (neg (up 25 0)) (neg (up 23 0)) (neg (up 25 0)) (dn 4666791891944079 36) (up 0 0)
    ∷ bar (pos 29) (pos 2147483638) (neg (up 13 1)) (neg (up 13 1)) (neg (up 13 1)) (neg (up 7 2)) (up 2627 1) (up 2541 2)
    ∷ bar (pos 30) (pos 2147483639) (neg (up 25 0)) (neg (up 25 0)) (neg (up 25 0)) (neg (up 7 2)) (dn 6527756553641001 35) (dn 7792190802414797 36)
    ∷ bar (pos 31) (pos 2147483640) (neg (up 27 0)) (neg (up 27 0)) (neg (up 27 0)) (neg (up 15 1)) (dn 2331700292883579 34) (dn 1059375763755581 9)
    ∷ bar (pos 32) (pos 2147483641) (neg (up 13 1)) (neg (up 13 1)) (neg (up 13 1)) (neg (up 7 2)) (dn 7745790037333115 37) (up 2469 0)
    ∷ bar (pos 33) (pos 2147483642) (neg (up 7 2)) (neg (up 7 2)) (neg (up 13 1)) (neg (up 7 2)) (dn 3821194607538995 35) (dn 1325612793730171 34)
    ∷ bar (pos 33) (pos 2147483643) (neg (up 13 1)) (neg (up 13 1)) (neg (up 3 3)) (neg (up 13 1)) (dn 3729400504904581 37) (up 4783 0)
    ∷ bar (pos 33) (pos 2147483644) (neg (up 25 0)) (neg (up 25 0)) (neg (up 25 0)) (neg (up 25 0)) (up 8437 0) (up 0 0)
    ∷ bar (pos 34) (pos 2147483645) (neg (up 13 1)) (neg (up 25 0)) (neg (up 25 0)) (neg (up 13 1)) (dn 5806030249221161 36) (up 14363 0)
    ∷ bar (pos 35) (pos 2147483646) (neg (up 27 0)) (neg (up 27 0)) (neg (up 27 0)) (neg (up 29 0)) (up 9235 1) (up 0 0)
    ∷ []

run_19_told : told (settings 5 4 64 64 64) run_19
    ≡ record {
      events = (8, 1, 3);
      raw = map pos (18 ∷ 19 ∷ 20 ∷ 21 ∷ 22 ∷ 23 ∷ 24 ∷ 25 ∷ 26 ∷ 27 ∷ 28 ∷ 29 ∷ 30 ∷ 31 ∷ 32 ∷ 33 ∷ 34 ∷ 35 ∷ []);
      ids = map pos (2147483627 ∷ 2147483628 ∷ 2147483629 ∷ 2147483630 ∷ 2147483631 ∷ 2147483632 ∷ 2147483633 ∷ 2147483634 ∷ 2147483635 ∷ 2147483636 ∷ 2147483637 ∷ 2147483638 ∷ 2147483639 ∷ 2147483640 ∷ 2147483641 ∷ 2147483644 ∷ 2147483645 ∷ 2147483646 ∷ []);
      ubi =
          (bar (pos 32) (pos 2147483641) (neg (up 13 1)) (neg (up 13 1)) (neg (up 13 1)) (neg (up 7 2)) (dn 7745790037333115 37) (up 2469 0), map pos (32 ∷ []))
          ∷ (bar (pos 34) (pos 2147483644) (neg (up 25 0)) (neg (up 25 0)) (neg (up 25 0)) (neg (up 25 0)) (dn 6965602699664425 36) (up 14363 0), map pos (33 ∷ 34 ∷ []))
          ∷ (bar (pos 35) (pos 2147483646) (neg (up 27 0)) (neg (up 27 0)) (neg (up 27 0)) (neg (up 29 0)) (up 9235 1) (up 0 0), map pos (35 ∷ []))
          ∷ [];
      strokes =
          kept Down (fx (pos 19) G (neg (up 11 1)) (neg (up 25 0)) (neg (up 11 1))) (fx (pos 23) D (neg (up 23 0)) (neg (up 27 0)) (neg (up 27 0)))
          (fx (pos 19) G (neg (up 11 1)) (neg (up 25 0)) (neg (up 11 1)) ∷ fx (pos 21) D (neg (up 3 3)) (neg (up 13 1)) (neg (up 13 1)) ∷ fx (pos 22) G (neg (up 11 1)) (neg (up 25 0)) (neg (up 11 1)) ∷ fx (pos 23) D (neg (up 23 0)) (neg (up 27 0)) (neg (up 27 0)) ∷ [])
          (map pos (18 ∷ 19 ∷ 21 ∷ 22 ∷ 23 ∷ 24 ∷ []))
          ∷ kept Up (fx (pos 23) D (neg (up 23 0)) (neg (up 27 0)) (neg (up 27 0))) (fx (pos 27) G (neg (up 5 2)) (neg (up 11 1)) (neg (up 5 2)))
          (fx (pos 23) D (neg (up 23 0)) (neg (up 27 0)) (neg (up 27 0)) ∷ fx (pos 27) G (neg (up 5 2)) (neg (up 11 1)) (neg (up 5 2)) ∷ [])
          (map pos (22 ∷ 23 ∷ 24 ∷ 27 ∷ 28 ∷ []))
          ∷ kept Down (fx (pos 27) G (neg (up 5 2)) (neg (up 11 1)) (neg (up 5 2))) (fx (pos 31) D (neg (up 27 0)) (neg (up 15 1)) (neg (up 15 1)))
          (fx (pos 27) G (neg (up 5 2)) (neg (up 11 1)) (neg (up 5 2)) ∷ fx (pos 31) D (neg (up 27 0)) (neg (up 15 1)) (neg (up 15 1)) ∷ [])
          (map pos (24 ∷ 27 ∷ 28 ∷ 30 ∷ 31 ∷ 32 ∷ []))
          ∷ kept Up (fx (pos 31) D (neg (up 27 0)) (neg (up 15 1)) (neg (up 15 1))) (fx (pos 34) G (neg (up 25 0)) (neg (up 25 0)) (neg (up 25 0)))
          (fx (pos 31) D (neg (up 27 0)) (neg (up 15 1)) (neg (up 15 1)) ∷ fx (pos 34) G (neg (up 25 0)) (neg (up 25 0)) (neg (up 25 0)) ∷ [])
          (map pos (30 ∷ 31 ∷ 32 ∷ 34 ∷ 35 ∷ []))
          ∷ [];
      measures =
          measured (neg (up 11 1)) (neg (up 27 0)) (up 5 0) (dn 4503599627715577 1) (dn 6004799503160661 52) (dn 6005099743135819 52) (dn 4094672781205255 53) (neg (dn 3602879701896397 54)) (neg (dn 6433713753386423 53)) 6
          (map pos (19 ∷ 20 ∷ 21 ∷ 22 ∷ 23 ∷ []))
          (fake Down (pos 19) (pos 21) (neg (up 11 1)) (neg (up 13 1)) (up 1 2) ∷ fake Up (pos 21) (pos 22) (neg (up 11 1)) (neg (up 13 1)) (up 1 2) ∷ fake Down (pos 22) (pos 23) (neg (up 11 1)) (neg (up 27 0)) (up 5 0) ∷ [])
          ∷ measured (neg (up 5 2)) (neg (up 27 0)) (up 7 0) (dn 3381177613245481 34) (dn 5254199565265579 50) (dn 5254124505271789 50) (neg (dn 2335566766754339 52)) (dn 5404319552844595 51) (dn 2573485501354569 53) 5
          (map pos (23 ∷ 24 ∷ 25 ∷ 26 ∷ 27 ∷ []))
          (fake Up (pos 23) (pos 27) (neg (up 5 2)) (neg (up 27 0)) (up 7 0) ∷ [])
          ∷ measured (neg (up 5 2)) (neg (up 15 1)) (up 5 1) (dn 2253469439271895 32) (dn 7 0) (dn 7 0) (dn 1 0) (neg (dn 3152519739159347 50)) (dn 2573485501354569 51) 6
          (map pos (27 ∷ 28 ∷ 29 ∷ 30 ∷ 31 ∷ []))
          (fake Down (pos 27) (pos 31) (neg (up 5 2)) (neg (up 15 1)) (up 5 1) ∷ [])
          ∷ measured (neg (up 25 0)) (neg (up 15 1)) (up 5 0) (dn 5041324722466325 34) (up 1 1) (up 1 1) (neg (dn 6006000463061293 54)) (dn 3152519739159347 51) (neg (dn 1 1)) 5
          (map pos (31 ∷ 32 ∷ 33 ∷ 34 ∷ []))
          (fake Up (pos 31) (pos 34) (neg (up 25 0)) (neg (up 15 1)) (up 5 0) ∷ [])
          ∷ [];
      fxs =
          fx (pos 21) D (neg (up 3 3)) (neg (up 13 1)) (neg (up 13 1))
          ∷ fx (pos 22) G (neg (up 11 1)) (neg (up 25 0)) (neg (up 11 1))
          ∷ fx (pos 23) D (neg (up 23 0)) (neg (up 27 0)) (neg (up 27 0))
          ∷ fx (pos 27) G (neg (up 5 2)) (neg (up 11 1)) (neg (up 5 2))
          ∷ fx (pos 31) D (neg (up 27 0)) (neg (up 15 1)) (neg (up 15 1))
          ∷ fx (pos 34) G (neg (up 25 0)) (neg (up 25 0)) (neg (up 25 0))
          ∷ [];
      finished = 3;
      extend = false;
      zones =
          zone (pos 19) (pos 34) Down Up (neg (up 11 1)) (neg (up 27 0)) (neg (dn 49 0)) (neg (up 5 2)) (neg (up 15 1)) true
          (stroke Down (neg (up 11 1)) (neg (up 27 0)) (pos 19) (pos 23)
          ∷ stroke Up (neg (up 5 2)) (neg (up 27 0)) (pos 23) (pos 27)
          ∷ stroke Down (neg (up 5 2)) (neg (up 15 1)) (pos 27) (pos 31)
          ∷ stroke Up (neg (up 25 0)) (neg (up 15 1)) (pos 31) (pos 34)
          ∷ [])
          ∷ [];
      fin_zones =
          zone (pos 19) (pos 31) Down Down (neg (up 11 1)) (neg (up 27 0)) (neg (dn 49 0)) (neg (up 5 2)) (neg (up 15 1)) true
          (stroke Down (neg (up 11 1)) (neg (up 27 0)) (pos 19) (pos 23)
          ∷ stroke Up (neg (up 5 2)) (neg (up 27 0)) (pos 23) (pos 27)
          ∷ stroke Down (neg (up 5 2)) (neg (up 15 1)) (pos 27) (pos 31)
          ∷ [])
          ∷ [];
      bis =
          (neither ∷ neither ∷ neither ∷ neither ∷ neither ∷ [])
          ∷ (neither ∷ neither ∷ neither ∷ neither ∷ [])
          ∷ (neither ∷ neither ∷ neither ∷ [])
          ∷ (neither ∷ neither ∷ [])
          ∷ (neither ∷ [])
          ∷ [];
      answers =
          answers Medium (dn 2743617205944975 34) true
          ∷ answers Medium (dn 4503599627638121 1) true
          ∷ answers Strong (up 1125899906872399 0) true
          ∷ answers Medium (up 1125899906873279 0) true
          ∷ answers Medium (up 1125899906880753 0) true
          ∷ answers Medium (dn 3882533612473549 34) false
          ∷ answers Medium (dn 3882533612473549 34) false
          ∷ answers Medium (dn 6744328389756191 34) true
          ∷ answers Medium (dn 6744328389756191 34) true
          ∷ answers Medium (dn 6688497594479411 35) false
          ∷ answers Medium (dn 6688497594479411 35) false
          ∷ [];
      ubifx =
          fx (pos 34) G (neg (up 25 0)) (neg (up 25 0)) (neg (up 25 0))
          ∷ [];
      unfinished = some (Down, (neg (up 25 0)), (neg (up 29 0)), (pos 34), (pos 35), 3, 18, 1, (pos 34));
      gaps =
          Gaps.NoGap
          ∷ Gaps.NoGap
          ∷ Gaps.NoGap
          ∷ Gaps.NoGap
          ∷ Gaps.NoGap
          ∷ Gaps.NoGap
          ∷ Gaps.NoGap
          ∷ Gaps.NoGap
          ∷ Gaps.UpNoRatio (neg (up 3 3)) (neg (up 11 1)) true
          ∷ Gaps.DownNoRatio (neg (up 23 0)) (neg (up 11 1)) false
          ∷ Gaps.DownNoRatio (neg (up 13 1)) (neg (up 25 0)) false
          ∷ Gaps.NoGap
          ∷ Gaps.NoGap
          ∷ Gaps.NoGap
          ∷ Gaps.UpNoRatio (neg (up 13 1)) (neg (up 25 0)) true
          ∷ Gaps.NoGap
          ∷ Gaps.DownNoRatio (neg (up 27 0)) (neg (up 13 1)) false
          ∷ [];
    }
unfolding told run_19 settings bar fx kept measured fake stroke zone answers up dn neg neither rises falls
run_19_told = refl

unfoldable run_20 : List Bar
unfolding bar up dn neg
run_20 =
    bar (negsuc 1099511627775) (pos 0) (neg (dn 1 18)) (neg (dn 1 19)) (up 0 0) (up 0 0) (up 1 50) (dn 511173816398037 41)
    ∷ bar (negsuc 1099511627705) (pos 1) (neg (dn 4503599627370497 71)) (neg (dn 4503599627370497 71)) (neg (dn 1 19)) (neg (dn 1 18)) (dn 5036691655344783 35) (dn 1222083419263077 34)
    ∷ bar (negsuc 1099511627635) (pos 2) (neg (dn 4503599627370497 71)) (neg (dn 4503599627370497 71)) (neg (dn 1 18)) (neg (dn 5764607523034235 58)) (up 1 50) (dn 3946053275624869 42)
    ∷ bar (negsuc 1099511627565) (pos 3) (neg (up 1 0)) (up 0 0) (neg (dn 1 18)) (neg (dn 5764607523034235 58)) (up 6823 0) (up 16639 0)
    ∷ bar (negsuc 1099511627495) (pos 4) (up 0 0) (neg (up 1 1)) (neg (dn 5764607523034235 58)) (neg (up 1 0)) (up 121 5) (up 3013 1)
    ∷ bar (negsuc 1099511627425) (pos 5) (neg (dn 5764607523034235 58)) (neg (dn 5764607523034235 58)) (neg (up 1 0)) (neg (up 1 1)) (dn 2350085499494049 12) (up 5819 1)
    ∷ bar (negsuc 1099511627425) (pos 6) (neg (dn 5764607523034235 58)) (neg (dn 5764607523034235 58)) (neg (dn 5764607523034235 58)) (neg (up 1 0)) (dn 5158736071638385 35) (dn 6584439126831923 36)
    ∷ bar (negsuc 1099511627355) (pos 7) (neg (dn 1 19)) (neg (dn 1 19)) (neg (dn 1 18)) (neg (up 1 0)) (up 1953 0) (up 3079 2)
    ∷ bar (negsuc 1099511627355) (pos 8) (neg (up 1 0)) (neg (dn 1 19)) (neg (up 1 0)) (neg (up 1 1)) (up 1 50) (up 8469 0)
    ∷ bar (negsuc 1099511627309) (pos 9) (neg (dn 5764607523034235 58)) (up 0 0) (neg (dn 1 18)) (neg (up 1 0)) (dn 3095699727014953 34) (up 2341 2)
    ∷ bar (negsuc 1099511627239) (pos 10) (up 0 0) (neg (dn 4503599627370497 71)) (neg (dn 4503599627370497 71)) (neg (dn 4503599627370497 71)) (dn 6719217949359473 35) (up 0 0)
    ∷ bar (negsuc 1099511627169) (pos 11) (neg (dn 5764607523034235 58)) (up 0 0) (neg (dn 1 19)) (neg (up 1 1)) (up 163 0) (up 1 50)
    ∷ bar (negsuc 1099511627099) (pos 12) (neg (up 1 1)) (neg (dn 1 19)) (neg (dn 1 19)) (neg (dn 1 18)) (up 3043 2) (up 14943 0)
    ∷ bar (negsuc 1099511627029) (pos 13) (neg (up 1 1)) (neg (up 1 0)) (up 0 0) (neg (dn 1 19)) (up 8581 0) (up 1 50)
    ∷ bar (negsuc 1099511627014) (pos 14) (neg (dn 1 18)) (neg (dn 4503599627370497 71)) (neg (up 1 0)) (neg (up 1 1)) (up 5473 1) (dn 3743949792519127 37)
    ∷ bar (negsuc 1099511626974) (pos 15) (neg (dn 1 18)) (neg (up 1 0)) (up 0 0) (neg (dn 5764607523034235 58)) (up 43 7) (up 0 0)
    ∷ bar (negsuc 1099511626923) (pos 16) (neg (dn 5764607523034235 58)) (neg (up 1 0)) (neg (dn 5764607523034235 58)) (neg (dn 5764607523034235 58)) (up 11873 0) (dn 1025527551927255 34)
    ∷ bar (negsuc 1099511626923) (pos 17) (neg (dn 1 18)) (neg (dn 1 19)) (neg (dn 5764607523034235 58)) (neg (up 1 0)) (up 257 3) (up 3115 1)
    ∷ bar (negsuc 1099511626853) (pos 18) (neg (dn 1 19)) (neg (up 1 1)) (up 0 0) (neg (dn 1 19)) (up 5985 1) (up 1643 0)
    ∷ bar (negsuc 1099511626783) (pos 19) (up 0 0) (neg (up 1 0)) (neg (dn 1 18)) (neg (up 1 1)) (up 7983 0) (dn 4463137599468339 39)
    ∷ bar (negsuc 1099511626713) (pos 20) (neg (dn 5764607523034235 58)) (up 0 0) (neg (dn 1 18)) (neg (up 1 0)) (up 1 50) (up 15363 0)
    ∷ bar (negsuc 1099511626713) (pos 21) (neg (dn 1 19)) (neg (dn 5764607523034235 58)) (neg (dn 1 18)) (neg (dn 5764607523034235 58)) (up 8543 0) (dn 8244154677738865 36)
    ∷ bar (negsuc 1099511626643) (pos 22) (neg (dn 1 19)) (neg (dn 5764607523034235 58)) (neg (dn 1 19)) (neg (dn 5764607523034235 58)) (dn 1602734735186985 34) (up 1 50)
    ∷ bar (negsuc 1099511626643) (pos 23) (neg (up 1 1)) (neg (dn 1 19)) (neg (dn 5764607523034235 58)) (neg (up 1 1)) (up 7915 0) (up 1495 3)
    ∷ bar (negsuc 1099511626573) (pos 24) (neg (dn 4503599627370497 71)) (up 0 0) (neg (dn 1 18)) (neg (dn 5764607523034235 58)) (up 6297 0) (dn 1741532959908823 34)
    ∷ bar (negsuc 1099511626503) (pos 25) (neg (dn 1 18)) (neg (dn 5764607523034235 58)) (neg (dn 4503599627370497 71)) (neg (dn 1 18)) (dn 5013462410623713 36) (dn 5792634074426245 37)
    ∷ bar (negsuc 1099511626433) (pos 26) (neg (dn 1 19)) (neg (dn 5764607523034235 58)) (neg (up 1 0)) (neg (up 1 1)) (up 19767 0) (up 2197 2)
    ∷ bar (negsuc 1099511626433) (pos 27) (neg (dn 1 18)) (neg (dn 1 19)) (neg (dn 1 19)) (neg (dn 1 19)) (up 0 0) (up 1 50)
    ∷ bar (negsuc 1099511626433) (pos 28) (neg (dn 1 18)) (neg (up 1 0)) (neg (dn 1 19)) (neg (dn 1 19)) (dn 207552481300693 50) (up 3189 2)
    ∷ bar (negsuc 1099511626363) (pos 29) (neg (dn 4503599627370497 71)) (neg (dn 5764607523034235 58)) (up 0 0) (up 0 0) (dn 7366364777092543 43) (dn 3506111683535831 39)
    ∷ bar (negsuc 1099511626293) (pos 30) (neg (up 1 0)) (neg (dn 1 19)) (neg (dn 1 19)) (neg (dn 1 19)) (up 12489 0) (up 12169 0)
    ∷ bar (negsuc 1099511626223) (pos 31) (neg (dn 1 18)) (neg (dn 1 19)) (up 0 0) (neg (dn 1 19)) (up 17473 0) (up 12921 0)
    ∷ bar (negsuc 1099511626153) (pos 32) (neg (dn 1 19)) (neg (dn 5764607523034235 58)) (neg (dn 4503599627370497 71)) (neg (dn 1 18)) (up 1 50) (dn 726541993550807 33)
    ∷ bar (negsuc 1099511626083) (pos 33) (neg (dn 4503599627370497 71)) (neg (up 1 1)) (neg (dn 4503599627370497 71)) (neg (dn 4503599627370497 71)) (up 19905 0) (dn 6771633043045089 35)
    ∷ bar (negsuc 1099511626083) (pos 34) (neg (up 1 1)) (neg (dn 1 18)) (neg (dn 4503599627370497 71)) (neg (dn 4503599627370497 71)) (up 8221 1) (up 11167 0)
    ∷ bar (negsuc 1099511626013) (pos 35) (neg (up 1 1)) (up 0 0) (neg (dn 1 18)) (neg (dn 5764607523034235 58)) (dn 808560922418217 34) (up 2653 0)
    ∷ bar (negsuc 1099511626013) (pos 36) (neg (dn 4503599627370497 71)) (neg (up 1 0)) (neg (dn 4503599627370497 71)) (neg (dn 4503599627370497 71)) (dn 2836205092354071 25) (dn 2903905406509083 13)
    ∷ bar (negsuc 1099511626013) (pos 37) (neg (dn 1 18)) (neg (dn 5764607523034235 58)) (neg (dn 1 19)) (neg (up 1 0)) (dn 2239556064515195 34) (dn 1432304076330107 33)
    ∷ bar (negsuc 1099511626013) (pos 38) (neg (up 1 1)) (neg (up 1 1)) (up 0 0) (up 0 0) (up 15375 2) (up 1 50)
    ∷ bar (negsuc 1099511626013) (pos 39) (neg (dn 4503599627370497 71)) (neg (dn 1 19)) (up 0 0) (up 0 0) (dn 4852356469363835 37) (dn 4095366078262149 35)
    ∷ []

run_20_told : told (settings 1 5 64 64 64) run_20
    ≡ record {
      events = (9, 1, 3);
      raw = (negsuc 1099511627014) ∷ (negsuc 1099511626974) ∷ (negsuc 1099511626923) ∷ (negsuc 1099511626853) ∷ (negsuc 1099511626783) ∷ (negsuc 1099511626713) ∷ (negsuc 1099511626643) ∷ (negsuc 1099511626573) ∷ (negsuc 1099511626503) ∷ (negsuc 1099511626433) ∷ (negsuc 1099511626363) ∷ (negsuc 1099511626293) ∷ (negsuc 1099511626223) ∷ (negsuc 1099511626153) ∷ (negsuc 1099511626083) ∷ (negsuc 1099511626013) ∷ [];
      ids = map pos (14 ∷ 15 ∷ 17 ∷ 18 ∷ 19 ∷ 21 ∷ 23 ∷ 24 ∷ 25 ∷ 28 ∷ 29 ∷ 30 ∷ 31 ∷ 32 ∷ 34 ∷ 39 ∷ []);
      ubi =
          (bar (negsuc 1099511626223) (pos 30) (neg (dn 1 19)) (neg (dn 1 19)) (neg (dn 1 19)) (neg (dn 1 19)) (up 14981 1) (up 12545 1), (negsuc 1099511626293) ∷ (negsuc 1099511626223) ∷ [])
          ∷ (bar (negsuc 1099511626153) (pos 32) (neg (dn 1 18)) (neg (dn 4503599627370497 71)) (neg (dn 4503599627370497 71)) (neg (dn 1 18)) (up 562949953429533 1) (dn 918389592728535 33), (negsuc 1099511626153) ∷ (negsuc 1099511626083) ∷ [])
          ∷ (bar (negsuc 1099511626013) (pos 39) (neg (dn 4503599627370497 71)) (neg (dn 1 19)) (up 0 0) (up 0 0) (dn 4852356469363835 37) (dn 4095366078262149 35), (negsuc 1099511626013) ∷ [])
          ∷ [];
      strokes =
          kept Down (fx (negsuc 1099511626974) G (up 0 0) (neg (dn 5764607523034235 58)) (up 0 0)) (fx (negsuc 1099511626923) D (neg (dn 5764607523034235 58)) (neg (up 1 0)) (neg (up 1 0)))
          (fx (negsuc 1099511626974) G (up 0 0) (neg (dn 5764607523034235 58)) (up 0 0) ∷ fx (negsuc 1099511626923) D (neg (dn 5764607523034235 58)) (neg (up 1 0)) (neg (up 1 0)) ∷ [])
          ((negsuc 1099511627014) ∷ (negsuc 1099511626974) ∷ (negsuc 1099511626923) ∷ (negsuc 1099511626853) ∷ [])
          ∷ kept Up (fx (negsuc 1099511626923) D (neg (dn 5764607523034235 58)) (neg (up 1 0)) (neg (up 1 0))) (fx (negsuc 1099511626853) G (up 0 0) (neg (dn 1 19)) (up 0 0))
          (fx (negsuc 1099511626923) D (neg (dn 5764607523034235 58)) (neg (up 1 0)) (neg (up 1 0)) ∷ fx (negsuc 1099511626853) G (up 0 0) (neg (dn 1 19)) (up 0 0) ∷ [])
          ((negsuc 1099511626974) ∷ (negsuc 1099511626923) ∷ (negsuc 1099511626853) ∷ (negsuc 1099511626783) ∷ [])
          ∷ kept Down (fx (negsuc 1099511626853) G (up 0 0) (neg (dn 1 19)) (up 0 0)) (fx (negsuc 1099511626783) D (neg (dn 1 18)) (neg (up 1 1)) (neg (up 1 1)))
          (fx (negsuc 1099511626853) G (up 0 0) (neg (dn 1 19)) (up 0 0) ∷ fx (negsuc 1099511626783) D (neg (dn 1 18)) (neg (up 1 1)) (neg (up 1 1)) ∷ [])
          ((negsuc 1099511626923) ∷ (negsuc 1099511626853) ∷ (negsuc 1099511626783) ∷ (negsuc 1099511626643) ∷ [])
          ∷ kept Up (fx (negsuc 1099511626643) D (neg (dn 5764607523034235 58)) (neg (up 1 1)) (neg (up 1 1))) (fx (negsuc 1099511626363) G (up 0 0) (up 0 0) (up 0 0))
          (fx (negsuc 1099511626643) D (neg (dn 5764607523034235 58)) (neg (up 1 1)) (neg (up 1 1)) ∷ fx (negsuc 1099511626363) G (up 0 0) (up 0 0) (up 0 0) ∷ [])
          ((negsuc 1099511626853) ∷ (negsuc 1099511626643) ∷ (negsuc 1099511626573) ∷ (negsuc 1099511626503) ∷ (negsuc 1099511626433) ∷ (negsuc 1099511626363) ∷ (negsuc 1099511626293) ∷ [])
          ∷ kept Down (fx (negsuc 1099511626363) G (up 0 0) (up 0 0) (up 0 0)) (fx (negsuc 1099511626153) D (neg (dn 4503599627370497 71)) (neg (dn 1 18)) (neg (dn 1 18)))
          (fx (negsuc 1099511626363) G (up 0 0) (up 0 0) (up 0 0) ∷ fx (negsuc 1099511626153) D (neg (dn 4503599627370497 71)) (neg (dn 1 18)) (neg (dn 1 18)) ∷ [])
          ((negsuc 1099511626433) ∷ (negsuc 1099511626363) ∷ (negsuc 1099511626223) ∷ (negsuc 1099511626153) ∷ (negsuc 1099511626013) ∷ [])
          ∷ [];
      measures =
          measured (up 0 0) (neg (up 1 0)) (up 1 0) (up 945 3) (dn 1099512676353 59) (up 0 0) (up 0 0) (dn 1048575 19) (up 0 0) 4
          ((negsuc 1099511626974) ∷ (negsuc 1099511626923) ∷ [])
          (fake Down (negsuc 1099511626974) (negsuc 1099511626923) (up 0 0) (neg (up 1 0)) (up 1 0) ∷ [])
          ∷ measured (up 0 0) (neg (up 1 0)) (up 1 0) (up 7013 1) (dn 1048575 19) (up 1 0) (neg (up 1 0)) (neg (dn 2097151 19)) (up 0 0) 4
          ((negsuc 1099511626923) ∷ (negsuc 1099511626853) ∷ [])
          (fake Up (negsuc 1099511626923) (negsuc 1099511626853) (up 0 0) (neg (up 1 0)) (up 1 0) ∷ [])
          ∷ measured (up 0 0) (neg (up 1 1)) (up 1 1) (up 1781 4) (dn 7659882285364583 60) (dn 3804640965202595 59) (up 0 0) (dn 8962163258467287 52) (neg (dn 5629499534213 49)) 4
          ((negsuc 1099511626853) ∷ (negsuc 1099511626783) ∷ (negsuc 1099511626713) ∷ [])
          (fake Down (negsuc 1099511626853) (negsuc 1099511626783) (up 0 0) (neg (up 1 1)) (up 1 1) ∷ [])
          ∷ measured (up 0 0) (neg (up 1 1)) (up 1 1) (dn 4647811677632605 35) (dn 5721702935976119 60) (dn 5764607523034235 60) (neg (up 1 0)) (dn 5044036491189009 56) (neg (dn 8612593235999241 56)) 7
          ((negsuc 1099511626783) ∷ (negsuc 1099511626713) ∷ (negsuc 1099511626643) ∷ (negsuc 1099511626573) ∷ (negsuc 1099511626503) ∷ (negsuc 1099511626433) ∷ (negsuc 1099511626363) ∷ [])
          (fake Up (negsuc 1099511626643) (negsuc 1099511626363) (up 0 0) (neg (up 1 1)) (up 1 1) ∷ [])
          ∷ measured (up 0 0) (neg (dn 1 18)) (up 0 0) (dn 4503599627557787 1) (dn 745630019217895 70) (up 0 0) (up 0 0) (dn 576295825559257 58) (neg (dn 3294375587913213 61)) 5
          ((negsuc 1099511626363) ∷ (negsuc 1099511626293) ∷ (negsuc 1099511626223) ∷ (negsuc 1099511626153) ∷ (negsuc 1099511626083) ∷ [])
          (fake Down (negsuc 1099511626363) (negsuc 1099511626153) (up 0 0) (neg (dn 1 18)) (up 0 0) ∷ [])
          ∷ [];
      fxs =
          fx (negsuc 1099511626923) D (neg (dn 5764607523034235 58)) (neg (up 1 0)) (neg (up 1 0))
          ∷ fx (negsuc 1099511626853) G (up 0 0) (neg (dn 1 19)) (up 0 0)
          ∷ fx (negsuc 1099511626783) D (neg (dn 1 18)) (neg (up 1 1)) (neg (up 1 1))
          ∷ fx (negsuc 1099511626363) G (up 0 0) (up 0 0) (up 0 0)
          ∷ fx (negsuc 1099511626153) D (neg (dn 4503599627370497 71)) (neg (dn 1 18)) (neg (dn 1 18))
          ∷ [];
      finished = 4;
      extend = false;
      zones =
          zone (negsuc 1099511626974) (negsuc 1099511626153) Down Down (up 0 0) (neg (up 1 0)) (neg (dn 1 0)) (up 0 0) (neg (up 1 1)) true
          (stroke Down (up 0 0) (neg (up 1 0)) (negsuc 1099511626974) (negsuc 1099511626923)
          ∷ stroke Up (up 0 0) (neg (up 1 0)) (negsuc 1099511626923) (negsuc 1099511626853)
          ∷ stroke Down (up 0 0) (neg (up 1 1)) (negsuc 1099511626853) (negsuc 1099511626783)
          ∷ stroke Up (up 0 0) (neg (up 1 1)) (negsuc 1099511626643) (negsuc 1099511626363)
          ∷ stroke Down (up 0 0) (neg (dn 1 18)) (negsuc 1099511626363) (negsuc 1099511626153)
          ∷ [])
          ∷ [];
      fin_zones =
          zone (negsuc 1099511626974) (negsuc 1099511626363) Down Up (up 0 0) (neg (up 1 0)) (neg (dn 1 0)) (up 0 0) (neg (up 1 1)) true
          (stroke Down (up 0 0) (neg (up 1 0)) (negsuc 1099511626974) (negsuc 1099511626923)
          ∷ stroke Up (up 0 0) (neg (up 1 0)) (negsuc 1099511626923) (negsuc 1099511626853)
          ∷ stroke Down (up 0 0) (neg (up 1 1)) (negsuc 1099511626853) (negsuc 1099511626783)
          ∷ stroke Up (up 0 0) (neg (up 1 1)) (negsuc 1099511626643) (negsuc 1099511626363)
          ∷ [])
          ∷ [];
      bis =
          (neither ∷ neither ∷ neither ∷ falls ∷ neither ∷ neither ∷ [])
          ∷ (neither ∷ neither ∷ neither ∷ neither ∷ neither ∷ [])
          ∷ (neither ∷ neither ∷ neither ∷ neither ∷ [])
          ∷ (neither ∷ neither ∷ neither ∷ [])
          ∷ (neither ∷ neither ∷ [])
          ∷ (neither ∷ [])
          ∷ [];
      answers =
          answers Weak (up 9253 1) false
          ∷ answers Weak (up 9765 1) false
          ∷ answers Weak (up 9765 1) false
          ∷ answers Medium (up 22009 0) false
          ∷ answers Strong (up 3819 3) false
          ∷ answers Weak (dn 2581849839721513 34) false
          ∷ answers Medium (up 10677 2) false
          ∷ answers Medium (dn 7096149930923879 38) false
          ∷ answers Medium (dn 2087754158373613 35) false
          ∷ answers Weak (up 8796093023051 7) false
          ∷ answers Medium (dn 4503599627626723 1) false
          ∷ [];
      ubifx =
          fx (negsuc 1099511626153) D (neg (dn 4503599627370497 71)) (neg (dn 1 18)) (neg (dn 1 18))
          ∷ [];
      unfinished = some (Up, (up 0 0), (neg (dn 1 18)), (negsuc 1099511626013), (negsuc 1099511626153), 3, 16, 1, (negsuc 1099511626153));
      gaps =
          Gaps.UpNoRatio (neg (up 1 0)) (neg (dn 5764607523034235 58)) true
          ∷ Gaps.NoGap
          ∷ Gaps.UpNoRatio (neg (dn 5764607523034235 58)) (neg (dn 1 19)) true
          ∷ Gaps.DownNoRatio (neg (dn 1 18)) (neg (dn 1 19)) true
          ∷ Gaps.NoGap
          ∷ Gaps.NoGap
          ∷ Gaps.NoGap
          ∷ Gaps.NoGap
          ∷ Gaps.UpNoRatio (neg (dn 4503599627370497 71)) (neg (dn 1 19)) true
          ∷ Gaps.UpNoRatio (neg (dn 1 19)) (up 0 0) true
          ∷ Gaps.DownNoRatio (neg (dn 1 19)) (up 0 0) false
          ∷ Gaps.NoGap
          ∷ Gaps.DownNoRatio (neg (dn 4503599627370497 71)) (neg (dn 1 19)) true
          ∷ Gaps.NoGap
          ∷ Gaps.UpNoRatio (neg (dn 4503599627370497 71)) (up 0 0) false
          ∷ [];
    }
unfolding told run_20 settings bar fx kept measured fake stroke zone answers up dn neg neither rises falls
run_20_told = refl

unfoldable run_21 : List Bar
unfolding bar up dn neg
run_21 =
    bar (pos 0) (pos 0) (dn 17 0) (dn 31 1) (dn 17 0) (dn 31 1) (up 1907 2) (up 1915 0)
    ∷ bar (pos 0) (pos 1) (dn 39 1) (dn 39 1) (dn 47 1) (dn 39 1) (up 0 0) (dn 660075227161559 32)
    ∷ bar (pos 0) (pos 2) (up 13 0) (up 13 0) (up 13 0) (up 13 0) (up 649 0) (up 19855 0)
    ∷ bar (pos 70) (pos 3) (dn 29 0) (dn 65 1) (dn 65 1) (dn 29 0) (up 0 0) (dn 4542047487409521 35)
    ∷ bar (pos 70) (pos 4) (dn 65 1) (dn 65 1) (dn 71 1) (dn 65 1) (up 18839 0) (dn 8941173581493043 37)
    ∷ bar (pos 140) (pos 5) (dn 47 1) (dn 57 1) (dn 57 1) (dn 47 1) (dn 6370912594328289 35) (up 14061 0)
    ∷ bar (pos 140) (pos 6) (neg (up 11 0)) (neg (dn 47 1)) (neg (up 11 0)) (neg (dn 47 1)) (up 18063 0) (up 19305 0)
    ∷ bar (pos 140) (pos 7) (neg (dn 27 0)) (neg (dn 27 0)) (neg (dn 53 1)) (neg (dn 27 0)) (up 18297 0) (up 7957 1)
    ∷ bar (pos 210) (pos 8) (neg (dn 67 1)) (neg (dn 67 1)) (neg (dn 67 1)) (neg (up 9 1)) (up 1777 3) (up 11145 1)
    ∷ bar (pos 280) (pos 9) (neg (dn 71 1)) (neg (dn 79 1)) (neg (dn 71 1)) (neg (dn 79 1)) (up 335 4) (dn 8435791308123013 37)
    ∷ bar (pos 350) (pos 10) (neg (dn 85 1)) (up 0 0) (neg (dn 85 1)) (neg (dn 43 0)) (up 7213 1) (up 3053 0)
    ∷ bar (pos 420) (pos 11) (neg (dn 101 1)) (neg (dn 101 1)) (neg (up 25 0)) (neg (dn 101 1)) (dn 1551306796784681 33) (dn 5656311812451205 35)
    ∷ bar (pos 490) (pos 12) (neg (dn 103 1)) (neg (dn 103 1)) (neg (dn 103 1)) (neg (dn 55 0)) (up 6499 1) (up 11847 3)
    ∷ bar (pos 560) (pos 13) (dn 117 1) (dn 57 0) (dn 117 1) (dn 57 0) (up 1 50) (up 10229 0)
    ∷ bar (pos 592) (pos 14) (neg (up 25 0)) (neg (up 25 0)) (neg (up 25 0)) (neg (dn 107 1)) (dn 2368368662072525 36) (dn 6263805043498025 35)
    ∷ bar (pos 662) (pos 15) (neg (dn 43 0)) (neg (dn 95 1)) (neg (dn 43 0)) (neg (dn 95 1)) (up 0 0) (up 231 5)
    ∷ bar (pos 732) (pos 16) (neg (dn 109 1)) (neg (dn 109 1)) (neg (dn 51 0)) (neg (dn 109 1)) (up 8715 0) (up 6097 0)
    ∷ bar (pos 802) (pos 17) (dn 57 0) (dn 57 0) (dn 57 0) (dn 109 1) (dn 4531913426175263 35) (dn 5679945127695483 39)
    ∷ bar (pos 872) (pos 18) (dn 103 1) (dn 107 1) (dn 107 1) (dn 103 1) (up 4069 2) (up 2243 1)
    ∷ bar (pos 872) (pos 19) (dn 107 1) (dn 107 1) (dn 107 1) (dn 97 1) (up 13915 0) (up 939 0)
    ∷ bar (pos 942) (pos 20) (dn 43 0) (up 23 0) (up 23 0) (dn 43 0) (up 1 50) (dn 6489727195215299 35)
    ∷ bar (pos 1012) (pos 21) (up 11 1) (dn 93 1) (dn 93 1) (up 11 1) (up 15971 0) (dn 5843327745219625 35)
    ∷ bar (pos 1012) (pos 22) (up 21 0) (dn 41 0) (up 21 0) (dn 41 0) (dn 4859232540206039 35) (up 12991 0)
    ∷ bar (pos 1082) (pos 23) (up 25 0) (up 25 0) (dn 101 1) (up 25 0) (up 8651 0) (up 7139 0)
    ∷ bar (pos 1152) (pos 24) (dn 109 1) (dn 107 1) (dn 109 1) (dn 107 1) (up 689 0) (up 619 2)
    ∷ bar (pos 1222) (pos 25) (up 13 1) (dn 95 1) (up 13 1) (dn 95 1) (dn 743874419973161 33) (dn 8471892398031503 36)
    ∷ bar (pos 1224) (pos 26) (up 11 1) (dn 45 0) (dn 45 0) (up 11 1) (dn 7991359087449211 36) (up 13345 0)
    ∷ bar (pos 1294) (pos 27) (dn 75 1) (dn 75 1) (dn 79 1) (dn 75 1) (up 17941 0) (up 1195 0)
    ∷ bar (pos 1294) (pos 28) (dn 69 1) (dn 69 1) (up 9 1) (dn 69 1) (up 4349 2) (dn 6188692593841275 35)
    ∷ bar (pos 1364) (pos 29) (dn 29 0) (dn 29 0) (dn 33 0) (dn 29 0) (up 0 0) (up 14241 0)
    ∷ bar (pos 1434) (pos 30) (up 3 2) (up 3 2) (dn 29 0) (up 3 2) (dn 1650642861990871 33) (dn 3197009415593001 34)
    ∷ bar (pos 1504) (pos 31) (up 5 1) (dn 43 1) (dn 43 1) (up 5 1) (up 0 0) (up 1771 1)
    ∷ bar (pos 1574) (pos 32) (dn 17 0) (dn 17 0) (dn 39 1) (dn 17 0) (up 3569 0) (up 15729 0)
    ∷ bar (pos 1644) (pos 33) (neg (up 5 0)) (neg (dn 27 1)) (neg (up 5 0)) (neg (dn 27 1)) (up 0 0) (up 5205 1)
    ∷ bar (pos 1714) (pos 34) (neg (up 9 0)) (neg (dn 21 0)) (neg (up 9 0)) (neg (dn 21 0)) (up 13681 0) (up 211 1)
    ∷ bar (pos 1780) (pos 35) (dn 53 1) (dn 45 1) (dn 53 1) (dn 45 1) (up 19151 0) (up 3797 0)
    ∷ bar (pos 1850) (pos 36) (dn 31 1) (dn 31 1) (dn 37 1) (dn 31 1) (up 151 7) (up 5399 0)
    ∷ bar (pos 1920) (pos 37) (up 7 0) (up 1 3) (up 1 3) (up 7 0) (dn 6172878180660019 35) (dn 3163768430306263 35)
    ∷ bar (pos 1990) (pos 38) (dn 23 1) (up 0 0) (dn 23 1) (dn 17 1) (up 1 50) (up 4383 1)
    ∷ bar (pos 2060) (pos 39) (dn 15 1) (up 3 1) (up 3 1) (dn 15 1) (up 1913 2) (up 0 0)
    ∷ []

run_21_told : told (settings 1 5 64 64 64) run_21
    ≡ record {
      events = (11, 1, 5);
      raw = map pos (662 ∷ 732 ∷ 802 ∷ 872 ∷ 942 ∷ 1012 ∷ 1082 ∷ 1152 ∷ 1222 ∷ 1224 ∷ 1294 ∷ 1364 ∷ 1434 ∷ 1504 ∷ 1574 ∷ 1644 ∷ 1714 ∷ 1780 ∷ 1850 ∷ 1920 ∷ 1990 ∷ 2060 ∷ []);
      ids = map pos (15 ∷ 16 ∷ 17 ∷ 19 ∷ 20 ∷ 22 ∷ 23 ∷ 24 ∷ 25 ∷ 26 ∷ 28 ∷ 29 ∷ 30 ∷ 31 ∷ 32 ∷ 33 ∷ 34 ∷ 35 ∷ 36 ∷ 37 ∷ 38 ∷ 39 ∷ []);
      ubi =
          (bar (pos 1714) (pos 34) (neg (up 9 0)) (neg (dn 21 0)) (neg (up 9 0)) (neg (dn 21 0)) (up 13681 0) (up 211 1), map pos (1714 ∷ []))
          ∷ (bar (pos 1780) (pos 35) (dn 53 1) (dn 45 1) (dn 53 1) (dn 45 1) (up 19151 0) (up 3797 0), map pos (1780 ∷ []))
          ∷ (bar (pos 1850) (pos 36) (dn 31 1) (dn 31 1) (dn 37 1) (dn 31 1) (up 151 7) (up 5399 0), map pos (1850 ∷ []))
          ∷ (bar (pos 1920) (pos 37) (up 7 0) (up 1 3) (up 1 3) (up 7 0) (dn 6172878180660019 35) (dn 3163768430306263 35), map pos (1920 ∷ []))
          ∷ (bar (pos 2060) (pos 38) (dn 15 1) (dn 23 1) (dn 23 1) (dn 15 1) (up 281474976712569 2) (up 4383 1), map pos (1990 ∷ 2060 ∷ []))
          ∷ [];
      strokes =
          kept Up (fx (pos 732) D (neg (dn 51 0)) (neg (dn 109 1)) (neg (dn 109 1))) (fx (pos 802) G (dn 57 0) (dn 109 1) (dn 57 0))
          (fx (pos 732) D (neg (dn 51 0)) (neg (dn 109 1)) (neg (dn 109 1)) ∷ fx (pos 802) G (dn 57 0) (dn 109 1) (dn 57 0) ∷ [])
          (map pos (662 ∷ 732 ∷ 802 ∷ 872 ∷ []))
          ∷ kept Down (fx (pos 802) G (dn 57 0) (dn 109 1) (dn 57 0)) (fx (pos 1012) D (up 21 0) (dn 41 0) (dn 41 0))
          (fx (pos 802) G (dn 57 0) (dn 109 1) (dn 57 0) ∷ fx (pos 1012) D (up 21 0) (dn 41 0) (dn 41 0) ∷ [])
          (map pos (732 ∷ 802 ∷ 872 ∷ 942 ∷ 1012 ∷ 1082 ∷ []))
          ∷ kept Up (fx (pos 1012) D (up 21 0) (dn 41 0) (dn 41 0)) (fx (pos 1152) G (dn 109 1) (dn 107 1) (dn 109 1))
          (fx (pos 1012) D (up 21 0) (dn 41 0) (dn 41 0) ∷ fx (pos 1152) G (dn 109 1) (dn 107 1) (dn 109 1) ∷ [])
          (map pos (942 ∷ 1012 ∷ 1082 ∷ 1152 ∷ 1222 ∷ []))
          ∷ kept Down (fx (pos 1152) G (dn 109 1) (dn 107 1) (dn 109 1)) (fx (pos 1714) D (neg (up 9 0)) (neg (dn 21 0)) (neg (dn 21 0)))
          (fx (pos 1152) G (dn 109 1) (dn 107 1) (dn 109 1) ∷ fx (pos 1714) D (neg (up 9 0)) (neg (dn 21 0)) (neg (dn 21 0)) ∷ [])
          (map pos (1082 ∷ 1152 ∷ 1222 ∷ 1224 ∷ 1294 ∷ 1364 ∷ 1434 ∷ 1504 ∷ 1574 ∷ 1644 ∷ 1714 ∷ 1780 ∷ []))
          ∷ kept Up (fx (pos 1714) D (neg (up 9 0)) (neg (dn 21 0)) (neg (dn 21 0))) (fx (pos 1780) G (dn 53 1) (dn 45 1) (dn 53 1))
          (fx (pos 1714) D (neg (up 9 0)) (neg (dn 21 0)) (neg (dn 21 0)) ∷ fx (pos 1780) G (dn 53 1) (dn 45 1) (dn 53 1) ∷ [])
          (map pos (1644 ∷ 1714 ∷ 1780 ∷ 1850 ∷ []))
          ∷ [];
      measures =
          measured (dn 57 0) (neg (dn 109 1)) (dn 223 1) (dn 5130803665929503 35) (up 0 0) (up 0 0) (neg (dn 4606957238818649 50)) (dn 223 1) (up 0 0) 4
          (map pos (732 ∷ 802 ∷ []))
          (fake Up (pos 732) (pos 802) (dn 57 0) (neg (dn 109 1)) (dn 223 1) ∷ [])
          ∷ measured (dn 57 0) (dn 41 0) (up 1 3) (dn 4503599627972793 1) (up 1 2) (up 1 2) (neg (dn 5056641661611593 53)) (neg (dn 6248744482976563 50)) (neg (dn 3 3)) 6
          (map pos (802 ∷ 872 ∷ 942 ∷ 1012 ∷ []))
          (fake Down (pos 802) (pos 1012) (dn 57 0) (dn 41 0) (up 1 3) ∷ [])
          ∷ measured (dn 109 1) (dn 41 0) (dn 27 1) (dn 5501072452920279 35) (dn 23 1) (dn 23 1) (dn 5932141429172417 53) (dn 25 2) (neg (dn 11 2)) 5
          (map pos (1012 ∷ 1082 ∷ 1152 ∷ []))
          (fake Up (pos 1012) (pos 1152) (dn 109 1) (dn 41 0) (dn 27 1) ∷ [])
          ∷ measured (dn 109 1) (neg (dn 21 0)) (dn 151 1) (dn 8000975691023647 34) (dn 5862444342525387 49) (dn 5862448224938859 49) (neg (dn 1559709140949087 49)) (neg (dn 8744489276477713 50)) (neg (dn 3053577020073177 52)) 12
          (map pos (1152 ∷ 1222 ∷ 1224 ∷ 1294 ∷ 1364 ∷ 1434 ∷ 1504 ∷ 1574 ∷ 1644 ∷ 1714 ∷ []))
          (fake Down (pos 1152) (pos 1714) (dn 109 1) (neg (dn 21 0)) (dn 151 1) ∷ [])
          ∷ measured (dn 53 1) (neg (dn 21 0)) (dn 95 1) (up 513 6) (dn 6514135175303753 49) (dn 3257059545509685 48) (neg (dn 2546672999287331 49)) (dn 87 1) (up 0 0) 4
          (map pos (1714 ∷ 1780 ∷ []))
          (fake Up (pos 1714) (pos 1780) (dn 53 1) (neg (dn 21 0)) (dn 95 1) ∷ [])
          ∷ [];
      fxs =
          fx (pos 802) G (dn 57 0) (dn 109 1) (dn 57 0)
          ∷ fx (pos 1012) D (up 21 0) (dn 41 0) (dn 41 0)
          ∷ fx (pos 1152) G (dn 109 1) (dn 107 1) (dn 109 1)
          ∷ fx (pos 1714) D (neg (up 9 0)) (neg (dn 21 0)) (neg (dn 21 0))
          ∷ fx (pos 1780) G (dn 53 1) (dn 45 1) (dn 53 1)
          ∷ [];
      finished = 5;
      extend = false;
      zones =
          zone (pos 732) (pos 1714) Up Down (dn 109 1) (dn 41 0) (dn 191 2) (dn 57 0) (neg (dn 109 1)) true
          (stroke Up (dn 57 0) (neg (dn 109 1)) (pos 732) (pos 802)
          ∷ stroke Down (dn 57 0) (dn 41 0) (pos 802) (pos 1012)
          ∷ stroke Up (dn 109 1) (dn 41 0) (pos 1012) (pos 1152)
          ∷ stroke Down (dn 109 1) (neg (dn 21 0)) (pos 1152) (pos 1714)
          ∷ [])
          ∷ zone (pos 1714) (pos 1780) Up Up (dn 53 1) (neg (dn 21 0)) (dn 11 2) (dn 53 1) (neg (dn 21 0)) true
          (stroke Up (dn 53 1) (neg (dn 21 0)) (pos 1714) (pos 1780)
          ∷ [])
          ∷ [];
      fin_zones =
          zone (pos 732) (pos 1714) Up Down (dn 109 1) (dn 41 0) (dn 191 2) (dn 57 0) (neg (dn 109 1)) true
          (stroke Up (dn 57 0) (neg (dn 109 1)) (pos 732) (pos 802)
          ∷ stroke Down (dn 57 0) (dn 41 0) (pos 802) (pos 1012)
          ∷ stroke Up (dn 109 1) (dn 41 0) (pos 1012) (pos 1152)
          ∷ stroke Down (dn 109 1) (neg (dn 21 0)) (pos 1152) (pos 1714)
          ∷ [])
          ∷ zone (pos 1714) (pos 1780) Up Up (dn 53 1) (neg (dn 21 0)) (dn 11 2) (dn 53 1) (neg (dn 21 0)) true
          (stroke Up (dn 53 1) (neg (dn 21 0)) (pos 1714) (pos 1780)
          ∷ [])
          ∷ [];
      bis =
          (neither ∷ neither ∷ neither ∷ neither ∷ neither ∷ neither ∷ [])
          ∷ (neither ∷ neither ∷ neither ∷ falls ∷ neither ∷ [])
          ∷ (neither ∷ neither ∷ neither ∷ neither ∷ [])
          ∷ (neither ∷ neither ∷ neither ∷ [])
          ∷ (neither ∷ neither ∷ [])
          ∷ (neither ∷ [])
          ∷ [];
      answers =
          answers Strong (dn 5130803665929503 35) false
          ∷ answers Medium (dn 6249281869284639 35) false
          ∷ answers Medium (dn 6087035184710943 35) false
          ∷ answers Strong (dn 4503599627687945 1) false
          ∷ answers Strong (dn 4503599627687945 1) false
          ∷ answers Strong (dn 904334398151721 33) false
          ∷ answers Strong (dn 904334398151721 33) false
          ∷ answers Strong (up 513 6) false
          ∷ answers Strong (up 513 6) false
          ∷ answers Medium (up 815 6) false
          ∷ answers Medium (up 815 6) false
          ∷ [];
      ubifx =
          fx (pos 1780) G (dn 53 1) (dn 45 1) (dn 53 1)
          ∷ [];
      unfinished = some (Down, (dn 53 1), (neg (dn 21 0)), (pos 1780), (pos 1714), 5, 22, 1, (pos 1780));
      gaps =
          Gaps.DownNoRatio (neg (dn 51 0)) (neg (dn 95 1)) true
          ∷ Gaps.UpNoRatio (neg (dn 51 0)) (dn 109 1) false
          ∷ Gaps.Down (dn 107 1) (dn 109 1) (dn 2694954017018505 56) false
          ∷ Gaps.Down (up 23 0) (dn 97 1) (dn 3912727356259487 55) true
          ∷ Gaps.Down (up 21 0) (dn 43 0) (dn 1714970738102685 55) true
          ∷ Gaps.Up (up 21 0) (up 25 0) (dn 1715871458028159 52) true
          ∷ Gaps.Up (dn 101 1) (dn 107 1) (dn 8560442171705839 56) true
          ∷ Gaps.Down (up 13 1) (dn 107 1) (dn 4150517416584649 56) false
          ∷ Gaps.Down (dn 45 0) (dn 95 1) (dn 4006402228508793 55) false
          ∷ Gaps.Down (up 9 1) (up 11 1) (dn 4002799348806897 53) false
          ∷ Gaps.Down (dn 33 0) (dn 69 1) (dn 3278620528725721 55) false
          ∷ Gaps.NoGap
          ∷ Gaps.Down (dn 43 1) (up 3 2) (dn 8380298186611019 55) true
          ∷ Gaps.Down (dn 39 1) (up 5 1) (dn 7378697629483821 57) true
          ∷ Gaps.DownNoRatio (neg (up 5 0)) (dn 17 0) true
          ∷ Gaps.DownNoRatio (neg (up 9 0)) (neg (dn 27 1)) true
          ∷ Gaps.UpNoRatio (neg (up 9 0)) (dn 45 1) false
          ∷ Gaps.Down (dn 37 1) (dn 45 1) (dn 3894712957750005 53) false
          ∷ Gaps.NoGap
          ∷ Gaps.Down (dn 23 1) (up 7 0) (dn 7832660471922767 54) false
          ∷ Gaps.NoGap
          ∷ [];
    }
unfolding told run_21 settings bar fx kept measured fake stroke zone answers up dn neg neither rises falls
run_21_told = refl

unfoldable run_22 : List Bar
unfolding bar up dn neg
run_22 =
    bar (negsuc 1099511627775) (negsuc 4) (dn 1 19) (dn 9007199254740991 22) (dn 9007199254740991 22) (neg (dn 9007199254740991 22)) (dn 5204020145223107 35) (up 6039 0)
    ∷ bar (negsuc 1099511627775) (negsuc 3) (dn 1 19) (neg (up 1 30)) (dn 9007199254740991 22) (neg (up 1 30)) (dn 3212799776957399 34) (dn 2333639212919685 36)
    ∷ bar (negsuc 1099511627715) (negsuc 2) (up 0 0) (up 1 30) (neg (up 1 0)) (neg (up 1 30)) (up 0 0) (up 2211 0)
    ∷ bar (negsuc 1099511627655) (negsuc 1) (neg (dn 9007199254740991 22)) (neg (up 1 0)) (neg (dn 9007199254740991 22)) (neg (dn 9007199254740991 22)) (up 6747 1) (up 635 0)
    ∷ bar (negsuc 1099511627595) (negsuc 0) (dn 1 19) (dn 9007199254740991 22) (dn 1 19) (up 0 0) (up 5091 1) (up 6091 0)
    ∷ bar (negsuc 1099511627535) (pos 0) (dn 9007199254740991 22) (up 1 30) (neg (dn 1 19)) (neg (dn 1 19)) (up 1611 1) (up 309 3)
    ∷ bar (negsuc 1099511627475) (pos 1) (dn 1 19) (neg (dn 1 19)) (dn 3 0) (dn 1 19) (up 18813 0) (up 12479 0)
    ∷ bar (negsuc 1099511627415) (pos 2) (neg (up 1 30)) (neg (dn 9007199254740991 22)) (up 0 0) (neg (dn 1 19)) (dn 586863300533289 32) (dn 6709872100523377 35)
    ∷ bar (negsuc 1099511627415) (pos 3) (neg (up 1 30)) (dn 3 0) (up 1 30) (dn 9007199254740991 22) (dn 4823024247913841 35) (dn 5274489219836805 41)
    ∷ bar (negsuc 1099511627355) (pos 4) (dn 3 0) (dn 3 0) (dn 3 0) (up 0 0) (up 8325 1) (up 15359 0)
    ∷ bar (negsuc 1099511627308) (pos 5) (neg (dn 9007199254740991 22)) (dn 9007199254740991 22) (dn 9007199254740991 22) (neg (dn 9007199254740991 22)) (dn 850009504308265 32) (dn 1359156488311931 34)
    ∷ bar (negsuc 1099511627308) (pos 6) (dn 9007199254740991 22) (neg (dn 1 19)) (dn 1 19) (neg (up 1 30)) (up 1 50) (up 1 50)
    ∷ bar (negsuc 1099511627277) (pos 7) (dn 9007199254740991 22) (neg (dn 9007199254740991 22)) (dn 1 19) (neg (up 1 30)) (up 1201 2) (up 7463 0)
    ∷ bar (negsuc 1099511627217) (pos 8) (neg (dn 9007199254740991 22)) (neg (dn 9007199254740991 22)) (dn 9007199254740991 22) (dn 1 19) (dn 8740019303580959 36) (dn 2982469270807511 40)
    ∷ bar (negsuc 1099511627199) (pos 9) (up 1 30) (dn 3 0) (dn 9007199254740991 22) (dn 1 19) (dn 90713 1) (up 17075 0)
    ∷ bar (negsuc 1099511627139) (pos 10) (dn 1 19) (dn 3 0) (dn 3 0) (dn 1 19) (dn 2739732837522473 34) (up 11237 0)
    ∷ bar (negsuc 1099511627079) (pos 11) (dn 1 19) (up 1 30) (dn 9007199254740991 22) (dn 1 19) (up 2095 2) (up 1 50)
    ∷ bar (negsuc 1099511627019) (pos 12) (neg (up 1 30)) (dn 9007199254740991 22) (up 1 30) (neg (dn 1 19)) (up 1 50) (dn 3369447885761413 37)
    ∷ bar (negsuc 1099511626959) (pos 13) (neg (dn 9007199254740991 22)) (dn 1 19) (up 1 30) (dn 3 0) (dn 5784890076592865 35) (up 4721 1)
    ∷ bar (negsuc 1099511626899) (pos 14) (neg (dn 1 19)) (neg (dn 1 19)) (dn 9007199254740991 22) (neg (dn 1 19)) (up 1029 1) (up 5315 0)
    ∷ bar (negsuc 1099511626839) (pos 15) (up 0 0) (dn 9007199254740991 22) (dn 3 0) (neg (dn 1 19)) (up 4195 0) (dn 1483433256807301 34)
    ∷ bar (negsuc 1099511626839) (pos 16) (dn 1 19) (neg (dn 1 19)) (up 1 30) (neg (dn 1 19)) (dn 2140874895922299 34) (up 4687 0)
    ∷ bar (negsuc 1099511626779) (pos 17) (dn 3 0) (up 1 30) (dn 3 0) (neg (up 1 30)) (up 4655 0) (dn 7376633131475927 36)
    ∷ bar (negsuc 1099511626779) (pos 18) (dn 3 0) (dn 9007199254740991 22) (up 1 30) (neg (up 1 0)) (up 10589 0) (dn 66257862985461 32)
    ∷ bar (negsuc 1099511626719) (pos 19) (neg (dn 9007199254740991 22)) (up 0 0) (neg (dn 1 19)) (neg (up 1 30)) (up 415 4) (up 4167 1)
    ∷ bar (negsuc 1099511626659) (pos 20) (dn 3 0) (neg (up 1 30)) (dn 9007199254740991 22) (dn 3 0) (up 0 0) (up 737 3)
    ∷ bar (negsuc 1099511626599) (pos 21) (neg (up 1 30)) (dn 9007199254740991 22) (dn 9007199254740991 22) (dn 9007199254740991 22) (up 8983 0) (up 5195 1)
    ∷ bar (negsuc 1099511626599) (pos 22) (neg (up 1 0)) (neg (dn 1 19)) (dn 1 19) (neg (dn 1 19)) (dn 4221324755950633 36) (up 1505 1)
    ∷ bar (negsuc 1099511626599) (pos 23) (neg (up 1 0)) (up 1 30) (up 1 30) (dn 3 0) (dn 44936777236157 48) (up 7533 0)
    ∷ bar (negsuc 1099511626572) (pos 24) (neg (up 1 30)) (up 0 0) (dn 3 0) (up 0 0) (dn 3161657367980933 35) (up 15681 0)
    ∷ bar (negsuc 1099511626512) (pos 25) (dn 9007199254740991 22) (neg (dn 1 19)) (neg (dn 1 19)) (neg (dn 1 19)) (up 11313 0) (dn 4042566155506811 35)
    ∷ bar (negsuc 1099511626452) (pos 26) (neg (up 1 0)) (neg (dn 9007199254740991 22)) (dn 3 0) (neg (dn 9007199254740991 22)) (up 63 3) (up 7725 0)
    ∷ bar (negsuc 1099511626430) (pos 27) (dn 1 19) (up 1 30) (neg (up 1 0)) (neg (dn 9007199254740991 22)) (up 3183 2) (up 9159 1)
    ∷ bar (negsuc 1099511626395) (pos 28) (dn 9007199254740991 22) (neg (up 1 0)) (up 1 30) (dn 9007199254740991 22) (up 13215 0) (dn 5852491487442371 35)
    ∷ bar (negsuc 1099511626335) (pos 29) (up 1 30) (neg (dn 1 19)) (dn 3 0) (neg (dn 9007199254740991 22)) (up 5177 0) (up 1 50)
    ∷ bar (negsuc 1099511626275) (pos 30) (up 1 30) (up 1 30) (dn 3 0) (up 0 0) (up 10541 0) (up 505 2)
    ∷ bar (negsuc 1099511626215) (pos 31) (dn 3 0) (up 1 30) (dn 1 19) (neg (up 1 30)) (up 6215 1) (dn 2833217095687209 34)
    ∷ bar (negsuc 1099511626155) (pos 32) (dn 9007199254740991 22) (up 1 30) (up 1 30) (dn 1 19) (up 1 50) (up 3355 0)
    ∷ bar (negsuc 1099511626095) (pos 33) (neg (dn 9007199254740991 22)) (neg (dn 9007199254740991 22)) (up 0 0) (neg (up 1 0)) (up 9085 1) (up 1 50)
    ∷ bar (negsuc 1099511626080) (pos 34) (up 0 0) (dn 1 19) (up 1 30) (dn 1 19) (dn 6091715867397189 22) (up 11189 0)
    ∷ []

run_22_told : told (settings 1 5 64 64 64) run_22
    ≡ record {
      events = (12, 1, 6);
      raw = (negsuc 1099511626719) ∷ (negsuc 1099511626659) ∷ (negsuc 1099511626599) ∷ (negsuc 1099511626572) ∷ (negsuc 1099511626512) ∷ (negsuc 1099511626452) ∷ (negsuc 1099511626430) ∷ (negsuc 1099511626395) ∷ (negsuc 1099511626335) ∷ (negsuc 1099511626275) ∷ (negsuc 1099511626215) ∷ (negsuc 1099511626155) ∷ (negsuc 1099511626095) ∷ (negsuc 1099511626080) ∷ [];
      ids = map pos (19 ∷ 20 ∷ 23 ∷ 24 ∷ 25 ∷ 26 ∷ 27 ∷ 28 ∷ 29 ∷ 30 ∷ 31 ∷ 32 ∷ 33 ∷ 34 ∷ []);
      ubi =
          (bar (negsuc 1099511626155) (pos 32) (dn 9007199254740991 22) (up 1 30) (up 1 30) (dn 1 19) (up 1 50) (up 3355 0), (negsuc 1099511626155) ∷ [])
          ∷ (bar (negsuc 1099511626095) (pos 33) (neg (dn 9007199254740991 22)) (neg (dn 9007199254740991 22)) (up 0 0) (neg (up 1 0)) (up 9085 1) (up 1 50), (negsuc 1099511626095) ∷ [])
          ∷ (bar (negsuc 1099511626080) (pos 34) (up 0 0) (dn 1 19) (up 1 30) (dn 1 19) (dn 6091715867397189 22) (up 11189 0), (negsuc 1099511626080) ∷ [])
          ∷ [];
      strokes =
          kept Down (fx (negsuc 1099511626599) G (up 1 30) (dn 3 0) (up 1 30)) (fx (negsuc 1099511626430) D (neg (up 1 0)) (neg (dn 9007199254740991 22)) (neg (dn 9007199254740991 22)))
          (fx (negsuc 1099511626599) G (up 1 30) (dn 3 0) (up 1 30) ∷ fx (negsuc 1099511626430) D (neg (up 1 0)) (neg (dn 9007199254740991 22)) (neg (dn 9007199254740991 22)) ∷ [])
          ((negsuc 1099511626719) ∷ (negsuc 1099511626599) ∷ (negsuc 1099511626572) ∷ (negsuc 1099511626430) ∷ (negsuc 1099511626395) ∷ [])
          ∷ kept Up (fx (negsuc 1099511626430) D (neg (up 1 0)) (neg (dn 9007199254740991 22)) (neg (dn 9007199254740991 22))) (fx (negsuc 1099511626395) G (up 1 30) (dn 9007199254740991 22) (up 1 30))
          (fx (negsuc 1099511626430) D (neg (up 1 0)) (neg (dn 9007199254740991 22)) (neg (dn 9007199254740991 22)) ∷ fx (negsuc 1099511626395) G (up 1 30) (dn 9007199254740991 22) (up 1 30) ∷ [])
          ((negsuc 1099511626572) ∷ (negsuc 1099511626430) ∷ (negsuc 1099511626395) ∷ (negsuc 1099511626335) ∷ [])
          ∷ kept Down (fx (negsuc 1099511626395) G (up 1 30) (dn 9007199254740991 22) (up 1 30)) (fx (negsuc 1099511626215) D (dn 1 19) (neg (up 1 30)) (neg (up 1 30)))
          (fx (negsuc 1099511626395) G (up 1 30) (dn 9007199254740991 22) (up 1 30) ∷ fx (negsuc 1099511626215) D (dn 1 19) (neg (up 1 30)) (neg (up 1 30)) ∷ [])
          ((negsuc 1099511626430) ∷ (negsuc 1099511626395) ∷ (negsuc 1099511626335) ∷ (negsuc 1099511626215) ∷ (negsuc 1099511626155) ∷ [])
          ∷ kept Up (fx (negsuc 1099511626215) D (dn 1 19) (neg (up 1 30)) (neg (up 1 30))) (fx (negsuc 1099511626155) G (up 1 30) (dn 1 19) (up 1 30))
          (fx (negsuc 1099511626215) D (dn 1 19) (neg (up 1 30)) (neg (up 1 30)) ∷ fx (negsuc 1099511626155) G (up 1 30) (dn 1 19) (up 1 30) ∷ [])
          ((negsuc 1099511626335) ∷ (negsuc 1099511626215) ∷ (negsuc 1099511626155) ∷ (negsuc 1099511626095) ∷ [])
          ∷ kept Down (fx (negsuc 1099511626155) G (up 1 30) (dn 1 19) (up 1 30)) (fx (negsuc 1099511626095) D (up 0 0) (neg (up 1 0)) (neg (up 1 0)))
          (fx (negsuc 1099511626155) G (up 1 30) (dn 1 19) (up 1 30) ∷ fx (negsuc 1099511626095) D (up 0 0) (neg (up 1 0)) (neg (up 1 0)) ∷ [])
          ((negsuc 1099511626215) ∷ (negsuc 1099511626155) ∷ (negsuc 1099511626095) ∷ (negsuc 1099511626080) ∷ [])
          ∷ [];
      measures =
          measured (up 1 30) (neg (dn 9007199254740991 22)) (up 1 31) (dn 4848657287819437 35) (dn 1431655763 32) (dn 6006000463061293 54) (neg (up 1 1)) (dn 8235153604334619 25) (dn 5955780731706289 76) 5
          ((negsuc 1099511626659) ∷ (negsuc 1099511626599) ∷ (negsuc 1099511626572) ∷ (negsuc 1099511626512) ∷ (negsuc 1099511626452) ∷ (negsuc 1099511626430) ∷ [])
          (fake Down (negsuc 1099511626599) (negsuc 1099511626430) (up 1 30) (neg (dn 9007199254740991 22)) (up 1 31) ∷ [])
          ∷ measured (up 1 30) (neg (dn 9007199254740991 22)) (up 1 31) (up 9441 2) (dn 1073741825 31) (dn 1 1) (neg (up 1 1)) (dn 7205759393726473 24) (neg (dn 1048577 21)) 4
          ((negsuc 1099511626512) ∷ (negsuc 1099511626452) ∷ (negsuc 1099511626430) ∷ (negsuc 1099511626395) ∷ [])
          (fake Up (negsuc 1099511626430) (negsuc 1099511626395) (up 1 30) (neg (dn 9007199254740991 22)) (up 1 31) ∷ [])
          ∷ measured (up 1 30) (neg (up 1 30)) (up 1 31) (up 41363 0) (dn 6004799504092727 106) (up 0 0) (neg (up 1 1)) (dn 900719926103245 20) (neg (dn 9007178638897971 54)) 5
          ((negsuc 1099511626395) ∷ (negsuc 1099511626335) ∷ (negsuc 1099511626275) ∷ (negsuc 1099511626215) ∷ [])
          (fake Down (negsuc 1099511626395) (negsuc 1099511626215) (up 1 30) (neg (up 1 30)) (up 1 31) ∷ [])
          ∷ measured (up 1 30) (neg (up 1 30)) (up 1 31) (up 562949953427527 1) (dn 9007199254740991 52) (up 1 0) (neg (up 1 1)) (up 0 0) (up 0 0) 4
          ((negsuc 1099511626215) ∷ (negsuc 1099511626155) ∷ [])
          (fake Up (negsuc 1099511626215) (negsuc 1099511626155) (up 1 30) (neg (up 1 30)) (up 1 31) ∷ [])
          ∷ measured (up 1 30) (neg (up 1 0)) (up 1073741825 0) (up 562949953430397 1) (up 9007199254740991 1) (up 4503599627370495 2) (neg (up 1 0)) (neg (up 1 31)) (up 0 0) 4
          ((negsuc 1099511626155) ∷ (negsuc 1099511626095) ∷ [])
          (fake Down (negsuc 1099511626155) (negsuc 1099511626095) (up 1 30) (neg (up 1 0)) (up 1073741825 0) ∷ [])
          ∷ [];
      fxs =
          fx (negsuc 1099511626430) D (neg (up 1 0)) (neg (dn 9007199254740991 22)) (neg (dn 9007199254740991 22))
          ∷ fx (negsuc 1099511626395) G (up 1 30) (dn 9007199254740991 22) (up 1 30)
          ∷ fx (negsuc 1099511626215) D (dn 1 19) (neg (up 1 30)) (neg (up 1 30))
          ∷ fx (negsuc 1099511626155) G (up 1 30) (dn 1 19) (up 1 30)
          ∷ fx (negsuc 1099511626095) D (up 0 0) (neg (up 1 0)) (neg (up 1 0))
          ∷ [];
      finished = 4;
      extend = false;
      zones =
          zone (negsuc 1099511626599) (negsuc 1099511626095) Down Down (up 1 30) (neg (dn 9007199254740991 22)) (dn 1 22) (up 1 30) (neg (up 1 30)) true
          (stroke Down (up 1 30) (neg (dn 9007199254740991 22)) (negsuc 1099511626599) (negsuc 1099511626430)
          ∷ stroke Up (up 1 30) (neg (dn 9007199254740991 22)) (negsuc 1099511626430) (negsuc 1099511626395)
          ∷ stroke Down (up 1 30) (neg (up 1 30)) (negsuc 1099511626395) (negsuc 1099511626215)
          ∷ stroke Up (up 1 30) (neg (up 1 30)) (negsuc 1099511626215) (negsuc 1099511626155)
          ∷ stroke Down (up 1 30) (neg (up 1 0)) (negsuc 1099511626155) (negsuc 1099511626095)
          ∷ [])
          ∷ [];
      fin_zones =
          zone (negsuc 1099511626599) (negsuc 1099511626155) Down Up (up 1 30) (neg (dn 9007199254740991 22)) (dn 1 22) (up 1 30) (neg (up 1 30)) true
          (stroke Down (up 1 30) (neg (dn 9007199254740991 22)) (negsuc 1099511626599) (negsuc 1099511626430)
          ∷ stroke Up (up 1 30) (neg (dn 9007199254740991 22)) (negsuc 1099511626430) (negsuc 1099511626395)
          ∷ stroke Down (up 1 30) (neg (up 1 30)) (negsuc 1099511626395) (negsuc 1099511626215)
          ∷ stroke Up (up 1 30) (neg (up 1 30)) (negsuc 1099511626215) (negsuc 1099511626155)
          ∷ [])
          ∷ [];
      bis =
          (neither ∷ neither ∷ neither ∷ falls ∷ neither ∷ neither ∷ [])
          ∷ (neither ∷ neither ∷ neither ∷ neither ∷ neither ∷ [])
          ∷ (neither ∷ neither ∷ neither ∷ neither ∷ [])
          ∷ (neither ∷ neither ∷ neither ∷ [])
          ∷ (neither ∷ neither ∷ [])
          ∷ (neither ∷ [])
          ∷ [];
      answers =
          answers Medium (dn 3617960178954413 35) false
          ∷ answers Weak (dn 5756779687439237 35) false
          ∷ answers Weak (dn 5756779687439237 35) false
          ∷ answers Medium (up 42941 0) false
          ∷ answers Medium (up 26741 1) false
          ∷ answers Strong (up 281474976717693 2) true
          ∷ answers Strong (up 281474976717693 2) true
          ∷ answers Medium (up 140737488359153 3) false
          ∷ answers Medium (up 140737488359153 3) false
          ∷ answers Medium (dn 4503602532199659 1) false
          ∷ answers Medium (dn 4503602532199659 1) false
          ∷ [];
      ubifx =
          fx (negsuc 1099511626095) D (up 0 0) (neg (up 1 0)) (neg (up 1 0))
          ∷ [];
      unfinished = some (Up, (up 1 30), (neg (up 1 0)), (negsuc 1099511626080), (negsuc 1099511626095), 3, 14, 1, (negsuc 1099511626095));
      gaps =
          Gaps.UpNoRatio (neg (dn 1 19)) (dn 3 0) true
          ∷ Gaps.NoGap
          ∷ Gaps.NoGap
          ∷ Gaps.DownNoRatio (neg (dn 1 19)) (up 0 0) true
          ∷ Gaps.NoGap
          ∷ Gaps.NoGap
          ∷ Gaps.UpNoRatio (neg (up 1 0)) (dn 9007199254740991 22) true
          ∷ Gaps.Down (dn 3 0) (dn 9007199254740991 22) (dn 6004799494772333 22) true
          ∷ Gaps.NoGap
          ∷ Gaps.NoGap
          ∷ Gaps.NoGap
          ∷ Gaps.DownNoRatio (up 0 0) (dn 1 19) true
          ∷ Gaps.UpNoRatio (up 0 0) (dn 1 19) false
          ∷ [];
    }
unfolding told run_22 settings bar fx kept measured fake stroke zone answers up dn neg neither rises falls
run_22_told = refl
