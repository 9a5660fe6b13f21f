-- Document 01's marked instances, computed: one table over the definitions of all four layers. Pairs are high/low.
use Rattle.std.specs.Prelude.{ℕ, ◌≡◌, refl, true, false, List, [], ◌∷◌, ◌++◌, map, length, ℤ, pos, negsuc, Float}
use Rattle.std.proofs.Math.Option.{none}
use Rattle.std.specs.Float.{fin, binary64}
use Rattle.std.specs.Float.Ieee.{round, neg, of_int}
use Rattle.arith.specs.Rounding.{round_to}
use Rattle.bars.specs.declared.Bar.{Bar}
use Rattle.bars.specs.Bars.{Merged, own, row_of}
use Rattle.bars.specs.Merging.{merge_all}
use Rattle.bars.specs.Gaps as Gaps
use Rattle.bars.specs.Gaps.{gaps_of}
use Rattle.machine.specs.declared.Mark.{Mark}
use Rattle.machine.specs.declared.Mark.TheVariants.{D, G}
use Rattle.machine.specs.declared.Direction.{Direction}
use Rattle.machine.specs.declared.Direction.TheVariants.{Up, Down}
use Rattle.machine.specs.Fractals.{Fractal, check_fx, check_fxs, time_of}
use Rattle.machine.specs.Strokes.{Stroke, direction_of}
use Rattle.machine.specs.Feed.{Step}
use Rattle.machine.specs.Calls.{calls}
use Rattle.reports.specs.Measures.{change, measures_of}
use Rattle.zones.specs.declared.Summary.{Summary}
use Rattle.zones.specs.declared.FakeStroke.{FakeStroke}
use Rattle.zones.specs.FakeStrokes.{create_fake_bis}
use Rattle.zones.specs.Zones.{Zone, get_zs_seq}

-- ---- how the instances are written

-- the float n, exactly
unfoldable pub num : ℕ → Float
unfolding of_int
num n = of_int binary64 (pos n)

-- the float nearest to n / d
unfoldable pub ratio : ℕ → ℕ → Float
unfolding round
ratio n d = round binary64 false n d

-- a bar of this time, high and low: open = low, close = high, vol 1
unfoldable pub candle : ℕ → Float → Float → Bar
unfolding num
candle t h l =
    record {
      time = pos t;
      id = pos t;
      «open» = l;
      close = h;
      high = h;
      low = l;
      vol = num 1;
      amount = num 1;
    }

unfoldable pub bar : ℕ → ℕ → ℕ → Bar
unfolding candle num
bar t h l = candle t (num h) (num l)

-- time, high and low of merged bars
unfoldable pub told : List Merged → List (ℤ × Float × Float)
told l = map (λ k. (k.bar.time, k.bar.high, k.bar.low)) l

unfoldable pub is : ℕ → ℕ → ℕ → ℤ × Float × Float
unfolding num
is t h l = (pos t, num h, num l)

-- a fractal centred on a bar of this time, high and low
unfoldable pub fractal : Mark → ℕ → ℕ → ℕ → Fractal
unfolding own bar
fractal m t h l = record { mark = m; left = own (bar t h l); mid = own (bar t h l); right = own (bar t h l) }

unfoldable pub marks : List Fractal → List Mark
marks l = map (λ f. f.mark) l

-- a stroke between two fractals; only these are looked at
unfoldable pub between : Fractal → Fractal → Stroke
between a z = record { start = a; end = z; fractals = a ∷ z ∷ []; bars = [] }

unfoldable pub fake : Direction → ℕ → ℕ → ℕ → ℕ → ℕ → FakeStroke
unfolding num
fake d s e h l p = record { direction = d; sdt = pos s; edt = pos e; high = num h; low = num l; power = num p }

-- ---- instances 8 and 9: bars at times 1 to 7, and what is fed after them

unfoldable pub first : List Bar
unfolding bar
first = bar 1 12 10 ∷ bar 2 10 8 ∷ bar 3 11 9 ∷ bar 4 13 11 ∷ bar 5 15 13 ∷ bar 6 17 15 ∷ bar 7 16 14 ∷ []

unfoldable pub fed : ℕ → List Bar → Step
unfolding calls
fed minimum bs = calls (record { minimum = minimum; most = 50; raw_room = 64; unfinished_room = 64; stroke_room = 64; power_places = 2; ratio_places = 4 }) bs

-- strokes made, broken, shed
unfoldable pub events : Step → ℕ × ℕ × ℕ
events s = (s.events.made, s.events.broken, s.events.shed)

-- direction, start and end time of each kept stroke
unfoldable pub ways : Step → List (Direction × ℤ × ℤ)
unfolding direction_of time_of
ways s = map (λ b. (direction_of b.start.mark, time_of b.start, time_of b.end)) s.state.strokes

-- of each kept stroke: length, power, change, volume, SNR
unfoldable pub sizes : Step → List (ℕ × Float × Float × Float × Float)
unfolding measures_of
sizes s =
    map
    (λ b.
    let m = measures_of 2 4 s.state.raw b in
    (m.length, m.power_price, m.change, m.power_volume, m.snr))
    s.state.strokes

-- ---- instance 11: a stroke from the low l to the high h

unfoldable pub range : Direction → ℕ → ℕ → Summary
unfolding num
range d l h = record { direction = d; high = num h; low = num l; began = pos 0; ended = pos 1 }

unfoldable pub ranges : List Summary
unfolding range
ranges = range Up 10 15 ∷ range Down 12 15 ∷ range Up 12 18 ∷ []

-- zg, zd and zz of each zone
unfoldable pub edges : List Zone → List (Float × Float × Float)
edges l = map (λ z. (z.zg, z.zd, z.zz)) l

-- ---- the table

pub record Marked : Type 0 where
  -- 10/8, 12/9, then 11/10: merged 12/10, second's time
  pub one : told (merge_all [] (bar 1 10 8 ∷ bar 2 12 9 ∷ bar 3 11 10 ∷ [])) ≡ is 1 10 8 ∷ is 2 12 10 ∷ []
  -- 12/9, 10/7, then 11/6: 10/6, third's time
  pub two : told (merge_all [] (bar 1 12 9 ∷ bar 2 10 7 ∷ bar 3 11 6 ∷ [])) ≡ is 1 12 9 ∷ is 3 10 6 ∷ []
  -- 10/8, 12/9, then 12/9: third's time
  pub three : told (merge_all [] (bar 1 10 8 ∷ bar 2 12 9 ∷ bar 3 12 9 ∷ [])) ≡ is 1 10 8 ∷ is 3 12 9 ∷ []
  -- 10/8, 10/7, then 9/8: own bar
  pub four : told (merge_all [] (bar 1 10 8 ∷ bar 2 10 7 ∷ bar 3 9 8 ∷ [])) ≡ is 1 10 8 ∷ is 2 10 7 ∷ is 3 9 8 ∷ []
  -- 10/8, 12/9, 11/8: top. 10/8, 12/9, 11/9: none
  pub five_top : marks (check_fxs (merge_all [] (bar 1 10 8 ∷ bar 2 12 9 ∷ bar 3 11 8 ∷ []))) ≡ G ∷ []
  pub five-none : check_fx (own (bar 1 10 8)) (own (bar 2 12 9)) (own (bar 3 11 9)) ≡ none
  -- 0.125 and -0.125 to 2 places: the floats nearest 0.13 and -0.13
  pub six : round_to 2 (fin false 1 (negsuc 2)) ≡ ratio 13 100
  pub six-minus : round_to 2 (fin true 1 (negsuc 2)) ≡ neg (ratio 13 100)
  -- start 131072, end 131071: change is minus zero
  pub seven : change 4 (between (fractal G 1 131072 131071) (fractal D 2 131072 131071)) ≡ fin true 0 (pos 0)
  -- minimum 7: one up stroke, times 2 to 6, length 7, power 9, change 1.125, volume 5, SNR 9/10. Minimum 8: none
  pub eight : events (fed 7 first) ≡ (1, 0, 0)
  pub eight-stroke : ways (fed 7 first) ≡ (Up, pos 2, pos 6) ∷ []
  pub eight-sizes : sizes (fed 7 first) ≡ (7, num 9, ratio 9 8, num 5, ratio 9 10) ∷ []
  pub eight-none : events (fed 8 first) ≡ (0, 0, 0)
  -- case 8, then 18/16: broken, 8 unfinished bars. Instead 17/16: not broken
  pub nine : events (fed 7 (first ++ bar 8 18 16 ∷ [])) ≡ (1, 1, 0)
  pub nine-unfinished : length (fed 7 (first ++ bar 8 18 16 ∷ [])).state.unfinished ≡ 8
  pub nine-kept : events (fed 7 (first ++ bar 8 17 16 ∷ [])) ≡ (1, 0, 0)
  -- five alternating fractals: 3 fake strokes; three: 1. The number does not turn on the fractals
  pub ten : (a b c d e : Fractal) → length (create_fake_bis 2 (a ∷ b ∷ c ∷ d ∷ e ∷ [])) ≡ 3
  pub ten-three : (a b c : Fractal) → length (create_fake_bis 2 (a ∷ b ∷ c ∷ [])) ≡ 1
  pub ten-told : create_fake_bis 2 (fractal D 1 10 8 ∷ fractal G 3 15 14 ∷ fractal D 6 13 11 ∷ []) ≡ fake Up 1 3 15 8 7 ∷ []
  -- 10 to 15 up, 12 to 15 down, 12 to 18 up: zg 15, zd 12, zz 13.5. Then 16 to 18 down: a second zone
  pub eleven : edges (get_zs_seq ranges) ≡ (num 15, num 12, ratio 27 2) ∷ []
  pub eleven-second : edges (get_zs_seq (ranges ++ range Down 16 18 ∷ [])) ≡ (num 15, num 12, ratio 27 2) ∷ (num 18, num 16, num 17) ∷ []
  -- gap 10/8, 12/11, then 11/10: up, ratio 0.1, open. Low 9.5 instead: covered
  pub twelve : gaps_of 4 (map row_of (bar 1 10 8 ∷ bar 2 12 11 ∷ bar 3 11 10 ∷ [])) ≡ Gaps.Up (num 10) (num 11) (ratio 1 10) false ∷ Gaps.NoGap ∷ []
  pub twelve-covered :
      gaps_of 4 (map row_of (bar 1 10 8 ∷ bar 2 12 11 ∷ candle 3 (num 11) (ratio 19 2) ∷ [])) ≡ Gaps.Up (num 10) (num 11) (ratio 1 10) true ∷ Gaps.NoGap ∷ []

pub marked : Marked
unfolding told is candle bar num ratio marks between fractal fake first fed events ways sizes range ranges edges merge_all check_fxs check_fx own round_to neg change create_fake_bis get_zs_seq gaps_of row_of
marked =
    record {
      one = refl;
      two = refl;
      three = refl;
      four = refl;
      five_top = refl;
      five-none = refl;
      six = refl;
      six-minus = refl;
      seven = refl;
      eight = refl;
      eight-stroke = refl;
      eight-sizes = refl;
      eight-none = refl;
      nine = refl;
      nine-unfinished = refl;
      nine-kept = refl;
      ten = λ a b c d e. refl;
      ten-three = λ a b c. refl;
      ten-told = refl;
      eleven = refl;
      eleven-second = refl;
      twelve = refl;
      twelve-covered = refl;
    }
