-- Instances of the reports, computed: fractal answers, the fractal list, finished strokes, the unfinished summary. (Longer runs are in the crate zones.)
use Rattle.std.specs.Prelude.{ℕ, ◌≡◌, refl, true, false, [], ◌∷◌, map, pos}
use Rattle.std.proofs.Math.Option.{none}
use Rattle.std.specs.Float.{binary64}
use Rattle.std.specs.Float.Ieee.{of_int}
use Rattle.bars.specs.declared.Bar.{Bar}
use Rattle.bars.specs.Bars.{own}
use Rattle.machine.specs.declared.Mark.{Mark}
use Rattle.machine.specs.declared.Mark.TheVariants.{D, G}
use Rattle.reports.specs.declared.fractal_answers.Strength.TheVariants.{Strong, Medium, Weak}
use Rattle.machine.specs.Fractals.{Fractal, time_of}
use Rattle.machine.specs.Stand.{State}
use Rattle.machine.specs.Calls.{calls}
use Rattle.reports.specs.FractalAnswers.{power_str, fractal_volume, has_zs}
use Rattle.reports.specs.FractalList.{later_than, get_fx_list, get_finished_bis, last_bi_extend}
use Rattle.named.specs.ReportQuestions.{stroke_exists, run_exists, fractal_exists, unfinished_exists}
use Rattle.reports.specs.Unfinished.{question15, highest, lowest, get_ubi}

-- a bar of this time, high, low and close; vol is its time
unfoldable bar : ℕ → ℕ → ℕ → ℕ → Bar
unfolding of_int
bar t h l c =
    record {
      time = pos t;
      id = pos t;
      «open» = of_int binary64 (pos l);
      close = of_int binary64 (pos c);
      high = of_int binary64 (pos h);
      low = of_int binary64 (pos l);
      vol = of_int binary64 (pos t);
      amount = of_int binary64 (pos t);
    }

unfoldable fractal : Mark → Bar → Bar → Bar → Fractal
unfolding own
fractal m a b c = record { mark = m; left = own a; mid = own b; right = own c }

-- ---- strength: the third bar of a bottom closes above the first one's high, above the second's, or above neither; of a top below their lows

bottoms :
    map power_str
    (fractal D (bar 1 12 10 10) (bar 2 11 8 8) (bar 3 14 9 13)
    ∷ fractal D (bar 1 12 10 10) (bar 2 11 8 8) (bar 3 14 9 12)
    ∷ fractal D (bar 1 12 10 10) (bar 2 11 8 8) (bar 3 14 9 11)
    ∷ [])
    ≡ Strong ∷ Medium ∷ Weak ∷ []
unfolding power_str fractal bar
bottoms = refl

tops :
    map power_str
    (fractal G (bar 1 12 10 12) (bar 2 15 11 15) (bar 3 14 8 9)
    ∷ fractal G (bar 1 12 10 12) (bar 2 15 11 15) (bar 3 14 8 10)
    ∷ fractal G (bar 1 12 10 12) (bar 2 15 11 15) (bar 3 14 8 11)
    ∷ [])
    ≡ Strong ∷ Medium ∷ Weak ∷ []
unfolding power_str fractal bar
tops = refl

-- ---- volume and overlap: ranges that touch overlap

volume : fractal_volume (fractal G (bar 1 12 10 12) (bar 2 15 12 15) (bar 3 14 8 9)) ≡ of_int binary64 (pos 6)
unfolding fractal_volume fractal bar of_int
volume = refl

touching : has_zs (fractal G (bar 1 12 10 12) (bar 2 15 12 15) (bar 3 14 8 9)) ≡ true
unfolding has_zs fractal bar
touching = refl

apart : has_zs (fractal G (bar 1 12 10 12) (bar 2 15 13 15) (bar 3 14 8 9)) ≡ false
unfolding has_zs fractal bar
apart = refl

-- ---- the fractal list: one that is not later than the last one listed is left out

unfoldable at : ℕ → Fractal
unfolding fractal bar
at t = fractal G (bar t 1 1 1) (bar t 1 1 1) (bar t 1 1 1)

later : map time_of (later_than none (at 3 ∷ at 5 ∷ at 5 ∷ at 4 ∷ at 6 ∷ [])) ≡ pos 3 ∷ pos 5 ∷ pos 6 ∷ []
unfolding time_of later_than at
later = refl

-- ---- tied highs give the last bar, tied lows the first

high-tied : (highest (bar 1 9 5 5) (bar 2 12 4 5 ∷ bar 3 12 3 5 ∷ bar 4 11 3 5 ∷ [])).time ≡ pos 3
unfolding highest bar
high-tied = refl

low-tied : (lowest (bar 1 9 5 5) (bar 2 12 4 5 ∷ bar 3 12 3 5 ∷ bar 4 11 3 5 ∷ [])).time ≡ pos 3
unfolding lowest bar
low-tied = refl

-- ---- Minimum 1, bars 8/7, 10/9, 3/2, 6/4, and 5/1 with the last time: a down stroke of times 2 to 3, and 2 unfinished bars, of which one has a low
-- below the stroke's. With fewer than 3 there is no break test, so the stroke stays and extends.

unfoldable stayed : State
unfolding calls bar
stayed =
    (calls (record { minimum = 1; most = 50; raw_room = 64; unfinished_room = 64; stroke_room = 64; power_places = 2; ratio_places = 4 })
    (bar 1 8 7 8 ∷ bar 2 10 9 10 ∷ bar 3 3 2 3 ∷ bar 4 6 4 6 ∷ bar 4 5 1 5 ∷ [])).state

extending : last_bi_extend stayed.strokes stayed.unfinished ≡ true
unfolding last_bi_extend stayed
extending = refl

-- the stroke's list without its first fractal
listed : map time_of (get_fx_list stayed.strokes stayed.unfinished) ≡ pos 3 ∷ []
unfolding time_of get_fx_list stayed
listed = refl

-- fewer than 5 unfinished bars, so the one stroke is not finished
unfinished_yet : get_finished_bis stayed.strokes stayed.unfinished ≡ []
unfolding get_finished_bis stayed
unfinished_yet = refl

-- no fractal among the unfinished bars
no_summary : question15 stayed.raw stayed.unfinished stayed.strokes ≡ false
unfolding question15 stayed
no_summary = refl

none_given : get_ubi stayed.raw stayed.unfinished stayed.strokes ≡ none
unfolding get_ubi stayed
none_given = refl

-- ---- what exists there: one stroke of two fractals. An empty run exists up to the count of strokes.

strokes-there : map (stroke_exists stayed.strokes) (0 ∷ 1 ∷ []) ≡ true ∷ false ∷ []
unfolding stroke_exists stayed
strokes-there = refl

runs-there :
    map (λ (p : ℕ × ℕ). run_exists stayed.strokes p.0 p.1) ((0, 0) ∷ (0, 1) ∷ (1, 0) ∷ (0, 2) ∷ (1, 1) ∷ (2, 0) ∷ [])
    ≡ true ∷ true ∷ true ∷ false ∷ false ∷ false ∷ []
unfolding run_exists stayed
runs-there = refl

fractals-there :
    map (λ (p : ℕ × ℕ). fractal_exists stayed.strokes p.0 p.1) ((0, 1) ∷ (0, 2) ∷ (1, 0) ∷ []) ≡ true ∷ false ∷ false ∷ []
unfolding fractal_exists stayed
fractals-there = refl

no_unfinished-there : unfinished_exists stayed.unfinished 0 ≡ false
unfolding unfinished_exists stayed
no_unfinished-there = refl
