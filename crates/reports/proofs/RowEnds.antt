-- What the fractal in a row of a stroke shows, and that a stroke's start and end stand in their rows. Assumes nothing.
use Prim.Native.Nat.{ℕ, ◌+◌, ◌-◌, ◌*◌, ◌/◌, ◌<◌}
use native.Mathlib.Omega.{arith}
use mathlib.Core.Path.{◌≡◌, refl, ap, sym, subst, ◌∙◌}
use mathlib.Core.List.{List, []}
use lib.ListN.{length, take, drop, get_or}
use lib.Seq.{get_or-take, get_or-drop}
use lib.IntN.{ℤ, pos}
use lib.Ieee.{Float, nan}
use Rattle.bars.specs.declared.Bar.{Bar}
use Rattle.machine.specs.declared.Mark.{Mark}
use Rattle.stores.specs.Stores.{bar_of}
use Rattle.machine.specs.Strokes.{Stroke}
use Rattle.strokes.specs.declared.Stand.{Stand}
use Rattle.strokes.specs.StateRead.{row_bar, fractal_of, row_fractal, no_fractal, stroke_with}
use Rattle.strokes.specs.Lent.{Stores}
use Rattle.strokes.specs.Code.StrokeSteps.{Kept}
use Rattle.strokes.specs.FractalRows.{row_mark}
use Rattle.named.specs.declared.stroke_rows.StrokeRows.{StrokeRows}
use Rattle.reports.specs.declared.measures.StrokeEnd.{StrokeEnd}
use Rattle.reports.specs.declared.fractal_answers.FractalAnswers.{FractalAnswers}
use Rattle.reports.specs.FractalAnswers.{answers_of}
use Rattle.reports.specs.declared.inner_bars.InnerBars.{InnerBars}
use Rattle.reports.specs.Code.ElementPrices.{end_of, InColumns, Shows}
use Rattle.reports.specs.Code.MeasuredRows.{InnerIs, ShownBy}
use Rattle.named.specs.Code.NamedRows.{rows_of, end_row, stroke_in, RowsStand}
use Rattle.named.proofs.StrokeAt.{fractals-length, fractal-row}

-- ---- the row of a fractal

pub end_is : (p : List Float) (r : StrokeEnd) → r.mark ≡ row_mark p → r.high ≡ get_or p 8 nan → r.low ≡ get_or p 9 nan → r ≡ end_of (row_fractal [] p)
unfolding end_of row_mark row_fractal fractal_of row_bar bar_of
end_is p r a b c =
    let h = b ∙ sym (get_or-take 6 (drop 6 p) 2 nan (omega arith) ∙ get_or-drop 6 p 2 nan) in
    let l = c ∙ sym (get_or-take 6 (drop 6 p) 3 nan (omega arith) ∙ get_or-drop 6 p 3 nan) in
    λ i. record { mark = a i; high = h i; low = l i }

-- no stamp is asked
end-stamps : (t : List ℤ) (p : List Float) → end_of (row_fractal t p) ≡ end_of (row_fractal [] p)
unfolding end_of row_fractal fractal_of row_bar bar_of
end-stamps t p = refl

-- ---- of a stand whose strokes pass

module _ (s : Stand) (m : Stores) (i : ℕ) (h : i < s.strokes) (lb : length s.bars ≡ 65) (lf : length s.fractals ≡ 65) (k : Kept s m.strokes m.fractals) (g : RowsStand (rows_of s i) s.rooms.strokes) where
  abbrev rows : StrokeRows
  rows = rows_of s i

  abbrev here : Stroke
  here = stroke_in m rows

  pub start_is : end_of here.start ≡ end_of (row_fractal [] (get_or m.fractals.prices rows.first []))
  unfolding stroke_in stroke_with
  start_is =
      let e : rows.first + 0 ≡ rows.first = omega arith in
      ap end_of (fractal-row s m i h lb lf k g 0 no_fractal (omega (arith, g.one)))
      ∙ end-stamps (get_or m.fractals.stamps (rows.first + 0) []) (get_or m.fractals.prices (rows.first + 0) [])
      ∙ ap (λ (n : ℕ). end_of (row_fractal [] (get_or m.fractals.prices n []))) e

  pub stop_is : end_of here.end ≡ end_of (row_fractal [] (get_or m.fractals.prices (end_row rows) []))
  unfolding stroke_in stroke_with end_row
  stop_is =
      let j = 2 * (rows.fractals / 2) - 1 in
      ap (λ (n : ℕ). end_of (get_or here.fractals (2 * (n / 2) - 1) no_fractal)) (fractals-length s m i h lb lf k g)
      ∙ ap end_of (fractal-row s m i h lb lf k g j no_fractal (omega (arith, g.one)))
      ∙ end-stamps (get_or m.fractals.stamps (rows.first + j) []) (get_or m.fractals.prices (rows.first + j) [])

-- ---- the bars of a fractal's row

pub row-bar : (p : List Float) (at : ℕ) (b : Bar) → b.time ≡ pos 0 → b.id ≡ pos 0 → b.«open» ≡ get_or p at nan → b.close ≡ get_or p (at + 1) nan → b.high ≡ get_or p (at + 2) nan → b.low ≡ get_or p (at + 3) nan
    → b.vol ≡ get_or p (at + 4) nan → b.amount ≡ get_or p (at + 5) nan → b ≡ bar_of (pos 0) (pos 0) (take 6 (drop at p))
unfolding bar_of
row-bar p at b t i o c h l v a =
    let z : at + 0 ≡ at = omega arith in
    let o' = o ∙ ap (λ (n : ℕ). get_or p n nan) (sym z) ∙ from 0 (omega arith) in
    let c' = c ∙ from 1 (omega arith) in
    let h' = h ∙ from 2 (omega arith) in
    let l' = l ∙ from 3 (omega arith) in
    let v' = v ∙ from 4 (omega arith) in
    let a' = a ∙ from 5 (omega arith) in
    λ j. record { time = t j; id = i j; «open» = o' j; close = c' j; high = h' j; low = l' j; vol = v' j; amount = a' j }
  where
    from : (k : ℕ) → k < 6 → get_or p (at + k) nan ≡ get_or (take 6 (drop at p)) k nan
    from k q = sym (get_or-take 6 (drop at p) k nan q ∙ get_or-drop at p k nan)

-- the answers of a row's fractal, made of its mark and its bars
pub row-answers : (p : List Float) (k : Mark) (a b c : Bar) (r : FractalAnswers)
    → r ≡ answers_of (record { mark = k; left = record { bar = a; elements = [] }; mid = record { bar = b; elements = [] }; right = record { bar = c; elements = [] } })
    → k ≡ row_mark p
    → a ≡ bar_of (pos 0) (pos 0) (take 6 (drop 0 p))
    → b ≡ bar_of (pos 0) (pos 0) (take 6 (drop 6 p))
    → c ≡ bar_of (pos 0) (pos 0) (take 6 (drop 12 p))
    → r ≡ answers_of (row_fractal [] p)
unfolding row_mark row_fractal fractal_of row_bar
row-answers p k a b c r e ek ea eb ec =
    e ∙ (λ i. answers_of (record { mark = ek i; left = record { bar = ea i; elements = [] }; mid = record { bar = eb i; elements = [] }; right = record { bar = ec i; elements = [] } }))

-- ---- a stroke's rows

-- what is made of them shows the stroke that they show
pub shows : (raw : List Bar) (b : Stroke) (r : StrokeRows) (n : ℕ) (m : Stores) (e : ℕ) (x y : StrokeEnd) (c : InnerBars) → x ≡ end_of (row_fractal [] (get_or m.fractals.prices r.first []))
    → y ≡ end_of (row_fractal [] (get_or m.fractals.prices e [])) → e ≡ end_row r → InnerIs r n m c → ShownBy raw b r n m
    → Shows (record { ends = record { start = x; end = y }; bars = r.bars; inner = c }) raw b
shows raw b r n m e x y c p q f w k =
    let stop = k.ends ∙ sym (q ∙ ap (λ (i : ℕ). end_of (row_fractal [] (get_or m.fractals.prices i []))) f) in
    let start = k.starts ∙ sym p in
    record {
      ends = λ i. record { start = start i; end = stop i };
      bars = k.count;
      columns = subst (λ (z : List ℤ × List (List Float) × List (List Float) × List ℕ × List (List ℤ)). InColumns raw b z.0 z.1 z.2 z.3 z.4) (λ i. ((sym w.raw i).times, (sym w.raw i).prices, sym w.prices i, sym w.counts i, sym w.elements i)) k.columns;
    }
