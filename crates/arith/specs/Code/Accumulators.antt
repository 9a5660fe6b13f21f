-- The accumulators of src/sums.rt: where each starts, what one value more makes of it, and what it gives at the end. Definitions only.
use Rattle.std.specs.Prelude.{Bool, true, false, Float}
use Rattle.std.specs.Float.Ieee.{add, div, lt, eq}
use Rattle.arith.specs.declared.sums.MeanSums.{MeanSums}
use Rattle.arith.specs.declared.sums.SlopeSums.{SlopeSums}
use Rattle.arith.specs.declared.sums.FitSums.{FitSums}
use Rattle.arith.specs.declared.sums.SnrSums.{SnrSums}
use Rattle.arith.specs.declared.sums.SnrSums.TheVariants.{NoBar, OneBar, Bars}
use Rattle.arith.specs.Sums.{zero_f, minus_zero, one_f, two_f, three_f, plus, over, quotient_if, quotient, middle, cross, square, x4_of, x3_of, x2_of, x1_of, x2y_of, xy_of, y_of, fit_of, change_of}

-- a sum from its first term starts at -0.0, since -0.0 + x is x (SumLaws, `plus-minus-zero`)
abbrev pub mean_start : MeanSums
mean_start = record { n = zero_f; sum = minus_zero }

unfoldable pub mean_more : MeanSums → Float → MeanSums
unfolding add
mean_more s y = record { n = plus s.n one_f; sum = plus s.sum y }

unfoldable pub mean_end : MeanSums → Float
unfolding div
mean_end s = over s.sum s.n

unfoldable pub slope_start : MeanSums → SlopeSums
unfolding middle mean_end
slope_start s = record { n = zero_f; xmean = middle s.n; ymean = mean_end s; numerator = minus_zero; denominator = minus_zero }

unfoldable pub slope_more : SlopeSums → Float → SlopeSums
unfolding add cross square
slope_more s y =
    record {
      n = plus s.n one_f;
      xmean = s.xmean;
      ymean = s.ymean;
      numerator = plus s.numerator (cross s.xmean s.ymean s.n y);
      denominator = plus s.denominator (square s.xmean s.n y);
    }

-- 0.0 below two values
unfoldable pub slope_end_if : Bool → SlopeSums → Float
unfolding quotient_if eq
slope_end_if true s = zero_f
slope_end_if false s = quotient s.numerator s.denominator

unfoldable pub slope_end : SlopeSums → Float
unfolding slope_end_if lt
slope_end s = slope_end_if (lt s.n two_f) s

abbrev pub fit_start : FitSums
fit_start =
    record { n = zero_f; x4 = zero_f; x3 = zero_f; x2 = zero_f; x = zero_f; x2y = zero_f; xy = zero_f; y = zero_f }

unfoldable pub fit_more : FitSums → Float → FitSums
unfolding add x4_of x3_of x2_of x2y_of xy_of
fit_more s y =
    record {
      n = plus s.n one_f;
      x4 = plus s.x4 (x4_of s.n y);
      x3 = plus s.x3 (x3_of s.n y);
      x2 = plus s.x2 (x2_of s.n y);
      x = plus s.x (x1_of s.n y);
      x2y = plus s.x2y (x2y_of s.n y);
      xy = plus s.xy (xy_of s.n y);
      y = plus s.y (y_of s.n y);
    }

-- 0.0 below three values
unfoldable pub fit_end_if : Bool → FitSums → Float
unfolding fit_of
fit_end_if true s = zero_f
fit_end_if false s = fit_of s

unfoldable pub fit_end : FitSums → Float
unfolding fit_end_if lt
fit_end s = fit_end_if (lt s.n three_f) s

-- beside the sum of the changes, of one bar its open and close are kept, of more the first open and the last close
abbrev pub snr_start : SnrSums
snr_start = NoBar zero_f

unfoldable pub snr_more : SnrSums → Float × Float → SnrSums
unfolding add change_of
snr_more (NoBar t) p = OneBar p.0 p.1 (plus t (change_of p))
snr_more (OneBar o c t) p = Bars o p.1 (plus t (change_of p))
snr_more (Bars o c t) p = Bars o p.1 (plus t (change_of p))

-- none: 0.0; one: |close - open|; else the ratio
unfoldable pub snr_end : SnrSums → Float
unfolding change_of quotient_if eq
snr_end (NoBar t) = zero_f
snr_end (OneBar o c t) = change_of (o, c)
snr_end (Bars o c t) = quotient (change_of (o, c)) t
