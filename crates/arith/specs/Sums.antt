-- The sums behind the measures of a stroke, over a list of values, each operation named in the order in which the Rust of bi.rs does it:
-- the sum and the mean, get_slope, get_acceleration and get_snr. Definitions only.
use Rattle.std.specs.Prelude.{Bool, true, false, List, [], ◌∷◌, map, pos, Float}
use Rattle.std.specs.List.{zip}
use mathlib.Core.List.{foldl}
use Rattle.std.specs.Float.{fin, binary64}
use Rattle.std.specs.Float.Ieee.{round, add, sub, mul, div, lt, eq}
use Rattle.arith.specs.Order.{abs_of}
use Rattle.arith.specs.declared.sums.FitSums.{FitSums}

-- ---- the numbers that the Rust names, and its four operations, which round once each
abbrev pub zero_f : Float
zero_f = fin false 0 (pos 0)

abbrev pub minus_zero : Float
minus_zero = fin true 0 (pos 0)

abbrev pub one_f : Float
one_f = fin false 1 (pos 0)

abbrev pub two_f : Float
two_f = fin false 1 (pos 1)

abbrev pub three_f : Float
three_f = fin false 3 (pos 0)

-- 1e-10: the float nearest to 1 / 10 ^ 10
unfoldable pub tiny : Float
unfolding round
tiny = round binary64 false 1 10000000000

abbrev pub plus : Float → Float → Float
plus = add binary64

abbrev pub less : Float → Float → Float
less = sub binary64

abbrev pub times : Float → Float → Float
times = mul binary64

abbrev pub over : Float → Float → Float
over = div binary64

-- ---- sums

-- "A sum runs left to right from its first term". The Rust's `sum()` of nothing is -0.0.
unfoldable pub sum_of : List Float → Float
unfolding add
sum_of [] = minus_zero
sum_of (x ∷ l) = foldl plus x l

-- A sum for which the Rust names 0.0.
unfoldable pub sum_from_zero : List Float → Float
unfolding add
sum_from_zero l = foldl plus zero_f l

-- `len() as f64`: 1.0 for each value, counted up from 0.0. (SumLaws, `count-whole`: up to 2 ^ 53 values it is that whole number.)
unfoldable pub count_from : {A : Type 0} → Float → List A → Float
unfolding add
count_from n [] = n
count_from n (x ∷ l) = count_from (plus n one_f) l

abbrev pub count_of : {A : Type 0} → List A → Float
count_of l = count_from zero_f l

-- `iter().enumerate().map(|(i, y)| f(i as f64, y))`, with places counted from x on
unfoldable pub terms_from : (Float → Float → Float) → Float → List Float → List Float
unfolding add
terms_from f x [] = []
terms_from f x (y ∷ l) = f x y ∷ terms_from f (plus x one_f) l

abbrev pub terms : (Float → Float → Float) → List Float → List Float
terms f l = terms_from f zero_f l

-- a quotient that is 0.0 where the divisor equals 0.0
unfoldable pub quotient_if : Bool → Float → Float → Float
unfolding div
quotient_if true a b = zero_f
quotient_if false a b = over a b

abbrev pub quotient : Float → Float → Float
quotient a b = quotient_if (eq b zero_f) a b

-- ---- the mean, and the slope (`get_slope`)

unfoldable pub mean_of : List Float → Float
unfolding sum_of count_from div
mean_of l = over (sum_of l) (count_of l)

-- the mean of the places 0 to n - 1
unfoldable pub middle : Float → Float
unfolding sub div
middle n = over (less n one_f) two_f

-- a term of the numerator, and one of the divisor: "A square is the product."
unfoldable pub cross : Float → Float → Float → Float → Float
unfolding sub mul
cross xmean ymean x y = times (less x xmean) (less y ymean)

unfoldable pub square : Float → Float → Float → Float
unfolding sub mul
square xmean x y = times (less x xmean) (less x xmean)

unfoldable pub slope_of : List Float → Float
unfolding quotient_if eq sum_of terms_from cross square middle mean_of count_from
slope_of [] = zero_f
slope_of (x ∷ []) = zero_f
slope_of (x ∷ y ∷ l) =
    let all = x ∷ y ∷ l in
    let m = middle (count_of all) in
    quotient (sum_of (terms (cross m (mean_of all)) all)) (sum_of (terms (square m) all))

-- ---- the acceleration (`get_acceleration`, `numpy_compatible_quadratic_fit`)

-- the terms of the seven sums, at the place x and the value y
unfoldable pub x4_of : Float → Float → Float
unfolding mul
x4_of x y = times (times (times x x) x) x

unfoldable pub x3_of : Float → Float → Float
unfolding mul
x3_of x y = times (times x x) x

unfoldable pub x2_of : Float → Float → Float
unfolding mul
x2_of x y = times x x

abbrev pub x1_of : Float → Float → Float
x1_of x y = x

unfoldable pub x2y_of : Float → Float → Float
unfolding mul
x2y_of x y = times (times x x) y

unfoldable pub xy_of : Float → Float → Float
unfolding mul
xy_of x y = times x y

abbrev pub y_of : Float → Float → Float
y_of x y = y

unfoldable pub fit_sums : List Float → FitSums
unfolding count_from sum_from_zero terms_from x4_of x3_of x2_of x2y_of xy_of
fit_sums l =
    record {
      n = count_of l;
      x4 = sum_from_zero (terms x4_of l);
      x3 = sum_from_zero (terms x3_of l);
      x2 = sum_from_zero (terms x2_of l);
      x = sum_from_zero (terms x1_of l);
      x2y = sum_from_zero (terms x2y_of l);
      xy = sum_from_zero (terms xy_of l);
      y = sum_from_zero (terms y_of l);
    }

-- The determinant by its first column a, b, c: a * (x2 * n - x * x) - b * (x3 * n - x * x2) + c * (x3 * x - x2 * x2).
unfoldable pub det_with : Float → Float → Float → FitSums → Float
unfolding add sub mul
det_with a b c s =
    plus
    (less (times a (less (times s.x2 s.n) (times s.x s.x)))
    (times b (less (times s.x3 s.n) (times s.x s.x2))))
    (times c (less (times s.x3 s.x) (times s.x2 s.x2)))

unfoldable pub det_of : FitSums → Float
unfolding det_with
det_of s = det_with s.x4 s.x3 s.x2 s

unfoldable pub det_a_of : FitSums → Float
unfolding det_with
det_a_of s = det_with s.x2y s.xy s.y s

-- 0.0 where |det| < 1e-10, else det_a / det
unfoldable pub fit_if : Bool → FitSums → Float
unfolding div det_a_of det_of
fit_if true s = zero_f
fit_if false s = over (det_a_of s) (det_of s)

unfoldable pub fit_of : FitSums → Float
unfolding fit_if lt abs_of det_of tiny
fit_of s = fit_if (lt (abs_of (det_of s)) tiny) s

unfoldable pub acceleration_of : List Float → Float
unfolding fit_of fit_sums
acceleration_of [] = zero_f
acceleration_of (x ∷ []) = zero_f
acceleration_of (x ∷ y ∷ []) = zero_f
acceleration_of (x ∷ y ∷ z ∷ l) = fit_of (fit_sums (x ∷ y ∷ z ∷ l))

-- ---- SNR (`get_snr`), over pairs of open and close

-- |close - open|
unfoldable pub change_of : Float × Float → Float
unfolding abs_of sub
change_of p = abs_of (less p.1 p.0)

-- the last close; c where there is none
unfoldable pub last_from : Float → List (Float × Float) → Float
last_from c [] = c
last_from c (p ∷ l) = last_from p.1 l

unfoldable pub snr_of : List (Float × Float) → Float
unfolding change_of quotient_if eq abs_of sub last_from sum_from_zero
snr_of [] = zero_f
snr_of (p ∷ []) = change_of p
snr_of (p ∷ q ∷ l) = quotient (abs_of (less (last_from q.1 l) p.0)) (sum_from_zero (map change_of (p ∷ q ∷ l)))

-- two lists as one of pairs, as far as the shorter one goes
abbrev pub pairs : List Float → List Float → List (Float × Float)
pairs = zip
