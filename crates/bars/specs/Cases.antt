-- Marked instances 1, 2, 3, 4 and 12 of document 01, gaps at and below zero, and bounds of the questions, computed.
use Rattle.std.specs.Prelude.{ℕ, suc, zero, ◌≡◌, refl, true, false, List, [], ◌∷◌, ◌++◌, map, ℤ, pos, negsuc, Float}
use Rattle.std.specs.Prelude as Std
use Rattle.std.proofs.Math.Option.{none, some}
use Rattle.std.specs.Float.{nan, inf, fin, binary64}
use Rattle.std.specs.Float.Ieee.{neg, round, of_int}
use Rattle.bars.specs.declared.Bar.{Bar}
use Rattle.bars.specs.declared.gaps.Gap.{Gap}
use Rattle.bars.specs.Bars.{Merged, own, row_of}
use Rattle.bars.specs.Questions.{first_failed}
use Rattle.bars.specs.Merging.{remove_include, merge_all}
use Rattle.bars.specs.Gaps.{NoGap, Up, Down, UpNoRatio, DownNoRatio, gaps_of, gap_number, gap_values, gap_covered}

abbrev num : ℕ → Float
unfolding of_int
num n = of_int binary64 (pos n)

abbrev minus : ℕ → Float
unfolding of_int neg
minus n = neg (num n)

-- 2^-20, the smallest price above zero
abbrev least : Float
least = fin false 1 (negsuc 19)

-- a bar of this time, high and low
bar : ℕ → Float → Float → Bar
unfolding of_int
bar t h l = record { time = pos t; id = pos t; «open» = l; close = h; high = h; low = l; vol = num 1; amount = num 1 }

-- ---- merging: time, high and low of what comes after the first bar

record Seen : Type 0 where
  time : ℤ
  high : Float
  low : Float

seen : Merged → Seen
seen k = record { time = k.bar.time; high = k.bar.high; low = k.bar.low }

see : ℕ → ℕ → ℕ → Seen
unfolding of_int
see t h l = record { time = pos t; high = num h; low = num l }

-- bars of times 1, 2 and 3, by high and low
merged : ℕ → ℕ → ℕ → ℕ → ℕ → ℕ → List Seen
unfolding bar own remove_include seen
merged h1 l1 h2 l2 h3 l3 = map seen (remove_include (own (bar 1 (num h1) (num l1))) (own (bar 2 (num h2) (num l2))) (bar 3 (num h3) (num l3)))

-- 1. 10/8, 12/9, then 11/10: merged 12/10, second's time
one : merged 10 8 12 9 11 10 ≡ see 2 12 10 ∷ []
unfolding merged see
one = refl

-- 2. 12/9, 10/7, then 11/6: 10/6, third's time
two : merged 12 9 10 7 11 6 ≡ see 3 10 6 ∷ []
unfolding merged see
two = refl

-- 3. 10/8, 12/9, then 12/9: third's time
three : merged 10 8 12 9 12 9 ≡ see 3 12 9 ∷ []
unfolding merged see
three = refl

-- 4. 10/8, 10/7, then 9/8: own bar
four : merged 10 8 10 7 9 8 ≡ see 2 10 7 ∷ see 3 9 8 ∷ []
unfolding merged see
four = refl

-- ---- a bar 102 deep holds elements 1 to 100 and 102

counted : ℕ → ℕ → List ℤ
counted zero t = []
counted (suc n) t = pos t ∷ counted n (suc t)

same : ℕ → ℕ → List Bar
unfolding bar of_int
same zero t = []
same (suc n) t = bar t (num 12) (num 9) ∷ same n (suc t)

-- after a bar 10/8 of time 0, bars 12/9 of times 1 to 102 are one bar
deep : map (λ k. k.elements) (merge_all (own (bar 0 (num 10) (num 8)) ∷ []) (same 102 1)) ≡ (pos 0 ∷ []) ∷ (counted 100 1 ++ pos 102 ∷ []) ∷ []
unfolding bar same counted merge_all own of_int
deep = refl

-- ---- gaps

-- 12. Gap 10/8, 12/11, then 11/10: up, ratio 0.1, open. Low 9.5 instead: covered
-- (0.1 is 3602879701896397 / 2 ^ 55, and 9.5 is 19 / 2)
gaps : Float → List (Std.Option Gap)
unfolding bar row_of gaps_of of_int
gaps l = gaps_of 4 (row_of (bar 1 (num 10) (num 8)) ∷ row_of (bar 2 (num 12) (num 11)) ∷ row_of (bar 3 (num 11) l) ∷ [])

twelve : gaps (num 10) ≡ Up (num 10) (num 11) (fin false 3602879701896397 (negsuc 54)) false ∷ NoGap ∷ []
unfolding gaps of_int
twelve = refl

twelve-covered : gaps (fin false 19 (negsuc 0)) ≡ Up (num 10) (num 11) (fin false 3602879701896397 (negsuc 54)) true ∷ NoGap ∷ []
unfolding gaps of_int
twelve-covered = refl

-- other places: that ratio to 0 places is 0, and 3/2, 5/4 to 6 places is the float nearest 0.333333
ratio_to_0 : gaps_of 0 (row_of (bar 1 (num 10) (num 8)) ∷ row_of (bar 2 (num 12) (num 11)) ∷ []) ≡ Up (num 10) (num 11) (num 0) false ∷ []
unfolding bar row_of gaps_of of_int
ratio_to_0 = refl

ratio_to_6 : gaps_of 6 (row_of (bar 1 (num 3) (num 2)) ∷ row_of (bar 2 (num 5) (num 4)) ∷ []) ≡ Up (num 3) (num 4) (round binary64 false 333333 1000000) false ∷ []
unfolding bar row_of gaps_of of_int round
ratio_to_6 = refl

-- Two bars, the first one's high and low and then the second one's, and what the pair is. An up gap divides by the first high, a down gap by the second.
pair_of : Float → Float → Float → Float → List (Std.Option Gap)
unfolding bar row_of gaps_of of_int
pair_of h1 l1 h2 l2 = gaps_of 4 (row_of (bar 1 h1 l1) ∷ row_of (bar 2 h2 l2) ∷ [])

-- up, from an edge above zero, at zero and below it: 1 / 2^-20 - 1 is 1048575
up_above : pair_of least (minus 2) (num 2) (num 1) ≡ Up least (num 1) (num 1048575) false ∷ []
unfolding pair_of of_int neg
up_above = refl

up_at : pair_of (num 0) (minus 2) (num 2) (num 1) ≡ UpNoRatio (num 0) (num 1) false ∷ []
unfolding pair_of of_int neg
up_at = refl

up-below : pair_of (neg least) (minus 2) (num 2) (num 1) ≡ UpNoRatio (neg least) (num 1) false ∷ []
unfolding pair_of of_int neg
up-below = refl

-- down, to an edge above zero, at zero and below it; the higher edge may be zero too
down_above : pair_of (num 2) (num 1) least (minus 2) ≡ Down least (num 1) (num 1048575) false ∷ []
unfolding pair_of of_int neg
down_above = refl

down-at : pair_of (num 2) (num 1) (num 0) (minus 2) ≡ DownNoRatio (num 0) (num 1) false ∷ []
unfolding pair_of of_int neg
down-at = refl

down-below : pair_of (num 2) (num 0) (neg least) (minus 2) ≡ DownNoRatio (neg least) (num 0) false ∷ []
unfolding pair_of of_int neg
down-below = refl

-- a gap without a ratio can be covered: -3/-4, -1/-2, then a low below -3; and what is listed of it
below-covered : gaps_of 4 (row_of (bar 1 (minus 3) (minus 4)) ∷ row_of (bar 2 (minus 1) (minus 2)) ∷ row_of (bar 3 (minus 1) (minus 5)) ∷ []) ≡ UpNoRatio (minus 3) (minus 2) true ∷ NoGap ∷ []
unfolding bar row_of gaps_of of_int neg
below-covered = refl

listed_3 : gap_number (UpNoRatio (minus 3) (minus 2) true) ≡ 3
unfolding gap_number
listed_3 = refl

listed_4 : gap_number (DownNoRatio (minus 3) (minus 2) true) ≡ 4
unfolding gap_number
listed_4 = refl

listed-values : gap_values (UpNoRatio (minus 3) (minus 2) true) ≡ minus 3 ∷ minus 2 ∷ num 0 ∷ []
unfolding gap_values of_int neg
listed-values = refl

listed-covered : gap_covered (DownNoRatio (minus 3) (minus 2) true) ≡ true
unfolding gap_covered
listed-covered = refl

-- ---- questions

-- a bar with this high, all else in range
high : Float → Bar
unfolding bar of_int
high h = bar 1 h (num 8)

-- price 2^30 in, the next float out; NaN and infinity out
price_in : first_failed none (high (fin false 1 (pos 30))) ≡ 0
unfolding high first_failed
price_in = refl

price_out : first_failed none (high (fin false 4503599627370497 (negsuc 21))) ≡ 6
unfolding high first_failed
price_out = refl

price-nan : first_failed none (high nan) ≡ 6
unfolding high first_failed
price-nan = refl

price-infinite : first_failed none (high (inf false)) ≡ 6
unfolding high first_failed
price-infinite = refl

-- a bar of one price: the first question that it fails
flat : Float → ℕ
unfolding bar first_failed
flat x = first_failed none (bar 1 x x)

-- in: plain zero, 2^-20, -2^-20, 2^30 and -2^30
prices_in : map flat (num 0 ∷ least ∷ neg least ∷ num 1073741824 ∷ minus 1073741824 ∷ []) ≡ 0 ∷ 0 ∷ 0 ∷ 0 ∷ 0 ∷ []
unfolding flat of_int neg
prices_in = refl

-- out: minus zero, 2^-21, -2^-21, the last floats before 2^-20 and before -2^-20 towards zero, the smallest float
prices-near-zero : map flat (minus 0 ∷ fin false 1 (negsuc 20) ∷ fin true 1 (negsuc 20) ∷ fin false 9007199254740991 (negsuc 72) ∷ fin true 9007199254740991 (negsuc 72) ∷ fin false 1 (negsuc 1073) ∷ [])
    ≡ 6 ∷ 6 ∷ 6 ∷ 6 ∷ 6 ∷ 6 ∷ []
unfolding flat of_int neg
prices-near-zero = refl

-- out: the next floats beyond 2^30 and -2^30, both infinities
prices-beyond : map flat (fin false 4503599627370497 (negsuc 21) ∷ fin true 4503599627370497 (negsuc 21) ∷ inf false ∷ inf true ∷ []) ≡ 6 ∷ 6 ∷ 6 ∷ 6 ∷ []
unfolding flat
prices-beyond = refl

-- each of the four is asked: minus zero as open, as close, as high and as low alone
asked : Float → Float → Float → Float → ℕ
unfolding first_failed of_int
asked o c h l = first_failed none (record { time = pos 1; id = pos 1; «open» = o; close = c; high = h; low = l; vol = num 1; amount = num 1 })

each-asked : asked (minus 0) (num 0) (num 0) (num 0) ∷ asked (num 0) (minus 0) (num 0) (num 0) ∷ asked (num 0) (num 0) (minus 0) (num 0) ∷ asked (num 0) (num 0) (num 0) (minus 0) ∷ [] ≡ 6 ∷ 6 ∷ 6 ∷ 6 ∷ []
unfolding asked of_int neg
each-asked = refl

-- vol zero in, minus zero out
volume : Float → Bar
unfolding of_int
volume v = record { time = pos 1; id = pos 1; «open» = num 8; close = num 9; high = num 9; low = num 8; vol = v; amount = num 1 }

zero_in : first_failed none (volume (fin false 0 (pos 0))) ≡ 0
unfolding volume first_failed
zero_in = refl

minus-zero_out : first_failed none (volume (fin true 0 (pos 0))) ≡ 7
unfolding volume first_failed
minus-zero_out = refl

-- the last time again in, an earlier one out
again_in : first_failed (some (bar 5 (num 9) (num 8))) (bar 5 (num 9) (num 8)) ≡ 0
unfolding bar first_failed of_int
again_in = refl

earlier_out : first_failed (some (bar 5 (num 9) (num 8))) (bar 4 (num 9) (num 8)) ≡ 9
unfolding bar first_failed of_int
earlier_out = refl
