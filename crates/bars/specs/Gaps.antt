-- Document 01's gaps, with document 02's requests two and three: check_gap_info over the kept raw bars, as rows of prices: open, close, high, low, vol, amount.
-- d is the number of places for ratios. Definitions only.
use Rattle.std.specs.Prelude.{ℕ, ◌+◌, ◌-◌, Bool, true, false, List, [], ◌∷◌, map, length, take, get_or, ltb, leb, pos, Float, Result, Ok, Err}
use Rattle.std.specs.Prelude as Std
use Rattle.std.specs.Option.{unwrap_or}
use Rattle.std.specs.Float.{nan, fin, binary64}
use Rattle.std.specs.Float.Ieee.{lt, le, sub, div}
use Rattle.arith.specs.Rounding.{round_to}
use Rattle.arith.specs.Sums.{zero_f}
use Rattle.bars.specs.declared.gaps.Side.{Side}
use Rattle.bars.specs.declared.gaps.Side.TheVariants as Way
use Rattle.bars.specs.declared.gaps.Gap.{Gap}
use Rattle.bars.specs.declared.refusals.Question.{Question}
use Rattle.bars.specs.declared.refusals.Question.TheVariants.{Exists}
use Rattle.bars.specs.Lists.{some_of, copied}

-- ---- one pair

unfoldable pub row_high : List Float → Float
row_high p = get_or p 2 nan

unfoldable pub row_low : List Float → Float
row_low p = get_or p 3 nan

-- how far the higher edge lies above the lower one, to d places: each operation rounds once
unfoldable pub ratio_of : ℕ → Float → Float → Float
unfolding round_to sub div
ratio_of d h l = round_to d (sub binary64 (div binary64 h l) (fin false 1 (pos 0)))

-- an up gap is covered by a bar whose low is below the first bar's high, a down gap by one whose high is above the first bar's low
unfoldable pub covers_up : List Float → List Float → Bool
unfolding lt row_high row_low
covers_up a x = lt (row_low x) (row_high a)

unfoldable pub covers_down : List Float → List Float → Bool
unfolding lt row_high row_low
covers_down a x = lt (row_low a) (row_high x)

-- the ratio divides by the lower edge, and where that is zero or less there is none
unfoldable pub has_no_ratio : Float → Bool
unfolding le
has_no_ratio l = le l zero_f

unfoldable pub ratio_if : Bool → ℕ → Float → Float → Std.Option Float
unfolding ratio_of
ratio_if true d l h = Std.None
ratio_if false d l h = Std.Some (ratio_of d h l)

unfoldable pub ratio_by : ℕ → Float → Float → Std.Option Float
unfolding ratio_if has_no_ratio
ratio_by d l h = ratio_if (has_no_ratio l) d l h

-- a gap by the way it goes, its lower edge l, its higher edge h and whether it is covered
unfoldable pub gap_by : Side → ℕ → Float → Float → Bool → Gap
unfolding ratio_by
gap_by s d l h c = record { side = s; low = l; high = h; ratio = ratio_by d l h; covered = c }

unfoldable pub up_gap : ℕ → Float → Float → Bool → Std.Option Gap
unfolding gap_by
up_gap d l h c = Std.Some (gap_by Way.Up d l h c)

unfoldable pub down_gap : ℕ → Float → Float → Bool → Std.Option Gap
unfolding gap_by
down_gap d l h c = Std.Some (gap_by Way.Down d l h c)

-- what a pair can be: no gap, or an up or a down gap with its lower edge, its higher edge, its ratio where it has one, and whether it is covered
abbrev pub NoGap : Std.Option Gap
NoGap = Std.None

abbrev pub Up : Float → Float → Float → Bool → Std.Option Gap
Up l h r c = Std.Some (record { side = Way.Up; low = l; high = h; ratio = Std.Some r; covered = c })

abbrev pub Down : Float → Float → Float → Bool → Std.Option Gap
Down l h r c = Std.Some (record { side = Way.Down; low = l; high = h; ratio = Std.Some r; covered = c })

abbrev pub UpNoRatio : Float → Float → Bool → Std.Option Gap
UpNoRatio l h c = Std.Some (record { side = Way.Up; low = l; high = h; ratio = Std.None; covered = c })

abbrev pub DownNoRatio : Float → Float → Bool → Std.Option Gap
DownNoRatio l h c = Std.Some (record { side = Way.Down; low = l; high = h; ratio = Std.None; covered = c })

-- the pair a, b: by whether a's high is below b's low, and whether a's low is above b's high. `right` are the bars from b on.
unfoldable pub gap_if : Bool → Bool → ℕ → List Float → List Float → List (List Float) → Std.Option Gap
unfolding row_high row_low up_gap down_gap some_of covers_up covers_down
gap_if true t d a b right = up_gap d (row_high a) (row_low b) (some_of (covers_up a) right)
gap_if false true d a b right = down_gap d (row_high b) (row_low a) (some_of (covers_down a) right)
gap_if false false d a b right = NoGap

unfoldable pub gap_of : ℕ → List Float → List Float → List (List Float) → Std.Option Gap
unfolding gap_if lt row_high row_low
gap_of d a b right = gap_if (lt (row_high a) (row_low b)) (lt (row_high b) (row_low a)) d a b right

-- ---- all pairs

-- each neighbouring pair, oldest first
unfoldable pub gaps_of : ℕ → List (List Float) → List (Std.Option Gap)
unfolding gap_of
gaps_of d [] = []
gaps_of d (a ∷ []) = []
gaps_of d (a ∷ b ∷ l) = gap_of d a b (b ∷ l) ∷ gaps_of d (b ∷ l)

-- ---- an answer's number and values

-- 0: none, 1: up, 2: down, 3: up without a ratio, 4: down without a ratio
unfoldable pub side_number : Side → Std.Option Float → ℕ
side_number Way.Up (Std.Some r) = 1
side_number Way.Down (Std.Some r) = 2
side_number Way.Up Std.None = 3
side_number Way.Down Std.None = 4

unfoldable pub gap_number : Std.Option Gap → ℕ
unfolding side_number
gap_number Std.None = 0
gap_number (Std.Some g) = side_number g.side g.ratio

-- the lower edge, the higher edge and the ratio; zero in the ratio's place where there is none, and zeros where there is no gap
unfoldable pub gap_values : Std.Option Gap → List Float
gap_values Std.None = zero_f ∷ zero_f ∷ zero_f ∷ []
gap_values (Std.Some g) = g.low ∷ g.high ∷ unwrap_or g.ratio zero_f ∷ []

unfoldable pub gap_covered : Std.Option Gap → Bool
gap_covered Std.None = false
gap_covered (Std.Some g) = g.covered

-- ---- the pair at a place: bars i and i + 1 of the first n

-- question 13 where there is no such pair
unfoldable pub pair_if : Bool → Std.Option Gap → Result (Std.Option Gap) Question
pair_if true g = Ok g
pair_if false g = Err Exists

unfoldable pub gap_at : ℕ → List (List Float) → ℕ → Result (Std.Option Gap) Question
unfolding pair_if gaps_of
gap_at d ps i = pair_if (ltb (i + 1) (length ps)) (get_or (gaps_of d ps) i NoGap)

unfoldable pub unless_short : Bool → Result (Std.Option Gap) Question → Result (Std.Option Gap) Question
unless_short true r = r
unless_short false r = Err Exists

unfoldable pub gap_among : ℕ → List (List Float) → ℕ → ℕ → Result (Std.Option Gap) Question
unfolding unless_short gap_at
gap_among d ps n i = unless_short (leb n (length ps)) (gap_at d (take n ps) i)

-- ---- all pairs of the first n, into lent columns

pub record GapColumns : Type 0 where
  pub kinds : List ℕ
  pub values : List (List Float)
  pub covered : List Bool

abbrev pub gap_columns : List ℕ → List (List Float) → List Bool → GapColumns
gap_columns ks vs cs = record { kinds = ks; values = vs; covered = cs }

-- the gaps gs in the columns' first n places
unfoldable pub written : List (Std.Option Gap) → ℕ → GapColumns → GapColumns
unfolding copied gap_number gap_values gap_covered
written gs n s =
    gap_columns (copied s.kinds 0 (map gap_number gs) 0 n) (copied s.values 0 (map gap_values gs) 0 n) (copied s.covered 0 (map gap_covered gs) 0 n)

-- a number, and the columns then
pub record GapsListed : Type 0 where
  pub number : ℕ
  pub columns : GapColumns

abbrev pub gaps_listed : ℕ → GapColumns → GapsListed
gaps_listed q s = record { number = q; columns = s }

-- by whether n bars are there, and whether each column has a place for each pair: 4, 14, or 0 with the gaps in place
unfoldable pub list_if : Bool → Bool → Bool → Bool → ℕ → List (List Float) → ℕ → GapColumns → GapsListed
unfolding written gaps_of
list_if false k v c d ps n s = gaps_listed 4 s
list_if true false v c d ps n s = gaps_listed 14 s
list_if true true false c d ps n s = gaps_listed 14 s
list_if true true true false d ps n s = gaps_listed 14 s
list_if true true true true d ps n s = gaps_listed 0 (written (gaps_of d (take n ps)) (n - 1) s)

unfoldable pub list_gaps : ℕ → List (List Float) → ℕ → GapColumns → GapsListed
unfolding list_if
list_gaps d ps n s =
    list_if (leb n (length ps)) (leb (n - 1) (length s.kinds)) (leb (n - 1) (length s.values)) (leb (n - 1) (length s.covered)) d ps n s
