-- What the gap reports answer of a stand and its lent stores: one pair of neighbouring kept raw bars, and all of them. Definitions only.
use Rattle.std.specs.Prelude.{ℕ, ◌<◌, Bool, true, false, ◌&&◌, List, [], map, ◌≡◌, length, take, get_or, Float, Option, Result, Ok, Err}
use Rattle.bars.specs.declared.gaps.Gap.{Gap}
use Rattle.bars.specs.declared.refusals.Question.{Question}
use Rattle.bars.specs.declared.refusals.Question.TheVariants.{Sound, OutputRoom}
use Rattle.bars.specs.Gaps.{gap_at, gaps_of, gap_number, gap_values, gap_covered, GapColumns, written}
use Rattle.strokes.specs.declared.Stand.{Stand}
use Rattle.strokes.specs.Lent.{Stores}
use Rattle.named.specs.ReportQuestions.{question14}
use Rattle.question4.specs.Question4.{question4}

-- the rows of prices of the kept raw bars, oldest first
unfoldable pub kept_prices : Stand → Stores → List (List Float)
kept_prices s m = take s.raw m.raw.prices

-- ---- one pair

-- by question 4; question 13, whether there is such a pair, is asked by gap_at
unfoldable pub pair_by : Bool → Result (Option Gap) Question → Result (Option Gap) Question
pair_by true a = a
pair_by false a = Err Sound

-- of the kept raw bars at places i and i + 1, the ratio to the stand's places
unfoldable pub gap_report : Stand → Stores → ℕ → Result (Option Gap) Question
unfolding pair_by question4 gap_at kept_prices
gap_report s m i = pair_by (question4 s m) (gap_at s.ratio_places (kept_prices s m) i)

-- g is the gap that the listing of all pairs of these rows, ratios to d places, has at place i: its number, its values and whether it was covered
pub record ListedAt (d : ℕ) (ps : List (List Float)) (i : ℕ) (g : Option Gap) : Type 0 where
  pub within : i < length (gaps_of d ps)
  pub number : gap_number g ≡ get_or (map gap_number (gaps_of d ps)) i 0
  pub values : gap_values g ≡ get_or (map gap_values (gaps_of d ps)) i []
  pub covered : gap_covered g ≡ get_or (map gap_covered (gaps_of d ps)) i false

-- ---- all pairs

-- the answer, and the lent columns then
pub record GapsAnswered : Type 0 where
  pub answer : Result ℕ Question
  pub columns : GapColumns

abbrev pub gaps_answered : Result ℕ Question → GapColumns → GapsAnswered
gaps_answered r d = record { answer = r; columns = d }

-- question 14: each column has a place for each pair
unfoldable pub gaps_fit : GapColumns → List (Option Gap) → Bool
unfolding question14
gaps_fit d gs = question14 gs (length d.kinds) && (question14 gs (length d.values) && question14 gs (length d.covered))

-- by question 4 and by question 14: a refusal leaves the columns as they were; else each gap's number, values and cover are in its place
unfoldable pub gaps_by : Bool → Bool → List (Option Gap) → GapColumns → GapsAnswered
unfolding written
gaps_by false u gs d = gaps_answered (Err Sound) d
gaps_by true false gs d = gaps_answered (Err OutputRoom) d
gaps_by true true gs d = gaps_answered (Ok (length gs)) (written gs (length gs) d)

-- of all pairs of kept raw bars, oldest first
unfoldable pub gaps_report : Stand → Stores → GapColumns → GapsAnswered
unfolding gaps_by gaps_fit question4 gaps_of kept_prices
gaps_report s m d =
    let gs = gaps_of s.ratio_places (kept_prices s m) in
    gaps_by (question4 s m) (gaps_fit d gs) gs d
