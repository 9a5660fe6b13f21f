-- What get_fx_list and ubi_fxs answer of a stand and its lent stores, and the lent output that they write. Definitions only.
use Rattle.std.specs.Prelude.{ℕ, Bool, true, false, ◌&&◌, List, ◌≡◌, length, leb, Result, Ok, Err}
use Rattle.bars.specs.declared.refusals.Question.{Question}
use Rattle.bars.specs.declared.refusals.Question.TheVariants.{Sound, OutputRoom}
use Rattle.machine.specs.Fractals.{Fractal, check_fxs}
use Rattle.machine.specs.Stand.{State}
use Rattle.strokes.specs.Lent.{FractalStore}
use Rattle.strokes.specs.FractalRows.{put_fractals}
use Rattle.reports.specs.FractalList.{get_fx_list}

-- ---- the answer

-- question 14: both columns of the output have at least n places
unfoldable pub fits_all : FractalStore → ℕ → Bool
fits_all d n = leb n (length d.stamps) && leb n (length d.prices)

-- by question 4 and by question 14, of n fractals
unfoldable pub listed_by : Bool → Bool → ℕ → Result ℕ Question
listed_by true true n = Ok n
listed_by true false n = Err OutputRoom
listed_by false u n = Err Sound

-- a refusal leaves the output as it was
unfoldable pub output_by : Bool → FractalStore → List Fractal → FractalStore
unfolding put_fractals
output_by true d l = put_fractals d 0 l
output_by false d l = d

-- The answer r and the output d', which was d, are those of the list l, where t says whether question 4 passed.
pub record FxDone (t : Bool) (l : List Fractal) (d d' : FractalStore) (r : Result ℕ Question) : Type 0 where
  pub answer : r ≡ listed_by t (fits_all d (length l)) (length l)
  pub output : d' ≡ output_by (t && fits_all d (length l)) d l

-- get_fx_list of what is kept
unfoldable pub fx_list_of : State → List Fractal
unfolding get_fx_list
fx_list_of s = get_fx_list s.strokes s.unfinished

-- the fractals of the unfinished bars, oldest first: `fxs` of the source's get_ubi
unfoldable pub ubi_fxs_of : State → List Fractal
unfolding check_fxs
ubi_fxs_of s = check_fxs s.unfinished
