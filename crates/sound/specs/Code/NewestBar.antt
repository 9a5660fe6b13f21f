-- The clause of question 4 on the newest raw bar, asked alone: it is read off three columns. Definitions only.
use Rattle.std.specs.Prelude.{ℕ, ◌≤◌, ◌≡◌, Bool, List, length, ℤ, T}
use Rattle.machine.specs.Soundness.{newest_last}
use Rattle.strokes.specs.declared.Stand.{Stand}
use Rattle.strokes.specs.StateRead.{state_of, sized}
use Rattle.strokes.specs.Lent.{Stores}

-- the columns have as many places as bars are kept: raw times, and the counts and rows of the unfinished bars' elements
pub record NewestRoom (s : Stand) (ts : List ℤ) (cs : List ℕ) (es : List (List ℤ)) : Type 0 where
  pub times : s.raw ≤ length ts
  pub counts : s.unfinished ≤ length cs
  pub elements : s.unfinished ≤ length es

-- r is the answer for all stores of the recorded lengths that have these columns
pub record NewestIs (s : Stand) (ts : List ℤ) (cs : List ℕ) (es : List (List ℤ)) (r : Bool) : Type 0 where
  pub answer : (m : Stores) → T (sized s m) → m.raw.times ≡ ts → m.unfinished.counts ≡ cs → m.unfinished.elements ≡ es → r ≡ newest_last (state_of s m)
