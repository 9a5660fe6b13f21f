-- What a writing step does to the numbers of elements in a store of merged bars: soundness asks that no bar in use has more than 101, and the list that is read
-- does not show it. Definitions only.
use Rattle.std.specs.Prelude.{ℕ, T}
use Rattle.stores.specs.Stores.{MergedStore}
use Rattle.strokes.specs.StateRead.{elements_sized}

-- where none of the first n bars of the store m has more than 101 elements, none of the first k of the store w has
abbrev pub StaySized : ℕ → MergedStore → ℕ → MergedStore → Type 0
StaySized n m k w = T (elements_sized n m) → T (elements_sized k w)
