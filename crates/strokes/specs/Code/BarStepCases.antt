-- Instances of the steps' definitions, computed.
use Rattle.std.specs.Prelude.{[], ◌∷◌, map, ◌≡◌, refl, ℤ, pos}
use Rattle.bars.specs.declared.Bar.{Bar}
use Rattle.bars.specs.Bars.{Merged, own}
use Rattle.bars.specs.Lists.{fold_left, keep_if, skip_while, last, init}
use Rattle.bars.specs.Merging.{merge_in, merge_all, at_times, again}
use Rattle.stores.specs.Stores.{MergedStore, merged_store, raw_bars, zip_with, bar_of, with_first, merged_bars}
use Rattle.machine.specs.ByTime.{from}
use Rattle.machine.specs.Break.{from_bar, joined}
use Rattle.strokes.specs.StateRead.{stroke_with}
use Rattle.strokes.specs.Code.BarSteps.{stored_stroke, merged_again}

time_of : Merged → ℤ
time_of k = k.bar.time

-- a store of five bars without prices and elements
five : ℤ → ℤ → ℤ → ℤ → ℤ → MergedStore
five a b c d e = merged_store (a ∷ b ∷ c ∷ d ∷ e ∷ []) (pos 0 ∷ pos 0 ∷ pos 0 ∷ pos 0 ∷ pos 0 ∷ []) ([] ∷ [] ∷ [] ∷ [] ∷ [] ∷ []) (0 ∷ 0 ∷ 0 ∷ 0 ∷ 0 ∷ []) ([] ∷ [] ∷ [] ∷ [] ∷ [] ∷ [])

-- a stroke of bars 2, 4, 6 from place 1 on: 2 comes back, and then the unfinished bars from 4 on
joins : map time_of (joined (stored_stroke (five (pos 9) (pos 2) (pos 4) (pos 6) (pos 9)) 1 3) (merged_bars (five (pos 2) (pos 3) (pos 4) (pos 6) (pos 7)))) ≡ pos 2 ∷ pos 4 ∷ pos 6 ∷ pos 7 ∷ []
unfolding joined stored_stroke stroke_with init last from_bar from skip_while merged_bars raw_bars zip_with bar_of with_first five time_of
joins = refl

bar : ℤ → Bar
bar t = bar_of t (pos 0) []

-- the only unfinished bar has elements 3 and 5: the raw bar 3 comes again, and another bar of time 5 after it; the raw bar of time 5 does not
again-merged : merged_again (bar (pos 1) ∷ bar (pos 3) ∷ bar (pos 5) ∷ []) (record { bar = bar (pos 5); elements = pos 3 ∷ pos 5 ∷ [] } ∷ []) (bar (pos 5)) ≡ own (bar (pos 3)) ∷ own (bar (pos 5)) ∷ []
unfolding merged_again merge_all fold_left merge_in again at_times keep_if last init bar bar_of
again-merged = refl
