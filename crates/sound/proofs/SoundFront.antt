-- The raw and the unfinished bars pass the clauses of soundness where their columns do. Assumes nothing.
use Prim.Native.Nat.{ℕ, ◌≤◌}
use mathlib.Core.Path.{◌≡◌, refl, ap, sym, ◌∙◌}
use mathlib.Core.Bool.{Bool, true, false, ◌&&◌}
use mathlib.Core.List.{List}
use lib.ListN.{length, take, drop}
use lib.IntN.{ℤ}
use lib.Ieee.{Float}
use Rattle.bars.specs.declared.Bar.{Bar}
use Rattle.bars.specs.Lists.{every, last}
use Rattle.bars.specs.Questions.{is_bar}
use Rattle.stores.specs.Stores.{RawStore, merged_store, raw_bars, merged_bars, zip_with}
use Rattle.stores.specs.Code.StoreRows.{SizedRaw}
use Rattle.stores.proofs.Columns.{zip-drop}
use Rattle.machine.specs.Soundness.{rises, bar_times, merged_times, is_merged, is_named, asked, newest_in}
use Rattle.sound.specs.Code.SoundStand.{in_time, times_pass, raw_row, merged_row, small_count, is_time, named_rows, newest_row, ends_in, skipped, raw_columns, unfinished_columns}
use Rattle.arith.proofs.Tests.{and_assoc}
use Rattle.sound.proofs.SoundStrokes.{cut_lengths}
use Rattle.sound.proofs.SoundReads.{Rows, raw-rows, raw-times, raw-every, raw-take, merged-times, merged-every, merged-elements, merged-length, named-elements, asked-drop, newest-elements}
use Rattle.strokes.proofs.BareStates.{map-drop}

pub raw_are : (n room : ℕ) (r : RawStore) → SizedRaw r room → n ≤ room
    → (rises (bar_times (take n (raw_bars r))) && every is_bar (take n (raw_bars r))) ≡ raw_columns (take n r.times) (take n r.prices)
unfolding raw_columns times_pass
raw_are n room r z h =
    let ht : n ≤ length r.times = rw z.times h in
    let hi : n ≤ length r.ids = rw z.ids h in
    let hp : n ≤ length r.prices = rw z.prices h in
    let ts = take n r.times in
    let ps = take n r.prices in
    let w = raw-rows ts (take n r.ids) ps (cut_lengths r.ids r.times n hi ht) (cut_lengths r.prices r.times n hp ht) in
    rw (raw-take n r.times r.ids r.prices, raw-times w, raw-every w) (and_assoc (rises ts) (every in_time ts) (every raw_row ps))

regroup : (a b c x : Bool) → (a && ((b && c) && x)) ≡ ((a && b) && (c && x))
regroup true true c x = refl
regroup true false c x = refl
regroup false b c x = refl

pub unfinished_are : {ts is : List ℤ} {ps : List (List Float)} {cs : List ℕ} {es : List (List ℤ)} (raw : List Bar) → Rows ts is ps cs es → length cs ≡ length ts
    → (rises (merged_times (merged_bars (merged_store ts is ps cs es)))
    && (every is_merged (merged_bars (merged_store ts is ps cs es))
    && (every small_count cs
    && (newest_in (last raw) (merged_bars (merged_store ts is ps cs es)) && every (is_named raw) (asked (merged_bars (merged_store ts is ps cs es)))))))
    ≡ unfinished_columns (bar_times raw) ts ps cs es
unfolding unfinished_columns times_pass newest_row named_rows
unfinished_are {ts} {is} {ps} {cs} {es} raw w e =
    let u = merged_bars (merged_store ts is ps cs es) in
    let n : skipped (length u) ≡ skipped (length cs) = ap skipped (merged-length w ∙ sym e) in
    let k = skipped (length cs) in
    let a = newest-elements raw u ∙ ap (λ (l : List (List ℤ)). ends_in (last (bar_times raw)) (last l)) (merged-elements w) in
    let d : every (is_named raw) (asked u) ≡ every (every (is_time (bar_times raw))) (zip_with take (drop k cs) (drop k es)) =
    ap (every (is_named raw)) (asked-drop u) ∙ named-elements raw (drop (skipped (length u)) u)
    ∙ ap (every (every (is_time (bar_times raw)))) (map-drop (λ m. m.elements) (skipped (length u)) u ∙ (λ j. drop (n j) (merged-elements w j)) ∙ sym (zip-drop take k cs es)) in
    (λ j. rises (merged-times w j) && (merged-every w j && (every small_count cs && (a j && d j))))
    ∙ regroup (rises ts) (every in_time ts) (every merged_row ps) (every small_count cs && (ends_in (last (bar_times raw)) (last (zip_with take cs es)) && every (every (is_time (bar_times raw))) (zip_with take (drop k cs) (drop k es))))
