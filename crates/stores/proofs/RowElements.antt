-- One more element in a row, where the row lies: what the row and the bar at its place then are. Assumes nothing.
use Prim.Native.Nat.{ℕ, ◌+◌, min}
use mathlib.Core.List.{List, [], ◌∷◌, ◌++◌}
use mathlib.Core.Path.{◌≡◌, refl, ap, ◌∙◌}
use native.Mathlib.Omega.{arith}
use lib.ListN.{length, take, get_or, set}
use lib.IntN.{ℤ, pos}
use Rattle.bars.specs.declared.Bar.{Bar}
use Rattle.bars.specs.declared.NewBar.{NewBar}
use Rattle.bars.specs.Bars.{Merged, merged_of}
use Rattle.bars.specs.Code.MergedBars.{with_element}
use Rattle.bars.proofs.Including.{one_more}
use Rattle.stores.specs.Stores.{RawStore, MergedStore, merged_store, raw_part, bar_of, with_first}
use Rattle.stores.specs.Code.StoreRows.{set_bar, set_new_bar, RowWritten, BarWritten}
use Rattle.stores.proofs.Columns.{put_together}

-- bars' laws of one more element are over a bar, of which these rows ask nothing
any_bar : Bar
any_bar = bar_of (pos 0) (pos 0) []

module _ (cs : List ℕ) (es : List (List ℤ)) (at count used : ℕ) (t u : ℤ) (same : u ≡ t) (long : length (get_or es at []) ≡ 101) (is : used ≡ min count 100) where
  pub element_written : RowWritten cs es at (take 100 (take count (get_or es at [])) ++ t ∷ []) (set cs at (used + 1)) (set es at (set (get_or es at []) used u))
  unfolding merged_of with_element
  element_written =
      let row = get_or es at [] in
      let k : NewBar = record { bar = any_bar; count = count; elements = row } in
      record {
        count = used + 1;
        row = set row used u;
        counts = refl;
        elements = refl;
        reads = ap (λ (x : Merged). x.elements) (one_more any_bar k t u used same is (omega (arith, is, long)));
        few = omega (arith, is);
      }

-- the bar's other columns were written as well
pub bar-written : (m : MergedStore) (r : RawStore) (at count : ℕ) (b : Bar) (t u : ℤ) (ds : List ℕ) (fs : List (List ℤ)) → u ≡ t → r ≡ set_bar (raw_part m) at b
    → RowWritten m.counts m.elements at (take 100 (take count (get_or m.elements at [])) ++ u ∷ []) ds fs
    → BarWritten m at (with_element b (with_first b count (get_or m.elements at [])) t) (merged_store r.times r.ids r.prices ds fs)
unfolding set_new_bar merged_of with_element with_first
bar-written m r at count b t u ds fs same e d =
    record {
      bar = record { bar = b; count = d.count; elements = d.row };
      store = put_together e d.counts d.elements;
      reads = (λ i. record { bar = b; elements = (d.reads ∙ ap (λ (x : ℤ). take 100 (take count (get_or m.elements at [])) ++ x ∷ []) same) i });
      few = d.few;
    }
