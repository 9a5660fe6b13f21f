-- A bar is merged into the unfinished store: where it is later, and where it replaces the last one. Assumes nothing.
use mathlib.Core.Bool.{Bool, true, false}
use mathlib.Core.Path.{◌≡◌, ap, sym, subst}
use Rattle.bars.specs.declared.Bar.{Bar}
use Rattle.bars.specs.Merging.{merge_in}
use Rattle.stores.specs.Stores.{RawStore, MergedStore}
use Rattle.machine.specs.Feed.{merged_with}
use Rattle.strokes.specs.declared.Stand.{Stand}
use Rattle.strokes.specs.Code.BarSteps.{HasUnfinished, CanMerge, merged_again, kept_raw, kept_unfinished}
use Rattle.writing.specs.Code.WriteSteps.{CanPut, bars_only, merged_from}

module _ (s : Stand) (m : RawStore) (u : MergedStore) (b : Bar) where
  from-later : (t : Bool) → t ≡ true → merged_from t s m u b ≡ merge_in (kept_unfinished s u) b
  unfolding merged_from merged_with bars_only
  from-later t e = ap (λ (x : Bool). merged_from x s m u b) e

  from-again : (t : Bool) → t ≡ false → merged_from t s m u b ≡ merged_again (kept_raw s m) (kept_unfinished s u) b
  unfolding merged_from merged_with bars_only merged_again
  from-again t e = ap (λ (x : Bool). merged_from x s m u b) e

  module _ (t : Bool) (h : CanPut s m u t b) where
    pub later-fits : t ≡ true → CanMerge s u (merge_in (kept_unfinished s u) b)
    later-fits e = subst (CanMerge s u) (from-later t e) h.merges

    pub again-fits : t ≡ false → CanMerge s u (merged_again (kept_raw s m) (kept_unfinished s u) b)
    again-fits e = subst (CanMerge s u) (from-again t e) h.merges

  pub later_has : (t : Bool) (r : Stand) (w : MergedStore) → t ≡ true → HasUnfinished s r w (merge_in (kept_unfinished s u) b) → HasUnfinished s r w (merged_from t s m u b)
  later_has t r w e h = subst (HasUnfinished s r w) (sym (from-later t e)) h

  pub again_has : (t : Bool) (r : Stand) (w : MergedStore) → t ≡ false → HasUnfinished s r w (merged_again (kept_raw s m) (kept_unfinished s u) b) → HasUnfinished s r w (merged_from t s m u b)
  again_has t r w e h = subst (HasUnfinished s r w) (sym (from-again t e)) h
