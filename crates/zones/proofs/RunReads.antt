-- Runs of strokes that are read stroke by stroke off the rows.
-- Assumes nothing.
use Prim.Native.Nat.{ℕ, ◌+◌, ◌-◌, ◌*◌, ◌/◌, ◌<◌}
use mathlib.Core.Path.{◌≡◌, ap, sym, ◌∙◌}
use native.Mathlib.Numerals.{add-one}
use mathlib.Core.List.{List, [], ◌∷◌, ◌++◌}
use lib.ListN.{length, take, get_or, set}
use lib.Seq.{take-suc-set}
use Rattle.strokes.specs.declared.Stand.{Stand}
use Rattle.machine.specs.declared.Mark.{Mark}
use Rattle.check_bi.specs.declared.check_fx.Candle.{Candle}
use Rattle.strokes.specs.StateRead.{total}
use Rattle.strokes.specs.Lent.{FractalStore}
use Rattle.strokes.specs.FractalRows.{row_mark}
use Rattle.zones.specs.declared.Summary.{Summary}
use Rattle.zones.specs.declared.kept_run.Run.{Run}
use Rattle.zones.specs.Code.Runs.{strokes_in, IsRun}
use Rattle.zones.specs.Code.StrokesRead.{stroke_place, fractal_number, stroke_end, summary_from, summary_at, read_run}
use Rattle.named.specs.Code.NamedRows.{mark_at, middle_at}
use Rattle.zones.proofs.Items.{items_more}

-- a stroke that the code has read
pub summary_done : (s : Stand) (f : FractalStore) (i place e : ℕ) (m : Mark) (a z : Candle) (r : Summary)
    → place ≡ total (take i s.bars)
    → e ≡ 2 * (get_or s.fractals i 0 / 2) - 1
    → m ≡ row_mark (get_or f.prices place [])
    → a ≡ middle_at f place
    → z ≡ middle_at f (place + e)
    → r ≡ summary_from m a z
    → r ≡ summary_at s f i
unfolding summary_at stroke_place fractal_number stroke_end mark_at
summary_done s f i place e m a z r ep ee em ea ez er =
    er ∙ (λ j. summary_from (em j) (ea j) (ez j)) ∙ (λ j. summary_from (row_mark (get_or f.prices (ep j) [])) (middle_at f (ep j)) (middle_at f (ep j + ee j)))

-- ---- the strokes of a run that is named

pub run-is : {r : Run} {s : Stand} {f : FractalStore} {i n : ℕ} → IsRun r s f i n → strokes_in r ≡ read_run s f i n
run-is h = λ j. read_run (h.stand j) (h.fractals j) (h.first j) (h.count j)

-- ---- a run that is read into an array, stroke by stroke

module _ (s : Stand) (f : FractalStore) (first : ℕ) where
  pub reads_more : (run run' : List Summary) (j : ℕ) (x : Summary) → j < length run → x ≡ summary_at s f (first + j) → run' ≡ set run j x → take j run ≡ read_run s f first j → take (j + 1) run' ≡ read_run s f first (j + 1)
  unfolding read_run
  reads_more run run' j x h e q k =
      ap (take (j + 1)) q
      ∙ ap (λ (n : ℕ). take n (set run j x)) (add-one j)
      ∙ take-suc-set run j x h
      ∙ (λ i. k i ++ e i ∷ [])
      ∙ sym (items_more (summary_at s f) first j)
