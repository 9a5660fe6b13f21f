use Prim.Native.Nat.{ℕ, ◌-◌}
use native.Mathlib.Omega.{arith}
use mathlib.Core.List.{List}
use mathlib.Core.Path.{◌≡◌, ap, sym, subst, ◌∙◌}
use lib.Dec.{T}
use lib.IntN.{ℤ}
use lib.ListN.{length}
use Rattle.stores.specs.Stores.{RawStore}
use Rattle.stores.specs.Code.StoreRows.{rising}
use Rattle.stores.specs.Columns.{raw_in}
use Rattle.reports.specs.Code.MeasuredRows.{first_raw}
use Rattle.sound.proofs.SoundStrokes.{cut_lengths}
use Rattle.reports.proofs.rows_shown.first_bars.Goals as goal

pub invariant_of-result : goal.invariant_of-result
invariant_of-result c =
    let k = c.args.columns in
    let r = c.requires.room in
    let all : c.args.n - 0 ≡ c.args.n = omega arith in
    let e = c.part.ensures ∙ ap (λ (m : ℕ). first_raw m (raw_in k)) all in
    let times = sym (ap (λ (s : RawStore). length s.times) e) in
    record {
      ids = ap (λ (s : RawStore). length s.ids) e ∙ cut_lengths k.ids.now k.times.now c.args.n r.ids r.times ∙ times;
      prices = ap (λ (s : RawStore). length s.prices) e ∙ cut_lengths k.prices.now k.times.now c.args.n r.prices r.times ∙ times;
      rise = subst (λ (ts : List ℤ). T (rising ts)) (sym (ap (λ (s : RawStore). s.times) e)) c.requires.rise;
    }

pub returns : goal.returns
returns c = let all : c.args.n - 0 ≡ c.args.n = omega arith in c.part.ensures ∙ ap (λ (m : ℕ). first_raw m (raw_in c.args.columns)) all
