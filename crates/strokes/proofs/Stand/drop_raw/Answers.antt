use native.Mathlib.Omega.{arith}
use mathlib.Core.Path.{◌≡◌, refl, ap, sym, ◌∙◌}
use lib.ListN.{take}
use mir.Syntax.{w64}
use mir.Val.{to_z, of_z}
use mir.ValLaws.{to_z-of_z}
use Rattle.stores.specs.Stores.{RawStore}
use Rattle.stores.specs.Columns.{raw_of}
use Rattle.stores.specs.Code.StoreRows.{place_of}
use Rattle.strokes.specs.Code.BarSteps.{with_raw}
use Rattle.strokes.proofs.StoredRaw.{place_in, early_dropped, none_dropped}
use Rattle.strokes.proofs.Stand.drop_raw.Goals as goal

pub returns-then-k-eq0-clause-has : goal.returns-then-k-eq0-clause-has
unfolding with_raw
returns-then-k-eq0-clause-has c =
    let a = c.args in
    let times = ap (λ (s : RawStore). s.times) c.seen.ensures in
    let p : c.count_before-k.result ≡ place_of a.t (take a.self.raw a.raw.now.times.now) = c.count_before-k.ensures ∙ (λ i. place_of (to_z-of_z w64 a.t c.ranges.t i) (take a.self.raw (times i))) in
    none_dropped a.self _ (raw_of a.raw.now) _ c.requires.fact_1 a.t c.requires.fact_2 (sym c.if-k-eq0.true ∙ p) refl refl

pub overflow_sub-left : goal.overflow_sub-left
overflow_sub-left c =
    let a = c.args in
    let h = c.requires.fact_1 in
    let g = c.requires.fact_2 in
    let times = ap (λ (s : RawStore). s.times) c.seen.ensures in
    let k = place_in (to_z w64 (of_z w64 a.t)) a.raw.now.times.now a.self.raw _ (omega arith) (c.count_before-k.ensures ∙ (λ i. place_of (to_z w64 (of_z w64 a.t)) (take a.self.raw (times i)))) in
    omega arith

pub move_bars-requires : goal.move_bars-requires
move_bars-requires c =
    let a = c.args in
    let h = c.requires.fact_1 in
    let g = c.requires.fact_2 in
    let times = ap (λ (s : RawStore). s.times) c.seen.ensures in
    let k = place_in (to_z w64 (of_z w64 a.t)) a.raw.now.times.now a.self.raw _ (omega arith) (c.count_before-k.ensures ∙ (λ i. place_of (to_z w64 (of_z w64 a.t)) (take a.self.raw (times i)))) in
    record { fact_1 = record { times = omega arith; ids = omega arith; prices = omega arith }; fact_2 = record { times = omega arith; ids = omega arith; prices = omega arith } }

pub returns-clause-has : goal.returns-clause-has
unfolding with_raw
returns-clause-has c =
    let a = c.args in
    let times = ap (λ (s : RawStore). s.times) c.seen.ensures in
    let p : c.count_before-k.result ≡ place_of a.t (take a.self.raw a.raw.now.times.now) = c.count_before-k.ensures ∙ (λ i. place_of (to_z-of_z w64 a.t c.ranges.t i) (take a.self.raw (times i))) in
    early_dropped a.self _ (raw_of a.raw.now) _ c.requires.fact_1 a.t _ c.requires.fact_2 p c.move_bars.ensures.store refl
