use native.Mathlib.Omega.{arith}
use Prim.Native.Nat.{◌<◌, min}
use mathlib.Core.Path.{ap, ◌∙◌}
use lib.ListN.{length, take, get_or}
use lib.IntN.{ℤ, pos}
use mir.Syntax.{w64}
use mir.ValLaws.{to_z-of_z}
use Rattle.stores.specs.Stores.{raw_bars}
use Rattle.stores.specs.Columns.{raw_in}
use Rattle.reports.specs.Code.UbiSteps.{see_at}
use Rattle.reports.proofs.MeasureLaws.{element_turn}
use borrow.Author.Rules.{rules}
use Rattle.reports.proofs.ubi.see_row.Goals as goal

pub loop-j-preserved : goal.loop-j-preserved
loop-j-preserved c = let a = c.args in let l = c.loop-j in let t = c.loop-j-test.true in let m = c.min-k.ensures in let h : l.j < min a.count (length a.row.now) = omega (arith, m) in element_turn a.row.now a.count l.j h (see_at (take a.n (raw_bars (raw_in a.raw)))) l.s _ _ (c.see_named-s.ensures ∙ ap (λ (x : ℤ). (see_at (take a.n (raw_bars (raw_in a.raw)))) l.s x) (to_z-of_z w64 (get_or a.row.now l.j (pos 0)) (record { sfits = search rules }))) l.invariant
