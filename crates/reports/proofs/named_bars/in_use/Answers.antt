use native.Mathlib.Omega.{arith}
use mathlib.Core.Path.{◌≡◌, ap, sym, ◌∙◌}
use mathlib.Core.List.{[]}
use Prim.Native.Nat.{ℕ, min}
use lib.ListN.{length, take, get_or}
use Rattle.std.proofs.lemmas.List.{take_min}
use Rattle.reports.proofs.named_bars.in_use.Goals as goal

pub returns-clause-value : goal.returns-clause-value
returns-clause-value c =
    let row = get_or c.args.elements.now c.args.i [] in
    let long : length row ≡ 101 = let t = c.told-elements c.args.i c.requires in omega arith in
    ap (λ (n : ℕ). take n row) (c.min.ensures ∙ ap (min c.args.count) (sym long)) ∙ take_min c.args.count row
