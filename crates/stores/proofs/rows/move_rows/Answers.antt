use native.Mathlib.Omega.{arith}
use lib.ListN.{drop}
use lib.Seq.{paste}
use Prim.Native.Nat.{◌+◌, ◌-◌, ℕ}
use mathlib.Core.Path.{◌≡◌, ap, ◌∙◌}
use Rattle.bars.specs.Lists.{copied}
use Rattle.stores.proofs.rows.move_rows.Goals as goal

pub returns : goal.returns
unfolding copied
returns g c =
    let a = c.args in
    let e : a.from + a.n - a.from ≡ a.n = omega arith in
    c.copy_within.ensures.after ∙ ap (λ (m : ℕ). paste a.s.now a.at (drop a.from a.s.now) m) e
