use Prim.Native.Nat.{ℕ, ◌+◌, ◌-◌, ◌≤◌}
use mathlib.Core.List.{◌++◌}
use mathlib.Core.Path.{◌≡◌, ap, sym, ◌∙◌}
use native.Mathlib.Omega.{arith}
use lib.ListN.{length, take, drop, length-drop}
use lib.Seq.{length-take-le}
use Rattle.std.proofs.lemmas.List.{take-take}
use Rattle.std.proofs.lemmas.Slice.{put_mid-paste}
use Rattle.bars.specs.Lists.{copied}
use Rattle.stores.proofs.rows.join_rows.Goals as goal

pub returns : goal.returns
unfolding copied
returns g c =
    let a = c.args in
    let rest = drop a.from a.src.now in
    let k : a.from + a.n - a.from ≡ a.n = omega arith in
    let room : a.n ≤ length rest = rw length-drop (omega (arith, c.requires.0)) in
    put_mid-paste a.at _ a.dst.now _ (take a.n rest) a.n (c.copy_from_slice.ensures.after ∙ ap (λ (m : ℕ). take m rest) k) (omega arith) (sym (length-take-le a.n rest room))
    ∙ ap (λ r. take a.at a.dst.now ++ r ++ drop (a.at + a.n) a.dst.now) (take-take a.n a.n rest (omega arith))
