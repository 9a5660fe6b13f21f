use Rattle.std.proofs.Common.{subst, List, Float, None, take, drop, length-take-le, take-append-drop}
use Rattle.check_bi.specs.Code.Windows.{taken_at, NoneBetween}
use Rattle.check_bi.proofs.ScanWindows.{store-none}
use native.Mathlib.Omega.{arith}
use Rattle.from_fresh.proofs.ClearNext.{looked_on}
use Rattle.from_fresh.proofs.windows.clear_after.Goals as goal

pub next_row-requires : goal.next_row-requires
next_row-requires c =
    let a = c.args in
    let p = c.requires in
    let k = c.known_after-known.ensures.1 in
    let e = length-take-le a.after.unfinished a.up.now p.4 in
    (omega (arith, p.2), omega (arith, p.2))

pub returns : goal.returns
returns c =
    let a = c.args in
    let n = a.after.unfinished in
    let e = length-take-le n a.up.now c.requires.4 in
    let w = store-none (take n a.up.now) (drop n a.up.now) None n _ _ (omega arith) c.next_row.ensures.before in
    looked_on _ _ _ _ _ _ _ _ _ _ c.if-before-ne0.false c.if-made-ne0.false c.known_after-known.ensures.0
    (subst (λ (l : List (List Float)). NoneBetween (taken_at l None) n c.known_after-known.result c.next_row.result) (take-append-drop n a.up.now) w)
