use borrow.Author.Rules.{rules}
use mathlib.Core.Path.{ap, sym, ◌∙◌}
use lib.ListN.{length, take, get_or}
use lib.IntN.{ℤ, pos}
use lib.Signed.{lt_z}
use mir.Syntax.{w64}
use mir.Val.{to_z, of_z}
use mir.ValLaws.{to_z-of_z}
use Rattle.std.specs.Prelude.{Some}
use Rattle.std.specs.Option.{option_to_list}
use Rattle.bars.specs.declared.Bar.{Bar}
use Rattle.stores.specs.Columns.{raw_in}
use Rattle.stores.specs.Code.StoreRows.{place_of}
use Rattle.stores.proofs.KeptBars.{none_past, none-there, one-there}
use Rattle.stores.proofs.lent_columns.RawColumns.named.Goals as goal

pub returns-then-t-self : goal.returns-then-t-self
returns-then-t-self c =
    let a = c.args in
    let m = raw_in a.self in
    let r = c.requires in
    let e = to_z-of_z w64 a.t c.ranges.t in
    let p = c.find_time-p.ensures ∙ ap (λ (x : ℤ). place_of x (take a.n m.times)) e in
    let x = get_or m.times c.find_time-p.result (pos 0) in
    let q = to_z-of_z w64 x (search rules) in
    none-there m a.n (length m.times) r.sized r.fits r.rise a.t c.find_time-p.result p (to_z w64 (of_z w64 x)) q (ap (λ (y : ℤ). lt_z y (to_z w64 (of_z w64 x))) (sym e) ∙ c.if-t-self.true)

pub returns-then-p-n : goal.returns-then-p-n
returns-then-p-n c =
    let a = c.args in
    let m = raw_in a.self in
    let r = c.requires in
    let e = to_z-of_z w64 a.t c.ranges.t in
    let p = c.find_time-p.ensures ∙ ap (λ (x : ℤ). place_of x (take a.n m.times)) e in
    let x = get_or m.times c.find_time-p.result (pos 0) in
    let q = to_z-of_z w64 x (search rules) in
    ap (λ (b : Bar). option_to_list (Some b)) c.bar.ensures
    ∙ one-there m a.n (length m.times) r.sized r.fits r.rise a.t c.find_time-p.result p (to_z w64 (of_z w64 x)) c.if-p-n.true q (ap (λ (y : ℤ). lt_z y (to_z w64 (of_z w64 x))) (sym e) ∙ c.if-t-self.false)

pub returns : goal.returns
returns c =
    let a = c.args in
    let m = raw_in a.self in
    let r = c.requires in
    let e = to_z-of_z w64 a.t c.ranges.t in
    let p = c.find_time-p.ensures ∙ ap (λ (x : ℤ). place_of x (take a.n m.times)) e in
    none_past m a.n (length m.times) r.sized r.fits r.rise a.t c.find_time-p.result p c.if-p-n.false
