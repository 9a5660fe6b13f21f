use borrow.Author.Rules.{rules}
use Prim.Native.Nat.{ℕ}
use native.Mathlib.Omega.{arith}
use mathlib.Core.Bool.{true, false}
use mathlib.Core.Option.{none, some}
use mathlib.Core.Path.{◌≡◌, refl, sym, ◌∙◌}
use mir.Syntax.{w64}
use mir.ValLaws.{to_z-of_z}
use Rattle.std.proofs.lemmas.Result.{err_from_is_err_and}
use Rattle.machine.specs.Feed.{is_later}
use Rattle.stores.specs.Columns.{raw_in}
use Rattle.asking.proofs.AskLaws.{early-refused, early-full, early-passed, none_early, some_early, after_newest, later_newest}
use Rattle.asking.proofs.questions.ask_early.Goals.{else-later-via-then-later+else-room-count, else-later-via-else-later}
use Rattle.asking.proofs.questions.ask_early.Goals as goal

-- ---- no raw bar is kept

pub returns-in_err-question_of_bar : goal.returns-in_err-question_of_bar
returns-in_err-question_of_bar c =
    let a = c.args in
    let p = err_from_is_err_and c.from_residual.result c.from_residual.ensures.1 in
    rw (p.1, p.2) (none_early (raw_in a.raw) a.count a.count a.room a.b _ c.in_default.ensures (early-refused none a.count a.room a.b _ c.in_err-question_of_bar.ensures))

pub returns-then-count-room : goal.returns-then-count-room
unfolding is_later
returns-then-count-room c =
    let a = c.args in
    none_early (raw_in a.raw) a.count a.count a.room a.b _ c.in_default.ensures (early-passed none a.count a.room a.b true c.in_ok-question_of_bar.ensures refl (λ z. c.if-count-room.true))

pub returns-else-count-room : goal.returns-else-count-room
unfolding is_later
returns-else-count-room c =
    let a = c.args in
    none_early (raw_in a.raw) a.count a.count a.room a.b _ c.in_default.ensures (early-full none a.count a.room a.b c.in_ok-question_of_bar.ensures refl c.if-count-room.false)

-- ---- k is the newest

pub returns-in_err-question_after : goal.returns-in_err-question_after
returns-in_err-question_after c =
    let a = c.args in
    let k = c.in-Some.newest in
    let p = err_from_is_err_and c.from_residual-in_err-question_after.result c.from_residual-in_err-question_after.ensures.1 in
    let time = to_z-of_z w64 k.time (record { sfits = search rules }) in
    rw (p.1, p.2)
    (some_early (raw_in a.raw) a.count a.count a.room a.b _ k c.requires c.in-Some.ensures (early-refused (some k) a.count a.room a.b _ (c.in_err-question_after.ensures ∙ after_newest k a.b _ time)))

pub returns-then-room-count : goal.returns-then-room-count
returns-then-room-count c =
    let a = c.args in
    let k = c.in-Some.newest in
    let time = to_z-of_z w64 k.time (record { sfits = search rules }) in
    let own = to_z-of_z w64 a.b.time (record { sfits = search rules }) in
    some_early (raw_in a.raw) a.count a.count a.room a.b _ k c.requires c.in-Some.ensures
    (early-full (some k) a.count a.room a.b (c.in_ok-question_after.ensures ∙ after_newest k a.b _ time) (sym (later_newest k a.b _ _ time own) ∙ c.if-later.true) c.if-room-count.true)

pub returns : goal.returns
returns c =
    let a = c.args in
    let k = c.in-Some.newest in
    let time = to_z-of_z w64 k.time (record { sfits = search rules }) in
    let own = to_z-of_z w64 a.b.time (record { sfits = search rules }) in
    some_early (raw_in a.raw) a.count a.count a.room a.b _ k c.requires c.in-Some.ensures
    (early-passed (some k) a.count a.room a.b _ (c.in_ok-question_after.ensures ∙ after_newest k a.b _ time) (later_newest k a.b _ _ time own)
    (λ z. elim c.else-later.branch [
      | else-later-via-then-later+else-room-count w ↦ w.if-room-count.false
      | else-later-via-else-later w ↦ (let f : true ≡ false = sym z ∙ w.if-later.false in let y : ◌≡◌ {A = ℕ} 0 1 = cc in absurd (omega arith))
    ]))
