-- Over every list of calls, the strokes made are those kept, broken and shed.
-- Assumes nothing.
use Prim.Native.Nat.{ℕ, ◌+◌, ◌<◌}
use native.Mathlib.Omega.{arith}
use mathlib.Core.Path.{◌≡◌, refl}
use mathlib.Core.Bool.{Bool, true, false}
use mathlib.Core.List.{List, [], ◌∷◌}
use mathlib.Core.Option.{Option, none, some}
use lib.ListN.{length, length-append}
use lib.Dec.{T, ltb, ltb→lt}
use Rattle.bars.specs.Lists.{init, last}
use Rattle.bars.specs.declared.Bar.{Bar}
use Rattle.bars.specs.Bars.{Merged}
use Rattle.machine.specs.Strokes.{Stroke}
use Rattle.machine.specs.Feed.{Moved, add_found, Step, add_made, shed_if, shed_count, raw_with, merged_with, is_later}
use Rattle.machine.specs.Stand.{State}
use Rattle.machine.proofs.MachineByTime.{break_if, break_last, move_some, move, finish, step_with, step, feed_if, feed, plus, run}
use Rattle.machine.specs.Break.{breaks}
use Rattle.machine.specs.ByTime.{cut_by_time, check_bi_by_time}

length-init : {A : Type 0} (l : List A) (a : A) → last l ≡ some a → length (init l) + 1 ≡ length l
unfolding last init
length-init [] a h = let z : ◌≡◌ {A = ℕ} 0 1 = cc in omega arith
length-init (x ∷ []) a h = refl
length-init (x ∷ y ∷ l) a h = omega (arith, length-init (y ∷ l) a h)

-- what a step of the strokes does to their number
abbrev Counted : ℕ → Moved → Type 0
Counted n m = length m.kept + m.broken ≡ n + m.made

add-counted : (bs : List Stroke) (o : Option Stroke) (l : List Merged) → Counted (length bs) (add_made bs (record { stroke = o; rest = l }))
unfolding add_made add_found
add-counted bs none l = refl
add-counted bs (some b) l = omega (arith, length-append bs (b ∷ []))

add-none-broken : (bs : List Stroke) (o : Option Stroke) (l : List Merged) → (add_made bs (record { stroke = o; rest = l })).broken ≡ 0
unfolding add_made add_found
add-none-broken bs none l = refl
add-none-broken bs (some b) l = refl

break_counted : (t : Bool) (n : ℕ) (m : Moved) (b : Stroke) → last m.kept ≡ some b → m.broken ≡ 0 → Counted n m → Counted n (break_if t m b)
unfolding break_if
break_counted true n m b h z c = omega (arith, length-init m.kept b h)
break_counted false n m b h z c = c

break_last-counted : (n : ℕ) (m : Moved) (o : Option Stroke) → last m.kept ≡ o → m.broken ≡ 0 → Counted n m → Counted n (break_last m o)
unfolding break_last
break_last-counted n m none h z c = c
break_last-counted n m (some b) h z c = break_counted (breaks b (last m.left)) n m b h z c

move_some_counted : (minimum : ℕ) (l : List Merged) (bs : List Stroke) → Counted (length bs) (move_some minimum l bs)
unfolding move_some
move_some_counted minimum l [] = let f = check_bi_by_time minimum (cut_by_time l) in add-counted [] f.stroke f.rest
move_some_counted minimum l (b ∷ bs) =
    let f = check_bi_by_time minimum l in
    break_last-counted (length (b ∷ bs)) (add_made (b ∷ bs) f) (last (add_made (b ∷ bs) f).kept) refl (add-none-broken (b ∷ bs) f.stroke f.rest) (add-counted (b ∷ bs) f.stroke f.rest)

move-counted : (minimum : ℕ) (l : List Merged) (bs : List Stroke) → Counted (length bs) (move minimum l bs)
unfolding move
move-counted minimum [] bs = refl
move-counted minimum (a ∷ []) bs = refl
move-counted minimum (a ∷ b ∷ []) bs = refl
move-counted minimum (a ∷ b ∷ c ∷ l) bs = move_some_counted minimum (a ∷ b ∷ c ∷ l) bs

-- what a step answers
abbrev Balanced : ℕ → Step → Type 0
Balanced n s = length s.state.strokes + s.events.broken + s.events.shed ≡ n + s.events.made

shed-counted : (t : Bool) (bs : List Stroke) → (T t → 0 < length bs) → length (shed_if t bs) + shed_count t ≡ length bs
unfolding shed_if shed_count
shed-counted true [] h = omega (arith, h tt)
shed-counted true (b ∷ bs) h = omega arith
shed-counted false bs h = omega arith

finish_balanced : (most : ℕ) (raw : List Bar) (m : Moved) (n : ℕ) → Counted n m → Balanced n (finish most raw m)
unfolding finish
finish_balanced most raw m n c =
    omega (arith, shed-counted (ltb most (length m.kept)) m.kept (λ t. omega (arith, ltb→lt most (length m.kept) t)))

step_with_balanced : (minimum most : ℕ) (t : Bool) (s : State) (b : Bar) → Balanced (length s.strokes) (step_with minimum most t s b)
unfolding step_with
step_with_balanced minimum most t s b =
    finish_balanced most (raw_with t s b) (move minimum (merged_with t s b) s.strokes) (length s.strokes) (move-counted minimum (merged_with t s b) s.strokes)

feed_if_balanced : (minimum most : ℕ) (t : Bool) (s : State) (b : Bar) → Balanced (length s.strokes) (feed_if minimum most t s b)
unfolding feed_if step
feed_if_balanced minimum most true s b = step_with_balanced minimum most (is_later (last s.raw) b) s b
feed_if_balanced minimum most false s b = omega arith

-- strokes made = kept + broken + shed
pub run_balanced : (ok : State → Bar → Bool) (minimum most : ℕ) (s : Step) (bs : List Bar) → Balanced 0 s → Balanced 0 (run ok minimum most s bs)
unfolding run feed plus
run_balanced ok minimum most s [] h = h
run_balanced ok minimum most s (b ∷ bs) h =
    run_balanced ok minimum most (record { state = (feed ok minimum most s.state b).state; events = plus s.events (feed ok minimum most s.state b).events }) bs (omega (arith, feed_if_balanced minimum most (ok s.state b) s.state b))
