-- A feed from a state without the elements of fractals' bars goes as from the state with them: the same events, and the same state but for those elements.
-- Assumes nothing.
use Prim.Native.Nat.{ℕ}
use mathlib.Core.Path.{◌≡◌, refl, ap, sym, ◌∙◌}
use mathlib.Core.Bool.{Bool, true, false}
use mathlib.Core.List.{List, [], ◌∷◌, ◌++◌, map, map-append}
use mathlib.Core.Option
use mathlib.Core.Option.{Option, none, some}
use lib.ListN.{length, length-map}
use lib.Dec.{ltb, leb}
use Rattle.bars.specs.declared.Bar.{Bar}
use Rattle.bars.specs.Bars.{Merged}
use Rattle.bars.specs.Lists.{last}
use Rattle.machine.specs.declared.Direction.{Direction}
use Rattle.machine.specs.declared.Direction.TheVariants.{Up, Down}
use Rattle.machine.specs.Strokes.{Stroke, direction_of, check_bi}
use Rattle.machine.specs.Break.{high_of, low_of, past_in, broken_by, breaks, joined}
use Rattle.machine.specs.Stand.{Settings, State}
use Rattle.machine.specs.Feed.{is_later, raw_with, merged_with, Moved, add_found, add_made, make_after, make_if, make, break_if, break_last, move_after, move_if, move, shed_if, shed_count, drop_early, Step, finish_if, finish, step_with, step}
use Rattle.strokes.specs.StateRead.{bare_bar, bare_fractal, bare_stroke, bare_state}
use Rattle.strokes.proofs.BareStates.{last-map, init-map, map-drop, strokes-twice}

-- ---- making

-- what a step of the strokes has left, without the elements of fractals' bars
abbrev pub bare_moved : Moved → Moved
bare_moved m = record { left = m.left; kept = map bare_stroke m.kept; made = m.made; broken = m.broken }

found_bare : (o : Option Stroke) (bs : List Stroke) (l : List Merged) → bare_moved (add_found o (map bare_stroke bs) l) ≡ bare_moved (add_found o bs l)
unfolding add_found
found_bare none bs l = λ i. record { left = l; kept = strokes-twice bs i; made = 0; broken = 0 }
found_bare (some b) bs l =
    let e : map bare_stroke (map bare_stroke bs ++ b ∷ []) ≡ map bare_stroke (bs ++ b ∷ []) =
    map-append bare_stroke (map bare_stroke bs) (b ∷ []) ∙ ap (λ (r : List Stroke). r ++ bare_stroke b ∷ []) (strokes-twice bs) ∙ sym (map-append bare_stroke bs (b ∷ [])) in
    λ i. record { left = l; kept = e i; made = 1; broken = 0 }

make-after_bare : (minimum : ℕ) (l : List Merged) (bs : List Stroke) → bare_moved (make_after minimum l (map bare_stroke bs)) ≡ bare_moved (make_after minimum l bs)
unfolding make_after add_made
make-after_bare minimum l [] = refl
make-after_bare minimum l (b ∷ bs) = found_bare (check_bi minimum l).stroke (b ∷ bs) (check_bi minimum l).rest

make_if_bare : (t : Bool) (minimum : ℕ) (l : List Merged) (bs : List Stroke) → bare_moved (make_if t minimum l (map bare_stroke bs)) ≡ bare_moved (make_if t minimum l bs)
unfolding make_if
make_if_bare true minimum l bs = make-after_bare minimum l bs
make_if_bare false minimum l bs = λ i. record { left = l; kept = strokes-twice bs i; made = 0; broken = 0 }

pub make_bare : (minimum : ℕ) (l : List Merged) (bs : List Stroke) → bare_moved (make minimum l (map bare_stroke bs)) ≡ bare_moved (make minimum l bs)
unfolding make
make_bare minimum l bs = make_if_bare (leb 3 (length l)) minimum l bs

-- ---- breaking

-- what is asked of the last stroke, and what it gives back, is of its mark, its ends' highs and lows, and its bars
past_bare : (d : Direction) (b : Stroke) (k : Merged) → past_in d (bare_stroke b) k ≡ past_in d b k
unfolding past_in high_of low_of bare_stroke bare_fractal bare_bar
past_bare Up b k = refl
past_bare Down b k = refl

breaks_bare : (b : Stroke) (o : Option Merged) → breaks (bare_stroke b) o ≡ breaks b o
unfolding breaks broken_by bare_stroke bare_fractal
breaks_bare b none = refl
breaks_bare b (some k) = past_bare (direction_of b.start.mark) b k

joined_bare : (b : Stroke) (l : List Merged) → joined (bare_stroke b) l ≡ joined b l
unfolding joined bare_stroke
joined_bare b l = refl

break_if_bare : (t : Bool) (m : Moved) (b : Stroke) → break_if t (bare_moved m) (bare_stroke b) ≡ bare_moved (break_if t m b)
unfolding break_if
break_if_bare true m b = λ i. record { left = joined_bare b m.left i; kept = init-map bare_stroke m.kept i; made = m.made; broken = 1 }
break_if_bare false m b = refl

break_last_bare : (m : Moved) (o : Option Stroke) → break_last (bare_moved m) (Option.map bare_stroke o) ≡ bare_moved (break_last m o)
unfolding break_last
break_last_bare m none = refl
break_last_bare m (some b) =
    ap (λ (t : Bool). break_if t (bare_moved m) (bare_stroke b)) (breaks_bare b (last m.left)) ∙ break_if_bare (breaks b (last m.left)) m b

broken_bare : (m : Moved) → break_last (bare_moved m) (last (bare_moved m).kept) ≡ bare_moved (break_last m (last m.kept))
broken_bare m = ap (break_last (bare_moved m)) (last-map bare_stroke m.kept) ∙ break_last_bare m (last m.kept)

move-after_bare : (minimum : ℕ) (l : List Merged) (bs : List Stroke) → bare_moved (move_after minimum l (map bare_stroke bs)) ≡ bare_moved (move_after minimum l bs)
unfolding move_after
move-after_bare minimum l [] = refl
move-after_bare minimum l (b ∷ bs) =
    sym (broken_bare (make_after minimum l (map bare_stroke (b ∷ bs))))
    ∙ ap (λ (m : Moved). break_last m (last m.kept)) (make-after_bare minimum l (b ∷ bs))
    ∙ broken_bare (make_after minimum l (b ∷ bs))

move_if_bare : (t : Bool) (minimum : ℕ) (l : List Merged) (bs : List Stroke) → bare_moved (move_if t minimum l (map bare_stroke bs)) ≡ bare_moved (move_if t minimum l bs)
unfolding move_if
move_if_bare true minimum l bs = move-after_bare minimum l bs
move_if_bare false minimum l bs = λ i. record { left = l; kept = strokes-twice bs i; made = 0; broken = 0 }

pub move_bare : (minimum : ℕ) (l : List Merged) (bs : List Stroke) → bare_moved (move minimum l (map bare_stroke bs)) ≡ bare_moved (move minimum l bs)
unfolding move
move_bare minimum l bs = move_if_bare (leb 3 (length l)) minimum l bs

-- ---- shedding and dropping

pub shed_bare : (over : Bool) (bs : List Stroke) → shed_if over (map bare_stroke bs) ≡ map bare_stroke (shed_if over bs)
unfolding shed_if
shed_bare true bs = sym (map-drop bare_stroke 1 bs)
shed_bare false bs = refl

drop-early_bare : (bs : List Stroke) (raw : List Bar) → drop_early (map bare_stroke bs) raw ≡ drop_early bs raw
unfolding drop_early bare_stroke
drop-early_bare [] raw = refl
drop-early_bare (b ∷ bs) raw = refl

-- ---- the step

abbrev pub bare_after : Step → Step
bare_after s = record { state = bare_state s.state; events = s.events }

finish_if_bare : (over : Bool) (raw : List Bar) (m : Moved) → finish_if over raw (bare_moved m) ≡ bare_after (finish_if over raw m)
unfolding finish_if bare_state
finish_if_bare over raw m =
    let e = shed_bare over m.kept in
    let d = ap (λ (r : List Stroke). drop_early r raw) e ∙ drop-early_bare (shed_if over m.kept) raw in
    λ i. record {
      state = record { raw = d i; unfinished = m.left; strokes = e i };
      events = record { made = m.made; broken = m.broken; shed = shed_count over };
    }

finish_bare : (most : ℕ) (raw : List Bar) (m : Moved) → finish most raw (bare_moved m) ≡ bare_after (finish most raw m)
unfolding finish
finish_bare most raw m =
    ap (λ (n : ℕ). finish_if (ltb most n) raw (bare_moved m)) (length-map m.kept bare_stroke) ∙ finish_if_bare (ltb most (length m.kept)) raw m

pub raw_with_bare : (t : Bool) (s : State) (b : Bar) → raw_with t (bare_state s) b ≡ raw_with t s b
unfolding raw_with bare_state
raw_with_bare true s b = refl
raw_with_bare false s b = refl

pub merged_with_bare : (t : Bool) (s : State) (b : Bar) → merged_with t (bare_state s) b ≡ merged_with t s b
unfolding merged_with bare_state
merged_with_bare true s b = refl
merged_with_bare false s b = refl

step_with_bare : (minimum most : ℕ) (t : Bool) (s : State) (b : Bar) → bare_after (step_with minimum most t (bare_state s) b) ≡ bare_after (step_with minimum most t s b)
unfolding step_with bare_state
step_with_bare minimum most t s b =
    let l = merged_with t s b in
    ap (λ (r : List Bar). bare_after (finish most r (move minimum (merged_with t (bare_state s) b) (map bare_stroke s.strokes)))) (raw_with_bare t s b)
    ∙ ap (λ (k : List Merged). bare_after (finish most (raw_with t s b) (move minimum k (map bare_stroke s.strokes)))) (merged_with_bare t s b)
    ∙ sym (finish_bare most (raw_with t s b) (move minimum l (map bare_stroke s.strokes)))
    ∙ ap (finish most (raw_with t s b)) (move_bare minimum l s.strokes)
    ∙ finish_bare most (raw_with t s b) (move minimum l s.strokes)

pub bare_after_lem : (c : Settings) (s : State) (b : Bar) → bare_after (step c (bare_state s) b) ≡ bare_after (step c s b)
unfolding step bare_state
bare_after_lem c s b = step_with_bare c.minimum c.most (is_later (last s.raw) b) s b

pub bare_step : (c : Settings) (s : State) (b : Bar) → bare_state (step c (bare_state s) b).state ≡ bare_state (step c s b).state
bare_step c s b = ap (λ (r : Step). r.state) (bare_after_lem c s b)

pub bare_events_lem : (c : Settings) (s : State) (b : Bar) → (step c (bare_state s) b).events ≡ (step c s b).events
bare_events_lem c s b = ap (λ (r : Step). r.events) (bare_after_lem c s b)
