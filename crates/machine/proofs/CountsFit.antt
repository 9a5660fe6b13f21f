-- The counts of a state reached from fresh fit the stores, and every stroke has fewer fractals than bars: questions 10 to 12 were asked before each step.
-- And a step makes at most one stroke, breaks at most one and sheds at most one, from any state.
-- Assumes nothing.
use Prim.Native.Nat.{ℕ, zero, suc, ◌≤◌}
use native.Mathlib.Omega.{arith}
use mathlib.Core.Path.{◌≡◌, refl, ap}
use mathlib.Core.Bool.{Bool, true, false, not, ◌&&◌, cond}
use mathlib.Core.List.{List, [], ◌∷◌, ◌++◌}
use mathlib.Core.Option.{Option, none, some}
use mathlib.Core.Logic.{inl, inr}
use lib.ListN.{length, length-append, length-drop}
use lib.Dec.{T, leb, ltb, leb→le, le→leb, ltb→lt, lt→ltb}
use lib.Ieee.Fits.{and_i, and_l, and_r}
use lib.Signed.{lt_z}
use Rattle.bars.specs.declared.Bar.{Bar}
use Rattle.bars.specs.Bars.{Merged}
use Rattle.bars.specs.Lists.{All, skip_while, last, init, every}
use Rattle.machine.specs.Strokes.{Stroke, check_bi, cut}
use Rattle.machine.specs.Break.{breaks, joined}
use Rattle.machine.specs.Stand.{Settings, State, fresh}
use Rattle.machine.specs.Feed.{Moved, add_found, add_made, make_after, make_if, make, break_if, break_last, move_after, move_if, move, shed_if, shed_count, drop_before, drop_early, finish_if, finish, is_later, raw_with, merged_with, step_with, step}
use Rattle.machine.specs.Soundness.{bars_of, fewer_fractals, counts_fit}
use Rattle.machine.specs.FeedQuestions.{fewer_if, question10, merged, joined_fits, moved_fits, question11, question12, failed}
use Rattle.machine.specs.Calls.{feed_by, feed}
use Rattle.machine.specs.Reached.{OneEach}
use Rattle.machine.proofs.Lists.{All-append, All-init}
use Rattle.machine.proofs.EventsKeep.{All-shed}
use Rattle.machine.proofs.ClausesHold.{every_of}
use Rattle.machine.proofs.FewerFractals.{stroke-found, nothing_found_lem, cut_outcome}
use Rattle.machine.proofs.SameMachine.{is_none, passes, Passed, passed}

abbrev Fewer : Stroke → Type 0
Fewer b = T (fewer_fractals b)

-- ---- a stroke is made

-- what is known of the unfinished bars l and the strokes once a stroke was looked for
record Made (l : List Merged) (m : Moved) : Type 0 where
  shorter : length m.left ≤ length l
  fewer : All Fewer m.kept

added : (minimum : ℕ) (l : List Merged) (bs : List Stroke) (o : Option Stroke) → (check_bi minimum l).stroke ≡ o → All Fewer bs → Made l (add_found o bs (check_bi minimum l).rest)
unfolding add_found fewer_fractals
added minimum l bs none q w = record { shorter = omega (arith, ap length (nothing_found_lem minimum l q)); fewer = w }
added minimum l bs (some b) q w =
    let f = stroke-found minimum l b q in
    record {
      shorter = omega (arith, ap length f.left, length-drop f.to l);
      fewer = All-append Fewer bs (b ∷ []) w (lt→ltb (length b.fractals) (length b.bars) f.fewer, tt);
    }

cut-shorter : (l : List Merged) → length (cut l) ≤ length l
cut-shorter l = elim (cut_outcome l) [ inl h ↦ omega (arith, ap length h.1) | inr c ↦ omega (arith, ap length c.is, length-drop c.at l) ]

longer : (l k : List Merged) (m : Moved) → length l ≤ length k → Made l m → Made k m
longer l k m h d = record { shorter = omega (arith, d.shorter); fewer = d.fewer }

made_after : (minimum : ℕ) (l : List Merged) (bs : List Stroke) → All Fewer bs → Made l (make_after minimum l bs)
unfolding make_after add_made
made_after minimum l [] w = longer (cut l) l (add_made [] (check_bi minimum (cut l))) (cut-shorter l) (added minimum (cut l) [] (check_bi minimum (cut l)).stroke refl w)
made_after minimum l (b ∷ bs) w = added minimum l (b ∷ bs) (check_bi minimum l).stroke refl w

made_if_lem : (t : Bool) (minimum : ℕ) (l : List Merged) (bs : List Stroke) → All Fewer bs → Made l (make_if t minimum l bs)
unfolding make_if
made_if_lem true minimum l bs w = made_after minimum l bs w
made_if_lem false minimum l bs w = record { shorter = omega arith; fewer = w }

-- ---- and may be broken

-- from what was made to what is left, in a store with this room
record Breaks (room : ℕ) (m n : Moved) : Type 0 where
  fits : T (moved_fits room n) → length m.left ≤ room → length n.left ≤ room
  fewer : All Fewer m.kept → All Fewer n.kept
  bars : bars_of n.kept ≤ bars_of m.kept
  made : n.made ≡ m.made
  one : m.broken ≡ 0 → n.broken ≤ 1

whole : (room : ℕ) (m : Moved) → Breaks room m m
whole room m = record { fits = λ h k. k; fewer = λ w. w; bars = omega arith; made = refl; one = λ h. omega arith }

bars-init : (bs : List Stroke) → bars_of (init bs) ≤ bars_of bs
unfolding init bars_of
bars-init [] = omega arith
bars-init (b ∷ []) = omega arith
bars-init (b ∷ b' ∷ bs) = omega (arith, bars-init (b' ∷ bs))

broken_if_lem : (t : Bool) (room : ℕ) (m : Moved) (b : Stroke) → Breaks room m (break_if t m b)
unfolding break_if moved_fits joined_fits
broken_if_lem true room m b =
    record {
      fits = λ h k. leb→le (length (joined b m.left)) room h;
      fewer = λ w. All-init Fewer m.kept w;
      bars = bars-init m.kept;
      made = refl;
      one = λ h. omega arith;
    }
broken_if_lem false room m b = whole room m

broken-last : (room : ℕ) (m : Moved) (o : Option Stroke) → Breaks room m (break_last m o)
unfolding break_last
broken-last room m none = whole room m
broken-last room m (some b) = broken_if_lem (breaks b (last m.left)) room m b

moved_after : (room minimum : ℕ) (l : List Merged) (bs : List Stroke) → Breaks room (make_after minimum l bs) (move_after minimum l bs)
unfolding move_after
moved_after room minimum l [] = whole room (make_after minimum l [])
moved_after room minimum l (b ∷ bs) = broken-last room (make_after minimum l (b ∷ bs)) (last (make_after minimum l (b ∷ bs)).kept)

moved_if : (t : Bool) (room minimum : ℕ) (l : List Merged) (bs : List Stroke) → Breaks room (make_if t minimum l bs) (move_if t minimum l bs)
unfolding move_if make_if
moved_if true room minimum l bs = moved_after room minimum l bs
moved_if false room minimum l bs = whole room (record { left = l; kept = bs; made = 0; broken = 0 })

made : (minimum : ℕ) (l : List Merged) (bs : List Stroke) → All Fewer bs → Made l (make minimum l bs)
unfolding make
made minimum l bs w = made_if_lem (leb 3 (length l)) minimum l bs w

moved : (room minimum : ℕ) (l : List Merged) (bs : List Stroke) → Breaks room (make minimum l bs) (move minimum l bs)
unfolding make move
moved room minimum l bs = moved_if (leb 3 (length l)) room minimum l bs

-- ---- raw bars

skip_shorter_if : {A : Type 0} (t : Bool) (a : A) (l r : List A) → length r ≤ length l → length (cond t r (a ∷ l)) ≤ suc (length l)
skip_shorter_if true a l r h = omega arith
skip_shorter_if false a l r h = omega arith

skip_shorter : {A : Type 0} (p : A → Bool) (l : List A) → length (skip_while p l) ≤ length l
unfolding skip_while
skip_shorter p [] = omega arith
skip_shorter p (a ∷ l) = skip_shorter_if (p a) a l (skip_while p l) (skip_shorter p l)

drop-before : (k : List Merged) (raw : List Bar) → length (drop_before k raw) ≤ length raw
unfolding drop_before
drop-before [] raw = omega arith
drop-before (x ∷ k) raw = skip_shorter (λ r. lt_z r.time x.bar.time) raw

drop-shorter : (bs : List Stroke) (raw : List Bar) → length (drop_early bs raw) ≤ length raw
unfolding drop_early
drop-shorter [] raw = omega arith
drop-shorter (b ∷ bs) raw = drop-before b.bars raw

init-length : {A : Type 0} (a : A) (l : List A) → length (init (a ∷ l)) ≡ length l
unfolding init
init-length a [] = refl
init-length a (b ∷ l) = ap suc (init-length b l)

replaced : (raw : List Bar) (b : Bar) → T (not (is_later (last raw) b)) → length (init raw ++ b ∷ []) ≡ length raw
unfolding last is_later
replaced [] b h = absurd h
replaced (r ∷ raw) b h = omega (arith, length-append (init (r ∷ raw)) (b ∷ []), init-length r raw)

raw-fits : (t : Bool) (room : ℕ) (s : State) (b : Bar) → T (fewer_if t (length s.raw) room) → (T (not t) → T (not (is_later (last s.raw) b))) → length s.raw ≤ room → length (raw_with t s b) ≤ room
unfolding raw_with fewer_if
raw-fits true room s b q h k = omega (arith, length-append s.raw (b ∷ []), ltb→lt (length s.raw) room q)
raw-fits false room s b q h k = omega (arith, replaced s.raw b (h tt))

-- ---- a step

pub record Fits (c : Settings) (s : State) : Type 0 where
  pub raw : length s.raw ≤ c.raw_room
  pub unfinished : length s.unfinished ≤ c.unfinished_room
  pub strokes : bars_of s.strokes ≤ c.stroke_room
  pub fewer : All Fewer s.strokes

bars-shed : (t : Bool) (bs : List Stroke) → bars_of (shed_if t bs) ≤ bars_of bs
unfolding shed_if bars_of
bars-shed true [] = omega arith
bars-shed true (b ∷ bs) = omega arith
bars-shed false bs = omega arith

step_fits : (c : Settings) (s : State) (b : Bar) → Passed c s b → Fits c s → Fits c (step c s b).state
unfolding step step_with finish finish_if question10 question11 question12 merged
step_fits c s b p f =
    let t = is_later (last s.raw) b in
    let l = merged_with t s b in
    let m = move c.minimum l s.strokes in
    let over = ltb c.most (length m.kept) in
    let d = made c.minimum l s.strokes f.fewer in
    let e = moved c.unfinished_room c.minimum l s.strokes in
    let q11 = p.eleven in
    let merges : length l ≤ c.unfinished_room = leb→le (length l) c.unfinished_room (and_l (leb (length l) c.unfinished_room) (moved_fits c.unfinished_room m) q11) in
    record {
      raw = omega (arith, drop-shorter (shed_if over m.kept) (raw_with t s b), raw-fits t c.raw_room s b p.ten (λ x. x) f.raw);
      unfinished = e.fits (and_r (leb (length l) c.unfinished_room) (moved_fits c.unfinished_room m) q11) (omega (arith, d.shorter));
      strokes = omega (arith, bars-shed over m.kept, e.bars, leb→le (bars_of (make c.minimum l s.strokes).kept) c.stroke_room p.twelve);
      fewer = All-shed Fewer over m.kept (e.fewer d.fewer);
    }

-- ---- a list of calls

feed-fits : (n : ℕ) (c : Settings) (s : State) (b : Bar) → (T (is_none n) → Passed c s b) → Fits c s → Fits c (feed_by n c s b).state
unfolding feed_by is_none
feed-fits zero c s b p f = step_fits c s b (p tt) f
feed-fits (suc n) c s b p f = f

pub call_fits : (c : Settings) (s : State) (b : Bar) → Fits c s → Fits c (feed c s b).state
unfolding feed passes
call_fits c s b f = feed-fits (failed c s b) c s b (λ h. passed c s b h) f

pub fresh-fits : (c : Settings) → Fits c fresh
unfolding fresh bars_of
fresh-fits c = record { raw = omega arith; unfinished = omega arith; strokes = omega arith; fewer = tt }

pub counts_fit_lem : (c : Settings) (s : State) → Fits c s → T (counts_fit c s)
unfolding counts_fit
counts_fit_lem c s f =
    and_i (leb (length s.raw) c.raw_room && leb (length s.unfinished) c.unfinished_room) (leb (bars_of s.strokes) c.stroke_room && every fewer_fractals s.strokes)
    (and_i (leb (length s.raw) c.raw_room) (leb (length s.unfinished) c.unfinished_room) (le→leb (length s.raw) c.raw_room f.raw) (le→leb (length s.unfinished) c.unfinished_room f.unfinished))
    (and_i (leb (bars_of s.strokes) c.stroke_room) (every fewer_fractals s.strokes) (le→leb (bars_of s.strokes) c.stroke_room f.strokes) (every_of fewer_fractals s.strokes f.fewer))

-- ---- the events of a step, from any state

made_one : (o : Option Stroke) (bs : List Stroke) (l : List Merged) → ((add_found o bs l).made ≤ 1) × ((add_found o bs l).broken ≡ 0)
unfolding add_found
made_one none bs l = (omega arith, refl)
made_one (some b) bs l = (omega arith, refl)

after_one : (minimum : ℕ) (l : List Merged) (bs : List Stroke) → ((make_after minimum l bs).made ≤ 1) × ((make_after minimum l bs).broken ≡ 0)
unfolding make_after add_made
after_one minimum l [] = made_one (check_bi minimum (cut l)).stroke [] (check_bi minimum (cut l)).rest
after_one minimum l (b ∷ bs) = made_one (check_bi minimum l).stroke (b ∷ bs) (check_bi minimum l).rest

if_one : (t : Bool) (minimum : ℕ) (l : List Merged) (bs : List Stroke) → ((make_if t minimum l bs).made ≤ 1) × ((make_if t minimum l bs).broken ≡ 0)
unfolding make_if
if_one true minimum l bs = after_one minimum l bs
if_one false minimum l bs = (omega arith, refl)

shed-one : (t : Bool) → shed_count t ≤ 1
unfolding shed_count
shed-one true = omega arith
shed-one false = omega arith

pub one_each : (c : Settings) (s : State) (b : Bar) → OneEach (step c s b).events
unfolding step step_with finish finish_if make
one_each c s b =
    let l = merged_with (is_later (last s.raw) b) s b in
    let m = move c.minimum l s.strokes in
    let e = moved 0 c.minimum l s.strokes in
    let o = if_one (leb 3 (length l)) c.minimum l s.strokes in
    record { made = omega (arith, e.made, o.0); broken = e.one o.1; shed = shed-one (ltb c.most (length m.kept)) }
