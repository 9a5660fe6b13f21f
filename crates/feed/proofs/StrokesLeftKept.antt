-- Over every list of the plain machine's calls, the kept strokes are what is left of those made when those broken and those shed are taken away, and there are as
-- many of each as the answers count. Assumes nothing.
use Prim.Native.Nat.{ℕ, zero, suc, ◌<◌}
use native.Mathlib.Omega.{arith}
use mathlib.Core.Path.{◌≡◌, refl, ap, sym, ◌∙◌}
use mathlib.Core.Bool.{Bool, true, false}
use mathlib.Core.List.{List, [], ◌∷◌, ◌++◌, map, map-append, append-nil, append_cancel_left, append_cancel_right}
use mathlib.Core.Option.{Option, none, some}
use lib.ListN.{length, take, drop, take-append-drop}
use lib.Seq.{drop-length, drop-append_seam, length-take-le}
use lib.Dec.{T, ltb, leb, ltb→lt}
use Rattle.bars.specs.declared.Bar.{Bar}
use Rattle.bars.specs.Bars.{Merged}
use Rattle.bars.specs.Lists.{init, last}
use Rattle.machine.specs.Strokes.{Stroke, check_bi, cut}
use Rattle.machine.specs.Break.{breaks}
use Rattle.machine.specs.Stand.{Settings, State, fresh}
use Rattle.machine.specs.Feed.{Moved, add_found, add_made, make_after, make_if, make, break_if, break_last, move_after, move_if, move, shed_if, shed_count, raw_with, merged_with, is_later, Events, Step, finish_if, finish, step_with, step}
use Rattle.machine.specs.FeedQuestions.{failed}
use Rattle.machine.specs.Calls.{Call, feed_by, feed, plus, none_yet, run, start, calls}
use Rattle.machine.proofs.StrokesChain.{last_snoc}
use Rattle.feed.specs.PortCalls.{added}
use Rattle.feed.specs.StrokesLeft.{EventStrokes, counts_of, no_strokes, by_kept, step_strokes, call_strokes, strokes_of, counted, Left, call}
use Rattle.feed.proofs.PortFollows.{added_assoc, added_none, none-added}

-- ---- lists

none-behind : (l : List Stroke) → l ++ drop (length l) l ≡ l
none-behind l = ap (λ (z : List Stroke). l ++ z) (drop-length l) ∙ append-nil l

last-behind : (l : List Stroke) (x : Stroke) → last l ≡ some x → drop (length (init l)) l ≡ x ∷ []
last-behind l x h = ap (drop (length (init l))) (last_snoc l x h) ∙ drop-append_seam (init l) (x ∷ [])

-- ---- a stroke is put on

-- what make does to the strokes kept before
record Put (bs : List Stroke) (v : Moved) : Type 0 where
  grown : bs ++ drop (length bs) v.kept ≡ v.kept
  made-count : v.made ≡ length (drop (length bs) v.kept)
  none-broken : v.broken ≡ 0

put_none : (bs : List Stroke) (l : List Merged) → Put bs (record { left = l; kept = bs; made = 0; broken = 0 })
put_none bs l = record { grown = none-behind bs; made-count = sym (ap length (drop-length bs)); none-broken = refl }

put_found : (o : Option Stroke) (bs : List Stroke) (l : List Merged) → Put bs (add_found o bs l)
unfolding add_found
put_found none bs l = put_none bs l
put_found (some x) bs l =
    let e = drop-append_seam bs (x ∷ []) in
    record { grown = ap (λ (z : List Stroke). bs ++ z) e; made-count = sym (ap length e); none-broken = refl }

put_after : (minimum : ℕ) (l : List Merged) (bs : List Stroke) → Put bs (make_after minimum l bs)
unfolding make_after add_made
put_after minimum l [] = let f = check_bi minimum (cut l) in put_found f.stroke [] f.rest
put_after minimum l (b ∷ bs) = let f = check_bi minimum l in put_found f.stroke (b ∷ bs) f.rest

-- ---- the last stroke is taken off

-- from the strokes kept before, by those once one is put on
record Taken (bs put : List Stroke) (v : Moved) : Type 0 where
  grown : bs ++ drop (length bs) put ≡ put
  cut_off : v.kept ++ drop (length v.kept) put ≡ put
  made-count : v.made ≡ length (drop (length bs) put)
  broken-count : v.broken ≡ length (drop (length v.kept) put)

none-taken : (bs : List Stroke) (v : Moved) → Put bs v → Taken bs v.kept v
none-taken bs v p =
    record {
      grown = p.grown;
      cut_off = none-behind v.kept;
      made-count = p.made-count;
      broken-count = p.none-broken ∙ sym (ap length (drop-length v.kept));
    }

last_taken : (t : Bool) (bs : List Stroke) (v : Moved) (x : Stroke) → last v.kept ≡ some x → Put bs v → Taken bs v.kept (break_if t v x)
unfolding break_if
last_taken false bs v x e p = none-taken bs v p
last_taken true bs v x e p =
    let k = v.kept in
    record {
      grown = p.grown;
      cut_off = ap (λ (z : List Stroke). init k ++ z) (last-behind k x e) ∙ sym (last_snoc k x e);
      made-count = p.made-count;
      broken-count = sym (ap length (last-behind k x e));
    }

taken_by : (o : Option Stroke) (bs : List Stroke) (v : Moved) → last v.kept ≡ o → Put bs v → Taken bs v.kept (break_last v o)
unfolding break_last
taken_by none bs v e p = none-taken bs v p
taken_by (some x) bs v e p = last_taken (breaks x (last v.left)) bs v x e p

taken-after : (minimum : ℕ) (l : List Merged) (bs : List Stroke) → Taken bs (make_after minimum l bs).kept (move_after minimum l bs)
unfolding move_after
taken-after minimum l [] = none-taken [] (make_after minimum l []) (put_after minimum l [])
taken-after minimum l (b ∷ bs) =
    let v = make_after minimum l (b ∷ bs) in
    taken_by (last v.kept) (b ∷ bs) v refl (put_after minimum l (b ∷ bs))

taken_if : (t : Bool) (minimum : ℕ) (l : List Merged) (bs : List Stroke) → Taken bs (make_if t minimum l bs).kept (move_if t minimum l bs)
unfolding make_if move_if
taken_if true minimum l bs = taken-after minimum l bs
taken_if false minimum l bs = none-taken bs (record { left = l; kept = bs; made = 0; broken = 0 }) (put_none bs l)

taken : (minimum : ℕ) (l : List Merged) (bs : List Stroke) → Taken bs (make minimum l bs).kept (move minimum l bs)
unfolding make move
taken minimum l bs = taken_if (leb 3 (length l)) minimum l bs

-- ---- the first stroke is shed

first-shed : (t : Bool) (k : List Stroke) → take (shed_count t) k ++ shed_if t k ≡ k
unfolding shed_if shed_count
first-shed true k = take-append-drop 1 k
first-shed false k = refl

shed-count : (t : Bool) (k : List Stroke) → (T t → 0 < length k) → shed_count t ≡ length (take (shed_count t) k)
unfolding shed_count
shed-count true k h = sym (length-take-le 1 k (h tt))
shed-count false k h = refl

-- ---- a call

-- what the strokes e of a call have to do with the strokes kept before it and with the call
record Leaves (k : List Stroke) (e : EventStrokes) (r : Call) : Type 0 where
  left : k ++ e.made ≡ e.shed ++ r.state.strokes ++ e.broken
  events : (g : Events) → plus g r.answer ≡ added g (counts_of e)

-- and with the machine's step
record StepLeaves (k : List Stroke) (e : EventStrokes) (x : Step) : Type 0 where
  left : k ++ e.made ≡ e.shed ++ x.state.strokes ++ e.broken
  events : x.events ≡ counts_of e

finish_leaves : (most : ℕ) (raw : List Bar) (bs put : List Stroke) (v : Moved) → Taken bs put v → StepLeaves bs (by_kept most bs put v.kept) (finish most raw v)
unfolding finish finish_if by_kept
finish_leaves most raw bs put v t =
    let k = v.kept in
    let over = ltb most (length k) in
    let n = shed-count over k (λ h. omega (arith, ltb→lt most (length k) h)) in
    record {
      left = t.grown ∙ sym t.cut_off ∙ ap (λ (z : List Stroke). z ++ drop (length k) put) (sym (first-shed over k));
      events = λ i. record { made = t.made-count i; broken = t.broken-count i; shed = n i };
    }

step_leaves : (c : Settings) (s : State) (b : Bar) → StepLeaves s.strokes (step_strokes c s b) (step c s b)
unfolding step_strokes step step_with
step_leaves c s b =
    let t = is_later (last s.raw) b in
    let l = merged_with t s b in
    finish_leaves c.most (raw_with t s b) s.strokes (make c.minimum l s.strokes).kept (move c.minimum l s.strokes) (taken c.minimum l s.strokes)

call_leaves : (n : ℕ) (c : Settings) (s : State) (b : Bar) → Leaves s.strokes (call_strokes n c s b) (feed_by n c s b)
unfolding call_strokes feed_by plus added no_strokes none_yet
call_leaves zero c s b =
    let p = step_leaves c s b in
    record { left = p.left; events = λ g. ap (added g) p.events }
call_leaves (suc n) c s b = record { left = refl; events = λ g. sym (added_none g) }

-- ---- a list of calls

run-left : (c : Settings) (s : State) (g : Events) (bs : List Bar) → Left s.strokes (strokes_of c s bs) (run c (record { state = s; events = g }) bs).state.strokes
unfolding run strokes_of feed
run-left c s g [] = Left.none
run-left c s g (b ∷ bs) =
    let r = feed c s b in
    call (call_leaves (failed c s b) c s b).left (run-left c r.state (plus g r.answer) bs)

run-counted : (c : Settings) (s : State) (g : Events) (bs : List Bar) → (run c (record { state = s; events = g }) bs).events ≡ added g (counted (strokes_of c s bs))
unfolding run strokes_of feed counted
run-counted c s g [] = sym (added_none g)
run-counted c s g (b ∷ bs) =
    let r = feed c s b in
    let e = call_strokes (failed c s b) c s b in
    let f = counted (strokes_of c r.state bs) in
    run-counted c r.state (plus g r.answer) bs
    ∙ ap (λ (z : Events). added z f) ((call_leaves (failed c s b) c s b).events g)
    ∙ added_assoc g (counts_of e) f

-- from a fresh analyzer
pub left-kept : (c : Settings) (bs : List Bar) → Left [] (strokes_of c fresh bs) (calls c bs).state.strokes
unfolding calls start fresh
left-kept c bs = run-left c fresh none_yet bs

pub left-counted : (c : Settings) (bs : List Bar) → (calls c bs).events ≡ counted (strokes_of c fresh bs)
unfolding calls start
left-counted c bs = run-counted c fresh none_yet bs ∙ none-added (counted (strokes_of c fresh bs))

-- ---- the same of each stroke's image

abbrev mapped : (Stroke → Stroke) → EventStrokes → EventStrokes
mapped f e = record { made = map f e.made; broken = map f e.broken; shed = map f e.shed }

pub left-map : (f : Stroke → Stroke) {k l : List Stroke} {es : List EventStrokes} → Left k es l → Left (map f k) (map (mapped f) es) (map f l)
left-map f Left.none = Left.none
left-map f (call {k = k} {k' = k'} {e = e} p h) =
    call
    (sym (map-append f k e.made)
    ∙ ap (map f) p
    ∙ map-append f (e.shed ++ k') e.broken
    ∙ ap (λ (z : List Stroke). z ++ map f e.broken) (map-append f e.shed k'))
    (left-map f h)

-- ---- only one list can be left

pub only-left : {k k' l l' : List Stroke} {es : List EventStrokes} → Left k es l → Left k' es l' → k ≡ k' → l ≡ l'
only-left Left.none Left.none q = q
only-left (call {k' = a} {e = e} p h) (call {k' = b} p' h') q =
    only-left h h'
    (append_cancel_left e.shed a b
    (append_cancel_right (e.shed ++ a) (e.shed ++ b) e.broken (sym p ∙ ap (λ (z : List Stroke). z ++ e.made) q ∙ p')))
