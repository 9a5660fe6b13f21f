-- Where the unfinished summary is given: exactly where question 15 says yes; and in a sound stand that keeps a raw bar question 15 asks for a stroke and a
-- fractal among the unfinished bars only.
use mathlib.Core.Path.{◌≡◌, refl, ◌∙◌, ap, subst}
use mathlib.Core.Bool.{Bool, true, false, ◌&&◌, ◌||◌, cond}
use mathlib.Core.List.{List, [], ◌∷◌, ◌++◌}
use mathlib.Core.Option.{Option, none, some}
use lib.Dec.{T}
use lib.IntN.{ℤ}
use lib.Ieee.Fits.{and_i, and_r}
use Rattle.bars.specs.declared.Bar.{Bar}
use Rattle.bars.specs.Bars.{Merged}
use Rattle.bars.specs.Lists.{keep_if, last, join, some_of}
use Rattle.bars.specs.Merging.{at_times}
use Rattle.machine.specs.Fractals.{Fractal, check_fxs}
use Rattle.machine.specs.Strokes.{Stroke}
use Rattle.machine.specs.Stand.{Settings, State}
use Rattle.machine.specs.Soundness.{same_time, names, ends_on, closes, newest_in, newest_last, sound_but, sound}
use Rattle.reports.specs.Measures.{elements_of}
use Rattle.reports.specs.Unfinished.{non_empty, question15, ubi_from, get_ubi}
use Rattle.arith.proofs.FloatOrder.{or_l, or_r}

-- ---- given where question 15 says yes

unfoldable pub is_given : {A : Type 0} → Option A → Bool
is_given none = false
is_given (some a) = true

last_given : {A : Type 0} (l : List A) → non_empty l ≡ is_given (last l)
unfolding non_empty is_given last
last_given [] = refl
last_given (a ∷ []) = refl
last_given (a ∷ b ∷ l) = last_given (b ∷ l)

from_given : (raw : List Bar) (l : List Merged) (o : Option Stroke) (rs : List Bar) (fs : List Fractal) → (is_given o && (non_empty rs && non_empty fs)) ≡ is_given (ubi_from raw l o rs fs)
unfolding is_given non_empty ubi_from
from_given raw l none rs fs = refl
from_given raw l (some b) [] fs = refl
from_given raw l (some b) (r ∷ rs) [] = refl
from_given raw l (some b) (r ∷ rs) (f ∷ fs) = refl

pub ubi_given_lem : (raw : List Bar) (l : List Merged) (bs : List Stroke) → question15 raw l bs ≡ is_given (get_ubi raw l bs)
unfolding question15 get_ubi
ubi_given_lem raw l bs =
    ap (λ t. t && (non_empty (at_times raw (elements_of l)) && non_empty (check_fxs l))) (last_given bs)
    ∙ from_given raw l (last bs) (at_times raw (elements_of l)) (check_fxs l)

-- ---- a raw bar behind the unfinished bars

or_map : (a b c : Bool) → T (a || b) → (T b → T c) → T (a || c)
or_map true b c h f = tt
or_map false b c h f = f h

some_left : {A : Type 0} (q : A → Bool) (l r : List A) → T (some_of q l) → T (some_of q (l ++ r))
unfolding some_of
some_left q [] r h = absurd h
some_left q (a ∷ l) r h = or_map (q a) (some_of q l) (some_of q (l ++ r)) h (some_left q l r)

some_right : {A : Type 0} (q : A → Bool) (l r : List A) → T (some_of q r) → T (some_of q (l ++ r))
unfolding some_of
some_right q [] r h = h
some_right q (a ∷ l) r h = or_r (q a) (some_of q (l ++ r)) (some_right q l r h)

-- what the last one passes, one passes
unfoldable last_passes : {A : Type 0} → (A → Bool) → Option A → Bool
last_passes q none = false
last_passes q (some a) = q a

last_some : {A : Type 0} (q : A → Bool) (l : List A) → T (last_passes q (last l)) → T (some_of q l)
unfolding last_passes last some_of
last_some q [] h = h
last_some q (a ∷ []) h = or_l (q a) false h
last_some q (a ∷ b ∷ l) h = or_r (q a) (some_of q (b ∷ l)) (last_some q (b ∷ l) h)

-- the time t, which ends the elements of the last unfinished bar, is among all elements
ends-passes : (q : ℤ → Bool) (t : ℤ) (o : Option ℤ) → ((u : ℤ) → T (same_time t u) → T (q u)) → T (ends_on t o) → T (last_passes q o)
unfolding ends_on last_passes
ends-passes q t none f h = h
ends-passes q t (some u) f h = f u h

closes_in : (q : ℤ → Bool) (t : ℤ) (l : List Merged) → ((u : ℤ) → T (same_time t u) → T (q u)) → T (closes t (last l)) → T (some_of q (elements_of l))
unfolding closes last elements_of join some_of
closes_in q t [] f h = h
closes_in q t (k ∷ []) f h = some_left q k.elements [] (last_some q k.elements (ends-passes q t (last k.elements) f h))
closes_in q t (k ∷ k' ∷ l) f h = some_right q k.elements (elements_of (k' ∷ l)) (closes_in q t (k' ∷ l) f h)

-- by the newest raw bar, which names its own time
newest_in_lem : (raw : List Bar) (o : Option Bar) (l : List Merged) → ((u : ℤ) → T (last_passes (λ r. same_time r.time u) o) → T (names raw u))
    → T (is_given o) → T (newest_in o l) → T (some_of (names raw) (elements_of l))
unfolding is_given newest_in last_passes
newest_in_lem raw none l f g h = absurd g
newest_in_lem raw (some r) l f g h = closes_in (names raw) r.time l f h

-- a time that a raw bar names gives it
keep_if_lem : {A : Type 0} (t s : Bool) (a : A) (r : List A) → T (t || s) → (T s → T (non_empty r)) → T (non_empty (cond t (a ∷ r) r))
unfolding non_empty
keep_if_lem true s a r h f = tt
keep_if_lem false s a r h f = f h

keep_some : {A : Type 0} (p : A → Bool) (l : List A) → T (some_of p l) → T (non_empty (keep_if p l))
unfolding some_of keep_if
keep_some p [] h = absurd h
keep_some p (a ∷ l) h = keep_if_lem (p a) (some_of p l) a (keep_if p l) h (keep_some p l)

append-some : {A : Type 0} (t s : Bool) (l r : List A) → T (t || s) → (T t → T (non_empty l)) → (T s → T (non_empty r)) → T (non_empty (l ++ r))
unfolding non_empty
append-some true s [] r h f g = absurd (f tt)
append-some true s (a ∷ l) r h f g = tt
append-some false s [] r h f g = g h
append-some false s (a ∷ l) r h f g = tt

at-times : (raw : List Bar) (ts : List ℤ) → T (some_of (names raw) ts) → T (non_empty (at_times raw ts))
unfolding some_of names same_time at_times
at-times raw [] h = absurd h
at-times raw (t ∷ ts) h = append-some (names raw t) (some_of (names raw) ts) _ (at_times raw ts) h (keep_some _ raw) (at-times raw ts)

pub raw-behind : (c : Settings) (s : State) → T (sound c s) → T (non_empty s.raw) → T (non_empty (at_times s.raw (elements_of s.unfinished)))
unfolding sound newest_last names
raw-behind c s h n =
    at-times s.raw (elements_of s.unfinished)
    (newest_in_lem s.raw (last s.raw) s.unfinished (λ u. last_some (λ r. same_time r.time u) s.raw) (subst T (last_given s.raw) n)
    (and_r (sound_but c s) (newest_last s) h))

-- so that question 15 is document 01's there
pub question15-sound : (c : Settings) (s : State) → T (sound c s) → T (non_empty s.raw) → T (non_empty s.strokes) → T (non_empty (check_fxs s.unfinished))
    → T (question15 s.raw s.unfinished s.strokes)
unfolding question15
question15-sound c s h n b f = and_i (non_empty s.strokes) _ b (and_i (non_empty (at_times s.raw (elements_of s.unfinished))) _ (raw-behind c s h n) f)
