-- Raw bars named by their times.
-- Assumes nothing.
use mathlib.Core.Path.{◌≡◌, sym, subst}
use mathlib.Core.Bool.{false, not, ◌&&◌, ◌||◌}
use mathlib.Core.List.{List, [], ◌∷◌, ◌++◌}
use mathlib.Core.Logic.{◌⊎◌, inl, inr}
use lib.IntN.{ℤ}
use lib.Signed.{lt_z, le_z}
use lib.Dec.{T}
use lib.Ieee.Fits.{and_i, and_r}
use Rattle.bars.specs.Lists.{All, keep_if, skip_while, some_of}
use Rattle.bars.specs.declared.Bar.{Bar}
use Rattle.machine.specs.Strokes.{Stroke}
use Rattle.machine.proofs.MachineByTime.{drop_early}
use Rattle.bars.specs.Merging.{at_times}
use Rattle.machine.specs.Soundness.{same_time, names}
use Rattle.arith.proofs.FloatOrder.{decide, contra, or_l, or_r, or-e}
use Rattle.machine.proofs.Lists.{All-append, All_keep, skip_yes, skip_no}
use Rattle.bars.proofs.Times as times

pub same_refl : (t : ℤ) → T (same_time t t)
unfolding same_time
same_refl t = and_i (le_z t t) (le_z t t) (times.le_refl t) (times.le_refl t)

pub names_if : (r : Bar) (p q : List Bar) (t : ℤ) → T (same_time r.time t) ⊎ T (names p t) → (T (names p t) → T (names q t)) → T (names (r ∷ q) t)
unfolding names some_of
names_if r p q t (inl h) f = or_l (same_time r.time t) (names q t) h
names_if r p q t (inr h) f = or_r (same_time r.time t) (names q t) (f h)

-- the raw bars before the newest stay
pub names_more : (raw q : List Bar) (t : ℤ) → T (names raw t) → T (names (raw ++ q) t)
unfolding names some_of
names_more [] q t h = absurd h
names_more (r ∷ raw) q t h = names_if r raw (raw ++ q) t (or-e (same_time r.time t) (names raw t) h) (names_more raw q t)

pub names-last : (raw : List Bar) (b : Bar) → T (names (raw ++ b ∷ []) b.time)
unfolding names some_of
names-last [] b = or_l (same_time b.time b.time) false (same_refl b.time)
names-last (r ∷ raw) b = or_r (same_time r.time b.time) (names (raw ++ b ∷ []) b.time) (names-last raw b)

-- the newest is replaced by one of its time
pub names_swap : (raw : List Bar) (r b : Bar) (t : ℤ) → r.time ≡ b.time → T (names (raw ++ r ∷ []) t) → T (names (raw ++ b ∷ []) t)
unfolding names some_of
names_swap [] r b t e h = subst (λ z. T (same_time z t || false)) e h
names_swap (x ∷ raw) r b t e h = names_if x (raw ++ r ∷ []) (raw ++ b ∷ []) t (or-e (same_time x.time t) (names (raw ++ r ∷ []) t) h) (names_swap raw r b t e)

-- dropping the bars earlier than u leaves those that are not
skip_if : (u t : ℤ) (r : Bar) (raw : List Bar) → T (le_z u t) → T (lt_z r.time u) ⊎ T (not (lt_z r.time u)) → T (same_time r.time t) ⊎ T (names raw t)
    → (T (names raw t) → T (names (skip_while (λ x. lt_z x.time u) raw) t)) → T (names (r ∷ raw) t) → T (names (skip_while (λ x. lt_z x.time u) (r ∷ raw)) t)
unfolding same_time
skip_if u t r raw h (inl k) (inl s) f g =
    let l = times.lt-le_trans r.time u t k h in
    contra (lt_z r.time t) l (times.le_not_lt r.time t (and_r (le_z r.time t) (le_z t r.time) s))
skip_if u t r raw h (inl k) (inr n) f g = subst (λ z. T (names z t)) (sym (skip_yes (λ x. lt_z x.time u) r raw k)) (f n)
skip_if u t r raw h (inr k) d f g = subst (λ z. T (names z t)) (sym (skip_no (λ x. lt_z x.time u) r raw k)) g

names_skip : (u t : ℤ) (raw : List Bar) → T (le_z u t) → T (names raw t) → T (names (skip_while (λ x. lt_z x.time u) raw) t)
unfolding names some_of skip_while
names_skip u t [] h k = k
names_skip u t (r ∷ raw) h k = skip_if u t r raw h (decide (lt_z r.time u)) (or-e (same_time r.time t) (names raw t) k) (names_skip u t raw h) k

pub names-drop : (b : Stroke) (bs : List Stroke) (t : ℤ) (raw : List Bar) → T (le_z b.start.left.bar.time t) → T (names raw t) → T (names (drop_early (b ∷ bs) raw) t)
unfolding drop_early
names-drop b bs t raw h k = names_skip b.start.left.bar.time t raw h k

-- every raw bar is named by its own time
names-each : (p raw : List Bar) → ((t : ℤ) → T (names raw t) → T (names p t)) → All (λ r. T (names p r.time)) raw
unfolding names some_of
names-each p [] f = tt
names-each p (r ∷ raw) f =
    (f r.time (or_l (same_time r.time r.time) (names raw r.time) (same_refl r.time)), names-each p raw (λ t h. f t (or_r (same_time r.time t) (names raw t) h)))

pub at_keep : (P : Bar → Type 0) (raw : List Bar) (ts : List ℤ) → All P raw → All P (at_times raw ts)
unfolding at_times
at_keep P raw [] a = tt
at_keep P raw (t ∷ ts) a =
    All-append P (keep_if (λ b. le_z b.time t && le_z t b.time) raw) (at_times raw ts) (All_keep P (λ b. le_z b.time t && le_z t b.time) raw a) (at_keep P raw ts a)

pub at_names : (raw : List Bar) (ts : List ℤ) → All (λ y. T (names raw y.time)) (at_times raw ts)
at_names raw ts = at_keep (λ y. T (names raw y.time)) raw ts (names-each raw raw (λ t h. h))
