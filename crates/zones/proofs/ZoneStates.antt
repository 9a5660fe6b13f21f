-- The states of a walk over a run of strokes, one after each stroke, and the array that they are stored in.
-- Assumes nothing.
use Prim.Native.Nat.{ℕ, zero, suc, ◌+◌, ◌≤◌, ◌<◌}
use native.Mathlib.Omega.{arith}
use mathlib.Core.Path.{◌≡◌, refl, ap, sym, ◌∙◌, subst}
use mathlib.Core.Bool.{Bool, true, false}
use mathlib.Core.List.{List, [], ◌∷◌, ◌++◌, append-nil}
use lib.ListN.{length, take, drop, get_or, set}
use lib.Dec.{T, eqb}
use lib.Seq.{drop-cons, drop-length, take-suc-set, append_snoc}
use Rattle.zones.specs.declared.Summary.{Summary}
use Rattle.zones.specs.declared.lent_zone.Building.{Building}
use Rattle.zones.specs.Code.GrowingZone.{opens_of}
use Rattle.zones.specs.Code.ZoneSteps.{no_zone, next_if, next_of, states_of}

some_if : (n : ℕ) → eqb n 0 ≡ false → 1 ≤ n
some_if zero e = absurd (subst T e tt)
some_if (suc n) e = omega arith

few_if : (e t : Bool) (b : Building) (s : Summary) → (e ≡ false → 1 ≤ b.size) → (next_if e t b s).size + (next_if e t b s).done ≤ b.size + b.done + 1
unfolding next_if
few_if true t b s h = omega arith
few_if false true b s h = let k = h refl in omega arith
few_if false false b s h = omega arith

-- a step adds one at most
pub next-few : (b : Building) (s : Summary) → (next_of b s).size + (next_of b s).done ≤ b.size + b.done + 1
unfolding next_of
next-few b s = few_if (eqb b.size 0) (opens_of b.zone s) b s (some_if b.size)

pub states_length : (l : List Summary) (b : Building) → length (states_of b l) ≡ length l
unfolding states_of
states_length [] b = refl
states_length (s ∷ l) b = ap suc (states_length l (next_of b s))

-- after i + 1 strokes
pub states_few : (l : List Summary) (b : Building) (i : ℕ) (x : Building) → i < length l → (get_or (states_of b l) i x).done ≤ b.size + b.done + suc i
unfolding states_of
states_few [] b i x h = let w : ⊥ = omega arith in absurd w
states_few (s ∷ l) b zero x h = let k = next-few b s in omega arith
states_few (s ∷ l) b (suc i) x h = let k = next-few b s in let m = states_few l (next_of b s) i x (omega arith) in omega arith

-- a stroke more of those behind the first: the next state stands at place i + 1
pub states_turn : (rest : List Summary) (i : ℕ) (d : Summary) (ys : List Building) (b b' : Building) (all : List Building) → i < length rest → i + 1 < length ys
    → b' ≡ next_of b (get_or rest i d)
    → take (i + 1) ys ++ states_of b (drop i rest) ≡ all
    → take (i + 1 + 1) (set ys (i + 1) b') ++ states_of b' (drop (i + 1) rest) ≡ all
unfolding states_of
states_turn rest i d ys b b' all h j e q =
    let s = get_or rest i d in
    let k = i + 1 in
    let n = next_of b s in
    let left = states_of n (drop (suc i) rest) in
    let p : i + 1 + 1 ≡ suc (i + 1) = omega arith in
    let o : i + 1 ≡ suc i = omega arith in
    (λ z. take (p z) (set ys k (e z)) ++ states_of (e z) (drop (o z) rest))
    ∙ ap (λ (x : List Building). x ++ left) (take-suc-set ys k n j)
    ∙ append_snoc (take k ys) n left
    ∙ ap (λ (l : List Summary). take k ys ++ states_of b l) (sym (drop-cons rest i d h))
    ∙ q

pub states_end : (run : List Summary) (ys : List Building) (b : Building) (k : ℕ) (all : List Building) → take k ys ++ states_of b (drop (length run) run) ≡ all → take k ys ≡ all
unfolding states_of
states_end run ys b k all e = sym (ap (λ (l : List Summary). take k ys ++ states_of b l) (drop-length run) ∙ append-nil (take k ys)) ∙ e

-- of no stroke there is no state
pub states_none : (run : List Summary) (ys : List Building) → length run ≡ 0 → take (length run) ys ≡ states_of no_zone run
unfolding states_of
states_none [] ys e = refl
states_none (s ∷ l) ys e = let w : ⊥ = omega arith in absurd w

-- the first one
pub first_size : (s : Summary) → ((next_of no_zone s).size ≡ 1) × ((next_of no_zone s).done ≡ 0)
unfolding next_of next_if no_zone
first_size s = (refl, refl)

if_some : (e t : Bool) (b : Building) (s : Summary) → 1 ≤ (next_if e t b s).size
unfolding next_if
if_some true t b s = omega arith
if_some false true b s = omega arith
if_some false false b s = omega arith

pub next_some : (b : Building) (s : Summary) → 1 ≤ (next_of b s).size
unfolding next_of
next_some b s = if_some (eqb b.size 0) (opens_of b.zone s) b s
