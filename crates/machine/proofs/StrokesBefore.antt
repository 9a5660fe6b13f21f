-- Where bars may come again with the last time, the strokes need not meet. What holds all the same: each stroke's bars but its last two lie before what follows it.
-- Assumes nothing.
use mathlib.Core.Path.{◌≡◌, refl, ap, sym, ◌∙◌, subst}
use mathlib.Core.Bool.{Bool, true, false, not, cond}
use mathlib.Core.List.{List, [], ◌∷◌, ◌++◌}
use mathlib.Core.Logic.{◌⊎◌, inl, inr}
use lib.IntN.{ℤ}
use lib.Signed.{lt_z, le_z}
use lib.Dec.{T}
use lib.Ieee.{lt}
use Rattle.bars.specs.Lists.{All, skip_while, init}
use Rattle.bars.specs.declared.Bar.{Bar}
use Rattle.bars.specs.Bars.{Merged, own}
use Rattle.machine.specs.Fractals.{Fractal}
use Rattle.machine.specs.Strokes.{Stroke}
use Rattle.machine.specs.ByTime.{from}
use Rattle.bars.specs.Merging.{contains, merge_in, remove_include, settle, merged_up, merged_down}
use Rattle.machine.proofs.MachineByTime.{joined}
use Rattle.machine.specs.Rising.{Rising}
use Rattle.machine.proofs.Facts.{Good}
use Rattle.machine.proofs.Lists.{All-map, All-zip, All-append, All-left, All-right}
use Rattle.machine.proofs.Places.{from_skip, from_stop}
use Rattle.machine.proofs.FractalWindows.{Window, window_left, window_mid}
use Rattle.machine.proofs.MergingKeepsFractal.{merge_head}
use Rattle.machine.proofs.MergingKeepsOrder.{stamps, Under, Upto, Before, Ordered, Below, ordered_from, All-from, merge_ordered, upto_merged, merge_all_lem, settle-all, united-stamps, Unites, pick}
use Rattle.arith.proofs.FloatOrder.{contra, decide}
use Rattle.bars.proofs.Times as times

abbrev time : Merged → ℤ
time k = k.bar.time

-- v is after every time that the bars name
abbrev pub AfterAll : List Merged → ℤ → Type 0
AfterAll p v = All (λ x. Under (stamps x) v) p

-- and so is every time that y names
abbrev pub Follows : List Merged → Merged → Type 0
Follows p y = All (AfterAll p) (stamps y)

pub ordered_append : (p q : List Merged) → Ordered p → Ordered q → All (Follows p) q → Ordered (p ++ q)
ordered_append [] q o r f = r
ordered_append (x ∷ p) q o r f = (
  o.0,
  All-append (Before x) p q o.1 (All-map q (λ y h. All-map (stamps y) (λ v k. k.0) h) f),
  ordered_append p q o.2 r (All-map q (λ y h. All-map (stamps y) (λ v k. k.1) h) f),
)

pub trivially : (l : List ℤ) → All (λ v. Unit {0}) l
trivially [] = tt
trivially (t ∷ l) = (tt, trivially l)

All_trivially : (q : List Merged) → All (Follows []) q
All_trivially [] = tt
All_trivially (y ∷ q) = (trivially (stamps y), All_trivially q)

pub ordered_follows : (p q : List Merged) → Ordered (p ++ q) → All (Follows p) q
ordered_follows [] q o = All_trivially q
ordered_follows (x ∷ p) q o =
    All-zip q (λ y h k. All-zip (stamps y) (λ v a b. (a, b)) h k) (All-right (Before x) p q o.1) (ordered_follows p q o.2)

-- ---- a stroke and what follows it

-- a stroke's bars but its last two: those that come back where it breaks
unfoldable pub back : Stroke → List Merged
back b = init (init b.bars)

-- all that follows the stroke lies after those bars, but for a first bar that is earlier than the stroke's end
abbrev pub Side : Stroke → List Merged → Type 0
Side b [] = ⊥
Side b (h ∷ r) = (T (lt_z (time h) (time b.end.mid)) ⊎ Follows (back b) h) × All (Follows (back b)) r

abbrev pub Two : List Merged → Type 0
Two [] = ⊥
Two (h ∷ []) = ⊥
Two (h ∷ k ∷ r) = Unit {0}

pub record Own (b : Stroke) : Type 0 where
  pub good : Good b
  pub ordered : Ordered (back b)
  pub two : Two (back b)

abbrev pub Sides : List Stroke → List Merged → Type 0
Sides [] l = Unit {0}
Sides (b ∷ []) l = Own b × Side b l × Two l
Sides (b ∷ b' ∷ bs) l = Own b × Side b (back b') × Sides (b' ∷ bs) l

pub record Inv (n : ℤ) (bs : List Stroke) (l : List Merged) : Type 0 where
  pub ordered : Ordered l
  pub upto : All (Upto n) l
  pub early : All (λ b. T (le_z (time b.start.left) n)) bs
  pub sides : Sides bs l

-- ---- a bar is merged in

pub follows_united : (p : List Merged) (k : Merged) (b : Bar) → AfterAll p b.time → Follows p k → Unites (Follows p) k b
follows_united p k b u f c h lo = united-stamps (AfterAll p) k b (cond c (time k) b.time) h lo (pick (AfterAll p) c (time k) b.time f.0 u) f.1 u

pub follows_own : (p : List Merged) (b : Bar) → AfterAll p b.time → Follows p (own b)
unfolding own
follows_own p b u = (u, (u, tt))

pub side_merged : (s : Stroke) (l : List Merged) (b : Bar) → AfterAll (back s) b.time → Side s l → Side s (merge_in l b)
unfolding merge_in remove_include
side_merged s [] b u d = absurd d
side_merged s (h ∷ []) b u d = (d.0, (follows_own (back s) b u, tt))
side_merged s (h ∷ k ∷ []) b u d = (
  d.0,
  settle-all (Follows (back s)) (lt h.bar.high k.bar.high) (lt k.bar.high h.bar.high) (contains k.bar b) k b d.1.0 (follows_own (back s) b u)
      (follows_united (back s) k b u d.1.0),
)
side_merged s (h ∷ k ∷ k' ∷ r) b u d = (d.0, merge_all_lem (Follows (back s)) (k ∷ k' ∷ r) b d.1 (follows_own (back s) b u) (λ x f. follows_united (back s) x b u f))

settle_cons : (u d i : Bool) (k : Merged) (b : Bar) → (x : Merged) × (r : List Merged) × (settle u d i k b ≡ x ∷ r)
unfolding settle
settle_cons true d true k b = (merged_up k b, [], refl)
settle_cons false true true k b = (merged_down k b, [], refl)
settle_cons false false true k b = (k, own b ∷ [], refl)
settle_cons true d false k b = (k, own b ∷ [], refl)
settle_cons false d false k b = (k, own b ∷ [], refl)

pub two-merged : (h : Merged) (r : List Merged) (b : Bar) → Two (merge_in (h ∷ r) b)
unfolding merge_in remove_include
two-merged h [] b = tt
two-merged h (k ∷ []) b =
    let c = settle_cons (lt h.bar.high k.bar.high) (lt k.bar.high h.bar.high) (contains k.bar b) k b in
    subst (λ z. Two (h ∷ z)) (sym c.2) tt
two-merged h (k ∷ k' ∷ r) b = let c = merge_head k k' r b in subst (λ z. Two (h ∷ z)) (sym c.1) tt

-- what is put in order behind a list stays behind it
sides_merged : (bs : List Stroke) (l : List Merged) (b : Bar) → All (λ s. AfterAll (back s) b.time) bs → Sides bs l → Sides bs (merge_in l b)
sides_merged [] l b u d = tt
sides_merged (s ∷ []) [] b u d = absurd d.2
sides_merged (s ∷ []) (h ∷ r) b u d = (d.0, side_merged s (h ∷ r) b u.0 d.1, two-merged h r b)
sides_merged (s ∷ s' ∷ bs) l b u d = (d.0, d.1, sides_merged (s' ∷ bs) l b u.1 d.2)

-- ---- from one stroke to the next

-- the bars that follow a stroke's also follow those of the stroke before it
follows_step : (s : Stroke) (p : List Merged) (y : Merged) → Two p → Side s p → Follows p y → Follows (back s) y
follows_step s [] y t d f = absurd t
follows_step s (h ∷ []) y t d f = absurd t
follows_step s (h ∷ k ∷ r) y t d f =
    All-map (stamps y) (λ v a. All-map (back s) (λ x u. All-map (stamps x) (λ w q. times.lt_trans w (time k) v q a.1.0.0) u) d.1.0.0) f

-- a time that is after the bars of the last stroke is after those of all
after-step : (s : Stroke) (p : List Merged) (v : ℤ) → Two p → Side s p → AfterAll p v → AfterAll (back s) v
after-step s [] v t d a = absurd t
after-step s (h ∷ []) v t d a = absurd t
after-step s (h ∷ k ∷ r) v t d a = All-map (back s) (λ x u. All-map (stamps x) (λ w q. times.lt_trans w (time k) v q a.1.0.0) u) d.1.0.0

sides_two : (b : Stroke) (bs : List Stroke) (l : List Merged) → Sides (b ∷ bs) l → Own b
sides_two b [] l d = d.0
sides_two b (b' ∷ bs) l d = d.0

-- every stroke's bars lie before a time that is after the second unfinished bar
after-all : (bs : List Stroke) (l : List Merged) (v : ℤ) → AfterAll l v → Sides bs l → All (λ s. AfterAll (back s) v) bs
after-all [] l v a d = tt
after-all (b ∷ []) l v a d = (after-step b l v d.2 d.1 a, tt)
after-all (b ∷ b' ∷ bs) l v a d =
    let r = after-all (b' ∷ bs) l v a d.2 in
    (after-step b (back b') v (sides_two b' bs l d.2).two d.1 r.0, r)

pub inv_merged : (n : ℤ) (bs : List Stroke) (l : List Merged) (b : Bar) → Inv n bs l → Below l b.time → T (le_z n b.time) → Inv b.time bs (merge_in l b)
inv_merged n bs l b i u le =
    record {
      ordered = merge_ordered l b i.ordered u;
      upto = upto_merged l b u;
      early = All-map bs (λ s h. times.le_trans (time s.start.left) n b.time h le) i.early;
      sides = sides_merged bs l b (after-all bs l b.time u i.sides) i.sides;
    }

-- ---- a broken stroke

-- what comes after the stroke's end follows its bars
side_from : (s : Stroke) (l : List Merged) → Side s l → All (Follows (back s)) (from (time s.end.mid) l)
side_from s [] d = absurd d
side_from s (h ∷ r) d =
    elim d.0 [
      | inl t ↦ subst (All (Follows (back s))) (sym (from_skip (time s.end.mid) h r t)) (All-from (Follows (back s)) (time s.end.mid) r d.1)
      | inr f ↦ All-from (Follows (back s)) (time s.end.mid) (h ∷ r) (f, d.1)
    ]

side_append : (s : Stroke) (p q : List Merged) → Side s p → All (Follows (back s)) q → Side s (p ++ q)
side_append s [] q d f = absurd d
side_append s (h ∷ r) q d f = (d.0, All-append (Follows (back s)) r q d.1 f)

two-append : (p q : List Merged) → Two p → Two (p ++ q)
two-append [] q t = absurd t
two-append (h ∷ []) q t = absurd t
two-append (h ∷ k ∷ r) q t = tt

joined_ordered : (s : Stroke) (l : List Merged) → Own s → Ordered l → Side s l → Ordered (joined s l)
unfolding joined back
joined_ordered s l w o d = ordered_append (back s) (from (time s.end.mid) l) w.ordered (ordered_from (time s.end.mid) l o) (side_from s l d)

sides_took : (bs : List Stroke) (s : Stroke) (l : List Merged) → Sides (bs ++ s ∷ []) l → Sides bs (joined s l) × Own s × Side s l
unfolding joined back
sides_took [] s l d = (tt, d.0, d.1)
sides_took (b ∷ []) s l d = (
  (
    d.0,
    side_append b (back s) (from (time s.end.mid) l) d.1
        (All-map (from (time s.end.mid) l) (λ y f. follows_step b (back s) y d.2.0.two d.1 f) (side_from s l d.2.1)),
    two-append (back s) (from (time s.end.mid) l) d.2.0.two,
  ),
  d.2.0,
  d.2.1,
)
sides_took (b ∷ b' ∷ bs) s l d = let r = sides_took (b' ∷ bs) s l d.2 in ((d.0, d.1, r.0), r.1, r.2)

upto_back : (n : ℤ) (s : Stroke) (l : List Merged) → Side s l → Two l → All (Upto n) l → All (Upto n) (back s)
upto_back n s [] d t u = absurd t
upto_back n s (h ∷ []) d t u = absurd t
upto_back n s (h ∷ k ∷ r) d t u = All-map (back s) (λ x f. All-map (stamps x) (λ w q. times.le_trans w (time k) n (times.lt-le w (time k) q) u.1.0.0) f) d.1.0.0

joined_upto : (n : ℤ) (s : Stroke) (l : List Merged) → Side s l → Two l → All (Upto n) l → All (Upto n) (joined s l)
unfolding joined back
joined_upto n s l d t u = All-append (Upto n) (back s) (from (time s.end.mid) l) (upto_back n s l d t u) (All-from (Upto n) (time s.end.mid) l u)

sides_last-two : (bs : List Stroke) (s : Stroke) (l : List Merged) → Sides (bs ++ s ∷ []) l → Two l
sides_last-two [] s l d = d.2
sides_last-two (b ∷ []) s l d = d.2.2
sides_last-two (b ∷ b' ∷ bs) s l d = sides_last-two (b' ∷ bs) s l d.2

pub inv_took : (n : ℤ) (bs : List Stroke) (s : Stroke) (l : List Merged) → Inv n (bs ++ s ∷ []) l → Inv n bs (joined s l)
inv_took n bs s l i =
    let r = sides_took bs s l i.sides in
    record {
      ordered = joined_ordered s l r.1 i.ordered r.2;
      upto = joined_upto n s l r.2 (sides_last-two bs s l i.sides) i.upto;
      early = All-left (λ b. T (le_z (time b.start.left) n)) bs (s ∷ []) i.early;
      sides = r.0;
    }

-- ---- a stroke is made

-- of two windows the one with the earlier middle has the earlier left bar
pub windows_order : (s e : Fractal) (l : List Merged) → Rising l → Window s l → Window e l → T (lt_z (time s.mid) (time e.mid)) → T (le_z (time s.left) (time e.left))
windows_order s e [] r v w h = absurd v
windows_order s e (a ∷ []) r v w h = absurd v
windows_order s e (a ∷ b ∷ []) r v w h = absurd v
windows_order s e (a ∷ b ∷ c ∷ l) r (inl v) (inl w) h = subst (λ z. T (le_z (time z) (time e.left))) v.left (subst (λ z. T (le_z (time a) (time z))) w.left (times.le_refl (time a)))
windows_order s e (a ∷ b ∷ c ∷ l) r (inl v) (inr w) h =
    subst (λ z. T (le_z (time z) (time e.left))) v.left (times.lt-le (time a) (time e.left) (window_left (λ k. T (lt_z (time a) (time k))) e (b ∷ c ∷ l) r.0 w))
windows_order s e (a ∷ b ∷ c ∷ l) r (inr v) (inl w) h =
    let k : T (lt_z (time b) (time s.mid)) = window_mid (λ k. T (lt_z (time b) (time k))) s b (c ∷ l) r.1.0 v in
    let h' : T (lt_z (time s.mid) (time b)) = subst (λ z. T (lt_z (time s.mid) (time z))) (sym w.mid) h in
    contra (lt_z (time b) (time b)) (times.lt_trans (time b) (time s.mid) (time b) k h') (times.le_not_lt (time b) (time b) (times.le_refl (time b)))
windows_order s e (a ∷ b ∷ c ∷ l) r (inr v) (inr w) h = windows_order s e (b ∷ c ∷ l) r.1 v w h

window_from_if : (e : Fractal) (t : ℤ) (a b c : Merged) (l : List Merged) → T (le_z t (time e.left)) → Window e (a ∷ b ∷ c ∷ l) → T (lt_z (time a) t) ⊎ T (not (lt_z (time a) t))
    → (Window e (b ∷ c ∷ l) → Window e (from t (b ∷ c ∷ l))) → Window e (from t (a ∷ b ∷ c ∷ l))
window_from_if e t a b c l h (inl w) (inl q) r =
    let k : T (le_z t (time a)) = subst (λ z. T (le_z t (time z))) (sym w.left) h in
    contra (lt_z (time a) t) q (times.le_not_lt (time a) t k)
window_from_if e t a b c l h (inr w) (inl q) r = subst (Window e) (sym (from_skip t a (b ∷ c ∷ l) q)) (r w)
window_from_if e t a b c l h w (inr q) r = subst (Window e) (sym (from_stop t a (b ∷ c ∷ l) (times.not-lt-le (time a) t q))) w

pub window_from : (e : Fractal) (t : ℤ) (l : List Merged) → T (le_z t (time e.left)) → Window e l → Window e (from t l)
window_from e t [] h w = absurd w
window_from e t (a ∷ []) h w = absurd w
window_from e t (a ∷ b ∷ []) h w = absurd w
window_from e t (a ∷ b ∷ c ∷ l) h w = window_from_if e t a b c l h w (decide (lt_z (time a) t)) (window_from e t (b ∷ c ∷ l) h)

from-from_if : (t u : ℤ) (x : Merged) (l : List Merged) → T (le_z t u) → T (lt_z (time x) t) ⊎ T (not (lt_z (time x) t)) → from u (from t l) ≡ from u l → from u (from t (x ∷ l)) ≡ from u (x ∷ l)
from-from_if t u x l h (inl q) r = ap (from u) (from_skip t x l q) ∙ r ∙ sym (from_skip u x l (times.lt-le_trans (time x) t u q h))
from-from_if t u x l h (inr q) r = ap (from u) (from_stop t x l (times.not-lt-le (time x) t q))

pub from-from : (t u : ℤ) (l : List Merged) → T (le_z t u) → from u (from t l) ≡ from u l
unfolding from skip_while
from-from t u [] h = refl
from-from t u (x ∷ l) h = from-from_if t u x l h (decide (lt_z (time x) t)) (from-from t u l h)

-- a part of what follows a stroke follows it
side_suffix_if : (s : Stroke) (t : ℤ) (h : Merged) (r : List Merged) (x : Merged) (q : List Merged) → Side s (h ∷ r) → T (lt_z (time h) t) ⊎ T (not (lt_z (time h) t))
    → from t (h ∷ r) ≡ x ∷ q → Side s (x ∷ q)
side_suffix_if s t h r x q d (inl k) e =
    let f = subst (All (Follows (back s))) (sym (from_skip t h r k) ∙ e) (All-from (Follows (back s)) t r d.1) in
    (inr f.0, f.1)
side_suffix_if s t h r x q d (inr k) e = subst (Side s) (sym (from_stop t h r (times.not-lt-le (time h) t k)) ∙ e) d

pub side_suffix : (s : Stroke) (t : ℤ) (l : List Merged) (x : Merged) (q : List Merged) → Side s l → from t l ≡ x ∷ q → Side s (x ∷ q)
side_suffix s t [] x q d e = absurd d
side_suffix s t (h ∷ r) x q d e = side_suffix_if s t h r x q d (decide (lt_z (time h) t)) e

pub side_left : (s : Stroke) (p q : List Merged) → Two p → Side s (p ++ q) → Side s p
side_left s [] q t d = absurd t
side_left s (h ∷ []) q t d = absurd t
side_left s (h ∷ k ∷ r) q t d = (d.0, All-left (Follows (back s)) (k ∷ r) q d.1)

pub sides_put : (bs : List Stroke) (s : Stroke) (l m : List Merged) → Sides bs l → ((b : Stroke) → Side b l → Side b (back s)) → Own s → Side s m → Two m → Sides (bs ++ s ∷ []) m
sides_put [] s l m d f w a t = (w, a, t)
sides_put (b ∷ []) s l m d f w a t = (d.0, f b d.1, (w, a, t))
sides_put (b ∷ b' ∷ bs) s l m d f w a t = (d.0, d.1, sides_put (b' ∷ bs) s l m d.2 f w a t)
