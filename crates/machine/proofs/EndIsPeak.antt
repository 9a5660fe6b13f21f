-- Where no element is lost, a stroke's end is beyond its start: a bar beyond its end breaks it.
-- Assumes nothing.
use mathlib.Core.Path.{◌≡◌, refl, ap, sym, ◌∙◌, subst}
use mathlib.Core.Bool.{Bool, true, false, not, cond}
use mathlib.Core.List.{List, [], ◌∷◌, nil≢cons, head-eq_of_cons-eq, tail-eq_of_cons-eq}
use mathlib.Core.Option.{Option, none, some}
use mathlib.Core.Logic.{◌⊎◌, inl, inr}
use lib.Signed.{lt_z}
use lib.Dec.{T}
use lib.Ieee.{Float, lt}
use lib.Ieee.Fits.{and_i}
use Rattle.bars.specs.Lists.{All, keep_if}
use Rattle.bars.specs.declared.Bar.{Bar}
use Rattle.bars.specs.Bars.{Merged}
use Rattle.machine.specs.declared.Mark.{Mark}
use Rattle.machine.specs.declared.Mark.TheVariants.{D, G}
use Rattle.machine.specs.Fractals.{Fractal, same_mark, beyond, fx_of, time_of, is_top, is_bottom, check_fx, taken, push_if, pushed, fxs_after, check_fxs}
use Rattle.machine.specs.Strokes.{Stroke, candidate, direction_of}
use Rattle.machine.specs.Break.{high_of, low_of, past_in, broken_by}
use Rattle.machine.proofs.Facts.{shape}
use Rattle.arith.proofs.MaxMin.{max-lt, lt-min}
use Rattle.arith.proofs.FloatOrder.{AtMost, Number, decide, contra, lt_asym, lt_split, not-lt-lt}
use Rattle.machine.proofs.Lists.{cond_no}
use Rattle.machine.proofs.MergingKeepsFractal.{top_of, bottom_of_lem}
use Rattle.machine.proofs.FractalWindows.{At, check_fx-at}
use Rattle.machine.proofs.EndFirstExtreme.{FirstBest}
use Rattle.machine.proofs.StrokesChain.{check_shape}
use Rattle.machine.proofs.GrownBars.{Trip, Exact, exact_suffix}
use Rattle.machine.proofs.BarsApart.{Way, Numbered, shape_ways, ways_shape, grown-apart}
use Rattle.machine.proofs.FewerFractals.{beyond_trans, beyond-all, In, in_all}

-- the fx that a bar would have as the middle of a fractal
abbrev fx_as : Mark → Bar → Float
fx_as D b = b.low
fx_as G b = b.high

fx-is : (k : Mark) (f : Fractal) → f.mark ≡ k → fx_of f ≡ fx_as k f.mid.bar
unfolding fx_of
fx-is D f e = rw e refl
fx-is G f e = rw e refl

way_beyond : (k : Mark) (a b : Bar) → Way k a b → T (beyond k (fx_as k b) (fx_as k a))
unfolding beyond
way_beyond D a b w = w.low
way_beyond G a b w = w.high

-- ---- three bars that go one way are no fractal

no_top : (a b c : Bar) → (T (is_top a b c) → ⊥) → T (not (is_top a b c))
no_top a b c h = elim (decide (is_top a b c)) [ inl x ↦ absurd (h x) | inr x ↦ x ]

no_bottom : (a b c : Bar) → (T (is_bottom a b c) → ⊥) → T (not (is_bottom a b c))
no_bottom a b c h = elim (decide (is_bottom a b c)) [ inl x ↦ absurd (h x) | inr x ↦ x ]

straight : (k : Mark) (a b c : Merged) → Way k a.bar b.bar → Way k b.bar c.bar → check_fx a b c ≡ none
unfolding check_fx
straight D a b c v w =
    cond_no (is_top a.bar b.bar c.bar) _ _ (no_top a.bar b.bar c.bar (λ t. lt_asym b.bar.high a.bar.high v.high (top_of a.bar b.bar c.bar t).high-left))
    ∙ cond_no (is_bottom a.bar b.bar c.bar) _ _ (no_bottom a.bar b.bar c.bar (λ t. lt_asym c.bar.high b.bar.high w.high (bottom_of_lem a.bar b.bar c.bar t).high-right))
straight G a b c v w =
    cond_no (is_top a.bar b.bar c.bar) _ _ (no_top a.bar b.bar c.bar (λ t. lt_asym b.bar.high c.bar.high w.high (top_of a.bar b.bar c.bar t).high-right))
    ∙ cond_no (is_bottom a.bar b.bar c.bar) _ _ (no_bottom a.bar b.bar c.bar (λ t. lt_asym a.bar.high b.bar.high v.high (bottom_of_lem a.bar b.bar c.bar t).high-left))

-- three bars alone that go one way have no fractal
pub straight_none : (k : Mark) (a b c : Merged) → Way k a.bar b.bar → Way k b.bar c.bar → check_fxs (a ∷ b ∷ c ∷ []) ≡ []
unfolding check_fxs fxs_after pushed
straight_none k a b c v w = ap (λ o. pushed none o (λ q. fxs_after q (b ∷ c ∷ []))) (straight k a b c v w)

-- ---- bars that go one way come to a fractal of that mark, unless they go on to the end

record Climbs (k : Mark) (a : Bar) (gs : List Fractal) : Type 0 where
  top : Fractal
  others : List Fractal
  is : gs ≡ top ∷ others
  marked : top.mark ≡ k
  over : T (beyond k (fx_of top) (fx_as k a))

push_yes : (t : Bool) (f : Fractal) (p : Option Mark) (rest : Option Mark → List Fractal) → T t → push_if t f p rest ≡ f ∷ rest (some f.mark)
unfolding push_if
push_yes true f p rest h = refl
push_yes false f p rest h = absurd h

module _ (P : Bar → Type 0) (num : (z : Bar) → P z → Numbered z) (k : Mark) (p : Option Mark) (free : T (taken p k)) where
  climb_if : (a b c : Merged) (l : List Merged) → Way k a.bar b.bar → Way k c.bar b.bar ⊎ Way k b.bar c.bar
      → (Way k b.bar c.bar → (fxs_after p (b ∷ c ∷ l) ≡ []) ⊎ Climbs k b.bar (fxs_after p (b ∷ c ∷ l))) → (fxs_after p (a ∷ b ∷ c ∷ l) ≡ []) ⊎ Climbs k a.bar (fxs_after p (a ∷ b ∷ c ∷ l))
  unfolding fxs_after pushed
  climb_if a b c l v (inl w) r =
      let f : Fractal = record { mark = k; left = a; mid = b; right = c } in
      inr (record {
        top = f;
        others = fxs_after (some k) (b ∷ c ∷ l);
        is = ap (λ o. pushed p o (λ q. fxs_after q (b ∷ c ∷ l))) (check_shape k a b c (ways_shape k a.bar b.bar c.bar v w)) ∙ push_yes (taken p k) f p (λ q. fxs_after q (b ∷ c ∷ l)) free;
        marked = refl;
        over = subst (λ z. T (beyond k z (fx_as k a.bar))) (sym (fx-is k f refl)) (way_beyond k a.bar b.bar v);
      })
  climb_if a b c l v (inr w) r =
      let e : fxs_after p (a ∷ b ∷ c ∷ l) ≡ fxs_after p (b ∷ c ∷ l) = ap (λ o. pushed p o (λ q. fxs_after q (b ∷ c ∷ l))) (straight k a b c v w) in
      elim (r w) [
        | inl n ↦ inl (e ∙ n)
        | inr t ↦ inr (record { top = t.top; others = t.others; is = e ∙ t.is; marked = t.marked; over = beyond_trans k (fx_of t.top) (fx_as k b.bar) (fx_as k a.bar) t.over (way_beyond k a.bar b.bar v) })
      ]

  climb : (a b : Merged) (l : List Merged) → Way k a.bar b.bar → Trip P a b l → (fxs_after p (a ∷ b ∷ l) ≡ []) ⊎ Climbs k a.bar (fxs_after p (a ∷ b ∷ l))
  unfolding fxs_after
  climb a b [] v t = inl refl
  climb a b (c ∷ l) v t = climb_if a b c l v (grown-apart k P a b c num v t.0) (λ w. climb b c l w t.1)

-- ---- where the first fractal stands

pub record Start (P : Bar → Type 0) (s : Fractal) (fs : List Fractal) : Type 0 where
  pub rest : List Merged
  pub exact : Exact P (s.left ∷ s.mid ∷ s.right ∷ rest)
  pub are : fs ≡ fxs_after (some s.mark) (s.mid ∷ s.right ∷ rest)
  pub shaped : T (shape s.mark s.left.bar s.mid.bar s.right.bar)

start-at : (P : Bar → Type 0) (a b c : Merged) (l : List Merged) (s : Fractal) (fs : List Fractal) → At s a b c → Exact P (a ∷ b ∷ c ∷ l) → fxs_after (some s.mark) (b ∷ c ∷ l) ≡ fs → Start P s fs
start-at P a b c l s fs w x e =
    let q : a ∷ b ∷ c ∷ l ≡ s.left ∷ s.mid ∷ s.right ∷ l = λ i. w.left i ∷ w.mid i ∷ w.right i ∷ l in
    record {
      rest = l;
      exact = subst (Exact P) q x;
      are = sym e ∙ (λ i. fxs_after (some s.mark) (w.mid i ∷ w.right i ∷ l));
      shaped = subst (λ z. T (shape s.mark s.left.bar s.mid.bar z.bar)) w.right (subst (λ z. T (shape s.mark s.left.bar z.bar c.bar)) w.mid (subst (λ z. T (shape s.mark z.bar b.bar c.bar)) w.left w.shaped));
    }

start_if : (P : Bar → Type 0) (a b c : Merged) (l : List Merged) (s : Fractal) (fs : List Fractal) (o : Option Fractal) → check_fx a b c ≡ o → Exact P (a ∷ b ∷ c ∷ l)
    → pushed none o (λ q. fxs_after q (b ∷ c ∷ l)) ≡ s ∷ fs → (fxs_after none (b ∷ c ∷ l) ≡ s ∷ fs → Start P s fs) → Start P s fs
unfolding pushed taken push_if
start_if P a b c l s fs none h x e r = r e
start_if P a b c l s fs (some f) h x e r =
    let q : f ≡ s = head-eq_of_cons-eq e in
    start-at P a b c l s fs (subst (λ z. At z a b c) q (check_fx-at a b c f h)) x (subst (λ z. fxs_after (some z.mark) (b ∷ c ∷ l) ≡ fs) q (tail-eq_of_cons-eq e))

start-after : (P : Bar → Type 0) (l : List Merged) (s : Fractal) (fs : List Fractal) → Exact P l → fxs_after none l ≡ s ∷ fs → Start P s fs
unfolding fxs_after
start-after P [] s fs x e = absurd (nil≢cons e)
start-after P (a ∷ []) s fs x e = absurd (nil≢cons e)
start-after P (a ∷ b ∷ []) s fs x e = absurd (nil≢cons e)
start-after P (a ∷ b ∷ c ∷ l) s fs x e = start_if P a b c l s fs (check_fx a b c) refl x e (start-after P (b ∷ c ∷ l) s fs (exact_suffix P a b (c ∷ l) x))

pub start_of : (P : Bar → Type 0) (l : List Merged) (s : Fractal) (fs : List Fractal) → Exact P l → check_fxs l ≡ s ∷ fs → Start P s fs
unfolding check_fxs
start_of P l s fs x e = start-after P l s fs x e

-- ---- the end is beyond the start

other : (m k : Mark) → T (not (same_mark m k)) → (a b : Bar) → Way m b a → Way k a b
unfolding same_mark
other D D h a b w = absurd h
other D G h a b w = w
other G D h a b w = w
other G G h a b w = absurd h

best_of : (m : Mark) (e f : Fractal) (l : List Fractal) → FirstBest m e l → In f l → (v : Float) → Number (fx_of f) → T (beyond m v (fx_of e)) → T (beyond m v (fx_of f))
best_of m e f [] b i v n h = absurd b
best_of m e f (x ∷ l) (inl b) (inl i) v n h = subst (λ z. T (beyond m v (fx_of z))) (sym b.0 ∙ i) h
best_of m e f (x ∷ l) (inl b) (inr i) v n h = beyond-all m v (fx_of f) (fx_of e) n h (in_all (λ y. T (not (beyond m (fx_of y) (fx_of e)))) f l b.1 i)
best_of m e f (x ∷ l) (inr b) (inl i) v n h = subst (λ z. T (beyond m v (fx_of z))) i (beyond_trans m v (fx_of e) (fx_of x) h b.0)
best_of m e f (x ∷ l) (inr b) (inr i) v n h = best_of m e f l b.1 i v n h

in_kept_if : (t : Bool) (f x : Fractal) (r l : List Fractal) → (T (not t) → x ≡ f → ⊥) → (In f l → In f r) → In f (x ∷ l) → In f (cond t (x ∷ r) r)
in_kept_if true f x r l h g (inl i) = inl i
in_kept_if true f x r l h g (inr i) = inr (g i)
in_kept_if false f x r l h g (inl i) = absurd (h tt i)
in_kept_if false f x r l h g (inr i) = g i

in_kept : (q : Fractal → Bool) (f : Fractal) (l : List Fractal) → T (q f) → In f l → In f (keep_if q l)
unfolding keep_if
in_kept q f [] h i = i
in_kept q f (x ∷ l) h i = in_kept_if (q x) f x (keep_if q l) l (λ n e. contra (q x) (subst (λ z. T (q z)) (sym e) h) n) (in_kept q f l h) i

breaks_if_lem : (m k : Mark) (s : Stroke) (c : Merged) → s.start.mark ≡ m → T (not (same_mark m k)) → T (beyond k (fx_as k c.bar) (fx_as k s.start.mid.bar)) → T (beyond k (fx_as k c.bar) (fx_as k s.end.mid.bar)) → T (broken_by s c)
unfolding broken_by past_in direction_of high_of low_of same_mark beyond
breaks_if_lem D D s c e n h j = absurd n
breaks_if_lem G G s c e n h j = absurd n
breaks_if_lem D G s c e n h j = subst (λ z. T (past_in (direction_of z) s c)) (sym e) (max-lt s.start.mid.bar.high s.end.mid.bar.high c.bar.high h j)
breaks_if_lem G D s c e n h j = subst (λ z. T (past_in (direction_of z) s c)) (sym e) (lt-min s.start.mid.bar.low s.end.mid.bar.low c.bar.low h j)

-- the start's fx is not beyond its other side
fx-beyond : (m k : Mark) (s : Fractal) (v : Float) → s.mark ≡ m → T (not (same_mark m k)) → AtMost s.mid.bar.low s.mid.bar.high → T (beyond k v (fx_as k s.mid.bar)) → T (beyond k v (fx_of s))
unfolding same_mark beyond
fx-beyond D D s v e n a h = absurd n
fx-beyond G G s v e n a h = absurd n
fx-beyond D G s v e n a h = subst (λ z. T (lt z v)) (sym (fx-is D s e)) (not-lt-lt s.mid.bar.low s.mid.bar.high v a.left a.test h)
fx-beyond G D s v e n a h = subst (λ z. T (lt v z)) (sym (fx-is G s e)) (elim (lt_split v s.mid.bar.high s.mid.bar.low a.right h) [ inl l ↦ l | inr l ↦ contra (lt s.mid.bar.high s.mid.bar.low) l a.test ])

module _ (P : Bar → Type 0) (num : (z : Bar) → P z → Numbered z) (l : List Merged) (s e : Fractal) (fs : List Fractal) (st : Start P s fs) (later : All (λ y. T (lt_z (time_of s) (time_of y))) fs)
    (number : All (λ y. Number (fx_of y)) fs) (low : AtMost s.mid.bar.low s.mid.bar.high) (turns : T (not (same_mark s.mark e.mark))) (end_in : In e fs)
    (best : FirstBest e.mark e (keep_if (candidate s) fs)) where
  right_way : Way e.mark s.mid.bar s.right.bar
  right_way = other s.mark e.mark turns s.mid.bar s.right.bar (shape_ways s.mark s.left.bar s.mid.bar s.right.bar st.shaped).1

  free : T (taken (some s.mark) e.mark)
  unfolding taken
  free = turns

  climbs : Climbs e.mark s.mid.bar fs
  climbs = elim (climb P num e.mark (some s.mark) free s.mid s.right st.rest right_way st.exact.1.1) [
    | inl n ↦ absurd (subst (λ z. In e z) (st.are ∙ n) end_in)
    | inr c ↦ subst (Climbs e.mark s.mid.bar) (sym st.are) c
  ]

  top_in : In climbs.top fs
  top_in = subst (In climbs.top) (sym climbs.is) (inl refl)

  top_candidate : T (candidate s climbs.top)
  unfolding candidate
  top_candidate =
      let f = climbs.top in
      and_i (not (same_mark s.mark f.mark)) _ (subst (λ z. T (not (same_mark s.mark z))) (sym climbs.marked) turns)
      (and_i (lt_z (time_of s) (time_of f)) _ (in_all (λ y. T (lt_z (time_of s) (time_of y))) f fs later top_in)
      (subst (λ z. T (beyond z (fx_of f) (fx_of s))) (sym climbs.marked) (fx-beyond s.mark e.mark s (fx_of f) refl turns low climbs.over)))

  pub peak_of : (b : Stroke) → b.start ≡ s → b.end ≡ e → (c : Merged) → Way e.mark e.mid.bar c.bar → T (broken_by b c)
  peak_of b p q c w =
      let k = e.mark in
      let v = fx_as k c.bar in
      let x = way_beyond k e.mid.bar c.bar w in
      let y = best_of k e climbs.top (keep_if (candidate s) fs) best (in_kept (candidate s) climbs.top fs top_candidate top_in) v (in_all (λ z. Number (fx_of z)) climbs.top fs number top_in)
      (subst (λ z. T (beyond k v z)) (sym (fx-is k e refl)) x) in
      let z = beyond_trans k v (fx_of climbs.top) (fx_as k s.mid.bar) y climbs.over in
      breaks_if_lem s.mark k b c (ap (λ f. f.mark) p) turns (subst (λ f. T (beyond k v (fx_as k f.mid.bar))) (sym p) z) (subst (λ f. T (beyond k v (fx_as k f.mid.bar))) (sym q) x)
