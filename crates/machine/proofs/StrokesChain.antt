-- The strokes hang together: the bars before a stroke's end, then the bars that follow, begin with its start; those that follow begin with its end.
-- Assumes nothing.
use mathlib.Core.Path.{◌≡◌, refl, ap, sym, ◌∙◌, subst}
use mathlib.Core.Bool.{not}
use mathlib.Core.List.{List, [], ◌∷◌, ◌++◌, append_assoc, head-eq_of_cons-eq}
use mathlib.Core.Option.{none, some, some-injective, none-ne-some}
use mathlib.Core.Logic.{inl, inr}
use lib.IntN.{ℤ}
use lib.Signed.{le_z}
use lib.Dec.{T}
use Rattle.bars.specs.Lists.{keep_if, init, last}
use Rattle.bars.specs.declared.Bar.{Bar}
use Rattle.bars.specs.Bars.{Merged}
use Rattle.machine.specs.declared.Mark.{Mark}
use Rattle.machine.specs.declared.Mark.TheVariants.{D, G}
use Rattle.machine.specs.Fractals.{Fractal, fx_of, time_of, is_top, is_bottom, check_fx, taken, push_if, pushed, fxs_after, check_fxs}
use Rattle.machine.specs.Strokes.{Stroke, candidate}
use Rattle.machine.specs.ByTime.{from, stroke_of}
use Rattle.bars.specs.Merging.{merge_in}
use Rattle.machine.proofs.MachineByTime.{joined}
use Rattle.machine.proofs.Facts.{shape, Begins, Good}
use Rattle.machine.specs.Rising.{Rising}
use Rattle.machine.specs.KeptStrokes.{Meets}
use Rattle.arith.proofs.FloatOrder.{lt_asym, contra, decide}
use Rattle.machine.proofs.Lists.{cond_yes, cond_no}
use Rattle.machine.proofs.MergingKeepsFractal.{top_of, bottom_of_lem, merge_begins}
use Rattle.machine.proofs.Places.{from_skip, from_stop}
use Rattle.machine.proofs.FractalWindows.{Window, Cut, cut_window, window_shaped}
use Rattle.machine.proofs.EndFirstExtreme.{FirstBest}
use Rattle.machine.proofs.MadeStroke.{Facts, facts, end_window, made_good}
use Rattle.bars.proofs.Times as times

abbrev time : Merged → ℤ
time k = k.bar.time

-- ---- a fractal at the head of the bars is the first one found

no_top : (a b c : Bar) → T (is_bottom a b c) → T (not (is_top a b c))
no_top a b c h = elim (decide (is_top a b c)) [ inl t ↦ absurd (lt_asym a.high b.high (top_of a b c t).high-left (bottom_of_lem a b c h).high-left) | inr n ↦ n ]

pub check_shape : (m : Mark) (a b c : Merged) → T (shape m a.bar b.bar c.bar) → check_fx a b c ≡ some (record { mark = m; left = a; mid = b; right = c })
unfolding check_fx shape
check_shape D a b c h = cond_no (is_top a.bar b.bar c.bar) _ _ (no_top a.bar b.bar c.bar h) ∙ cond_yes (is_bottom a.bar b.bar c.bar) _ _ h
check_shape G a b c h = cond_yes (is_top a.bar b.bar c.bar) _ _ h

pub first-is : (m : Mark) (a b c : Merged) (l : List Merged) → T (shape m a.bar b.bar c.bar)
    → (r : List Fractal) × (check_fxs (a ∷ b ∷ c ∷ l) ≡ record { mark = m; left = a; mid = b; right = c } ∷ r)
unfolding check_fxs fxs_after pushed taken push_if
first-is m a b c l h = (fxs_after (some m) (b ∷ c ∷ l), ap (λ o. pushed none o (λ q. fxs_after q (b ∷ c ∷ l))) (check_shape m a b c h))

-- a fractal has one mark
pub one-mark : (m n : Mark) (a b c : Bar) → T (shape m a b c) → T (shape n a b c) → n ≡ m
unfolding shape
one-mark D D a b c h k = refl
one-mark G G a b c h k = refl
one-mark D G a b c h k = contra (is_top a b c) k (no_top a b c h)
one-mark G D a b c h k = contra (is_top a b c) h (no_top a b c k)

-- time, high, low and fx follow from the mark and the middle bar
meets_of : (f g : Fractal) → g.mark ≡ f.mark → g.mid ≡ f.mid → Meets f g
unfolding time_of fx_of
meets_of f g p q =
    record {
      time = ap (λ k. k.bar.time) q;
      mark = p;
      high = ap (λ k. k.bar.high) q;
      low = ap (λ k. k.bar.low) q;
      fx = λ i. fx_of (record { mark = p i; left = f.left; mid = q i; right = f.right });
    }

-- two fractals that the same bars begin with are one
pub begins_meets : (f g : Fractal) (l : List Merged) → Begins f l → Begins g l → Meets f g
begins_meets f g [] h k = absurd h
begins_meets f g (a ∷ []) h k = absurd h
begins_meets f g (a ∷ b ∷ []) h k = absurd h
begins_meets f g (a ∷ b ∷ c ∷ l) h k = meets_of f g (one-mark f.mark g.mark a.bar b.bar c.bar h.2 k.2) (sym k.1 ∙ h.1)

-- ---- a list without its last elements

pub init_snoc : {A : Type 0} (l : List A) (a : A) → init (l ++ a ∷ []) ≡ l
unfolding init
init_snoc [] a = refl
init_snoc (x ∷ []) a = refl
init_snoc (x ∷ y ∷ l) a = ap (x ∷◌) (init_snoc (y ∷ l) a)

pub init-two : {A : Type 0} (l : List A) (a b c : A) → init (init (l ++ a ∷ b ∷ c ∷ [])) ≡ l ++ a ∷ []
init-two l a b c =
    ap (λ z. init (init z)) (sym (append_assoc l (a ∷ b ∷ []) (c ∷ [])))
    ∙ ap init (init_snoc (l ++ a ∷ b ∷ []) c)
    ∙ ap init (sym (append_assoc l (a ∷ []) (b ∷ [])))
    ∙ init_snoc (l ++ a ∷ []) b

pub last_snoc : {A : Type 0} (l : List A) (a : A) → last l ≡ some a → l ≡ init l ++ a ∷ []
unfolding last init
last_snoc [] a h = absurd (none-ne-some a h)
last_snoc (x ∷ []) a h = ap (λ z. z ∷ []) (some-injective x a h)
last_snoc (x ∷ y ∷ l) a h = ap (x ∷◌) (last_snoc (y ∷ l) a h)

-- ---- the chain

-- a stroke's bars before its end
unfoldable pub pre : Stroke → List Merged
pre b = init (init (init b.bars))

-- the strokes' bars before their ends, one after another, then the unfinished bars
abbrev pub follow : List Stroke → List Merged → List Merged
follow [] l = l
follow (b ∷ bs) l = pre b ++ follow bs l

pub record Link (b : Stroke) (l : List Merged) : Type 0 where
  pub bars : b.bars ≡ pre b ++ b.end.left ∷ b.end.mid ∷ b.end.right ∷ []
  pub starts : Begins b.start (pre b ++ l)
  pub ends : Begins b.end l
  pub good : Good b

abbrev pub Chain : List Stroke → List Merged → Type 0
Chain [] l = Unit {0}
Chain (b ∷ bs) l = Link b (follow bs l) × Chain bs l

-- ---- a later bar is merged in

merge_append : (f : Fractal) (p l : List Merged) (b : Bar) → Begins f l → p ++ merge_in l b ≡ merge_in (p ++ l) b
unfolding merge_in
merge_append f p [] b h = absurd h
merge_append f p (x ∷ []) b h = absurd h
merge_append f p (x ∷ y ∷ []) b h = absurd h
merge_append f [] (x ∷ y ∷ z ∷ l) b h = refl
merge_append f (k ∷ []) (x ∷ y ∷ z ∷ l) b h = refl
merge_append f (k ∷ k' ∷ []) (x ∷ y ∷ z ∷ l) b h = refl
merge_append f (k ∷ k' ∷ k'' ∷ p) (x ∷ y ∷ z ∷ l) b h = ap (k ∷◌) (merge_append f (k' ∷ k'' ∷ p) (x ∷ y ∷ z ∷ l) b h)

link_merged : (b : Stroke) (l : List Merged) (x : Bar) → Link b l → Link b (merge_in l x)
link_merged b l x k =
    record {
      bars = k.bars;
      starts = subst (Begins b.start) (sym (merge_append b.end (pre b) l x k.ends)) (merge_begins b.start (pre b ++ l) x k.starts);
      ends = merge_begins b.end l x k.ends;
      good = k.good;
    }

pub follow_merged : (bs : List Stroke) (l : List Merged) (x : Bar) → Chain bs l → follow bs (merge_in l x) ≡ merge_in (follow bs l) x
follow_merged [] l x c = refl
follow_merged (b ∷ bs) l x c = ap (pre b ++◌) (follow_merged bs l x c.1) ∙ merge_append b.end (pre b) (follow bs l) x c.0.ends

pub chain_merged : (bs : List Stroke) (l : List Merged) (x : Bar) → Chain bs l → Chain bs (merge_in l x)
chain_merged [] l x c = tt
chain_merged (b ∷ bs) l x c = (subst (Link b) (sym (follow_merged bs l x c.1)) (link_merged b (follow bs l) x c.0), chain_merged bs l x c.1)

-- ---- a stroke is put on or taken off the end

pub follow_snoc : (bs : List Stroke) (b : Stroke) (l : List Merged) → follow (bs ++ b ∷ []) l ≡ follow bs (pre b ++ l)
follow_snoc [] b l = refl
follow_snoc (x ∷ bs) b l = ap (pre x ++◌) (follow_snoc bs b l)

pub chain_put : (bs : List Stroke) (b : Stroke) (l : List Merged) → Chain bs (pre b ++ l) → Link b l → Chain (bs ++ b ∷ []) l
chain_put [] b l c k = (k, tt)
chain_put (x ∷ bs) b l c k = (subst (Link x) (sym (follow_snoc bs b l)) c.0, chain_put bs b l c.1 k)

pub chain_took : (bs : List Stroke) (b : Stroke) (l : List Merged) → Chain (bs ++ b ∷ []) l → Chain bs (pre b ++ l) × Link b l
chain_took [] b l c = (tt, c.0)
chain_took (x ∷ bs) b l c = let r = chain_took bs b l c.1 in ((subst (Link x) (follow_snoc bs b l) c.0, r.0), r.1)

-- ---- a broken stroke is joined with what follows: nothing is lost

from-ends : (f : Fractal) (l : List Merged) → Begins f l → Rising l → f.left ∷ from (time f.mid) l ≡ l
from-ends f [] h r = absurd h
from-ends f (a ∷ []) h r = absurd h
from-ends f (a ∷ k ∷ []) h r = absurd h
from-ends f (a ∷ k ∷ c ∷ l) h r =
    ap (λ z. f.left ∷ from (time z) (a ∷ k ∷ c ∷ l)) (sym h.1)
    ∙ ap (f.left ∷◌) (from_skip (time k) a (k ∷ c ∷ l) r.0.0 ∙ from_stop (time k) k (c ∷ l) (times.le_refl (time k)))
    ∙ ap (λ z. z ∷ k ∷ c ∷ l) (sym h.0)

pub joined_is : (b : Stroke) (l : List Merged) → Link b l → Rising l → joined b l ≡ pre b ++ l
unfolding joined
joined_is b l k r =
    ap (λ z. init (init z) ++ from (time b.end.mid) l) k.bars
    ∙ ap (◌++ from (time b.end.mid) l) (init-two (pre b) b.end.left b.end.mid b.end.right)
    ∙ append_assoc (pre b) (b.end.left ∷ []) (from (time b.end.mid) l)
    ∙ ap (pre b ++◌) (from-ends b.end l k.ends r)

-- ---- a stroke is made of bars that begin with a fractal

-- the first fractal found is the one that the bars begin with
begins-first : (f : Fractal) (l : List Merged) (s : Fractal) (fs : List Fractal) → Begins f l → check_fxs l ≡ s ∷ fs → Begins s l × (from (time s.left) l ≡ l)
begins-first f [] s fs h q = absurd h
begins-first f (a ∷ []) s fs h q = absurd h
begins-first f (a ∷ k ∷ []) s fs h q = absurd h
begins-first f (a ∷ k ∷ c ∷ l) s fs h q =
    let t = first-is f.mark a k c l h.2 in
    let e : record { mark = f.mark; left = a; mid = k; right = c } ≡ s = head-eq_of_cons-eq (sym t.1 ∙ q) in (
      (ap (λ z. z.left) e, ap (λ z. z.mid) e, subst (λ z. T (shape z.mark a.bar k.bar c.bar)) e h.2),
      subst (λ z. from (time z.left) (a ∷ k ∷ c ∷ l) ≡ a ∷ k ∷ c ∷ l) e (from_stop (time a) a (k ∷ c ∷ l) (times.le_refl (time a))),
    )

module _ (l : List Merged) (r : Rising l) (f s e : Fractal) (fs : List Fractal) (h : Begins f l) (q : check_fxs l ≡ s ∷ fs) (first : FirstBest e.mark e (keep_if (candidate s) fs)) where
  F : Facts l (s ∷ fs)
  F = subst (Facts l) q (facts l r)

  w : Window e l
  w = end_window l r s e fs F first

  c : Cut e l
  c = cut_window e l r w

  bars_are : (stroke_of l (s ∷ fs) s e).bars ≡ c.before ++ e.left ∷ e.mid ∷ e.right ∷ []
  unfolding stroke_of
  bars_are = ap (keep_if (λ k. le_z k.bar.time e.right.bar.time)) (begins-first f l s fs h q).1 ∙ c.up_to

  pre_is : pre (stroke_of l (s ∷ fs) s e) ≡ c.before
  unfolding pre
  pre_is = ap (λ z. init (init (init z))) bars_are ∙ ap init (init-two c.before e.left e.mid e.right) ∙ init_snoc c.before e.left

  pub made-whole : pre (stroke_of l (s ∷ fs) s e) ++ from (time e.left) l ≡ l
  made-whole = ap (◌++ from (time e.left) l) pre_is ∙ ap (c.before ++◌) c.from-left ∙ sym c.is

  pub made_link : Link (stroke_of l (s ∷ fs) s e) (from (time e.left) l)
  unfolding stroke_of
  made_link =
      record {
        bars = bars_are ∙ ap (◌++ e.left ∷ e.mid ∷ e.right ∷ []) (sym pre_is);
        starts = subst (Begins s) (sym made-whole) (begins-first f l s fs h q).0;
        ends = subst (Begins e) (sym c.from-left) (refl, refl, window_shaped e l w);
        good = made_good l r s e fs F first;
      }
