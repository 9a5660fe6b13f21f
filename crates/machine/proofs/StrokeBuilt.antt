-- A kept stroke: its bars are at least four, in order, and begin with its start's; its fractals alternate, rise and hold both ends.
-- Assumes nothing.
use Prim.Native.Nat.{◌≤◌}
use native.Mathlib.Omega.{arith}
use mathlib.Core.Path.{◌≡◌, refl, ap, sym, ◌∙◌, subst}
use mathlib.Core.Bool.{Bool, true, false, ◌&&◌, cond}
use mathlib.Core.List.{List, [], ◌∷◌, ◌++◌, append_assoc, head-eq_of_cons-eq}
use mathlib.Core.Option.{Option, none, some}
use mathlib.Core.Logic.{inl, inr}
use lib.ListN.{length, length-append}
use lib.IntN.{ℤ}
use lib.Signed.{lt_z, le_z}
use lib.Dec.{T, leb, le→leb}
use lib.Ieee.{eq}
use lib.Ieee.Fits.{and_i}
use Rattle.bars.specs.Lists.{All, keep_if, init, last, some_of}
use Rattle.bars.specs.declared.Bar.{Bar}
use Rattle.bars.specs.Bars.{Merged}
use Rattle.machine.specs.declared.Mark.{Mark}
use Rattle.machine.specs.declared.Mark.TheVariants.{D, G}
use Rattle.machine.specs.Fractals.{Fractal, time_of, fx_of, same_mark, taken, check_fxs}
use Rattle.machine.specs.Strokes.{Stroke, candidate}
use Rattle.machine.specs.ByTime.{stroke_of}
use Rattle.machine.specs.Feed.{add_found, add_made}
use Rattle.machine.specs.Rising.{Rising}
use Rattle.machine.proofs.Facts.{RisingFx, shape}
use Rattle.machine.specs.Soundness.{alternates, same_time, same_fractal, is_stroke}
use Rattle.arith.proofs.FloatOrder.{Number, lt-left, lt-right, or_l, or_r, eq_refl}
use Rattle.machine.proofs.Marks.{same_mark_refl}
use Rattle.machine.proofs.Lists.{All-append, All-left, All_keep}
use Rattle.machine.proofs.MergingKeepsFractal.{top_of, bottom_of_lem}
use Rattle.machine.proofs.FractalWindows.{Window, Cut, window_shaped, window_number}
use Rattle.machine.proofs.EndFirstExtreme.{FirstBest}
use Rattle.machine.proofs.MadeStroke.{Facts, facts, end_window}
use Rattle.machine.proofs.StrokesChain.{init_snoc}
use Rattle.machine.proofs.StrokesMeet.{last-append}
use Rattle.machine.proofs.MergingKeepsOrder.{Upto, Ordered, ordered_rising, ordered_left}
use Rattle.machine.proofs.ChainKept.{cut_ordered, cut_all}
use Rattle.machine.proofs.StrokesBefore.{Two, Inv, inv_took}
use Rattle.machine.proofs.StrokesBeforeKept.{inv_made, After}
use Rattle.machine.proofs.EventsKeep.{Keeps, stroke_made}
use Rattle.machine.proofs.MadeStroke as made
use Rattle.machine.proofs.StrokesBeforeKept as steps
use Rattle.bars.proofs.Times as times
use Rattle.machine.proofs.FewerFractals.{Alternate, In}

-- ---- the invariant of StrokesBefore is kept by each event

pub inv_keeps : (n : ℤ) → Keeps (λ l bs. Inv n bs l)
unfolding add_made add_found
inv_keeps n =
    record {
      cuts = λ l i. record { ordered = cut_ordered l (check_fxs l) i.ordered; upto = cut_all (Upto n) l (check_fxs l) i.upto; early = tt; sides = tt };
      makes = λ l bs f m i. subst (λ z. After n (add_made bs z)) m.found (inv_made n bs l f i (inr m));
      takes = λ l bs s i. inv_took n bs s l i;
    }

-- ---- what is known of a stroke

-- the middle bar's high and low are numbers, and so is fx
pub record Numbers (f : Fractal) : Type 0 where
  pub high : Number f.mid.bar.high
  pub low : Number f.mid.bar.low
  pub fx : Number (fx_of f)

pub record Built (b : Stroke) : Type 0 where
  pub rest : List Merged
  pub first : b.bars ≡ b.start.left ∷ rest
  pub before_last : last (init b.bars) ≡ some b.end.mid
  pub four : 4 ≤ length b.bars
  pub ordered : Ordered b.bars
  pub alternate : Alternate none b.fractals
  pub rising : RisingFx b.fractals
  pub start_in : In b.start b.fractals
  pub end_in : In b.end b.fractals
  pub start-numbers : Numbers b.start
  pub end-numbers : Numbers b.end

mark-numbers : (m : Mark) (a k c : Bar) → T (shape m a k c) → Number k.high × Number k.low
unfolding shape
mark-numbers D a k c h = let t = bottom_of_lem a k c h in (lt-left k.high a.high t.high-left, lt-left k.low a.low t.low-left)
mark-numbers G a k c h = let t = top_of a k c h in (lt-right a.high k.high t.high-left, lt-right a.low k.low t.low-left)

window_numbers : (f : Fractal) (l : List Merged) → Window f l → Numbers f
window_numbers f l w =
    let n = mark-numbers f.mark f.left.bar f.mid.bar f.right.bar (window_shaped f l w) in
    record { high = n.0; low = n.1; fx = window_number f l w }

rising_if : (t : Bool) (x : Fractal) (l : List Fractal) → All (λ y. T (lt_z (time_of x) (time_of y))) l → RisingFx l → RisingFx (cond t (x ∷ l) l)
rising_if true x l a r = (a, r)
rising_if false x l a r = r

rising_keep : (p : Fractal → Bool) (l : List Fractal) → RisingFx l → RisingFx (keep_if p l)
unfolding keep_if
rising_keep p [] r = tt
rising_keep p (x ∷ l) r = rising_if (p x) x (keep_if p l) (All_keep (λ y. T (lt_z (time_of x) (time_of y))) p l r.0) (rising_keep p l r.1)

in_snoc : (e : Fractal) (p q : List Fractal) → In e (p ++ e ∷ q)
in_snoc e [] q = inl refl
in_snoc e (x ∷ p) q = inr (in_snoc e p q)

last_but_one : (p : List Merged) (a k c : Merged) → last (init (p ++ a ∷ k ∷ c ∷ [])) ≡ some k
last_but_one p a k c =
    ap (λ z. last (init z)) (sym (append_assoc p (a ∷ k ∷ []) (c ∷ [])))
    ∙ ap last (init_snoc (p ++ a ∷ k ∷ []) c)
    ∙ ap last (sym (append_assoc p (a ∷ []) (k ∷ [])))
    ∙ last-append (p ++ a ∷ []) k

-- two bars or more in front
front_four : (p : List Merged) (a k c : Merged) → Two (p ++ a ∷ []) → 4 ≤ length (p ++ a ∷ k ∷ c ∷ [])
front_four [] a k c t = absurd t
front_four (x ∷ p) a k c t = omega (arith, length-append p (a ∷ k ∷ c ∷ []))

front_first : (p q r : List Merged) (a k c d : Merged) → Two (p ++ a ∷ []) → p ++ a ∷ k ∷ c ∷ q ≡ d ∷ r → (z : List Merged) × (p ++ a ∷ k ∷ c ∷ [] ≡ d ∷ z)
front_first [] q r a k c d t e = absurd t
front_first (x ∷ p) q r a k c d t e = (p ++ a ∷ k ∷ c ∷ [], ap (λ z. z ∷ p ++ a ∷ k ∷ c ∷ []) (head-eq_of_cons-eq e))

module _ (l : List Merged) (o : Ordered l) (s e : Fractal) (fs : List Fractal) (q : check_fxs l ≡ s ∷ fs) (first : FirstBest e.mark e (keep_if (candidate s) fs)) where
  rise : Rising l
  rise = ordered_rising l o

  F : Facts l (s ∷ fs)
  F = subst (Facts l) q (facts l rise)

  abbrev c0 : Cut e (steps.l0 l o s e fs q first)
  c0 = steps.c0 l o s e fs q first

  bars_are : (stroke_of l (s ∷ fs) s e).bars ≡ c0.before ++ e.left ∷ e.mid ∷ e.right ∷ []
  bars_are = steps.bars_are l o s e fs q first

  before-two : Two (c0.before ++ e.left ∷ [])
  before-two = subst Two (steps.back_is l o s e fs q first) (steps.two l o s e fs q first)

  begins : (z : List Merged) × (c0.before ++ e.left ∷ e.mid ∷ e.right ∷ [] ≡ s.left ∷ z)
  begins = front_first c0.before c0.after _ e.left e.mid e.right s.left before-two (sym c0.is ∙ (steps.cs l o s e fs q first).from-left)

  fractals_are : (stroke_of l (s ∷ fs) s e).fractals ≡ s ∷ (made.inner l rise s e fs F first).before ++ e ∷ (made.inner l rise s e fs F first).more
  fractals_are = made.stroke-fractals l rise s e fs F first

  pub made_built : Built (stroke_of l (s ∷ fs) s e)
  unfolding stroke_of
  made_built =
      record {
        rest = begins.0;
        first = bars_are ∙ begins.1;
        before_last = ap (λ z. last (init z)) bars_are ∙ last_but_one c0.before e.left e.mid e.right;
        four = subst (λ z. 4 ≤ length z) (sym bars_are) (front_four c0.before e.left e.mid e.right before-two);
        ordered = subst Ordered (sym bars_are) (ordered_left (c0.before ++ e.left ∷ e.mid ∷ e.right ∷ []) c0.after
            (subst Ordered (c0.is ∙ sym (append_assoc c0.before (e.left ∷ e.mid ∷ e.right ∷ []) c0.after)) (steps.o0 l o s e fs q first)));
        alternate = subst (Alternate none) (sym fractals_are) (made.alternates l rise s e fs F first);
        rising = rising_keep (λ f. le_z s.left.bar.time f.mid.bar.time && le_z f.mid.bar.time e.right.bar.time) (s ∷ fs) (made.rising l rise s e fs F first);
        start_in = subst (In s) (sym fractals_are) (inl refl);
        end_in = subst (In e) (sym fractals_are) (inr (in_snoc e (made.inner l rise s e fs F first).before (made.inner l rise s e fs F first).more));
        start-numbers = window_numbers s l F.windows.0;
        end-numbers = window_numbers e l (end_window l rise s e fs F first);
      }

-- with the invariant of StrokesBefore, every stroke is built
pub built_keeps : (n : ℤ) → Keeps (λ l bs. Inv n bs l × All Built bs)
built_keeps n =
    record {
      cuts = λ l r. ((inv_keeps n).cuts l r.0, tt);
      makes = λ l bs f m r. ((inv_keeps n).makes l bs f m r.0, All-append Built bs (stroke_made l f m ∷ []) r.1 (made_built l r.0.ordered m.start m.end m.others m.all m.first, tt));
      takes = λ l bs s r. ((inv_keeps n).takes l bs s r.0, All-left Built bs (s ∷ []) r.1);
    }

-- ---- the clause

same_itself : (f : Fractal) → Numbers f → T (same_fractal f f)
unfolding same_fractal same_time
same_itself f n =
    and_i (same_time (time_of f) (time_of f) && same_mark f.mark f.mark) _
    (and_i (same_time (time_of f) (time_of f)) (same_mark f.mark f.mark) (and_i (le_z (time_of f) (time_of f)) (le_z (time_of f) (time_of f)) (times.le_refl (time_of f)) (times.le_refl (time_of f))) (rw (same_mark_refl f.mark) tt))
    (and_i (eq f.mid.bar.high f.mid.bar.high) _ (eq_refl f.mid.bar.high n.high)
    (and_i (eq f.mid.bar.low f.mid.bar.low) (eq (fx_of f) (fx_of f)) (eq_refl f.mid.bar.low n.low) (eq_refl (fx_of f) n.fx)))

holds_it : (p : Fractal → Bool) (f : Fractal) (l : List Fractal) → T (p f) → In f l → T (some_of p l)
unfolding some_of
holds_it p f [] h i = absurd i
holds_it p f (x ∷ l) h (inl e) = or_l (p x) (some_of p l) (subst (λ z. T (p z)) (sym e) h)
holds_it p f (x ∷ l) h (inr i) = or_r (p x) (some_of p l) (holds_it p f l h i)

alternates_of : (p : Option Mark) (l : List Fractal) → Alternate p l → T (alternates p l)
unfolding alternates
alternates_of p [] a = tt
alternates_of p (f ∷ l) a = and_i (taken p f.mark) (alternates (some f.mark) l) a.0 (alternates_of (some f.mark) l a.1)

pub built_stroke : (b : Stroke) → Built b → T (is_stroke b)
unfolding is_stroke
built_stroke b w =
    and_i (leb 4 (length b.bars) && alternates none b.fractals) _
    (and_i (leb 4 (length b.bars)) (alternates none b.fractals) (le→leb 4 (length b.bars) w.four) (alternates_of none b.fractals w.alternate))
    (and_i (some_of (same_fractal b.start) b.fractals) (some_of (same_fractal b.end) b.fractals)
    (holds_it (same_fractal b.start) b.start b.fractals (same_itself b.start w.start-numbers) w.start_in)
    (holds_it (same_fractal b.end) b.end b.fractals (same_itself b.end w.end-numbers) w.end_in))
