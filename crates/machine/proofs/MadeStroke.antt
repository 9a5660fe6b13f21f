-- A stroke that is made: its list of fractals runs from its start to its end, with at most one more; its end is the first most extreme.
-- Assumes nothing.
use Prim.Native.Nat.{ℕ}
use mathlib.Core.Path.{◌≡◌, refl, ap, sym, ◌∙◌, subst}
use mathlib.Core.Bool.{Bool, true, false, not, ◌&&◌, cond}
use mathlib.Core.List.{List, [], ◌∷◌, ◌++◌, append_assoc}
use mathlib.Core.Option.{Option, none, some, some-injective, none-ne-some}
use mathlib.Core.Logic.{◌⊎◌, inl, inr}
use lib.IntN.{ℤ}
use lib.Signed.{lt_z, le_z}
use lib.Dec.{T}
use lib.Ieee.Fits.{and_i, and_l, and_r}
use Rattle.bars.specs.Lists.{All, keep_if}
use Rattle.bars.specs.Bars.{Merged}
use Rattle.machine.specs.declared.Mark.{Mark}
use Rattle.machine.specs.Fractals.{Fractal, same_mark, beyond, fx_of, time_of, check_fxs, fxs_after}
use Rattle.machine.specs.Strokes.{Stroke, Found, candidate, best, end_of, fits_min}
use Rattle.machine.specs.ByTime.{from, stroke_of, made_if, found_with, found_among, check_bi_by_time}
use Rattle.machine.specs.Rising.{Rising}
use Rattle.machine.proofs.Facts.{RisingFx, Good, AtMostOne, nothing, one}
use Rattle.machine.specs.KeptStrokes.{LessExtreme}
use Rattle.arith.proofs.FloatOrder.{Number, decide, contra}
use Rattle.machine.proofs.Marks.{same-eq, not_same, both_other}
use Rattle.machine.proofs.Lists.{keep_yes, keep_no, keep_none, All-map, All-zip, All_keep}
use Rattle.machine.proofs.EndFirstExtreme.{FirstBest, Known, among}
use Rattle.machine.proofs.FractalWindows.{Window, Spaced, fxs_windows, fxs_spaced, spaced_rising, window_rises, window_number}
use Rattle.bars.proofs.Times as times
use Rattle.machine.proofs.FewerFractals.{In, in_all, keep_pass, Alternate, fractals_alternate, Of, best-first, candidate_other, not_itself, alternate_front, nothing_found}

abbrev time : Merged → ℤ
time k = k.bar.time

-- ---- membership

pub best_in : (m : Mark) (e : Fractal) (l : List Fractal) → FirstBest m e l → In e l
best_in m e [] f = f
best_in m e (x ∷ l) (inl f) = inl f.0
best_in m e (x ∷ l) (inr f) = inr (best_in m e l f.1)

kept_in_if : (t : Bool) (e x : Fractal) (k l : List Fractal) → (In e k → In e l) → In e (cond t (x ∷ k) k) → In e (x ∷ l)
kept_in_if true e x k l h (inl i) = inl i
kept_in_if true e x k l h (inr i) = inr (h i)
kept_in_if false e x k l h i = inr (h i)

pub kept_in : (p : Fractal → Bool) (e : Fractal) (l : List Fractal) → In e (keep_if p l) → In e l
unfolding keep_if
kept_in p e [] i = i
kept_in p e (x ∷ l) i = kept_in_if (p x) e x (keep_if p l) l (kept_in p e l) i

-- ---- the fractals of a stroke

-- what is kept of fs runs up to e, with at most one more, and is where fs begins
pub record Listed (e : Fractal) (fs kept : List Fractal) : Type 0 where
  pub before : List Fractal
  pub more : List Fractal
  pub rest : List Fractal
  pub is : kept ≡ before ++ e ∷ more
  pub few : AtMostOne more
  pub whole : fs ≡ before ++ e ∷ (more ++ rest)

-- what is kept after e
record Few (l kept : List Fractal) : Type 0 where
  more : List Fractal
  rest : List Fractal
  is : kept ≡ more
  few : AtMostOne more
  whole : l ≡ more ++ rest

module _ (b r : ℤ) where
  pub within : Fractal → Bool
  within f = le_z b f.mid.bar.time && le_z f.mid.bar.time r

  within_yes : (x : Fractal) → T (le_z b (time_of x)) → T (le_z (time_of x) r) → T (within x)
  unfolding within time_of
  within_yes x h k = and_i (le_z b x.mid.bar.time) (le_z x.mid.bar.time r) h k

  within_no : (x : Fractal) → T (lt_z r (time_of x)) → T (not (within x))
  unfolding within time_of
  within_no x h = elim (decide (within x)) [
    | inl w ↦ contra (le_z x.mid.bar.time r) (and_r (le_z b x.mid.bar.time) (le_z x.mid.bar.time r) w) (times.lt_not_le x.mid.bar.time r h)
    | inr n ↦ n
  ]

  abbrev Each : Fractal → Type 0
  Each x = T (le_z b (time_of x)) × T (lt_z (time_of x) (time x.right))

  -- after a fractal that is at r or later, none is kept
  none_after : (y : Fractal) (l : List Fractal) → Each y → T (le_z r (time_of y)) → All (λ z. T (le_z (time y.right) (time_of z))) l → keep_if within l ≡ []
  none_after y l e h s =
      keep_none within l (All-map l (λ z k. within_no z (times.le_lt_trans r (time_of y) (time_of z) h (times.lt-le_trans (time_of y) (time y.right) (time_of z) e.1 k))) s)

  few_if : (y : Fractal) (l : List Fractal) → T (within y) ⊎ T (not (within y)) → keep_if within l ≡ [] → Few (y ∷ l) (keep_if within (y ∷ l))
  few_if y l (inl w) n = record { more = y ∷ []; rest = l; is = keep_yes within y l w ∙ ap (y ∷◌) n; few = one y; whole = refl }
  few_if y l (inr w) n = record { more = []; rest = y ∷ l; is = keep_no within y l w ∙ n; few = nothing; whole = refl }

  few-after : (l : List Fractal) → All Each l → All (λ z. T (le_z r (time_of z))) l → Spaced l → Few l (keep_if within l)
  unfolding keep_if
  few-after [] e h s = record { more = []; rest = []; is = refl; few = nothing; whole = refl }
  few-after (y ∷ l) e h s = few_if y l (decide (within y)) (none_after y l e.0 h.0 s.0)

module _ (b : ℤ) (e : Fractal) where
  listed_here : (l : List Fractal) → All (Each b (time e.right)) (e ∷ l) → Spaced (e ∷ l) → Listed e (e ∷ l) (keep_if (within b (time e.right)) (e ∷ l))
  listed_here l a s =
      let f = few-after b (time e.right) l a.1 s.0 s.1 in
      record {
        before = [];
        more = f.more;
        rest = f.rest;
        is = keep_yes (within b (time e.right)) e l (within_yes b (time e.right) e a.0.0 (times.lt-le (time_of e) (time e.right) a.0.1)) ∙ ap (e ∷◌) f.is;
        few = f.few;
        whole = ap (e ∷◌) f.whole;
      }

  listed-there : (x : Fractal) (l : List Fractal) → T (within b (time e.right) x) → Listed e l (keep_if (within b (time e.right)) l) → Listed e (x ∷ l) (keep_if (within b (time e.right)) (x ∷ l))
  listed-there x l w t =
      record {
        before = x ∷ t.before;
        more = t.more;
        rest = t.rest;
        is = keep_yes (within b (time e.right)) x l w ∙ ap (x ∷◌) t.is;
        few = t.few;
        whole = ap (x ∷◌) t.whole;
      }

  listed : (fs : List Fractal) → In e fs → All (Each b (time e.right)) fs → Spaced fs → T (lt_z (time_of e) (time e.right)) → Listed e fs (keep_if (within b (time e.right)) fs)
  listed [] i a s h = absurd i
  listed (x ∷ l) (inl i) a s h =
      subst (λ z. Listed e (z ∷ l) (keep_if (within b (time e.right)) (z ∷ l))) (sym i)
      (listed_here l (subst (λ z. All (Each b (time e.right)) (z ∷ l)) i a) (subst (λ z. Spaced (z ∷ l)) i s))
  listed (x ∷ l) (inr i) a s h =
      let k = in_all (λ y. T (le_z (time x.right) (time_of y))) e l s.0 i in
      let q = times.lt_trans (time_of x) (time_of e) (time e.right) (times.lt-le_trans (time_of x) (time x.right) (time_of e) a.0.1 k) h in
      listed-there x l (within_yes b (time e.right) x a.0.0 (times.lt-le (time_of x) (time e.right) q)) (listed l i a.1 s.1 h)

-- ---- what check_bi finds

pub candidate-later : (s x : Fractal) → T (candidate s x) → T (lt_z (time_of s) (time_of x))
unfolding candidate
candidate-later s x h =
    and_l (lt_z (time_of s) (time_of x)) (beyond x.mark (fx_of x) (fx_of s)) (and_r (not (same_mark s.mark x.mark)) (lt_z (time_of s) (time_of x) && beyond x.mark (fx_of x) (fx_of s)) h)

candidate-beyond : (s x : Fractal) → T (candidate s x) → T (beyond x.mark (fx_of x) (fx_of s))
unfolding candidate
candidate-beyond s x h =
    and_r (lt_z (time_of s) (time_of x)) (beyond x.mark (fx_of x) (fx_of s)) (and_r (not (same_mark s.mark x.mark)) (lt_z (time_of s) (time_of x) && beyond x.mark (fx_of x) (fx_of s)) h)

end-first : (s : Fractal) (c : List Fractal) (e : Fractal) → All (λ y. T (candidate s y)) c → All (λ y. Number (fx_of y)) c → end_of (λ f. f) c ≡ some e → FirstBest e.mark e c
unfolding end_of
end-first s [] e a n q = absurd (none-ne-some e q)
end-first s (f ∷ l) e a n q =
    let b : best (λ x. x) f l ≡ e = some-injective (best (λ x. x) f l) e q in
    let C : All (Of f.mark) (f ∷ l) =
    All-zip (f ∷ l) (λ y h k. record { marked = both_other s.mark f.mark y.mark (candidate_other s f a.0) (candidate_other s y h); number = k }) a n in
    let F : FirstBest f.mark e (f ∷ l) = subst (λ z. FirstBest f.mark z (f ∷ l)) b (best-first (λ x. x) f.mark f l C.0 C.1) in
    subst (λ m. FirstBest m e (f ∷ l)) (sym (in_all (Of f.mark) e (f ∷ l) C (best_in f.mark e (f ∷ l) F)).marked) F

pub record MadeFrom (l : List Merged) (f : Found) : Type 0 where
  pub start : Fractal
  pub end : Fractal
  pub others : List Fractal
  pub all : check_fxs l ≡ start ∷ others
  pub first : FirstBest end.mark end (keep_if (candidate start) others)
  pub found : f ≡ record { stroke = some (stroke_of l (start ∷ others) start end); rest = from (time end.left) l }

made_if_lem : (t : Bool) (l : List Merged) (b : Stroke) → (made_if t l b ≡ nothing_found l) ⊎ (made_if t l b ≡ record { stroke = some b; rest = from (time b.end.left) l })
unfolding made_if
made_if_lem true l b = inr refl
made_if_lem false l b = inl refl

found_with_lem : (minimum : ℕ) (l : List Merged) (s : Fractal) (fs : List Fractal) (o : Option Fractal) → check_fxs l ≡ s ∷ fs → All (λ y. Number (fx_of y)) fs
    → end_of (λ f. f) (keep_if (candidate s) fs) ≡ o → (found_with minimum l (s ∷ fs) s o ≡ nothing_found l) ⊎ MadeFrom l (found_with minimum l (s ∷ fs) s o)
unfolding found_with stroke_of
found_with_lem minimum l s fs none q n h = inl refl
found_with_lem minimum l s fs (some e) q n h =
    elim (made_if_lem (fits_min minimum (stroke_of l (s ∷ fs) s e)) l (stroke_of l (s ∷ fs) s e)) [
      | inl k ↦ inl k
      | inr k ↦ inr (record {
        start = s;
        end = e;
        others = fs;
        all = q;
        first = end-first s (keep_if (candidate s) fs) e (keep_pass (candidate s) fs) (All_keep (λ y. Number (fx_of y)) (candidate s) fs n) h;
        found = k;
      })
    ]

found_among_lem : (minimum : ℕ) (l : List Merged) (fs : List Fractal) → check_fxs l ≡ fs → All (λ y. Number (fx_of y)) fs
    → (found_among minimum l fs ≡ nothing_found l) ⊎ MadeFrom l (found_among minimum l fs)
unfolding found_among
found_among_lem minimum l [] q n = inl refl
found_among_lem minimum l (s ∷ fs) q n =
    found_with_lem minimum l s fs (end_of (λ f. f) (keep_if (candidate s) (s ∷ fs))) q n.1 (ap (end_of (λ f. f)) (sym (keep_no (candidate s) s fs (not_itself s))))

-- check_bi finds nothing, or makes a stroke
pub check_outcome : (minimum : ℕ) (l : List Merged) → (check_bi_by_time minimum l ≡ nothing_found l) ⊎ MadeFrom l (check_bi_by_time minimum l)
unfolding check_bi_by_time check_fxs
check_outcome minimum l = found_among_lem minimum l (check_fxs l) refl (All-map (fxs_after none l) (λ f w. window_number f l w) (fxs_windows none l))

-- ---- the stroke that is made

-- what is known of the fractals of a list of bars whose times rise
pub record Facts (l : List Merged) (fs : List Fractal) : Type 0 where
  pub windows : All (λ f. Window f l) fs
  pub spaced : Spaced fs
  pub alternate : Alternate none fs

pub facts : (l : List Merged) → Rising l → Facts l (check_fxs l)
unfolding check_fxs
facts l r = record { windows = fxs_windows none l; spaced = fxs_spaced none l r; alternate = fractals_alternate none l }

module _ (l : List Merged) (r : Rising l) (s e : Fractal) (fs : List Fractal) (F : Facts l (s ∷ fs)) (first : FirstBest e.mark e (keep_if (candidate s) fs)) where
  end_in : In e fs
  end_in = kept_in (candidate s) e fs (best_in e.mark e (keep_if (candidate s) fs) first)

  pub end-candidate : T (candidate s e)
  end-candidate = in_all (λ y. T (candidate s y)) e (keep_if (candidate s) fs) (keep_pass (candidate s) fs) (best_in e.mark e (keep_if (candidate s) fs) first)

  pub end_window : Window e l
  end_window = in_all (λ f. Window f l) e fs F.windows.1 end_in

  pub rising : RisingFx (s ∷ fs)
  rising = spaced_rising (s ∷ fs) (All-map (s ∷ fs) (λ f w. (window_rises f l r w).1) F.windows) F.spaced

  s-rises : T (lt_z (time s.left) (time_of s))
  unfolding time_of
  s-rises = (window_rises s l r F.windows.0).0

  each : All (Each (time s.left) (time e.right)) (s ∷ fs)
  unfolding time_of
  each = (
    (times.lt-le (time s.left) (time_of s) s-rises, (window_rises s l r F.windows.0).1),
    All-zip fs (λ f h w. (times.lt-le (time s.left) (time_of f) (times.lt_trans (time s.left) (time_of s) (time_of f) s-rises h), (window_rises f l r w).1)) rising.0 F.windows.1,
  )

  e-rises : T (lt_z (time_of e) (time e.right))
  unfolding time_of
  e-rises = (window_rises e l r end_window).1

  pub inner : Listed e fs (keep_if (within (time s.left) (time e.right)) fs)
  inner = listed (time s.left) e fs end_in each.1 F.spaced.1 e-rises

  pub listed-all : keep_if (within (time s.left) (time e.right)) (s ∷ fs) ≡ s ∷ inner.before ++ e ∷ inner.more
  listed-all =
      let h = times.lt_trans (time_of s) (time_of e) (time e.right) (candidate-later s e end-candidate) e-rises in
      keep_yes (within (time s.left) (time e.right)) s fs (within_yes (time s.left) (time e.right) s each.0.0 (times.lt-le (time_of s) (time e.right) h))
      ∙ ap (s ∷◌) inner.is

  pub alternates : Alternate none (s ∷ inner.before ++ e ∷ inner.more)
  alternates =
      alternate_front none (s ∷ inner.before ++ e ∷ inner.more) inner.rest
      (subst (λ z. Alternate none (s ∷ z)) (inner.whole ∙ sym (append_assoc inner.before (e ∷ inner.more) inner.rest)) F.alternate)

  pub stroke-fractals : (stroke_of l (s ∷ fs) s e).fractals ≡ s ∷ inner.before ++ e ∷ inner.more
  unfolding stroke_of within
  stroke-fractals = listed-all

  known : All (Known s) fs
  known = All-zip fs (λ f h w. record { number = window_number f l w; later = h }) rising.0 F.windows.1

  pub made_good : Good (stroke_of l (s ∷ fs) s e)
  unfolding stroke_of within
  made_good =
      record {
        turns = candidate_other s e end-candidate;
        before = inner.before;
        more = inner.more;
        few = inner.few;
        listed = stroke-fractals;
        alternate = alternates;
        extreme = All_keep (LessExtreme e) (within (time s.left) (time e.right)) (s ∷ fs) (
          record { less = λ m. absurd (not_same s.mark e.mark (candidate_other s e end-candidate) (sym (same-eq e.mark s.mark m))) },
          among s e (window_number e l end_window) (candidate-beyond s e end-candidate) (candidate_other s e end-candidate) fs known rising.1 first,
        );
      }
