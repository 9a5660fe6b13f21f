-- A step of the strokes, where bars may come again with the last time: what `Sides` says is kept.
-- Assumes nothing.
use Prim.Native.Nat.{ℕ}
use mathlib.Core.Path.{◌≡◌, refl, ap, sym, ◌∙◌, subst}
use mathlib.Core.Bool.{Bool, true, false}
use mathlib.Core.List.{List, [], ◌∷◌, ◌++◌, append_assoc, head-eq_of_cons-eq, tail-eq_of_cons-eq}
use mathlib.Core.Option.{Option, none, some}
use mathlib.Core.Logic.{◌⊎◌, inl, inr}
use lib.IntN.{ℤ}
use lib.Signed.{lt_z, le_z}
use lib.Dec.{T}
use Rattle.bars.specs.Lists.{All, keep_if, init, last}
use Rattle.bars.specs.Bars.{Merged}
use Rattle.machine.specs.Fractals.{Fractal, time_of, check_fxs}
use Rattle.machine.specs.Strokes.{Stroke, Found, candidate}
use Rattle.machine.specs.Feed.{add_found, Moved, add_made, shed_if}
use Rattle.machine.specs.ByTime.{from, stroke_of, check_bi_by_time, cut_by_time}
use Rattle.machine.proofs.MachineByTime.{break_if, break_last, move_some, move}
use Rattle.machine.specs.Break.{breaks}
use Rattle.machine.specs.Rising.{Rising}
use Rattle.machine.proofs.Lists.{All-map, All-append}
use Rattle.machine.proofs.FractalWindows.{Window, Cut, cut_window, window_left, window_rises}
use Rattle.machine.proofs.EndFirstExtreme.{FirstBest}
use Rattle.machine.proofs.MadeStroke.{Facts, facts, end_window, end-candidate, candidate-later, made_good, MadeFrom, check_outcome}
use Rattle.machine.proofs.MergingKeepsOrder.{Upto, Ordered, ordered_rising, ordered_left, ordered_from, All-from}
use Rattle.machine.proofs.StrokesChain.{init-two, last_snoc}
use Rattle.machine.proofs.ChainKept.{cut_ordered, cut_all}
use Rattle.machine.proofs.StrokesBefore.{Follows, ordered_follows, back, Side, Two, Own, Sides, Inv, inv_took, windows_order, window_from, from-from, side_suffix, side_left, sides_put}
use Rattle.arith.proofs.FloatOrder.{contra}
use Rattle.bars.proofs.Times as times
use Rattle.machine.proofs.FewerFractals.{nothing_found}

abbrev pub time : Merged → ℤ
time k = k.bar.time

same-time : (a b : Merged) → T (lt_z (time a) (time b)) → b ≡ a → ⊥
same-time a b h e = contra (lt_z (time a) (time a)) (subst (λ z. T (lt_z (time a) (time z))) e h) (times.le_not_lt (time a) (time a) (times.le_refl (time a)))

-- the end is not the start, so that there is a bar before the end's
two-before : (s e : Fractal) (p q r : List Merged) → T (lt_z (time s.mid) (time e.mid)) → p ++ e.left ∷ e.mid ∷ q ≡ s.left ∷ s.mid ∷ r → Two (p ++ e.left ∷ [])
two-before s e [] q r h k = absurd (same-time s.mid e.mid h (head-eq_of_cons-eq (tail-eq_of_cons-eq k)))
two-before s e (x ∷ []) q r h k = tt
two-before s e (x ∷ y ∷ p) q r h k = tt

module _ (l : List Merged) (o : Ordered l) (s e : Fractal) (fs : List Fractal) (q : check_fxs l ≡ s ∷ fs) (first : FirstBest e.mark e (keep_if (candidate s) fs)) where
  pub r : Rising l
  r = ordered_rising l o

  pub F : Facts l (s ∷ fs)
  F = subst (Facts l) q (facts l r)

  pub w : Window e l
  w = end_window l r s e fs F first

  pub later : T (lt_z (time s.mid) (time e.mid))
  unfolding time_of
  later = candidate-later s e (end-candidate l r s e fs F first)

  pub order : T (le_z (time s.left) (time e.left))
  order = windows_order s e l r F.windows.0 w later

  abbrev pub l0 : List Merged
  l0 = from (time s.left) l

  pub o0 : Ordered l0
  o0 = ordered_from (time s.left) l o

  pub c0 : Cut e l0
  c0 = cut_window e l0 (ordered_rising l0 o0) (window_from e (time s.left) l order w)

  pub cs : Cut s l
  cs = cut_window s l r F.windows.0

  abbrev pub b : Stroke
  b = stroke_of l (s ∷ fs) s e

  pub bars_are : b.bars ≡ c0.before ++ e.left ∷ e.mid ∷ e.right ∷ []
  unfolding stroke_of
  bars_are = c0.up_to

  pub back_is : back b ≡ c0.before ++ e.left ∷ []
  unfolding back
  back_is = ap (λ z. init (init z)) bars_are ∙ init-two c0.before e.left e.mid e.right

  whole : l0 ≡ (c0.before ++ e.left ∷ []) ++ e.mid ∷ e.right ∷ c0.after
  whole = c0.is ∙ sym (append_assoc c0.before (e.left ∷ []) (e.mid ∷ e.right ∷ c0.after))

  pub rest-is : from (time e.left) l ≡ e.left ∷ e.mid ∷ e.right ∷ c0.after
  rest-is = sym (from-from (time s.left) (time e.left) l order) ∙ c0.from-left

  pub two : Two (back b)
  two = subst Two (sym back_is) (two-before s e c0.before (e.right ∷ c0.after) (s.right ∷ cs.after) later (sym c0.is ∙ cs.from-left))

  pub made-own : Own b
  made-own =
      record {
        good = made_good l r s e fs F first;
        ordered = subst Ordered (sym back_is) (ordered_left (c0.before ++ e.left ∷ []) (e.mid ∷ e.right ∷ c0.after) (subst Ordered whole o0));
        two = two;
      }

  pub made_side : Side b (from (time e.left) l)
  unfolding stroke_of
  made_side =
      subst (Side b) (sym rest-is)
      (inl (window_rises e l r w).0, subst (λ z. All (Follows z) (e.mid ∷ e.right ∷ c0.after)) (sym back_is) (ordered_follows (c0.before ++ e.left ∷ []) (e.mid ∷ e.right ∷ c0.after) (subst Ordered whole o0)))

  pub made-two : Two (from (time e.left) l)
  made-two = subst Two (sym rest-is) tt

  -- the stroke before goes over to the new one
  pub made-over : (a : Stroke) → Side a l → Side a (back b)
  made-over a d =
      subst (Side a) (sym back_is)
      (side_left a (c0.before ++ e.left ∷ []) (e.mid ∷ e.right ∷ c0.after) (subst Two back_is two)
      (subst (Side a) (sym cs.from-left ∙ whole) (side_suffix a (time s.left) l s.left (s.mid ∷ s.right ∷ cs.after) d cs.from-left)))

  pub made-early : (n : ℤ) → All (Upto n) l → T (le_z (time s.left) n)
  made-early n u = window_left (λ k. T (le_z (time k) n)) s l (All-map l (λ k h. h.0) u) F.windows.0

-- ---- the step

abbrev pub After : ℤ → Moved → Type 0
After n m = Inv n m.kept m.left

pub inv_made : (n : ℤ) (bs : List Stroke) (l : List Merged) (f : Found) → Inv n bs l → (f ≡ nothing_found l) ⊎ MadeFrom l f → After n (add_made bs f)
unfolding add_made add_found stroke_of
inv_made n bs l f i (inl e) = subst (λ z. After n (add_made bs z)) (sym e) i
inv_made n bs l f i (inr m) =
    let b = stroke_of l (m.start ∷ m.others) m.start m.end in
    let rest = from (time m.end.left) l in
    subst (λ z. After n (add_made bs z)) (sym m.found)
    (record {
      ordered = ordered_from (time m.end.left) l i.ordered;
      upto = All-from (Upto n) (time m.end.left) l i.upto;
      early = All-append (λ x. T (le_z (time x.start.left) n)) bs (b ∷ []) i.early (made-early l i.ordered m.start m.end m.others m.all m.first n i.upto, tt);
      sides = sides_put bs b l rest i.sides (made-over l i.ordered m.start m.end m.others m.all m.first) (made-own l i.ordered m.start m.end m.others m.all m.first)
          (made_side l i.ordered m.start m.end m.others m.all m.first) (made-two l i.ordered m.start m.end m.others m.all m.first);
    })

break_if_lem : (t : Bool) (n : ℤ) (m : Moved) (b : Stroke) → last m.kept ≡ some b → After n m → After n (break_if t m b)
unfolding break_if
break_if_lem true n m b h i = inv_took n (init m.kept) b m.left (subst (λ z. Inv n z m.left) (last_snoc m.kept b h) i)
break_if_lem false n m b h i = i

break_last_lem : (n : ℤ) (m : Moved) (o : Option Stroke) → last m.kept ≡ o → After n m → After n (break_last m o)
unfolding break_last
break_last_lem n m none h i = i
break_last_lem n m (some b) h i = break_if_lem (breaks b (last m.left)) n m b h i

some_inv : (n : ℤ) (minimum : ℕ) (l : List Merged) (bs : List Stroke) → Inv n bs l → After n (move_some minimum l bs)
unfolding move_some cut_by_time
some_inv n minimum l [] i =
    inv_made n [] (cut_by_time l) (check_bi_by_time minimum (cut_by_time l)) (record { ordered = cut_ordered l (check_fxs l) i.ordered; upto = cut_all (Upto n) l (check_fxs l) i.upto; early = tt; sides = tt }) (check_outcome minimum (cut_by_time l))
some_inv n minimum l (b ∷ bs) i =
    let m = add_made (b ∷ bs) (check_bi_by_time minimum l) in
    break_last_lem n m (last m.kept) refl (inv_made n (b ∷ bs) l (check_bi_by_time minimum l) i (check_outcome minimum l))

pub move_inv : (n : ℤ) (minimum : ℕ) (l : List Merged) (bs : List Stroke) → Inv n bs l → After n (move minimum l bs)
unfolding move
move_inv n minimum [] bs i = i
move_inv n minimum (x ∷ []) bs i = i
move_inv n minimum (x ∷ y ∷ []) bs i = i
move_inv n minimum (x ∷ y ∷ z ∷ l) bs i = some_inv n minimum (x ∷ y ∷ z ∷ l) bs i

shed_sides : (b : Stroke) (bs : List Stroke) (l : List Merged) → Sides (b ∷ bs) l → Sides bs l
shed_sides b [] l d = tt
shed_sides b (b' ∷ bs) l d = d.2

pub shed_inv : (t : Bool) (n : ℤ) (bs : List Stroke) (l : List Merged) → Inv n bs l → Inv n (shed_if t bs) l
unfolding shed_if
shed_inv true n [] l i = i
shed_inv true n (b ∷ bs) l i = record { ordered = i.ordered; upto = i.upto; early = i.early.1; sides = shed_sides b bs l i.sides }
shed_inv false n bs l i = i
