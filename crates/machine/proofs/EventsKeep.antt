-- What the events of a step of the strokes keep: a cut, a stroke made, a stroke broken and joined, a stroke shed.
-- Assumes nothing.
use Prim.Native.Nat.{ℕ}
use mathlib.Core.Path.{◌≡◌, refl, sym, subst}
use mathlib.Core.Bool.{Bool, true, false, ◌&&◌}
use mathlib.Core.List.{List, [], ◌∷◌, ◌++◌}
use mathlib.Core.Option.{Option, none, some}
use mathlib.Core.Logic.{◌⊎◌, inl, inr}
use lib.Signed.{le_z}
use Rattle.bars.specs.Lists.{All, init, last, keep_if}
use Rattle.bars.specs.Bars.{Merged}
use Rattle.machine.specs.Fractals.{Fractal, check_fxs}
use Rattle.machine.specs.Strokes.{Stroke, Found, candidate}
use Rattle.machine.specs.Feed.{add_found, Moved, add_made, shed_if}
use Rattle.machine.specs.ByTime.{from, stroke_of, check_bi_by_time, cut_at, cut_by_time}
use Rattle.machine.proofs.MachineByTime.{joined, break_if, break_last, move_some, move}
use Rattle.machine.specs.Break.{breaks}
use Rattle.machine.proofs.Lists.{All-map, All-append, All-left, All-right, All_keep, All-init}
use Rattle.machine.proofs.MergingKeepsOrder.{All-from}
use Rattle.machine.proofs.StrokesChain.{last_snoc}
use Rattle.machine.proofs.ChainKept.{cut_all}
use Rattle.machine.proofs.MadeStroke.{MadeFrom, check_outcome, best_in, kept_in}
use Rattle.machine.proofs.FewerFractals.{nothing_found, in_all}
use Rattle.machine.proofs.FractalWindows.{Window, fxs_windows, window_left, window_mid, window_right}

-- the stroke that is made
abbrev pub stroke_made : (l : List Merged) (f : Found) → MadeFrom l f → Stroke
stroke_made l f m = stroke_of l (m.start ∷ m.others) m.start m.end

-- what is left unfinished then
abbrev pub rest_made : (l : List Merged) (f : Found) → MadeFrom l f → List Merged
rest_made l f m = from m.end.left.bar.time l

-- R is kept by each event
pub record Keeps (R : List Merged → List Stroke → Type 0) : Type 0 where
  pub cuts : (l : List Merged) → R l [] → R (cut_at l (check_fxs l)) []
  pub makes : (l : List Merged) (bs : List Stroke) (f : Found) (m : MadeFrom l f) → R l bs → R (rest_made l f m) (bs ++ stroke_made l f m ∷ [])
  pub takes : (l : List Merged) (bs : List Stroke) (s : Stroke) → R l (bs ++ s ∷ []) → R (joined s l) bs

module _ (R : List Merged → List Stroke → Type 0) (keeps : Keeps R) where
  abbrev pub Then : Moved → Type 0
  Then m = R m.left m.kept

  pub add_then : (l : List Merged) (bs : List Stroke) (f : Found) → R l bs → (f ≡ nothing_found l) ⊎ MadeFrom l f → Then (add_made bs f)
  unfolding add_made add_found
  add_then l bs f r (inl e) = subst (λ z. Then (add_made bs z)) (sym e) r
  add_then l bs f r (inr m) = subst (λ z. Then (add_made bs z)) (sym m.found) (keeps.makes l bs f m r)

  break_if_lem : (t : Bool) (m : Moved) (b : Stroke) → last m.kept ≡ some b → Then m → Then (break_if t m b)
  unfolding break_if
  break_if_lem true m b h r = keeps.takes m.left (init m.kept) b (subst (λ z. R m.left z) (last_snoc m.kept b h) r)
  break_if_lem false m b h r = r

  break_last_lem : (m : Moved) (o : Option Stroke) → last m.kept ≡ o → Then m → Then (break_last m o)
  unfolding break_last
  break_last_lem m none h r = r
  break_last_lem m (some b) h r = break_if_lem (breaks b (last m.left)) m b h r

  some_then : (minimum : ℕ) (l : List Merged) (bs : List Stroke) → R l bs → Then (move_some minimum l bs)
  unfolding move_some cut_by_time
  some_then minimum l [] r = add_then (cut_by_time l) [] (check_bi_by_time minimum (cut_by_time l)) (keeps.cuts l r) (check_outcome minimum (cut_by_time l))
  some_then minimum l (b ∷ bs) r =
      let m = add_made (b ∷ bs) (check_bi_by_time minimum l) in
      break_last_lem m (last m.kept) refl (add_then l (b ∷ bs) (check_bi_by_time minimum l) r (check_outcome minimum l))

  pub move_keeps : (minimum : ℕ) (l : List Merged) (bs : List Stroke) → R l bs → R (move minimum l bs).left (move minimum l bs).kept
  unfolding move
  move_keeps minimum [] bs r = r
  move_keeps minimum (x ∷ []) bs r = r
  move_keeps minimum (x ∷ y ∷ []) bs r = r
  move_keeps minimum (x ∷ y ∷ z ∷ l) bs r = some_then minimum (x ∷ y ∷ z ∷ l) bs r

-- ---- what holds of all bars, unfinished and of strokes, goes on to hold

abbrev pub Bars : (Merged → Type 0) → List Merged → List Stroke → Type 0
Bars P l bs = All P l × All (λ b. All P b.bars) bs

stroke-all : (P : Merged → Type 0) (l : List Merged) (fs : List Fractal) (s e : Fractal) → All P l → All P (stroke_of l fs s e).bars
unfolding stroke_of
stroke-all P l fs s e a = All_keep P (λ k. le_z k.bar.time e.right.bar.time) (from s.left.bar.time l) (All-from P s.left.bar.time l a)

pub joined-all : (P : Merged → Type 0) (s : Stroke) (l : List Merged) → All P s.bars → All P l → All P (joined s l)
unfolding joined
joined-all P s l a b =
    All-append P (init (init s.bars)) (from s.end.mid.bar.time l) (All-init P (init s.bars) (All-init P s.bars a)) (All-from P s.end.mid.bar.time l b)

pub bars_keeps : (P : Merged → Type 0) → Keeps (Bars P)
bars_keeps P =
    record {
      cuts = λ l r. (cut_all P l (check_fxs l) r.0, tt);
      makes = λ l bs f m r. (
        All-from P m.end.left.bar.time l r.0,
        All-append (λ b. All P b.bars) bs (stroke_made l f m ∷ []) r.1 (stroke-all P l (m.start ∷ m.others) m.start m.end r.0, tt),
      );
      takes = λ l bs s r. (joined-all P s l (All-right (λ b. All P b.bars) bs (s ∷ []) r.1).0 r.0, All-left (λ b. All P b.bars) bs (s ∷ []) r.1);
    }

-- ---- .. and of the bars of all fractals that strokes hold

abbrev pub Three : (Merged → Type 0) → Fractal → Type 0
Three P f = P f.left × P f.mid × P f.right

abbrev pub InFractals : (Merged → Type 0) → Stroke → Type 0
InFractals P b = All (Three P) b.fractals × Three P b.start × Three P b.end

abbrev pub Held : (Merged → Type 0) → List Merged → List Stroke → Type 0
Held P l bs = Bars P l bs × All (InFractals P) bs

window_three : (P : Merged → Type 0) (f : Fractal) (l : List Merged) → All P l → Window f l → Three P f
window_three P f [] a w = absurd w
window_three P f (x ∷ l) a w = (window_left P f (x ∷ l) a w, window_mid P f x l a.1 w, window_right P f x l a.1 w)

fxs-three : (P : Merged → Type 0) (l : List Merged) → All P l → All (Three P) (check_fxs l)
unfolding check_fxs
fxs-three P l a = All-map (check_fxs l) (λ f w. window_three P f l a w) (fxs_windows none l)

made-three : (P : Merged → Type 0) (l : List Merged) (f : Found) (m : MadeFrom l f) → All P l → InFractals P (stroke_made l f m)
unfolding stroke_of
made-three P l f m a =
    let w = subst (All (Three P)) m.all (fxs-three P l a) in
    let i = kept_in (candidate m.start) m.end m.others (best_in m.end.mark m.end (keep_if (candidate m.start) m.others) m.first) in (
      All_keep (Three P) (λ x. le_z m.start.left.bar.time x.mid.bar.time && le_z x.mid.bar.time m.end.right.bar.time) (m.start ∷ m.others) w,
      w.0,
      in_all (Three P) m.end m.others w.1 i,
    )

pub held_keeps : (P : Merged → Type 0) → Keeps (Held P)
held_keeps P =
    let k = bars_keeps P in
    record {
      cuts = λ l r. (k.cuts l r.0, tt);
      makes = λ l bs f m r. (k.makes l bs f m r.0, All-append (InFractals P) bs (stroke_made l f m ∷ []) r.1 (made-three P l f m r.0.0, tt));
      takes = λ l bs s r. (k.takes l bs s r.0, All-left (InFractals P) bs (s ∷ []) r.1);
    }

-- what holds of all strokes but the oldest
pub All-shed : (P : Stroke → Type 0) (t : Bool) (bs : List Stroke) → All P bs → All P (shed_if t bs)
unfolding shed_if
All-shed P true [] a = tt
All-shed P true (b ∷ bs) a = a.1
All-shed P false bs a = a
