-- Laws of the finished strokes and of the bars beyond the last stroke. Assumes nothing.
use Prim.Native.Nat.{ℕ, ◌-◌, ◌≤◌, ◌<◌}
use native.Mathlib.Omega.{arith}
use mathlib.Core.Path.{◌≡◌, refl, ap, sym, ◌∙◌}
use mathlib.Core.Bool.{Bool, true, false, cond}
use mathlib.Core.List.{List, [], ◌∷◌, map}
use Rattle.std.specs.List.{fold}
use mathlib.Core.Option.{Option, none, some}
use lib.ListN.{length, take, get_or}
use lib.Seq.{take-length}
use lib.Dec.{ltb}
use lib.Ieee.{Float, nan, lt}
use borrow.Author.Tests.{lt-ltb, le-ltb}
use Rattle.bars.specs.Bars.{Merged}
use Rattle.bars.specs.Lists.{fold_left, last}
use Rattle.stores.specs.Stores.{MergedStore, merged_bars, with_first, raw_bars, zip_with, bar_of, merged_store}
use Rattle.stores.specs.Code.StoreRows.{SizedMerged}
use Rattle.stores.proofs.AgainBound.{init-length}
use Rattle.machine.specs.declared.Direction.{Direction}
use Rattle.machine.specs.declared.Direction.TheVariants.{Up, Down}
use Rattle.machine.specs.Strokes.{Stroke, direction_of}
use Rattle.machine.specs.Break.{high_of, low_of}
use Rattle.sound.proofs.SoundReads.{Rows, no_rows, next, rows_of, merged-take, init-take}
use Rattle.sound.proofs.SoundMeans.{length_to}
use Rattle.named.specs.Folds.{greatest, least}
use Rattle.reports.specs.FractalList.{finished_if, get_finished_bis, extends, extends_last, last_bi_extend}
use Rattle.named.specs.ReportQuestions.{run_of}
use Rattle.reports.specs.Code.ListSteps.{finished_count, reaches}

-- ---- the finished strokes

finished-first : (t : Bool) (bs : List Stroke) → take (length (finished_if t bs)) bs ≡ finished_if t bs
unfolding finished_if
finished-first true bs = ap (λ (k : ℕ). take k bs) (init-length bs) ∙ sym (init-take bs)
finished-first false bs = take-length bs

-- they are the first so many of the kept strokes
pub finished-run : (bs : List Stroke) (l : List Merged) → run_of bs 0 (length (get_finished_bis bs l)) ≡ get_finished_bis bs l
unfolding run_of get_finished_bis
finished-run bs l = finished-first (ltb (length l) 5) bs

finished-many : (t : Bool) (bs : List Stroke) → cond t (length bs - 1) (length bs) ≡ length (finished_if t bs)
unfolding finished_if
finished-many true bs = sym (init-length bs)
finished-many false bs = refl

pub finished-count : (bs : List Stroke) (l : List Merged) (k n : ℕ) → length bs ≡ k → length l ≡ n → finished_count k n ≡ length (get_finished_bis bs l)
unfolding finished_count get_finished_bis
finished-count bs l k n e f = (λ i. cond (ltb (sym f i) 5) (sym e i - 1) (sym e i)) ∙ finished-many (ltb (length l) 5) bs

-- what the code answers
pub count-all : (k n : ℕ) → 5 ≤ n → k ≡ finished_count k n
unfolding finished_count
count-all k n h = ap (λ (t : Bool). cond t (k - 1) k) (sym (le-ltb n 5 h))

pub count_less : (k n r : ℕ) → n < 5 → r ≡ k - 1 → r ≡ finished_count k n
unfolding finished_count
count_less k n r h e = e ∙ ap (λ (t : Bool). cond t (k - 1) k) (sym (lt-ltb n 5 h))

-- ---- the greatest high and the least low

-- a fold over rows is one over what is read of them
pub fold_read : (f : Float → Float → Float) (g : List Float → Float) (b : Float) (l : List (List Float)) → fold (λ h p. f h (g p)) b l ≡ fold_left f b (map g l)
unfolding fold_left
fold_read f g b [] = refl
fold_read f g b (p ∷ l) = fold_read f g (f b (g p)) l

-- ---- beyond the last stroke

-- what is read of the rows of prices of the first n unfinished bars
column : {A : Type 0} {ts is : _} {ps : List (List Float)} {cs : _} {es : _} (g : Merged → A) (r : List Float → A)
    → ((t i : _) (p : List Float) (n : ℕ) (e : _) → g (with_first (bar_of t i p) n e) ≡ r p)
    → Rows ts is ps cs es → map g (merged_bars (merged_store ts is ps cs es)) ≡ map r ps
unfolding merged_bars raw_bars zip_with
column g r q no_rows = refl
column g r q (next {t = t} {i = i} {p = p} {n = n} {e = e} w) = λ j. q t i p n e j ∷ column g r q w j

pub column_read : {A : Type 0} (g : Merged → A) (r : List Float → A) → ((t i : _) (p : List Float) (n : ℕ) (e : _) → g (with_first (bar_of t i p) n e) ≡ r p)
    → (u : MergedStore) (k n : ℕ) → SizedMerged u k → map g (take n (merged_bars u)) ≡ map r (take n u.prices)
column_read g r q u k n h =
    ap (map g) (merged-take n u)
    ∙ column g r q
    (rows_of (take n u.times) (take n u.ids) (take n u.prices) (take n u.counts) (take n u.elements) (length_to n k u.ids u.times h.raw.ids h.raw.times)
    (length_to n k u.prices u.times h.raw.prices h.raw.times) (length_to n k u.counts u.times h.counts h.raw.times) (length_to n k u.elements u.times h.elements h.raw.times))

pub extend-none : (bs : List Stroke) (l : List Merged) → length bs ≡ 0 → false ≡ last_bi_extend bs l
unfolding last_bi_extend extends_last last
extend-none [] l h = refl
extend-none (b ∷ bs) l h = let z : ⊥ = omega arith in absurd z

none-beyond : (o : Option Stroke) (l : List Merged) → length l ≡ 0 → false ≡ extends_last o l
unfolding extends_last
none-beyond none l h = refl
none-beyond (some b) [] h = refl
none-beyond (some b) (k ∷ l) h = let z : ⊥ = omega arith in absurd z

pub extend-empty : (bs : List Stroke) (l : List Merged) → length l ≡ 0 → false ≡ last_bi_extend bs l
unfolding last_bi_extend
extend-empty bs l h = none-beyond (last bs) l h

beyond-is : (d : Direction) (b : Stroke) (l : List Merged) (ps : List (List Float)) → map (λ k. k.bar.high) l ≡ map (λ p. get_or p 2 nan) ps
    → map (λ k. k.bar.low) l ≡ map (λ p. get_or p 3 nan) ps → reaches d (high_of b) (low_of b) ps ≡ extends d b l
unfolding reaches extends
beyond-is Up b l ps e f = ap (λ (x : List Float). lt (high_of b) (greatest x)) (sym e)
beyond-is Down b l ps e f = ap (λ (x : List Float). lt (least x) (low_of b)) (sym f)

some-beyond : (b : Stroke) (l : List Merged) → 1 ≤ length l → extends (direction_of b.start.mark) b l ≡ extends_last (some b) l
unfolding extends_last
some-beyond b [] h = let z : ⊥ = omega arith in absurd z
some-beyond b (k ∷ l) h = refl

pub extend-is : (bs : List Stroke) (l : List Merged) (ps : List (List Float)) (b : Stroke) (d : Direction) (high low : Float) (r : Bool) → last bs ≡ some b → 1 ≤ length l
    → d ≡ direction_of b.start.mark → high ≡ high_of b → low ≡ low_of b
    → map (λ k. k.bar.high) l ≡ map (λ p. get_or p 2 nan) ps → map (λ k. k.bar.low) l ≡ map (λ p. get_or p 3 nan) ps
    → r ≡ reaches d high low ps → r ≡ last_bi_extend bs l
unfolding last_bi_extend
extend-is bs l ps b d high low r e one ed eh el eu ev er =
    er ∙ (λ i. reaches (ed i) (eh i) (el i) ps) ∙ beyond-is (direction_of b.start.mark) b l ps eu ev ∙ some-beyond b l one ∙ ap (λ (o : Option Stroke). extends_last o l) (sym e)
