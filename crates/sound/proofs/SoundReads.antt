-- The columns of a store say the same as the bars that are read off them. Assumes nothing.
use Prim.Native.Nat.{ℕ, suc, ◌-◌, ◌*◌}
use native.Mathlib.Omega.{arith}
use mathlib.Core.Path.{◌≡◌, refl, ap, sym, ◌∙◌}
use mathlib.Core.Bool.{Bool, true, false, ◌&&◌, ◌||◌}
use mathlib.Core.List.{List, [], ◌∷◌, map}
use mathlib.Core.Option.{Option, none, some}
use lib.ListN.{length, take, drop, get_or}
use lib.IntN.{ℤ, pos}
use lib.Ieee.{Float, nan, lt}
use lib.Seq.{get_or-take, get_or-drop}
use borrow.Author.Tests.{lt-leb}
use Rattle.bars.specs.declared.Bar.{Bar}
use Rattle.bars.specs.Bars.{Merged}
use Rattle.bars.specs.Lists.{every, some_of, last, init}
use Rattle.bars.specs.Questions.{question5, question6, question7, question8, from_zero, is_bar}
use Rattle.stores.specs.Stores.{MergedStore, raw_store, merged_store, zip_with, bar_of, with_first, raw_bars, merged_bars}
use Rattle.stores.proofs.Columns.{zip-take, zip-drop}
use Rattle.machine.specs.Fractals.{is_top, time_of}
use Rattle.strokes.specs.StateRead.{stored_fractals, row_bar, row_fractal, fractal_of}
use Rattle.strokes.specs.Lent.{fractal_store}
use Rattle.machine.specs.Soundness.{is_merged, fractal_merged, bar_times, merged_times, fractal_times, same_time, names, is_named, asked, closes, newest_in}
use Rattle.sound.specs.Code.SoundStand.{in_time, raw_row, merged_row, is_time, ends_in, skipped, top_row, middle_times, stamps_pass, bars_pass}
use Rattle.arith.proofs.Tests.{and_assoc}

pub and_swap : (a b c d : Bool) → ((a && b) && (c && d)) ≡ ((a && c) && (b && d))
and_swap true true c d = refl
and_swap true false true d = refl
and_swap true false false d = refl
and_swap false b c d = refl

-- ---- the raw bars

is-bar-row : (t i : ℤ) (p : List Float) → is_bar (bar_of t i p) ≡ (in_time t && raw_row p)
unfolding is_bar question5 question6 question7 question8 bar_of in_time raw_row
is-bar-row t i p =
    sym (and_assoc (question5 (bar_of t i p)) (question6 (bar_of t i p)) (question7 (bar_of t i p) && question8 (bar_of t i p)))

-- columns of one length
pub data RawRows : List ℤ → List ℤ → List (List Float) → Type 0 where
  no_row : RawRows [] [] []
  row : {t i : ℤ} {p : List Float} {ts is : List ℤ} {ps : List (List Float)} → RawRows ts is ps → RawRows (t ∷ ts) (i ∷ is) (p ∷ ps)

pub raw-rows : (ts is : List ℤ) (ps : List (List Float)) → length is ≡ length ts → length ps ≡ length ts → RawRows ts is ps
raw-rows [] [] [] e f = no_row
raw-rows [] [] (p ∷ ps) e f = absurd (omega arith)
raw-rows [] (i ∷ is) ps e f = absurd (omega arith)
raw-rows (t ∷ ts) [] ps e f = absurd (omega arith)
raw-rows (t ∷ ts) (i ∷ is) [] e f = absurd (omega arith)
raw-rows (t ∷ ts) (i ∷ is) (p ∷ ps) e f = row (raw-rows ts is ps (omega arith) (omega arith))

pub raw-times : {ts is : List ℤ} {ps : List (List Float)} → RawRows ts is ps → bar_times (raw_bars (raw_store ts is ps)) ≡ ts
unfolding bar_times raw_bars zip_with bar_of
raw-times no_row = refl
raw-times (row {t = t} r) = ap (λ (l : List ℤ). t ∷ l) (raw-times r)

pub raw-every : {ts is : List ℤ} {ps : List (List Float)} → RawRows ts is ps → every is_bar (raw_bars (raw_store ts is ps)) ≡ (every in_time ts && every raw_row ps)
unfolding raw_bars zip_with every
raw-every no_row = refl
raw-every (row {t = t} {i = i} {p = p} {ts = ts} {is = is} {ps = ps} r) =
    (λ j. is-bar-row t i p j && raw-every r j) ∙ and_swap (in_time t) (raw_row p) (every in_time ts) (every raw_row ps)

pub raw-take : (n : ℕ) (ts is : List ℤ) (ps : List (List Float))
    → take n (raw_bars (raw_store ts is ps)) ≡ raw_bars (raw_store (take n ts) (take n is) (take n ps))
unfolding raw_bars
raw-take n ts is ps =
    sym (zip-take (λ f p. f p) n (zip_with bar_of ts is) ps) ∙ ap (λ (l : List (List Float → Bar)). zip_with (λ f p. f p) l (take n ps)) (sym (zip-take bar_of n ts is))

-- ---- the merged bars

is-merged-row : (t i : ℤ) (p : List Float) (n : ℕ) (e : List ℤ) → is_merged (with_first (bar_of t i p) n e) ≡ (in_time t && merged_row p)
unfolding is_merged question5 question6 question8 from_zero bar_of with_first in_time merged_row
is-merged-row t i p n e =
    let b = bar_of t i p in
    sym (and_assoc (question5 b) (question6 b) (question8 b && (from_zero b.vol && from_zero b.amount)))

pub data Rows : List ℤ → List ℤ → List (List Float) → List ℕ → List (List ℤ) → Type 0 where
  no_rows : Rows [] [] [] [] []
  next : {t i : ℤ} {p : List Float} {n : ℕ} {e : List ℤ} {ts is : List ℤ} {ps : List (List Float)} {cs : List ℕ} {es : List (List ℤ)} → Rows ts is ps cs es
      → Rows (t ∷ ts) (i ∷ is) (p ∷ ps) (n ∷ cs) (e ∷ es)

more : {ts is : List ℤ} {ps : List (List Float)} (cs : List ℕ) (es : List (List ℤ)) → RawRows ts is ps → length cs ≡ length ts → length es ≡ length ts → Rows ts is ps cs es
more [] [] no_row e f = no_rows
more [] (x ∷ es) no_row e f = absurd (omega arith)
more (n ∷ cs) es no_row e f = absurd (omega arith)
more [] es (row r) e f = absurd (omega arith)
more (n ∷ cs) [] (row r) e f = absurd (omega arith)
more (n ∷ cs) (x ∷ es) (row r) e f = next (more cs es r (omega arith) (omega arith))

pub rows_of : (ts is : List ℤ) (ps : List (List Float)) (cs : List ℕ) (es : List (List ℤ)) → length is ≡ length ts → length ps ≡ length ts
    → length cs ≡ length ts → length es ≡ length ts → Rows ts is ps cs es
rows_of ts is ps cs es a b c d = more cs es (raw-rows ts is ps a b) c d

pub merged-times : {ts is : List ℤ} {ps : List (List Float)} {cs : List ℕ} {es : List (List ℤ)} → Rows ts is ps cs es
    → merged_times (merged_bars (merged_store ts is ps cs es)) ≡ ts
unfolding merged_times merged_bars raw_bars zip_with bar_of with_first
merged-times no_rows = refl
merged-times (next {t = t} r) = ap (λ (l : List ℤ). t ∷ l) (merged-times r)

pub merged-every : {ts is : List ℤ} {ps : List (List Float)} {cs : List ℕ} {es : List (List ℤ)} → Rows ts is ps cs es
    → every is_merged (merged_bars (merged_store ts is ps cs es)) ≡ (every in_time ts && every merged_row ps)
unfolding merged_bars raw_bars zip_with every
merged-every no_rows = refl
merged-every (next {t = t} {i = i} {p = p} {n = n} {e = e} {ts = ts} {ps = ps} r) =
    (λ j. is-merged-row t i p n e j && merged-every r j) ∙ and_swap (in_time t) (merged_row p) (every in_time ts) (every merged_row ps)

pub merged-elements : {ts is : List ℤ} {ps : List (List Float)} {cs : List ℕ} {es : List (List ℤ)} → Rows ts is ps cs es
    → map (λ k. k.elements) (merged_bars (merged_store ts is ps cs es)) ≡ zip_with take cs es
unfolding merged_bars raw_bars zip_with with_first
merged-elements no_rows = refl
merged-elements (next {n = n} {e = e} r) = ap (λ (l : List (List ℤ)). take n e ∷ l) (merged-elements r)

pub merged-length : {ts is : List ℤ} {ps : List (List Float)} {cs : List ℕ} {es : List (List ℤ)} → Rows ts is ps cs es
    → length (merged_bars (merged_store ts is ps cs es)) ≡ length ts
unfolding merged_bars raw_bars zip_with
merged-length no_rows = refl
merged-length (next r) = ap suc (merged-length r)

-- ---- elements that name raw bars

names-times : (raw : List Bar) (t : ℤ) → names raw t ≡ is_time (bar_times raw) t
unfolding names is_time some_of bar_times
names-times [] t = refl
names-times (r ∷ raw) t = ap (λ (b : Bool). same_time r.time t || b) (names-times raw t)

every-same : {A : Type 0} (p q : A → Bool) (l : List A) → ((a : A) → p a ≡ q a) → every p l ≡ every q l
unfolding every
every-same p q [] h = refl
every-same p q (a ∷ l) h = λ j. h a j && every-same p q l h j

pub named-elements : (raw : List Bar) (l : List Merged) → every (is_named raw) l ≡ every (every (is_time (bar_times raw))) (map (λ k. k.elements) l)
unfolding every is_named
named-elements raw [] = refl
named-elements raw (k ∷ l) = λ j. every-same (names raw) (is_time (bar_times raw)) k.elements (names-times raw) j && named-elements raw l j

pub asked-drop : (l : List Merged) → asked l ≡ drop (skipped (length l)) l
unfolding asked skipped
asked-drop [] = refl
asked-drop (k ∷ []) = refl
asked-drop (a ∷ b ∷ l) = rw (lt-leb (suc (suc (length l))) 1 (omega arith))

-- ---- the newest raw bar

opt : {A B : Type 0} → (A → B) → Option A → Option B
opt f none = none
opt f (some a) = some (f a)

last-map : {A B : Type 0} (f : A → B) (l : List A) → last (map f l) ≡ opt f (last l)
unfolding last opt
last-map f [] = refl
last-map f (a ∷ []) = refl
last-map f (a ∷ b ∷ l) = last-map f (b ∷ l)

newest_by : (o : Option Bar) (k : Option Merged) (l : List Merged) → last l ≡ k → newest_in o l ≡ ends_in (opt (λ r. r.time) o) (opt (λ m. m.elements) k)
unfolding newest_in closes ends_in opt
newest_by none k l e = refl
newest_by (some r) none l e = rw e
newest_by (some r) (some k) l e = rw e

pub newest-elements : (raw : List Bar) (l : List Merged) → newest_in (last raw) l ≡ ends_in (last (bar_times raw)) (last (map (λ k. k.elements) l))
unfolding bar_times
newest-elements raw l =
    newest_by (last raw) (last l) l refl ∙ (λ j. ends_in (sym (last-map (λ r. r.time) raw) j) (sym (last-map (λ k. k.elements) l) j))

-- ---- parts of a store

pub merged-take : (n : ℕ) (s : MergedStore)
    → take n (merged_bars s) ≡ merged_bars (merged_store (take n s.times) (take n s.ids) (take n s.prices) (take n s.counts) (take n s.elements))
unfolding merged_bars
merged-take n s =
    let b = raw_bars (raw_store s.times s.ids s.prices) in
    sym (zip-take (λ f e. f e) n (zip_with with_first b s.counts) s.elements)
    ∙ ap (λ (l : List (List ℤ → Merged)). zip_with (λ f e. f e) l (take n s.elements)) (sym (zip-take with_first n b s.counts))
    ∙ ap (λ (l : List Bar). zip_with (λ f e. f e) (zip_with with_first l (take n s.counts)) (take n s.elements)) (raw-take n s.times s.ids s.prices)

raw-drop : (n : ℕ) (ts is : List ℤ) (ps : List (List Float)) → drop n (raw_bars (raw_store ts is ps)) ≡ raw_bars (raw_store (drop n ts) (drop n is) (drop n ps))
unfolding raw_bars
raw-drop n ts is ps =
    sym (zip-drop (λ f p. f p) n (zip_with bar_of ts is) ps) ∙ ap (λ (l : List (List Float → Bar)). zip_with (λ f p. f p) l (drop n ps)) (sym (zip-drop bar_of n ts is))

pub merged-drop : (n : ℕ) (s : MergedStore)
    → drop n (merged_bars s) ≡ merged_bars (merged_store (drop n s.times) (drop n s.ids) (drop n s.prices) (drop n s.counts) (drop n s.elements))
unfolding merged_bars
merged-drop n s =
    let b = raw_bars (raw_store s.times s.ids s.prices) in
    sym (zip-drop (λ f e. f e) n (zip_with with_first b s.counts) s.elements)
    ∙ ap (λ (l : List (List ℤ → Merged)). zip_with (λ f e. f e) l (drop n s.elements)) (sym (zip-drop with_first n b s.counts))
    ∙ ap (λ (l : List Bar). zip_with (λ f e. f e) (zip_with with_first l (drop n s.counts)) (drop n s.elements)) (raw-drop n s.times s.ids s.prices)

-- a stroke's merged bars but the first and the last
pub init-take : {A : Type 0} (l : List A) → init l ≡ take (length l - 1) l
unfolding init
init-take [] = refl
init-take (a ∷ []) = refl
init-take {A} (a ∷ b ∷ l) =
    let c : length (a ∷ b ∷ l) - 1 ≡ suc (length (b ∷ l) - 1) = omega arith in
    rw c (ap (λ (r : List A). a ∷ r) (init-take (b ∷ l)))

-- ---- the fractals

pub row-high : (p : List Float) → get_or (take 6 (drop (6 * 1) p)) 2 nan ≡ get_or p 8 nan
row-high p = get_or-take 6 (drop 6 p) 2 nan (omega arith) ∙ get_or-drop 6 p 2 nan

pub row_low : (p : List Float) → get_or (take 6 (drop (6 * 1) p)) 3 nan ≡ get_or p 9 nan
row_low p = get_or-take 6 (drop 6 p) 3 nan (omega arith) ∙ get_or-drop 6 p 3 nan

pub top_is : (t : List ℤ) (p : List Float) → is_top (row_bar t p 0).bar (row_bar t p 1).bar (row_bar t p 2).bar ≡ top_row p
unfolding is_top row_bar bar_of top_row
top_is t p =
    let a = get_or-take 6 p 2 nan (omega arith) in
    let b = get_or-take 6 p 3 nan (omega arith) in
    let c = get_or-take 6 (drop 12 p) 2 nan (omega arith) ∙ get_or-drop 12 p 2 nan in
    let d = get_or-take 6 (drop 12 p) 3 nan (omega arith) ∙ get_or-drop 12 p 3 nan in
    λ j. (lt (a j) (row-high p j) && lt (c j) (row-high p j)) && (lt (b j) (row_low p j) && lt (d j) (row_low p j))

pub fractal_middles : (fs : List (List ℤ)) (fp : List (List Float)) → length fp ≡ length fs → fractal_times (stored_fractals (fractal_store fs fp)) ≡ middle_times fs
unfolding fractal_times stored_fractals middle_times zip_with row_fractal fractal_of row_bar bar_of time_of
fractal_middles [] fp e = refl
fractal_middles (t ∷ fs) [] e = absurd (omega arith)
fractal_middles (t ∷ fs) (p ∷ fp) e = ap (λ (l : List ℤ). get_or t 1 (pos 0) ∷ l) (fractal_middles fs fp (omega arith))

-- the three bars of a fractal's row pass
fractal-row : (t : List ℤ) (p : List Float) → fractal_merged (row_fractal t p) ≡ (stamps_pass t && bars_pass p)
unfolding fractal_merged row_fractal fractal_of row_bar stamps_pass bars_pass with_first
fractal-row t p =
    let a = is-merged-row (get_or t 0 (pos 0)) (get_or t 3 (pos 0)) (take 6 p) 0 [] in
    let b = is-merged-row (get_or t 1 (pos 0)) (get_or t 4 (pos 0)) (take 6 (drop 6 p)) 0 [] in
    let c = is-merged-row (get_or t 2 (pos 0)) (get_or t 5 (pos 0)) (take 6 (drop 12 p)) 0 [] in
    (λ j. a j && (b j && c j))
    ∙ three (in_time (get_or t 0 (pos 0))) (in_time (get_or t 1 (pos 0))) (in_time (get_or t 2 (pos 0))) (merged_row (take 6 p)) (merged_row (take 6 (drop 6 p))) (merged_row (take 6 (drop 12 p)))
  where
    three : (a b c x y z : Bool) → ((a && x) && ((b && y) && (c && z))) ≡ ((a && (b && c)) && (x && (y && z)))
    three a b c x y z = ap (λ (u : Bool). (a && x) && u) (and_swap b y c z) ∙ and_swap a x (b && c) (y && z)

pub fractals-every : (fs : List (List ℤ)) (fp : List (List Float)) → length fp ≡ length fs
    → every fractal_merged (stored_fractals (fractal_store fs fp)) ≡ (every stamps_pass fs && every bars_pass fp)
unfolding stored_fractals zip_with every
fractals-every [] [] e = refl
fractals-every [] (p ∷ fp) e = absurd (omega arith)
fractals-every (t ∷ fs) [] e = absurd (omega arith)
fractals-every (t ∷ fs) (p ∷ fp) e =
    (λ j. fractal-row t p j && fractals-every fs fp (omega arith) j) ∙ and_swap (stamps_pass t) (bars_pass p) (every stamps_pass fs) (every bars_pass fp)
