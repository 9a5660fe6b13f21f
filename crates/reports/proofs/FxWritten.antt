-- The output that the rows of the listed fractals are written to. Assumes nothing.
use Prim.Native.Nat.{ℕ, suc, ◌+◌, ◌<◌}
use native.Mathlib.Omega.{arith}
use mathlib.Core.Path.{◌≡◌, refl, ap, sym, ◌∙◌}
use mathlib.Core.List.{List, [], ◌∷◌, ◌++◌, map, append-nil}
use lib.ListN.{length, take, drop, set, take-append-drop}
use lib.Seq.{take-suc-set, drop-set-lt, append_snoc}
use lib.IntN.{ℤ}
use lib.Ieee.{Float}
use Rattle.machine.specs.Fractals.{Fractal}
use Rattle.strokes.specs.Lent.{FractalStore, fractal_store}
use Rattle.strokes.specs.FractalRows.{stamp_row, price_row, pasted, put_fractals}
use Rattle.reports.specs.declared.fx_list.FractalRows.{FractalRows}
use Rattle.reports.specs.Code.FxListing.{rows_of}

put_none : {A : Type 0} (d : List A) (c : ℕ) → d ≡ pasted d c []
unfolding pasted
put_none {A} d c =
    let e : c + 0 ≡ c = omega arith in
    sym ((λ i. append-nil (take c d) i ++ drop (e i) d) ∙ take-append-drop c d)

put_next : {A : Type 0} (d : List A) (c : ℕ) (r : A) (l : List A) → c < length d → pasted (set d c r) (c + 1) l ≡ pasted d c (r ∷ l)
unfolding pasted
put_next {A} d c r l h =
    let e : c + 1 ≡ suc c = omega arith in
    let n : c + 1 + length l ≡ c + suc (length l) = omega arith in
    let a : take (c + 1) (set d c r) ++ l ≡ take c d ++ r ∷ l = ap (λ (k : ℕ). take k (set d c r) ++ l) e ∙ ap (λ (x : List A). x ++ l) (take-suc-set d c r h) ∙ append_snoc (take c d) r l in
    let b : drop (c + 1 + length l) (set d c r) ≡ drop (c + suc (length l)) d = drop-set-lt (c + 1 + length l) d c r (omega arith) ∙ ap (λ (k : ℕ). drop k d) n in
    λ i. a i ++ b i

-- the output with these rows from place `at` on
abbrev pub put_rows : FractalStore → ℕ → List FractalRows → FractalStore
put_rows d at l = fractal_store (pasted d.stamps at (map (λ (r : FractalRows). r.stamps) l)) (pasted d.prices at (map (λ (r : FractalRows). r.prices) l))

pub put_end : (d : FractalStore) (at : ℕ) (l : List FractalRows) → l ≡ [] → put_rows d at l ≡ d
put_end d at l e = ap (put_rows d at) e ∙ (λ i. fractal_store (sym (put_none d.stamps at) i) (sym (put_none d.prices at) i))

pub put_on : (d : FractalStore) (at : ℕ) (r : FractalRows) (l m : List FractalRows) → l ≡ r ∷ m → at < length d.stamps → at < length d.prices
    → put_rows (fractal_store (set d.stamps at r.stamps) (set d.prices at r.prices)) (at + 1) m ≡ put_rows d at l
put_on d at r l m e h k =
    (λ i. fractal_store (put_next d.stamps at r.stamps (map (λ (x : FractalRows). x.stamps) m) h i) (put_next d.prices at r.prices (map (λ (x : FractalRows). x.prices) m) k i))
    ∙ ap (put_rows d at) (sym e)

-- the same where the place and the next one are known by equations
pub put_at : (d : FractalStore) (at j k : ℕ) (r : FractalRows) (l m : List FractalRows) → j ≡ at → k ≡ at + 1 → l ≡ r ∷ m → at < length d.stamps → at < length d.prices
    → put_rows (fractal_store (set d.stamps j r.stamps) (set d.prices j r.prices)) k m ≡ put_rows d at l
put_at d at j k r l m e f g h p =
    (λ i. put_rows (fractal_store (set d.stamps (e i) r.stamps) (set d.prices (e i) r.prices)) (f i) m) ∙ put_on d at r l m g h p

stamps_read : (l : List Fractal) → map (λ (r : FractalRows). r.stamps) (map rows_of l) ≡ map stamp_row l
unfolding rows_of
stamps_read [] = refl
stamps_read (f ∷ l) = ap (λ (x : List (List ℤ)). stamp_row f ∷ x) (stamps_read l)

prices_read : (l : List Fractal) → map (λ (r : FractalRows). r.prices) (map rows_of l) ≡ map price_row l
unfolding rows_of
prices_read [] = refl
prices_read (f ∷ l) = ap (λ (x : List (List Float)). price_row f ∷ x) (prices_read l)

-- they are those of the fractals
pub rows_put : (d : FractalStore) (l : List Fractal) → put_rows d 0 (map rows_of l) ≡ put_fractals d 0 l
unfolding put_fractals
rows_put d l = λ i. fractal_store (pasted d.stamps 0 (stamps_read l i)) (pasted d.prices 0 (prices_read l i))
