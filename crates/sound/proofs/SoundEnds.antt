-- The fractals of a stroke read off their columns: marks that alternate, and ends that are held. Assumes nothing.
use Prim.Native.Nat.{ℕ, zero, suc, ◌-◌, ◌*◌, ◌/◌, ◌≤◌, ◌<◌}
use native.Mathlib.Omega.{arith}
use mathlib.Core.Path.{◌≡◌, refl, ap, sym, ◌∙◌}
use mathlib.Core.Bool.{Bool, true, false, ◌&&◌, ◌||◌, cond}
use mathlib.Core.List.{List, [], ◌∷◌, map}
use mathlib.Core.Option.{none, some}
use lib.ListN.{length, get_or}
use lib.IntN.{ℤ}
use lib.Signed.{le_z}
use lib.Dec.{T}
use lib.Ieee.{Float, eq}
use lib.Ieee.Fits.{and_l, and_r}
use Rattle.arith.proofs.FloatOrder.{eq-left, eq_refl, or_r}
use Rattle.bars.specs.Lists.{some_of}
use Rattle.stores.specs.Stores.{zip_with, bar_of}
use Rattle.stores.proofs.Columns.{zip-at, zip_length, zip-none}
use borrow.Author.Tests.{le-leb}
use Rattle.machine.specs.declared.Mark.{Mark}
use Rattle.machine.specs.declared.Mark.TheVariants.{D, G}
use Rattle.machine.specs.Fractals.{Fractal, time_of, fx_of, same_mark, taken}
use Rattle.strokes.specs.StateRead.{stored_fractals, row_bar, row_fractal, fractal_of, no_fractal}
use Rattle.strokes.specs.Lent.{fractal_store}
use Rattle.machine.specs.Soundness.{alternates, same_time, same_fractal}
use Rattle.sound.specs.Code.SoundStand.{top_row, differ, alternating, is_real, ends_held}
use Rattle.bars.proofs.Times.{le_refl}
use Rattle.arith.proofs.Tests.{pair, same, yes}
use Rattle.sound.proofs.SoundReads.{top_is, row-high, row_low}

-- ---- marks

mark_if : Bool → Mark
mark_if b = cond b G D

mark-is : (t : List ℤ) (p : List Float) → (row_fractal t p).mark ≡ mark_if (top_row p)
unfolding row_fractal fractal_of mark_if
mark-is t p = ap (λ (b : Bool). cond b G D) (top_is t p)

differ-is : (a b : Bool) → taken (some (mark_if a)) (mark_if b) ≡ differ a b
unfolding taken same_mark mark_if differ
differ-is true true = refl
differ-is true false = refl
differ-is false true = refl
differ-is false false = refl

alternates-after : (b : Bool) (fs : List (List ℤ)) (fp : List (List Float)) → length fp ≡ length fs
    → alternates (some (mark_if b)) (zip_with row_fractal fs fp) ≡ alternating (b ∷ map top_row fp)
unfolding alternates alternating zip_with
alternates-after b [] [] e = refl
alternates-after b [] (p ∷ fp) e = absurd (omega arith)
alternates-after b (t ∷ fs) [] e = absurd (omega arith)
alternates-after b (t ∷ fs) (p ∷ fp) e =
    ap (λ (m : Mark). taken (some (mark_if b)) m && alternates (some m) (zip_with row_fractal fs fp)) (mark-is t p)
    ∙ (λ j. differ-is b (top_row p) j && alternates-after (top_row p) fs fp (omega arith) j)

pub marks_are : (fs : List (List ℤ)) (fp : List (List Float)) → length fp ≡ length fs
    → alternates none (stored_fractals (fractal_store fs fp)) ≡ alternating (map top_row fp)
unfolding alternates alternating stored_fractals zip_with taken
marks_are [] [] e = refl
marks_are [] (p ∷ fp) e = absurd (omega arith)
marks_are (t ∷ fs) [] e = absurd (omega arith)
marks_are (t ∷ fs) (p ∷ fp) e =
    ap (λ (m : Mark). alternates (some m) (zip_with row_fractal fs fp)) (mark-is t p) ∙ alternates-after (top_row p) fs fp (omega arith)

-- ---- ends

-- high and low of a fractal's middle bar are numbers
real : Fractal → Bool
real f = eq f.mid.bar.high f.mid.bar.high && eq f.mid.bar.low f.mid.bar.low

self : (x y : Float) → T (eq x y) → T (eq x x)
self x y h = eq_refl x (eq-left x y h)

same_real : (f g : Fractal) → T (same_fractal f g) → T (real f)
unfolding same_fractal real
same_real f g h =
    let a = same_time (time_of f) (time_of g) && same_mark f.mark g.mark in
    let x = eq f.mid.bar.high g.mid.bar.high in
    let y = eq f.mid.bar.low g.mid.bar.low in
    let z = eq (fx_of f) (fx_of g) in
    let k = and_r a (x && (y && z)) h in
    pair (eq f.mid.bar.high f.mid.bar.high) (eq f.mid.bar.low f.mid.bar.low) (self f.mid.bar.high g.mid.bar.high (and_l x (y && z) k))
    (self f.mid.bar.low g.mid.bar.low (and_l y z (and_r x (y && z) k)))

same-mark : (m : Mark) → T (same_mark m m)
unfolding same_mark
same-mark D = tt
same-mark G = tt

same-fx : (m : Mark) (f : Fractal) → f.mark ≡ m → T (eq f.mid.bar.high f.mid.bar.high) → T (eq f.mid.bar.low f.mid.bar.low) → T (eq (fx_of f) (fx_of f))
unfolding fx_of
same-fx D f e h l = rw e l
same-fx G f e h l = rw e h

real_same : (f : Fractal) → T (real f) → T (same_fractal f f)
unfolding same_fractal real same_time
real_same f h =
    let x = eq f.mid.bar.high f.mid.bar.high in
    let y = eq f.mid.bar.low f.mid.bar.low in
    let z = eq (fx_of f) (fx_of f) in
    let t = le_z (time_of f) (time_of f) in
    let r = le_refl (time_of f) in
    let a = and_l x y h in
    let b = and_r x y h in
    pair ((t && t) && same_mark f.mark f.mark) (x && (y && z)) (pair (t && t) (same_mark f.mark f.mark) (pair t t r r) (same-mark f.mark))
    (pair x (y && z) a (pair y z b (same-fx f.mark f refl a b)))

either_of : (a b c : Bool) → (T a → T c) → (T b → T c) → T (a || b) → T c
either_of true b c f g h = f tt
either_of false b c f g h = g h

some_real : (f : Fractal) (l : List Fractal) → T (some_of (same_fractal f) l) → T (real f)
unfolding some_of
some_real f [] h = absurd h
some_real f (g ∷ l) h = either_of (same_fractal f g) (some_of (same_fractal f) l) (real f) (same_real f g) (some_real f l) h

some_at : {A : Type 0} (p : A → Bool) (l : List A) (i : ℕ) (z : A) → i < length l → T (p (get_or l i z)) → T (some_of p l)
unfolding some_of
some_at p [] i z h k = absurd (omega arith)
some_at p (a ∷ l) zero z h k = rw (yes (p a) k) tt
some_at p (a ∷ l) (suc i) z h k = or_r (p a) (some_of p l) (some_at p l i z (omega arith) k)

held_at : (l : List Fractal) (i : ℕ) (z : Fractal) → i < length l → some_of (same_fractal (get_or l i z)) l ≡ real (get_or l i z)
held_at l i z h =
    same (some_of (same_fractal (get_or l i z)) l) (real (get_or l i z)) (some_real (get_or l i z) l)
    (λ k. some_at (same_fractal (get_or l i z)) l i z h (real_same (get_or l i z) k))

real_row : (t : List ℤ) (p : List Float) → real (row_fractal t p) ≡ is_real p
unfolding real row_fractal fractal_of row_bar bar_of is_real
real_row t p = λ j. eq (row-high p j) (row-high p j) && eq (row_low p j) (row_low p j)

end-inside : (n : ℕ) → 1 ≤ n → 2 * (n / 2) - 1 < n
end-inside n h = omega arith

-- each end is one of the fractals
end_is : (fs : List (List ℤ)) (fp : List (List Float)) (i : ℕ) → length fp ≡ length fs → i < length fp
    → some_of (same_fractal (get_or (zip_with row_fractal fs fp) i no_fractal)) (zip_with row_fractal fs fp) ≡ is_real (get_or fp i [])
end_is fs fp i e h =
    held_at (zip_with row_fractal fs fp) i no_fractal (omega (arith, zip_length row_fractal fs fp (sym e)))
    ∙ ap real (zip-at row_fractal i fs fp [] [] no_fractal (omega arith) h) ∙ real_row (get_or fs i []) (get_or fp i [])

pub ends_are : (fs : List (List ℤ)) (fp : List (List Float)) → length fp ≡ length fs → 1 ≤ length fp
    → (some_of (same_fractal (get_or (stored_fractals (fractal_store fs fp)) 0 no_fractal)) (stored_fractals (fractal_store fs fp))
    && some_of (same_fractal (get_or (stored_fractals (fractal_store fs fp)) (2 * (length (stored_fractals (fractal_store fs fp)) / 2) - 1) no_fractal)) (stored_fractals (fractal_store fs fp))) ≡ ends_held fp
unfolding stored_fractals ends_held
ends_are fs fp e h =
    let n : length (zip_with row_fractal fs fp) ≡ length fp = zip_length row_fractal fs fp (sym e) ∙ sym e in
    rw (n, le-leb 1 (length fp) h) (λ j. end_is fs fp 0 e h j && end_is fs fp (2 * (length fp / 2) - 1) e (end-inside (length fp) h) j)

pub ends-none : (fs : List (List ℤ)) (fp : List (List Float)) (f g : Fractal) → length fp ≡ 0 → (some_of (same_fractal f) (stored_fractals (fractal_store fs fp)) && some_of (same_fractal g) (stored_fractals (fractal_store fs fp))) ≡ ends_held fp
unfolding stored_fractals ends_held some_of
ends-none fs [] f g e = rw (zip-none row_fractal fs)
ends-none fs (p ∷ fp) f g e = absurd (omega arith)
