-- A window as the scan sees it: one that is no fractal, or once a fractal was taken no fractal of the other mark, leaves the scan as it is, and any other is taken.
-- Assumes nothing.
use mathlib.Core.Path.{◌≡◌, refl, ap, sym, ◌∙◌, subst}
use mathlib.Core.Bool.{Bool, true, false, ◌&&◌, ◌||◌}
use lib.Ieee.{Float, lt}
use lib.Dec.{T}
use Prim.Native.Nat.{ℕ}
use Rattle.std.specs.Prelude.{Option, Some, None}
use Rattle.std.proofs.lemmas.Bool.{false≢true}
use Rattle.arith.proofs.FloatOrder.{lt_asym}
use Rattle.machine.specs.declared.Mark.{Mark}
use Rattle.machine.specs.declared.Mark.TheVariants.{D, G}
use Rattle.machine.specs.Fractals.{same_mark}
use Rattle.check_bi.specs.declared.check_fx.Candle.{Candle}
use Rattle.check_bi.specs.declared.check_fx.Fx.{Fx}
use Rattle.check_bi.specs.declared.scan.Scan.{Scan}
use Rattle.check_bi.specs.Code.Scan.{top_of, bottom_of, fractal_of, mark_if, other_of, taken_of, fx_at, opened_of, put_of, take_on, take_if, take_of, step_if, step_of, last_mark}

-- a fractal is a top or a bottom, not both
not_both : (x y : Float) → lt x y ≡ true → lt y x ≡ false
not_both x y h = either (lt y x) (λ k. lt_asym x y (subst (λ (b : Bool). T b) (sym h) tt) k)
  where
    either : (b : Bool) → (T b → ⊥) → b ≡ false
    either true k = absurd (k tt)
    either false k = refl

third : (p q r o : Bool) → ((p && q) && (r && o)) ≡ true → r ≡ true
third p q true o h = refl
third true true false o h = h
third true false false o h = h
third false q false o h = h

no_top : (a b c : Candle) → bottom_of a b c ≡ true → top_of a b c ≡ false
unfolding bottom_of top_of
no_top a b c h =
    let r = third (lt b.low a.low) (lt b.low c.low) (lt b.high a.high) (lt b.high c.high) h in
    ap (λ (x : Bool). (x && lt c.high b.high) && (lt a.low b.low && lt c.low b.low)) (not_both b.high a.high r)

-- ---- a window that is passed over

none_by : (t u : Bool) (s : Option Scan) (i : ℕ) (b : Candle) → (t || u) ≡ false → s ≡ step_if t u s i b
unfolding step_if
none_by true u s i b h = absurd (false≢true (sym h))
none_by false true s i b h = absurd (false≢true (sym h))
none_by false false s i b h = refl

take_same : (s : Scan) (f : Fx) → same_mark s.last f.mark ≡ true → Some s ≡ take_of (Some s) f
unfolding take_of take_if
take_same s f h = ap (λ (m : Bool). Some (take_if m s f)) (sym h)

after_bottom : (u : Bool) (s : Scan) (i : ℕ) (b : Candle) → s.last ≡ D → Some s ≡ step_if false u (Some s) i b
unfolding step_if fx_at same_mark
after_bottom true s i b h = take_same s (fx_at i D b) (ap (λ (z : Mark). same_mark z D) h)
after_bottom false s i b h = refl

after_top : (t : Bool) (s : Scan) (i : ℕ) (b : Candle) → s.last ≡ G → Some s ≡ step_if t false (Some s) i b
unfolding step_if fx_at same_mark
after_top true s i b h = take_same s (fx_at i G b) (ap (λ (z : Mark). same_mark z G) h)
after_top false s i b h = refl

same_by : (k : Mark) (s : Scan) (i : ℕ) (a b c : Candle) → s.last ≡ k → other_of k a b c ≡ false → Some s ≡ step_of (Some s) i a b c
unfolding other_of step_of
same_by D s i a b c h e = after_bottom (bottom_of a b c) s i b h ∙ ap (λ (t : Bool). step_if t (bottom_of a b c) (Some s) i b) (sym e)
same_by G s i a b c h e = after_top (top_of a b c) s i b h ∙ ap (λ (u : Bool). step_if (top_of a b c) u (Some s) i b) (sym e)

pub step_passed : (s : Option Scan) (i : ℕ) (a b c : Candle) → taken_of (last_mark s) a b c ≡ false → s ≡ step_of s i a b c
unfolding taken_of fractal_of step_of
step_passed None i a b c h = none_by (top_of a b c) (bottom_of a b c) None i b h
step_passed (Some s) i a b c h = same_by s.last s i a b c refl h

-- ---- a window that is taken

first_by : (t u : Bool) (i : ℕ) (b : Candle) → (t || u) ≡ true → Some (opened_of (fx_at i (mark_if t) b)) ≡ step_if t u None i b
unfolding step_if mark_if take_of
first_by true u i b h = refl
first_by false true i b h = refl
first_by false false i b h = absurd (false≢true h)

put_as : (s : Scan) (f : Fx) → same_mark s.last f.mark ≡ false → Some (put_of s f) ≡ take_of (Some s) f
unfolding take_of take_if
put_as s f h = ap (λ (m : Bool). Some (take_if m s f)) (sym h)

up_by : (s : Scan) (u : Bool) (i : ℕ) (b : Candle) → s.last ≡ D → Some (put_of s (fx_at i (mark_if true) b)) ≡ step_if true u (Some s) i b
unfolding step_if mark_if fx_at same_mark
up_by s u i b h = put_as s (fx_at i G b) (ap (λ (z : Mark). same_mark z G) h)

down_by : (s : Scan) (i : ℕ) (b : Candle) → s.last ≡ G → Some (put_of s (fx_at i (mark_if false) b)) ≡ step_if false true (Some s) i b
unfolding step_if mark_if fx_at same_mark
down_by s i b h = put_as s (fx_at i D b) (ap (λ (z : Mark). same_mark z D) h)

-- by the mark of the last one: a top behind a bottom, a bottom behind a top
put_by : (k : Mark) (s : Scan) (i : ℕ) (a b c : Candle) → s.last ≡ k → other_of k a b c ≡ true
    → Some (put_of s (fx_at i (mark_if (top_of a b c)) b)) ≡ step_of (Some s) i a b c
unfolding other_of step_of
put_by D s i a b c h e =
    subst (λ (t : Bool). Some (put_of s (fx_at i (mark_if t) b)) ≡ step_if t (bottom_of a b c) (Some s) i b) (sym e) (up_by s (bottom_of a b c) i b h)
put_by G s i a b c h e =
    subst (λ (t : Bool). Some (put_of s (fx_at i (mark_if t) b)) ≡ step_if t (bottom_of a b c) (Some s) i b) (sym (no_top a b c e))
    (subst (λ (u : Bool). Some (put_of s (fx_at i (mark_if false) b)) ≡ step_if false u (Some s) i b) (sym e) (down_by s i b h))

pub step_taken : (s : Option Scan) (i : ℕ) (a b c : Candle) → taken_of (last_mark s) a b c ≡ true → Some (take_on s (fx_at i (mark_if (top_of a b c)) b)) ≡ step_of s i a b c
unfolding taken_of fractal_of step_of take_on
step_taken None i a b c h = first_by (top_of a b c) (bottom_of a b c) i b h
step_taken (Some s) i a b c h = put_by s.last s i a b c refl h

-- the last fractal is then the one that was taken
pub last_taken : (s : Option Scan) (f : Fx) → (take_on s f).last ≡ f.mark
unfolding take_on opened_of put_of
last_taken None f = refl
last_taken (Some s) f = refl
