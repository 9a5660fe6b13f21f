-- Each fractal of a list of bars is three of its neighbouring bars, and where times rise these are where the list is cut.
-- Assumes nothing.
use mathlib.Core.Path.{◌≡◌, refl, ap, sym, ◌∙◌, subst}
use mathlib.Core.Bool.{Bool, true, false, cond}
use mathlib.Core.List.{List, [], ◌∷◌, ◌++◌}
use mathlib.Core.Option.{Option, none, some, some-injective, none-ne-some}
use mathlib.Core.Logic.{◌⊎◌, inl, inr}
use lib.IntN.{ℤ}
use lib.Signed.{lt_z, le_z}
use lib.Dec.{T}
use Rattle.bars.specs.Lists.{All, keep_if}
use Rattle.bars.specs.Bars.{Merged}
use Rattle.machine.specs.declared.Mark.{Mark}
use Rattle.machine.specs.declared.Mark.TheVariants.{D, G}
use Rattle.machine.specs.Fractals.{Fractal, fx_of, time_of, is_top, is_bottom, check_fx, taken, push_if, pushed, fxs_after}
use Rattle.machine.specs.ByTime.{from}
use Rattle.machine.proofs.Facts.{shape, RisingFx}
use Rattle.machine.specs.Rising.{Rising}
use Rattle.arith.proofs.FloatOrder.{Number, lt-left, lt-right}
use Rattle.machine.proofs.Lists.{keep_yes, keep_none, All-map}
use Rattle.machine.proofs.MergingKeepsFractal.{top_of, bottom_of_lem}
use Rattle.bars.proofs.Times as times
use Rattle.machine.proofs.Places.{from_skip, from_stop}

-- f is the window a, b, c
pub record At (f : Fractal) (a b c : Merged) : Type 0 where
  pub left : a ≡ f.left
  pub mid : b ≡ f.mid
  pub right : c ≡ f.right
  pub shaped : T (shape f.mark a.bar b.bar c.bar)

-- f is a window of the list
abbrev pub Window : Fractal → List Merged → Type 0
Window f [] = ⊥
Window f (a ∷ []) = ⊥
Window f (a ∷ b ∷ []) = ⊥
Window f (a ∷ b ∷ c ∷ l) = At f a b c ⊎ Window f (b ∷ c ∷ l)

check_at : (t u : Bool) (a b c : Merged) (f : Fractal) → (T t → T (is_top a.bar b.bar c.bar)) → (T u → T (is_bottom a.bar b.bar c.bar))
    → cond t (some (record { mark = G; left = a; mid = b; right = c })) (cond u (some (record { mark = D; left = a; mid = b; right = c })) none) ≡ some f → At f a b c
unfolding shape
check_at true u a b c f h k e =
    let q : record { mark = G; left = a; mid = b; right = c } ≡ f = some-injective _ _ e in
    record { left = ap (λ z. z.left) q; mid = ap (λ z. z.mid) q; right = ap (λ z. z.right) q; shaped = subst (λ z. T (shape z.mark a.bar b.bar c.bar)) q (h tt) }
check_at false true a b c f h k e =
    let q : record { mark = D; left = a; mid = b; right = c } ≡ f = some-injective _ _ e in
    record { left = ap (λ z. z.left) q; mid = ap (λ z. z.mid) q; right = ap (λ z. z.right) q; shaped = subst (λ z. T (shape z.mark a.bar b.bar c.bar)) q (k tt) }
check_at false false a b c f h k e = absurd (none-ne-some f e)

pub check_fx-at : (a b c : Merged) (f : Fractal) → check_fx a b c ≡ some f → At f a b c
unfolding check_fx
check_fx-at a b c f e = check_at (is_top a.bar b.bar c.bar) (is_bottom a.bar b.bar c.bar) a b c f (λ t. t) (λ t. t) e

push_if-all : (P : Fractal → Type 0) (t : Bool) (f : Fractal) (p : Option Mark) (rest : Option Mark → List Fractal) → P f → ((q : Option Mark) → All P (rest q)) → All P (push_if t f p rest)
unfolding push_if
push_if-all P true f p rest h r = (h, r (some f.mark))
push_if-all P false f p rest h r = r p

pushed-all : (P : Fractal → Type 0) (p : Option Mark) (o : Option Fractal) (rest : Option Mark → List Fractal) → ((f : Fractal) → o ≡ some f → P f)
    → ((q : Option Mark) → All P (rest q)) → All P (pushed p o rest)
unfolding pushed
pushed-all P p none rest h r = r p
pushed-all P p (some f) rest h r = push_if-all P (taken p f.mark) f p rest (h f refl) r

-- each fractal of a list is a window of it
pub fxs_windows : (p : Option Mark) (l : List Merged) → All (λ f. Window f l) (fxs_after p l)
unfolding fxs_after
fxs_windows p [] = tt
fxs_windows p (a ∷ []) = tt
fxs_windows p (a ∷ b ∷ []) = tt
fxs_windows p (a ∷ b ∷ c ∷ l) =
    pushed-all (λ f. Window f (a ∷ b ∷ c ∷ l)) p (check_fx a b c) (λ q. fxs_after q (b ∷ c ∷ l)) (λ f e. inl (check_fx-at a b c f e))
    (λ q. All-map (fxs_after q (b ∷ c ∷ l)) (λ f w. inr w) (fxs_windows q (b ∷ c ∷ l)))

-- ---- what holds of all bars holds of a window's

pub window_left : (P : Merged → Type 0) (f : Fractal) (l : List Merged) → All P l → Window f l → P f.left
window_left P f [] a w = absurd w
window_left P f (x ∷ []) a w = absurd w
window_left P f (x ∷ y ∷ []) a w = absurd w
window_left P f (x ∷ y ∷ z ∷ l) a (inl w) = subst P w.left a.0
window_left P f (x ∷ y ∷ z ∷ l) a (inr w) = window_left P f (y ∷ z ∷ l) a.1 w

-- the middle of a window is none of the first bar
pub window_mid : (P : Merged → Type 0) (f : Fractal) (x : Merged) (l : List Merged) → All P l → Window f (x ∷ l) → P f.mid
window_mid P f x [] a w = absurd w
window_mid P f x (y ∷ []) a w = absurd w
window_mid P f x (y ∷ z ∷ l) a (inl w) = subst P w.mid a.0
window_mid P f x (y ∷ z ∷ l) a (inr w) = window_mid P f y (z ∷ l) a.1 w

pub window_right : (P : Merged → Type 0) (f : Fractal) (x : Merged) (l : List Merged) → All P l → Window f (x ∷ l) → P f.right
window_right P f x [] a w = absurd w
window_right P f x (y ∷ []) a w = absurd w
window_right P f x (y ∷ z ∷ l) a (inl w) = subst P w.right a.1.0
window_right P f x (y ∷ z ∷ l) a (inr w) = window_right P f y (z ∷ l) a.1 w

pub window_shaped : (f : Fractal) (l : List Merged) → Window f l → T (shape f.mark f.left.bar f.mid.bar f.right.bar)
window_shaped f [] w = absurd w
window_shaped f (x ∷ []) w = absurd w
window_shaped f (x ∷ y ∷ []) w = absurd w
window_shaped f (x ∷ y ∷ z ∷ l) (inl w) =
    subst (λ c. T (shape f.mark f.left.bar f.mid.bar c.bar)) w.right
    (subst (λ b. T (shape f.mark f.left.bar b.bar z.bar)) w.mid (subst (λ a. T (shape f.mark a.bar y.bar z.bar)) w.left w.shaped))
window_shaped f (x ∷ y ∷ z ∷ l) (inr w) = window_shaped f (y ∷ z ∷ l) w

-- a fractal's fx is a number
shape_number : (f : Fractal) (m : Mark) → f.mark ≡ m → T (shape m f.left.bar f.mid.bar f.right.bar) → Number (fx_of f)
unfolding shape fx_of
shape_number f D e h = rw e (lt-left f.mid.bar.low f.left.bar.low (bottom_of_lem f.left.bar f.mid.bar f.right.bar h).low-left)
shape_number f G e h = rw e (lt-right f.left.bar.high f.mid.bar.high (top_of f.left.bar f.mid.bar f.right.bar h).high-left)

pub window_number : (f : Fractal) (l : List Merged) → Window f l → Number (fx_of f)
window_number f l w = shape_number f f.mark refl (window_shaped f l w)

-- ---- where times rise, a window cuts the list

abbrev time : Merged → ℤ
time k = k.bar.time

pub record Cut (e : Fractal) (l : List Merged) : Type 0 where
  pub before : List Merged
  pub after : List Merged
  pub is : l ≡ before ++ e.left ∷ e.mid ∷ e.right ∷ after
  pub from-left : from (time e.left) l ≡ e.left ∷ e.mid ∷ e.right ∷ after
  pub from-mid : from (time e.mid) l ≡ e.mid ∷ e.right ∷ after
  pub up_to : keep_if (λ k. le_z (time k) (time e.right)) l ≡ before ++ e.left ∷ e.mid ∷ e.right ∷ []

cut-here : (e : Fractal) (l : List Merged) → Rising (e.left ∷ e.mid ∷ e.right ∷ l) → Cut e (e.left ∷ e.mid ∷ e.right ∷ l)
cut-here e l r =
    let p : Merged → Bool = λ k. le_z (time k) (time e.right) in
    record {
      before = [];
      after = l;
      is = refl;
      from-left = from_stop (time e.left) e.left (e.mid ∷ e.right ∷ l) (times.le_refl (time e.left));
      from-mid =
          from_skip (time e.mid) e.left (e.mid ∷ e.right ∷ l) r.0.0
          ∙ from_stop (time e.mid) e.mid (e.right ∷ l) (times.le_refl (time e.mid));
      up_to =
          keep_yes p e.left (e.mid ∷ e.right ∷ l) (times.lt-le (time e.left) (time e.right) r.0.1.0)
          ∙ ap (e.left ∷◌) (keep_yes p e.mid (e.right ∷ l) (times.lt-le (time e.mid) (time e.right) r.1.0.0)
          ∙ ap (e.mid ∷◌) (keep_yes p e.right l (times.le_refl (time e.right))
          ∙ ap (e.right ∷◌) (keep_none p l (All-map l (λ k h. times.lt_not_le (time k) (time e.right) h) r.1.1.0))));
    }

cut-there : (e : Fractal) (x : Merged) (l : List Merged) → T (lt_z (time x) (time e.left)) → T (lt_z (time x) (time e.mid)) → T (lt_z (time x) (time e.right)) → Cut e l → Cut e (x ∷ l)
cut-there e x l h k j c =
    record {
      before = x ∷ c.before;
      after = c.after;
      is = ap (x ∷◌) c.is;
      from-left = from_skip (time e.left) x l h ∙ c.from-left;
      from-mid = from_skip (time e.mid) x l k ∙ c.from-mid;
      up_to = keep_yes (λ k. le_z (time k) (time e.right)) x l (times.lt-le (time x) (time e.right) j) ∙ ap (x ∷◌) c.up_to;
    }

cut-at : (e : Fractal) (a b c : Merged) (l : List Merged) → At e a b c → Rising (a ∷ b ∷ c ∷ l) → Cut e (a ∷ b ∷ c ∷ l)
cut-at e a b c l w r =
    let same : a ∷ b ∷ c ∷ l ≡ e.left ∷ e.mid ∷ e.right ∷ l = λ i. w.left i ∷ w.mid i ∷ w.right i ∷ l in
    subst (Cut e) (sym same) (cut-here e l (subst Rising same r))

pub cut_window : (e : Fractal) (l : List Merged) → Rising l → Window e l → Cut e l
cut_window e [] r w = absurd w
cut_window e (a ∷ []) r w = absurd w
cut_window e (a ∷ b ∷ []) r w = absurd w
cut_window e (a ∷ b ∷ c ∷ l) r (inl w) = cut-at e a b c l w r
cut_window e (a ∷ b ∷ c ∷ l) r (inr w) =
    let P : Merged → Type 0 = λ k. T (lt_z (time a) (time k)) in
    cut-there e a (b ∷ c ∷ l) (window_left P e (b ∷ c ∷ l) r.0 w) (window_mid P e b (c ∷ l) r.0.1 w) (window_right P e b (c ∷ l) r.0.1 w)
    (cut_window e (b ∷ c ∷ l) r.1 w)

-- ---- the fractals' times

-- each fractal after x is centred on x's right bar or later
abbrev pub Spaced : List Fractal → Type 0
Spaced [] = Unit {0}
Spaced (x ∷ l) = All (λ y. T (le_z (time x.right) (time_of y))) l × Spaced l

-- the fractals of bars of which all but the first have P in their middles
fxs_mids : (P : Merged → Type 0) (p : Option Mark) (x : Merged) (l : List Merged) → All P l → All (λ f. P f.mid) (fxs_after p (x ∷ l))
fxs_mids P p x l a = All-map (fxs_after p (x ∷ l)) (λ f w. window_mid P f x l a w) (fxs_windows p (x ∷ l))

spaced_if : (t : Bool) (f : Fractal) (p : Option Mark) (rest : Option Mark → List Fractal) → ((q : Option Mark) → All (λ y. T (le_z (time f.right) (time_of y))) (rest q))
    → ((q : Option Mark) → Spaced (rest q)) → Spaced (push_if t f p rest)
unfolding push_if
spaced_if true f p rest h r = (h (some f.mark), r (some f.mark))
spaced_if false f p rest h r = r p

spaced_pushed : (p : Option Mark) (o : Option Fractal) (rest : Option Mark → List Fractal)
    → ((f : Fractal) → o ≡ some f → (q : Option Mark) → All (λ y. T (le_z (time f.right) (time_of y))) (rest q))
    → ((q : Option Mark) → Spaced (rest q)) → Spaced (pushed p o rest)
unfolding pushed
spaced_pushed p none rest h r = r p
spaced_pushed p (some f) rest h r = spaced_if (taken p f.mark) f p rest (h f refl) r

pub fxs_spaced : (p : Option Mark) (l : List Merged) → Rising l → Spaced (fxs_after p l)
unfolding fxs_after time_of
fxs_spaced p [] r = tt
fxs_spaced p (a ∷ []) r = tt
fxs_spaced p (a ∷ b ∷ []) r = tt
fxs_spaced p (a ∷ b ∷ c ∷ l) r =
    spaced_pushed p (check_fx a b c) (λ q. fxs_after q (b ∷ c ∷ l))
    (λ f e q.
    let w = check_fx-at a b c f e in
    subst (λ z. All (λ y. T (le_z (time z) (time_of y))) (fxs_after q (b ∷ c ∷ l))) w.right
    (fxs_mids (λ k. T (le_z (time c) (time k))) q b (c ∷ l) (times.le_refl (time c), All-map l (λ k h. times.lt-le (time c) (time k) h) r.1.1.0)))
    (λ q. fxs_spaced q (b ∷ c ∷ l) r.1)

-- the middle of a window is earlier than its right bar, and later than its left
pub window_rises : (f : Fractal) (l : List Merged) → Rising l → Window f l → T (lt_z (time f.left) (time f.mid)) × T (lt_z (time f.mid) (time f.right))
window_rises f [] r w = absurd w
window_rises f (a ∷ []) r w = absurd w
window_rises f (a ∷ b ∷ []) r w = absurd w
window_rises f (a ∷ b ∷ c ∷ l) r (inl w) =
    let same : a ∷ b ∷ c ∷ l ≡ f.left ∷ f.mid ∷ f.right ∷ l = λ i. w.left i ∷ w.mid i ∷ w.right i ∷ l in
    let q = subst Rising same r in
    (q.0.0, q.1.0.0)
window_rises f (a ∷ b ∷ c ∷ l) r (inr w) = window_rises f (b ∷ c ∷ l) r.1 w

pub spaced_rising : (fs : List Fractal) → All (λ f. T (lt_z (time f.mid) (time f.right))) fs → Spaced fs → RisingFx fs
unfolding time_of
spaced_rising [] a s = tt
spaced_rising (x ∷ fs) a s =
    (All-map fs (λ y h. times.lt-le_trans (time x.mid) (time x.right) (time y.mid) a.0 h) s.0, spaced_rising fs a.1 s.1)
