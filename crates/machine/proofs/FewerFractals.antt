-- What the search by place finds, whatever the times of the bars: where a stroke lies, that it has fewer fractals than bars and four bars or more,
-- that its fractals alternate from its start to its end with at most one more, and that its end is the first most extreme candidate.
-- Assumes nothing.
use Prim.Native.Nat.{ℕ, zero, suc, ◌+◌, ◌-◌, ◌*◌, ◌/◌, ◌≤◌, ◌<◌}
use native.Mathlib.Omega.{arith}
use mathlib.Core.Path.{◌≡◌, refl, ap, sym, ◌∙◌, subst}
use mathlib.Core.Bool.{Bool, true, false, not, ◌&&◌, cond}
use mathlib.Core.List.{List, [], ◌∷◌, ◌++◌, map, map-append, append_assoc, nil≢cons, head-eq_of_cons-eq}
use mathlib.Core.Option.{Option, none, some, some-injective, none-ne-some}
use mathlib.Core.Logic.{◌⊎◌, inl, inr}
use lib.ListN.{length, take, drop, get_or, length-drop, length-map, length-append}
use lib.Seq.{length-take-le, get_or-append_seam}
use lib.Signed.{lt_z}
use lib.Dec.{T, leb, leb→le, le→leb, not_T}
use lib.Ieee.{Float, lt, eq}
use lib.Ieee.Fits.{and_l, and_r}
use Rattle.arith.proofs.FloatOrder.{Number, decide, contra, lt-left, lt-right, lt_trans, lt_split, lt_asym, not-lt, eq_sym, eq_not_lt}
use Rattle.bars.specs.declared.Bar.{Bar}
use Rattle.bars.specs.Bars.{Merged}
use Rattle.bars.specs.Lists.{All, keep_if}
use Rattle.machine.specs.declared.Mark.{Mark}
use Rattle.machine.specs.declared.Mark.TheVariants.{D, G}
use Rattle.machine.specs.Fractals.{Fractal, Placed, time_of, fx_of, same_mark, beyond, is_top, is_bottom, check_fx, taken, push_if, pushed, fxs_after, check_fxs, placed_if, placed_by, placed_after, placed_fxs}
use Rattle.machine.specs.Strokes.{Stroke, Found, candidate, best_if, best, end_of, start_best, holds, fits_min, stroke_at, made_at, found_to, found_in, check_bi, cut_to, cut}
use Rattle.machine.proofs.Lists.{keep_yes, keep_no, keep_none, All-map, All-zip, All-left, All-right, All_keep}
use Rattle.machine.proofs.Places.{fractal, placed_are, Stands, Ascend, next, placed-stand, placed_ascend, fits, ascend_weaken, ascend_from, Holds, end-all, start-all}
use Rattle.machine.proofs.Marks.{both_other, same_mark_refl}

-- ---- what check_bi finds

abbrev pub nothing_found : List Merged → Found
nothing_found l = record { stroke = none; rest = l }

abbrev pub candidate_at : Placed → Placed → Bool
candidate_at s f = candidate s.fractal f.fractal

pub record MadeFrom (minimum : ℕ) (l : List Merged) (f : Found) : Type 0 where
  pub start : Placed
  pub end : Placed
  pub others : List Placed
  -- the start is the first fractal, and the end the best of the candidates after it
  pub all : placed_fxs l ≡ start ∷ others
  pub chosen : end_of fractal (keep_if (candidate_at start) others) ≡ some end
  pub fits : T (fits_min minimum (stroke_at l (start ∷ others) start end))
  pub found : f ≡ record { stroke = some (stroke_at l (start ∷ others) start end); rest = drop end.place l }

pub not_itself : (s : Fractal) → T (not (candidate s s))
unfolding candidate
not_itself s = rw (same_mark_refl s.mark) tt

made_if_lem : (t : Bool) (l : List Merged) (e : Placed) (b : Stroke)
    → (made_at t l e b ≡ nothing_found l) ⊎ (T t × (made_at t l e b ≡ record { stroke = some b; rest = drop e.place l }))
unfolding made_at
made_if_lem true l e b = inr (tt, refl)
made_if_lem false l e b = inl refl

found_to_lem : (minimum : ℕ) (l : List Merged) (s : Placed) (fs : List Placed) (o : Option Placed) → placed_fxs l ≡ s ∷ fs
    → end_of fractal (keep_if (candidate_at s) fs) ≡ o → (found_to minimum l (s ∷ fs) s o ≡ nothing_found l) ⊎ MadeFrom minimum l (found_to minimum l (s ∷ fs) s o)
unfolding found_to
found_to_lem minimum l s fs none q h = inl refl
found_to_lem minimum l s fs (some e) q h =
    elim (made_if_lem (fits_min minimum (stroke_at l (s ∷ fs) s e)) l e (stroke_at l (s ∷ fs) s e)) [
      | inl k ↦ inl k
      | inr k ↦ inr (record { start = s; end = e; others = fs; all = q; chosen = h; fits = k.0; found = k.1 })
    ]

found_in_lem : (minimum : ℕ) (l : List Merged) (fs : List Placed) → placed_fxs l ≡ fs → (found_in minimum l fs ≡ nothing_found l) ⊎ MadeFrom minimum l (found_in minimum l fs)
unfolding found_in
found_in_lem minimum l [] q = inl refl
found_in_lem minimum l (s ∷ fs) q =
    found_to_lem minimum l s fs (end_of fractal (keep_if (candidate_at s) (s ∷ fs))) q (ap (end_of fractal) (sym (keep_no (candidate_at s) s fs (not_itself s.fractal))))

-- check_bi finds nothing, or makes a stroke
pub check_outcome : (minimum : ℕ) (l : List Merged) → (check_bi minimum l ≡ nothing_found l) ⊎ MadeFrom minimum l (check_bi minimum l)
unfolding check_bi
check_outcome minimum l = found_in_lem minimum l (placed_fxs l) refl

made_of_lem : (minimum : ℕ) (l : List Merged) (f : Found) (b : Stroke) → (f ≡ nothing_found l) ⊎ MadeFrom minimum l f → f.stroke ≡ some b → MadeFrom minimum l f
made_of_lem minimum l f b (inl h) e = absurd (none-ne-some b (sym (ap (λ z. z.stroke) h) ∙ e))
made_of_lem minimum l f b (inr h) e = h

-- ---- kept by place

-- of fractals whose places rise from lo on, no more than hi + 1 - lo are at hi or before
fewer_if_lem : (t : Bool) (lo hi i : ℕ) (f : Placed) (k : List Placed) → (T t → i ≤ hi) → lo ≤ i → length k ≤ hi + 1 - suc i → length (cond t (f ∷ k) k) ≤ hi + 1 - lo
fewer_if_lem true lo hi i f k y a h = omega (arith, y tt)
fewer_if_lem false lo hi i f k y a h = omega arith

pub kept-fewer : (lo hi n : ℕ) (fs : List Placed) → Ascend lo n fs → length (keep_if (λ f. leb f.place hi) fs) ≤ hi + 1 - lo
unfolding keep_if
kept-fewer lo hi n [] a = omega arith
kept-fewer lo hi n (f ∷ fs) a =
    fewer_if_lem (leb f.place hi) lo hi f.place f (keep_if (λ g. leb g.place hi) fs) (leb→le f.place hi) a.0 (kept-fewer (suc f.place) hi n fs a.2)

-- ---- membership

abbrev pub In : {A : Type 0} → A → List A → Type 0
In e [] = ⊥
In e (x ∷ l) = (x ≡ e) ⊎ In e l

pub in_all : {A : Type 0} (P : A → Type 0) (e : A) (l : List A) → All P l → In e l → P e
in_all P e [] a i = absurd i
in_all P e (x ∷ l) a (inl i) = subst P i a.0
in_all P e (x ∷ l) a (inr i) = in_all P e l a.1 i

pub all_in : {A : Type 0} (l : List A) → All (λ x. In x l) l
all_in [] = tt
all_in (x ∷ l) = (inl refl, All-map l (λ y i. inr i) (all_in l))

pub in_right : {A : Type 0} (e : A) (l r : List A) → In e r → In e (l ++ r)
in_right e [] r i = i
in_right e (x ∷ l) r i = inr (in_right e l r i)

pass_if_lem : {A : Type 0} (p : A → Bool) (t : Bool) (x : A) (k : List A) → (T t → T (p x)) → All (λ y. T (p y)) k → All (λ y. T (p y)) (cond t (x ∷ k) k)
pass_if_lem p true x k h a = (h tt, a)
pass_if_lem p false x k h a = a

pub keep_pass : {A : Type 0} (p : A → Bool) (l : List A) → All (λ y. T (p y)) (keep_if p l)
unfolding keep_if
keep_pass p [] = tt
keep_pass p (x ∷ l) = pass_if_lem p (p x) x (keep_if p l) (λ t. t) (keep_pass p l)

-- ---- the fractals kept up to one place after e's run to e, with at most one more

pub record Listed (e : Placed) (fs kept : List Placed) : Type 0 where
  pub before : List Placed
  pub more : List Placed
  pub rest : List Placed
  pub is : kept ≡ before ++ e ∷ more
  pub few : length more ≤ 1
  pub whole : fs ≡ before ++ e ∷ (more ++ rest)

module _ (hi n : ℕ) where
  abbrev up_to : Placed → Bool
  up_to f = leb f.place hi

  no_more : (f : Placed) → hi < f.place → T (not (up_to f))
  no_more f h = elim (decide (up_to f)) [ inl y ↦ absurd (omega (arith, leb→le f.place hi y)) | inr k ↦ k ]

  none-later : (lo : ℕ) (fs : List Placed) → hi < lo → Ascend lo n fs → keep_if up_to fs ≡ []
  none-later lo fs h a = keep_none up_to fs (All-map fs (λ f k. no_more f (omega (arith, k))) (ascend_from lo n fs a))

  -- what is kept of the fractals at hi or later
  record Few (fs kept : List Placed) : Type 0 where
    more : List Placed
    rest : List Placed
    is : kept ≡ more
    few : length more ≤ 1
    whole : fs ≡ more ++ rest

  few_if : (f : Placed) (fs : List Placed) → T (up_to f) ⊎ T (not (up_to f)) → keep_if up_to fs ≡ [] → Few (f ∷ fs) (keep_if up_to (f ∷ fs))
  few_if f fs (inl y) e = record { more = f ∷ []; rest = fs; is = keep_yes up_to f fs y ∙ ap (f ∷◌) e; few = omega arith; whole = refl }
  few_if f fs (inr k) e = record { more = []; rest = f ∷ fs; is = keep_no up_to f fs k ∙ e; few = omega arith; whole = refl }

  few-after : (fs : List Placed) → Ascend hi n fs → Few fs (keep_if up_to fs)
  unfolding keep_if
  few-after [] a = record { more = []; rest = []; is = refl; few = omega arith; whole = refl }
  few-after (f ∷ fs) a = few_if f fs (decide (up_to f)) (none-later (suc f.place) fs (omega (arith, a.0)) a.2)

  listed_here : (e : Placed) (fs : List Placed) → e.place + 1 ≡ hi → Ascend (suc e.place) n fs → Listed e (e ∷ fs) (keep_if up_to (e ∷ fs))
  listed_here e fs h a =
      let f = few-after fs (ascend_weaken (suc e.place) hi n fs (omega arith) a) in
      record {
        before = [];
        more = f.more;
        rest = f.rest;
        is = keep_yes up_to e fs (le→leb e.place hi (omega arith)) ∙ ap (e ∷◌) f.is;
        few = f.few;
        whole = ap (e ∷◌) f.whole;
      }

  pub listed : (e : Placed) (lo : ℕ) (fs : List Placed) → e.place + 1 ≡ hi → Ascend lo n fs → In e fs → Listed e fs (keep_if up_to fs)
  listed e lo [] h a i = absurd i
  listed e lo (f ∷ fs) h a (inl i) =
      subst (λ z. Listed e (z ∷ fs) (keep_if up_to (z ∷ fs))) (sym i) (listed_here e fs h (subst (λ (z : Placed). Ascend (suc z.place) n fs) i a.2))
  listed e lo (f ∷ fs) h a (inr i) =
      let t = listed e (suc f.place) fs h a.2 i in
      let k = in_all (λ (z : Placed). suc f.place ≤ z.place) e fs (ascend_from (suc f.place) n fs a.2) i in
      record {
        before = f ∷ t.before;
        more = t.more;
        rest = t.rest;
        is = keep_yes up_to f fs (le→leb f.place hi (omega (arith, k))) ∙ ap (f ∷◌) t.is;
        few = t.few;
        whole = ap (f ∷◌) t.whole;
      }

-- ---- fractals alternate

-- each has another mark than the one before, the first than p
abbrev pub Alternate : Option Mark → List Fractal → Type 0
Alternate p [] = Unit {0}
Alternate p (f ∷ l) = T (taken p f.mark) × Alternate (some f.mark) l

alternate_if : (t : Bool) (f : Fractal) (p : Option Mark) (rest : Option Mark → List Fractal) → (T t → T (taken p f.mark))
    → ((q : Option Mark) → Alternate q (rest q)) → Alternate p (push_if t f p rest)
unfolding push_if
alternate_if true f p rest h r = (h tt, r (some f.mark))
alternate_if false f p rest h r = r p

alternate_by : (p : Option Mark) (o : Option Fractal) (rest : Option Mark → List Fractal) → ((q : Option Mark) → Alternate q (rest q)) → Alternate p (pushed p o rest)
unfolding pushed
alternate_by p none rest r = r p
alternate_by p (some f) rest r = alternate_if (taken p f.mark) f p rest (λ t. t) r

pub fractals_alternate : (p : Option Mark) (l : List Merged) → Alternate p (fxs_after p l)
unfolding fxs_after
fractals_alternate p [] = tt
fractals_alternate p (a ∷ []) = tt
fractals_alternate p (a ∷ b ∷ []) = tt
fractals_alternate p (a ∷ b ∷ c ∷ l) = alternate_by p (check_fx a b c) (λ q. fxs_after q (b ∷ c ∷ l)) (λ q. fractals_alternate q (b ∷ c ∷ l))

pub alternate_front : (p : Option Mark) (l r : List Fractal) → Alternate p (l ++ r) → Alternate p l
alternate_front p [] r a = tt
alternate_front p (x ∷ l) r a = (a.0, alternate_front (some x.mark) l r a.1)

-- ---- fx of a fractal is a number

number_if : (t u : Bool) (a b c : Merged) (f : Fractal) → (T t → Number b.bar.high) → (T u → Number b.bar.low)
    → cond t (some (record { mark = G; left = a; mid = b; right = c })) (cond u (some (record { mark = D; left = a; mid = b; right = c })) none) ≡ some f → Number (fx_of f)
unfolding fx_of
number_if true u a b c f h k e =
    let q : record { mark = G; left = a; mid = b; right = c } ≡ f = some-injective _ _ e in
    subst (λ z. Number (fx_of z)) q (h tt)
number_if false true a b c f h k e =
    let q : record { mark = D; left = a; mid = b; right = c } ≡ f = some-injective _ _ e in
    subst (λ z. Number (fx_of z)) q (k tt)
number_if false false a b c f h k e = absurd (none-ne-some f e)

top_number : (a b c : Bar) → T (is_top a b c) → Number b.high
unfolding is_top
top_number a b c h =
    lt-right a.high b.high
    (and_l (lt a.high b.high) (lt c.high b.high) (and_l (lt a.high b.high && lt c.high b.high) (lt a.low b.low && lt c.low b.low) h))

bottom_number : (a b c : Bar) → T (is_bottom a b c) → Number b.low
unfolding is_bottom
bottom_number a b c h =
    lt-left b.low a.low
    (and_l (lt b.low a.low) (lt b.low c.low) (and_l (lt b.low a.low && lt b.low c.low) (lt b.high a.high && lt b.high c.high) h))

pub check_number : (a b c : Merged) (f : Fractal) → check_fx a b c ≡ some f → Number (fx_of f)
unfolding check_fx
check_number a b c f e =
    number_if (is_top a.bar b.bar c.bar) (is_bottom a.bar b.bar c.bar) a b c f (top_number a.bar b.bar c.bar) (bottom_number a.bar b.bar c.bar) e

pub stands-number : (l : List Merged) (f : Placed) → Stands l f → Number (fx_of f.fractal)
stands-number l f F = check_number f.fractal.left f.fractal.mid f.fractal.right f.fractal F.shown

-- ---- `beyond` is a strict order, for either mark

pub beyond_trans : (m : Mark) (a b c : Float) → T (beyond m a b) → T (beyond m b c) → T (beyond m a c)
unfolding beyond
beyond_trans D a b c h k = lt_trans a b c h k
beyond_trans G a b c h k = lt_trans c b a k h

-- a is beyond c, and so beyond every number b that is not
pub beyond-all : (m : Mark) (a b c : Float) → Number b → T (beyond m a c) → T (not (beyond m b c)) → T (beyond m a b)
unfolding beyond
beyond-all D a b c n h k = elim (lt_split a b c n h) [ inl y ↦ y | inr y ↦ contra (lt b c) y k ]
beyond-all G a b c n h k = elim (lt_split c b a n h) [ inl y ↦ contra (lt c b) y k | inr y ↦ y ]

-- a number b that is not beyond a is less extreme or equal
pub beyond-or-eq : (m : Mark) (a b : Float) → Number a → Number b → T (not (beyond m b a)) → T (beyond m a b) ⊎ T (eq a b)
unfolding beyond
beyond-or-eq D a b n o h = elim (not-lt b a o n h) [ inl y ↦ inl y | inr y ↦ inr (eq_sym b a y) ]
beyond-or-eq G a b n o h = not-lt a b n o h

-- ---- the first most extreme of a list of fractals of one mark

-- e is in the list, beyond all before it, and none after it is beyond e
abbrev pub FirstMost : {A : Type 0} → (A → Fractal) → Mark → A → List A → Type 0
FirstMost at m e [] = ⊥
FirstMost at m e (x ∷ l) =
    ((x ≡ e) × All (λ y. T (not (beyond m (fx_of (at y)) (fx_of (at e))))) l) ⊎ (T (beyond m (fx_of (at e)) (fx_of (at x))) × FirstMost at m e l)

-- a fractal of mark m whose fx is a number
pub record Of (m : Mark) (x : Fractal) : Type 0 where
  pub marked : x.mark ≡ m
  pub number : Number (fx_of x)

module _ {A : Type 0} (at : A → Fractal) (m : Mark) where
  abbrev fx : A → Float
  fx a = fx_of (at a)

  new_most : (e b f : A) (l : List A) → T (beyond m (fx f) (fx b)) → FirstMost at m e (f ∷ l) → FirstMost at m e (b ∷ f ∷ l)
  new_most e b f l h (inl k) = inr (subst (λ z. T (beyond m (fx z) (fx b))) k.0 h, inl k)
  new_most e b f l h (inr k) = inr (beyond_trans m (fx e) (fx f) (fx b) k.0 h, inr k)

  old_most : (e b f : A) (l : List A) → Number (fx f) → T (not (beyond m (fx f) (fx b))) → FirstMost at m e (b ∷ l) → FirstMost at m e (b ∷ f ∷ l)
  old_most e b f l n h (inl k) = inl (k.0, (subst (λ z. T (not (beyond m (fx f) (fx z)))) k.0 h, k.1))
  old_most e b f l n h (inr k) = inr (k.0, inr (beyond-all m (fx e) (fx f) (fx b) n k.0 h, k.1))

  next-most : (t : Bool) (b f : A) (l : List A) → Number (fx f) → (T t → T (beyond m (fx f) (fx b))) → (T (not t) → T (not (beyond m (fx f) (fx b))))
      → FirstMost at m (best at b l) (b ∷ l) → FirstMost at m (best at f l) (f ∷ l) → FirstMost at m (best at (best_if t f b) l) (b ∷ f ∷ l)
  unfolding best_if
  next-most true b f l n h k old new = new_most (best at f l) b f l (h tt) new
  next-most false b f l n h k old new = old_most (best at b l) b f l n (k tt) old

  pub best-first : (b : A) (l : List A) → Of m (at b) → All (λ x. Of m (at x)) l → FirstMost at m (best at b l) (b ∷ l)
  unfolding best
  best-first b [] c a = inl (refl, tt)
  best-first b (f ∷ l) c a =
      next-most (beyond (at f).mark (fx f) (fx b)) b f l a.0.number
      (λ t. subst (λ z. T (beyond z (fx f) (fx b))) a.0.marked t)
      (λ t. subst (λ z. T (not (beyond z (fx f) (fx b)))) a.0.marked t)
      (best-first b l c a.1)
      (best-first f l a.0 a.1)

-- ---- the end is the first most extreme candidate

pub candidate_other : (s x : Fractal) → T (candidate s x) → T (not (same_mark s.mark x.mark))
unfolding candidate
candidate_other s x h = and_l (not (same_mark s.mark x.mark)) (lt_z (time_of s) (time_of x) && beyond x.mark (fx_of x) (fx_of s)) h

pub end-first : (s : Placed) (c : List Placed) (e : Placed) → All (λ y. T (candidate_at s y)) c → All (λ y. Number (fx_of y.fractal)) c → end_of fractal c ≡ some e
    → FirstMost fractal e.fractal.mark e c
unfolding end_of
end-first s [] e a n q = absurd (none-ne-some e q)
end-first s (f ∷ l) e a n q =
    let b : best fractal f l ≡ e = some-injective (best fractal f l) e q in
    let other = candidate_other s.fractal f.fractal a.0 in
    let C : All (λ y. Of f.fractal.mark y.fractal) (f ∷ l) =
    All-zip (f ∷ l) (λ y h k. record { marked = both_other s.fractal.mark f.fractal.mark y.fractal.mark other (candidate_other s.fractal y.fractal h); number = k }) a n in
    let E : Of f.fractal.mark e.fractal = subst (λ (o : Option Placed). Holds (λ y. Of f.fractal.mark y.fractal) o) q (end-all (λ y. Of f.fractal.mark y.fractal) fractal (f ∷ l) C) in
    subst (λ m. FirstMost fractal m e (f ∷ l)) (sym E.marked) (subst (λ z. FirstMost fractal f.fractal.mark z (f ∷ l)) b (best-first fractal f.fractal.mark f l C.0 C.1))

-- x is e, or less extreme, or equally extreme and at a later place
abbrev pub LessAt : Placed → Placed → Type 0
LessAt e x =
    (x ≡ e) ⊎ (T (beyond e.fractal.mark (fx_of e.fractal) (fx_of x.fractal)) ⊎ (T (eq (fx_of e.fractal) (fx_of x.fractal)) × e.place < x.place))

module _ (e : Placed) (p : Placed → Bool) (n : ℕ) (here : Number (fx_of e.fractal)) where
  abbrev m : Mark
  m = e.fractal.mark

  after_if : (t : Bool) (x : Placed) (l : List Placed) → (T (p x) → T t) → Number (fx_of x.fractal) → e.place < x.place
      → All (λ y. T (not (beyond m (fx_of y.fractal) (fx_of e.fractal)))) (cond t (x ∷ keep_if p l) (keep_if p l))
      → (T (p x) → LessAt e x) × All (λ y. T (not (beyond m (fx_of y.fractal) (fx_of e.fractal)))) (keep_if p l)
  after_if true x l h k later a =
      (λ y. elim (beyond-or-eq m (fx_of e.fractal) (fx_of x.fractal) here k a.0) [ inl b ↦ inr (inl b) | inr q ↦ inr (inr (q, later)) ], a.1)
  after_if false x l h k later a = (λ y. absurd (h y), a)

  after-all : (lo : ℕ) (l : List Placed) → e.place < lo → Ascend lo n l → All (λ y. Number (fx_of y.fractal)) l
      → All (λ y. T (not (beyond m (fx_of y.fractal) (fx_of e.fractal)))) (keep_if p l) → All (λ x. T (p x) → LessAt e x) l
  unfolding keep_if
  after-all lo [] h a k f = tt
  after-all lo (x ∷ l) h a k f =
      let q = after_if (p x) x l (λ t. t) k.0 (omega (arith, a.0)) f in
      (q.0, after-all (suc x.place) l (omega (arith, a.0)) a.2 k.1 q.1)

  among_if : (t : Bool) (x : Placed) (l : List Placed) → (T (p x) → T t) → Ascend (suc x.place) n l → All (λ y. Number (fx_of y.fractal)) l
      → FirstMost fractal m e (cond t (x ∷ keep_if p l) (keep_if p l))
      → (FirstMost fractal m e (keep_if p l) → All (λ y. T (p y) → LessAt e y) l) → All (λ y. T (p y) → LessAt e y) (x ∷ l)
  among_if true x l h a k (inl f) r =
      (λ y. inl f.0, after-all (suc x.place) l (subst (λ (z : Placed). z.place < suc x.place) f.0 (omega arith)) a k f.1)
  among_if true x l h a k (inr f) r = (λ y. inr (inl f.0), r f.1)
  among_if false x l h a k f r = (λ y. absurd (h y), r f)

  pub among : (lo : ℕ) (l : List Placed) → Ascend lo n l → All (λ y. Number (fx_of y.fractal)) l → FirstMost fractal m e (keep_if p l) → All (λ x. T (p x) → LessAt e x) l
  unfolding keep_if
  among lo [] a k f = tt
  among lo (x ∷ l) a k f = among_if (p x) x l (λ t. t) a.2 k.1 f (among (suc x.place) l a.2 k.1)

-- ---- before and after the end

eq-not-beyond : (m : Mark) (a b : Float) → T (eq a b) → T (beyond m b a) → ⊥
unfolding beyond
eq-not-beyond D a b h k = eq_not_lt a b h k
eq-not-beyond G a b h k = eq_not_lt b a (eq_sym a b h) k

beyond_asym : (m : Mark) (a b : Float) → T (beyond m a b) → T (beyond m b a) → ⊥
unfolding beyond
beyond_asym D a b h k = lt_asym a b h k
beyond_asym G a b h k = lt_asym b a h k

less-before : (e x : Placed) → x.place < e.place → LessAt e x → T (beyond e.fractal.mark (fx_of e.fractal) (fx_of x.fractal))
less-before e x h (inl q) = absurd (omega (arith, ap (λ (z : Placed). z.place) q))
less-before e x h (inr (inl b)) = b
less-before e x h (inr (inr q)) = absurd (omega (arith, q.1))

less-after : (e x : Placed) → e.place < x.place → LessAt e x → T (not (beyond e.fractal.mark (fx_of x.fractal) (fx_of e.fractal)))
less-after e x h (inl q) = absurd (omega (arith, ap (λ (z : Placed). z.place) q))
less-after e x h (inr (inl b)) = not_T (beyond e.fractal.mark (fx_of x.fractal) (fx_of e.fractal)) (beyond_asym e.fractal.mark (fx_of e.fractal) (fx_of x.fractal) b)
less-after e x h (inr (inr q)) = not_T (beyond e.fractal.mark (fx_of x.fractal) (fx_of e.fractal)) (eq-not-beyond e.fractal.mark (fx_of e.fractal) (fx_of x.fractal) q.0)

-- in a list whose places rise, those before e are at earlier places and those after it at later ones
pub ascend_before : (e : Placed) (lo n : ℕ) (l r : List Placed) → Ascend lo n (l ++ e ∷ r) → All (λ x. x.place < e.place) l
ascend_before e lo n [] r a = tt
ascend_before e lo n (x ∷ l) r a =
    (in_all (λ (z : Placed). suc x.place ≤ z.place) e (l ++ e ∷ r) (ascend_from (suc x.place) n (l ++ e ∷ r) a.2) (in_right e l (e ∷ r) (inl refl)), ascend_before e (suc x.place) n l r a.2)

pub ascend_after : (e : Placed) (lo n : ℕ) (l r : List Placed) → Ascend lo n (l ++ e ∷ r) → All (λ x. e.place < x.place) r
ascend_after e lo n [] r a = ascend_from (suc e.place) n r a.2
ascend_after e lo n (x ∷ l) r a = ascend_after e (suc x.place) n l r a.2

pub All_read : {A B : Type 0} (g : A → B) (P : B → Type 0) (l : List A) → All (λ a. P (g a)) l → All P (map g l)
All_read g P [] h = tt
All_read g P (a ∷ l) h = (h.0, All_read g P l h.1)

-- ---- a stroke that is found, whatever the times

pub record StrokeFound (minimum : ℕ) (l : List Merged) (b : Stroke) (rest : List Merged) : Type 0 where
  -- the places of the first bars of its ends
  pub from : ℕ
  pub to : ℕ
  pub order : from < to
  pub inside : to + 2 < length l
  -- its bars, and those that are left
  pub bars : b.bars ≡ take (to + 3 - from) (drop from l)
  pub left : rest ≡ drop to l
  pub count : length b.bars ≡ to + 3 - from
  pub shared : length rest + length b.bars ≡ length (drop from l) + 3
  pub four : 4 ≤ length b.bars
  pub enough : minimum ≤ length b.bars
  pub apart : T (not (holds b.start.mid.bar b.end.mid.bar))
  -- its fractals, among all of the bars
  pub fewer : length b.fractals < length b.bars
  pub inner : List Fractal
  pub more : List Fractal
  pub later : List Fractal
  pub all : check_fxs l ≡ b.start ∷ inner ++ b.end ∷ (more ++ later)
  pub listed : b.fractals ≡ b.start ∷ inner ++ b.end ∷ more
  pub few : length more ≤ 1
  pub alternate : Alternate none b.fractals
  -- its end is a candidate, beyond each one before it, and none after it is beyond it
  pub candidate' : T (candidate b.start b.end)
  pub before : All (λ x. T (candidate b.start x) → T (beyond b.end.mark (fx_of b.end) (fx_of x))) inner
  pub behind : All (λ x. T (candidate b.start x) → T (not (beyond b.end.mark (fx_of x) (fx_of b.end)))) (more ++ later)

module _ (minimum : ℕ) (l : List Merged) (f : Found) (made : MadeFrom minimum l f) where
  abbrev s : Placed
  s = made.start

  abbrev e : Placed
  e = made.end

  abbrev fs : List Placed
  fs = made.others

  abbrev b : Stroke
  b = stroke_at l (s ∷ fs) s e

  stands : All (Stands l) (s ∷ fs)
  unfolding placed_fxs
  stands = subst (All (Stands l)) made.all (placed-stand l none 0 l refl)

  pub ascends : Ascend 0 (length l) (s ∷ fs)
  unfolding placed_fxs
  ascends = subst (Ascend 0 (length l)) made.all (placed_ascend l none 0 l refl)

  -- what holds of all fractals after the start holds of the end
  of_end : (P : Placed → Type 0) → All P (keep_if (candidate_at s) fs) → P e
  of_end P a = subst (Holds P) made.chosen (end-all P fractal (keep_if (candidate_at s) fs) a)

  pub end-candidate : T (candidate_at s e)
  end-candidate = of_end (λ x. T (candidate_at s x)) (keep_pass (candidate_at s) fs)

  pub end_in : In e fs
  end_in = of_end (λ x. In x fs) (All_keep (λ x. In x fs) (candidate_at s) fs (all_in fs))

  pub end-stands : Stands l e
  end-stands = in_all (Stands l) e fs stands.1 end_in

  pub order : s.place < e.place
  order = in_all (λ (x : Placed). suc s.place ≤ x.place) e fs (ascend_from (suc s.place) (length l) fs ascends.2) end_in

  numbers : All (λ x. Number (fx_of x.fractal)) fs
  numbers = All-map fs (λ x F. stands-number l x F) stands.1

  pub end-most : FirstMost fractal e.fractal.mark e (keep_if (candidate_at s) fs)
  end-most =
      end-first s (keep_if (candidate_at s) fs) e (keep_pass (candidate_at s) fs) (All_keep (λ x. Number (fx_of x.fractal)) (candidate_at s) fs numbers) made.chosen

  -- every candidate is the end, or less extreme, or equally extreme and at a later place
  pub end-least : All (λ x. T (candidate_at s x) → LessAt e x) fs
  end-least = among e (candidate_at s) (length l) (stands-number l e end-stands) (suc s.place) fs ascends.2 numbers end-most

  pub parts : Listed e fs (keep_if (λ x. leb x.place (e.place + 1)) fs)
  parts = listed (e.place + 1) (length l) e (suc s.place) fs refl ascends.2 end_in

  inside : e.place + 2 < length l
  inside = fits l e.place e.fractal.left e.fractal.mid e.fractal.right end-stands.after end-stands.is

  bar-count : length (take (e.place + 3 - s.place) (drop s.place l)) ≡ e.place + 3 - s.place
  bar-count = length-take-le (e.place + 3 - s.place) (drop s.place l) (omega (arith, length-drop s.place l, inside))

  abbrev kept : List Placed
  kept = keep_if (λ x. leb x.place (e.place + 1)) (s ∷ fs)

  kept-is : kept ≡ s ∷ parts.before ++ e ∷ parts.more
  kept-is = keep_yes (λ x. leb x.place (e.place + 1)) s fs (le→leb s.place (e.place + 1) (omega (arith, order))) ∙ ap (s ∷◌) parts.is

  kept-count : length (map fractal kept) ≤ e.place + 2 - s.place
  kept-count =
      omega (arith, length-map kept fractal, kept-fewer s.place (e.place + 1) (length l) (s ∷ fs) (omega arith, ascends.1, ascends.2))

  read_two : (x y : List Placed) → map fractal (x ++ e ∷ y) ≡ map fractal x ++ e.fractal ∷ map fractal y
  read_two x y = map-append fractal x (e ∷ y)

  fractals_are : map fractal kept ≡ s.fractal ∷ map fractal parts.before ++ e.fractal ∷ map fractal parts.more
  fractals_are = ap (map fractal) kept-is ∙ ap (s.fractal ∷◌) (read_two parts.before parts.more)

  all_are : check_fxs l ≡ s.fractal ∷ map fractal parts.before ++ e.fractal ∷ (map fractal parts.more ++ map fractal parts.rest)
  unfolding check_fxs placed_fxs
  all_are =
      sym (placed_are none 0 l) ∙ ap (map fractal) made.all ∙ ap (λ (z : List Placed). s.fractal ∷ map fractal z) parts.whole
      ∙ ap (s.fractal ∷◌) (read_two parts.before (parts.more ++ parts.rest)
      ∙ ap (λ (z : List Fractal). map fractal parts.before ++ e.fractal ∷ z) (map-append fractal parts.more parts.rest))

  alternates : Alternate none (map fractal kept)
  unfolding check_fxs
  alternates =
      let x = s.fractal ∷ map fractal parts.before ++ e.fractal ∷ map fractal parts.more in
      let y = map fractal parts.rest in
      let q : check_fxs l ≡ x ++ y =
      all_are ∙ ap (s.fractal ∷◌) (sym (append_assoc (map fractal parts.before) (e.fractal ∷ map fractal parts.more) y)) in
      subst (Alternate none) (sym fractals_are) (alternate_front none x y (subst (Alternate none) q (fractals_alternate none l)))

  split_ascends : Ascend (suc s.place) (length l) (parts.before ++ e ∷ (parts.more ++ parts.rest))
  split_ascends = subst (Ascend (suc s.place) (length l)) parts.whole ascends.2

  split_least : All (λ x. T (candidate_at s x) → LessAt e x) (parts.before ++ e ∷ (parts.more ++ parts.rest))
  split_least = subst (All (λ x. T (candidate_at s x) → LessAt e x)) parts.whole end-least

  befores : All (λ x. T (candidate_at s x) → T (beyond e.fractal.mark (fx_of e.fractal) (fx_of x.fractal))) parts.before
  befores =
      All-zip parts.before (λ x h k c. less-before e x h (k c)) (ascend_before e (suc s.place) (length l) parts.before (parts.more ++ parts.rest) split_ascends)
      (All-left (λ x. T (candidate_at s x) → LessAt e x) parts.before (e ∷ (parts.more ++ parts.rest)) split_least)

  behinds : All (λ x. T (candidate_at s x) → T (not (beyond e.fractal.mark (fx_of x.fractal) (fx_of e.fractal)))) (parts.more ++ parts.rest)
  behinds =
      All-zip (parts.more ++ parts.rest) (λ x h k c. less-after e x h (k c))
      (ascend_after e (suc s.place) (length l) parts.before (parts.more ++ parts.rest) split_ascends)
      (All-right (λ x. T (candidate_at s x) → LessAt e x) parts.before (e ∷ (parts.more ++ parts.rest)) split_least).1

  fits-min : (minimum ≤ length b.bars) × T (not (holds b.start.mid.bar b.end.mid.bar))
  unfolding fits_min
  fits-min = (
    leb→le minimum (length b.bars) (and_l (leb minimum (length b.bars)) (not (holds b.start.mid.bar b.end.mid.bar)) made.fits),
    and_r (leb minimum (length b.bars)) (not (holds b.start.mid.bar b.end.mid.bar)) made.fits,
  )

  pub made_found : StrokeFound minimum l b (drop e.place l)
  unfolding stroke_at
  made_found =
      record {
        from = s.place;
        to = e.place;
        order = order;
        inside = inside;
        bars = refl;
        left = refl;
        count = bar-count;
        shared = omega (arith, bar-count, length-drop e.place l, length-drop s.place l, inside, order);
        four = omega (arith, bar-count, order);
        enough = fits-min.0;
        apart = fits-min.1;
        fewer = omega (arith, bar-count, kept-count, order);
        inner = map fractal parts.before;
        more = map fractal parts.more;
        later = map fractal parts.rest;
        all = all_are;
        listed = fractals_are;
        few = omega (arith, length-map parts.more fractal, parts.few);
        alternate = alternates;
        candidate' = end-candidate;
        before = All_read fractal (λ x. T (candidate s.fractal x) → T (beyond e.fractal.mark (fx_of e.fractal) (fx_of x))) parts.before befores;
        behind = subst (All (λ x. T (candidate s.fractal x) → T (not (beyond e.fractal.mark (fx_of x) (fx_of e.fractal))))) (map-append fractal parts.more parts.rest)
            (All_read fractal (λ x. T (candidate s.fractal x) → T (not (beyond e.fractal.mark (fx_of x) (fx_of e.fractal)))) (parts.more ++ parts.rest) behinds);
      }

-- a stroke that check_bi gives
pub stroke-found : (minimum : ℕ) (l : List Merged) (b : Stroke) → (check_bi minimum l).stroke ≡ some b → StrokeFound minimum l b (check_bi minimum l).rest
stroke-found minimum l b q =
    let f = check_bi minimum l in
    let made = made_of_lem minimum l f b (check_outcome minimum l) q in
    let B = stroke_at l (made.start ∷ made.others) made.start made.end in
    let same : B ≡ b = some-injective B b (sym (ap (λ z. z.stroke) made.found) ∙ q) in
    subst (λ z. StrokeFound minimum l z f.rest) same
    (subst (λ z. StrokeFound minimum l B z) (sym (ap (λ z. z.rest) made.found)) (made_found minimum l f made))

-- without a stroke nothing changes
pub nothing_found_lem : (minimum : ℕ) (l : List Merged) → (check_bi minimum l).stroke ≡ none → (check_bi minimum l).rest ≡ l
nothing_found_lem minimum l q =
    elim (check_outcome minimum l) [ inl h ↦ ap (λ z. z.rest) h | inr made ↦ absurd (none-ne-some _ (sym q ∙ ap (λ z. z.stroke) made.found)) ]

-- ---- the cut

-- with a fractal, the bars are cut to begin at the place of one, so that three bars or more are left
pub record CutTo (l : List Merged) : Type 0 where
  pub first : Placed
  pub others : List Placed
  pub all : placed_fxs l ≡ first ∷ others
  pub at : ℕ
  pub is : cut l ≡ drop at l
  pub best-at : at ≡ (start_best fractal first others).place
  pub inside : at + 2 < length l
  pub from_first : first.place ≤ at

cut_with_lem : (l : List Merged) (fs : List Placed) → placed_fxs l ≡ fs → All (Stands l) fs → Ascend 0 (length l) fs → ((fs ≡ []) × (cut l ≡ l)) ⊎ CutTo l
unfolding cut cut_to
cut_with_lem l [] q a h = inl (refl, ap (cut_to l) q)
cut_with_lem l (f ∷ fs) q a h =
    let k = start_best fractal f fs in
    let S = start-all (Stands l) fractal f fs a.0 a.1 in
    let from-f = ascend_from f.place (length l) (f ∷ fs) (omega arith, h.1, h.2) in
    inr (record {
      first = f;
      others = fs;
      all = q;
      at = k.place;
      is = ap (cut_to l) q;
      best-at = refl;
      inside = fits l k.place k.fractal.left k.fractal.mid k.fractal.right S.after S.is;
      from_first = start-all (λ (z : Placed). f.place ≤ z.place) fractal f fs from-f.0 from-f.1;
    })

-- without a fractal nothing is cut
pub cut_outcome : (l : List Merged) → ((placed_fxs l ≡ []) × (cut l ≡ l)) ⊎ CutTo l
unfolding placed_fxs
cut_outcome l = cut_with_lem l (placed_fxs l) refl (placed-stand l none 0 l refl) (placed_ascend l none 0 l refl)

-- ---- a stroke's ends by their places in its fractal list

record Even (n : ℕ) : Type 0 where
  half : ℕ
  is : n ≡ half + half

two : (a x y : Mark) → T (not (same_mark a x)) → T (not (same_mark x y)) → a ≡ y
unfolding same_mark
two D D y h k = absurd h
two D G D h k = refl
two D G G h k = absurd k
two G D D h k = absurd k
two G D G h k = refl
two G G y h k = absurd h

three : (a x y : Mark) → T (not (same_mark a x)) → T (not (same_mark x y)) → T (not (same_mark a y)) → ⊥
unfolding same_mark
three D D y h k j = h
three D G D h k j = j
three D G G h k j = k
three G D D h k j = k
three G D G h k j = j
three G G y h k j = h

-- between fractals of different marks the number of alternating ones is even
mid-even : (p : Option Mark) (a : Fractal) (mid : List Fractal) (e : Fractal) (t : List Fractal) → Alternate p (a ∷ mid ++ e ∷ t) → T (not (same_mark a.mark e.mark))
    → Even (length mid)
unfolding taken
mid-even p a [] e t h k = record { half = 0; is = refl }
mid-even p a (x ∷ []) e t h k = absurd (three a.mark x.mark e.mark h.1.0 h.1.1.0 k)
mid-even p a (x ∷ y ∷ mid) e t h k =
    let q = two a.mark x.mark y.mark h.1.0 h.1.1.0 in
    let r = mid-even (some x.mark) y mid e t h.1.1 (subst (λ (m : Mark). T (not (same_mark m e.mark))) q k) in
    record { half = suc r.half; is = omega (arith, r.is) }

pub start_read : (z : Fractal) (minimum : ℕ) (l : List Merged) (b : Stroke) (rest : List Merged) → StrokeFound minimum l b rest → get_or b.fractals 0 z ≡ b.start
start_read z minimum l b rest F = ap (λ (fs : List Fractal). get_or fs 0 z) F.listed

-- the end is the last fractal, or the last but one where they are odd in number
pub end_read : (z : Fractal) (minimum : ℕ) (l : List Merged) (b : Stroke) (rest : List Merged) → StrokeFound minimum l b rest
    → get_or b.fractals (2 * (length b.fractals / 2) - 1) z ≡ b.end
end_read z minimum l b rest F =
    let xs = b.start ∷ F.inner in
    let h = mid-even none b.start F.inner b.end F.more (subst (Alternate none) F.listed F.alternate) (candidate_other b.start b.end F.candidate') in
    let n : length b.fractals ≡ 2 * (h.half + 1) + length F.more =
    ap length F.listed ∙ length-append xs (b.end ∷ F.more) ∙ omega (arith, h.is) in
    let d : length b.fractals / 2 ≡ h.half + 1 = omega (arith, n, F.few) in
    let i : 2 * (length b.fractals / 2) - 1 ≡ length xs = omega (arith, d, h.is) in
    (λ j. get_or (F.listed j) (i j) z) ∙ get_or-append_seam xs b.end F.more z

-- ---- a stroke's fractals are those of its bars and one more

-- the windows from place i on whose places are at hi or before
kept_if : (hi i : ℕ) (t : Bool) (f : Fractal) (p : Option Mark) (rest : Option Mark → List Placed) (rest' : Option Mark → List Fractal) → i ≤ hi
    → ((q : Option Mark) → map fractal (keep_if (λ x. leb x.place hi) (rest q)) ≡ rest' q)
    → map fractal (keep_if (λ x. leb x.place hi) (placed_if t i f p rest)) ≡ push_if t f p rest'
unfolding placed_if push_if
kept_if hi i true f p rest rest' h g =
    ap (map fractal) (keep_yes (λ x. leb x.place hi) (record { place = i; fractal = f }) (rest (some f.mark)) (le→leb i hi h)) ∙ ap (f ∷◌) (g (some f.mark))
kept_if hi i false f p rest rest' h g = g p

kept_by : (hi i : ℕ) (p : Option Mark) (o : Option Fractal) (rest : Option Mark → List Placed) (rest' : Option Mark → List Fractal) → i ≤ hi
    → ((q : Option Mark) → map fractal (keep_if (λ x. leb x.place hi) (rest q)) ≡ rest' q)
    → map fractal (keep_if (λ x. leb x.place hi) (placed_by p i o rest)) ≡ pushed p o rest'
unfolding placed_by pushed
kept_by hi i p none rest rest' h g = g p
kept_by hi i p (some f) rest rest' h g = kept_if hi i (taken p f.mark) f p rest rest' h g

none_in_two : (p : Option Mark) (k : List Merged) → fxs_after p (take 2 k) ≡ []
unfolding fxs_after
none_in_two p [] = refl
none_in_two p (a ∷ []) = refl
none_in_two p (a ∷ b ∷ k) = refl

pub kept-take : (l : List Merged) (p : Option Mark) (i hi n : ℕ) (k : List Merged) → drop i l ≡ k → hi + 1 ≡ i + n
    → map fractal (keep_if (λ x. leb x.place hi) (placed_after p i k)) ≡ fxs_after p (take (suc (suc n)) k)
unfolding placed_after fxs_after keep_if
kept-take l p i hi zero k e h =
    ap (map fractal) (none-later hi (length l) i (placed_after p i k) (omega arith) (placed_ascend l p i k e)) ∙ sym (none_in_two p k)
kept-take l p i hi (suc n) [] e h = refl
kept-take l p i hi (suc n) (a ∷ []) e h = refl
kept-take l p i hi (suc n) (a ∷ b ∷ []) e h = refl
kept-take l p i hi (suc n) (a ∷ b ∷ c ∷ k) e h =
    kept_by hi i p (check_fx a b c) (λ q. placed_after q (suc i) (b ∷ c ∷ k)) (λ q. fxs_after q (b ∷ c ∷ take n k)) (omega arith)
    (λ q. kept-take l q (suc i) hi n (b ∷ c ∷ k) (next l i a (b ∷ c ∷ k) e) (omega arith))

-- nothing is taken before the first
first_by : (l : List Merged) (i : ℕ) (o : Option Fractal) (rest : Option Mark → List Placed) (s : Placed) (fs : List Placed) (X : List Placed) → X ≡ placed_after none i (drop i l)
    → (o ≡ none → rest none ≡ s ∷ fs → X ≡ placed_after none s.place (drop s.place l)) → placed_by none i o rest ≡ s ∷ fs → X ≡ placed_after none s.place (drop s.place l)
unfolding placed_by placed_if taken
first_by l i none rest s fs X h g e = g refl e
first_by l i (some f) rest s fs X h g e = h ∙ ap (λ (z : Placed). placed_after none z.place (drop z.place l)) (head-eq_of_cons-eq e)

skip_window : (i : ℕ) (o : Option Fractal) (rest : Option Mark → List Placed) → o ≡ none → placed_by none i o rest ≡ rest none
unfolding placed_by
skip_window i o rest h = ap (λ (z : Option Fractal). placed_by none i z rest) h

pub first-placed : (l : List Merged) (i : ℕ) (k : List Merged) (s : Placed) (fs : List Placed) → drop i l ≡ k → placed_after none i k ≡ s ∷ fs
    → placed_after none i k ≡ placed_after none s.place (drop s.place l)
unfolding placed_after
first-placed l i [] s fs e h = absurd (nil≢cons h)
first-placed l i (a ∷ []) s fs e h = absurd (nil≢cons h)
first-placed l i (a ∷ b ∷ []) s fs e h = absurd (nil≢cons h)
first-placed l i (a ∷ b ∷ c ∷ k) s fs e h =
    first_by l i (check_fx a b c) (λ q. placed_after q (suc i) (b ∷ c ∷ k)) s fs (placed_after none i (a ∷ b ∷ c ∷ k)) (ap (placed_after none i) (sym e))
    (λ o g. skip_window i (check_fx a b c) (λ q. placed_after q (suc i) (b ∷ c ∷ k)) o ∙ first-placed l (suc i) (b ∷ c ∷ k) s fs (next l i a (b ∷ c ∷ k) e) g)
    h

-- so that they can be listed again from the start's first bar on
pub stroke-fractals : (minimum : ℕ) (l : List Merged) (f : Found) (made : MadeFrom minimum l f)
    → (stroke_at l (made.start ∷ made.others) made.start made.end).fractals
    ≡ check_fxs (take (made.end.place + 3 - made.start.place + 1) (drop made.start.place l))
unfolding stroke_at check_fxs placed_fxs
stroke-fractals minimum l f made =
    let s = made.start.place in
    let e = made.end.place in
    let o = order minimum l f made in
    let n : suc (suc (e + 2 - s)) ≡ e + 3 - s + 1 = omega (arith, o) in
    let p : Placed → Bool = λ x. leb x.place (e + 1) in
    ap (λ (z : List Placed). map fractal (keep_if p z)) (sym made.all ∙ first-placed l 0 l made.start made.others refl made.all)
    ∙ kept-take l none s (e + 1) (e + 2 - s) (drop s l) refl (omega (arith, o))
    ∙ ap (λ (m : ℕ). fxs_after none (take m (drop s l))) n
