-- Above and below: a bar that goes on merging behind another keeps on its side.
-- Assumes nothing.
use mathlib.Core.Path.{◌≡◌, ap, sym, ◌∙◌, subst}
use mathlib.Core.Bool.{Bool, true, false, not, ◌&&◌, ◌||◌}
use mathlib.Core.List.{[], ◌∷◌, nil≢cons, head-eq_of_cons-eq, tail-eq_of_cons-eq}
use mathlib.Core.Logic.{◌⊎◌, inl, inr}
use lib.Dec.{T}
use lib.Ieee.{Float, lt, le}
use lib.Ieee.Fits.{and_l, and_r}
use Rattle.bars.specs.declared.Bar.{Bar}
use Rattle.bars.specs.Bars.{Merged, own}
use Rattle.machine.specs.declared.Mark.{Mark}
use Rattle.machine.specs.declared.Mark.TheVariants.{D, G}
use Rattle.bars.specs.Merging.{united, contains, merged_up, merged_down, settle, remove_include, merge_in}
use Rattle.machine.proofs.Facts.{shape}
use Rattle.bars.specs.Questions.{is_bar, is_price, question5, question6, question7, question8}
use Rattle.bars.proofs.Prices.{price-number}
use Rattle.arith.proofs.FloatOrder.{le_of, Number, decide, contra, lt-left, lt-right, lt_asym, lt-le}
use Rattle.machine.proofs.MergingKeepsFractal.{top_of, of_top, bottom_of_lem, of_bottom}
use Rattle.arith.proofs.MaxMin.{lt-max-left, min-lt-left}
use Rattle.machine.proofs.GrownBars.{Grown, first, next, Over, same, more}

-- b is above a
pub record Rises (a b : Bar) : Type 0 where
  pub high : T (lt a.high b.high)
  pub low : T (lt a.low b.low)

pub rises-not : (a b : Bar) → Rises a b → Rises b a → ⊥
rises-not a b r s = lt_asym a.high b.high r.high s.high

-- b is beyond a in the way of the mark
abbrev pub Way : Mark → Bar → Bar → Type 0
Way D a b = Rises b a
Way G a b = Rises a b

pub way_not : (m : Mark) (a b : Bar) → Way m a b → Way m b a → ⊥
way_not D a b r s = rises-not a b s r
way_not G a b r s = rises-not a b r s

-- a fractal's middle is beyond both neighbours
pub shape_ways : (m : Mark) (a b c : Bar) → T (shape m a b c) → Way m a b × Way m c b
unfolding shape
shape_ways D a b c h = let t = bottom_of_lem a b c h in (record { high = t.high-left; low = t.low-left }, record { high = t.high-right; low = t.low-right })
shape_ways G a b c h = let t = top_of a b c h in (record { high = t.high-left; low = t.low-left }, record { high = t.high-right; low = t.low-right })

pub ways_shape : (m : Mark) (a b c : Bar) → Way m a b → Way m c b → T (shape m a b c)
unfolding shape
ways_shape D a b c r s = of_bottom a b c (record { low-left = r.low; low-right = s.low; high-left = r.high; high-right = s.high })
ways_shape G a b c r s = of_top a b c (record { high-left = r.high; high-right = s.high; low-left = r.low; low-right = s.low })

-- ---- two bars that do not contain one another

or_false : (a b : Bool) → T (not (a || b)) → T (not a) × T (not b)
or_false true b h = absurd h
or_false false b h = (tt, h)

le-or-lt : (x y : Float) → Number x → Number y → T (le x y) ⊎ T (lt y x)
le-or-lt x y n o = elim (decide (lt y x)) [ inl l ↦ inr l | inr k ↦ inl (le_of x y (record { left = n; right = o; test = k })) ]

and_false : (a b : Bool) → T a → T (not (a && b)) → T (not b)
and_false true b h k = k
and_false false b h k = absurd h

not-le-lt : (x y : Float) → Number x → Number y → T (not (le x y)) → T (lt y x)
not-le-lt x y n o h = elim (le-or-lt x y n o) [ inl l ↦ contra (le x y) l h | inr l ↦ l ]

pub record Numbered (b : Bar) : Type 0 where
  pub high : Number b.high
  pub low : Number b.low

apart_if : (a b : Bar) → Numbered a → Numbered b → T (not (le a.high b.high && le b.low a.low)) → T (not (le b.high a.high && le a.low b.low))
    → T (le a.high b.high) ⊎ T (lt b.high a.high) → T (le b.high a.high) ⊎ T (lt a.high b.high) → Rises a b ⊎ Rises b a
apart_if a b n o h k (inl p) (inl q) =
    let x = not-le-lt b.low a.low o.low n.low (and_false (le a.high b.high) (le b.low a.low) p h) in
    let y = not-le-lt a.low b.low n.low o.low (and_false (le b.high a.high) (le a.low b.low) q k) in
    absurd (lt_asym a.low b.low x y)
apart_if a b n o h k (inl p) (inr q) = inl (record { high = q; low = not-le-lt b.low a.low o.low n.low (and_false (le a.high b.high) (le b.low a.low) p h) })
apart_if a b n o h k (inr p) d =
    let q = lt-le b.high a.high p in
    inr (record { high = p; low = not-le-lt a.low b.low n.low o.low (and_false (le b.high a.high) (le a.low b.low) q k) })

apart : (a b : Bar) → Numbered a → Numbered b → T (not (contains a b)) → Rises a b ⊎ Rises b a
unfolding contains
apart a b n o h =
    let r = or_false (le a.high b.high && le b.low a.low) (le b.high a.high && le a.low b.low) h in
    apart_if a b n o r.0 r.1 (le-or-lt a.high b.high n.high o.high) (le-or-lt b.high a.high o.high n.high)

-- ---- a bar put on behind h and z, where z is above or below h

short : {A : Type 0} (a b c d e : A) → a ∷ b ∷ [] ≡ c ∷ d ∷ e ∷ [] → ⊥
short a b c d e h = nil≢cons (tail-eq_of_cons-eq (tail-eq_of_cons-eq h))

put_if_lem : (h z : Merged) (y : Bar) (u d i : Bool) → T u ⊎ T d → h ∷ settle u d i z y ≡ h ∷ z ∷ own y ∷ [] → T (not i)
unfolding settle
put_if_lem h z y true d true k e = absurd (short h (merged_up z y) h z (own y) e)
put_if_lem h z y false true true k e = absurd (short h (merged_down z y) h z (own y) e)
put_if_lem h z y false false true (inl k) e = absurd k
put_if_lem h z y false false true (inr k) e = absurd k
put_if_lem h z y true d false k e = tt
put_if_lem h z y false d false k e = tt

way_differ : (m : Mark) (h z : Bar) → Way m h z → T (lt h.high z.high) ⊎ T (lt z.high h.high)
way_differ D h z w = inr w.high
way_differ G h z w = inl w.high

way_numbered : (m : Mark) (h z : Bar) → Way m h z → Numbered z
way_numbered D h z w = record { high = lt-left z.high h.high w.high; low = lt-left z.low h.low w.low }
way_numbered G h z w = record { high = lt-right h.high z.high w.high; low = lt-right h.low z.low w.low }

way_either : (m : Mark) (z y : Bar) → Rises z y ⊎ Rises y z → Way m y z ⊎ Way m z y
way_either D z y (inl r) = inl r
way_either D z y (inr r) = inr r
way_either G z y (inl r) = inr r
way_either G z y (inr r) = inl r

pub put_apart : (m : Mark) (h z : Merged) (y : Bar) → Numbered y → Way m h.bar z.bar → merge_in (h ∷ z ∷ []) y ≡ h ∷ z ∷ own y ∷ [] → Way m y z.bar ⊎ Way m z.bar y
unfolding merge_in remove_include
put_apart m h z y n w e =
    way_either m z.bar y (apart z.bar y (way_numbered m h.bar z.bar w) n
    (put_if_lem h z y (lt h.bar.high z.bar.high) (lt z.bar.high h.bar.high) (contains z.bar y) (way_differ m h.bar z.bar w) e))

-- ---- a bar that goes on merging behind z

pub long : {A : Type 0} (a b c d e : A) → c ∷ d ∷ e ∷ [] ≡ a ∷ b ∷ [] → ⊥
long a b c d e h = nil≢cons (sym (tail-eq_of_cons-eq (tail-eq_of_cons-eq h)))

pub bar_of_lem : (z x c : Merged) → z ∷ x ∷ [] ≡ z ∷ c ∷ [] → x ≡ c
bar_of_lem z x c e = head-eq_of_cons-eq (tail-eq_of_cons-eq e)

up_if_lem : (z m c : Merged) (y : Bar) (u d i : Bool) → Rises z.bar m.bar → T u → z ∷ settle u d i m y ≡ z ∷ c ∷ [] → Rises z.bar c.bar
unfolding settle merged_up united
up_if_lem z m c y true d true r k e =
    subst (λ x. Rises z.bar x.bar) (bar_of_lem z (merged_up m y) c e)
    (record { high = lt-max-left m.bar.high y.high z.bar.high r.high; low = lt-max-left m.bar.low y.low z.bar.low r.low })
up_if_lem z m c y true d false r k e = absurd (long z c z m (own y) e)
up_if_lem z m c y false d i r k e = absurd k

down_if_lem : (z m c : Merged) (y : Bar) (u d i : Bool) → Rises m.bar z.bar → T (not u) → T d → z ∷ settle u d i m y ≡ z ∷ c ∷ [] → Rises c.bar z.bar
unfolding settle merged_down united
down_if_lem z m c y false true true r n k e =
    subst (λ x. Rises x.bar z.bar) (bar_of_lem z (merged_down m y) c e)
    (record { high = min-lt-left m.bar.high y.high z.bar.high r.high; low = min-lt-left m.bar.low y.low z.bar.low r.low })
down_if_lem z m c y false true false r n k e = absurd (long z c z m (own y) e)
down_if_lem z m c y false false i r n k e = absurd k
down_if_lem z m c y true d i r n k e = absurd n

pub up-joins : (z m c : Merged) (y : Bar) → Rises z.bar m.bar → merge_in (z ∷ m ∷ []) y ≡ z ∷ c ∷ [] → Rises z.bar c.bar
unfolding merge_in remove_include
up-joins z m c y r e = up_if_lem z m c y (lt z.bar.high m.bar.high) (lt m.bar.high z.bar.high) (contains m.bar y) r r.high e

pub down-joins : (z m c : Merged) (y : Bar) → Rises m.bar z.bar → merge_in (z ∷ m ∷ []) y ≡ z ∷ c ∷ [] → Rises c.bar z.bar
unfolding merge_in remove_include
down-joins z m c y r e =
    let n : T (not (lt z.bar.high m.bar.high)) = elim (decide (lt z.bar.high m.bar.high)) [ inl l ↦ absurd (lt_asym z.bar.high m.bar.high l r.high) | inr k ↦ k ] in
    down_if_lem z m c y (lt z.bar.high m.bar.high) (lt m.bar.high z.bar.high) (contains m.bar y) r n r.high e

-- beyond z, and short of z
pub beyond-joins : (k : Mark) (z m c : Merged) (y : Bar) → Way k z.bar m.bar → merge_in (z ∷ m ∷ []) y ≡ z ∷ c ∷ [] → Way k z.bar c.bar
beyond-joins D z m c y w e = down-joins z m c y w e
beyond-joins G z m c y w e = up-joins z m c y w e

pub within-joins : (k : Mark) (z m c : Merged) (y : Bar) → Way k m.bar z.bar → merge_in (z ∷ m ∷ []) y ≡ z ∷ c ∷ [] → Way k c.bar z.bar
within-joins D z m c y w e = up-joins z m c y w e
within-joins G z m c y w e = down-joins z m c y w e

pub over-beyond : (k : Mark) (P : Bar → Type 0) (z m c : Merged) → Way k z.bar m.bar → Over P (z ∷ []) m c → Way k z.bar c.bar
over-beyond k P z m c w (same c' e) = subst (λ x. Way k z.bar x.bar) (sym e) w
over-beyond k P z m c w (more c' n y o p t e l) = beyond-joins k z n c' y (over-beyond k P z m n w o) e

pub over-within : (k : Mark) (P : Bar → Type 0) (z m c : Merged) → Way k m.bar z.bar → Over P (z ∷ []) m c → Way k c.bar z.bar
over-within k P z m c w (same c' e) = subst (λ x. Way k x.bar z.bar) (sym e) w
over-within k P z m c w (more c' n y o p t e l) = within-joins k z n c' y (over-within k P z m n w o) e

-- ---- a bar grown behind h and z is above or below z

either_joins : (k : Mark) (z m c : Merged) (y : Bar) → Way k m.bar z.bar ⊎ Way k z.bar m.bar → merge_in (z ∷ m ∷ []) y ≡ z ∷ c ∷ [] → Way k c.bar z.bar ⊎ Way k z.bar c.bar
either_joins k z m c y (inl w) e = inl (within-joins k z m c y w e)
either_joins k z m c y (inr w) e = inr (beyond-joins k z m c y w e)

pub grown-apart : (k : Mark) (P : Bar → Type 0) (h z c : Merged) → ((y : Bar) → P y → Numbered y) → Way k h.bar z.bar → Grown P (h ∷ z ∷ []) c → Way k c.bar z.bar ⊎ Way k z.bar c.bar
unfolding merge_in own
grown-apart k P h z c f w (first c' y p e q) =
    subst (λ x. Way k x.bar z.bar ⊎ Way k z.bar x.bar) (sym e) (put_apart k h z y (f y p) w (q ∙ ap (λ x. h ∷ z ∷ x ∷ []) e))
grown-apart k P h z c f w (next c' m y g p e l) = either_joins k z m c' y (grown-apart k P h z m f w g) (tail-eq_of_cons-eq e)

pub bar_numbered : (b : Bar) → T (is_bar b) → Numbered b
unfolding is_bar question6
bar_numbered b h =
    let p = and_r (question5 b) (question6 b) (and_l (question5 b && question6 b) (question7 b && question8 b) h) in
    let hl = and_r (is_price b.«open» && is_price b.close) (is_price b.high && is_price b.low) p in
    let x = and_l (is_price b.high) (is_price b.low) hl in
    let y = and_r (is_price b.high) (is_price b.low) hl in
    record { high = price-number b.high x; low = price-number b.low y }
