-- Merging a bar in leaves the fractal with which the unfinished bars begin: its third bar may go on merging, away from its middle.
-- Assumes nothing.
use mathlib.Core.Path.{◌≡◌, refl}
use mathlib.Core.Bool.{Bool, true, false}
use mathlib.Core.List.{List, [], ◌∷◌}
use lib.Dec.{T}
use lib.Ieee.{lt}
use lib.Ieee.Fits.{and_i, and_l, and_r}
use Rattle.bars.specs.declared.Bar.{Bar}
use Rattle.bars.specs.Bars.{Merged, own}
use Rattle.machine.specs.declared.Mark.{Mark}
use Rattle.machine.specs.declared.Mark.TheVariants.{D, G}
use Rattle.machine.specs.Fractals.{Fractal, is_top, is_bottom}
use Rattle.bars.specs.Merging.{contains, united, merged_up, merged_down, settle, remove_include, merge_in}
use Rattle.machine.proofs.Facts.{shape, Begins}
use Rattle.arith.proofs.FloatOrder.{lt_asym}
use Rattle.arith.proofs.MaxMin.{lt-max-left, min-lt-left}

-- ---- the four tests of a fractal, as fields

pub record Top (a b c : Bar) : Type 0 where
  pub high-left : T (lt a.high b.high)
  pub high-right : T (lt c.high b.high)
  pub low-left : T (lt a.low b.low)
  pub low-right : T (lt c.low b.low)

pub top_of : (a b c : Bar) → T (is_top a b c) → Top a b c
unfolding is_top
top_of a b c h = search (and_l, and_r)

pub of_top : (a b c : Bar) → Top a b c → T (is_top a b c)
unfolding is_top
of_top a b c h = search and_i

pub record Bottom (a b c : Bar) : Type 0 where
  pub low-left : T (lt b.low a.low)
  pub low-right : T (lt b.low c.low)
  pub high-left : T (lt b.high a.high)
  pub high-right : T (lt b.high c.high)

pub bottom_of_lem : (a b c : Bar) → T (is_bottom a b c) → Bottom a b c
unfolding is_bottom
bottom_of_lem a b c h = search (and_l, and_r)

pub of_bottom : (a b c : Bar) → Bottom a b c → T (is_bottom a b c)
unfolding is_bottom
of_bottom a b c h = search and_i

-- ---- the third bar of a fractal that goes on merging

-- what stands after the middle bar k begins with a bar that leaves a, k a fractal
pub record Third (m : Mark) (a k : Bar) (l : List Merged) : Type 0 where
  pub bar : Merged
  pub more : List Merged
  pub is : l ≡ bar ∷ more
  pub shaped : T (shape m a k bar.bar)

settle_third : (m : Mark) (u d i : Bool) (a k : Bar) (c : Merged) (b : Bar) → T (shape m a k c.bar) → (T u → T (lt k.high c.bar.high))
    → (T d → T (lt c.bar.high k.high)) → Third m a k (settle u d i c b)
unfolding settle merged_up merged_down united shape
settle_third m true d false a k c b h hu hd = record { bar = c; more = own b ∷ []; is = refl; shaped = h }
settle_third m false d false a k c b h hu hd = record { bar = c; more = own b ∷ []; is = refl; shaped = h }
settle_third m false false true a k c b h hu hd = record { bar = c; more = own b ∷ []; is = refl; shaped = h }
settle_third G true d true a k c b h hu hd = absurd (lt_asym k.high c.bar.high (hu tt) (top_of a k c.bar h).high-right)
settle_third D true d true a k c b h hu hd =
    let t = bottom_of_lem a k c.bar h in
    record {
      bar = merged_up c b;
      more = [];
      is = refl;
      shaped = of_bottom a k (merged_up c b).bar (record {
        low-left = t.low-left;
        low-right = lt-max-left c.bar.low b.low k.low t.low-right;
        high-left = t.high-left;
        high-right = lt-max-left c.bar.high b.high k.high t.high-right;
      });
    }
settle_third D false true true a k c b h hu hd = absurd (lt_asym k.high c.bar.high (bottom_of_lem a k c.bar h).high-right (hd tt))
settle_third G false true true a k c b h hu hd =
    let t = top_of a k c.bar h in
    record {
      bar = merged_down c b;
      more = [];
      is = refl;
      shaped = of_top a k (merged_down c b).bar (record {
        high-left = t.high-left;
        high-right = min-lt-left c.bar.high b.high k.high t.high-right;
        low-left = t.low-left;
        low-right = min-lt-left c.bar.low b.low k.low t.low-right;
      });
    }

after_third : (m : Mark) (a : Bar) (k c : Merged) (b : Bar) → T (shape m a k.bar c.bar) → Third m a k.bar (remove_include k c b)
unfolding remove_include
after_third m a k c b h = settle_third m (lt k.bar.high c.bar.high) (lt c.bar.high k.bar.high) (contains c.bar b) a k.bar c b h (λ t. t) (λ t. t)

-- merging into two bars or more leaves the first
pub merge_head : (c d : Merged) (r : List Merged) (b : Bar) → (l : List Merged) × (merge_in (c ∷ d ∷ r) b ≡ c ∷ l)
unfolding merge_in
merge_head c d [] b = (remove_include c d b, refl)
merge_head c d (e ∷ r) b = (merge_in (d ∷ e ∷ r) b, refl)

begins_with : (f : Fractal) (a k : Merged) (l : List Merged) → a ≡ f.left → k ≡ f.mid → Third f.mark a.bar k.bar l → Begins f (a ∷ k ∷ l)
begins_with f a k l p q t = rw t.is (p, q, t.shaped)

-- the fractal that the unfinished bars begin with stays one
pub merge_begins : (f : Fractal) (l : List Merged) (b : Bar) → Begins f l → Begins f (merge_in l b)
unfolding merge_in
merge_begins f [] b h = absurd h
merge_begins f (a ∷ []) b h = absurd h
merge_begins f (a ∷ k ∷ []) b h = absurd h
merge_begins f (a ∷ k ∷ c ∷ []) b h = begins_with f a k (remove_include k c b) h.0 h.1 (after_third f.mark a.bar k c b h.2)
merge_begins f (a ∷ k ∷ c ∷ d ∷ r) b h =
    let m = merge_head c d r b in
    begins_with f a k (merge_in (c ∷ d ∷ r) b) h.0 h.1 (record { bar = c; more = m.0; is = m.1; shaped = h.2 })
