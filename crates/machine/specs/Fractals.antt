-- Document 01's fractals: check_fx and check_fxs. Definitions only.
use Rattle.std.specs.Prelude.{ℕ, suc, Bool, true, false, not, ◌&&◌, cond, List, [], ◌∷◌, ℤ, Float}
use Rattle.std.proofs.Math.Option.{Option, none, some}
use Rattle.std.specs.Float.Ieee.{lt}
use Rattle.bars.specs.declared.Bar.{Bar}
use Rattle.bars.specs.Bars.{Merged}
use Rattle.machine.specs.declared.Mark.{Mark}
use Rattle.machine.specs.declared.Mark.TheVariants.{D, G}

-- a fractal: its mark and its three merged bars. Its time, high and low are the middle bar's.
pub record Fractal : Type 0 where
  pub mark : Mark
  pub left : Merged
  pub mid : Merged
  pub right : Merged

unfoldable pub time_of : Fractal → ℤ
time_of f = f.mid.bar.time

-- fx: a top's high, a bottom's low
unfoldable pub fx_of : Fractal → Float
fx_of f = elim f.mark [ D ↦ f.mid.bar.low | G ↦ f.mid.bar.high ]

unfoldable pub same_mark : Mark → Mark → Bool
same_mark D D = true
same_mark D G = false
same_mark G D = false
same_mark G G = true

-- a is strictly beyond b in the way of the mark: higher for tops, lower for bottoms
unfoldable pub beyond : Mark → Float → Float → Bool
unfolding lt
beyond D a b = lt a b
beyond G a b = lt b a

-- top: high and low of the middle bar both strictly above both neighbours'
unfoldable pub is_top : Bar → Bar → Bar → Bool
unfolding lt
is_top a b c = (lt a.high b.high && lt c.high b.high) && (lt a.low b.low && lt c.low b.low)

-- bottom: mirrored
unfoldable pub is_bottom : Bar → Bar → Bar → Bool
unfolding lt
is_bottom a b c = (lt b.low a.low && lt b.low c.low) && (lt b.high a.high && lt b.high c.high)

-- check_fx
unfoldable pub check_fx : Merged → Merged → Merged → Option Fractal
unfolding is_top is_bottom
check_fx a b c =
    cond (is_top a.bar b.bar c.bar) (some (record { mark = G; left = a; mid = b; right = c }))
    (cond (is_bottom a.bar b.bar c.bar) (some (record { mark = D; left = a; mid = b; right = c })) none)

-- whether a fractal of mark m is taken after the mark of the last one taken
unfoldable pub taken : Option Mark → Mark → Bool
unfolding same_mark
taken none m = true
taken (some p) m = not (same_mark p m)

-- what a window adds: its fractal, where it has one that is taken, before those of the later windows, which follow the mark p
unfoldable pub push_if : Bool → Fractal → Option Mark → (Option Mark → List Fractal) → List Fractal
push_if true f p rest = f ∷ rest (some f.mark)
push_if false f p rest = rest p

unfoldable pub pushed : Option Mark → Option Fractal → (Option Mark → List Fractal) → List Fractal
unfolding taken push_if
pushed p none rest = rest p
pushed p (some f) rest = push_if (taken p f.mark) f p rest

-- windows go left to right; one with the mark p of the last one taken is skipped
unfoldable pub fxs_after : Option Mark → List Merged → List Fractal
unfolding check_fx pushed
fxs_after p [] = []
fxs_after p (a ∷ []) = []
fxs_after p (a ∷ b ∷ []) = []
fxs_after p (a ∷ b ∷ c ∷ l) = pushed p (check_fx a b c) (λ q. fxs_after q (b ∷ c ∷ l))

-- check_fxs
unfoldable pub check_fxs : List Merged → List Fractal
unfolding fxs_after
check_fxs l = fxs_after none l

-- ---- the same fractals with their places

-- a fractal, and the place of its first bar among the bars
pub record Placed : Type 0 where
  pub place : ℕ
  pub fractal : Fractal

unfoldable pub placed_if : Bool → ℕ → Fractal → Option Mark → (Option Mark → List Placed) → List Placed
placed_if true i f p rest = record { place = i; fractal = f } ∷ rest (some f.mark)
placed_if false i f p rest = rest p

unfoldable pub placed_by : Option Mark → ℕ → Option Fractal → (Option Mark → List Placed) → List Placed
unfolding taken placed_if
placed_by p i none rest = rest p
placed_by p i (some f) rest = placed_if (taken p f.mark) i f p rest

-- the fractals of the bars that stand from place i on
unfoldable pub placed_after : Option Mark → ℕ → List Merged → List Placed
unfolding check_fx placed_by
placed_after p i [] = []
placed_after p i (a ∷ []) = []
placed_after p i (a ∷ b ∷ []) = []
placed_after p i (a ∷ b ∷ c ∷ l) = placed_by p i (check_fx a b c) (λ q. placed_after q (suc i) (b ∷ c ∷ l))

unfoldable pub placed_fxs : List Merged → List Placed
unfolding placed_after
placed_fxs l = placed_after none 0 l
