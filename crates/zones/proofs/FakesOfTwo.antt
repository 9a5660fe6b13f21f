-- Fake strokes from what is read of their fractals are those of create_fake_bis, and so is their number.
-- Assumes nothing.
use Prim.Native.Nat.{ℕ, suc, ◌*◌, ◌/◌, ◌-◌}
use native.Mathlib.Omega.{arith}
use mathlib.Core.Path.{◌≡◌, refl, ap, sym, ◌∙◌}
use lib.IntN.{ℤ}
use lib.Ieee.{Float, binary64, sub}
use mathlib.Core.List.{List, [], ◌∷◌}
use lib.ListN.{length, length-map}
use Rattle.bars.specs.Bars.{Merged}
use Rattle.machine.specs.declared.Mark.{Mark}
use Rattle.machine.specs.declared.Mark.TheVariants.{D, G}
use Rattle.machine.specs.Fractals.{Fractal, time_of}
use Rattle.machine.specs.Strokes.{direction_of}
use Rattle.machine.specs.declared.Direction.{Direction}
use Rattle.arith.specs.Rounding.{round_to}
use Rattle.check_bi.specs.declared.check_fx.Candle.{Candle}
use Rattle.check_bi.specs.Code.Scan.{candle_of}
use Rattle.zones.specs.FakeStrokes.{Fake, even_part, pairs, fakes, fake_direction, fake_with, fake_from, fake_of, create_fake_bis}
use Rattle.zones.specs.Code.FakeOfTwo.{fake_of_two, fake_count}

by_mark : (d : ℕ) (m : Mark) (l k r : Merged) (b : Fractal) → fake_of_two d m (candle_of k) (candle_of b.mid) ≡ fake_of d (record { first = record { mark = m; left = l; mid = k; right = r }; second = b })
unfolding fake_of_two candle_of fake_of fake_from fake_with fake_direction direction_of time_of
by_mark d D l k r b = refl
by_mark d G l k r b = refl

-- read of the two fractals of a fake stroke, it is fake_of
pub fake_of-two : (d : ℕ) (f : Fake) → fake_of_two d f.first.mark (candle_of f.first.mid) (candle_of f.second.mid) ≡ fake_of d f
fake_of-two d f = by_mark d f.first.mark f.first.left f.first.mid f.first.right f.second

-- ---- how many

pub even-length : {A : Type 0} (l : List A) → length (even_part l) ≡ length l / 2 * 2
unfolding even_part
even-length [] = refl
even-length (a ∷ []) = refl
even-length (a ∷ b ∷ l) = two (length (even_part l)) (length l) (even-length l)
  where
    two : (m n : ℕ) → m ≡ n / 2 * 2 → suc (suc m) ≡ suc (suc n) / 2 * 2
    two m n h = omega arith

pairs-length : (a : Fractal) (l : List Fractal) → length (pairs (a ∷ l)) ≡ length l
unfolding pairs
pairs-length a [] = refl
pairs-length a (b ∷ l) = ap suc (pairs-length b l)

fakes-length : (l : List Fractal) → length (fakes l) ≡ fake_count (length l)
unfolding fakes even_part fake_count pairs
fakes-length [] = refl
fakes-length (a ∷ []) = refl
fakes-length (a ∷ b ∷ l) = ap suc (pairs-length b (even_part l) ∙ even-length l) ∙ two (length l)
  where
    two : (n : ℕ) → suc (n / 2 * 2) ≡ suc (suc n) / 2 * 2 - 1
    two n = omega arith

pub fake-count : (d : ℕ) (l : List Fractal) → length (create_fake_bis d l) ≡ fake_count (length l)
unfolding create_fake_bis
fake-count d l = length-map (fakes l) (fake_of d) ∙ fakes-length l

-- ---- a fake stroke that the code has made, by the mark of its first fractal

module _ (places : ℕ) (m : Mark) (a b : Candle) (d : Direction) (t u : ℤ) (h l p : Float) (ed : d ≡ direction_of m) (et : t ≡ a.time) (eu : u ≡ b.time) (ep : p ≡ round_to places (sub binary64 h l)) where
  pub up_made : m ≡ D → h ≡ b.high → l ≡ a.low → record { direction = d; sdt = t; edt = u; high = h; low = l; power = p } ≡ fake_of_two places m a b
  unfolding fake_of_two direction_of
  up_made e x y =
      (λ i. record { direction = (ed ∙ ap direction_of e) i; sdt = et i; edt = eu i; high = x i; low = y i; power = (ep ∙ (λ j. round_to places (sub binary64 (x j) (y j)))) i })
      ∙ sym (ap (λ (k : Mark). fake_of_two places k a b) e)

  pub down_made : m ≡ G → h ≡ a.high → l ≡ b.low → record { direction = d; sdt = t; edt = u; high = h; low = l; power = p } ≡ fake_of_two places m a b
  unfolding fake_of_two direction_of
  down_made e x y =
      (λ i. record { direction = (ed ∙ ap direction_of e) i; sdt = et i; edt = eu i; high = x i; low = y i; power = (ep ∙ (λ j. round_to places (sub binary64 (x j) (y j)))) i })
      ∙ sym (ap (λ (k : Mark). fake_of_two places k a b) e)
