-- Marked instances 8, 10 and 12 with other numbers of decimal places (document 02, request two): computed, as Marked is. The Rust's rounding to so many places, of the same
-- unrounded numbers, gives the same (oracle/marked).
use Rattle.std.specs.Prelude.{ℕ, ◌≡◌, refl, false, List, [], ◌∷◌, map, Float}
use Rattle.bars.specs.Gaps as Gaps
use Rattle.bars.specs.Bars.{own, row_of}
use Rattle.bars.specs.Gaps.{gaps_of}
use Rattle.machine.specs.declared.Mark.TheVariants.{D, G}
use Rattle.machine.specs.Feed.{Step}
use Rattle.reports.specs.Measures.{measures_of}
use Rattle.zones.specs.FakeStrokes.{create_fake_bis}
use Rattle.instances.specs.Marked.{num, ratio, candle, bar, between, first, fed}
use Rattle.instances.specs.MovedMarked.{fractal_at}

-- power price, change, power SNR and SNR of each kept stroke, with these places for power and for ratios
unfoldable pub rounded : ℕ → ℕ → Step → List (Float × Float × Float × Float)
unfolding measures_of
rounded power ratios s =
    map (λ b. let m = measures_of power ratios s.state.raw b in (m.power_price, m.change, m.power_snr, m.snr)) s.state.strokes

-- the power of a stroke from 10 to 12.375, and of the fake stroke between the same two fractals
unfoldable pub powers : ℕ → List Float
unfolding measures_of create_fake_bis fractal_at between num ratio
powers d =
    let a = fractal_at D (num 10) in
    let z = fractal_at G (ratio 99 8) in
    (measures_of d 4 [] (between a z)).power_price ∷ map (λ f. f.power) (create_fake_bis d (a ∷ z ∷ []))

pub record PlacesMarked : Type 0 where
  -- instance 8, power 9, change 1.125, SNR 9/10. Places for ratios: 0, 1, 2. The places for power change nothing here, and SNR is never rounded
  pub ratios_0 : rounded 6 0 (fed 7 first) ≡ (num 9, num 1, num 1, ratio 9 10) ∷ []
  pub ratios_1 : rounded 0 1 (fed 7 first) ≡ (num 9, ratio 11 10, ratio 9 10, ratio 9 10) ∷ []
  pub ratios_2 : rounded 0 2 (fed 7 first) ≡ (num 9, ratio 113 100, ratio 9 10, ratio 9 10) ∷ []
  -- 12.375 - 10 = 2.375 to 0, 1, 2 and 3 places
  pub power_0 : powers 0 ≡ num 2 ∷ num 2 ∷ []
  pub power_1 : powers 1 ≡ ratio 24 10 ∷ ratio 24 10 ∷ []
  pub power_2 : powers 2 ≡ ratio 238 100 ∷ ratio 238 100 ∷ []
  pub power_3 : powers 3 ≡ ratio 19 8 ∷ ratio 19 8 ∷ []
  -- instance 12's gap, 10 to 11, to 0 places, and one from 3 to 4 to 6 places
  pub gap_0 : gaps_of 0 (map row_of (bar 1 10 8 ∷ bar 2 12 11 ∷ [])) ≡ Gaps.Up (num 10) (num 11) (num 0) false ∷ []
  pub gap_6 : gaps_of 6 (map row_of (bar 1 3 2 ∷ bar 2 5 4 ∷ [])) ≡ Gaps.Up (num 3) (num 4) (ratio 333333 1000000) false ∷ []

pub places-marked : PlacesMarked
unfolding rounded powers fractal_at num ratio candle bar between first fed own measures_of create_fake_bis gaps_of row_of
places-marked =
    record {
      ratios_0 = refl;
      ratios_1 = refl;
      ratios_2 = refl;
      power_0 = refl;
      power_1 = refl;
      power_2 = refl;
      power_3 = refl;
      gap_0 = refl;
      gap_6 = refl;
    }
