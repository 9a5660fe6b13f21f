-- A reached state that is not sound: 211 bars, minimum 5. The last of them breaks a stroke of which no unfinished bar is from the last but one bar's time on,
-- and the newest raw bar is then no element of any unfinished bar. Computed by the machine that asks only of the newest bar; Reached says that it is the machine.
use Rattle.std.specs.Prelude.{ℕ, zero, suc, ◌≡◌, refl, true, false, List, [], ◌∷◌, ◌++◌, map, length, pos, Float}
use Rattle.std.specs.Float.{binary64}
use Rattle.std.specs.Float.Ieee.{of_int}
use Rattle.bars.specs.declared.Bar.{Bar}
use Rattle.machine.specs.Stand.{Settings}
use Rattle.machine.specs.Feed.{Step}
use Rattle.machine.specs.Soundness.{sound_but, newest_last}
use Rattle.machine.specs.NewestOnly.{calls_newest}

unfoldable pub num : ℕ → Float
unfolding of_int
num n = of_int binary64 (pos n)

-- time, high, low
unfoldable pub bar : ℕ → ℕ → ℕ → Bar
unfolding num
bar t h l = record { time = pos t; id = pos 0; «open» = num l; close = num h; high = num h; low = num l; vol = num 1; amount = num 1 }

-- n bars alike, from time t on
unfoldable pub alike : ℕ → ℕ → ℕ → ℕ → List Bar
unfolding bar
alike zero t h l = []
alike (suc n) t h l = bar t h l ∷ alike n (suc t) h l

-- all but the last bar. The top of 101 elements (times 4 to 104) ends the stroke of times 2 to 104 and is cut back to its first 100 by the bars of time 105;
-- the bottom of 101 elements after it (105 to 205) was merged downwards. At 206 that stroke breaks, the cut-back top falls out since it is earlier than 104, and the bottom, now after
-- the bar of time 3, is a top and ends the next stroke. It is merged again upwards, from its first 100 elements, and comes apart.
unfoldable pub deep : List Bar
unfolding bar alike
deep =
    (bar 1 16 8 ∷ bar 2 10 2 ∷ bar 3 14 6 ∷ bar 4 40 30 ∷ []) ++ alike 99 5 38 32
    ++ (bar 104 50 20 ∷ bar 105 24 18 ∷ bar 105 40 33 ∷ bar 105 20 10 ∷ bar 106 18 12 ∷ bar 107 19 8 ∷ []) ++ alike 97 108 18 9
    ++ bar 205 17 8 ∷ bar 206 60 52 ∷ bar 206 12 4 ∷ bar 206 16 10 ∷ []

unfoldable pub tipping : Bar
unfolding bar
tipping = bar 206 18 10

unfoldable pub five : Settings
five = record { minimum = 5; most = 50; raw_room = 1024; unfinished_room = 1024; stroke_room = 1024; power_places = 2; ratio_places = 4 }

unfoldable pub after : Step
unfolding calls_newest deep tipping five
after = calls_newest five (deep ++ tipping ∷ [])

counted : length (deep ++ tipping ∷ []) ≡ 211
unfolding deep tipping
counted = refl

-- the newest raw bar is that of time 206, and the elements of the unfinished bars are 1, 2 and 3
pub unsound_after : (newest_last after.state ≡ false) × (sound_but five after.state ≡ true) × (after.events ≡ record { made = 2; broken = 2; shed = 0 })
    × (map (λ k. k.elements) after.state.unfinished ≡ (pos 1 ∷ []) ∷ (pos 2 ∷ []) ∷ (pos 3 ∷ []) ∷ [])
unfolding after newest_last sound_but
unsound_after = (refl, refl, refl, refl)
