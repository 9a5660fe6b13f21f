-- What demand 3 claims of kept strokes does not see the elements of fractals' bars: it holds of strokes without them where it holds of the strokes.
-- Assumes nothing.
use Prim.Native.Nat.{ℕ, ◌%◌}
use mathlib.Core.Path.{◌≡◌, refl, ap, sym, ◌∙◌, subst}
use mathlib.Core.List.{List, [], ◌∷◌, map}
use mathlib.Core.Logic.{◌⊎◌, inl, inr}
use lib.ListN.{length-map}
use Rattle.bars.specs.Lists.{All}
use Rattle.machine.specs.declared.Mark.{Mark}
use Rattle.machine.specs.declared.Mark.TheVariants.{D, G}
use Rattle.machine.specs.Fractals.{Fractal, time_of, fx_of}
use Rattle.machine.specs.Strokes.{Stroke}
use Rattle.machine.specs.Break.{high_of, low_of}
use Rattle.machine.specs.KeptStrokes.{LessExtreme, Meets, MeetAll}
use Rattle.strokes.specs.StateRead.{bare_bar, bare_fractal, bare_stroke}
use Rattle.zones.specs.FakeStrokes.{Fake, even_part, pairs, fakes, fake_direction, fake_with, fake_from, fake_of, create_fake_bis, Runs, FakesOf}
use Rattle.zones.specs.Zones.{summary}
use Rattle.zones.specs.Claims.{Inside}
use Rattle.zones.proofs.FakeStrokesRun.{fakes-told, fakes-count}

-- ---- zones read summaries

summary_bare : (b : Stroke) → summary (bare_stroke b) ≡ summary b
unfolding summary high_of low_of time_of bare_stroke bare_fractal bare_bar
summary_bare b = refl

pub summaries_bare : (bs : List Stroke) → map summary (map bare_stroke bs) ≡ map summary bs
summaries_bare [] = refl
summaries_bare (b ∷ bs) = λ i. summary_bare b i ∷ summaries_bare bs i

-- ---- fake strokes

abbrev bare_fake : Fake → Fake
bare_fake f = record { first = bare_fractal f.first; second = bare_fractal f.second }

even_bare : (l : List Fractal) → even_part (map bare_fractal l) ≡ map bare_fractal (even_part l)
unfolding even_part
even_bare [] = refl
even_bare (a ∷ []) = refl
even_bare (a ∷ b ∷ l) = ap (λ (r : List Fractal). bare_fractal a ∷ bare_fractal b ∷ r) (even_bare l)

pairs_bare : (l : List Fractal) → pairs (map bare_fractal l) ≡ map bare_fake (pairs l)
unfolding pairs
pairs_bare [] = refl
pairs_bare (a ∷ []) = refl
pairs_bare (a ∷ b ∷ l) = ap (λ (r : List Fake). record { first = bare_fractal a; second = bare_fractal b } ∷ r) (pairs_bare (b ∷ l))

fakes_bare : (l : List Fractal) → fakes (map bare_fractal l) ≡ map bare_fake (fakes l)
unfolding fakes
fakes_bare l = ap pairs (even_bare l) ∙ pairs_bare (even_part l)

runs_bare : (a z : Fractal) (l : List Fake) → Runs a l z → Runs (bare_fractal a) (map bare_fake l) (bare_fractal z)
unfolding bare_fractal
runs_bare a z [] r = ap bare_fractal r
runs_bare a z (f ∷ l) r = (ap bare_fractal r.0, r.1, runs_bare f.second z l r.2)

fakes_of_bare : (a z : Fractal) (l : List Fractal) → FakesOf a z (fakes l) → FakesOf (bare_fractal a) (bare_fractal z) (fakes (map bare_fractal l))
fakes_of_bare a z l f =
    subst (λ (r : List Fake). FakesOf (bare_fractal a) (bare_fractal z) r) (sym (fakes_bare l))
    (record { odd = ap (λ n. n % 2) (length-map (fakes l) bare_fake) ∙ f.odd; runs = runs_bare a z (fakes l) f.runs })

-- ---- the end

less_bare : (e x : Fractal) → LessExtreme e x → LessExtreme (bare_fractal e) (bare_fractal x)
unfolding bare_fractal bare_bar time_of fx_of
less_bare e x h = record { less = λ m. by (h.less m) }
  where
    by : {P : Type 0} → (x ≡ e) ⊎ P → (bare_fractal x ≡ bare_fractal e) ⊎ P
    by (inl p) = inl (ap bare_fractal p)
    by (inr p) = inr p

extreme_bare : (e : Fractal) (l : List Fractal) → All (LessExtreme e) l → All (LessExtreme (bare_fractal e)) (map bare_fractal l)
extreme_bare e [] h = tt
extreme_bare e (x ∷ l) h = (less_bare e x h.0, extreme_bare e l h.1)

inside_bare : (b : Stroke) → Inside b → Inside (bare_stroke b)
unfolding bare_stroke
inside_bare b h =
    let f = fakes_of_bare b.start b.end b.fractals h.fake in
    record {
      fake = f;
      count = λ d. fakes-count d (bare_fractal b.start) (bare_fractal b.end) (map bare_fractal b.fractals) f;
      told = λ d. fakes-told d (bare_fractal b.start) (bare_fractal b.end) (map bare_fractal b.fractals) f;
      extreme = extreme_bare b.end b.fractals h.extreme;
    }

pub all-inside_bare : (bs : List Stroke) → All Inside bs → All Inside (map bare_stroke bs)
all-inside_bare [] h = tt
all-inside_bare (b ∷ bs) h = (inside_bare b h.0, all-inside_bare bs h.1)

-- the fake strokes that are answered are the same
fake-from_bare : (d : ℕ) (m : Mark) (f : Fake) → fake_from d m (bare_fake f) ≡ fake_from d m f
unfolding fake_from fake_with fake_direction time_of bare_fractal bare_bar
fake-from_bare d D f = refl
fake-from_bare d G f = refl

fake_of_bare : (d : ℕ) (f : Fake) → fake_of d (bare_fake f) ≡ fake_of d f
unfolding fake_of bare_fractal
fake_of_bare d f = fake-from_bare d f.first.mark f

answered_bare : (d : ℕ) (l : List Fake) → map (fake_of d) (map bare_fake l) ≡ map (fake_of d) l
answered_bare d [] = refl
answered_bare d (f ∷ l) = λ i. fake_of_bare d f i ∷ answered_bare d l i

pub create_bare : (d : ℕ) (l : List Fractal) → create_fake_bis d (map bare_fractal l) ≡ create_fake_bis d l
unfolding create_fake_bis
create_bare d l = ap (map (fake_of d)) (fakes_bare l) ∙ answered_bare d (fakes l)

-- ---- neighbours

meets_bare : (f g : Fractal) → Meets f g → Meets (bare_fractal f) (bare_fractal g)
unfolding time_of fx_of bare_fractal bare_bar
meets_bare f g h = record { time = h.time; mark = h.mark; high = h.high; low = h.low; fx = h.fx }

pub meet-all_bare : (bs : List Stroke) → MeetAll bs → MeetAll (map bare_stroke bs)
unfolding bare_stroke bare_fractal
meet-all_bare [] h = tt
meet-all_bare (b ∷ []) h = tt
meet-all_bare (b ∷ b' ∷ bs) h = (meets_bare b.end b'.start h.0, h.1, meet-all_bare (b' ∷ bs) h.2)
