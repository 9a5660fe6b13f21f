-- A state without the elements of fractals' bars: taking them away twice is taking them away once, and a state that is read off lent stores has none.
-- Assumes nothing.
use Prim.Native.Nat.{ℕ, zero, suc, ◌-◌, ◌*◌, ◌/◌}
use mathlib.Core.Path.{◌≡◌, refl, ap, sym, ◌∙◌}
use mathlib.Core.Bool.{Bool, ◌&&◌, ◌||◌}
use mathlib.Core.List.{List, [], ◌∷◌, map}
use mathlib.Core.Option
use lib.ListN.{length, take, drop, get_or, get_or-map}
use lib.IntN.{ℤ}
use lib.Ieee.{Float}
use Rattle.bars.specs.Bars.{Merged}
use Rattle.bars.specs.Lists.{last, init, every, some_of}
use Rattle.stores.specs.Stores.{zip_with, merged_bars}
use Rattle.stores.proofs.KeptBars.{map-take}
use Rattle.machine.specs.Fractals.{Fractal}
use Rattle.machine.specs.Strokes.{Stroke}
use Rattle.machine.specs.Stand.{State}
use Rattle.strokes.specs.declared.Stand.{Stand}
use Rattle.strokes.specs.StateRead.{row_bar, fractal_of, row_fractal, stored_fractals, no_fractal, stroke_with, strokes_with, bar_counts, fractal_counts, state_of, bare_bar, bare_fractal, bare_stroke, bare_state}
use Rattle.strokes.specs.Lent.{Stores, FractalStore}

-- ---- lists that are changed element by element

module _ {A B : Type 0} (f : A → B) where
  pub last-map : (l : List A) → last (map f l) ≡ Option.map f (last l)
  unfolding last
  last-map [] = refl
  last-map (a ∷ []) = refl
  last-map (a ∷ b ∷ l) = last-map (b ∷ l)

  pub init-map : (l : List A) → init (map f l) ≡ map f (init l)
  unfolding init
  init-map [] = refl
  init-map (a ∷ []) = refl
  init-map (a ∷ b ∷ l) = ap (λ (r : List B). f a ∷ r) (init-map (b ∷ l))

  pub map-drop : (n : ℕ) (l : List A) → map f (drop n l) ≡ drop n (map f l)
  map-drop zero l = refl
  map-drop (suc n) [] = refl
  map-drop (suc n) (a ∷ l) = map-drop n l

  -- a test that does not see the change
  pub every_map : (p : B → Bool) (q : A → Bool) → ((a : A) → p (f a) ≡ q a) → (l : List A) → every p (map f l) ≡ every q l
  unfolding every
  every_map p q h [] = refl
  every_map p q h (a ∷ l) = λ i. h a i && every_map p q h l i

  pub some-map : (p : B → Bool) (q : A → Bool) → ((a : A) → p (f a) ≡ q a) → (l : List A) → some_of p (map f l) ≡ some_of q l
  unfolding some_of
  some-map p q h [] = refl
  some-map p q h (a ∷ l) = λ i. h a i || some-map p q h l i

-- a change that, made twice, is made once
twice : {A : Type 0} (f : A → A) → ((a : A) → f (f a) ≡ f a) → (l : List A) → map f (map f l) ≡ map f l
twice f h [] = refl
twice f h (a ∷ l) = λ i. h a i ∷ twice f h l i

-- ---- twice

fractal-twice : (f : Fractal) → bare_fractal (bare_fractal f) ≡ bare_fractal f
unfolding bare_fractal bare_bar
fractal-twice f = refl

stroke-twice : (b : Stroke) → bare_stroke (bare_stroke b) ≡ bare_stroke b
unfolding bare_stroke
stroke-twice b =
    λ i. record {
      start = fractal-twice b.start i;
      end = fractal-twice b.end i;
      fractals = twice bare_fractal fractal-twice b.fractals i;
      bars = b.bars;
    }

pub strokes-twice : (bs : List Stroke) → map bare_stroke (map bare_stroke bs) ≡ map bare_stroke bs
strokes-twice bs = twice bare_stroke stroke-twice bs

pub bare_twice : (s : State) → bare_state (bare_state s) ≡ bare_state s
unfolding bare_state
bare_twice s = λ i. record { raw = s.raw; unfinished = s.unfinished; strokes = strokes-twice s.strokes i }

-- ---- what stores hold

row_bare : (t : List ℤ) (p : List Float) → bare_fractal (row_fractal t p) ≡ row_fractal t p
unfolding row_fractal fractal_of row_bar bare_fractal bare_bar
row_bare t p = refl

rows_bare : (ts : List (List ℤ)) (ps : List (List Float)) → map bare_fractal (zip_with row_fractal ts ps) ≡ zip_with row_fractal ts ps
unfolding zip_with
rows_bare [] ps = refl
rows_bare (t ∷ ts) [] = refl
rows_bare (t ∷ ts) (p ∷ ps) = λ i. row_bare t p i ∷ rows_bare ts ps i

fractals_bare : (s : FractalStore) → map bare_fractal (stored_fractals s) ≡ stored_fractals s
unfolding stored_fractals
fractals_bare s = rows_bare s.stamps s.prices

-- a fractal of a list without elements, also where there is none
at_bare : (fs : List Fractal) (n : ℕ) → map bare_fractal fs ≡ fs → bare_fractal (get_or fs n no_fractal) ≡ get_or fs n no_fractal
unfolding no_fractal
at_bare fs n h = sym (get_or-map bare_fractal fs n no_fractal) ∙ (λ i. get_or (h i) n (row_bare [] [] i))

stroke_bare : (fs : List Fractal) (ks : List Merged) → map bare_fractal fs ≡ fs → bare_stroke (stroke_with fs ks) ≡ stroke_with fs ks
unfolding stroke_with bare_stroke
stroke_bare fs ks h =
    λ i. record { start = at_bare fs 0 h i; end = at_bare fs (2 * (length fs / 2) - 1) h i; fractals = h i; bars = ks }

strokes_bare : (ns ms : List ℕ) (ks : List Merged) (fs : List Fractal) → map bare_fractal fs ≡ fs
    → map bare_stroke (strokes_with ns ms ks fs) ≡ strokes_with ns ms ks fs
unfolding strokes_with
strokes_bare [] ms ks fs h = refl
strokes_bare (n ∷ ns) [] ks fs h = refl
strokes_bare (n ∷ ns) (m ∷ ms) ks fs h =
    let a : map bare_fractal (take m fs) ≡ take m fs = map-take bare_fractal m fs ∙ ap (take m) h in
    let d : map bare_fractal (drop n fs) ≡ drop n fs = map-drop bare_fractal n fs ∙ ap (drop n) h in
    λ i. stroke_bare (take m fs) (take n ks) a i ∷ strokes_bare ns ms (drop n ks) (drop n fs) d i

pub stored_bare : (s : Stand) (m : Stores) → bare_state (state_of s m) ≡ state_of s m
unfolding state_of bare_state
stored_bare s m =
    let n = strokes_bare (bar_counts s) (fractal_counts s) (merged_bars m.strokes) (stored_fractals m.fractals) (fractals_bare m.fractals) in
    λ i. record { raw = (state_of s m).raw; unfinished = (state_of s m).unfinished; strokes = n i }
