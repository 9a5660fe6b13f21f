-- The fake strokes of an alternating list that begins on a and ends on b, or on one fractal more, run from a to b and are odd in number.
-- Assumes nothing.
use Prim.Native.Nat.{ℕ, ◌%◌}
use native.Mathlib.Omega.{arith}
use mathlib.Core.Path.{◌≡◌, refl, ap, sym, ◌∙◌, subst}
use mathlib.Core.Bool.{not}
use mathlib.Core.List.{List, [], ◌∷◌, ◌++◌, map}
use mathlib.Core.Option.{Option, some}
use lib.ListN.{length, length-map}
use lib.Dec.{T}
use Rattle.machine.specs.declared.Mark.{Mark}
use Rattle.machine.specs.declared.Mark.TheVariants.{D, G}
use Rattle.machine.specs.Fractals.{Fractal, time_of, same_mark, taken}
use Rattle.machine.specs.Strokes.{direction_of, turned}
use Rattle.machine.proofs.FewerFractals.{Alternate}
use Rattle.machine.proofs.Facts.{AtMostOne, nothing, one}
use Rattle.machine.proofs.Marks.{back, not_same}
use Rattle.zones.specs.FakeStrokes.{Fake, even_part, pairs, fakes, fake_direction, fake_with, fake_from, fake_of, create_fake_bis, Runs, FakesOf}
use Rattle.zones.specs.Claims.{FakeChain}

even-rest : {t : List Fractal} → AtMostOne t → even_part t ≡ []
unfolding even_part
even-rest nothing = refl
even-rest (one c) = refl

-- the even part of a list that goes on after m begins with m
even_head : (m : Fractal) (mid : List Fractal) (b : Fractal) (t : List Fractal) → (r : List Fractal) × (even_part (m ∷ mid ++ b ∷ t) ≡ m ∷ r)
unfolding even_part
even_head m [] b t = (b ∷ even_part t, refl)
even_head m (x ∷ mid) b t = (x ∷ even_part (mid ++ b ∷ t), refl)

-- two fake strokes more in front
pairs-two : (a m n : Fractal) (e r : List Fractal) → e ≡ n ∷ r → pairs (a ∷ m ∷ e) ≡ record { first = a; second = m } ∷ record { first = m; second = n } ∷ pairs e
unfolding pairs
pairs-two a m n e r h = rw h

more : (a m n b : Fractal) (l : List Fake) → T (not (same_mark a.mark m.mark)) → T (not (same_mark m.mark n.mark))
    → FakesOf n b l → FakesOf a b (record { first = a; second = m } ∷ record { first = m; second = n } ∷ l)
unfolding same_mark
more a m n b l h k f = record { odd = omega (arith, f.odd); runs = (refl, h, (refl, k, f.runs)) }

pub fakes_of_lem : (a : Fractal) (mid : List Fractal) (b : Fractal) (t : List Fractal) → AtMostOne t → (p : Option Mark) → Alternate p (a ∷ mid ++ b ∷ t)
    → T (not (same_mark a.mark b.mark)) → FakesOf a b (fakes (a ∷ mid ++ b ∷ t))
unfolding fakes even_part pairs same_mark taken
fakes_of_lem a [] b t h p alt d = rw (even-rest h) (record { odd = refl; runs = (refl, d, refl) })
fakes_of_lem a (m ∷ []) b t h p alt d = absurd (not_same a.mark b.mark d (back a.mark m.mark b.mark alt.1.0 alt.1.1.0))
fakes_of_lem a (m ∷ n ∷ mid) b t h p alt d =
    let e = even_head n mid b t in
    let d' : T (not (same_mark n.mark b.mark)) = rw (back a.mark m.mark n.mark alt.1.0 alt.1.1.0) d in
    let f : FakesOf n b (fakes (n ∷ mid ++ b ∷ t)) = fakes_of_lem n mid b t h (some m.mark) alt.1.1 d' in
    subst (λ l. FakesOf a b l) (sym (pairs-two a m n (even_part (n ∷ mid ++ b ∷ t)) e.0 e.1)) (more a m n b (fakes (n ∷ mid ++ b ∷ t)) alt.1.0 alt.1.1.0 f)

-- ---- as they are answered

-- what is read of one
fake-from : (d : ℕ) (m : Mark) (f : Fake) → ((fake_from d m f).sdt ≡ time_of f.first) × ((fake_from d m f).direction ≡ direction_of f.first.mark) × ((fake_from d m f).edt ≡ time_of f.second)
unfolding fake_from fake_with fake_direction
fake-from d D f = (refl, refl, refl)
fake-from d G f = (refl, refl, refl)

fake_of_lem : (d : ℕ) (f : Fake) → ((fake_of d f).sdt ≡ time_of f.first) × ((fake_of d f).direction ≡ direction_of f.first.mark) × ((fake_of d f).edt ≡ time_of f.second)
unfolding fake_of
fake_of_lem d f = fake-from d f.first.mark f

turns : (m n : Mark) → T (not (same_mark m n)) → turned (direction_of m) ≡ direction_of n
unfolding same_mark turned direction_of
turns D D h = absurd h
turns D G h = refl
turns G D h = refl
turns G G h = absurd h

told-runs : (k : ℕ) (a z : Fractal) (l : List Fake) → Runs a l z → FakeChain (time_of a) (direction_of a.mark) (map (fake_of k) l) (time_of z)
told-runs k a z [] r = ap time_of r
told-runs k a z (f ∷ l) r =
    let p = fake_of_lem k f in (
      p.0 ∙ ap time_of r.0,
      p.1 ∙ ap (λ x. direction_of x.mark) r.0,
      subst (λ t. FakeChain t (turned (direction_of a.mark)) (map (fake_of k) l) (time_of z)) (sym p.2)
          (subst (λ d. FakeChain (time_of f.second) d (map (fake_of k) l) (time_of z))
          (sym (turns f.first.mark f.second.mark r.1) ∙ ap (λ x. turned (direction_of x.mark)) r.0)
          (told-runs k f.second z l r.2)),
    )

pub fakes-told : (d : ℕ) (a z : Fractal) (l : List Fractal) → FakesOf a z (fakes l) → FakeChain (time_of a) (direction_of a.mark) (create_fake_bis d l) (time_of z)
unfolding create_fake_bis
fakes-told d a z l f = told-runs d a z (fakes l) f.runs

pub fakes-count : (d : ℕ) (a z : Fractal) (l : List Fractal) → FakesOf a z (fakes l) → length (create_fake_bis d l) % 2 ≡ 1
unfolding create_fake_bis
fakes-count d a z l f = ap (λ n. n % 2) (length-map (fakes l) (fake_of d)) ∙ f.odd
