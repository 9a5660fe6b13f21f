-- Fake strokes that are read off the rows are those of create_fake_bis.
-- Assumes nothing.
use Prim.Native.Nat.{ℕ, zero, suc, ◌+◌, ◌-◌, ◌*◌, ◌/◌, ◌≤◌, ◌<◌}
use native.Mathlib.Omega.{arith}
use mathlib.Core.Path.{◌≡◌, refl, ap, sym, ◌∙◌}
use mathlib.Core.List.{List, [], ◌∷◌, map}
use lib.ListN.{length, take, get_or, set}
use Rattle.machine.specs.Fractals.{Fractal}
use Rattle.machine.specs.declared.Mark.{Mark}
use Rattle.check_bi.specs.declared.check_fx.Candle.{Candle}
use Rattle.strokes.specs.declared.Stand.{Stand}
use Rattle.strokes.specs.StateRead.{no_fractal, total}
use Rattle.strokes.specs.Lent.{FractalStore}
use Rattle.strokes.specs.Code.StrokeSteps.{SizedFractals, RoomFractals}
use Rattle.strokes.specs.FractalRows.{row_mark}
use Rattle.zones.specs.declared.FakeStroke.{FakeStroke}
use Rattle.zones.specs.FakeStrokes.{Fake, even_part, pairs, fakes, fake_of, create_fake_bis}
use Rattle.zones.specs.Code.FakeOfTwo.{fake_of_two, fake_count}
use Rattle.zones.specs.Code.StrokesRead.{stroke_place, fractal_number, items_from, StrokeStands}
use Rattle.named.specs.Code.NamedRows.{mark_at, middle_at}
use Rattle.zones.specs.FakeRows.{fake_times, fake_prices, fake_code, FakeColumns, fake_columns, put_fakes}
use Rattle.zones.specs.Code.FakeSteps.{fake_at, read_fakes}
use Rattle.zones.specs.declared.lent_rows.RowsMut.{RowsMut}
use Rattle.zones.specs.Columns.{fakes_of, RoomRows}
use Rattle.zones.proofs.FakesOfTwo.{fake_of-two, even-length}
use Rattle.zones.proofs.StrokesReadLaws.{fractals_at, mark-at, middle-at, fractals-length}
use Rattle.zones.proofs.Items.{items_same, items_map, put_none, row-turn}

-- the fake of the fractals at places j and j + 1
abbrev fake_among : List Fractal → ℕ → Fake
fake_among l j = record { first = get_or l j no_fractal; second = get_or l (j + 1) no_fractal }

pairs_items : (a : Fractal) (l : List Fractal) → pairs (a ∷ l) ≡ items_from (fake_among (a ∷ l)) 0 (length l)
unfolding pairs items_from
pairs_items a [] = refl
pairs_items a (b ∷ l) =
    ap (λ (x : List Fake). record { first = a; second = b } ∷ x)
    (pairs_items b l ∙ items_same (fake_among (b ∷ l)) (fake_among (a ∷ b ∷ l)) 0 1 (length l) (λ j h. shift j))
  where
    shift : (j : ℕ) → fake_among (b ∷ l) (0 + j) ≡ fake_among (a ∷ b ∷ l) (1 + j)
    shift j =
        let x : 0 + j ≡ j = omega arith in
        let y : 1 + j ≡ suc j = omega arith in
        let z : suc (j + 1) ≡ 1 + j + 1 = omega arith in
        ap (fake_among (b ∷ l)) x ∙ (λ i. record { first = get_or (a ∷ b ∷ l) (sym y i) no_fractal; second = get_or (a ∷ b ∷ l) (z i) no_fractal })

pairs-all : (l : List Fractal) → pairs l ≡ items_from (fake_among l) 0 (length l - 1)
unfolding pairs items_from
pairs-all [] = refl
pairs-all (a ∷ l) = let e : length l ≡ length (a ∷ l) - 1 = omega arith in pairs_items a l ∙ ap (items_from (fake_among (a ∷ l)) 0) e

even-at : (l : List Fractal) (j : ℕ) → j < length (even_part l) → get_or (even_part l) j no_fractal ≡ get_or l j no_fractal
unfolding even_part
even-at [] j h = refl
even-at (a ∷ []) j h = let w : ⊥ = omega arith in absurd w
even-at (a ∷ b ∷ l) zero h = refl
even-at (a ∷ b ∷ l) (suc zero) h = refl
even-at (a ∷ b ∷ l) (suc (suc j)) h = even-at l j (omega arith)

fakes_items : (l : List Fractal) → fakes l ≡ items_from (fake_among l) 0 (fake_count (length l))
unfolding fakes fake_count
fakes_items l =
    let n = length (even_part l) in
    let e : n - 1 ≡ length l / 2 * 2 - 1 = ap (λ (x : ℕ). x - 1) (even-length l) in
    pairs-all (even_part l)
    ∙ items_same (fake_among (even_part l)) (fake_among l) 0 0 (n - 1)
    (λ j h. λ i. record { first = even-at l (0 + j) (omega arith) i; second = even-at l (0 + j + 1) (omega arith) i })
    ∙ ap (items_from (fake_among l) 0) e

pub fakes_read_lem : (d : ℕ) (l : List Fractal) → create_fake_bis d l ≡ items_from (λ (j : ℕ). fake_of d (fake_among l j)) 0 (fake_count (length l))
unfolding create_fake_bis
fakes_read_lem d l = ap (map (fake_of d)) (fakes_items l) ∙ items_map (fake_of d) (fake_among l) 0 (fake_count (length l))

count_less : (m : ℕ) → 1 ≤ m → fake_count m + 1 ≤ m
unfolding fake_count
count_less m h = omega arith

-- those of a kept stroke
pub fakes_are : (s : Stand) (f : FractalStore) (n i : ℕ) → SizedFractals f n → StrokeStands s f i → read_fakes s f i ≡ create_fake_bis s.power_places (fractals_at s f i)
unfolding read_fakes fake_at
fakes_are s f n i z h =
    let places = s.power_places in
    let l = fractals_at s f i in
    let a = stroke_place s i in
    let m = fractal_number s i in
    let less = count_less m h.some in
    items_same (fake_at places f) (λ (j : ℕ). fake_of places (fake_among l j)) a 0 (fake_count m)
    (λ j t.
    let e : a + j + 1 ≡ a + (j + 1) = omega arith in
    let d : j ≡ 0 + j = omega arith in
    ap (λ (x : ℕ). fake_of_two places (mark_at f (a + j)) (middle_at f (a + j)) (middle_at f x)) e
    ∙ (λ x. fake_of_two places (sym (mark-at s f n i z h j (omega arith)) x) (sym (middle-at s f n i z h j (omega arith)) x) (sym (middle-at s f n i z h (j + 1) (omega arith)) x))
    ∙ fake_of-two places (fake_among l j)
    ∙ ap (λ (x : ℕ). fake_of places (fake_among l x)) d)
    ∙ ap (items_from (λ (j : ℕ). fake_of places (fake_among l j)) 0) (ap fake_count (sym (fractals-length s f n i z h)))
    ∙ sym (fakes_read_lem places l)

-- ---- writing them

-- a fake stroke that the code has read
pub fake_read_lem : (places : ℕ) (f : FractalStore) (p : ℕ) (m : Mark) (a b : Candle) (r : FakeStroke) → m ≡ row_mark (get_or f.prices p []) → a ≡ middle_at f p → b ≡ middle_at f (p + 1) → r ≡ fake_of_two places m a b → r ≡ fake_at places f p
unfolding fake_at mark_at
fake_read_lem places f p m a b r em ea eb er = er ∙ (λ i. fake_of_two places (em i) (ea i) (eb i))

-- the columns d after the first j
pub writing-none : (places : ℕ) (f : FractalStore) (p : ℕ) (d : FakeColumns) → d ≡ put_fakes d (items_from (fake_at places f) p 0)
unfolding put_fakes items_from
writing-none places f p d = λ i. fake_columns (put_none d.times i) (put_none d.prices i) (put_none d.codes i)

pub writing-turn : (places : ℕ) (f : FractalStore) (p j n : ℕ) (d w w' : RowsMut 3 ℕ) (k : FakeStroke) → RoomRows d n → j < n → fakes_of w ≡ put_fakes (fakes_of d) (items_from (fake_at places f) p j) → k ≡ fake_at places f (p + j)
    → w'.times.now ≡ set w.times.now j (fake_times k)
    → w'.prices.now ≡ set w.prices.now j (fake_prices k)
    → w'.kinds.now ≡ set w.kinds.now j (fake_code k)
    → fakes_of w' ≡ put_fakes (fakes_of d) (items_from (fake_at places f) p (j + 1))
unfolding put_fakes
writing-turn places f p j n d w w' k room h c e t q u =
    let g1 = room.times in
    let g2 = room.prices in
    let g3 = room.kinds in
    λ i.
    fake_columns
    ((t ∙ row-turn fake_times (fake_at places f) d.times.now w.times.now p j (fake_times k) (ap (λ (x : FakeColumns). x.times) c) (omega arith) (ap fake_times e)) i)
    ((q ∙ row-turn fake_prices (fake_at places f) d.prices.now w.prices.now p j (fake_prices k) (ap (λ (x : FakeColumns). x.prices) c) (omega arith) (ap fake_prices e)) i)
    ((u ∙ row-turn fake_code (fake_at places f) d.kinds.now w.kinds.now p j (fake_code k) (ap (λ (x : FakeColumns). x.codes) c) (omega arith) (ap fake_code e)) i)

-- those of a stroke, by the numbers that the code has computed
pub put_done : (s : Stand) (f : FractalStore) (i place n : ℕ) (d w : FakeColumns) → place ≡ total (take i s.bars) → n ≡ fake_count (get_or s.fractals i 0)
    → w ≡ put_fakes d (items_from (fake_at s.power_places f) place n) → w ≡ put_fakes d (read_fakes s f i)
unfolding read_fakes stroke_place fractal_number
put_done s f i place n d w ep en e = e ∙ (λ j. put_fakes d (items_from (fake_at s.power_places f) (ep j) (en j)))

pub rows_fit : (s : Stand) (f : FractalStore) (i place n : ℕ) → StrokeStands s f i → place ≡ total (take i s.bars) → n ≡ fake_count (get_or s.fractals i 0) → RoomFractals f (place + n + 1)
unfolding stroke_place fractal_number
rows_fit s f i place n h ep en =
    let a = h.stamps in
    let b = h.prices in
    let less = count_less (get_or s.fractals i 0) h.some in
    record { stamps = omega arith; prices = omega arith }
