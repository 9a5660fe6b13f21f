-- The rows of zones and of their strokes, read back, are the zones.
-- Assumes nothing.
use Prim.Native.Nat.{ℕ, ◌+◌}
use mathlib.Core.Path.{◌≡◌, refl, ap, sym, ◌∙◌}
use mathlib.Core.Bool.{Bool, true, false}
use mathlib.Core.List.{List, [], ◌∷◌, ◌++◌, map}
use lib.ListN.{length, take, drop, length-map}
use lib.Seq.{take_at, take-append_seam, drop-append_seam}
use Rattle.bars.specs.Lists.{join}
use Rattle.stores.specs.Stores.{zip_with}
use Rattle.machine.specs.declared.Direction.{Direction}
use Rattle.machine.specs.declared.Direction.TheVariants.{Up, Down}
use Rattle.strokes.specs.FractalRows.{pasted}
use Rattle.zones.specs.declared.Summary.{Summary}
use Rattle.zones.specs.Zones.{Zone, get_zs_seq}
use Rattle.zones.specs.FakeRows.{direction_code}
use Rattle.zones.specs.ZoneRows.{flag, zone_times, zone_prices, zone_numbers, ZoneColumns, put_zones, stroke_times, stroke_prices, stroke_code, StrokeColumns, put_strokes}
use Rattle.zones.specs.ZonesRead.{direction_from, flag_from, stroke_from, strokes_read, zone_read, zones_from, zones_read}
use Rattle.zones.proofs.ZonesJoin.{zones-joined}

pub direction-back : (d : Direction) → direction_from (direction_code d) ≡ d
unfolding direction_from direction_code
direction-back Up = refl
direction-back Down = refl

flag-back : (b : Bool) → flag_from (flag b) ≡ b
unfolding flag_from flag
flag-back true = refl
flag-back false = refl

-- the rows in front
pub front_back : {A B : Type 0} (row : A → B) (d : List B) (l : List A) (n : ℕ) → n ≡ length l → take n (pasted d 0 (map row l)) ≡ map row l
unfolding pasted
front_back row d l n e = take_at (map row l) (drop (0 + length (map row l)) d) n (length-map l row ∙ sym e)

-- items of three columns, a row of each to an item
pub rows_back : {A T P C : Type 0} (make : T → P → C → A) (t : A → T) (p : A → P) (c : A → C) → ((a : A) → make (t a) (p a) (c a) ≡ a) → (l : List A)
    → zip_with (λ g d. g d) (zip_with make (map t l) (map p l)) (map c l) ≡ l
unfolding zip_with
rows_back make t p c h [] = refl
rows_back make t p c h (a ∷ l) = λ i. h a i ∷ rows_back make t p c h l i

stroke-back : (b : Summary) → stroke_from (stroke_times b) (stroke_prices b) (stroke_code b) ≡ b
unfolding stroke_from stroke_times stroke_prices stroke_code
stroke-back b = λ i. record { direction = direction-back b.direction i; high = b.high; low = b.low; began = b.began; ended = b.ended }

zone-back : (z : Zone) (rest : List Summary) → zone_read (zone_times z) (zone_prices z) (zone_numbers z) (z.strokes ++ rest) ≡ z
unfolding zone_read zone_times zone_prices zone_numbers
zone-back z rest =
    λ i.
    record {
      sdt = z.sdt;
      edt = z.edt;
      sdir = direction-back z.sdir i;
      edir = direction-back z.edir i;
      zg = z.zg;
      zd = z.zd;
      zz = z.zz;
      gg = z.gg;
      dd = z.dd;
      valid = flag-back z.valid i;
      strokes = take-append_seam z.strokes rest i;
    }

zones-back : (l : List Zone) → zones_from (map zone_times l) (map zone_prices l) (map zone_numbers l) (join (map (λ z. z.strokes) l)) ≡ l
unfolding zones_from zone_numbers join
zones-back [] = refl
zones-back (z ∷ l) =
    let r = join (map (λ z. z.strokes) l) in
    λ i. zone-back z r i ∷ (ap (zones_from (map zone_times l) (map zone_prices l) (map zone_numbers l)) (drop-append_seam z.strokes r) ∙ zones-back l) i

-- what a call has written for the strokes l is read back as their zones
pub zones_read_lem : (d : ZoneColumns) (e : StrokeColumns) (l : List Summary) → zones_read (length (get_zs_seq l)) (length l) (put_zones d (get_zs_seq l)) (put_strokes e l) ≡ get_zs_seq l
unfolding zones_read put_zones put_strokes strokes_read
zones_read_lem d e l =
    let z = get_zs_seq l in
    let s : strokes_read (length l) (put_strokes e l) ≡ l =
    (λ i. zip_with (λ g d. g d) (zip_with stroke_from (front_back stroke_times e.times l (length l) refl i) (front_back stroke_prices e.prices l (length l) refl i)) (front_back stroke_code e.codes l (length l) refl i))
    ∙ rows_back stroke_from stroke_times stroke_prices stroke_code stroke-back l in
    (λ i. zones_from (front_back zone_times d.times z (length z) refl i) (front_back zone_prices d.prices z (length z) refl i) (front_back zone_numbers d.numbers z (length z) refl i) ((s ∙ sym (zones-joined l)) i))
    ∙ zones-back z
